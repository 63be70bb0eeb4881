use Rattle.std.proofs.Common.{arith}
use Rattle.bimap_tree.proofs.Queues.{rooted_within, left_rooted, right_rooted}
use Rattle.bimap_tree.proofs.levels.enqueue_children.Goals as goal

pub read-node-requires : goal.read-node-requires
read-node-requires g c = rooted_within _ _ (c.loop-k.invariant.rooted c.loop-k.k (omega (arith, c.loop-k.invariant.least, c.loop-k-test.true)))

pub enqueue-tail-requires-clause-tree : goal.enqueue-tail-requires-clause-tree
enqueue-tail-requires-clause-tree g c =
    left_rooted _ _ _ _ (c.loop-k.invariant.rooted c.loop-k.k (omega (arith, c.loop-k.invariant.least, c.loop-k-test.true))) c.read-node.ensures.node c.in-Some-Some.is-0

pub enqueue-tail-requires-in-loop-k-clause-tree : goal.enqueue-tail-requires-in-loop-k-clause-tree
enqueue-tail-requires-in-loop-k-clause-tree g c =
    right_rooted _ _ _ _ (c.loop-k.invariant.rooted c.loop-k.k (omega (arith, c.loop-k.invariant.least, c.loop-k-test.true))) c.read-node.ensures.node c.in-Some-Some.is-1
