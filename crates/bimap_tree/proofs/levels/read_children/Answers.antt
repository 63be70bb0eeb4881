use Rattle.std.proofs.Common.{arith}
use Rattle.bimap_tree.proofs.Queues.{rooted_within, left_rooted, right_rooted}
use Rattle.bimap_tree.proofs.levels.read_children.Goals as goal

pub read-node-requires : goal.read-node-requires
read-node-requires g c = rooted_within _ _ (c.requires.rooted c.loop-k.k (omega (arith, c.loop-k-test.true)))

pub read-requires : goal.read-requires
read-requires g c = rooted_within _ _ (left_rooted _ _ _ _ (c.requires.rooted c.loop-k.k (omega (arith, c.loop-k-test.true))) c.read-node.ensures.node c.in-Some-Some.is-0)

pub read-requires-in-loop-k : goal.read-requires-in-loop-k
read-requires-in-loop-k g c = rooted_within _ _ (right_rooted _ _ _ _ (c.requires.rooted c.loop-k.k (omega (arith, c.loop-k-test.true))) c.read-node.ensures.node c.in-Some-Some.is-1)
