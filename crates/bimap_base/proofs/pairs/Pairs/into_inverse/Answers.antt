use Rattle.std.proofs.Common.{◌∙◌, arith}
use Rattle.std.specs.Vec.Iter.{into_iter_items}
use Rattle.bimap_base.proofs.Compaction.{none_left}
use Rattle.bimap_base.proofs.Inverse.{pairs_of_inverse, IsSound-inverse}
use Rattle.bimap_base.proofs.pairs.Pairs.into_inverse.Goals as goal

pub invariant_of-result : goal.invariant_of-result
invariant_of-result g c =
    let i = c.loop-slot.invariant in
    let slots = c.self.inside.slots.items in
    let seen = none_left c.loop-slot.yielded (into_iter_items c.loop-slot.slot-iterator) slots (i.whole ∙ c.into_iter-slot-iterator.ensures.into_iter_gives.0) (omega (arith, c.in-None.ensures.steps.0, c.loop-slot.slot-iterator.rest.ok)) in
    rw (i.turned, seen) (IsSound-inverse slots c.self.inside.len c.self.inside.next c.self.invariant)

pub returns-clause-ok : goal.returns-clause-ok
returns-clause-ok g c =
    let i = c.loop-slot.invariant in
    let slots = c.self.inside.slots.items in
    let seen = none_left c.loop-slot.yielded (into_iter_items c.loop-slot.slot-iterator) slots (i.whole ∙ c.into_iter-slot-iterator.ensures.into_iter_gives.0) (omega (arith, c.in-None.ensures.steps.0, c.loop-slot.slot-iterator.rest.ok)) in
    rw (i.turned, seen, ← c.self.view_is) (pairs_of_inverse slots)
