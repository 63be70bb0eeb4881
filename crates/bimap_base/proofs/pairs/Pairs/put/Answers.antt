use Rattle.std.proofs.Common.{refl, ap, ◌∙◌, sym, arith, Some}
use Rattle.std.proofs.lemmas.List.{map-set, length-map}
use Rattle.std.proofs.lemmas.Option.{slice_get_within, slice_get_read}
use Rattle.bimap_base.proofs.FreeList.{first_is_free, IsSound-fill}
use Rattle.bimap_base.specs.FreeSlots.{pair_of}
use Rattle.bimap_base.proofs.pairs.Pairs.put.Goals as goal

pub invariant_of-self : goal.invariant_of-self
invariant_of-self g c =
    let free = first_is_free _ _ _ c.self.invariant (omega (arith, rw (← c.self.view_is) at c.requires.free, length-map c.self.inside.slots.items pair_of, c.self.invariant.counted)) in
    let within = slice_get_within c.self.inside.slots.items c.self.inside.next _ free.1 in
    let read = slice_get_read c.self.inside.slots.items _ c.self.inside.next _ refl within c.index_mut.ensures.value in
    rw c.replace.ensures.after (IsSound-fill _ _ c.self.inside.next c.in-Free.next c.args.left c.args.right c.self.invariant (read ∙ ap Some (sym c.replace.ensures.value ∙ c.in-Free.is)))

pub returns-clause-there : goal.returns-clause-there
returns-clause-there g c =
    let free = first_is_free _ _ _ c.self.invariant (omega (arith, rw (← c.self.view_is) at c.requires.free, length-map c.self.inside.slots.items pair_of, c.self.invariant.counted)) in
    let within = slice_get_within c.self.inside.slots.items c.self.inside.next _ free.1 in
    rw (← c.self.view_is) (omega (arith, length-map c.self.inside.slots.items pair_of))

pub returns-clause-now : goal.returns-clause-now
returns-clause-now g c = rw (← c.self.view_is, c.replace.ensures.after, map-set)

pub returns-clause-count : goal.returns-clause-count
returns-clause-count g c =
    let now = invariant_of-self g c in
    rw (← c.self.view_is) (omega (arith, now.counted, c.self.invariant.counted))

pub index_mut-requires : goal.index_mut-requires
index_mut-requires g c =
    let free = first_is_free _ _ _ c.self.invariant (omega (arith, rw (← c.self.view_is) at c.requires.free, length-map c.self.inside.slots.items pair_of, c.self.invariant.counted)) in
    omega (arith, slice_get_within c.self.inside.slots.items c.self.inside.next _ free.1, c.self.inside.slots.ok)

pub unreachable-requires : goal.unreachable-requires
unreachable-requires g c =
    let free = first_is_free _ _ _ c.self.invariant (omega (arith, rw (← c.self.view_is) at c.requires.free, length-map c.self.inside.slots.items pair_of, c.self.invariant.counted)) in
    let within = slice_get_within c.self.inside.slots.items c.self.inside.next _ free.1 in
    let read = slice_get_read c.self.inside.slots.items _ c.self.inside.next _ refl within c.index_mut.ensures.value in
    let here = c.in-Held.is in
    let was = c.replace.ensures.value in
    let listed = free.1 in
    cc
