use Rattle.std.proofs.Common.{◌≡◌, ◌≤◌, ◌∷◌, ◌++◌, [], ◌∙◌, length, ap, sym, subst, arith, append_assoc, Some, None, map, get_or}
use Rattle.std.specs.Vec.Iter.{into_iter_items}
use Rattle.std.proofs.lemmas.List.{length-map}
use Rattle.bimap_base.specs.Places.{pairs_in, compacted}
use Rattle.bimap_base.specs.Slots.{pair_count}
use Rattle.bimap_base.specs.FreeSlots.{pair_of}
use Rattle.bimap_base.proofs.Compaction.{moved_more, passed_free, room_left, all_held, all_compacted, none_left, counted_in}
use Rattle.bimap_base.proofs.pairs.Pairs.compact.Goals as goal

pub push_reserved-requires : goal.push_reserved-requires
push_reserved-requires g c =
    let i = c.loop-slot.invariant in
    let all = c.into_iter-slot-iterator.ensures.into_iter_gives.0 ∙ ap (λ v. v.items) c.replace-slots.ensures.value in
    let whole = ap (λ s. c.loop-slot.yielded ++ s ∷ into_iter_items c.next.new.self) (sym c.in-Held.is) ∙ ap (λ v. c.loop-slot.yielded ++ v) (sym c.in-Some.ensures.steps.0) ∙ i.whole ∙ all in
    let less = room_left _ _ _ c.loop-slot.self-inside.slots.items c.in-Held.left c.in-Held.right c.args.to whole i.moved (subst (λ v. pair_count v ≤ c.args.to) (sym c.self.view_is) c.requires.fits) in
    omega (arith, less, i.room, c.loop-slot.self-inside.slots.ok)

pub loop-slot-preserved-in-Held : goal.loop-slot-preserved-in-Held
loop-slot-preserved-in-Held g c =
    let i = c.loop-slot.invariant in
    record {
      moved = rw c.in-Held.is (moved_more _ _ c.loop-slot.yielded _ _ i.moved c.push_reserved.ensures.items);
      room = omega (arith, i.room, c.push_reserved.ensures.capacity);
      count = i.count;
      whole = append_assoc c.loop-slot.yielded (c.in-Some.slot ∷ []) (into_iter_items c.next.new.self) ∙ ap (λ v. c.loop-slot.yielded ++ v) (sym c.in-Some.ensures.steps.0) ∙ i.whole;
    }

pub loop-slot-preserved : goal.loop-slot-preserved
loop-slot-preserved g c =
    let i = c.loop-slot.invariant in
    record {
      moved = rw c.in-Free.is (passed_free _ c.loop-slot.yielded c.in-Free.field-0 i.moved);
      room = i.room;
      count = i.count;
      whole = append_assoc c.loop-slot.yielded (c.in-Some.slot ∷ []) (into_iter_items c.next.new.self) ∙ ap (λ v. c.loop-slot.yielded ++ v) (sym c.in-Some.ensures.steps.0) ∙ i.whole;
    }

pub push_free-requires-clause-fits : goal.push_free-requires-clause-fits
push_free-requires-clause-fits g c =
    let i = c.loop-slot.invariant in
    let slots = c.self.inside.slots.items in
    let all = c.into_iter-slot-iterator.ensures.into_iter_gives.0 ∙ ap (λ v. v.items) c.replace-slots.ensures.value in
    let seen = none_left c.loop-slot.yielded (into_iter_items c.loop-slot.slot-iterator) c.self.inside.slots.items (i.whole ∙ all) (omega (arith, c.in-None.ensures.steps.0, c.loop-slot.slot-iterator.rest.ok)) in
    let moved = i.moved ∙ ap (λ z. map Some (pairs_in (map pair_of z))) seen in
    let count = subst (λ v. pair_count v ≤ c.args.to) (sym c.self.view_is) c.requires.fits in
    omega (arith, ap length moved, length-map c.loop-slot.self-inside.slots.items pair_of, length-map (pairs_in (map pair_of slots)) Some, counted_in (map pair_of slots), count, c.loop-slot.self-inside.slots.ok)

pub invariant_of-self : goal.invariant_of-self
invariant_of-self g c =
    let i = c.loop-slot.invariant in
    let all = c.into_iter-slot-iterator.ensures.into_iter_gives.0 ∙ ap (λ v. v.items) c.replace-slots.ensures.value in
    let seen = none_left c.loop-slot.yielded (into_iter_items c.loop-slot.slot-iterator) c.self.inside.slots.items (i.whole ∙ all) (omega (arith, c.in-None.ensures.steps.0, c.loop-slot.slot-iterator.rest.ok)) in
    let moved = i.moved ∙ ap (λ z. map Some (pairs_in (map pair_of z))) seen in
    (c.push_free.ensures.grown c.loop-slot.self-inside.len _ (all_held c.loop-slot.self-inside.slots.items (map pair_of c.self.inside.slots.items) c.loop-slot.self-inside.len _ moved (i.count ∙ c.self.invariant.counted) (c.len-self-inside.ensures ∙ c.loop-slot.self-inside.slots.ok.0))).sound

pub returns-clause-ok : goal.returns-clause-ok
returns-clause-ok g c =
    let i = c.loop-slot.invariant in
    let slots = c.self.inside.slots.items in
    let new = c.push_free.new.slots in
    let all = c.into_iter-slot-iterator.ensures.into_iter_gives.0 ∙ ap (λ v. v.items) c.replace-slots.ensures.value in
    let seen = none_left c.loop-slot.yielded (into_iter_items c.loop-slot.slot-iterator) c.self.inside.slots.items (i.whole ∙ all) (omega (arith, c.in-None.ensures.steps.0, c.loop-slot.slot-iterator.rest.ok)) in
    let moved = i.moved ∙ ap (λ z. map Some (pairs_in (map pair_of z))) seen in
    let grown = c.push_free.ensures.grown c.loop-slot.self-inside.len _ (all_held c.loop-slot.self-inside.slots.items (map pair_of slots) c.loop-slot.self-inside.len _ moved (i.count ∙ c.self.invariant.counted) (c.len-self-inside.ensures ∙ c.loop-slot.self-inside.slots.ok.0)) in
    let count = subst (λ v. pair_count v ≤ c.args.to) (sym c.self.view_is) c.requires.fits in
    subst (λ v. map pair_of new.items ≡ compacted (pairs_in v) c.args.to) c.self.view_is
    (all_compacted (map pair_of new.items) (pairs_in (map pair_of slots)) c.args.to (omega (arith, count, counted_in (map pair_of slots))) (omega (arith, length-map new.items pair_of, c.push_free.ensures.long, new.ok))
    (λ k. grown.adds.kept k ∙ ap (λ z. get_or z k None) moved))
