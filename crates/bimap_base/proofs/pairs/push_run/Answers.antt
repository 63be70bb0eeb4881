use Rattle.std.proofs.Common.{◌+◌, arith, refl, length, ◌∙◌, inl, inr}
use Rattle.std.proofs.lemmas.Bool.Decides.{leb_tells}
use Rattle.std.proofs.lemmas.List.{length_push}
use Rattle.bimap_base.specs.declared.pairs.Slot.TheVariants.{Free}
use Rattle.bimap_base.proofs.FreeList.{before_push, at_push, adds_none, adds_push}
use Rattle.bimap_base.proofs.pairs.push_run.Goals as goal

pub loop-slots-init : goal.loop-slots-init
loop-slots-init g c = record {
  kept = λ p _. refl;
  adds = adds_none _;
  next = λ p above below. absurd (omega (arith, above, below));
  above = omega arith;
  fits = c.requires.more;
  capacity = refl;
  room = c.requires.room;
}

pub loop-slots-preserved : goal.loop-slots-preserved
loop-slots-preserved g c =
    let slots = c.loop-slots.slots in
    let here = c.loop-slots.invariant in
    let long = slots.ok.0 in
    let longer = length_push slots.items (Free (c.len-next.result + 1)) in
    record {
      kept = λ p within. rw c.push_reserved.ensures.items (before_push slots.items _ p (omega (arith, within, here.above, long)) ∙ here.kept p within);
      adds = rw c.push_reserved.ensures.items (adds_push _ _ _ here.adds);
      next = λ p above below. rw c.push_reserved.ensures.items (elim (leb_tells (p + 1) (length slots.items)) [
        | inl w ↦ before_push slots.items _ p (omega (arith, w.1)) ∙ here.next p above (omega (arith, w.1, long))
        | inr w ↦
            at_push slots.items _ p (p + 1) (omega (arith, w.1, below, c.push_reserved.ensures.len, long)) (omega (arith, w.1, below, c.push_reserved.ensures.len, c.len-next.ensures))
      ]);
      above = omega (arith, here.above);
      fits = omega arith;
      capacity = omega (arith, here.capacity);
      room = omega arith;
    }
