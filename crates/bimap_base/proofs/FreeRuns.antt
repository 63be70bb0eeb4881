-- Blocks of free slots that are taken in an order of their own.
use Rattle.std.proofs.Common.{◌≡◌, ℕ, zero, suc, ◌+◌, ◌-◌, ◌≤◌, ◌<◌, List, [], ◌∷◌, ◌++◌, length, Some, slice_get, refl, sym, subst, ◌∙◌, arith}
use Rattle.std.proofs.lemmas.Option.{slice_get_within}
use Rattle.bimap_base.specs.declared.pairs.Slot.{Slot}
use Rattle.bimap_base.specs.declared.pairs.Slot.TheVariants.{Free}
use Rattle.bimap_base.specs.FreeSlots.{AddsFree, IsFreeList, IsRun, IsGrown}
use Rattle.bimap_base.proofs.FreeList.{before_push, at_push, adds_none, adds_push}

module _ {L R : Type 0} where
  pub adds_all : (first slots more : List (Slot L R)) → AddsFree first slots → AddsFree slots more → AddsFree first more
  adds_all first slots more a b = record { kept = λ place. b.kept place ∙ a.kept place; count = b.count ∙ a.count }

  -- ---- The list of free slots along a run, and after it.
  run_stays : (slots more : List (Slot L R)) (from to after : ℕ) → to ≤ length slots → ((p : ℕ) → p < length slots → slice_get more p ≡ slice_get slots p) → IsRun slots from to after → IsRun more from to after
  run_stays slots more from to after within kept r = record {
    next = λ p above below. kept p (omega (arith, within, below)) ∙ r.next p above below;
    last = λ p is. kept p (omega (arith, within, is)) ∙ r.last p is;
  }

  along_run : (slots : List (Slot L R)) (k from to after m : ℕ) → from + k + 1 ≡ to → IsRun slots from to after → IsFreeList slots m after → (n : ℕ) × (n ≡ k + 1 + m) × IsFreeList slots n from
  along_run slots zero from to after m is r p = (suc m, omega arith, (after, r.last from (omega (arith, is)), p))
  along_run slots (suc k) from to after m is r p =
      let rest : IsRun slots (from + 1) to after = record { next = λ q above below. r.next q (omega (arith, above)) below; last = r.last } in
      let (n, e, q) = along_run slots k (from + 1) to after m (omega (arith, is)) rest p in
      (suc n, omega (arith, e), (from + 1, r.next from (omega arith) (omega (arith, is)), q))

  then_on : (slots more : List (Slot L R)) (n m next : ℕ) → ((p : ℕ) → p < length slots → slice_get more p ≡ slice_get slots p) → IsFreeList slots n next → IsFreeList more m (length slots) → (t : ℕ) × (t ≡ n + m) × IsFreeList more t next
  then_on slots more zero m next kept p q = (m, omega arith, subst (λ x. IsFreeList more m x) (sym p) q)
  then_on slots more (suc n) m next kept p q =
      let (t, e, l) = then_on slots more n m p.0 kept p.2 q in
      (suc t, omega (arith, e), (p.0, kept next (slice_get_within slots next _ p.1) ∙ p.1, l))

  -- A run whose last slot stores the number of slots.
  pub grown_by_run : (first slots more : List (Slot L R)) (start end len next : ℕ) → start ≡ length slots → start < end → end ≡ length more → ((p : ℕ) → p < start → slice_get more p ≡ slice_get slots p) → AddsFree slots more → IsRun more start end end → IsGrown first slots len next → IsGrown first more len next
  grown_by_run first slots more start end len next from some long kept adds r g =
      let (m, e, p) = along_run more (end - (start + 1)) start end end 0 (omega (arith, some)) r long in
      let (t, i, l) = then_on slots more g.sound.free m next (λ p within. kept p (omega (arith, within, from))) g.sound.linked (subst (λ x. IsFreeList more m x) from p) in
      record {
        sound = record {
          counted = g.sound.counted ∙ sym adds.count;
          free = t;
          total = omega (arith, g.sound.total, e, i, from, some, long);
          linked = l;
        };
        adds = adds_all first slots more g.adds adds;
      }

  -- A block that starts with its first slot and goes on in its middle. From its end it comes back to its second slot.
  pub grown_by_block : (first slots low more : List (Slot L R)) (start middle end : ℕ) → start ≡ length slots → start + 1 < middle → middle < end
      → ((p : ℕ) → p < start + 1 → slice_get low p ≡ slice_get (slots ++ Free middle ∷ []) p) → AddsFree (slots ++ Free middle ∷ []) low → IsRun low (start + 1) middle end → middle ≡ length low
      → ((p : ℕ) → p < middle → slice_get more p ≡ slice_get low p) → AddsFree low more → IsRun more middle end (start + 1) → end ≡ length more
      → (len next : ℕ) → IsGrown first slots len next → IsGrown first more len next
  grown_by_block first slots low more start middle end from above below kept adds r longer kept_on adds_on s long len next g =
      let same : (p : ℕ) → p < length slots → slice_get more p ≡ slice_get slots p =
      λ p within. kept_on p (omega (arith, within, from, above)) ∙ kept p (omega (arith, within, from)) ∙ before_push slots (Free middle) p within in
      let enters : slice_get more (length slots) ≡ Some (Free middle) =
      kept_on (length slots) (omega (arith, from, above)) ∙ kept (length slots) (omega (arith, from)) ∙ at_push slots middle (length slots) middle refl refl in
      let all : AddsFree slots more = adds_all _ _ _ (adds_push slots slots middle (adds_none slots)) (adds_all _ _ _ adds adds_on) in
      let back : IsRun more (start + 1) middle end = run_stays low more (start + 1) middle end (omega (arith, longer)) (λ p within. kept_on p (omega (arith, within, longer))) r in
      let (n, e, p) = along_run more (middle - (start + 2)) (start + 1) middle end 0 (omega (arith, above)) back long in
      let (m, f, q) = along_run more (end - (middle + 1)) middle end (start + 1) n (omega (arith, below)) s p in
      let (t, i, l) = then_on slots more g.sound.free (suc m) next same g.sound.linked (middle, enters, q) in
      record {
        sound = record {
          counted = g.sound.counted ∙ sym all.count;
          free = t;
          total = omega (arith, g.sound.total, e, f, i, above, below, from, long);
          linked = l;
        };
        adds = adds_all first slots more g.adds all;
      }
