-- What iteration over a list of pairs shows, and what is written of it.
use Rattle.std.proofs.Common.{◌≡◌, ℕ, Bool, List, [], ◌∷◌, map, Result, Ok, Err, IfOk, OnOk, refl, sym, ap, subst, ◌∙◌}
use Rattle.std.specs.Prelude.{Contains}
use Rattle.std.specs.Cmp.{IsEquivalence}
use Rattle.std.specs.Iterator.{Drains}
use Rattle.std.specs.Map.Iter.{TakesFirst, deref_pair}
use Rattle.std.proofs.lemmas.Iterator.{items_from_drains}
use Rattle.std.proofs.lemmas.Iterator.Consumers.{YieldsList-from_rest}
use denote.Ref.{Bor}
use Rattle.serde_json.specs.Data.{Data}
use Rattle.bimap_base.specs.Sets.{IsApart}
use Rattle.bimap.specs.JsonObjects.{IsObjectOf, IsEntryOf, IsLastEntryOf, EachReadsBack, shown_pairs}
use Rattle.bimap.proofs.JsonWriting.{exactly_written}

shown_map : {L R : Type 0} (items : List (Bor L × Bor R)) → map deref_pair items ≡ shown_pairs items
shown_map [] = refl
shown_map (x ∷ items) = ap (λ ps. (x.0.now, x.1.now) ∷ ps) (shown_map items)

-- Iteration over the pairs shows all of them.
pub shown_all : {L R : Type 0} (pairs : List (L × R)) (items : List (Bor L × Bor R)) → Drains (TakesFirst deref_pair) pairs items → shown_pairs items ≡ pairs
shown_all pairs items drains = sym (shown_map items) ∙ items_from_drains items (drains.1.0, drains.1.1, λ _. (drains.0, drains.1.2)) (YieldsList-from_rest pairs refl)

module _ {L R : Type 0} (key : L → List ℕ) (val : R → Data) (reads_key : List ℕ → L → Type 0) (reads : Data → R → Type 0) (same_left : L → L → Bool) (same_right : R → R → Bool) (laws : IsEquivalence same_left) where
  -- If no two pairs share a value, each entry is the one of some pair.
  object_of : (pairs : List (L × R)) (value : Data) → IsApart same_left same_right pairs → EachReadsBack key val reads_key reads same_left same_right pairs → IsObjectOf (IsLastEntryOf key val pairs) value → IsObjectOf (IsEntryOf key val (Contains pairs)) value
  object_of pairs value apart each object =
      let exactly = exactly_written key val same_left same_right laws reads_key reads pairs apart each in
      record {
        entries = object.entries;
        has = object.has;
        exactly = λ e. (λ m. (exactly e).0 ((object.exactly e).0 m), λ s. (object.exactly e).1 ((exactly e).1 s));
      }

  -- The same is true of what iteration over the pairs writes.
  pub walk_written : {V E : Type 0} (shown : V → Data) (walk pairs : List (L × R)) → walk ≡ pairs → IsApart same_left same_right pairs → (r : Result V E)
      → IfOk r (λ v. (it : List (L × R)) × (items : List (Bor L × Bor R)) × (it ≡ walk) × Drains (TakesFirst deref_pair) it items × IsObjectOf (IsLastEntryOf key val (shown_pairs items)) (shown v) × EachReadsBack key val reads_key reads same_left same_right (shown_pairs items))
      → IfOk r (λ v. IsObjectOf (IsEntryOf key val (Contains pairs)) (shown v)) × OnOk r (EachReadsBack key val reads_key reads same_left same_right pairs)
  walk_written shown walk pairs are apart (Err e) written = (tt, tt)
  walk_written shown walk pairs are apart (Ok v) written =
      let items = written.1 in
      let all : shown_pairs items ≡ pairs = shown_all written.0 items written.3 ∙ written.2 ∙ are in
      let each = subst (EachReadsBack key val reads_key reads same_left same_right) all written.5 in
      (object_of pairs (shown v) apart each (subst (λ ps. IsObjectOf (IsLastEntryOf key val ps) (shown v)) all written.4), each)
