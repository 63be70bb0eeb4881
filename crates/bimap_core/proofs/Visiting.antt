-- Places that are visited one after another.
use Rattle.std.proofs.Common.{◌≡◌, ℕ, ◌+◌, ◌<◌, ◌≤◌, List, [], ◌∷◌, ◌++◌, length, refl, sym, ap, ◌∙◌, subst, arith, length-append, append_assoc, Option, Some, None}
use Rattle.std.specs.Prelude.{IfSome, IfNone}
use Rattle.std.specs.List.Sorted.{IsPermutation}
use Rattle.std.proofs.lemmas.Fn.{FoldsTo-push}
use Rattle.std.proofs.lemmas.List.{append-nil}
use Rattle.std.proofs.lemmas.List.Sorted.{IsPermutation-refl}
use denote.Param.Members.{Mut}
use denote.Ref.{Bor}
use Rattle.bimap_base.specs.Kept.{TestedAt}
use Rattle.bimap_base.specs.Places.{pairs_in}
use Rattle.bimap_base.specs.Slots.{pair_at}
use Rattle.bimap_any.specs.Visited.{VisitsInOrder, MayVisit, IsVisited}
use Rattle.bimap_base.proofs.Compaction.{pairs_in-append}
use Rattle.bimap_core.proofs.Retaining.{pairs_in-none, head_at, none_left}

module _ {F L R : Type 0} (g : Mut F (Bor L × (Bor R × Unit {0})) (Unit {0})) where
  -- The places below `place` were visited. `f` is the closure now.
  pub record IsVisitedBelow (first f : F) (slots : List (Option (L × R))) (place : ℕ) : Type 0 where
    pub seen : List (Option (L × R))
    pub rest : List (Option (L × R))
    pub all : slots ≡ seen ++ rest
    pub long : place ≡ length seen
    pub calls : VisitsInOrder g first (pairs_in seen) f

  pub start : (f : F) (slots : List (Option (L × R))) → IsVisitedBelow f f slots 0
  start f slots = record { seen = []; rest = slots; all = refl; long = refl; calls = refl }

  module _ (first f : F) (slots : List (Option (L × R))) (place : ℕ) (so_far : IsVisitedBelow first f slots place) (inside : place < length slots) where
    split : (zs : List (Option (L × R))) × (so_far.rest ≡ pair_at slots place ∷ zs)
    split =
        let s = head_at so_far.seen so_far.rest place so_far.long (subst (λ z. place < length z) so_far.all inside) in
        (s.0, s.1 ∙ ap (λ z. pair_at z place ∷ s.0) (sym so_far.all))

    -- The closure may be called on the pair at this place.
    pub may : MayVisit g first (pairs_in slots) → (l : Bor L) (r : Bor R) → pair_at slots place ≡ Some (l.now, r.now) → g.pre f (l, (r, tt))
    may visit l r is =
        visit.at (pairs_in so_far.seen) f l r (pairs_in split.0)
        (subst (IsPermutation (pairs_in slots)) (ap pairs_in (so_far.all ∙ ap (λ z. so_far.seen ++ z) (split.1 ∙ ap (λ z. z ∷ split.0) is)) ∙ pairs_in-append so_far.seen (Some (l.now, r.now) ∷ split.0)) (IsPermutation-refl (pairs_in slots)))
        so_far.calls

    -- One more place was visited.
    pub goes_on : (f' : F) → IfSome (pair_at slots place) (λ p. TestedAt g f p tt f') → IfNone (pair_at slots place) (f' ≡ f) → IsVisitedBelow first f' slots (place + 1)
    goes_on f' some none = record {
      seen = so_far.seen ++ pair_at slots place ∷ [];
      rest = split.0;
      all = so_far.all ∙ ap (λ z. so_far.seen ++ z) split.1 ∙ sym (append_assoc so_far.seen (pair_at slots place ∷ []) split.0);
      long = omega (arith, length-append so_far.seen (pair_at slots place ∷ []), so_far.long);
      calls = by (pair_at slots place) some none;
    }
      where
        by : (o : Option (L × R)) → IfSome o (λ p. TestedAt g f p tt f') → IfNone o (f' ≡ f) → VisitsInOrder g first (pairs_in (so_far.seen ++ o ∷ [])) f'
        by None some none = subst (λ z. VisitsInOrder g first z f') (sym (pairs_in-none so_far.seen)) (subst (VisitsInOrder g first (pairs_in so_far.seen)) (sym none) so_far.calls)
        by (Some p) some none = subst (λ z. VisitsInOrder g first z f') (sym (pairs_in-append so_far.seen (Some p ∷ []))) (FoldsTo-push (λ state p next. TestedAt g state p tt next) first (pairs_in so_far.seen) f p f' so_far.calls some)

  -- At the end, each pair was visited.
  pub ended : (first f : F) (slots : List (Option (L × R))) (place : ℕ) → IsVisitedBelow first f slots place → length slots ≤ place → IsVisited g first (pairs_in slots)
  ended first f slots place so_far end =
      let none = none_left so_far.seen so_far.rest (omega (arith, ap length so_far.all, so_far.long)) in
      let order : pairs_in slots ≡ pairs_in so_far.seen = ap pairs_in (so_far.all ∙ ap (λ z. so_far.seen ++ z) none ∙ append-nil so_far.seen) in
      record {
        order = pairs_in so_far.seen;
        last = f;
        each_once = subst (IsPermutation (pairs_in slots)) order (IsPermutation-refl (pairs_in slots));
        calls = so_far.calls;
      }
