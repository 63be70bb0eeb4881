-- The pairs at a list of places, after the first or the last place is removed from the list.
use Rattle.std.proofs.Common.{◌≡◌, ◌≢◌, ℕ, suc, List, [], ◌∷◌, ◌++◌, length, Option, None, Some, is_some, IsSome, refl, sym, ap, ◌∙◌, true≢false}
use Rattle.std.specs.Prelude.{slice_set}
use Rattle.std.specs.List.{All, cons_option}
use Rattle.std.proofs.lemmas.List.{get_or-set_other}
use Rattle.std.proofs.lemmas.List.Elements.{filter_map-append}
use Rattle.bimap_base.specs.PairsAt.{pairs_at}
use Rattle.bimap_base.specs.Slots.{pair_at, IsLive}
use Rattle.bimap_walk.proofs.Ends.{All-first, All-behind}

module _ {P : Type 0} (slots : List (Option P)) where
  -- If each place has a pair, there are as many pairs as places.
  pub length-pairs_at : (places : List ℕ) → All (IsLive slots) places → length (pairs_at slots places) ≡ length places
  length-pairs_at [] live = refl
  length-pairs_at (p ∷ ps) live =
      by (pair_at slots p) (All-first (p ∷ ps) p ps refl (IsLive slots) live) (length-pairs_at ps (All-behind (p ∷ ps) p ps refl (IsLive slots) live))
    where
      by : (o : Option P) → IsSome o → length (pairs_at slots ps) ≡ length ps → length (cons_option o (pairs_at slots ps)) ≡ suc (length ps)
      by None some rest = absurd (true≢false (sym some))
      by (Some x) some rest = ap suc rest

  module _ (old : List ℕ) (p : ℕ) (ps : List ℕ) where
    pub pairs_at-first : (x : P) → old ≡ p ∷ ps → pair_at slots p ≡ Some x → pairs_at slots old ≡ x ∷ pairs_at slots ps
    pairs_at-first x e is = ap (pairs_at slots) e ∙ ap (λ o. cons_option o (pairs_at slots ps)) is

    pub pairs_at-last : (x : P) → old ≡ ps ++ p ∷ [] → pair_at slots p ≡ Some x → pairs_at slots old ≡ pairs_at slots ps ++ x ∷ []
    pairs_at-last x e is = ap (pairs_at slots) e ∙ filter_map-append (pair_at slots) ps (p ∷ []) ∙ ap (λ o. pairs_at slots ps ++ cons_option o []) is

  -- The pair at one place is removed from the store.
  module _ (p : ℕ) (new : List (Option P)) (now : new ≡ slice_set slots p None) where
    kept_at : (q : ℕ) → q ≢ p → pair_at new q ≡ pair_at slots q
    kept_at q away = ap (λ xs. pair_at xs q) now ∙ get_or-set_other slots p q None None away

    pub live_beside : (ps : List ℕ) → All (λ q. q ≢ p) ps → All (IsLive slots) ps → All (IsLive new) ps
    live_beside ps away live k d l = ap is_some (kept_at _ (away k d l)) ∙ live k d l

    pub pairs_beside : (ps : List ℕ) → All (λ q. q ≢ p) ps → pairs_at new ps ≡ pairs_at slots ps
    pairs_beside [] away = refl
    pairs_beside (q ∷ ps) away =
        ap (λ o. cons_option o (pairs_at new ps)) (kept_at q (All-first (q ∷ ps) q ps refl (λ r. r ≢ p) away))
        ∙ ap (cons_option (pair_at slots q)) (pairs_beside ps (All-behind (q ∷ ps) q ps refl (λ r. r ≢ p) away))
