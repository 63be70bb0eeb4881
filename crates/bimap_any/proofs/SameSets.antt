-- Equality of sets of pairs that share no value is an equivalence.
use Rattle.std.proofs.Common.{◌≡◌, ◌&&◌, ℕ, ◌<◌, Bool, true, List, [], ◌∷◌, length, get_or, refl, sym, ap, ◌∙◌, inl, inr, arith, nat_eq, true≢false}
use Rattle.std.specs.List.{Contains, list_any, list_all, remove}
use Rattle.std.specs.Bool.{Decides}
use Rattle.std.specs.Cmp.{IsPartialEquivalence, IsEquivalence, first_so, second_so, both_ways, and_per, on_per, equiv, partial_equiv_from_equiv, unsigned_Decides}
use Rattle.std.proofs.lemmas.Bool.{or_left}
use Rattle.std.proofs.lemmas.List.Edits.{length-remove}
use Rattle.bimap_base.specs.Sets.{IsApart}
use Rattle.bimap_any.specs.Same.{pair_eq, same, IsSame}
use Rattle.bimap_base.proofs.Apart.{apart_head, apart_tail}
use Rattle.bimap_base.proofs.Members.{head_in, more_in, any_in, in_any, all_in, in_all, in_removed}

module _ {L R : Type 0} (eql : L → L → Bool) (eqr : R → R → Bool) where
  pub same_decides : (xs ys : List (L × R)) → Decides (same eql eqr xs ys) (IsSame eql eqr xs ys)
  same_decides xs ys = (
    λ e. ((unsigned_Decides (length xs) (length ys)).0 (first_so (nat_eq (length xs) (length ys)) _ e), λ p c. in_any (pair_eq eql eqr p) ys (all_in (λ p. list_any (pair_eq eql eqr p) ys) xs (second_so (nat_eq (length xs) (length ys)) _ e) p c)),
    λ s. ap (λ t. t && list_all (λ p. list_any (pair_eq eql eqr p) ys) xs) ((unsigned_Decides (length xs) (length ys)).1 s.0) ∙ in_all (λ p. list_any (pair_eq eql eqr p) ys) xs (λ p c. let w = s.1 p c in any_in (pair_eq eql eqr p) ys w.0 w.1 w.2),
  )

  abbrev Sub : List (L × R) → List (L × R) → Type 0
  Sub xs ys = (p : L × R) → Contains xs p → (q : L × R) × Contains ys q × (pair_eq eql eqr p q ≡ true)

  module _ (left : IsPartialEquivalence eql) (right : IsPartialEquivalence eqr) where
    pairs_per : IsPartialEquivalence (pair_eq eql eqr)
    pairs_per = and_per (on_per (λ p. p.0) left) (on_per (λ p. p.1) right)

    -- Each pair of the second list has an equal pair in the first, because the lists have the same length.
    met : (xs ys : List (L × R)) → IsApart eql eqr xs → length xs ≡ length ys → Sub xs ys → (q : L × R) → Contains ys q → (p : L × R) × Contains xs p × (pair_eq eql eqr p q ≡ true)
    met [] ys apart long sub q c = absurd (omega (arith, long, c.1))
    met (x ∷ xs) ys apart long sub q c =
        let m = sub x (head_in x xs) in
        go m.0 m.1.0 m.1.1 m.1.2 m.2 (λ k inside below w. met xs (remove ys k) (apart_tail eql eqr x xs apart) (omega (arith, long, length-remove ys k inside)) below q w)
      where
        below : (r : L × R) (k : ℕ) → k < length ys → get_or ys k r ≡ r → pair_eq eql eqr x r ≡ true → Sub xs (remove ys k)
        below r k inside here e p d =
            let n = sub p (more_in x xs p d) in
            elim (in_removed ys k r n.0 inside n.1) [
              | inl at ↦
                  let f : pair_eq eql eqr r p ≡ true = pairs_per.symm r p ∙ ap (pair_eq eql eqr p) (sym here ∙ at) ∙ n.2 in
                  let g : pair_eq eql eqr x p ≡ true = pairs_per.trans x r p e f in
                  absurd (true≢false (sym (or_left (eql x.0 p.0) (eqr x.1 p.1) (first_so (eql x.0 p.0) (eqr x.1 p.1) g)) ∙ apart_head eql eqr x xs apart p d))
              | inr w ↦ (n.0, w, n.2)
            ]

        go : (r : L × R) (k : ℕ) → k < length ys → get_or ys k r ≡ r → pair_eq eql eqr x r ≡ true → ((k : ℕ) → k < length ys → Sub xs (remove ys k) → Contains (remove ys k) q → (p : L × R) × Contains xs p × (pair_eq eql eqr p q ≡ true)) → (p : L × R) × Contains (x ∷ xs) p × (pair_eq eql eqr p q ≡ true)
        go r k inside here e later =
            elim (in_removed ys k r q inside c) [
              | inl at ↦ (x, head_in x xs, ap (pair_eq eql eqr x) (sym at ∙ here) ∙ e)
              | inr w ↦ let n = later k inside (below r k inside here e) w in (n.0, more_in x xs n.0 n.1, n.2)
            ]

    turned : (xs ys : List (L × R)) → IsApart eql eqr xs → same eql eqr xs ys ≡ true → same eql eqr ys xs ≡ true
    turned xs ys apart e =
        let s = (same_decides xs ys).0 e in
        (same_decides ys xs).1 (sym s.0, λ q c. let w = met xs ys apart s.0 s.1 q c in (w.0, w.1, pairs_per.symm q w.0 ∙ w.2))

    -- The test gives the same result with its two lists exchanged.
    pub same_turned : (xs ys : List (L × R)) → IsApart eql eqr xs → IsApart eql eqr ys → same eql eqr xs ys ≡ same eql eqr ys xs
    same_turned xs ys first second = both_ways (same eql eqr xs ys) (same eql eqr ys xs) (turned xs ys first) (turned ys xs second)

    module _ {B : Type 0} (held : B → List (L × R)) (apart : (b : B) → IsApart eql eqr (held b)) where
      pub same_per : IsPartialEquivalence (λ a b. same eql eqr (held a) (held b))
      same_per =
          record {
            symm = λ a b. same_turned (held a) (held b) (apart a) (apart b);
            trans = λ a b c e f.
                let s = (same_decides (held a) (held b)).0 e in
                let t = (same_decides (held b) (held c)).0 f in
                (same_decides (held a) (held c)).1 (s.0 ∙ t.0, λ p d. let n = s.1 p d in let m = t.1 n.0 n.1 in (m.0, m.1, pairs_per.trans p n.0 m.0 n.2 m.2));
          }

  module _ (left : IsEquivalence eql) (right : IsEquivalence eqr) {B : Type 0} (held : B → List (L × R)) (apart : (b : B) → IsApart eql eqr (held b)) where
    pub same_equiv : IsEquivalence (λ a b. same eql eqr (held a) (held b))
    same_equiv =
        equiv (same_per (partial_equiv_from_equiv left) (partial_equiv_from_equiv right) held apart) (λ b.
        (same_decides (held b) (held b)).1 (refl, λ p c. (p, c, ap (λ t. t && eqr p.1 p.1) (left.refl p.0) ∙ right.refl p.1)))
