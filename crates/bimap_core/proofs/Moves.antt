-- The first and the last pair of an iteration, and moves of a pair to an end.
use Rattle.std.proofs.Common.{◌≡◌, ◌≢◌, ◌↔◌, ℕ, suc, ◌-◌, ◌≤◌, Bool, true, false, List, [], ◌∷◌, ◌++◌, length, take, drop, Option, Some, None, refl, sym, ap, subst, ◌∙◌, inl, inr, arith, true≢false, append-nil, Contains}
use Rattle.std.specs.Prelude.{slice_get, slice_set}
use Rattle.std.specs.List.{AllPairs}
use Rattle.std.specs.Map.Iter.{TakesFirst, TakesLast}
use Rattle.std.proofs.lemmas.List.{drop_all}
use Rattle.std.proofs.lemmas.List.Elements.{Contains-append_cases, Contains-append_left, Contains-append_right, Contains-push, Contains-push_cases, filter_map-append}
use Rattle.std.proofs.lemmas.Option.{slice_get_cases}
use Rattle.bimap_base.specs.PairsAt.{pairs_at}
use Rattle.bimap_base.specs.Positions.{ComesLast, IsTakenOut}
use Rattle.bimap_base.specs.Slots.{pair_at}
use Rattle.bimap_base.proofs.Members.{cases_in, head_in, more_in}
use Rattle.bimap_base.proofs.Walk.{IsWalk}
use Rattle.bimap_core.proofs.Positions.{left_between, one, out_between, stood_between}
use Rattle.bimap_index.specs.ByInsertion.{ListsByInsertion}
use Rattle.bimap_index.specs.Moves.{ComesFirst, IsMove}
use Rattle.bimap_index.proofs.Insertion.{split}

-- A list whose last element is missing is empty.
none_last : (places : List ℕ) (k : ℕ) → k ≤ length places - 1 → slice_get places k ≡ None → places ≡ []
none_last [] k less is = refl
none_last (p ∷ ps) k less is =
    elim (slice_get_cases (p ∷ ps) k).1 [
      | inl some ↦ absurd (let e : Some some.0 ≡ None = sym some.2 ∙ is in cc)
      | inr past ↦ absurd (omega (arith, past.0, less))
    ]

module _ {P : Type 0} (slots : List (Option P)) (places : List ℕ) where
  pub takes_none : (k : ℕ) → k ≤ length places - 1 → slice_get places k ≡ None → pairs_at slots places ≡ []
  takes_none k less is = ap (pairs_at slots) (none_last places k less is)

  module _ (walk : IsWalk slots places) (place : ℕ) (q : P) (is : pair_at slots place ≡ Some q) where
    module _ (new : List (Option P)) (now : new ≡ slice_set slots place None) (rest : List ℕ) (out : IsTakenOut places place rest) where
      shown_apart : (before after : List ℕ) → places ≡ before ++ place ∷ after → pairs_at new rest ≡ pairs_at slots before ++ pairs_at slots after
      shown_apart before after stood =
          ap (λ s. pairs_at s rest) now
          ∙ left_between slots place q is places walk.distinct None rest before after stood (out_between place places rest walk.distinct out before after stood)

      -- The place was the first, or the last.
      pub takes_first : slice_get places 0 ≡ Some place → TakesFirst (λ (p : P). p) (pairs_at slots places) (Some q) (pairs_at new rest)
      takes_first at =
          let after = drop (suc 0) places in
          let stood = split places 0 place at in
          stood_between slots place q is places walk.distinct [] after stood ∙ ap (λ ps. q ∷ ps) (sym (shown_apart [] after stood))

      pub takes_last : slice_get places (length places - 1) ≡ Some place → TakesLast (λ (p : P). p) (pairs_at slots places) (Some q) (pairs_at new rest)
      takes_last at =
          let n = length places - 1 in
          let before = take n places in
          let stood : places ≡ before ++ place ∷ [] = split places n place at ∙ ap (λ ps. before ++ place ∷ ps) (drop_all (suc n) places (omega arith)) in
          stood_between slots place q is places walk.distinct before [] stood ∙ ap (λ ps. ps ++ q ∷ []) (sym (shown_apart before [] stood ∙ append-nil (pairs_at slots before)))

    -- The pair of the place is taken out, and the place is listed first, or last.
    module _ (rest : List ℕ) (out : IsTakenOut places place rest) where
      pair_out : IsTakenOut (pairs_at slots places) q (pairs_at slots rest)
      pair_out = record {
        before = pairs_at slots out.before;
        after = pairs_at slots out.after;
        stood = stood_between slots place q is places walk.distinct out.before out.after out.stood;
        left = ap (pairs_at slots) out.left ∙ filter_map-append (pair_at slots) out.before out.after;
      }

    pub pair_first : (places' : List ℕ) → ComesFirst places place places' → ComesFirst (pairs_at slots places) q (pairs_at slots places')
    pair_first places' moved = record {
      rest = pairs_at slots moved.rest;
      out = pair_out moved.rest moved.out;
      first = ap (pairs_at slots) moved.first ∙ one slots place slots q moved.rest is;
    }

    pub pair_last : (places' : List ℕ) → ComesLast places place place places' → ComesLast (pairs_at slots places) q q (pairs_at slots places')
    pair_last places' moved = record {
      rest = pairs_at slots moved.rest;
      out = pair_out moved.rest moved.out;
      last = ap (pairs_at slots) moved.last ∙ filter_map-append (pair_at slots) moved.rest (place ∷ []) ∙ ap (λ ps. pairs_at slots moved.rest ++ ps) (one slots place slots q [] is);
    }

-- A moved element is still a member, and so are the others.
module _ {X : Type 0} (old rest : List X) (x : X) (out : IsTakenOut old x rest) where
  members : (p : X) → Contains (x ∷ rest) p ↔ Contains old p
  members p = (
    λ c. subst (λ xs. Contains xs p) (sym out.stood) (elim (cases_in x rest p c) [
      | inl same ↦ Contains-append_right out.before (x ∷ out.after) p (subst (Contains (x ∷ out.after)) same (head_in x out.after))
      | inr d ↦ elim (Contains-append_cases out.before out.after p (subst (λ xs. Contains xs p) out.left d)) [
        | inl b ↦ Contains-append_left out.before (x ∷ out.after) p b
        | inr a ↦ Contains-append_right out.before (x ∷ out.after) p (more_in x out.after p a)
      ]
    ]),
    λ c. elim (Contains-append_cases out.before (x ∷ out.after) p (subst (λ xs. Contains xs p) out.stood c)) [
      | inl b ↦ more_in x rest p (subst (λ xs. Contains xs p) (sym out.left) (Contains-append_left out.before out.after p b))
      | inr d ↦ elim (cases_in x out.after p d) [
        | inl same ↦ subst (Contains (x ∷ rest)) same (head_in x rest)
        | inr a ↦ more_in x rest p (subst (λ xs. Contains xs p) (sym out.left) (Contains-append_right out.before out.after p a))
      ]
    ],
  )

pub members_first : {X : Type 0} (old new : List X) (x : X) → ComesFirst old x new → (p : X) → Contains new p ↔ Contains old p
members_first old new x moved p = let m = members old moved.rest x moved.out p in (λ c. m.0 (subst (λ xs. Contains xs p) moved.first c), λ c. subst (λ xs. Contains xs p) (sym moved.first) (m.1 c))

pub members_last : {X : Type 0} (old new : List X) (x : X) → ComesLast old x x new → (p : X) → Contains new p ↔ Contains old p
members_last old new x moved p =
    let m = members old moved.rest x moved.out p in (
      λ c. m.0 (elim (Contains-push_cases moved.rest x p (subst (λ xs. Contains xs p) moved.last c)) [ inl d ↦ more_in x moved.rest p d | inr same ↦ subst (Contains (x ∷ moved.rest)) same (head_in x moved.rest) ]),
      λ c. subst (λ xs. Contains xs p) (sym moved.last) (elim (cases_in x moved.rest p (m.1 c)) [
        | inl same ↦ subst (Contains (moved.rest ++ x ∷ [])) same (Contains-push moved.rest x)
        | inr d ↦ Contains-append_left moved.rest (x ∷ []) p d
      ]),
    )

-- The index still lists the side after a move in its list.
pub moved_listing : {X K : Type 0} (IsListing : X → (ℕ → Option K) → Type 0) (old new : X) (places places' : List ℕ) (f : ℕ → Option K) → new ≡ old → ((p : ℕ) → Contains places' p ↔ Contains places p) → AllPairs (λ a b. a ≢ b) places' → ListsByInsertion IsListing old places f → ListsByInsertion IsListing new places' f
moved_listing IsListing old new places places' f same members distinct listing = record {
  found = subst (λ index. IsListing index f) (sym same) listing.found;
  lists = λ p. let m = members p in let l = listing.lists p in (λ c. l.0 (m.0 c), λ s. m.1 (l.1 s));
  distinct = distinct;
}

-- A pair was moved, or there is no pair to move.
module _ {X : Type 0} (passes : X → Bool) (Comes : List X → X → List X → Type 0) (old new : List X) where
  pub is_moved : (x : X) → passes x ≡ true → Comes old x new → IsMove passes Comes old true new
  is_moved x is comes = record { moved = λ _. (x, is, comes); absent = λ e. absurd (true≢false e); unmoved = λ e. absurd (true≢false e) }

  pub not_moved : ((x : X) → Contains old x → passes x ≡ false) → new ≡ old → IsMove passes Comes old false new
  not_moved absent same = record { moved = λ e. absurd (true≢false (sym e)); absent = λ _. absent; unmoved = λ _. same }
