-- How an index in insertion order keeps listing a side.
use Rattle.std.proofs.Common.{◌≡◌, ◌≢◌, ◌↔◌, ℕ, zero, suc, ◌≤◌, cond, take, drop, eqb, List, [], ◌∷◌, ◌++◌, length, Option, Some, None, is_some, IsSome, refl, sym, ap, subst, ◌∙◌, inl, inr, arith, true≢false, Contains}
use Rattle.std.specs.Prelude.{IsSomeAnd, slice_get}
use Rattle.std.specs.Cmp.{nat_eq_equiv}
use Rattle.std.specs.List.{AllPairs, remove}
use Rattle.std.proofs.lemmas.Bool.{cases_eq}
use Rattle.std.proofs.lemmas.Bool.Decides.{Decides-eqb}
use Rattle.std.proofs.lemmas.List.Elements.{Contains-append_left, Contains-push, Contains-push_cases}
use Rattle.std.proofs.lemmas.Map.Made.{IsDistinct-from_AllPairs, length-le_from_is_member}
use Rattle.std.proofs.lemmas.Option.{slice_get-get_or}
use Rattle.bimap_base.specs.Keyed.{Drops}
use Rattle.bimap_base.proofs.Members.{any_in, in_any}
use Rattle.bimap_index.specs.ByInsertion.{ListsByInsertion}
use Rattle.bimap_index.specs.Listed.{IsWithout}
use Rattle.bimap_index.specs.Moves.{ComesFirst}
use Rattle.bimap_base.specs.Positions.{ComesLast, IsTakenOut}

-- If the places of one list are distinct and all in another list, the first list is no longer than the second.
no_longer : (xs ys : List ℕ) → AllPairs (λ a b. a ≢ b) xs → ((p : ℕ) → Contains xs p → Contains ys p) → length xs ≤ length ys
no_longer xs ys distinct within =
    length-le_from_is_member nat_eq_equiv xs ys (IsDistinct-from_AllPairs Decides-eqb xs distinct) (λ q is.
    let has = in_any (eqb q) xs is in
    any_in (eqb q) ys has.0 (within has.0 has.1) has.2)

module _ {X K : Type 0} (IsListing : X → (ℕ → Option K) → Type 0) (places : X → List ℕ)
    (listed : (index : X) (f : ℕ → Option K) → IsListing index f → (p : ℕ) → Contains (places index) p ↔ IsSome (f p))
    (distinct : (index : X) (f : ℕ → Option K) → IsListing index f → AllPairs (λ a b. a ≢ b) (places index)) where
  -- The list is as long as the list of the index within.
  pub as_long : (index : X) (list : List ℕ) (f : ℕ → Option K) → ListsByInsertion IsListing index list f → length list ≡ length (places index)
  as_long index list f listing =
      let theirs = listed index f listing.found in
      let more = no_longer list (places index) listing.distinct (λ p c. (theirs p).1 ((listing.lists p).0 c)) in
      let fewer = no_longer (places index) list (distinct index f listing.found) (λ p c. (listing.lists p).1 ((theirs p).0 c)) in
      omega (arith, more, fewer)

-- A list is the elements before an index, the element there, and the elements after it.
pub split : (xs : List ℕ) (k x : ℕ) → slice_get xs k ≡ Some x → xs ≡ take k xs ++ x ∷ drop (suc k) xs
split [] k x is = cc
split (y ∷ ys) zero x is = let e : y ≡ x = cc in ap (λ z. z ∷ ys) e
split (y ∷ ys) (suc k) x is = ap (λ zs. y ∷ zs) (split ys k x is)

-- An option whose content passes a test is `Some`.
pub some_with : {X : Type 0} (P : X → Type 0) (o : Option X) → IsSomeAnd o P → IsSome o
some_with P None passes = absurd passes
some_with P (Some x) passes = refl

-- A removal at each position of the place takes the place out of the list.
pub taken_out : (old new : List ℕ) (place : ℕ) → Contains old place → ((k : ℕ) → slice_get old k ≡ Some place → new ≡ remove old k) → IsTakenOut old place new
taken_out old new place c removed =
    let is : slice_get old c.0 ≡ Some place = slice_get-get_or old c.0 place c.1 ∙ ap Some c.2 in
    record { before = take c.0 old; after = drop (suc c.0) old; stood = split old c.0 place is; left = removed c.0 is }

module _ {X K : Type 0} (IsListing : X → (ℕ → Option K) → Type 0) (f g : ℕ → Option K) (place : ℕ) (without : IsWithout f g place) (old new : X) (list list' : List ℕ) where
  -- The list still has the places of the side after the place was appended.
  pub appended : (key : K) → g place ≡ Some key → ListsByInsertion IsListing old list f → IsListing new g → list' ≡ list ++ place ∷ [] → AllPairs (λ a b. a ≢ b) list' → ListsByInsertion IsListing new list' g
  appended key is listing found longer distinct =
      record {
        found = found;
        lists = λ p. (
          λ c. elim (Contains-push_cases list place p (subst (λ z. Contains z p) longer c)) [
            | inl old ↦ let some = (listing.lists p).0 old in subst IsSome (sym (without.others p (λ at. true≢false (sym some ∙ ap (λ z. is_some (f z)) at ∙ ap is_some without.free)))) some
            | inr at ↦ ap (λ z. is_some (g z)) (sym at) ∙ ap is_some is
          ],
          λ some. subst (λ z. Contains z p) (sym longer) (elim (cases_eq p place) [
            | inl at ↦ subst (Contains (list ++ place ∷ [])) (sym at) (Contains-push list place)
            | inr away ↦ Contains-append_left list (place ∷ []) p ((listing.lists p).1 (subst IsSome (without.others p away) some))
          ]),
        );
        distinct = distinct;
      }

  -- The list still has the places of the side after the place was taken out.
  pub dropped : ListsByInsertion IsListing old list g → IsListing new f → Drops list place list' → AllPairs (λ a b. a ≢ b) list' → ListsByInsertion IsListing new list' f
  dropped listing found drops distinct =
      record {
        found = found;
        lists = λ p. (
          λ c. let d = (drops p).0 c in subst IsSome (without.others p d.1) ((listing.lists p).0 d.0),
          λ some.
              let away : p ≢ place = λ at. true≢false (sym some ∙ ap (λ z. is_some (f z)) at ∙ ap is_some without.free) in
              (drops p).1 ((listing.lists p).1 (subst IsSome (sym (without.others p away)) some), away),
        );
        distinct = distinct;
      }

-- The side without this place.
abbrev pub side_without : {K : Type 0} → (ℕ → Option K) → ℕ → ℕ → Option K
side_without g place q = cond (eqb q place) None (g q)

pub is_without : {K : Type 0} (g : ℕ → Option K) (place : ℕ) → IsWithout (side_without g place) g place
is_without g place = record { free = grind arith; others = λ q away. grind arith }

-- A place was put at an end of the list.
pub put_first : (old new : List ℕ) (place : ℕ) → Contains old place → ((k : ℕ) → slice_get old k ≡ Some place → new ≡ place ∷ remove old k) → ComesFirst old place new
put_first old new place c moved =
    let is = slice_get-get_or old c.0 place c.1 ∙ ap Some c.2 in
    record { rest = remove old c.0; out = record { before = take c.0 old; after = drop (suc c.0) old; stood = split old c.0 place is; left = refl }; first = moved c.0 is }

pub put_last : (old new : List ℕ) (place : ℕ) → Contains old place → ((k : ℕ) → slice_get old k ≡ Some place → new ≡ remove old k ++ place ∷ []) → ComesLast old place place new
put_last old new place c moved =
    let is = slice_get-get_or old c.0 place c.1 ∙ ap Some c.2 in
    record { rest = remove old c.0; out = record { before = take c.0 old; after = drop (suc c.0) old; stood = split old c.0 place is; left = refl }; last = moved c.0 is }
