-- The places of a list, read one by one, and their ranks.
use Rattle.std.proofs.Common.{◌≡◌, ◌≢◌, ℕ, zero, suc, ◌+◌, ◌<◌, ◌≤◌, List, [], ◌∷◌, ◌++◌, length, get_or, take, nat_cmp, Some, None, Option, refl, sym, ap, subst, ◌∙◌, inl, inr, arith, add-one, Contains, eqb}
use Rattle.std.specs.Prelude.{Result, Ok, Err, slice_get}
use Rattle.std.specs.Cmp.{nat_eq_equiv}
use Rattle.std.specs.List.{AllPairs, AllZip}
use Rattle.std.specs.List.Sorted.{IsBinarySearchResult, IsNonDecreasingBy, IsPermutation, IsSorted}
use Rattle.std.proofs.lemmas.Bool.{cases_lt}
use Rattle.std.proofs.lemmas.Bool.Decides.{Decides-eqb}
use Rattle.std.proofs.lemmas.Option.{slice_get-get_or}
use Rattle.std.proofs.lemmas.List.{get_or_default, take_all}
use Rattle.std.proofs.lemmas.List.Elements.{AllZip-push}
use Rattle.std.proofs.lemmas.List.Sorted.{Contains-permutation, IsPermutation-sym, IsNonDecreasingBy-from_sort, searched}
use Rattle.std.proofs.lemmas.Map.Keys.{IsDistinct-IsPermutation}
use Rattle.std.proofs.lemmas.Map.Made.{AllPairs-from_IsDistinct, IsDistinct-from_AllPairs}
use Rattle.bimap_base.proofs.Members.{AllPairs-head, AllPairs-tail, cases_in, head_in, more_in, none_in}
use Rattle.bimap_list.specs.Ranks.{AreRanks}
use Rattle.bimap_list.proofs.Links.{contains_at}

-- The first `n` places were read. The place after them comes next.
pub record IsRead (all : List ℕ) (n : ℕ) (read : List ℕ) (next : Option ℕ) : Type 0 where
  pub read_so_far : read ≡ take n all
  pub comes : next ≡ slice_get all n

taken : (all : List ℕ) (n place : ℕ) → slice_get all n ≡ Some place → take n all ++ place ∷ [] ≡ take (suc n) all
taken [] n place is = cc
taken (x ∷ xs) zero place is = let e : x ≡ place = cc in ap (λ z. z ∷ []) (sym e)
taken (x ∷ xs) (suc n) place is = ap (λ zs. x ∷ zs) (taken xs n place is)

-- Past the end no place comes.
pub past : (all : List ℕ) (n : ℕ) → slice_get all n ≡ None → length all ≤ n
past [] n none = omega arith
past (x ∷ xs) zero none = cc
past (x ∷ xs) (suc n) none = omega (arith, past xs n none)

pub read_more : (all : List ℕ) (n : ℕ) (read more : List ℕ) (place : ℕ) (next : Option ℕ) → IsRead all n read (Some place) → more ≡ read ++ place ∷ [] → ((k : ℕ) → slice_get all k ≡ Some place → next ≡ slice_get all (k + 1)) → IsRead all (n + 1) more next
read_more all n read more place next so_far longer after =
    let is : slice_get all n ≡ Some place = sym so_far.comes in
    record {
      read_so_far = longer ∙ ap (λ z. z ++ place ∷ []) so_far.read_so_far ∙ taken all n place is ∙ ap (λ k. take k all) (sym (add-one n));
      comes = after n is;
    }

pub all_read : (all : List ℕ) (n : ℕ) (read : List ℕ) (next : Option ℕ) → IsRead all n read next → length all ≤ n → read ≡ all
all_read all n read next so_far long = so_far.read_so_far ∙ take_all n all long

-- The ranks of the first `n` places are listed.
pub record AreRanked (sorted places : List ℕ) (n : ℕ) (ranks : List ℕ) : Type 0 where
  pub stand : AllZip (λ p r. slice_get sorted r ≡ Some p) (take n places) ranks
  pub apart : AllPairs (λ a b. a ≢ b) ranks

pub none_ranked : (sorted places ranks : List ℕ) → ranks ≡ [] → AreRanked sorted places 0 ranks
none_ranked sorted places ranks none = subst (AreRanked sorted places 0) (sym none) record { stand = tt; apart = λ i j d before inside. absurd (omega (arith, inside)) }

pub one_ranked : (sorted places : List ℕ) (n place rank : ℕ) (ranks more : List ℕ) → AreRanked sorted places n ranks → slice_get places n ≡ Some place → slice_get sorted rank ≡ Some place → more ≡ ranks ++ rank ∷ [] → AllPairs (λ a b. a ≢ b) more → AreRanked sorted places (n + 1) more
one_ranked sorted places n place rank ranks more so_far is stands longer apart =
    record {
      stand = subst (λ k. AllZip (λ p r. slice_get sorted r ≡ Some p) (take k places) more) (sym (add-one n))
          (subst (λ ps. AllZip (λ p r. slice_get sorted r ≡ Some p) ps more) (taken places n place is)
          (subst (AllZip (λ p r. slice_get sorted r ≡ Some p) (take n places ++ place ∷ [])) (sym longer)
          (AllZip-push (λ p r. slice_get sorted r ≡ Some p) (take n places) ranks place rank so_far.stand stands)));
      apart = apart;
    }

-- Each listed rank is the rank of a place.
of_place : (sorted places ranks : List ℕ) → AllZip (λ p r. slice_get sorted r ≡ Some p) places ranks → (rank : ℕ) → Contains ranks rank → (place : ℕ) × Contains places place × (slice_get sorted rank ≡ Some place)
of_place sorted [] [] zip rank c = none_in rank c
of_place sorted [] (r ∷ rs) zip rank c = absurd zip
of_place sorted (p ∷ ps) [] zip rank c = absurd zip
of_place sorted (p ∷ ps) (r ∷ rs) zip rank c =
    elim (cases_in r rs rank c) [
      | inl same ↦ (p, head_in p ps, subst (λ k. slice_get sorted k ≡ Some p) same zip.0)
      | inr d ↦ let w = of_place sorted ps rs zip.1 rank d in (w.0, more_in p ps w.0 w.1, w.2)
    ]

pub earlier : (places : List ℕ) (n place : ℕ) → slice_get places n ≡ Some place → AllPairs (λ a b. a ≢ b) places → Contains (take n places) place → ⊥
earlier [] n place is distinct c = cc
earlier (p ∷ ps) zero place is distinct c = none_in place c
earlier (p ∷ ps) (suc n) place is distinct c =
    elim (cases_in p (take n ps) place c) [
      | inl same ↦ AllPairs-head (λ a b. a ≢ b) p ps distinct place (contains_at ps n place is) same
      | inr d ↦ earlier ps n place is (AllPairs-tail (λ a b. a ≢ b) p ps distinct) d
    ]

-- The rank of a further place is therefore not listed yet.
pub unranked : (sorted places : List ℕ) (n place rank : ℕ) (ranks : List ℕ) → AreRanked sorted places n ranks → slice_get places n ≡ Some place → slice_get sorted rank ≡ Some place → AllPairs (λ a b. a ≢ b) places → Contains ranks rank → ⊥
unranked sorted places n place rank ranks so_far is stands distinct c =
    let w = of_place sorted (take n places) ranks so_far.stand rank c in
    let same : w.0 ≡ place = let e : Some w.0 ≡ Some place = sym w.2 ∙ stands in cc in
    earlier places n place is distinct (subst (Contains (take n places)) same w.1)

module _ (places sorted : List ℕ) (moved : IsPermutation places sorted) (rises : IsSorted nat_cmp sorted) (distinct : AllPairs (λ a b. a ≢ b) places) where
  up : IsNonDecreasingBy (λ n. n) sorted
  up = IsNonDecreasingBy-from_sort (λ n. n) sorted rises

  ascends : AllPairs (λ a b. a < b) sorted
  ascends i j d before inside =
      let less = up i j d (omega (arith, before)) inside in
      let differ = AllPairs-from_IsDistinct Decides-eqb sorted (IsDistinct-IsPermutation eqb nat_eq_equiv.symm places sorted moved (IsDistinct-from_AllPairs Decides-eqb places distinct)) i j d before inside in
      omega (arith, less, differ)

  -- Each place stands among the sorted places at the index at which it is found.
  found : (place : ℕ) (r : Result ℕ ℕ) → Contains places place → IsBinarySearchResult (λ y. nat_cmp y place) sorted r → (rank : ℕ) → r ≡ Ok rank → slice_get sorted rank ≡ Some place
  found place r has searched_at rank is =
      let at = searched sorted place (Ok rank) (subst (IsBinarySearchResult (λ y. nat_cmp y place) sorted) is searched_at) (λ i j before inside. up i j 0 before inside) in
      slice_get-get_or sorted rank 0 at.0 ∙ ap Some at.1

  -- A search for a place of the list always finds it.
  never_missed : (place : ℕ) (r : Result ℕ ℕ) → Contains places place → IsBinarySearchResult (λ y. nat_cmp y place) sorted r → ((rank : ℕ) → r ≡ Ok rank → ⊥) → ⊥
  never_missed place (Ok rank) has searched_at never = never rank refl
  never_missed place (Err e) has searched_at never =
      let at = searched sorted place (Err e) searched_at (λ i j before inside. up i j 0 before inside) in
      let there = Contains-permutation places sorted place moved has in
      let here : get_or sorted there.0 0 ≡ place = get_or_default sorted there.0 0 place there.1 ∙ there.2 in
      elim (cases_lt there.0 e) [
        | inl below ↦ let less = at.1 there.0 below in omega (arith, less, here)
        | inr above ↦ let less = at.2 there.0 (omega (arith, above)) there.1 in omega (arith, less, here)
      ]

  pub all_ranked : (ranks : List ℕ) → AreRanked sorted places (length places) ranks → AreRanks places ranks
  all_ranked ranks done =
      record {
        sorted = sorted;
        ascends = ascends;
        same = λ p. (Contains-permutation sorted places p (IsPermutation-sym places sorted moved), Contains-permutation places sorted p moved);
        stand = subst (λ ps. AllZip (λ p r. slice_get sorted r ≡ Some p) ps ranks) (take_all (length places) places (omega arith)) done.stand;
      }

-- Each round of the loop searches the place that comes among the sorted places, and finds it.
pub record IsFound (places sorted : List ℕ) (n place : ℕ) (r : Result ℕ ℕ) : Type 0 where
  pub comes : slice_get places n ≡ Some place
  pub stands : (rank : ℕ) → r ≡ Ok rank → slice_get sorted rank ≡ Some place
  pub not_missed : ((rank : ℕ) → r ≡ Ok rank → ⊥) → ⊥

pub at_position : (places items items' sorted searched_in : List ℕ) (n : ℕ) (r : Result ℕ ℕ) → items ≡ places → items' ≡ places → IsPermutation items' sorted → IsSorted nat_cmp sorted → AllPairs (λ a b. a ≢ b) places → searched_in ≡ sorted → n < length items → IsBinarySearchResult (λ y. nat_cmp y (get_or items n 0)) searched_in r → IsFound places sorted n (get_or items n 0) r
at_position places items items' sorted searched_in n r same same' moved rises distinct all inside searched_at =
    let place = get_or items n 0 in
    let is = ap (λ z. slice_get z n) (sym same) ∙ slice_get-get_or items n 0 inside in
    let from = subst (λ xs. IsPermutation xs sorted) same' moved in
    let by = subst (λ xs. IsBinarySearchResult (λ y. nat_cmp y place) xs r) all searched_at in
    record {
      comes = is;
      stands = found places sorted from rises distinct place r (contains_at places n place is) by;
      not_missed = never_missed places sorted from rises distinct place r (contains_at places n place is) by;
    }
