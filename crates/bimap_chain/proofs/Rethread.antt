-- The chains are linked again, place by place.
use Rattle.std.proofs.Common.{◌≡◌, ℕ, suc, ◌%◌, ◌<◌, ◌≤◌, List, length, Option, None, Some, sym, ◌∙◌, ap, arith, inl, inr, length-set}
use Rattle.std.specs.Prelude.{slice_index_or, slice_set}
use Rattle.bimap_chain.specs.Chains.{Numbers, number_at, is_of, last_below}
use Rattle.std.proofs.lemmas.Bool.{cases_eq}
use Rattle.bimap_chain.proofs.Below.{last_here, last_lower}
use Rattle.bimap_chain.proofs.WithNext.{listed_within, is_own, is_others, written_at}

-- The chains contain the places below `done`.
pub record ThreadedBelow (c : Numbers) (links heads : List (Option ℕ)) (done : ℕ) : Type 0 where
  pub as_many_links : length links ≡ length c
  pub enough_heads : length c ≤ length heads
  pub heads_begin : (bucket : ℕ) → bucket < length heads → slice_index_or heads bucket None ≡ last_below c (length heads) bucket done
  pub links_lead : (place number : ℕ) → place < done → number_at c place ≡ Some number → slice_index_or links place None ≡ last_below c (length heads) (number % length heads) place

-- All heads below `done` are empty.
abbrev pub EmptyBelow : List (Option ℕ) → ℕ → Type 0
EmptyBelow heads done = (bucket : ℕ) → bucket < done → slice_index_or heads bucket None ≡ None

pub begun : (c : Numbers) (links heads : List (Option ℕ)) → length links ≡ length c → length c ≤ length heads → EmptyBelow heads (length heads) → ThreadedBelow c links heads 0
unfolding last_below
begun c links heads l h e = record { as_many_links = l; enough_heads = h; heads_begin = λ k i. e k i; links_lead = λ q m i a. absurd (omega arith) }

-- A place that is not listed changes nothing.
pub passed : (c : Numbers) (links heads : List (Option ℕ)) (place done : ℕ) → ThreadedBelow c links heads place → done ≡ suc place → number_at c place ≡ None → ThreadedBelow c links heads done
passed c links heads place done t e free = record {
  as_many_links = t.as_many_links;
  enough_heads = t.enough_heads;
  heads_begin = λ k i. t.heads_begin k i ∙ sym (last_lower (length heads) k c place (ap (is_of (length heads) k) free)) ∙ ap (last_below c (length heads) k) (sym e);
  links_lead = λ q m l a. elim (cases_eq q place) [ inl i ↦ let j = ap (number_at c) i in cc | inr i ↦ t.links_lead q m (omega arith) a ];
}

-- A place that is listed goes to the front of its chain.
pub put_first : (c : Numbers) (links heads : List (Option ℕ)) (b number place done : ℕ) (old : Option ℕ) → ThreadedBelow c links heads place → done ≡ suc place → b ≡ number % length heads → number_at c place ≡ Some number
    → old ≡ slice_index_or heads b None → ThreadedBelow c (slice_set links place old) (slice_set heads b (Some place)) done
put_first c links heads b number place done old t e own held read =
    let n = length heads in
    let inn : place < length c = listed_within c place number held in
    let some : 0 < n = omega (arith, t.enough_heads) in
    let fits : b < length heads = omega (arith, own) in
    let long : length (slice_set heads b (Some place)) ≡ n = length-set heads b (Some place) in
    record {
      as_many_links = length-set links place old ∙ t.as_many_links;
      enough_heads = omega (arith, long, t.enough_heads);
      heads_begin = λ k i.
          written_at heads b k (Some place) (last_below c n k (suc place)) fits
          (λ j. sym (last_here n b c place (ap (is_of n b) held ∙ ap (λ m. is_of n m (Some number)) own ∙ is_own n number)) ∙ ap (λ m. last_below c n m (suc place)) (sym j))
          (λ j. t.heads_begin k (omega (arith, long)) ∙ sym (last_lower n k c place (ap (is_of n k) held ∙ is_others n number k (λ z. j (z ∙ sym own)))))
          ∙ ap (last_below c n k) (sym e) ∙ ap (λ m. last_below c m k done) (sym long);
      links_lead = λ q m l a.
          written_at links place q old (last_below c n (m % n) q) (omega (arith, t.as_many_links))
          (λ j. let s : m ≡ number = let z = ap (number_at c) j in cc in
          read ∙ t.heads_begin b fits ∙ ap (λ k. last_below c n k place) (own ∙ ap (λ r. r % n) (sym s)) ∙ ap (last_below c n (m % n)) (sym j))
          (λ j. t.links_lead q m (omega arith) a)
          ∙ ap (λ r. last_below c r (m % r) q) (sym long);
    }
