-- The text of a line has no line break.
use Rattle.std.proofs.Common.{◌≡◌, ◌∙◌, inl, inr, ℕ, zero, suc, ◌+◌, ◌-◌, ◌/◌, ◌%◌, ◌<◌, ◌≤◌, ◌==◌, Bool, true, false, List, [], ◌∷◌, ◌++◌, length, take, drop, refl, ap, subst, true≢false, arith, not, nat_eq, slice_index}
use Rattle.std.specs.List.{Contains, IsAnyAnswer}
use Rattle.std.proofs.lemmas.Bool.Decides.{nat_tests}
use Rattle.std.proofs.lemmas.List.Elements.{Contains-append_cases, Contains-push_cases}
use Rattle.std.proofs.lemmas.List.{take_at, length-append}
use Rattle.std.proofs.lemmas.Grind.{common_steps}
use Rattle.std.proofs.Math.Seq.{take-length}
use Rattle.std.specs.Cmp.Lexicographic.{pointwise, same_text}
use Rattle.bimap_journal.specs.Texts.{digit, digits}

-- A search that found no line break shows that there is none.
pub none_found : (xs : List ℕ) (found : Bool) → IsAnyAnswer (λ y b. (y == 10) ≡ b) xs found → found ≡ false → ¬ Contains xs 10
none_found xs true searched e there = absurd (true≢false e)
none_found xs false searched e there =
    let inside : there.0 < length xs = there.1 in
    let at : (10 == 10) ≡ false = subst (λ y. (y == 10) ≡ false) there.2 (searched there.0 10 (omega arith) inside) in
    true≢false at

digit_high : (n : ℕ) → 48 ≤ digit n
digit_high n = grind (arith, nat_tests)

none_in_digits : (count n : ℕ) → ¬ Contains (digits count n) 10
none_in_digits zero n there = let inside : there.0 < 0 = there.1 in absurd (omega arith)
none_in_digits (suc count) n there =
    elim (Contains-push_cases (digits count (n / 16)) (digit (n % 16)) 10 there) [
      | inl before ↦ none_in_digits count (n / 16) before
      | inr last ↦ let high : 48 ≤ digit (n % 16) = digit_high (n % 16) in absurd (omega (arith, last, high))
    ]

pub none_in_text : (json : List ℕ) (sum : ℕ) → ¬ Contains json 10 → ¬ Contains (json ++ 32 ∷ digits 8 sum) 10
none_in_text json sum none there =
    elim (Contains-append_cases json (32 ∷ digits 8 sum) 10 there) [
      | inl before ↦ none before
      | inr after ↦
          elim (Contains-append_cases (32 ∷ []) (digits 8 sum) 10 after) [
            | inl blank ↦ blank_none blank
            | inr behind ↦ none_in_digits 8 sum behind
          ]
    ]
  where
    blank_none : ¬ Contains {X = ℕ} (32 ∷ []) 10
    blank_none there =
        elim (Contains-push_cases {X = ℕ} [] 32 10 there) [
          | inl nothing ↦ let inside : nothing.0 < 0 = nothing.1 in absurd (omega arith)
          | inr e ↦ let same : 32 ≡ 10 = e in absurd (omega (arith, same))
        ]

length-digits : (count n : ℕ) → length (digits count n) ≡ count
length-digits zero n = refl
length-digits (suc count) n =
    let e = length-append (digits count (n / 16)) (digit (n % 16) ∷ []) in
    let f = length-digits count (n / 16) in
    omega (arith, e, f)

-- The JSON of a text is all but its last nine bytes.
pub json_is : (text json : List ℕ) (sum : ℕ) → text ≡ json ++ 32 ∷ digits 8 sum → take (length text - 9) text ≡ json
json_is text json sum is =
    let long : length text ≡ length json + (length (digits 8 sum) + 1) = ap length is ∙ length-append json (32 ∷ digits 8 sum) in
    let e : length text - 9 ≡ length json = omega (arith, long, length-digits 8 sum) in
    ap (λ n. take n text) e ∙ ap (take (length json)) is ∙ take_at json (32 ∷ digits 8 sum) (length json) refl

-- Bytes behind a blank that are equal to a checksum.
pub sum_is : (back sum : List ℕ) → 0 < length back → slice_index back 0 ≡ 32 → false ≡ not (pointwise nat_eq (take (length back - 1) (drop 1 back)) sum) → back ≡ 32 ∷ sum
sum_is [] sum some blank same = absurd (omega arith)
sum_is (byte ∷ back) sum some blank same = grind (arith, common_steps, same_text, take-length)
