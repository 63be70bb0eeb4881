-- How one more pair is packed.
use Rattle.std.proofs.Common.{◌≡◌, ◌<◌, ◌≤◌, ◌+◌, ◌++◌, ◌∙◌, ℕ, suc, Option, Some, List, [], ◌∷◌, length, take, drop, map, set, get_or, refl, sym, ap, subst, arith, add-one, append_assoc}
use Rattle.std.specs.Iterator.{AlwaysYields, Yields}
use Rattle.std.proofs.lemmas.Iterator.Consumers.{YieldsList-so_far, YieldsList-turn}
use Rattle.std.specs.List.{flat_map}
use Rattle.std.proofs.lemmas.List.{drop-drop, length-take-le, length-append, length_push, flat_map_more, take_more, take-append-drop}
use Rattle.std.proofs.Math.Seq.{take-append_seam, drop-append-add}
use Rattle.bimap_c.specs.Packed.{ArePacked, IsFirstTooLong}

-- Bytes are written behind those that end at this place.
behind : (front rest ys : List ℕ) (at : ℕ) → length front ≡ at → take at (front ++ rest) ++ ys ++ drop (at + length ys) (front ++ rest) ≡ front ++ ys ++ drop (length ys) rest
behind front rest ys at size = subst (λ m. take m (front ++ rest) ++ ys ++ drop (m + length ys) (front ++ rest) ≡ front ++ ys ++ drop (length ys) rest) size (rw (take-append_seam front rest, drop-append-add front rest (length ys)) refl)

-- Two byte strings are written behind one another.
pub two_written : (buf xs ys : List ℕ) (at : ℕ) → at + length xs + length ys ≤ length buf
    → take (at + length xs) (take at buf ++ xs ++ drop (at + length xs) buf) ++ ys ++ drop (at + length xs + length ys) (take at buf ++ xs ++ drop (at + length xs) buf)
    ≡ take at buf ++ (xs ++ ys) ++ drop (at + length xs + length ys) buf
two_written buf xs ys at fits =
    let size : length (take at buf ++ xs) ≡ at + length xs = length-append (take at buf) xs ∙ ap (λ n. n + length xs) (length-take-le at buf (omega (arith, fits))) in
    behind (take at buf ++ xs) (drop (at + length xs) buf) ys (at + length xs) size ∙ rw (drop-drop (length ys) (at + length xs) buf) (ap (λ front. front ++ drop (at + length xs + length ys) buf) (append_assoc (take at buf) xs ys))

module _ {P Row : Type 0} (row : P → Row) (bytes : P → List ℕ) where
  rows_more : (pairs : List P) (old : List Row) (p : P) → length pairs < length old → set (map row pairs ++ drop (length pairs) old) (length pairs) (row p) ≡ map row (pairs ++ p ∷ []) ++ drop (suc (length pairs)) old
  rows_more [] [] p l = absurd (omega (arith, l))
  rows_more [] (r ∷ old) p l = refl
  rows_more (q ∷ pairs) [] p l = absurd (omega (arith, l))
  rows_more (q ∷ pairs) (r ∷ old) p l = ap (λ rows. row q ∷ rows) (rows_more pairs old p (omega (arith, l)))

  -- One more pair is packed.
  pub one_packed : (pairs more : List P) (p : P) (old new : List Row) (filled : ℕ) (r : Row) (buf_old buf_new after bs : List ℕ) (used end : ℕ) → ArePacked bytes row pairs old new filled buf_old buf_new used
      → filled < length old → more ≡ pairs ++ p ∷ [] → r ≡ row p → bs ≡ bytes p → end ≡ used + length bs → end ≤ length buf_old → after ≡ take used buf_new ++ bs ++ drop end buf_new
      → ArePacked bytes row more old (set new filled r) (filled + 1) buf_old after end
  one_packed pairs more p old new filled r buf_old buf_new after bs used end are lt ps rs is ends fits writes =
      let whole : flat_map bytes pairs ++ bs ≡ flat_map bytes more = ap (λ b. flat_map bytes pairs ++ b) is ∙ flat_map_more bytes [] pairs p ∙ ap (flat_map bytes) (sym ps) in
      let past : drop (length bs) (drop used buf_old) ≡ drop end buf_old = drop-drop (length bs) used buf_old ∙ ap (λ n. drop n buf_old) (sym ends) in
      record {
        filled_rows = ap (λ rows. set rows filled r) are.filled_rows ∙ ap (λ q. set (map row pairs ++ drop filled old) filled q) rs
            ∙ subst (λ n. set (map row pairs ++ drop n old) n (row p) ≡ map row (pairs ++ p ∷ []) ++ drop (n + 1) old) (sym are.count) (rw add-one (rows_more pairs old p (omega (arith, are.count, lt))))
            ∙ ap (λ qs. map row qs ++ drop (filled + 1) old) (sym ps);
        filled_bytes = writes ∙ ap (λ buf. take used buf ++ bs ++ drop end buf) are.filled_bytes ∙ ap (λ n. take used (flat_map bytes pairs ++ drop used buf_old) ++ bs ++ drop n (flat_map bytes pairs ++ drop used buf_old)) ends
            ∙ behind (flat_map bytes pairs) (drop used buf_old) bs used (sym are.size) ∙ ap (λ front. front ++ drop (length bs) (drop used buf_old)) whole ∙ ap (λ rest. flat_map bytes more ++ rest) past;
        count = omega (arith, are.count, length_push pairs p, ap length ps);
        size = ends ∙ ap (λ n. n + length bs) are.size ∙ sym (length-append (flat_map bytes pairs) bs) ∙ ap length whole;
        rows_there = omega (arith, lt);
        room = fits;
      }

  -- Where no pair is packed, nothing is written.
  pub none_packed : (pairs : List P) (old new : List Row) (filled : ℕ) (buf_old buf_new : List ℕ) (used : ℕ) → ArePacked bytes row pairs old new filled buf_old buf_new used → filled ≡ 0
      → (new ≡ old) × (buf_new ≡ buf_old) × (used ≡ 0)
  none_packed [] old new filled buf_old buf_new used are none = (are.filled_rows ∙ ap (λ n. drop n old) none, are.filled_bytes ∙ ap (λ n. drop n buf_old) are.size, are.size)
  none_packed (p ∷ pairs) old new filled buf_old buf_new used are none = absurd (omega (arith, are.count, none))

nothing : {A P : Type 0} (v : A → P) (xs : List A) → length xs ≡ 0 → map v xs ≡ []
nothing v [] e = refl
nothing v (x ∷ xs) e = absurd (omega (arith, e))

module _ {S A P Row : Type 0} (steps : S → Option A → S → Type 0) (v : A → P) (row : P → Row) (bytes : P → List ℕ) (walk t : S) (pairs : List P) (came : List A) (all : AlwaysYields steps v walk pairs) (so_far : Yields steps walk came t) where
  -- The pairs that are packed are the first ones of the iterator.
  pub first_packed : (old new : List Row) (filled : ℕ) (buf_old buf_new : List ℕ) (used : ℕ) → filled ≡ length came → ArePacked bytes row (map v came) old new filled buf_old buf_new used
      → ArePacked bytes row (take filled pairs) old new filled buf_old buf_new used
  first_packed old new filled buf_old buf_new used count are =
      let e : map v came ≡ take filled pairs = YieldsList-so_far {steps = steps} {v = v} {s = walk} (record { runs = all }) came t so_far ∙ ap (λ n. take n pairs) (sym count) in
      subst (λ ps. ArePacked bytes row ps old new filled buf_old buf_new used) e are

  module _ (x : A) (u : S) (step : steps t (Some x) u) where
    one_more : (take (length came + 1) pairs ≡ map v came ++ v x ∷ []) × (length came < length pairs)
    one_more =
        let turn = YieldsList-turn {steps = steps} {v = v} {s = walk} (record { runs = all }) came t so_far (Some x) u x refl step in
        (take_more pairs (length came) (v x) turn.0 ∙ ap (λ ps. ps ++ get_or pairs (length came) (v x) ∷ []) (sym (YieldsList-so_far {steps = steps} {v = v} {s = walk} (record { runs = all }) came t so_far)) ∙ ap (λ p. map v came ++ p ∷ []) (sym turn.1), turn.0)

    -- The next pair has more bytes than there is room for.
    pub next_too_long : (filled used room : ℕ) → filled ≡ length came → used ≡ length (flat_map bytes (map v came)) → (bs : List ℕ) → bs ≡ bytes (v x) → room < used + length bs → room < length (flat_map bytes (take (filled + 1) pairs))
    next_too_long filled used room count size bs is lt =
        let e : take (filled + 1) pairs ≡ map v came ++ v x ∷ [] = ap (λ n. take (n + 1) pairs) count ∙ one_more.0 in
        let whole : length (flat_map bytes (take (filled + 1) pairs)) ≡ used + length (bytes (v x)) =
        ap (λ ps. length (flat_map bytes ps)) e ∙ ap length (sym (flat_map_more bytes [] (map v came) (v x))) ∙ length-append (flat_map bytes (map v came)) (bytes (v x)) ∙ ap (λ n. n + length (bytes (v x))) (sym size) in
        omega (arith, whole, lt, ap length is)

    -- The first pair has more bytes than the buffer.
    pub first_too_long : (rows room needed : ℕ) → length came ≡ 0 → 0 < rows → needed ≡ length (bytes (v x)) → room < needed → IsFirstTooLong bytes pairs rows room needed
    first_too_long rows room needed none one size lt = record {
      first = v x;
      others = drop 1 pairs;
      begins = sym (take-append-drop 1 pairs) ∙ ap (λ ps. ps ++ drop 1 pairs) (ap (λ n. take (n + 1) pairs) (sym none) ∙ one_more.0 ∙ ap (λ ps. ps ++ v x ∷ []) (nothing v came none));
      one_row = one;
      size = size;
      too_long = lt;
    }
