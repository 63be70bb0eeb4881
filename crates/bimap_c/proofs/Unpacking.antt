-- How the pairs of rows are inserted one after another.
use Rattle.std.proofs.Common.{◌≡◌, ◌<◌, ◌≤◌, ◌+◌, ◌-◌, ◌++◌, ◌∙◌, ℕ, Bool, Result, Ok, Err, OnErr, List, [], ◌∷◌, inl, inr, length, take, drop, map, get_or, sum_by, refl, sym, ap, subst, arith}
use Rattle.std.proofs.Math.Seq.{take-add}
use Rattle.std.proofs.lemmas.List.{drop-drop, flat_map_more, length-append, length-drop, length-take-le, length_push, map-append, take_more}
use Rattle.std.proofs.lemmas.List.Sums.{sum_by-take-le, sum_by_push}
use Rattle.std.specs.List.{flat_map}
use Rattle.bimap.specs.Types.{NotInsertedWith, Overwrite}
use Rattle.bimap_c.specs.Bytes.{Kept, Inserts, IsInserted}
use Rattle.bimap_c.specs.Calls.{inserted_with}
use Rattle.bimap_c.specs.Unpacked.{IsPut, ArePut, InsertsFirst}
use Rattle.bimap_c.specs.declared.byte_string.ByteString.{ByteString}

module _ {Row : Type 0} (size : Row → ℕ) (rows : List Row) (at : ℕ) (row : Row) (within : at < length rows) (is : row ≡ get_or rows at row) where
  -- The bytes of one more row.
  pub one_row_more : sum_by size (take (at + 1) rows) ≡ sum_by size (take at rows) + size row
  one_row_more = ap (sum_by size) (take_more rows at row within) ∙ sum_by_push size (take at rows) (get_or rows at row) ∙ ap (λ r. sum_by size (take at rows) + size r) (sym is)

  -- They are among the bytes of all rows.
  pub row_within : sum_by size (take at rows) + size row ≤ sum_by size rows
  row_within = omega (arith, one_row_more, sum_by-take-le size rows (at + 1))

-- Bytes that stand behind one another.
pub both_slices : (buf : List ℕ) (from l r : ℕ) → take (from + l - from) (drop from buf) ++ take (from + l + r - (from + l)) (drop (from + l) buf) ≡ take (l + r) (drop from buf)
both_slices buf from l r =
    let first : from + l - from ≡ l = omega arith in
    let second : from + l + r - (from + l) ≡ r = omega arith in
    ap (λ n. take n (drop from buf) ++ take (from + l + r - (from + l)) (drop (from + l) buf)) first ∙ ap (λ n. take l (drop from buf) ++ take n (drop (from + l) buf)) second
    ∙ ap (λ bs. take l (drop from buf) ++ take r bs) (sym (drop-drop l from buf)) ∙ sym (take-add l r (drop from buf))

kept_if_err : {X L R Z : Type 0} (result : Result X (NotInsertedWith L R)) → (inserted_with result ≡ 0 → ⊥) → OnErr result Z → Z
kept_if_err (Ok x) e kept = absurd (e refl)
kept_if_err (Err why) e kept = kept

module _ {R : Type 0} (same_right : R → R → Bool) where
  module _ (old new : Kept R) (left : List ℕ) (right : R) (status : ℕ) where
    abbrev pub Inserted : Type 0
    Inserted = Inserts same_right old left right (record { left = Overwrite; right = Overwrite }) status new

    -- What an insertion did, by its status.
    pub was_put : Inserted → status ≡ 0 → (key : ByteString) × (key.bytes.items ≡ left) × IsPut same_right old (key, right) new
    was_put (inl w) e = absurd (omega (arith, w.0, e))
    was_put (inr is) e = (is.key, is.copy, subst (λ s. IsInserted same_right old is.key.bytes.items right (record { left = Overwrite; right = Overwrite }) s new) e (subst (λ l. IsInserted same_right old l right (record { left = Overwrite; right = Overwrite }) status new) (sym is.copy) is))

    pub was_not_put : Inserted → (status ≡ 0 → ⊥) → new ≡ old
    was_not_put (inl w) e = w.1
    was_not_put (inr is) e = kept_if_err is.result (λ ok. e (is.told ∙ ok)) is.unchanged

  put_more : (pairs : List (ByteString × R)) (old now new : Kept R) (p : ByteString × R) → ArePut same_right old pairs now → IsPut same_right now p new → ArePut same_right old (pairs ++ p ∷ []) new
  put_more [] old now new p are is = (new, subst (λ s. IsPut same_right s p new) are is, refl)
  put_more (q ∷ pairs) old now new p are is = (are.0, are.1, put_more pairs are.0 now new p are.2 is)

  module _ {Row : Type 0} (row : ByteString × R → Row) (bytes : ByteString × R → List ℕ) where
    -- The pairs of the first rows were inserted, and this is how many bytes they have.
    pub record AreTaken (old : Kept R) (rows : List Row) (buf : List ℕ) (taken used : ℕ) (now : Kept R) : Type 0 where
      pub is : InsertsFirst same_right row bytes old rows buf taken now
      pub size : used ≡ length (flat_map bytes is.pairs)

    -- The pair of one more row was inserted.
    pub one_taken : (old now new : Kept R) (rows : List Row) (buf : List ℕ) (taken used end n : ℕ) (r : Row) (p : ByteString × R) → AreTaken old rows buf taken used now
        → taken < length rows → r ≡ get_or rows taken r → row p ≡ r → bytes p ≡ take n (drop used buf) → used + n ≤ length buf → end ≡ used + n → IsPut same_right now p new → AreTaken old rows buf (taken + 1) end new
    one_taken old now new rows buf taken used end n r p are within is of_row read fits ends put =
        let pairs = are.is.pairs in
        let more : List (ByteString × R) = pairs ++ p ∷ [] in
        let count : length more ≡ taken + 1 = length_push pairs p ∙ ap (λ n. n + 1) (sym are.is.count) in
        let whole : flat_map bytes pairs ++ bytes p ≡ flat_map bytes more = flat_map_more bytes [] pairs p in
        let size_of : length (bytes p) ≡ n = ap length read ∙ length-take-le n (drop used buf) (omega (arith, length-drop used buf)) in
        let size : length (flat_map bytes more) ≡ used + n = ap length (sym whole) ∙ length-append (flat_map bytes pairs) (bytes p) ∙ omega (arith, are.size, size_of) in
        record {
          is = record {
            pairs = more;
            first = record {
              first_rows = ap (λ n. take n rows) count ∙ take_more rows taken r within ∙ ap (λ q. take taken rows ++ q ∷ []) (sym is ∙ sym of_row) ∙ ap (λ qs. qs ++ row p ∷ []) (ap (λ n. take n rows) are.is.count ∙ are.is.first.first_rows) ∙ sym (map-append row pairs (p ∷ []));
              first_bytes = ap (λ m. take m buf) size ∙ take-add used n buf ∙ ap (λ bs. bs ++ take n (drop used buf)) (ap (λ m. take m buf) are.size ∙ are.is.first.first_bytes) ∙ ap (λ bs. flat_map bytes pairs ++ bs) (sym read) ∙ whole;
            };
            put = put_more pairs old now new p are.is.put put;
            count = sym count;
          };
          size = ends ∙ sym size;
        }
