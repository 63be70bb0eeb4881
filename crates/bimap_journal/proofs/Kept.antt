-- The lines of a file stand for a set of pairs, and go on to do so with one more line.
use Rattle.std.proofs.Common.{◌≡◌, ◌∙◌, ℕ, Bool, List, [], ◌∷◌, ◌++◌, refl, sym, ap, subst, codes}
use Rattle.std.specs.Prelude.{Some}
use Rattle.std.specs.List.{AllZip}
use Rattle.std.specs.Cmp.{IsEquivalence}
use Rattle.std.proofs.lemmas.Slice.Zip.{all_zipped_more}
use Rattle.serde_json.specs.Data.{Data, item, no_items}
use Rattle.serde_json.specs.Read.{read as read_json}
use Rattle.bimap.specs.JsonReading.{ReadsBack}
use Rattle.bimap.specs.Survivors.{IsPutToStay}
use Rattle.bimap_journal.specs.declared.change.Change.{Change}
use Rattle.bimap_journal.specs.declared.change.Change.TheVariants.{Insert, RemoveByLeft, RemoveByRight, Clear}
use Rattle.bimap_journal.specs.Texts.{Says, checksum}
use Rattle.bimap_journal.specs.Changes.{Reads, IsTextOf, IsLineOf, AreAlike, Puts, Touches, IsAfter, AreEqual, AreKept, insert_of, remove_by_left_of, remove_by_right_of, clear_of}
use Rattle.bimap_journal.specs.Stored.{ReadsAsOne}
use Rattle.bimap_journal.proofs.Breaks.{json_is}
use Rattle.bimap_journal.proofs.Changed.{after_alike, stays_push}
use Rattle.bimap_journal.proofs.Values.{same_name, not_insert_left, not_insert_right, not_left_right, not_clear_insert, not_clear_left, not_clear_right}

-- A text says one JSON value.
pub says_one : (text : List ℕ) (v w : Data) → Says text v → Says text w → v ≡ w
says_one text v w a b =
    let same : a.json ≡ b.json = sym (json_is text a.json (checksum a.json) a.is) ∙ json_is text b.json (checksum b.json) b.is in
    let read : Some v ≡ Some w = sym a.is_read ∙ ap read_json same ∙ b.is_read in
    cc

-- Two lists that are zipped, the first of which ends in an item.
zipped_push : {A B : Type 0} (P : A → B → Type 0) (xs : List A) (x : A) (zs : List B) → AllZip P (xs ++ x ∷ []) zs → (ys : List B) × (y : B) × (zs ≡ ys ++ y ∷ []) × AllZip P xs ys × P x y
zipped_push P [] x [] h = absurd h
zipped_push P [] x (z ∷ []) h = ([], z, refl, tt, h.0)
zipped_push P [] x (z ∷ (w ∷ zs)) h = absurd h.1
zipped_push P (a ∷ xs) x [] h = absurd h
zipped_push P (a ∷ xs) x (z ∷ zs) h =
    let rest = zipped_push P xs x zs h.1 in
    (z ∷ rest.0, rest.1, ap (λ l. z ∷ l) rest.2, (h.0, rest.3), rest.4)

module _ {L R : Type 0} (reads_left : Data → L → Type 0) (reads_right : Data → R → Type 0) (same_left : L → L → Bool) (same_right : R → R → Bool) (left : IsEquivalence same_left) (right : IsEquivalence same_right) where
  abbrev Text : List ℕ → Change L R → Type 0
  Text = IsTextOf reads_left reads_right

  abbrev Kept : List (List ℕ) → (L × R → Type 0) → Type 0
  Kept = AreKept same_left same_right reads_left reads_right

  abbrev Line : List ℕ → Change L R → Type 0
  Line text change = IsLineOf same_left same_right reads_left reads_right change text

  -- No line leaves no pair.
  pub kept_none : (S : L × R → Type 0) → ((p : L × R) → S p → ⊥) → Kept [] S
  kept_none S empty = record { is_read = ([], tt); leaves = leaves }
    where
      leaves : (changes : List (Change L R)) → AllZip Text [] changes → AreEqual same_left same_right S (IsPutToStay Puts (Touches same_left same_right) changes)
      leaves [] h = record { there = λ p s. absurd (empty p s); back = λ p stays. absurd (none stays.before stays.later stays.entry stays.split) }
        where
          none : (before later : List (Change L R)) (entry : Change L R) → [] ≡ before ++ entry ∷ later → ⊥
          none [] later entry e = absurd (cc)
          none (x ∷ before) later entry e = absurd (cc)
      leaves (change ∷ changes) h = absurd h

  -- With one more line, they leave what its change makes of the pairs.
  pub kept_more : (texts : List (List ℕ)) (text : List ℕ) (change : Change L R) (S T : L × R → Type 0) → Kept texts S → Line text change → IsAfter same_left same_right change S T → Kept (texts ++ text ∷ []) T
  kept_more texts text change S T kept line after =
      record {
        is_read = (kept.is_read.0 ++ line.is_read.0 ∷ [], all_zipped_more Text texts kept.is_read.0 text line.is_read.0 kept.is_read.1 line.is_read.1);
        leaves = λ changes are.
            let parts = zipped_push Text texts text changes are in
            let grown = after_alike same_left same_right left right S T (IsPutToStay Puts (Touches same_left same_right) parts.0) (IsPutToStay Puts (Touches same_left same_right) (parts.0 ++ parts.1 ∷ [])) change parts.1
            (line.only parts.1 parts.4) (kept.leaves parts.0 parts.3) after (stays_push same_left same_right left right parts.0 parts.1) in
            subst (λ l. AreEqual same_left same_right T (IsPutToStay Puts (Touches same_left same_right) l)) (sym parts.2) grown;
      }

  module _ (text : List ℕ) (value : Data) (says : Says text value) where
    -- What a text reads as, this value reads as.
    pub read_by : (change : Change L R) → Text text change → Reads reads_left reads_right value change
    read_by change t = subst (λ v. Reads reads_left reads_right v change) (says_one text t.value value t.says says) t.reads

    pub line_of_insert : (x y : Data) (l : L) (r : R) → value ≡ insert_of x y → ReadsBack same_left (reads_left x) l → ReadsBack same_right (reads_right y) r → Line text (Insert l r)
    line_of_insert x y l r is a b =
        record {
          is_read = (Insert a.as_value b.as_value, record { value = value; says = says; reads = (x, y, is, a.reads, b.reads) });
          only = λ other t. go other (read_by other t);
        }
      where
        go : (other : Change L R) → Reads reads_left reads_right value other → AreAlike same_left same_right (Insert l r) other
        go (Insert k s) (u, v, e, p, q) =
            let same : insert_of x y ≡ insert_of u v = sym is ∙ e in
            let same_x : x ≡ u = cc in
            let same_y : y ≡ v = cc in
            (left.symm l k ∙ a.only k (subst (λ d. reads_left d k) (sym same_x) p), right.symm r s ∙ b.only s (subst (λ d. reads_right d s) (sym same_y) q))
        go (RemoveByLeft k) (u, e, p) = not_insert_left (same_name (codes "insert") (codes "remove_by_left") (item x (item y no_items)) (item u no_items) (sym is ∙ e))
        go (RemoveByRight s) (v, e, q) = not_insert_right (same_name (codes "insert") (codes "remove_by_right") (item x (item y no_items)) (item v no_items) (sym is ∙ e))
        go Clear e = not_clear_insert (sym (same_name (codes "insert") (codes "clear") (item x (item y no_items)) no_items (sym is ∙ e)))

    pub line_of_left : (x : Data) (l : L) → value ≡ remove_by_left_of x → ReadsBack same_left (reads_left x) l → Line text (RemoveByLeft l)
    line_of_left x l is a =
        record {
          is_read = (RemoveByLeft a.as_value, record { value = value; says = says; reads = (x, is, a.reads) });
          only = λ other t. go other (read_by other t);
        }
      where
        go : (other : Change L R) → Reads reads_left reads_right value other → AreAlike same_left same_right (RemoveByLeft l) other
        go (RemoveByLeft k) (u, e, p) =
            let same : remove_by_left_of x ≡ remove_by_left_of u = sym is ∙ e in
            let same_x : x ≡ u = cc in
            left.symm l k ∙ a.only k (subst (λ d. reads_left d k) (sym same_x) p)
        go (Insert k s) (u, v, e, p, q) = not_insert_left (sym (same_name (codes "remove_by_left") (codes "insert") (item x no_items) (item u (item v no_items)) (sym is ∙ e)))
        go (RemoveByRight s) (v, e, q) = not_left_right (same_name (codes "remove_by_left") (codes "remove_by_right") (item x no_items) (item v no_items) (sym is ∙ e))
        go Clear e = not_clear_left (sym (same_name (codes "remove_by_left") (codes "clear") (item x no_items) no_items (sym is ∙ e)))

    pub line_of_right : (y : Data) (r : R) → value ≡ remove_by_right_of y → ReadsBack same_right (reads_right y) r → Line text (RemoveByRight r)
    line_of_right y r is b =
        record {
          is_read = (RemoveByRight b.as_value, record { value = value; says = says; reads = (y, is, b.reads) });
          only = λ other t. go other (read_by other t);
        }
      where
        go : (other : Change L R) → Reads reads_left reads_right value other → AreAlike same_left same_right (RemoveByRight r) other
        go (RemoveByRight s) (v, e, q) =
            let same : remove_by_right_of y ≡ remove_by_right_of v = sym is ∙ e in
            let same_y : y ≡ v = cc in
            right.symm r s ∙ b.only s (subst (λ d. reads_right d s) (sym same_y) q)
        go (Insert k s) (u, v, e, p, q) = not_insert_right (sym (same_name (codes "remove_by_right") (codes "insert") (item y no_items) (item u (item v no_items)) (sym is ∙ e)))
        go (RemoveByLeft k) (u, e, p) = not_left_right (sym (same_name (codes "remove_by_right") (codes "remove_by_left") (item y no_items) (item u no_items) (sym is ∙ e)))
        go Clear e = not_clear_right (sym (same_name (codes "remove_by_right") (codes "clear") (item y no_items) no_items (sym is ∙ e)))

    pub line_of_clear : value ≡ clear_of → Line text Clear
    line_of_clear is =
        record {
          is_read = (Clear, record { value = value; says = says; reads = is });
          only = λ other t. go other (read_by other t);
        }
      where
        go : (other : Change L R) → Reads reads_left reads_right value other → AreAlike same_left same_right Clear other
        go Clear e = tt
        go (Insert k s) (u, v, e, p, q) = not_clear_insert (same_name (codes "clear") (codes "insert") no_items (item u (item v no_items)) (sym is ∙ e))
        go (RemoveByLeft k) (u, e, p) = not_clear_left (same_name (codes "clear") (codes "remove_by_left") no_items (item u no_items) (sym is ∙ e))
        go (RemoveByRight s) (v, e, q) = not_clear_right (same_name (codes "clear") (codes "remove_by_right") no_items (item v no_items) (sym is ∙ e))

    module _ (one_left : ReadsAsOne reads_left same_left) (one_right : ReadsAsOne reads_right same_right) where
      -- A text that reads as a change is a line of this change, since its values read as equal values only.
      pub line_of_read : (change : Change L R) → Reads reads_left reads_right value change → Line text change
      line_of_read change reads = record { is_read = (change, record { value = value; says = says; reads = reads }); only = λ other t. go change other reads (read_by other t) }
        where
          go : (change other : Change L R) → Reads reads_left reads_right value change → Reads reads_left reads_right value other → AreAlike same_left same_right change other
          go (Insert l r) (Insert k s) (x, y, is, a, b) (u, v, e, p, q) =
              let same : insert_of x y ≡ insert_of u v = sym is ∙ e in
              let same_x : x ≡ u = cc in
              let same_y : y ≡ v = cc in
              (one_left u l k (subst (λ d. reads_left d l) same_x a) p, one_right v r s (subst (λ d. reads_right d r) same_y b) q)
          go (Insert l r) (RemoveByLeft k) (x, y, is, a, b) (u, e, p) = not_insert_left (same_name (codes "insert") (codes "remove_by_left") (item x (item y no_items)) (item u no_items) (sym is ∙ e))
          go (Insert l r) (RemoveByRight s) (x, y, is, a, b) (v, e, q) = not_insert_right (same_name (codes "insert") (codes "remove_by_right") (item x (item y no_items)) (item v no_items) (sym is ∙ e))
          go (Insert l r) Clear (x, y, is, a, b) e = not_clear_insert (sym (same_name (codes "insert") (codes "clear") (item x (item y no_items)) no_items (sym is ∙ e)))
          go (RemoveByLeft l) (RemoveByLeft k) (x, is, a) (u, e, p) =
              let same : remove_by_left_of x ≡ remove_by_left_of u = sym is ∙ e in
              let same_x : x ≡ u = cc in
              one_left u l k (subst (λ d. reads_left d l) same_x a) p
          go (RemoveByLeft l) (Insert k s) (x, is, a) (u, v, e, p, q) = not_insert_left (sym (same_name (codes "remove_by_left") (codes "insert") (item x no_items) (item u (item v no_items)) (sym is ∙ e)))
          go (RemoveByLeft l) (RemoveByRight s) (x, is, a) (v, e, q) = not_left_right (same_name (codes "remove_by_left") (codes "remove_by_right") (item x no_items) (item v no_items) (sym is ∙ e))
          go (RemoveByLeft l) Clear (x, is, a) e = not_clear_left (sym (same_name (codes "remove_by_left") (codes "clear") (item x no_items) no_items (sym is ∙ e)))
          go (RemoveByRight r) (RemoveByRight s) (y, is, b) (v, e, q) =
              let same : remove_by_right_of y ≡ remove_by_right_of v = sym is ∙ e in
              let same_y : y ≡ v = cc in
              one_right v r s (subst (λ d. reads_right d r) same_y b) q
          go (RemoveByRight r) (Insert k s) (y, is, b) (u, v, e, p, q) = not_insert_right (sym (same_name (codes "remove_by_right") (codes "insert") (item y no_items) (item u (item v no_items)) (sym is ∙ e)))
          go (RemoveByRight r) (RemoveByLeft k) (y, is, b) (u, e, p) = not_left_right (sym (same_name (codes "remove_by_right") (codes "remove_by_left") (item y no_items) (item u no_items) (sym is ∙ e)))
          go (RemoveByRight r) Clear (y, is, b) e = not_clear_right (sym (same_name (codes "remove_by_right") (codes "clear") (item y no_items) no_items (sym is ∙ e)))
          go Clear Clear is e = tt
          go Clear (Insert k s) is (u, v, e, p, q) = not_clear_insert (same_name (codes "clear") (codes "insert") no_items (item u (item v no_items)) (sym is ∙ e))
          go Clear (RemoveByLeft k) is (u, e, p) = not_clear_left (same_name (codes "clear") (codes "remove_by_left") no_items (item u no_items) (sym is ∙ e))
          go Clear (RemoveByRight s) is (v, e, q) = not_clear_right (same_name (codes "clear") (codes "remove_by_right") no_items (item v no_items) (sym is ∙ e))
