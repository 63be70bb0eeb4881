-- What the values of a JSON array say about how many there are.
use Rattle.std.proofs.Common.{◌≡◌, ◌≢◌, ◌∙◌, ℕ, List, [], ◌∷◌, length, refl, sym, ap, codes, arith}
use Rattle.serde_json.specs.Data.{Data, Items, array, item, no_items, string}
use Rattle.serde_json.specs.View.{items_view}
use Rattle.serde_json.specs.declared.value.Value.{Value}
use Rattle.bimap.specs.JsonReading.{ReadsNothing}
use Rattle.bimap.specs.declared.value.sides.ReadFault.{ReadFault}
use Rattle.bimap.specs.declared.value.sides.ReadFault.TheVariants.{Bad, Memory}
use Rattle.std.specs.Prelude.{Err}
use Rattle.bimap_journal.specs.Changes.{Reads, IsReading}
use Rattle.bimap_journal.specs.declared.change.Change.TheVariants.{Insert, RemoveByLeft, RemoveByRight, Clear}

pub one_long : (values : List Value) (x : Data) → items_view values ≡ item x no_items → length values ≡ 1
one_long [] x e = absurd (cc)
one_long (value ∷ []) x e = refl
one_long (value ∷ (other ∷ values)) x e = absurd (cc)

pub two_long : (values : List Value) (x y : Data) → items_view values ≡ item x (item y no_items) → length values ≡ 2
two_long [] x y e = absurd (cc)
two_long (value ∷ []) x y e = absurd (cc)
two_long (value ∷ (other ∷ [])) x y e = refl
two_long (value ∷ (other ∷ (third ∷ values))) x y e = absurd (cc)

-- Values that are none.
pub none_is : (values : List Value) → length values ≡ 0 → items_view values ≡ no_items
none_is [] e = refl
none_is (value ∷ values) e = absurd (omega (arith, e))

-- The names of the changes differ.
pub not_left_right : codes "remove_by_left" ≢ codes "remove_by_right"
not_left_right e = let f : 14 ≡ 15 = ap length e in absurd (omega (arith, f))

pub not_insert_left : codes "insert" ≢ codes "remove_by_left"
not_insert_left e = let f : 6 ≡ 14 = ap length e in absurd (omega (arith, f))

pub not_insert_right : codes "insert" ≢ codes "remove_by_right"
not_insert_right e = let f : 6 ≡ 15 = ap length e in absurd (omega (arith, f))

pub not_clear_insert : codes "clear" ≢ codes "insert"
not_clear_insert e = let f : 5 ≡ 6 = ap length e in absurd (omega (arith, f))

pub not_clear_left : codes "clear" ≢ codes "remove_by_left"
not_clear_left e = let f : 5 ≡ 14 = ap length e in absurd (omega (arith, f))

pub not_clear_right : codes "clear" ≢ codes "remove_by_right"
not_clear_right e = let f : 5 ≡ 15 = ap length e in absurd (omega (arith, f))

-- An array determines its name and its values.
pub same_name : (a b : List ℕ) (xs ys : Items) → array (item (string a) xs) ≡ array (item (string b) ys) → a ≡ b
same_name a b xs ys e = cc

pub same_values : (a b : List ℕ) (xs ys : Items) → array (item (string a) xs) ≡ array (item (string b) ys) → xs ≡ ys
same_values a b xs ys e = cc

module _ {L R : Type 0} (reads_left : Data → L → Type 0) (reads_right : Data → R → Type 0) (value : Data) (name : List ℕ) (values : Items) (is : value ≡ array (item (string name) values)) where
  -- What two values read as, as an insertion.
  pub insert_fault : name ≡ codes "insert" → (fault : ReadFault) → IsReading (λ (p : L × R). (x y : Data) × (values ≡ item x (item y no_items)) × reads_left x p.0 × reads_right y p.1) (Err fault) → IsReading (Reads reads_left reads_right value) (Err fault)
  insert_fault named Memory nothing = tt
  insert_fault named Bad nothing = go
    where
      go : ReadsNothing (Reads reads_left reads_right value)
      go (Insert l r) (x, y, e, a, b) = nothing (l, r) (x, y, same_values name (codes "insert") values (item x (item y no_items)) (sym is ∙ e), a, b)
      go (RemoveByLeft l) (x, e, a) = not_insert_left (sym named ∙ same_name name (codes "remove_by_left") values (item x no_items) (sym is ∙ e))
      go (RemoveByRight r) (y, e, b) = not_insert_right (sym named ∙ same_name name (codes "remove_by_right") values (item y no_items) (sym is ∙ e))
      go Clear e = not_clear_insert (sym (same_name name (codes "clear") values no_items (sym is ∙ e)) ∙ named)

  pub left_fault : name ≡ codes "remove_by_left" → (fault : ReadFault) → IsReading (λ (l : L). (x : Data) × (values ≡ item x no_items) × reads_left x l) (Err fault) → IsReading (Reads reads_left reads_right value) (Err fault)
  left_fault named Memory nothing = tt
  left_fault named Bad nothing = go
    where
      go : ReadsNothing (Reads reads_left reads_right value)
      go (Insert l r) (x, y, e, a, b) = not_insert_left (sym (same_name name (codes "insert") values (item x (item y no_items)) (sym is ∙ e)) ∙ named)
      go (RemoveByLeft l) (x, e, a) = nothing l (x, same_values name (codes "remove_by_left") values (item x no_items) (sym is ∙ e), a)
      go (RemoveByRight r) (y, e, b) = not_left_right (sym named ∙ same_name name (codes "remove_by_right") values (item y no_items) (sym is ∙ e))
      go Clear e = not_clear_left (sym (same_name name (codes "clear") values no_items (sym is ∙ e)) ∙ named)

  pub right_fault : name ≡ codes "remove_by_right" → (fault : ReadFault) → IsReading (λ (r : R). (y : Data) × (values ≡ item y no_items) × reads_right y r) (Err fault) → IsReading (Reads reads_left reads_right value) (Err fault)
  right_fault named Memory nothing = tt
  right_fault named Bad nothing = go
    where
      go : ReadsNothing (Reads reads_left reads_right value)
      go (Insert l r) (x, y, e, a, b) = not_insert_right (sym (same_name name (codes "insert") values (item x (item y no_items)) (sym is ∙ e)) ∙ named)
      go (RemoveByLeft l) (x, e, a) = not_left_right (sym (same_name name (codes "remove_by_left") values (item x no_items) (sym is ∙ e)) ∙ named)
      go (RemoveByRight r) (y, e, b) = nothing r (y, same_values name (codes "remove_by_right") values (item y no_items) (sym is ∙ e), b)
      go Clear e = not_clear_right (sym (same_name name (codes "clear") values no_items (sym is ∙ e)) ∙ named)

  -- An array of another name, or a clear with values, is no change.
  pub no_change : name ≢ codes "insert" → name ≢ codes "remove_by_left" → name ≢ codes "remove_by_right" → (name ≡ codes "clear" → values ≢ no_items) → ReadsNothing (Reads reads_left reads_right value)
  no_change a b c d (Insert l r) (x, y, e, p, q) = a (same_name name (codes "insert") values (item x (item y no_items)) (sym is ∙ e))
  no_change a b c d (RemoveByLeft l) (x, e, p) = b (same_name name (codes "remove_by_left") values (item x no_items) (sym is ∙ e))
  no_change a b c d (RemoveByRight r) (y, e, q) = c (same_name name (codes "remove_by_right") values (item y no_items) (sym is ∙ e))
  no_change a b c d Clear e = d (same_name name (codes "clear") values no_items (sym is ∙ e)) (same_values name (codes "clear") values no_items (sym is ∙ e))

pub some_are : (values : List Value) → items_view values ≡ no_items → length values ≡ 0
some_are [] e = refl
some_are (value ∷ values) e = absurd (cc)
