-- Sets of pairs. A set is a predicate on pairs. `Contains` turns a list of pairs into the set of its members.
use Rattle.std.specs.Prelude.{◌≡◌, ◌↔◌, ◌⊎◌, ◌||◌, Bool, true, false, List}
use Rattle.std.specs.List.{AllPairs}

-- The two sets have the same members.
abbrev pub IsSameSet : {X : Type 0} → (X → Type 0) → (X → Type 0) → Type 0
IsSameSet {X} S T = (x : X) → S x ↔ T x

module _ {L R : Type 0} (same_left : L → L → Bool) (same_right : R → R → Bool) where
  -- The two pairs have equal lefts or equal rights.
  abbrev pub shares : L × R → L × R → Bool
  shares p q = same_left p.0 q.0 || same_right p.1 q.1

  -- No member of S shares a value with `p`.
  abbrev pub NoneShares : (L × R → Type 0) → L × R → Type 0
  NoneShares S p = (q : L × R) → S q → shares q p ≡ false

  -- Some member of S shares a value with `p`.
  abbrev pub SomeShares : (L × R → Type 0) → L × R → Type 0
  SomeShares S p = (q : L × R) × S q × (shares q p ≡ true)

  -- No two pairs of the list share a value.
  abbrev pub IsApart : List (L × R) → Type 0
  IsApart pairs = AllPairs (λ p q. shares p q ≡ false) pairs

  -- T has the pair `p`, and the members of S that share no value with `p`.
  abbrev pub IsWithPut : (L × R → Type 0) → L × R → (L × R → Type 0) → Type 0
  IsWithPut S p T = (q : L × R) → T q ↔ ((q ≡ p) ⊎ (S q × (shares q p ≡ false)))

module _ {L R Q : Type 0} (same_left : L → Q → Bool) where
  -- Some member of S has this left.
  abbrev pub HasLeft : (L × R → Type 0) → Q → Type 0
  HasLeft S l = (q : L × R) × S q × (same_left q.0 l ≡ true)

  -- No member of S has this left.
  abbrev pub LacksLeft : (L × R → Type 0) → Q → Type 0
  LacksLeft S l = (q : L × R) → S q → same_left q.0 l ≡ false

  -- T is S without the pairs that have this left.
  abbrev pub IsWithoutLeft : (L × R → Type 0) → Q → (L × R → Type 0) → Type 0
  IsWithoutLeft S l T = (q : L × R) → T q ↔ (S q × (same_left q.0 l ≡ false))

module _ {L R Q : Type 0} (same_right : R → Q → Bool) where
  -- Some member of S has this right.
  abbrev pub HasRight : (L × R → Type 0) → Q → Type 0
  HasRight S r = (q : L × R) × S q × (same_right q.1 r ≡ true)

  -- No member of S has this right.
  abbrev pub LacksRight : (L × R → Type 0) → Q → Type 0
  LacksRight S r = (q : L × R) → S q → same_right q.1 r ≡ false

  -- T is S without the pairs that have this right.
  abbrev pub IsWithoutRight : (L × R → Type 0) → Q → (L × R → Type 0) → Type 0
  IsWithoutRight S r T = (q : L × R) → T q ↔ (S q × (same_right q.1 r ≡ false))
