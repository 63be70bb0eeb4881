-- What a contract for C says by the kind of a table.
use Rattle.std.specs.Prelude.{◌≡◌, ℕ}
use Rattle.bimap_dynamic.specs.declared.any_of.AnyOf.{AnyOf}
use Rattle.bimap_dynamic.specs.declared.any_of.AnyOf.TheVariants.{Ordered, Hashed, InsertionOrder}

-- What a table contains, under its kind.
abbrev pub Kinds : Type 0 → Type 0
Kinds X = AnyOf X X X

-- What the function of its kind gives for a map, under that kind.
abbrev pub map_kinds : {O H I X : Type 0} → (O → X) → (H → X) → (I → X) → AnyOf O H I → Kinds X
map_kinds o h i (Ordered map) = Ordered (o map)
map_kinds o h i (Hashed map) = Hashed (h map)
map_kinds o h i (InsertionOrder map) = InsertionOrder (i map)

module _ {X : Type 0} where
  -- What a table contains, of whichever kind it is.
  abbrev pub in_kind : Kinds X → X
  in_kind (Ordered x) = x
  in_kind (Hashed x) = x
  in_kind (InsertionOrder x) = x

  -- The statement of its kind is true.
  abbrev pub MatchKind : (X → Type 0) → (X → Type 0) → (X → Type 0) → Kinds X → Type 0
  MatchKind o h i (Ordered x) = o x
  MatchKind o h i (Hashed x) = h x
  MatchKind o h i (InsertionOrder x) = i x

  -- Both are of one kind, and the statement of this kind is true of them.
  abbrev pub MatchKinds : (X → X → Type 0) → (X → X → Type 0) → (X → X → Type 0) → Kinds X → Kinds X → Type 0
  MatchKinds o h i (Ordered x) (Ordered y) = o x y
  MatchKinds o h i (Hashed x) (Hashed y) = h x y
  MatchKinds o h i (InsertionOrder x) (InsertionOrder y) = i x y
  MatchKinds o h i x y = ⊥

  -- It is of the kind that has this number in C, and the statement is true.
  abbrev pub IsOfKind : ℕ → Kinds X → (X → Type 0) → Type 0
  IsOfKind kind (Ordered x) holds = (kind ≡ 0) × holds x
  IsOfKind kind (Hashed x) holds = (kind ≡ 1) × holds x
  IsOfKind kind (InsertionOrder x) holds = (kind ≡ 2) × holds x
