-- Lists of pairs in insertion order. They say which position a new pair gets, and that the other pairs keep their order.
use Rattle.std.specs.Prelude.{◌≡◌, ◌+◌, Bool, true, false, Option, List, [], ◌∷◌, ◌++◌, length}
use Rattle.std.specs.Iterator.{Drains}
use Rattle.bimap_base.specs.declared.overwritten.Overwritten.{Overwritten}
use Rattle.bimap_base.specs.declared.overwritten.Overwritten.TheVariants.{Neither, Left, Right, Pair, Both}

module _ {X : Type 0} where
  -- `x` is removed, and the others keep their order.
  pub record IsTakenOut (old : List X) (x : X) (new : List X) : Type 0 where
    pub before : List X
    pub after : List X
    pub stood : old ≡ before ++ x ∷ after
    pub left : new ≡ before ++ after

  -- `y` gets the position of `x`, and the others keep their order.
  pub record IsReplaced (old : List X) (x y : X) (new : List X) : Type 0 where
    pub before : List X
    pub after : List X
    pub stood : old ≡ before ++ x ∷ after
    pub stands : new ≡ before ++ y ∷ after

  -- `x` is removed, and `y` comes last.
  pub record ComesLast (old : List X) (x y : X) (new : List X) : Type 0 where
    pub rest : List X
    pub out : IsTakenOut old x rest
    pub last : new ≡ rest ++ y ∷ []

  -- `second` is removed, and `y` gets the position of `first`.
  pub record ReplacesBoth (old : List X) (first second y : X) (new : List X) : Type 0 where
    pub rest : List X
    pub out : IsTakenOut old second rest
    pub stands : IsReplaced rest first y new

-- A new pair that overwrites a pair of an equal left gets that pair's position. Any other new pair comes last. The others keep
-- their order.
abbrev pub StandsInOrder : {L R : Type 0} → List (L × R) → L × R → Overwritten L R → List (L × R) → Type 0
StandsInOrder old pair Neither new = new ≡ old ++ pair ∷ []
StandsInOrder old pair (Left l r) new = IsReplaced old (l, r) pair new
StandsInOrder old pair (Right l r) new = ComesLast old (l, r) pair new
StandsInOrder old pair (Pair l r) new = IsReplaced old (l, r) pair new
StandsInOrder old pair (Both p q) new = ReplacesBoth old p q pair new

-- If the lefts of the two pairs are equal, `other` gets the position of `pair`. If not, `pair` is removed, and `other` comes
-- last.
pub record StandsFor {L R : Type 0} (same_left : L → L → Bool) (old : List (L × R)) (pair other : L × R) (new : List (L × R)) : Type 0 where
  pub stays : same_left pair.0 other.0 ≡ true → IsReplaced old pair other new
  pub goes : same_left pair.0 other.0 ≡ false → ComesLast old pair other new

-- The pair `taken` is removed, and the pairs that it overwrote are inserted again. The first of them replaces it as `StandsFor`
-- says. If there is a second, it comes last.
abbrev pub StandsUndone : {L R : Type 0} → (L → L → Bool) → List (L × R) → L × R → Overwritten L R → List (L × R) → Type 0
StandsUndone same_left old taken Neither new = IsTakenOut old taken new
StandsUndone same_left old taken (Left l r) new = StandsFor same_left old taken (l, r) new
StandsUndone same_left old taken (Right l r) new = StandsFor same_left old taken (l, r) new
StandsUndone same_left old taken (Pair l r) new = StandsFor same_left old taken (l, r) new
StandsUndone {L} {R} same_left old taken (Both p q) new = (rest : List (L × R)) × StandsFor same_left old taken p rest × (new ≡ rest ++ q ∷ [])

-- The pair that had `taken` now has `to`, and comes last. `pair` makes a pair of such a value and a value of the other side.
pub record ComesLastWith {L R K M : Type 0} (pair : K → M → L × R) (old : List (L × R)) (taken to : K) (new : List (L × R)) : Type 0 where
  pub other : M
  pub last : ComesLast old (pair taken other) (pair to other) new

-- The pairs of the two lefts come last with their rights exchanged. Of the two, the pair of `other` comes first.
pub record ComeLastSwapped {L R : Type 0} (same_left : L → L → Bool) (old : List (L × R)) (left other : L) (new : List (L × R)) : Type 0 where
  pub first : L × R
  pub second : L × R
  pub by_left : same_left first.0 left ≡ true
  pub by_other : same_left second.0 other ≡ true
  pub less : List (L × R)
  pub rest : List (L × R)
  pub first_out : IsTakenOut old first less
  pub second_out : IsTakenOut less second rest
  pub last : new ≡ rest ++ (second.0, first.1) ∷ (first.0, second.1) ∷ []

-- If `new` has one pair more for each of these items, the items come last, in order.
abbrev pub ComeInOrder : {X : Type 0} → List X → List X → List X → Type 0
ComeInOrder old items new = length new ≡ length old + length items → new ≡ old ++ items

-- An iterator gave these items. If `new` has one pair more for each of them, they come last, in order.
pub record FollowInOrder {It X : Type 0} (gives : It → Type 0) (next : It → Option X → It → Type 0) (old new : List X) : Type 0 where
  pub iterator : It
  pub items : List X
  pub given : gives iterator
  pub all : Drains next iterator items
  pub in_turn : ComeInOrder old items new
