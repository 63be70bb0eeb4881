-- A move to an end of a list.
use Rattle.std.specs.Prelude.{◌≡◌, Bool, true, false, List, ◌∷◌, Contains}
use Rattle.bimap_base.specs.Positions.{IsTakenOut}

-- `x` is removed and comes first. The others keep their order.
pub record ComesFirst {X : Type 0} (old : List X) (x : X) (new : List X) : Type 0 where
  pub rest : List X
  pub out : IsTakenOut old x rest
  pub first : new ≡ x ∷ rest

-- An element that passes the test is moved as `Comes` says, and the result is `true`. If there is no such element, nothing is
-- moved, and the result is `false`.
pub record IsMove {X : Type 0} (passes : X → Bool) (Comes : List X → X → List X → Type 0) (old : List X) (result : Bool) (new : List X) : Type 0 where
  pub moved : result ≡ true → (x : X) × (passes x ≡ true) × Comes old x new
  pub absent : result ≡ false → (x : X) → Contains old x → passes x ≡ false
  pub unmoved : result ≡ false → new ≡ old
