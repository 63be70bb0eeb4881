-- What a call leaves that removes pairs by the result of a closure. The closure may have a state.
use Rattle.std.specs.Prelude.{◌≡◌, Bool, true, false, not, List, [], ◌∷◌}
use Rattle.std.specs.List.{FoldsTo}
use denote.Param.Members.{Mut}
use denote.Ref.{Bor}
use Rattle.bimap_base.specs.Kept.{TestsInOrder, answered_true}

module _ {F L R : Type 0} (g : Mut F (Bor L × (Bor R × Unit {0})) Bool) where
  -- The pairs of the list on which the closure returned `false`.
  abbrev pub answered_false : List (L × R) → List Bool → List (L × R)
  answered_false [] bs = []
  answered_false (p ∷ ps) [] = []
  answered_false (p ∷ ps) (true ∷ bs) = answered_false ps bs
  answered_false (p ∷ ps) (false ∷ bs) = p ∷ answered_false ps bs

  -- The pairs of the list on which the closure returned this value.
  abbrev pub answered : Bool → List (L × R) → List Bool → List (L × R)
  answered true = answered_true g
  answered false = answered_false

  -- The closure was called once on each pair, in their order.
  -- The pairs on which it returned `goes` were given to an outlet, in that order.
  -- The other pairs are left.
  pub record IsPartition {S : Type 0} (receives : S → L × R → S → Type 0) (goes : Bool) (f : F) (held left : List (L × R)) (from to : S) : Type 0 where
    pub answers : List Bool
    pub last : F
    pub calls : TestsInOrder g f held answers last
    pub gone : FoldsTo receives from (answered goes held answers) to
    pub kept : left ≡ answered (not goes) held answers
