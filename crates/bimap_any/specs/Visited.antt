-- Which pairs `for_each` visits. The state of its closure may change from call to call.
use Rattle.std.specs.Prelude.{List, ◌∷◌, ◌++◌, IsPermutation}
use Rattle.std.specs.List.{FoldsTo}
use denote.Param.Members.{Mut}
use denote.Ref.{Bor}
use Rattle.bimap_base.specs.Kept.{TestedAt}

module _ {F L R : Type 0} (g : Mut F (Bor L × (Bor R × Unit {0})) (Unit {0})) where
  -- `f` was called with each pair of the list in order. Each call began in the state that the call before it left.
  abbrev pub VisitsInOrder : F → List (L × R) → F → Type 0
  VisitsInOrder f pairs last = FoldsTo (λ state p next. TestedAt g state p tt next) f pairs last

  -- `f` may be called once with each pair of the bimap, in any order.
  pub record MayVisit (f : F) (held : List (L × R)) : Type 0 where
    pub at : (ps : List (L × R)) (later : F) (left : Bor L) (right : Bor R) (rest : List (L × R)) → IsPermutation held (ps ++ (left.now, right.now) ∷ rest) → VisitsInOrder f ps later → g.pre later (left, (right, tt))

  -- `f` was called once with each pair of the bimap, in some order.
  pub record IsVisited (f : F) (held : List (L × R)) : Type 0 where
    pub order : List (L × R)
    pub last : F
    pub each_once : IsPermutation held order
    pub calls : VisitsInOrder f order last
