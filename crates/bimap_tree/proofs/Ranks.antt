-- Places by their rank.
use Rattle.std.proofs.Common.{◌≡◌, ℕ, suc, ◌+◌, ◌<◌, List, [], ◌∷◌, ◌++◌, Some, length, refl, ◌∙◌, ap, arith, zero-add}
use Rattle.std.specs.Prelude.{slice_get}
use Rattle.bimap_base.proofs.NodesInCells.{get-front}
use Rattle.bimap_tree.specs.Tree.{Tree, fork, reading, size}
use Rattle.bimap_tree.proofs.Shown.{size-reading}

get_past : (xs ys : List ℕ) (j : ℕ) → slice_get (xs ++ ys) (length xs + j) ≡ slice_get ys j
get_past [] ys j = rw zero-add refl
get_past (x ∷ xs) ys j = let e : suc (length xs) + j ≡ suc (length xs + j) = omega arith in rw e (get_past xs ys j)

pub rank_left : (t l r : Tree) (at rank place : ℕ) → t ≡ fork l at r → rank < size l → slice_get (reading l) rank ≡ Some place → slice_get (reading t) rank ≡ Some place
rank_left t l r at rank place e h f =
    ap (λ x. slice_get (reading x) rank) e ∙ get-front (reading l) (at ∷ reading r) rank (rw size-reading h) ∙ f

pub rank_here : (t l r : Tree) (at rank : ℕ) → t ≡ fork l at r → rank ≡ size l → slice_get (reading t) rank ≡ Some at
rank_here t l r at rank e h =
    let n : rank ≡ length (reading l) + 0 = omega (arith, h, size-reading l) in
    ap (λ x. slice_get (reading x) rank) e ∙ ap (λ x. slice_get (reading l ++ at ∷ reading r) x) n ∙ get_past (reading l) (at ∷ reading r) 0

pub rank_right : (t l r : Tree) (at rank rest place : ℕ) → t ≡ fork l at r → rank ≡ suc (size l + rest) → slice_get (reading r) rest ≡ Some place → slice_get (reading t) rank ≡ Some place
rank_right t l r at rank rest place e h f =
    let n : rank ≡ length (reading l) + suc rest = omega (arith, h, size-reading l) in
    ap (λ x. slice_get (reading x) rank) e ∙ ap (λ x. slice_get (reading l ++ at ∷ reading r) x) n ∙ get_past (reading l) (at ∷ reading r) (suc rest) ∙ f
