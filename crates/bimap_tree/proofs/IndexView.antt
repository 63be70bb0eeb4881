-- The tree that is read from the nodes is the tree that the nodes show.
use Rattle.std.proofs.Common.{◌≡◌, ℕ, zero, suc, ◌^◌, ◌≤◌, ◌<◌, List, Option, None, refl, sym, subst, ap, arith, ◌∙◌}
use Rattle.std.specs.Prelude.{slice_get}
use Rattle.bimap_base.specs.declared.cells.Node.{Node}
use Rattle.bimap_tree.specs.Tree.{Tree, leaf, fork, height, size, Shows, Stands, root_of}
use Rattle.bimap_tree.specs.IndexView.{height_at}
use Rattle.bimap_tree.specs.IndexView.{tree_at, tree_in, left_in, right_in, IsIndex, IsWhole}
use Rattle.bimap_tree.proofs.Shown.{height_told}

pub tree_at-shown : (ns : List Node) (t : Tree) (levels : ℕ) → Shows ns t → height t ≤ levels → tree_at ns levels (root_of t) ≡ t
tree_at-shown ns leaf zero h le = refl
tree_at-shown ns leaf (suc levels) h le = refl
tree_at-shown ns (fork l p r) zero h le = absurd (omega arith)
tree_at-shown ns (fork l p r) (suc levels) h le =
    let a : left_in (slice_get ns p) ≡ root_of l = ap left_in h.0 in
    let b : right_in (slice_get ns p) ≡ root_of r = ap right_in h.0 in
    ap (λ x. fork (tree_at ns levels x) p (tree_at ns levels (right_in (slice_get ns p)))) a
    ∙ ap (λ x. fork (tree_at ns levels (root_of l)) p (tree_at ns levels x)) b
    ∙ ap (λ x. fork x p (tree_at ns levels (root_of r))) (tree_at-shown ns l levels h.1 (omega arith))
    ∙ ap (λ x. fork l p x) (tree_at-shown ns r levels h.2 (omega arith))

pub tree_in-shown : (ns : List Node) (root : Option ℕ) (t : Tree) → Stands ns root t → tree_in ns root ≡ t
unfolding tree_in
tree_in-shown ns root t h =
    rw (sym h.root_is) (tree_at-shown ns t (height_at ns (root_of t)) h.shown (omega (arith, height_told ns (root_of t) t (record { root_is = refl; shown = h.shown }))))

pub whole_of : (ns : List Node) (root : Option ℕ) (len : ℕ) (t : Tree) → IsIndex ns root t → len ≡ size t → len < 2 ^ 64 → IsWhole ns root len
whole_of ns root len t h e few =
    let same = tree_in-shown ns root t h.tree in
    record { index = subst (λ x. IsIndex ns root x) (sym same) h; counted = e ∙ ap size (sym same); few = few }

pub no_index : (ns : List Node) → IsIndex ns None leaf
no_index ns = record { tree = record { root_is = refl; shown = tt }; balanced = tt; distinct = λ q. omega arith }
