-- Trees that nodes show.
use Rattle.std.proofs.Common.{◌≡◌, ◌≢◌, ℕ, zero, suc, ◌+◌, ◌≤◌, ◌<◌, List, [], ◌∷◌, Option, Some, None, refl, sym, ◌∙◌, ap, arith, length, length-append, inl, inr}
use Rattle.std.specs.Prelude.{slice_get, slice_set}
use Rattle.std.proofs.lemmas.Bool.{eq-eqb}
use Rattle.std.proofs.lemmas.Option.{slice_get_within}
use Rattle.std.proofs.lemmas.Bool.Decides.{eqb_tells, leb_tells}
use Rattle.bimap_base.specs.declared.cells.Node.{Node}
use Rattle.bimap_base.specs.NodesInCells.{IsThere}
use Rattle.bimap_tree.specs.Tree.{Tree, leaf, fork, reading, height, size, root_of, node_of, Shows, is_at, occurs, IsDistinctTree, Stands}
use Rattle.bimap_tree.specs.IndexView.{height_at}

pub is_at-same : (p : ℕ) → is_at p p ≡ 1
is_at-same p = rw (eq-eqb p p refl)

pub is_at-other : (q p : ℕ) → q ≢ p → is_at q p ≡ 0
is_at-other q p n = elim (eqb_tells q p) [ inl w ↦ absurd (n w.1) | inr w ↦ rw w.0 ]

-- Other nodes that agree on a tree's places show the tree too.
pub Shows-frame : (ns ms : List Node) (t : Tree) → ((q : ℕ) → 0 < occurs q t → slice_get ms q ≡ slice_get ns q) → Shows ns t → Shows ms t
Shows-frame ns ms leaf same h = tt
Shows-frame ns ms (fork l p r) same h =
    (same p (omega (arith, is_at-same p)) ∙ h.0, Shows-frame ns ms l (λ q o. same q (omega arith)) h.1, Shows-frame ns ms r (λ q o. same q (omega arith)) h.2)

-- A write at a place, and what is elsewhere.
pub get-written : {X : Type 0} (xs : List X) (i : ℕ) (v : X) → i < length xs → slice_get (slice_set xs i v) i ≡ Some v
get-written [] i v h = absurd (omega arith)
get-written (x ∷ xs) zero v h = refl
get-written (x ∷ xs) (suc i) v h = get-written xs i v (omega arith)

pub get-elsewhere : {X : Type 0} (xs : List X) (i j : ℕ) (v : X) → j ≢ i → slice_get (slice_set xs i v) j ≡ slice_get xs j
get-elsewhere [] i j v n = refl
get-elsewhere (x ∷ xs) zero zero v n = absurd (n refl)
get-elsewhere (x ∷ xs) zero (suc j) v n = refl
get-elsewhere (x ∷ xs) (suc i) zero v n = refl
get-elsewhere (x ∷ xs) (suc i) (suc j) v n = get-elsewhere xs i j v (λ e. n (ap suc e))

-- A tree without the place is still shown after a write at the place.
pub Shows-keeps : (ns ms : List Node) (t : Tree) (p : ℕ) (v : Node) → ms ≡ slice_set ns p v → occurs p t ≡ 0 → Shows ns t → Shows ms t
Shows-keeps ns ms t p v e none h =
    Shows-frame ns ms t (λ q o. rw e (get-elsewhere ns p q v (λ d. absurd (let z : occurs q t ≡ 0 = rw d none in omega arith)))) h

pub is_at-apart : (q p : ℕ) → is_at q p ≡ 0 → q ≢ p
is_at-apart q p z e = let h : is_at p p ≡ 0 = rw e at z in absurd (omega (arith, is_at-same p))

-- A tree without a root has no place.
pub no_root : (t : Tree) → root_of t ≡ None → t ≡ leaf
no_root leaf e = refl
no_root (fork l p r) e = absurd (cc)

-- A tree whose root is a place has two subtrees.
pub a_fork : (t : Tree) (at : ℕ) → root_of t ≡ Some at → (l : Tree) × (r : Tree) × (t ≡ fork l at r)
a_fork leaf at e = absurd (cc)
a_fork (fork l p r) at e = let same : p ≡ at = cc in (l, r, ap (λ x. fork l x r) same)

-- A tree whose root is a place, with the node of that place.
pub record Opened (ns : List Node) (p : ℕ) (node : Node) (t l r : Tree) : Type 0 where
  pub is : t ≡ fork l p r
  pub node_is : node ≡ node_of l r
  pub left_stands : Stands ns node.left l
  pub right_stands : Stands ns node.right r

pub opened : (ns : List Node) (root : Option ℕ) (p : ℕ) (node : Node) (t : Tree) → Stands ns root t → root ≡ Some p → slice_get ns p ≡ Some node
    → (l : Tree) × (r : Tree) × Opened ns p node t l r
opened ns root p node t h some e =
    let (l, r, whole) = a_fork t p (h.root_is ∙ some) in
    let shown : Shows ns (fork l p r) = rw whole at h.shown in
    let told : Some node ≡ Some (node_of l r) = sym e ∙ shown.0 in
    let is : node ≡ node_of l r = cc in (
      l,
      r,
      record {
        is = whole;
        node_is = is;
        left_stands = record { root_is = sym (ap (λ n. n.left) is); shown = shown.1 };
        right_stands = record { root_is = sym (ap (λ n. n.right) is); shown = shown.2 };
      },
    )

pub root_within : (ns : List Node) (p : ℕ) (t : Tree) → Stands ns (Some p) t → p < length ns
root_within ns p t h =
    let (l, r, whole) = a_fork t p h.root_is in
    let shown : Shows ns (fork l p r) = rw whole at h.shown in
    slice_get_within ns p (node_of l r) shown.0

pub Stands-at : (ns : List Node) (a b : Option ℕ) (t : Tree) → a ≡ b → Stands ns a t → Stands ns b t
Stands-at ns a b t e h = record { root_is = h.root_is ∙ e; shown = h.shown }

-- The root of a tree that the nodes show has a cell.
pub there : (ns : List Node) (root : Option ℕ) (t : Tree) → Stands ns root t → IsThere (length ns) root
there ns root leaf h = rw (sym h.root_is) tt
there ns root (fork l p r) h = rw (sym h.root_is) (slice_get_within ns p (node_of l r) h.shown.0)

pub no_tree : (ns : List Node) (root : Option ℕ) (t : Tree) → Stands ns root t → root ≡ None → height t ≡ 0
no_tree ns root t h e = ap height (no_root t (h.root_is ∙ e))

-- The node at the root stores the height of the tree.
pub height_told : (ns : List Node) (root : Option ℕ) (t : Tree) → Stands ns root t → height_at ns root ≡ height t
height_told ns root leaf h = rw (sym h.root_is)
height_told ns root (fork l p r) h = rw (sym h.root_is, h.shown.0)

-- A tree has as many places as its list.
pub size-reading : (t : Tree) → length (reading t) ≡ size t
size-reading leaf = refl
size-reading (fork l p r) = rw length-append (omega (arith, size-reading l, size-reading r))

-- A place of a tree is in its left subtree, in its right subtree or at its top.
pub by_ordering : {P : Type 0} (q : ℕ) (l : Tree) (p : ℕ) (r : Tree) → 0 < occurs q (fork l p r) → (0 < occurs q l → P) → (0 < occurs q r → P) → (q ≡ p → P) → P
by_ordering q l p r n left right top =
    elim (leb_tells 1 (occurs q l)) [
      | inl w ↦ left w.1
      | inr w ↦ elim (leb_tells 1 (occurs q r)) [
        | inl v ↦ right v.1
        | inr v ↦ elim (eqb_tells q p) [ inl y ↦ top y.1 | inr y ↦ absurd (omega (arith, is_at-other q p y.1)) ]
      ]
    ]

-- A place of a tree that the nodes show has a node.
pub in_tree : (ns : List Node) (t : Tree) (q : ℕ) → Shows ns t → 0 < occurs q t → q < length ns
in_tree ns leaf q h n = absurd (omega arith)
in_tree ns (fork l p r) q h n = by_ordering q l p r n (in_tree ns l q h.1) (in_tree ns r q h.2) (λ e. rw e (slice_get_within ns p (node_of l r) h.0))

-- A place that is not in a tree of distinct places can be added to it.
pub with_absent : (t : Tree) (place q : ℕ) → IsDistinctTree t → occurs place t ≡ 0 → occurs q t + is_at q place ≤ 1
with_absent t place q d a =
    elim (eqb_tells q place) [
      | inl w ↦ rw w.1 (omega (arith, a, is_at-same place))
      | inr w ↦ omega (arith, d q, is_at-other q place w.1)
    ]
