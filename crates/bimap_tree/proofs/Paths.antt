-- Routes down a tree.
use Rattle.std.proofs.Common.{◌≡◌, ℕ, ◌+◌, ◌≤◌, ◌<◌, Bool, true, false, List, [], ◌∷◌, ◌++◌, refl, sym, subst, ◌∙◌, ap, arith, append_assoc, append-nil}
use Rattle.std.specs.Prelude.{slice_get, slice_set}
use Rattle.std.proofs.lemmas.Option.{slice_get_within}
use Rattle.std.specs.declared.cmp.Ordering.{Ordering}
use Rattle.std.specs.declared.cmp.Ordering.TheVariants.{Less, Greater}
use Rattle.bimap_base.specs.declared.cells.Node.{Node}
use Rattle.bimap_base.specs.NodesInCells.{linked}
use Rattle.bimap_tree.specs.Tree.{Tree, fork, reading, height, size, occurs, is_at, root_of, IsBalanced, Shows, branch, node_on}
use Rattle.bimap_tree.specs.Order.{AllStand, IsSplit}
use Rattle.bimap_tree.specs.Notes.{IsNoted}
use Rattle.bimap_tree.specs.Path.{Path, top, below, plug, steps, front, back, occurs_on, size_on, Follows, Wants, Tells, Holds}
use Rattle.bimap_tree.proofs.Branch.{root-branch, near-node_on, height-branch, size-branch, occurs-branch, far-node_on, height-node_on, size-node_on, parts, level, IsBalanced-branch}
use Rattle.bimap_tree.proofs.Distinct.{all_append}
use Rattle.bimap_tree.proofs.Shown.{is_at-same, is_at-apart, get-written, get-elsewhere, Shows-frame}
use Rattle.bimap_tree.proofs.Split.{split_below, split_above}

-- Each place of the whole tree is outside the subtree or in it.
pub occurs-plug : (q : ℕ) (path : Path) (t : Tree) → occurs q (plug path t) ≡ occurs_on q path + occurs q t
occurs-plug q top t = omega arith
occurs-plug q (below up direction p sister) t = omega (arith, occurs-plug q up (branch direction t p sister), occurs-branch q direction t p sister)

pub size-plug : (path : Path) (t : Tree) → size (plug path t) ≡ size_on path + size t
size-plug top t = omega arith
size-plug (below up direction p sister) t = omega (arith, size-plug up (branch direction t p sister), size-branch direction t p sister)

pub steps_within : (path : Path) (t : Tree) → steps path + height t ≤ height (plug path t)
steps_within top t = omega arith
steps_within (below up direction p sister) t = omega (arith, steps_within up (branch direction t p sister), height-branch direction t p sister)

pub reading-plug : (path : Path) (t : Tree) → reading (plug path t) ≡ front path ++ reading t ++ back path
reading-plug top t = sym (append-nil (reading t))
reading-plug (below up true p sister) t = reading-plug up (fork sister p t) ∙ simp append_assoc
reading-plug (below up false p sister) t = reading-plug up (fork t p sister) ∙ simp append_assoc

pub balanced_inside : (path : Path) (t : Tree) → IsBalanced (plug path t) → IsBalanced t
balanced_inside top t h = h
balanced_inside (below up direction p sister) t h = (level direction t p sister (balanced_inside up (branch direction t p sister) h)).near_balanced

pub tells : (direction : Bool) (s sister : Tree) → Tells direction (node_on direction s sister) s sister
tells direction s sister = record { near_is = near-node_on direction s sister; far_is = far-node_on direction s sister; height_is = height-node_on direction s sister; size_is = size-node_on direction s sister }

-- If nodes show a whole tree, they fit the route and show the subtree.
pub holds_of : (ns : List Node) (path : Path) (t : Tree) → Shows ns (plug path t) → Holds ns path t × Shows ns t
holds_of ns top t h = (tt, h)
holds_of ns (below up direction p sister) t h =
    let (holds, shown) = holds_of ns up (branch direction t p sister) h in
    let o = parts ns direction t p sister shown in
    (((node_on direction t sister, o.node, tells direction t sister), o.far_shown, holds), o.near_shown)

-- Other nodes that agree on the places of the route fit the route too.
pub Holds-frame : (ns ms : List Node) (path : Path) (s : Tree) → ((q : ℕ) → 0 < occurs_on q path → slice_get ms q ≡ slice_get ns q) → Holds ns path s → Holds ms path s
Holds-frame ns ms top s same h = tt
Holds-frame ns ms (below up direction p sister) s same h = (
  (h.0.0, same p (omega (arith, is_at-same p)) ∙ h.0.1, h.0.2),
  Shows-frame ns ms sister (λ q o. same q (omega arith)) h.1,
  Holds-frame ns ms up (branch direction s p sister) (λ q o. same q (omega arith)) h.2,
)

-- Other entries that agree up to the end of the route follow the route too.
pub Follows-frame : (kept : ℕ → ℕ) (noted other : ℕ → ℕ × Bool) (path : Path) → ((i : ℕ) → i < steps path → other i ≡ noted i) → Follows kept noted path → Follows kept other path
Follows-frame kept noted other top same h = tt
Follows-frame kept noted other (below up direction p sister) same h = (same (steps up) (omega arith) ∙ h.0, Follows-frame kept noted other up (λ i l. same i (omega arith)) h.1)

-- One more entry is noted at the end of the route.
pub Follows-noted : (kept : ℕ → ℕ) (old new : ℕ → ℕ × Bool) (path : Path) (direction : Bool) (p : ℕ) (sister : Tree) (depth : ℕ) → depth ≡ steps path → IsNoted old depth (kept p, direction) new → Follows kept old path → Follows kept new (below path direction p sister)
Follows-noted kept old new path direction p sister depth is n h = (ap new (sym is) ∙ n.here, Follows-frame kept old new path (λ i l. n.elsewhere i (λ e. absurd (omega arith))) h)

-- ---- The places before the end of the route are below the key, and the places after it are above the key.
pub beside : (go : ℕ → Ordering) (path : Path) (t : Tree) → IsSplit go (reading (plug path t)) → Wants go path → AllStand go Less (front path) × AllStand go Greater (back path)
beside go top t split w = (tt, tt)
beside go (below up true p sister) t split w =
    let (less, more) = beside go up (fork sister p t) split w.1 in
    let e : reading (plug up (fork sister p t)) ≡ (front up ++ reading sister) ++ p ∷ (reading t ++ back up) = reading-plug up (fork sister p t) ∙ simp append_assoc in
    let s : IsSplit go ((front up ++ reading sister) ++ p ∷ (reading t ++ back up)) = subst (λ x. IsSplit go x) e split in
    (all_append (λ q. go q ≡ Less) (front up ++ reading sister) (p ∷ []) (split_below go (front up ++ reading sister) (reading t ++ back up) p s (λ f. let x : Less ≡ Greater = sym w.0 ∙ f in cc)) (w.0, tt), more)
beside go (below up false p sister) t split w =
    let (less, more) = beside go up (fork t p sister) split w.1 in
    let e : reading (plug up (fork t p sister)) ≡ (front up ++ reading t) ++ p ∷ (reading sister ++ back up) = reading-plug up (fork t p sister) ∙ simp append_assoc in
    let s : IsSplit go ((front up ++ reading t) ++ p ∷ (reading sister ++ back up)) = subst (λ x. IsSplit go x) e split in
    (less, (w.0, split_above go (front up ++ reading t) (reading sister ++ back up) p s (λ f. let x : Greater ≡ Less = sym w.0 ∙ f in cc)))

-- Keys that compare equally with each place of the route lie in the same directions.
pub Wants-alike : (go other : ℕ → Ordering) (path : Path) → ((q : ℕ) → 0 < occurs_on q path → other q ≡ go q) → Wants go path → Wants other path
Wants-alike go other top same w = tt
Wants-alike go other (below up direction p sister) same w = (same p (omega (arith, is_at-same p)) ∙ w.0, Wants-alike go other up (λ q o. same q (omega arith)) w.1)

-- The places above a subtree depend only on its root, its height and its size.
Holds-alike : (ns : List Node) (path : Path) (s t : Tree) → root_of t ≡ root_of s → height t ≡ height s → size t ≡ size s → Holds ns path s → Holds ns path t
Holds-alike ns top s t r a b h = tt
Holds-alike ns (below up direction p sister) s t r a b h = (
  (h.0.0, h.0.1, record { near_is = h.0.2.near_is ∙ sym r; far_is = h.0.2.far_is; height_is = omega arith; size_is = omega arith }),
  h.1,
  Holds-alike ns up (branch direction s p sister) (branch direction t p sister)
      (root-branch direction t p sister ∙ sym (root-branch direction s p sister))
      (omega (arith, height-branch direction s p sister, height-branch direction t p sister, a))
      (omega (arith, size-branch direction s p sister, size-branch direction t p sister, b)) h.2,
)

tells-linked : (direction : Bool) (node : Node) (s t sister : Tree) → height t ≡ height s → size t ≡ size s → Tells direction node s sister → Tells direction (linked direction (root_of t) node) t sister
tells-linked true node s t sister a b h = record { near_is = refl; far_is = h.far_is; height_is = omega (arith, h.height_is, a); size_is = omega (arith, h.size_is, b) }
tells-linked false node s t sister a b h = record { near_is = refl; far_is = h.far_is; height_is = omega (arith, h.height_is, a); size_is = omega (arith, h.size_is, b) }

-- They do not depend on its root either, after the root is written into the place above.
pub Holds-linked : (ns ms : List Node) (up : Path) (direction : Bool) (p : ℕ) (sister s t : Tree) → ((q : ℕ) → occurs_on q (below up direction p sister) ≤ 1) → height t ≡ height s → size t ≡ size s → (h : Holds ns (below up direction p sister) s) → ms ≡ slice_set ns p (linked direction (root_of t) h.0.0) → Holds ms (below up direction p sister) t
Holds-linked ns ms up direction p sister s t once a b h e =
    let within = slice_get_within ns p h.0.0 h.0.1 in
    let same : (q : ℕ) → is_at q p ≡ 0 → slice_get ms q ≡ slice_get ns q = λ q other. ap (λ x. slice_get x q) e ∙ get-elsewhere ns p q (linked direction (root_of t) h.0.0) (is_at-apart q p other) in (
      (linked direction (root_of t) h.0.0, ap (λ x. slice_get x p) e ∙ get-written ns p (linked direction (root_of t) h.0.0) within, tells-linked direction h.0.0 s t sister a b h.0.2),
      Shows-frame ns ms sister (λ q o. same q (let d = once q in omega arith)) h.1,
      Holds-frame ns ms up (branch direction t p sister) (λ q o. same q (let d = once q in omega arith))
          (Holds-alike ns up (branch direction s p sister) (branch direction t p sister)
          (root-branch direction t p sister ∙ sym (root-branch direction s p sister))
          (omega (arith, height-branch direction s p sister, height-branch direction t p sister, a))
          (omega (arith, size-branch direction s p sister, size-branch direction t p sister, b)) h.2),
    )

-- A subtree of the same height keeps the whole tree balanced.
pub IsBalanced-alike : (path : Path) (s t : Tree) → height t ≡ height s → IsBalanced t → IsBalanced (plug path s) → IsBalanced (plug path t)
IsBalanced-alike top s t same b h = b
IsBalanced-alike (below up direction p sister) s t same b h =
    let lv = level direction s p sister (balanced_inside up (branch direction s p sister) h) in
    IsBalanced-alike up (branch direction s p sister) (branch direction t p sister) (omega (arith, height-branch direction s p sister, height-branch direction t p sister, same))
    (IsBalanced-branch direction t p sister record { near_level = omega arith; far_level = omega arith; near_balanced = b; far_balanced = lv.far_balanced }) h
