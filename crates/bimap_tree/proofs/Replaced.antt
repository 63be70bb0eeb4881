-- A tree that replaces another tree at the end of a route.
use Rattle.std.proofs.Common.{◌≡◌, ℕ, ◌-◌, ◌<◌, ◌≤◌, Bool, List, Some, length, refl, sym, subst, ◌∙◌, ap, arith, length-set}
use Rattle.std.specs.Prelude.{slice_get, slice_set}
use Rattle.std.proofs.lemmas.Option.{slice_get_within}
use Rattle.bimap_base.specs.declared.cells.Node.{Node}
use Rattle.bimap_base.specs.NodesInCells.{linked}
use Rattle.bimap_tree.specs.Tree.{Tree, height, size, root_of}
use Rattle.bimap_tree.specs.Path.{Path, top, below, steps, Holds, occurs_on}
use Rattle.bimap_tree.specs.Remove.{CanReplace, IsReplaced}
use Rattle.bimap_tree.specs.Notes.{Notes}
use Rattle.bimap_tree.proofs.Paths.{Holds-linked}
use Rattle.bimap_tree.proofs.Shown.{is_at-apart, get-elsewhere}

-- The last entry of the route.
above : (nodes : List Node) (notes : Notes) (depth : ℕ) (path : Path) (s : Tree) → CanReplace nodes notes depth path s → 0 < depth → (step : ℕ × Bool) → step ≡ notes.step_at (depth - 1) → (up : Path) × (sister : Tree) × (path ≡ below up step.1 step.0 sister)
above nodes notes depth top s h more step e = absurd (omega (arith, h.depth_is, more))
above nodes notes depth (below up ordering p sister) s h more step e =
    let at : depth - 1 ≡ steps up = omega (arith, h.depth_is) in
    let whole = h.whole p (slice_get_within nodes p h.holds.0.0 h.holds.0.1) in
    let same : (p, ordering) ≡ step = ap (λ q. (q, ordering)) (sym whole) ∙ sym h.follows.0 ∙ ap notes.step_at (sym at) ∙ sym e in
    (up, sister, ap (λ x. below up x.1 x.0 sister) same)

-- The route has no entry.
pub replaced_at_top : (nodes : List Node) (notes : Notes) (depth : ℕ) (path : Path) (s t : Tree) → CanReplace nodes notes depth path s → depth ≡ 0 → IsReplaced nodes nodes path t
replaced_at_top nodes notes depth top s t h none = record { holds = tt; same_elsewhere = λ q o. refl }
replaced_at_top nodes notes depth (below up direction p sister) s t h none = absurd (omega (arith, h.depth_is, none))

module _ (nodes : List Node) (notes : Notes) (depth : ℕ) (path : Path) (s : Tree) (h : CanReplace nodes notes depth path s) (more : 0 < depth) (step : ℕ × Bool) (e : step ≡ notes.step_at (depth - 1)) where
  -- The node of the place in that entry.
  pub told_above : (node : Node) × (slice_get nodes step.0 ≡ Some node)
  told_above =
      let (up, sister, is) = above nodes notes depth path s h more step e in
      let held : Holds nodes (below up step.1 step.0 sister) s = subst (λ y. Holds nodes y s) is h.holds in
      (held.0.0, held.0.1)

  pub above_within : step.0 < length nodes
  above_within = slice_get_within nodes step.0 told_above.0 told_above.1

  module _ (place : ℕ) (new : List Node) (written : (n : Node) → slice_get nodes step.0 ≡ Some n → new ≡ slice_set nodes step.0 (linked step.1 (Some place) n)) where
    pub replaced_length : length new ≡ length nodes
    replaced_length = ap length (written told_above.0 told_above.1) ∙ length-set nodes step.0 (linked step.1 (Some place) told_above.0)

    pub replaced : (t : Tree) → root_of t ≡ Some place → height t ≡ height s → size t ≡ size s → IsReplaced nodes new path t
    replaced t root a b =
        let (up, sister, is) = above nodes notes depth path s h more step e in
        let held : Holds nodes (below up step.1 step.0 sister) s = subst (λ y. Holds nodes y s) is h.holds in
        let once : (q : ℕ) → occurs_on q (below up step.1 step.0 sister) ≤ 1 = subst (λ y. (q : ℕ) → occurs_on q y ≤ 1) is h.distinct in
        let w : new ≡ slice_set nodes step.0 (linked step.1 (root_of t) held.0.0) = written held.0.0 held.0.1 ∙ ap (λ r. slice_set nodes step.0 (linked step.1 r held.0.0)) (sym root) in
        let done : IsReplaced nodes new (below up step.1 step.0 sister) t = record {
          holds = Holds-linked nodes new up step.1 step.0 sister s t once a b held w;
          same_elsewhere = λ q none. ap (λ x. slice_get x q) w ∙ get-elsewhere nodes step.0 q (linked step.1 (root_of t) held.0.0) (is_at-apart q step.0 (omega (arith, none)));
        } in
        subst (λ y. IsReplaced nodes new y t) (sym is) done
