-- A second descent along a route, by its directions.
use Rattle.std.proofs.Common.{◌≡◌, ℕ, ◌+◌, ◌≤◌, ◌<◌, ◌^◌, Bool, List, [], ◌∷◌, ◌++◌, Option, Some, None, length, refl, sym, subst, ◌∙◌, ap, arith}
use Rattle.std.proofs.Math.Nat.{mod-eq_of_lt}
use Rattle.std.specs.Prelude.{slice_get}
use Rattle.bimap_base.specs.declared.cells.Node.{Node}
use Rattle.bimap_tree.specs.Tree.{Tree, leaf, fork, Stands, branch, node_on, root_of, near_of}
use Rattle.bimap_tree.specs.Path.{Path, top, below, plug, steps, Follows, KeepsWhole, CanPut}
use Rattle.bimap_tree.specs.Remove.{CanTake}
use Rattle.bimap_tree.specs.Retraced.{CanRetrace, IsRetraced}
use Rattle.bimap_tree.specs.Notes.{Notes, IsNoted, notes_of, long_notes_of}
use Rattle.bimap_tree.specs.declared.route.Route.{Route}
use Rattle.bimap_tree.specs.declared.notes.LongRoute.{LongRoute}
use Rattle.bimap_tree.proofs.Branch.{root-branch, near-node_on, parts}
use Rattle.bimap_tree.proofs.Paths.{Follows-noted, steps_within}
use Rattle.bimap_tree.proofs.Shown.{root_within}

-- ---- Which places are stored in full.
pub keeps_few : (nodes : List Node) (route : Route) → length nodes ≤ 2 ^ 31 → KeepsWhole nodes (notes_of route)
keeps_few nodes route few p low = mod-eq_of_lt (omega (arith, few, low))

pub keeps_all : (nodes : List Node) (route : LongRoute) → KeepsWhole nodes (long_notes_of route)
keeps_all nodes route p low = refl

-- ---- The entries that are left. Each has a direction, a place and the subtree on the other side.
abbrev pub Rest : Type 0
Rest = List (Bool × ℕ × Tree)

-- The route that goes on by them, and the tree down which they lead.
abbrev pub onward : Path → Rest → Path
onward up [] = up
onward up (x ∷ xs) = onward (below up x.0 x.1 x.2) xs

abbrev pub hang : Rest → Tree → Tree
hang [] s = s
hang (x ∷ xs) s = branch x.0 (hang xs s) x.1 x.2

onward-last : (up : Path) (xs : Rest) (x : Bool × ℕ × Tree) → onward up (xs ++ x ∷ []) ≡ below (onward up xs) x.0 x.1 x.2
onward-last up [] x = refl
onward-last up (y ∷ ys) x = onward-last (below up y.0 y.1 y.2) ys x

all_of : (path : Path) → (xs : Rest) × (path ≡ onward top xs)
all_of top = ([], refl)
all_of (below up direction p sister) =
    let (xs, e) = all_of up in
    (xs ++ (direction, p, sister) ∷ [], ap (λ y. below y direction p sister) e ∙ sym (onward-last top xs (direction, p, sister)))

plug-onward : (up : Path) (xs : Rest) (s : Tree) → plug (onward up xs) s ≡ plug up (hang xs s)
plug-onward up [] s = refl
plug-onward up (x ∷ xs) s = plug-onward (below up x.0 x.1 x.2) xs s

steps-onward : (up : Path) (xs : Rest) → steps (onward up xs) ≡ steps up + length xs
steps-onward up [] = omega arith
steps-onward up (x ∷ xs) = omega (arith, steps-onward (below up x.0 x.1 x.2) xs)

Follows-up : (kept : ℕ → ℕ) (noted : ℕ → ℕ × Bool) (up : Path) (xs : Rest) → Follows kept noted (onward up xs) → Follows kept noted up
Follows-up kept noted up [] h = h
Follows-up kept noted up (x ∷ xs) h = (Follows-up kept noted (below up x.0 x.1 x.2) xs h).1

noted_as : (kept : ℕ → ℕ) (old new : ℕ → ℕ × Bool) (depth at p : ℕ) (direction ordering : Bool) → p ≡ at → direction ≡ ordering → IsNoted old depth (kept at, direction) new → IsNoted old depth (kept p, ordering) new
noted_as kept old new depth at p direction ordering e f n = record { here = n.here ∙ ap (λ b. (kept at, b)) f ∙ ap (λ q. (kept q, ordering)) (sym e); elsewhere = n.elsewhere }

near_told : (direction : Bool) (near far : Tree) (node : Node) → Some node ≡ Some (node_on direction near far) → near_of direction node ≡ root_of near
near_told direction near far node e = let same : node ≡ node_on direction near far = cc in ap (λ n. near_of direction n) same ∙ near-node_on direction near far

module _ (nodes : List Node) (top_root : Option ℕ) (notes : Notes) where
  -- The descent has come to here, and the entries up to here are noted again.
  pub record Comes (root : Option ℕ) (now : Notes) (path : Path) (s : Tree) (up : Path) (xs : Rest) : Type 0 where
    pub is : path ≡ onward up xs
    pub tree : Stands nodes root (hang xs s)
    pub follows : Follows now.kept now.step_at up

  pub record Retraces (root : Option ℕ) (now : Notes) (depth : ℕ) : Type 0 where
    pub alike : (path : Path) (s : Tree) → CanRetrace nodes top_root notes path s → (up : Path) × (xs : Rest) × Comes root now path s up xs × (depth ≡ steps up)

  pub retraces_none : (now : Notes) → Retraces top_root now 0
  retraces_none now = record {
    alike = λ path s h. let (xs, e) = all_of path in
        (top, xs, record { is = e; tree = subst (λ t. Stands nodes top_root t) (ap (λ y. plug y s) e ∙ plug-onward top xs s) h.tree; follows = tt }, refl);
  }

  -- An entry is left.
  one_more : (xs : Rest) → 0 < length xs → (x : Bool × ℕ × Tree) × (ys : Rest) × (xs ≡ x ∷ ys)
  one_more [] n = absurd (omega (arith, n))
  one_more (x ∷ xs) n = (x, xs, refl)

  at_end : (up : Path) (xs : Rest) → length xs ≡ 0 → onward up xs ≡ up
  at_end up [] e = refl
  at_end up (x ∷ xs) e = absurd (omega (arith, e))

  module _ (root : Option ℕ) (now : Notes) (depth : ℕ) (r : Retraces root now depth) where
    pub retraces_end : now.depth ≡ notes.depth → notes.depth ≤ depth → (path : Path) (s : Tree) → CanRetrace nodes top_root notes path s → IsRetraced now path
    retraces_end same all path s h =
        let (up, xs, c, e) = r.alike path s h in
        let n : steps path ≡ steps up + length xs = ap steps c.is ∙ steps-onward up xs in
        let is : path ≡ up = c.is ∙ at_end up xs (omega (arith, n, e, h.depth_is, all)) in
        record { follows = subst (λ y. Follows now.kept now.step_at y) (sym is) c.follows; depth_is = same ∙ h.depth_is }

    module _ (more : depth < notes.depth) where
      pub next : (path : Path) (s : Tree) → CanRetrace nodes top_root notes path s → (up : Path) × (x : Bool × ℕ × Tree) × (xs : Rest) × Comes root now path s up (x ∷ xs) × (depth ≡ steps up)
      next path s h =
          let (up, xs, c, e) = r.alike path s h in
          let n : steps path ≡ steps up + length xs = ap steps c.is ∙ steps-onward up xs in
          let (x, ys, is) = one_more xs (omega (arith, n, e, h.depth_is, more)) in
          (up, x, ys, subst (λ zs. Comes root now path s up zs) is c, e)

      pub retraces_place : (path : Path) (s : Tree) → CanRetrace nodes top_root notes path s → root ≡ None → ⊥
      retraces_place path s h none =
          let (up, x, xs, c, e) = next path s h in
          let no : Some x.1 ≡ None = sym (root-branch x.0 (hang xs s) x.1 x.2) ∙ c.tree.root_is ∙ none in
          absurd (cc)

      module _ (at : ℕ) (is : root ≡ Some at) where
        pub retraces_within : (path : Path) (s : Tree) → CanRetrace nodes top_root notes path s → at < length nodes
        retraces_within path s h =
            let (up, x, xs, c, e) = next path s h in
            root_within nodes at (hang (x ∷ xs) s) record { root_is = c.tree.root_is ∙ is; shown = c.tree.shown }

        pub retraces_on : (node : Node) → slice_get nodes at ≡ Some node → (step : ℕ × Bool) → step ≡ notes.step_at depth → (below_it : Option ℕ) → below_it ≡ near_of step.1 node → (then : Notes) → IsNoted now.step_at depth (now.kept at, step.1) then.step_at → then.kept ≡ now.kept → Retraces below_it then (depth + 1)
        retraces_on node told step stepped below_it near then noted kept = record {
          alike = λ path s h. let (up, x, xs, c, e) = next path s h in
              let on : Follows notes.kept notes.step_at (onward (below up x.0 x.1 x.2) xs) = subst (λ y. Follows notes.kept notes.step_at y) c.is h.follows in
              let here : step ≡ (notes.kept x.1, x.0) = stepped ∙ ap notes.step_at e ∙ (Follows-up notes.kept notes.step_at (below up x.0 x.1 x.2) xs on).0 in
              let turned : step.1 ≡ x.0 = ap (λ y. y.1) here in
              let some : Some x.1 ≡ Some at = sym (root-branch x.0 (hang xs s) x.1 x.2) ∙ c.tree.root_is ∙ is in
              let placed : x.1 ≡ at = cc in
              let o = parts nodes x.0 (hang xs s) x.1 x.2 c.tree.shown in
              let both = ap (λ p. slice_get nodes p) (sym placed) ∙ o.node in
              let node_same = sym told ∙ both in
              let root_is : near_of step.1 node ≡ root_of (hang xs s) = ap (λ b. near_of b node) turned ∙ near_told x.0 (hang xs s) x.2 node node_same in
              let noted_here = noted_as now.kept now.step_at then.step_at depth at x.1 step.1 x.0 placed turned noted in
              let followed = Follows-noted now.kept now.step_at then.step_at up x.0 x.1 x.2 depth e noted_here c.follows in (
                below up x.0 x.1 x.2,
                xs,
                record { is = c.is; tree = record { root_is = sym (near ∙ root_is); shown = o.near_shown }; follows = subst (λ k. Follows k then.step_at (below up x.0 x.1 x.2)) (sym kept) followed },
                omega (arith, e),
              );
        }

-- ---- What may be done at the end of a `Route` may be done at the end of the second route.
module _ (nodes : List Node) (root : Option ℕ) (notes : Notes) (path : Path) where
  pub retrace_put : (place : ℕ) → CanPut nodes notes path place → root_of (plug path leaf) ≡ root → CanRetrace nodes root notes path leaf
  retrace_put place h is = record { tree = record { root_is = is; shown = h.shown }; follows = h.follows; depth_is = h.depth_is; deep = h.deep }

  pub retrace_take : (l : Tree) (at : ℕ) (r : Tree) → CanTake nodes notes path l at r → root_of (plug path (fork l at r)) ≡ root → CanRetrace nodes root notes path (fork l at r)
  retrace_take l at r h is = record { tree = record { root_is = is; shown = h.shown }; follows = h.follows; depth_is = h.depth_is; deep = omega (arith, h.depth_is, steps_within path (fork l at r), h.deep) }

module _ (nodes : List Node) (notes long : Notes) (path : Path) (i : IsRetraced long path) where
  pub put_retraced : (place : ℕ) → CanPut nodes notes path place → CanPut nodes long path place
  put_retraced place h = record { follows = i.follows; depth_is = i.depth_is; deep = omega (arith, i.depth_is, h.depth_is, h.deep); shown = h.shown; distinct = h.distinct; balanced = h.balanced; has_cell = h.has_cell; fits = h.fits }

  pub take_retraced : (l : Tree) (at : ℕ) (r : Tree) → CanTake nodes notes path l at r → CanTake nodes long path l at r
  take_retraced l at r h = record { follows = i.follows; depth_is = i.depth_is; shown = h.shown; distinct = h.distinct; balanced = h.balanced; deep = h.deep; fits = h.fits }
