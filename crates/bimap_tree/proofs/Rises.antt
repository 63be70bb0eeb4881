-- The rise along a route.
use Rattle.std.proofs.Common.{◌≡◌, ◌≢◌, ℕ, ◌+◌, ◌-◌, ◌^◌, ◌≤◌, ◌<◌, max, Bool, true, false, not, List, ◌++◌, Option, Some, length, refl, sym, subst, ◌∙◌, ap, arith, append_assoc, append-nil, inl, inr, length-set}
use Rattle.std.specs.Prelude.{slice_get, slice_set}
use Rattle.std.proofs.lemmas.Option.{slice_get_within}
use Rattle.std.proofs.lemmas.Bool.Decides.{leb_tells}
use Rattle.bimap_base.specs.declared.cells.Node.{Node}
use Rattle.bimap_base.specs.NodesInCells.{IsThere, CanCount, counted, recounted}
use Rattle.bimap_tree.specs.Tree.{Tree, leaf, fork, reading, height, size, root_of, Stands, branch, node_on, near_of, far_of}
use Rattle.bimap_tree.specs.Link.{CanRebalance, IsRebalanced}
use Rattle.bimap_tree.specs.Path.{Path, top, below, plug, steps, front, back, Tells, one_if, Moves, KeepsWhole, CanRise, CanRejoin, CanPut, Begins, IsRisen}
use Rattle.bimap_tree.specs.Notes.{Notes}
use Rattle.bimap_tree.proofs.Branch.{height-branch, size-branch, height-node_on, size-node_on, near-node_on, far-node_on, node_is, level, Shows-linked}
use Rattle.bimap_tree.proofs.Paths.{balanced_inside, Holds-frame, holds_of}
use Rattle.bimap_tree.proofs.Rotate.{can_link, no_rotation}
use Rattle.bimap_tree.proofs.Shown.{is_at-same, is_at-apart, get-elsewhere, size-reading, there}

pub one_notes : (grew : Bool) → one_if grew + one_if (not grew) ≡ 1
one_notes true = refl
one_notes false = refl

-- What a node stores after its size was corrected.
pub near-recounted : (direction : Bool) (child : Option ℕ) (grew : Bool) (n : Node) → near_of direction (recounted direction child grew n) ≡ child
near-recounted true child grew n = refl
near-recounted false child grew n = refl

pub far-recounted : (direction : Bool) (child : Option ℕ) (grew : Bool) (n : Node) → far_of direction (recounted direction child grew n) ≡ far_of direction n
far-recounted true child grew n = refl
far-recounted false child grew n = refl

counted-near : (direction : Bool) (child : Option ℕ) (grew : Bool) (n : Node) → near_of direction n ≡ child → counted grew n ≡ recounted direction child grew n
counted-near true child grew n e = ap (λ c. counted grew record { left = n.left; right = c; height = n.height; size = n.size }) e
counted-near false child grew n e = ap (λ c. counted grew record { left = c; right = n.right; height = n.height; size = n.size }) e

-- To correct the size suffices, if the child is the one that the node has.
pub counted_alone : (direction : Bool) (child : Option ℕ) (grew : Bool) (n : Node) (old new : List Node) (at : ℕ) → near_of direction n ≡ child → new ≡ slice_set old at (counted grew n) → new ≡ slice_set old at (recounted direction child grew n)
counted_alone direction child grew n old new at e f = f ∙ ap (λ x. slice_set old at x) (counted-near direction child grew n e)

size-recounted : (direction : Bool) (child : Option ℕ) (grew : Bool) (n : Node) → (grew ≡ false → 0 < n.size) → (recounted direction child grew n).size + one_if (not grew) ≡ n.size + one_if grew
size-recounted direction child true n some = omega arith
size-recounted direction child false n some = omega (arith, some refl)

-- ---- A place above a tree that has changed.
module _ (nodes : List Node) (at : ℕ) (direction grew : Bool) (node : Node) (sister s u : Tree) (h : CanRejoin nodes at direction grew node sister s u) where
  pub sister_stands : Stands nodes (far_of direction node) sister
  sister_stands = record { root_is = sym h.told.far_is; shown = h.sister_shown }

  pub can_rebalance : CanRebalance nodes at u sister
  can_rebalance =
      let lv = level direction s at sister h.steady in
      let one = one_notes grew in
      can_link nodes at u sister h.has_cell h.shown h.sister_shown h.distinct h.balanced lv.far_balanced (omega arith) (omega arith) (omega arith)

  -- The height of the whole tree changes as the height of the child does, or not at all.
  pub moved : (new : List Node) (t : Tree) → IsRebalanced nodes new direction at u sister t → Moves grew (branch direction s at sister) t
  moved new t b =
      let lv = level direction s at sister h.steady in
      let one = one_notes grew in
      let hs = height-branch direction s at sister in
      let zs = size-branch direction s at sister in
      let zu = size-branch direction u at sister in
      let sized : size t ≡ size u + size sister + 1 = omega (arith, size-reading t, ap length b.in_order, size-reading (branch direction u at sister), zu) in
      elim (leb_tells (height u) (height sister + 1)) [
        | inl v ↦ elim (leb_tells (height sister) (height u + 1)) [
          | inl w ↦ let lv2 = b.level v.1 w.1 in record { sizes = omega arith; not_lower = omega arith; not_higher = omega arith }
          | inr w ↦ record { sizes = omega arith; not_lower = omega arith; not_higher = omega arith }
        ]
        | inr v ↦ record { sizes = omega arith; not_lower = omega arith; not_higher = omega arith }
      ]

  -- The child that is written into the node has a cell.
  pub child_there : (child : Option ℕ) → root_of u ≡ child → IsThere (length nodes) child
  child_there child root = there nodes child u record { root_is = root; shown = h.shown }

  -- The size in the node can grow or shrink by one.
  pub can_count : CanCount (length nodes) grew node
  can_count =
      let room = can_rebalance.link.room in
      record { more = λ e. omega (arith, ap one_if e, ap (λ b. one_if (not b)) e); less = λ e. omega arith }

  -- Only the child was written into the node, if the height stays the same.
  pub record Retold (new : List Node) : Type 0 where
    pub linked : IsRebalanced nodes new direction at u sister (branch direction u at sister)
    pub as_high : height (branch direction u at sister) ≡ height (branch direction s at sister)

  retold : (child : Option ℕ) → root_of u ≡ child → (new : List Node) → new ≡ slice_set nodes at (recounted direction child grew node) → max (height u) (height sister) ≡ max (height s) (height sister) → height u ≤ height sister + 1 → height sister ≤ height u + 1 → Retold new
  retold child root new e even l1 l2 =
      let tall : (recounted direction child grew node).height ≡ node.height = refl in
      let is : recounted direction child grew node ≡ node_on direction u sister = node_is direction (recounted direction child grew node) (node_on direction u sister)
      (near-recounted direction child grew node ∙ sym root ∙ sym (near-node_on direction u sister))
      (far-recounted direction child grew node ∙ h.told.far_is ∙ sym (far-node_on direction u sister))
      (omega (arith, tall, h.told.height_is, even, height-node_on direction u sister))
      (omega (arith, size-recounted direction child grew node can_count.less, one_notes grew, size-node_on direction u sister)) in
      record {
        linked = no_rotation nodes new direction at u sister can_rebalance l1 l2 (e ∙ ap (λ x. slice_set nodes at x) is);
        as_high = height-branch direction u at sister ∙ ap (λ x. x + 1) even ∙ sym (height-branch direction s at sister);
      }

  -- The child grew, and is not higher than the place was above the other child.
  pub low : (child : Option ℕ) → root_of u ≡ child → (new : List Node) → new ≡ slice_set nodes at (recounted direction child grew node) → grew ≡ true → height u < node.height → Retold new
  low child root new e up few =
      let lv = level direction s at sister h.steady in
      let one : one_if grew ≡ 1 = ap one_if up in
      let none : one_if (not grew) ≡ 0 = ap (λ x. one_if (not x)) up in
      retold child root new e (omega arith) (omega arith) (omega arith)

  -- The child has its old height.
  pub steady : (child : Option ℕ) → root_of u ≡ child → (new : List Node) → new ≡ slice_set nodes at (recounted direction child grew node) → height u ≡ height s → Retold new
  steady child root new e same = let lv = level direction s at sister h.steady in retold child root new e (omega arith) (omega arith) (omega arith)

  pub as_told : node.height ≡ height (branch direction s at sister)
  as_told = h.told.height_is ∙ sym (height-branch direction s at sister)

  -- A node can store the new size.
  pub counts : (node.size + one_if grew < 2 ^ 64) × (one_if (not grew) ≤ node.size)
  counts =
      let one = one_notes grew in
      (omega arith, omega arith)

-- ---- One entry of the route.
module _ (nodes : List Node) (notes : Notes) (grew : Bool) (s u : Tree) where
  -- The last entry of the route.
  pub record LastStep (depth at : ℕ) (direction : Bool) (path up : Path) (sister : Tree) : Type 0 where
    pub is : path ≡ below up direction at sister
    pub above : depth - 1 ≡ steps up
    pub here : CanRise nodes notes (below up direction at sister) grew s u

  pub last_step : (depth : ℕ) (path : Path) → CanRise nodes notes path grew s u → depth ≡ steps path → depth ≢ 0 → (at : ℕ) (direction : Bool) → (at, direction) ≡ notes.step_at (depth - 1) → (up : Path) × (sister : Tree) × LastStep depth at direction path up sister
  last_step depth top c e n at direction step = absurd (n e)
  last_step depth (below up ordering place sister) c e n at direction step =
      let above : depth - 1 ≡ steps up = omega (arith, e) in
      let whole = c.whole place (slice_get_within nodes place c.holds.0.0 c.holds.0.1) in
      let same : (place, ordering) ≡ (at, direction) = ap (λ p. (p, ordering)) (sym whole) ∙ sym c.follows.0 ∙ ap notes.step_at (sym above) ∙ sym step in
      let is : below up ordering place sister ≡ below up direction at sister = ap (λ x. below up x.1 x.0 sister) same in
      (up, sister, record { is = is; above = above; here = subst (λ x. CanRise nodes notes x grew s u) is c })

  module _ (up : Path) (direction : Bool) (at : ℕ) (sister : Tree) (c : CanRise nodes notes (below up direction at sister) grew s u) where
    pub within : at < length nodes
    within = slice_get_within nodes at c.holds.0.0 c.holds.0.1

    pub can_rejoin : (node : Node) → slice_get nodes at ≡ Some node → CanRejoin nodes at direction grew node sister s u
    can_rejoin node e =
        let both : Some c.holds.0.0 ≡ Some node = sym c.holds.0.1 ∙ e in
        let same : c.holds.0.0 ≡ node = cc in
        record {
          node_is = e;
          has_cell = within;
          told = subst (λ n. Tells direction n s sister) same c.holds.0.2;
          shown = c.shown;
          sister_shown = c.holds.1;
          distinct = λ q. let d = c.distinct q in omega arith;
          steady = balanced_inside up (branch direction s at sister) c.steady;
          balanced = c.balanced;
          fits = omega arith;
          moves = c.moves;
        }

    pub can_rise : (new : List Node) (t : Tree) → IsRebalanced nodes new direction at u sister t → Moves grew (branch direction s at sister) t → CanRise new notes up grew (branch direction s at sister) t
    can_rise new t b m = record {
      follows = c.follows.1;
      whole = λ p few. c.whole p (omega (arith, few, b.same_length));
      holds = Holds-frame nodes new up (branch direction s at sister) (λ q o. b.same_elsewhere q (let d = c.distinct q in omega arith)) c.holds.2;
      shown = b.shown;
      distinct = λ q. let d = c.distinct q in omega (arith, b.same_places q);
      steady = c.steady;
      balanced = b.balanced;
      fits = omega (arith, size-branch direction s at sister);
      moves = m;
    }

-- The list of places along the route, with its last entry separated.
reading_step : (up : Path) (direction : Bool) (u : Tree) (at : ℕ) (sister : Tree) → front up ++ reading (branch direction u at sister) ++ back up ≡ front (below up direction at sister) ++ reading u ++ back (below up direction at sister)
reading_step up true u at sister = simp append_assoc
reading_step up false u at sister = simp append_assoc

pub risen_on : (nodes new last : List Node) (path up : Path) (direction : Bool) (at : ℕ) (sister u t : Tree) (root : Option ℕ) (v : Tree) → path ≡ below up direction at sister → IsRebalanced nodes new direction at u sister t → IsRisen new last up t root v → IsRisen nodes last path u root v
risen_on nodes new last path up direction at sister u t root v is b r =
    let done : IsRisen nodes last (below up direction at sister) u root v = record {
      tree = r.tree;
      in_order = r.in_order ∙ ap (λ x. front up ++ x ++ back up) b.in_order ∙ reading_step up direction u at sister;
      same_places = λ q. omega (arith, r.same_places q, b.same_places q);
      balanced = r.balanced;
      same_length = r.same_length ∙ b.same_length;
    } in
    subst (λ x. IsRisen nodes last x u root v) (sym is) done

-- The rise is at its end.
pub at_top : (nodes : List Node) (notes : Notes) (path : Path) (grew : Bool) (s u : Tree) (depth : ℕ) (root : Option ℕ) → CanRise nodes notes path grew s u → depth ≡ steps path → depth ≡ 0 → root_of u ≡ root → (v : Tree) × IsRisen nodes nodes path u root v
at_top nodes notes top grew s u depth root c e n r = (
  u,
  record {
    tree = record { root_is = r; shown = c.shown };
    in_order = sym (append-nil (reading u));
    same_places = λ q. omega arith;
    balanced = c.balanced;
    same_length = refl;
  },
)
at_top nodes notes (below up direction p sister) grew s u depth root c e n r = absurd (omega (arith, e, n))

pub stands_at_top : (nodes : List Node) (notes : Notes) (path : Path) (grew : Bool) (s u : Tree) (depth : ℕ) (root : Option ℕ) → CanRise nodes notes path grew s u → depth ≡ steps path → depth ≡ 0 → root_of u ≡ root → Stands nodes root (plug path u)
stands_at_top nodes notes top grew s u depth root c e n r = record { root_is = r; shown = c.shown }
stands_at_top nodes notes (below up direction p sister) grew s u depth root c e n r = absurd (omega (arith, e, n))

-- A route of which no entry is known to lead down the tree.
pub begins_anew : (nodes : List Node) (root : Option ℕ) (v : Tree) → Stands nodes root v → (notes : Notes) (path : Path) → Begins nodes root notes path 0 root
begins_anew nodes root v stands notes path = record { up = top; rest = v; tree = stands; rest_is = stands.root_is; count_is = refl; follows = tt; upper = record { alike = λ direction all. tt; leads = λ s. (plug path s, refl) } }

-- ---- A single place at the end of a route.
module _ (nodes : List Node) (notes : Notes) (path : Path) (place : ℕ) (h : CanPut nodes notes path place) (new : List Node) (e : new ≡ slice_set nodes place (node_on false leaf leaf)) where
  pub can_put : KeepsWhole nodes notes → CanRise new notes path true leaf (fork leaf place leaf)
  can_put whole =
      let (holds, none) = holds_of nodes path leaf h.shown in
      let z = is_at-same place in
      record {
        follows = h.follows;
        whole = λ p few. whole p (omega (arith, few, ap length e, length-set nodes place (node_on false leaf leaf)));
        holds = Holds-frame nodes new path leaf (λ q o. rw e (get-elsewhere nodes place q (node_on false leaf leaf) (is_at-apart q place (let d = h.distinct q in omega arith)))) holds;
        shown = Shows-linked nodes new false leaf place leaf e h.has_cell refl refl tt tt;
        distinct = λ q. let d = h.distinct q in omega arith;
        steady = h.balanced;
        balanced = (omega arith, omega arith, tt, tt);
        fits = omega arith;
        moves = record { sizes = refl; not_lower = omega arith; not_higher = omega arith };
      }

  pub put_risen : (last : List Node) (root : Option ℕ) → (v : Tree) × IsRisen new last path (fork leaf place leaf) root v → (v : Tree) × IsRisen nodes last path (fork leaf place leaf) root v
  put_risen last root done =
      let (v, r) = done in
      (v, record { tree = r.tree; in_order = r.in_order; same_places = r.same_places; balanced = r.balanced; same_length = r.same_length ∙ ap length e ∙ length-set nodes place (node_on false leaf leaf) })
