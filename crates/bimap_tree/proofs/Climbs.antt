-- The invariant of a loop up a route. If the rest of the route is made to fit, the whole route fits.
use Rattle.std.proofs.Common.{◌≡◌, ◌≢◌, ℕ, ◌-◌, ◌≤◌, Bool, List, Option, Some, refl, sym, subst, ◌∙◌, ap, arith}
use Rattle.std.specs.Prelude.{slice_get}
use Rattle.bimap_base.specs.declared.cells.Node.{Node}
use Rattle.bimap_tree.specs.Tree.{Tree, Stands, height, root_of, branch}
use Rattle.bimap_tree.specs.Link.{Measures, IsRebalanced}
use Rattle.bimap_tree.specs.Path.{Path, below, plug, steps, AllGo, Moves, IsUpper, Begins, CanRise, CanRejoin, IsRisen}
use Rattle.bimap_tree.specs.Notes.{Notes}
use Rattle.bimap_tree.specs.declared.link.Subtree.{Subtree}
use Rattle.bimap_tree.proofs.Rises.{last_step, can_rejoin, can_rise, risen_on, at_top, stands_at_top}

-- The tree `u` is at this root, in place of `s`. It has the same height.
pub record Stays (root : Option ℕ) (s u : Tree) : Type 0 where
  pub root_is : root_of u ≡ root
  pub as_high : height u ≡ height s

-- The tree `u` has the same place at its top as `s`. It has the same height.
pub record StaysAt (place : ℕ) (s u : Tree) : Type 0 where
  pub was_at : root_of s ≡ Some place
  pub root_is : root_of u ≡ Some place
  pub as_high : height u ≡ height s

-- The `Subtree` describes the tree `u`, which has replaced `s`. The height of `s` was `was`.
pub record Replaces (told : Subtree) (was : ℕ) (s u : Tree) : Type 0 where
  pub measured : Measures told u
  pub was_high : was ≡ height s

module _ (ns : List Node) (notes : Notes) (grew : Bool) (start : ℕ) (has : Tree → Tree → Type 0) (Same : Type 0) where
  -- At the end of a route with this many entries a tree has changed, and this much is known of it.
  pub record Start (path : Path) (s u : Tree) : Type 0 where
    pub rise : CanRise ns notes path grew s u
    pub start_is : start ≡ steps path
    pub known : has s u

  -- The loop has come up from there to this depth. Under `Same`, it has changed nothing of the route below.
  pub record Climbs (now : List Node) (depth : ℕ) (next : Tree → Tree → Type 0) : Type 0 where
    pub deep : depth ≤ 91
    pub alike : (path : Path) (s u : Tree) → Start path s u → (up : Path) × (x : Tree) × (t : Tree) × CanRise now notes up grew x t × (depth ≡ steps up) × next x t × (Same → plug path u ≡ plug up t) × IsUpper up path × ((last : List Node) (root : Option ℕ) (v : Tree) → IsRisen now last up t root v → IsRisen ns last path u root v)

  pub climbs_none : start ≤ 91 → Climbs ns start has
  climbs_none few = record { deep = few; alike = λ path s u c. (path, s, u, c.rise, c.start_is, c.known, λ y. refl, record { alike = λ direction a. a; leads = λ y. (y, refl) }, λ last root v r. r) }

  module _ (now : List Node) (depth : ℕ) (next : Tree → Tree → Type 0) (d : Climbs now depth next) where
    -- At the top the whole tree fits.
    pub climbs_end : depth ≡ 0 → (root : Option ℕ) → ((x t : Tree) → next x t → root_of t ≡ root) → (path : Path) (s u : Tree) → Start path s u → (v : Tree) × IsRisen ns now path u root v
    climbs_end none root at path s u c =
        let (up, x, t, r, e, n, p, a, f) = d.alike path s u c in
        let (v, i) = at_top now notes up grew x t depth root r e none (at x t n) in
        (v, f now root v i)

    -- Under `Same`, the whole tree is the one in which `u` is at the end of the route.
    pub climbs_same : depth ≡ 0 → (root : Option ℕ) → ((x t : Tree) → next x t → root_of t ≡ root) → (path : Path) (s u : Tree) → Start path s u → Same → Stands now root (plug path u)
    climbs_same none root at path s u c unmoved =
        let (up, x, t, r, e, n, p, a, f) = d.alike path s u c in
        subst (λ w. Stands now root w) (sym (p unmoved)) (stands_at_top now notes up grew x t depth root r e none (at x t n))

    -- The entries above lead to the changed subtree, if the nodes show the tree that has it there.
    pub climbs_begin : (last : List Node) (root at : Option ℕ) (count : ℕ) → count ≡ depth → ((x t : Tree) → next x t → root_of t ≡ at) → (path : Path) (s u : Tree) → Start path s u → ((up : Path) (x t : Tree) → CanRise now notes up grew x t → depth ≡ steps up → next x t → Stands last root (plug up t)) → Begins last root notes path count at
    climbs_begin last root at count counted is path s u c shown =
        let (up, x, t, r, e, n, p, a, f) = d.alike path s u c in
        record { up = up; rest = t; tree = shown up x t r e n; rest_is = is x t n; count_is = counted ∙ e; follows = r.follows; upper = a }

    module _ (at : ℕ) (direction : Bool) (more : depth ≢ 0) (step : (at, direction) ≡ notes.step_at (depth - 1)) where
      -- The entry of the route above.
      pub record Above (up : Path) (sister x t : Tree) : Type 0 where
        pub here : CanRise now notes (below up direction at sister) grew x t
        pub known : next x t

      pub above : (path : Path) (s u : Tree) → Start path s u → (up : Path) × (sister : Tree) × (x : Tree) × (t : Tree) × Above up sister x t
      above path s u c =
          let (low, x, t, r, e, n, p, a, f) = d.alike path s u c in
          let (up, sister, i) = last_step now notes grew x t depth low r e more at direction step in
          (up, sister, x, t, record { here = i.here; known = n })

      pub rejoins : (path : Path) (s u : Tree) → Start path s u → (node : Node) → slice_get now at ≡ Some node → (sister : Tree) × (x : Tree) × (t : Tree) × CanRejoin now at direction grew node sister x t × next x t
      rejoins path s u c node told =
          let (up, sister, x, t, b) = above path s u c in
          (sister, x, t, can_rejoin now notes grew x t up direction at sister b.here node told, b.known)

      pub rejoined : (path : Path) (s u : Tree) → Start path s u → (node : Node) × (sister : Tree) × (x : Tree) × (t : Tree) × CanRejoin now at direction grew node sister x t × next x t
      rejoined path s u c =
          let (up, sister, x, t, b) = above path s u c in
          let told = b.here.holds.0 in
          (told.0, sister, x, t, can_rejoin now notes grew x t up direction at sister b.here told.0 told.1, b.known)

      -- The next tree on the way up.
      pub record Raised (new : List Node) (after : Tree → Tree → Type 0) (sister x t y : Tree) : Type 0 where
        pub tree : IsRebalanced now new direction at t sister y
        pub moves : Moves grew (branch direction x at sister) y
        pub known : after (branch direction x at sister) y
        pub alone : Same → y ≡ branch direction t at sister

      pub climbs_on : (node : Node) → slice_get now at ≡ Some node → (new : List Node) (after : Tree → Tree → Type 0) → ((sister x t : Tree) → CanRejoin now at direction grew node sister x t → next x t → (y : Tree) × Raised new after sister x t y) → Climbs new (depth - 1) after
      climbs_on node told new after raise = record {
        deep = omega arith;
        alike = λ path s u c. let (low, x, t, r, e, n, p, a, f) = d.alike path s u c in
            let (up, sister, i) = last_step now notes grew x t depth low r e more at direction step in
            let (y, z) = raise sister x t (can_rejoin now notes grew x t up direction at sister i.here node told) n in (
              up,
              branch direction x at sister,
              y,
              can_rise now notes grew x t up direction at sister i.here new y z.tree z.moves,
              i.above,
              z.known,
              λ unmoved. p unmoved ∙ ap (λ l. plug l t) i.is ∙ ap (λ b. plug up b) (sym (z.alone unmoved)),
              record {
                alike = λ turned all. (subst (λ l. AllGo turned l) i.is (a.alike turned all)).1;
                leads = λ w. let (b, is) = a.leads w in (branch direction b at sister, is ∙ ap (λ l. plug l b) i.is);
              },
              λ last root v w. f last root v (risen_on now new last low up direction at sister t y root v i.is z.tree w),
            );
      }
