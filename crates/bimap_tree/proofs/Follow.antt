-- Searches along a route.
use Rattle.std.proofs.Common.{◌≡◌, ℕ, ◌+◌, max, Bool, List, Option, ◌∙◌, ap, arith}
use Rattle.std.specs.declared.cmp.Ordering.{Ordering}
use Rattle.bimap_base.specs.declared.cells.Node.{Node}
use Rattle.bimap_tree.specs.Tree.{Tree, height, branch}
use Rattle.bimap_tree.specs.Path.{Path, below, wanted}
use Rattle.bimap_tree.specs.Route.{CanFollow}
use Rattle.bimap_tree.specs.Search.{CanSeek}
use Rattle.bimap_tree.specs.Notes.{IsNoted, packed, step_at}
use Rattle.bimap_tree.specs.declared.route.Route.{Route}
use Rattle.bimap_tree.proofs.Branch.{height-branch}
use Rattle.bimap_tree.proofs.Paths.{Follows-noted}

module _ (ns : List Node) (root next : Option ℕ) (live : ℕ → Type 0) (go : ℕ → Ordering) (old new : Route) (depth : ℕ) (path : Path) (s : Tree) (h : CanFollow ns root live go old depth path s) (direction : Bool) (near far : Tree) (at : ℕ) where
  -- The search goes on.
  pub goes_on : s ≡ branch direction near at far → CanSeek ns next live go near → go at ≡ wanted direction → IsNoted (step_at old) depth (packed at, direction) (step_at new) → CanFollow ns next live go new (depth + 1) (below path direction at far) near
  goes_on is seek wants noted =
      let tall : height s ≡ max (height near) (height far) + 1 = ap height is ∙ height-branch direction near at far in
      record {
        seek = seek;
        follows = Follows-noted packed (step_at old) (step_at new) path direction at far depth h.depth_is noted h.follows;
        depth_is = omega (arith, h.depth_is);
        wants = (wants, h.wants);
        deep = omega (arith, h.deep, tall);
      }
