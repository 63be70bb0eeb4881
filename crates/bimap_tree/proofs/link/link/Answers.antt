use Rattle.std.proofs.Common.{arith, sym, subst, length}
use Rattle.bimap_base.specs.NodesInCells.{IsThere}
use Rattle.bimap_tree.proofs.Branch.{told_there}
use Rattle.bimap_tree.proofs.Heights.{height_below_size}
use Rattle.bimap_tree.proofs.link.link.Goals as goal
use Rattle.bimap_tree.proofs.link.link.Goals.{then-near-far, else-near-far, then-direction, else-direction}

pub overflow_add-height : goal.overflow_add-height
overflow_add-height g c =
    elim c.if-near-far.branch [
      | then-near-far w ↦ omega (arith, c.requires.2.fits, w.taller-is, height_below_size c.requires.0, height_below_size c.requires.1)
      | else-near-far w ↦ omega (arith, c.requires.2.fits, w.taller-is, height_below_size c.requires.0, height_below_size c.requires.1)
    ]

pub write-requires-clause-left : goal.write-requires-clause-left
write-requires-clause-left g c =
    elim c.if-direction.branch [
      | then-direction w ↦ subst (λ x. IsThere (length c.args.cells.now) x.0) (sym w.left-is) (told_there _ _ _ c.requires.4 c.requires.2.far_shown)
      | else-direction w ↦ subst (λ x. IsThere (length c.args.cells.now) x.0) (sym w.left-is) (told_there _ _ _ c.requires.3 c.requires.2.near_shown)
    ]

pub write-requires-clause-right : goal.write-requires-clause-right
write-requires-clause-right g c =
    elim c.if-direction.branch [
      | then-direction w ↦ subst (λ x. IsThere (length c.args.cells.now) x.1) (sym w.left-is) (told_there _ _ _ c.requires.3 c.requires.2.near_shown)
      | else-direction w ↦ subst (λ x. IsThere (length c.args.cells.now) x.1) (sym w.left-is) (told_there _ _ _ c.requires.4 c.requires.2.far_shown)
    ]

pub write-requires-clause-height : goal.write-requires-clause-height
write-requires-clause-height g c =
    elim c.if-near-far.branch [
      | then-near-far w ↦ omega (arith, c.requires.2.far_low, w.taller-is)
      | else-near-far w ↦ omega (arith, c.requires.2.near_low, w.taller-is)
    ]

pub write-requires-clause-size : goal.write-requires-clause-size
write-requires-clause-size g c = omega (arith, c.requires.2.room, c.requires.3.size_is, c.requires.4.size_is)
