use Rattle.bimap_undo.specs.Marks.{marked}
use Rattle.bimap_undo.proofs.Paths.{no_marks}
use Rattle.bimap_undo.proofs.undoable.Undoable.new.Goals as goal

pub invariant_of-result : goal.invariant_of-result
invariant_of-result g c =
    no_marks g.L.PartialEq.eq g.R.PartialEq.eq (marked (g.B.Bijection.holding c.args.bimap) c.new-changes.result.items) c.new-changes.ensures.items (g.met.B.Bijection.apart c.args.bimap) (g.met.B.Bijection.fits c.args.bimap)
