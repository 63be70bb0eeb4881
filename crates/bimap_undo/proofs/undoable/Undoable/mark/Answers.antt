use Rattle.std.proofs.Common.{drop, arith}
use Rattle.bimap_undo.specs.Marks.{marked}
use Rattle.bimap_undo.proofs.Paths.{held_before_last, path_from_one}
use Rattle.bimap_undo.proofs.undoable.Undoable.mark.Goals as goal

pub returns-clause-stands_for_what_is_held :
    goal.returns-clause-stands_for_what_is_held
returns-clause-stands_for_what_is_held g c =
    rw (← c.self.view_is) (held_before_last g.L.PartialEq.eq g.R.PartialEq.eq (marked (g.B.Bijection.holding c.self.inside.bimap) c.self.inside.changes.items) c.len.result (omega (arith, c.len.ensures, c.self.inside.changes.ok.0)) (g.met.B.Bijection.apart c.self.inside.bimap))

pub returns-clause-stands_for_a_set : goal.returns-clause-stands_for_a_set
returns-clause-stands_for_a_set g c = rw (← c.self.view_is) (λ mark within. let w = c.self.invariant mark (omega (arith, within, c.len.ensures, c.self.inside.changes.ok.0)) in (w.0, w.1))

pub returns-clause-for_one_set : goal.returns-clause-for_one_set
returns-clause-for_one_set g c mark A B within a b = path_from_one g.L.PartialEq.eq g.R.PartialEq.eq g.met.L.Eq.laws g.met.R.Eq.laws A B (drop mark c.args.self.now.entries) c.args.self.now.held.pairs a.apart b.apart a.path b.path
