use Rattle.std.proofs.Common.{refl, Contains}
use Rattle.bimap.proofs.Members.{lacking}
use Rattle.bimap.proofs.Removals.{removing_right}
use Rattle.bimap_undo.proofs.Removing.{absent, refused, marks_recorded, recorded}
use Rattle.bimap_undo.proofs.undoable.Undoable.remove_by_right.Goals as goal

pub returns-then-not-contains_right : goal.returns-then-not-contains_right
returns-then-not-contains_right g c = rw (← c.self.view_is) (absent g.L.PartialEq.eq g.R.PartialEq.eq (λ p. p.1) g.R.PartialEq.eq (g.B.Bijection.holding c.self.inside.bimap) c.self.inside.changes.items c.self.inside.changes.items c.args.right.now (lacking (Contains (g.B.Bijection.holding c.self.inside.bimap).pairs) (λ (p : g.row.L.Denot × g.row.R.Denot). g.R.PartialEq.eq p.1 c.args.right.now) c.if-not-contains_right.ensures))

pub invariant_of-self : goal.invariant_of-self
invariant_of-self g c = rw c.reserve.ensures.items c.self.invariant

pub invariant_of-self-2 : goal.invariant_of-self-2
invariant_of-self-2 g c = marks_recorded g.L.PartialEq.eq g.R.PartialEq.eq (λ p. p.1) g.R.PartialEq.eq (g.B.Bijection.holding c.self.inside.bimap) c.self.inside.changes.items c.push_reserved.new.self.items c.args.right.now (removing_right g.L.PartialEq.eq g.R.PartialEq.eq g.met.L.Eq.laws g.met.R.Eq.laws) (g.B.Bijection.holding c.remove_by_right.new.self) c.unwrap-left.result (g.met.B.Bijection.apart c.self.inside.bimap) (g.met.B.Bijection.apart c.remove_by_right.new.self) (rw c.unwrap-left.ensures at c.remove_by_right.ensures.answer.removed) c.remove_by_right.ensures.answer.without (rw c.unwrap-left.ensures at c.remove_by_right.ensures.answer.count) c.remove_by_right.ensures.answer.room c.reserve.new.self.items c.push_reserved.ensures.items c.reserve.ensures.items c.self.invariant (g.met.B.Bijection.fits c.remove_by_right.new.self)

pub returns-in_err-reserve : goal.returns-in_err-reserve
returns-in_err-reserve g c = rw (← c.self.view_is) (refused g.L.PartialEq.eq g.R.PartialEq.eq (λ p. p.1) g.R.PartialEq.eq (g.B.Bijection.holding c.self.inside.bimap) c.self.inside.changes.items c.reserve.new.self.items c.args.right.now c.from_residual.result c.from_residual.ensures.0 (c.if-not-contains_right.ensures.0 refl) c.reserve.ensures.items)

pub returns : goal.returns
returns g c = rw (← c.self.view_is) (recorded g.L.PartialEq.eq g.R.PartialEq.eq (λ p. p.1) g.R.PartialEq.eq (g.B.Bijection.holding c.self.inside.bimap) c.self.inside.changes.items c.push_reserved.new.self.items c.args.right.now (removing_right g.L.PartialEq.eq g.R.PartialEq.eq g.met.L.Eq.laws g.met.R.Eq.laws) (g.B.Bijection.holding c.remove_by_right.new.self) c.unwrap-left.result (g.met.B.Bijection.apart c.self.inside.bimap) (g.met.B.Bijection.apart c.remove_by_right.new.self) (rw c.unwrap-left.ensures at c.remove_by_right.ensures.answer.removed) c.remove_by_right.ensures.answer.without (rw c.unwrap-left.ensures at c.remove_by_right.ensures.answer.count) c.remove_by_right.ensures.answer.room c.reserve.new.self.items c.push_reserved.ensures.items c.reserve.ensures.items)
