use Rattle.std.proofs.Common.{refl, sym, ◌∙◌}
use Rattle.std.proofs.lemmas.Bool.{false≢true}
use Rattle.bimap_base.specs.declared.overwritten.Overwritten.TheVariants.{Neither}
use Rattle.bimap_any.proofs.Fits.{undoable_by, names_one, one_pair, two_pairs}
use Rattle.bimap_any.proofs.bijection.Bijection.can_undo_insert.Goals as goal
use Rattle.bimap_any.proofs.bijection.Bijection.can_undo_insert.Goals.{then-fits_beside, else-fits_beside}

pub returns-then-not-contains_left : goal.returns-then-not-contains_left
returns-then-not-contains_left g c = (λ e. absurd (false≢true e), λ u. c.if-not-contains_left.ensures.1 (u.pair, u.member, u.by_left))

pub returns-in-Neither : goal.returns-in-Neither
returns-in-Neither g c = rw c.in-Neither.is (
  λ e. undoable_by g.L.PartialEq.eq g.R.PartialEq.eq g.met.L.Eq.laws g.met.R.Eq.laws (g.Self.Bijection.holding c.args.self.now).pairs c.args.left.now (g.met.Self.Bijection.apart c.args.self.now) Neither (c.if-not-contains_left.ensures.0 refl) (λ q o. absurd o) tt,
  λ u. refl,
)

pub returns-in-Left : goal.returns-in-Left
returns-in-Left g c =
    one_pair g.L.PartialEq.eq g.R.PartialEq.eq g.met.L.Eq.laws g.met.R.Eq.laws (g.Self.Bijection.holding c.args.self.now).pairs c.args.left.now (g.met.Self.Bijection.apart c.args.self.now) c.args.answer.now (c.in-Left.l, c.in-Left.r) c.fits_beside-in-Left.result (names_one c.args.answer.now c.in-Left.l c.in-Left.r c.in-Left.is) (c.if-not-contains_left.ensures.0 refl) c.fits_beside-in-Left.ensures

pub returns-then-fits_beside-2 : goal.returns-then-fits_beside-2
returns-then-fits_beside-2 g c =
    elim c.if-fits_beside.branch [
      | then-fits_beside w ↦ rw c.in-Both.is (two_pairs g.L.PartialEq.eq g.R.PartialEq.eq g.met.L.Eq.laws g.met.R.Eq.laws (g.Self.Bijection.holding c.args.self.now).pairs c.args.left.now (g.met.Self.Bijection.apart c.args.self.now) c.in-Both.first c.in-Both.second c.are_apart.result (c.if-not-contains_left.ensures.0 refl) (c.fits_beside.ensures.0 w.if-fits_beside.true) (w.fits_beside-then-fits_beside.ensures.0 (sym w.value-is ∙ c.if-fits_beside-2.true)) c.are_apart.ensures)
      | else-fits_beside w ↦ absurd (false≢true (sym w.if-fits_beside.false ∙ sym w.value-is ∙ c.if-fits_beside-2.true))
    ]
