use Rattle.std.proofs.Common.{sym, ◌∙◌}
use Rattle.std.specs.Prelude.{Contains}
use Rattle.bimap_any.proofs.Fits.{fits_left_by}
use Rattle.bimap_any.proofs.bijection.Bijection.fits_left.Goals as goal

pub returns-else-eq : goal.returns-else-eq
returns-else-eq g c =
    fits_left_by g.L.PartialEq.eq g.R.PartialEq.eq g.met.L.Eq.laws g.met.R.Eq.laws (Contains (g.Self.Bijection.holding c.args.self.now).pairs) c.args.left.now c.args.l.now c.contains_left.result (sym c.eq.ensures ∙ c.if-eq.false) c.contains_left.ensures
