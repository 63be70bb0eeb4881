use Rattle.bimap_any.proofs.Fits.{fits_right_by}
use Rattle.bimap_any.proofs.bijection.Bijection.fits_right.Goals as goal

pub returns-in-Some : goal.returns-in-Some
returns-in-Some g c =
    rw c.eq.ensures (fits_right_by g.L.PartialEq.eq g.R.PartialEq.eq g.met.L.Eq.laws g.met.R.Eq.laws (g.Self.Bijection.holding c.args.self.now).pairs c.args.left.now (g.met.Self.Bijection.apart c.args.self.now) c.in-Some.found.now c.args.r.now c.in-Some.ensures.found)
