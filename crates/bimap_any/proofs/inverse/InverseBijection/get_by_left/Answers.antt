use Rattle.bimap_any.proofs.Sides.{partner_inverse}
use Rattle.bimap_any.proofs.inverse.InverseBijection.get_by_left.Goals as goal

pub returns : goal.returns
returns g c = partner_inverse c.get_by_right.ensures
