use Rattle.std.specs.Prelude.{Contains}
use Rattle.bimap_base.proofs.Members.{found_tells}
use Rattle.bimap_any.proofs.bijection.Bijection.contains_right.Goals as goal

pub returns : goal.returns
returns g c =
    rw c.is_some.ensures (found_tells _ (Contains (g.Self.Bijection.holding c.args.self.now).pairs) (λ (p : g.row.L.Denot × g.row.R.Denot). g.R.PartialEq.eq p.1 c.args.right.now) c.get_by_right.result c.get_by_right.ensures.found c.get_by_right.ensures.none (λ left h. ((left.now, h.0), h.1, h.2)))
