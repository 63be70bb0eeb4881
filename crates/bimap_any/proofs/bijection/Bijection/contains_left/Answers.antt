use Rattle.std.specs.Prelude.{Contains}
use Rattle.bimap_base.proofs.Members.{found_tells}
use Rattle.bimap_any.proofs.bijection.Bijection.contains_left.Goals as goal

pub returns : goal.returns
returns g c =
    rw c.is_some.ensures (found_tells _ (Contains (g.Self.Bijection.holding c.args.self.now).pairs) (λ (p : g.row.L.Denot × g.row.R.Denot). g.L.PartialEq.eq p.0 c.args.left.now) c.get_by_left.result c.get_by_left.ensures.found c.get_by_left.ensures.none (λ right h. ((h.0, right.now), h.1, h.2)))
