use Rattle.std.specs.Prelude.{Contains}
use Rattle.bimap_base.proofs.Members.{found_tells}
use Rattle.bimap_kinds.specs.Held.{holding}
use Rattle.bimap_kinds.proofs.map.BijectiveMap.contains_left.Goals as goal

pub returns : goal.returns
returns g c =
    rw c.is_some.ensures (found_tells _ (Contains (holding c.args.self.now).pairs) (λ (p : g.row.L.Denot × g.row.R.Denot). g.Q.Query.same p.0 c.args.left) c.get_by_left.result c.get_by_left.ensures.found c.get_by_left.ensures.none (λ y h. ((h.0, y.now), h.1, h.2)))
