use Rattle.bimap_kinds.specs.Held.{holding}
use Rattle.bimap.proofs.JsonRoundTrip.{reread}
use Rattle.bimap.proofs.value.kinds.reread_with_hashers.Goals as goal

pub returns-in-Ok : goal.returns-in-Ok
returns-in-Ok g c =
    let r = reread g.L.PartialEq.eq g.R.PartialEq.eq g.met.L.Eq.laws g.met.R.Eq.laws g.L.JsonKey.writes_key g.R.JsonValue.writes g.L.JsonKey.reads_key g.R.JsonValue.reads (holding c.args.bimap.now).pairs c.args.bimap.now.apart c.in-Ok.ensures.reads_back _ c.in-Ok.ensures.object holding 0 (λ b. b.apart) c.from_value_with_hashers.result c.from_value_with_hashers.ensures in
    record { same = r.0; only_memory = r.1 }
