use Rattle.bimap.proofs.JsonRoundTrip.{reread}
use Rattle.bimap.proofs.value.object.reread.Goals as goal

pub returns-in-Ok : goal.returns-in-Ok
returns-in-Ok g c =
    let r = reread g.L.PartialEq.eq g.R.PartialEq.eq g.met.L.Eq.laws g.met.R.Eq.laws g.L.JsonKey.writes_key g.R.JsonValue.writes g.L.JsonKey.reads_key g.R.JsonValue.reads (g.B.Bijection.holding c.args.bimap.now).pairs (g.met.B.Bijection.apart c.args.bimap.now) c.in-Ok.ensures.reads_back _ c.in-Ok.ensures.object g.B.Bijection.holding 0 g.met.B.Bijection.apart c.from_value.result c.from_value.ensures.read in
    record { same = r.0; only_memory = r.1 }
