use Rattle.serde_json.specs.View.{view}
use Rattle.bimap.specs.BTree.{holding}
use Rattle.bimap.proofs.JsonWalks.{walk_written}
use Rattle.bimap_c.proofs.json.to_value.Goals as goal

pub returns : goal.returns
returns g c =
    let w = walk_written g.L.JsonKey.writes_key g.R.JsonValue.writes g.L.JsonKey.reads_key g.R.JsonValue.reads g.L.PartialEq.eq g.R.PartialEq.eq g.met.L.Eq.laws view c.iter.result (holding c.args.map.now).pairs c.iter.ensures.rest c.args.map.now.apart c.write_walk.result c.write_walk.ensures in
    record { object = w.0; reads_back = w.1 }
