use Rattle.serde_json.specs.View.{view}
use Rattle.bimap.proofs.JsonReading.{read_any}
use Rattle.bimap.proofs.value.object.read_into.Goals as goal

pub returns-clause-read : goal.returns-clause-read
returns-clause-read g c = read_any g.L.JsonKey.reads_key g.R.JsonValue.reads g.L.PartialEq.eq g.R.PartialEq.eq _ g.B.Bijection.holding (g.B.Bijection.holding c.args.empty).room (view c.args.value.now) (λ e. absurd (cc)) (λ e. absurd (cc)) c.read_into_with.result c.read_into_with.ensures.read
