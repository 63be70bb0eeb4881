use Rattle.std.proofs.Common.{refl}
use Rattle.serde_json.specs.View.{view}
use Rattle.bimap_journal.proofs.Kept.{kept_more, read_by, line_of_read}
use Rattle.bimap_journal.proofs.reading.make_line.Goals as goal

pub returns-in-Ok-None-clause-fault : goal.returns-in-Ok-None-clause-fault
returns-in-Ok-None-clause-fault g c =
    let none = rw c.in-Ok-None.field-0-is at c.in-Ok-None.ensures in
    (refl, λ change t. none.1 t.value t.says)

pub returns-in-Err-Bad-clause-fault : goal.returns-in-Err-Bad-clause-fault
returns-in-Err-Bad-clause-fault g c =
    let some = rw c.in-Ok-Some.field-0-is at c.in-Ok-Some.ensures in
    let nothing = rw c.in-Err-Bad.field-0-is at c.in-Err-Bad.ensures in
    (refl, λ change t. nothing change (read_by g.L.Stored.reads g.R.Stored.reads g.L.PartialEq.eq g.R.PartialEq.eq g.met.L.Eq.laws g.met.R.Eq.laws c.args.text.now (view c.in-Ok-Some.value) some.0 change t))

pub returns-in-Ok-make-clause-made : goal.returns-in-Ok-make-clause-made
returns-in-Ok-make-clause-made g c texts kept =
    let some = rw c.in-Ok-Some.field-0-is at c.in-Ok-Some.ensures in
    let line = line_of_read g.L.Stored.reads g.R.Stored.reads g.L.PartialEq.eq g.R.PartialEq.eq g.met.L.Eq.laws g.met.R.Eq.laws c.args.text.now (view c.in-Ok-Some.value) some.0
    g.met.L.Stored.one g.met.R.Stored.one c.in-Ok.change c.in-Ok.ensures in
    kept_more g.L.Stored.reads g.R.Stored.reads g.L.PartialEq.eq g.R.PartialEq.eq g.met.L.Eq.laws g.met.R.Eq.laws texts c.args.text.now c.in-Ok.change _ _ kept line c.in-Ok-make.ensures
