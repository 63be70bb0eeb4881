use Rattle.std.proofs.Common.{rules}
use Rattle.std.proofs.KnownBytes.{Appends-nil}
use Rattle.std.proofs.lemmas.Result.{err_from_is_err_and}
use Rattle.bimap_rows.proofs.Progress.{none_served, first_served, stopped_reading, next_served, all_read, all_served, stopped_at, value_of, fault_of}
use Rattle.bimap_rows.proofs.serve.serve_lines.Goals as goal

pub loop-taken-init : goal.loop-taken-init
loop-taken-init g c =
    let o = g.W.Write.contents c.args.output.now in
    none_served (g.I.Read.remaining c.args.input.now) o (g.B.Bijection.holding c.args.held.now).pairs c.requires.empty (Appends-nil o)

pub returns-in_err-ended-clause-err : goal.returns-in_err-ended-clause-err
returns-in_err-ended-clause-err g c =
    let p = err_from_is_err_and c.from_residual.result c.from_residual.ensures.1 in
    let d = c.in_err-ended.field-0.0 in
    rw (p.1, p.2) (stopped_reading c.loop-taken.invariant d (fault_of c.read_line.result d c.in_err-ended.ensures.cases (λ e h. search rules)))

pub returns-in_err-take_line-clause-err : goal.returns-in_err-take_line-clause-err
returns-in_err-take_line-clause-err g c =
    let p = err_from_is_err_and c.from_residual-in_err-take_line.result c.from_residual-in_err-take_line.ensures.1 in
    let ended = c.in_ok-ended.ended in
    let line = rw (value_of _ c.read_line.result ended c.in_ok-ended.ensures.cases) at c.read_line.ensures in
    rw (p.1, p.2)
    (stopped_at c.loop-taken.invariant c.read_line.new.line.items (g.I.Read.remaining c.read_line.new.input) (g.W.Write.contents c.take_line.new.output) ended c.in_err-take_line.field-0.0
    (rw c.as_slice.ensures.value at c.in_err-take_line.ensures.err) line)

pub returns-then-not-ended-clause-ok : goal.returns-then-not-ended-clause-ok
returns-then-not-ended-clause-ok g c =
    let line = rw (value_of _ c.read_line.result c.in_ok-ended.ended c.in_ok-ended.ensures.cases, c.if-not-ended.true) at c.read_line.ensures in
    all_served c.loop-taken.invariant c.read_line.new.line.items (g.I.Read.remaining c.read_line.new.input) (g.W.Write.contents c.take_line.new.output) (g.B.Bijection.holding c.take_line.new.held).pairs
    (rw c.as_slice.ensures.value at c.in_ok-take_line.ensures.ok) line

pub returns-then-not-ended-clause-end : goal.returns-then-not-ended-clause-end
returns-then-not-ended-clause-end g c =
    let line = rw (value_of _ c.read_line.result c.in_ok-ended.ended c.in_ok-ended.ensures.cases, c.if-not-ended.true) at c.read_line.ensures in
    all_read c.loop-taken.invariant c.read_line.new.line.items (g.I.Read.remaining c.read_line.new.input) (g.W.Write.contents c.take_line.new.output) line

pub loop-taken-preserved : goal.loop-taken-preserved
loop-taken-preserved g c =
    let line = rw (value_of _ c.read_line.result c.in_ok-ended.ended c.in_ok-ended.ensures.cases, c.if-not-ended.false) at c.read_line.ensures in
    next_served c.loop-taken.invariant c.read_line.new.line.items (g.I.Read.remaining c.read_line.new.input) (g.W.Write.contents c.take_line.new.output) (g.B.Bijection.holding c.take_line.new.held).pairs
    (rw c.as_slice.ensures.value at c.in_ok-take_line.ensures.ok) line

pub returns-clause-err : goal.returns-clause-err
returns-clause-err g c =
    let w = g.W.Write.contents c.loop-taken.output in
    ((g.B.Bijection.holding c.loop-taken.held).pairs, first_served c.loop-taken.invariant w (Appends-nil w))
