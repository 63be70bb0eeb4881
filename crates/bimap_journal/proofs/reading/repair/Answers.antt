use Rattle.std.specs.Prelude.{is_ok}
use Rattle.bimap_journal.proofs.Opened.{any_moment_0, any_moment_1, any_moment_2, is_repaired, on_ok}
use Rattle.bimap_journal.proofs.reading.repair.Goals as goal

pub returns-then-long-end-clause-any_moment : goal.returns-then-long-end-clause-any_moment
returns-then-long-end-clause-any_moment g c texts rests = any_moment_0 c.args.disk.now c.args.end texts rests

pub returns-in_err-set_len-clause-any_moment : goal.returns-in_err-set_len-clause-any_moment
returns-in_err-set_len-clause-any_moment g c texts rests =
    any_moment_1 c.args.disk.now c.args.end texts rests _ (is_ok c.set_len.result) c.set_len.ensures.0 c.set_len.ensures.1

pub returns-clause-at_rest : goal.returns-clause-at_rest
returns-clause-at_rest g c texts rests =
    on_ok c.sync.result (is_repaired c.args.disk.now c.args.end texts rests _ c.sync.new.self (is_ok c.sync.result) c.in_ok-set_len.ensures.0 c.sync.ensures.0 c.in_ok-set_len.ensures.1 c.sync.ensures.1)

pub returns-clause-any_moment : goal.returns-clause-any_moment
returns-clause-any_moment g c texts rests =
    any_moment_2 c.args.disk.now c.args.end texts rests _ c.sync.new.self (is_ok c.sync.result) c.in_ok-set_len.ensures.0 c.sync.ensures.0 c.in_ok-set_len.ensures.1 c.sync.ensures.1
