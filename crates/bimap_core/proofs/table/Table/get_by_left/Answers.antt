use Rattle.std.proofs.Common.{is_some, ap}
use Rattle.bimap_core.proofs.Places.{held_at, pair_of, key_lacking}
use Rattle.bimap_core.proofs.Linking.{found_at, found_here}
use Rattle.bimap_core.proofs.table.Table.get_by_left.Goals as goal

pub held-requires : goal.held-requires
held-requires g c = record { live = ap is_some (pair_of _ _ (found_here (λ p. p.0) g.Q.Query.same c.args.self.now.pairs c.args.left c.find_by.result (rw c.new.ensures at c.find_by.ensures.found) c.in_ok-place.place c.in_ok-place.was)).1 }

pub returns-clause-answer : goal.returns-clause-answer
returns-clause-answer g c =
    let here = found_here (λ p. p.0) g.Q.Query.same c.args.self.now.pairs c.args.left c.find_by.result (rw c.new.ensures at c.find_by.ensures.found) c.in_ok-place.place c.in_ok-place.was in
    record { found = (c.held.result.0.now, held_at c.args.self.now.pairs c.in_ok-place.place (c.held.result.0.now, c.held.result.1.now) c.held.ensures, rw c.held.ensures at here); none = tt }

pub returns-in_err-place-clause-answer : goal.returns-in_err-place-clause-answer
returns-in_err-place-clause-answer g c = rw c.from_residual.ensures record { found = tt; none = key_lacking (λ p. p.0) g.Q.Query.same _ _ _ (found_at (λ p. p.0) g.Q.Query.same c.args.self.now.pairs c.args.left c.find_by.result (rw c.new.ensures at c.find_by.ensures.found)) c.in_err-place.was }

pub returns-clause-comparisons : goal.returns-clause-comparisons
returns-clause-comparisons g c = c.find_by.ensures.comparisons
