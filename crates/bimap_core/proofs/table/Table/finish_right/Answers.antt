use Rattle.std.proofs.Common.{Some}
use Rattle.bimap_core.proofs.Linking.{found_at}
use Rattle.bimap_core.proofs.table.Table.finish_right.Goals as goal

pub returns-clause-found : goal.returns-clause-found
returns-clause-found g c = found_at (λ p. p.1) g.R.PartialEq.eq c.args.self.now.pairs c.args.right.now c.finish.result (rw c.new-2.ensures at c.finish.ensures.found)

pub returns-then-is_known-clause-found : goal.returns-then-is_known-clause-found
returns-then-is_known-clause-found g c = found_at (λ p. p.1) g.R.PartialEq.eq c.args.self.now.pairs c.args.right.now (Some c.in-Some.place) (rw c.new.ensures at c.is_known.ensures.found c.if-is_known.true)
