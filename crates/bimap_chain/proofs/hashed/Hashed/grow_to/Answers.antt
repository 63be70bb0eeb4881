use Rattle.std.proofs.Common.{arith, rules}
use Rattle.bimap_chain.proofs.hashed.Hashed.grow_to.Goals as goal

pub grow-requires-clause-few : goal.grow-requires-clause-few
grow-requires-clause-few c = omega arith

pub returns-then-to-lt-WIDE-clause-ok : goal.returns-then-to-lt-WIDE-clause-ok
returns-then-to-lt-WIDE-clause-ok c = search rules
