use Rattle.std.proofs.Common.{arith}
use Rattle.bimap_chain.proofs.chains.heads_for.Goals as goal

pub returns-then-wanted-heads-clause-sized : goal.returns-then-wanted-heads-clause-sized
returns-then-wanted-heads-clause-sized c = record { enough = omega (arith, c.max-wanted.ensures, c.if-wanted-heads.true); power = c.requires.power }

pub returns-else-wanted-heads-clause-sized : goal.returns-else-wanted-heads-clause-sized
returns-else-wanted-heads-clause-sized c = record { enough = omega (arith, c.max-wanted.ensures, c.next_power_of_two.ensures.lower_bound); power = λ _. c.next_power_of_two.ensures.power }
