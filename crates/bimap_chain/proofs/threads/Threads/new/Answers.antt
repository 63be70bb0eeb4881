use Rattle.std.proofs.Common.{rules}
use Rattle.bimap_chain.proofs.threads.Threads.new.Goals as goal

pub returns-clause-heads : goal.returns-clause-heads
returns-clause-heads g c = search rules
