use Rattle.std.proofs.Common.{length, arith}
use Rattle.bimap_chain.proofs.Kept.{masked}
use Rattle.bimap_chain.proofs.threads.Threads.bucket.Goals as goal

pub returns-clause-value : goal.returns-clause-value
returns-clause-value g c = masked c.args.number (length c.args.self.now.heads) _ c.requires.some c.requires.power (omega (arith, c.buckets.ensures))
