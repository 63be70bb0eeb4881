use Rattle.bimap_index.proofs.Hashing.{found_by_hash}
use Rattle.bimap_index.proofs.hash_index.HashIndex.unlink_hashed.Goals as goal

pub returns-clause-found : goal.returns-clause-found
returns-clause-found g c = found_by_hash g.K.PartialEq.eq _ (λ k. g.Q.Query.same k c.args.query) (g.met.Q.Query.respects c.args.query) c.args.self.now.hashed (g.S.Side.key_at c.args.side) c.requires c.take.result (rw c.new.ensures.side at c.take.ensures.found) (rw c.new.ensures.side at c.take.ensures.absent)
