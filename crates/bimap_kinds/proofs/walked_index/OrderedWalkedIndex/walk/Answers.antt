use Rattle.bimap_walk.proofs.InSpan.{live_places}
use Rattle.bimap_kinds.proofs.walked_index.OrderedWalkedIndex.walk.Goals as goal

pub iter-requires : goal.iter-requires
iter-requires g c = record { live = live_places c.args.pairs.now (g.S.Side.key_at c.args._side) g.K.Ord.cmp c.args.self.now.places c.requires.of_store c.requires.listing.up }

pub returns : goal.returns
returns g c = search
