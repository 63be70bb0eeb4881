use Rattle.bimap_core.proofs.Ascending.{order_walk}
use Rattle.bimap_kinds.proofs.Walk.{all_live}
use Rattle.bimap_kinds.proofs.ends.BijectiveMap+L+R+Ordered+J.pair_at_left_rank_metered.Goals as goal

pub returns-clause-pair : goal.returns-clause-pair
unfolding Rattle.bimap_kinds.specs.HeldTable.held
returns-clause-pair g c = search

pub pair_at_rank-requires : goal.pair_at_rank-requires
pair_at_rank-requires g c = record { live = let table = c.args.self.now.table in all_live table.pairs table.left.places (order_walk (λ p. p.0) g.met.L.Ord.total g.met.L.Ord.matches_eq table.pairs table.left.places table.left_listing) }
