use Rattle.bimap_core.proofs.Ascending.{order_walk}
use Rattle.bimap_kinds.proofs.Walk.{all_live, left_walk, sorted_walk}
use Rattle.bimap_kinds.proofs.ends.BijectiveMap+L+R+I+Ordered.pair_at_right_rank_metered.Goals as goal

pub returns-clause-sorted : goal.returns-clause-sorted
returns-clause-sorted g c =
    let table = c.args.self.now.table in
    sorted_walk table g.met.R.Ord.total g.met.R.Ord.matches_eq (left_walk table g.met.I.Index.listed g.met.I.Index.distinct g.met.I.Index.settled) table.right_listing

pub returns-clause-comparisons : goal.returns-clause-comparisons
returns-clause-comparisons g c = search

pub pair_at_rank-requires : goal.pair_at_rank-requires
pair_at_rank-requires g c = record { live = let table = c.args.self.now.table in all_live table.pairs table.right.places (order_walk (λ p. p.1) g.met.R.Ord.total g.met.R.Ord.matches_eq table.pairs table.right.places table.right_listing) }
