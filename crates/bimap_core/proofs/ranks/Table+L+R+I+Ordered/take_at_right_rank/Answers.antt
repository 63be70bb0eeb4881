use Rattle.bimap_core.proofs.Ascending.{order_walk, none_taken, live_at_rank, taken_ranked}
use Rattle.bimap_core.proofs.ranks.Table+L+R+I+Ordered.take_at_right_rank.Goals as goal

pub returns-in_err-taken-clause-taken : goal.returns-in_err-taken-clause-taken
returns-in_err-taken-clause-taken g c = rw c.from_residual.ensures (none_taken c.args.self.now.pairs c.args.self.now.right.places (order_walk (λ p. p.1) g.met.R.Ord.total g.met.R.Ord.matches_eq c.args.self.now.pairs c.args.self.now.right.places c.args.self.now.right_listing) c.args.rank (rw c.place_at.ensures.place at c.in_err-taken.was))

pub take-requires : goal.take-requires
take-requires g c = record { live = live_at_rank c.args.self.now.pairs c.args.self.now.right.places (λ q. ((order_walk (λ p. p.1) g.met.R.Ord.total g.met.R.Ord.matches_eq c.args.self.now.pairs c.args.self.now.right.places c.args.self.now.right_listing).live q).0) c.args.rank c.in_ok-taken.taken (rw c.place_at.ensures.place at c.in_ok-taken.was) }

pub returns-clause-taken : goal.returns-clause-taken
returns-clause-taken g c =
    let t = c.args.self.now in
    let n = c.take.new.self in
    taken_ranked g.met.L.Eq.laws g.met.R.Eq.laws (λ p. p.1) g.met.R.Ord.total g.met.R.Ord.matches_eq t.pairs n.pairs t.right.places n.right.places t.right_listing n.right_listing t.apart c.in_ok-taken.taken c.take.result c.take.ensures.was c.take.ensures.pairs c.args.rank (rw c.place_at.ensures.place at c.in_ok-taken.was)
