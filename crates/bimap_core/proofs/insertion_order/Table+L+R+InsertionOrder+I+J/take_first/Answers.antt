use Rattle.std.proofs.Common.{None, ap, arith, length, sym, ◌∙◌}
use Rattle.std.proofs.lemmas.List.{length-set}
use Rattle.bimap_core.proofs.Ascending.{live_at_rank}
use Rattle.bimap_core.proofs.Moves.{takes_first, takes_none}
use Rattle.bimap_core.proofs.Positions.{insertion_walk}
use Rattle.bimap_core.proofs.insertion_order.Table+L+R+InsertionOrder+I+J.take_first.Goals as goal

pub returns-in_err-place-clause-taken : goal.returns-in_err-place-clause-taken
returns-in_err-place-clause-taken g c =
    let t = c.args.self.now in
    let at = rw c.list.ensures at c.first.ensures in
    let none = takes_none t.pairs t.left.list.places 0 (omega arith) (sym at ∙ c.in_err-place.was) in
    rw c.from_residual.ensures (none, none)

pub take-requires : goal.take-requires
take-requires g c =
    let t = c.args.self.now in
    let walk = insertion_walk (λ p. p.0) g.L.PartialEq.eq g.I.Index.is_listing g.met.I.Index.settled t.pairs t.left.index t.left.list.places t.left_listing in
    let at = rw c.list.ensures at c.first.ensures in
    record { live = live_at_rank t.pairs t.left.list.places (λ q. (walk.live q).0) 0 c.in_ok-place.place (sym at ∙ c.in_ok-place.was) }

pub returns-clause-taken : goal.returns-clause-taken
returns-clause-taken g c =
    let t = c.args.self.now in
    let walk = insertion_walk (λ p. p.0) g.L.PartialEq.eq g.I.Index.is_listing g.met.I.Index.settled t.pairs t.left.index t.left.list.places t.left_listing in
    let at = rw c.list.ensures at c.first.ensures in
    takes_first t.pairs t.left.list.places walk c.in_ok-place.place c.take.result c.take.ensures.was c.take.new.self.pairs c.take.ensures.pairs c.take.new.self.left.list.places (c.take.ensures.left_places tt) (sym at ∙ c.in_ok-place.was)

pub returns-clause-room : goal.returns-clause-room
returns-clause-room g c = ap length c.take.ensures.pairs ∙ length-set c.args.self.now.pairs c.in_ok-place.place None
