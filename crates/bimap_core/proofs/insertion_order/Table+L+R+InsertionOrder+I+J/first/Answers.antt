use Rattle.std.proofs.Common.{sym, ◌∙◌}
use Rattle.bimap_core.proofs.Ascending.{live_at_rank, none_at_rank, some_at_rank}
use Rattle.bimap_core.proofs.Positions.{insertion_walk}
use Rattle.bimap_core.proofs.insertion_order.Table+L+R+InsertionOrder+I+J.first.Goals as goal

pub returns-in_err-place : goal.returns-in_err-place
returns-in_err-place g c =
    let t = c.args.self.now in
    let walk = insertion_walk (λ p. p.0) g.L.PartialEq.eq g.I.Index.is_listing g.met.I.Index.settled t.pairs t.left.index t.left.list.places t.left_listing in
    let at = rw c.list.ensures at c.first.ensures in
    rw c.from_residual.ensures (sym (none_at_rank t.pairs t.left.list.places (λ q. (walk.live q).0) 0 (sym at ∙ c.in_err-place.was)))

pub held-requires : goal.held-requires
held-requires g c =
    let t = c.args.self.now in
    let walk = insertion_walk (λ p. p.0) g.L.PartialEq.eq g.I.Index.is_listing g.met.I.Index.settled t.pairs t.left.index t.left.list.places t.left_listing in
    let at = rw c.list.ensures at c.first.ensures in
    record { live = live_at_rank t.pairs t.left.list.places (λ q. (walk.live q).0) 0 c.in_ok-place.place (sym at ∙ c.in_ok-place.was) }

pub returns : goal.returns
returns g c =
    let t = c.args.self.now in
    let walk = insertion_walk (λ p. p.0) g.L.PartialEq.eq g.I.Index.is_listing g.met.I.Index.settled t.pairs t.left.index t.left.list.places t.left_listing in
    let at = rw c.list.ensures at c.first.ensures in
    sym (some_at_rank t.pairs t.left.list.places (λ q. (walk.live q).0) 0 c.in_ok-place.place (sym at ∙ c.in_ok-place.was) _ c.held.ensures)
