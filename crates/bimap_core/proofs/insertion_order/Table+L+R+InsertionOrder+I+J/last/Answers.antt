use Rattle.std.proofs.Common.{◌-◌, ap, length, sym, ◌∙◌}
use Rattle.std.specs.Prelude.{slice_get}
use Rattle.bimap_base.specs.PairsAt.{pairs_at}
use Rattle.bimap_base.proofs.Walk.{long_at}
use Rattle.bimap_core.proofs.Ascending.{live_at_rank, none_at_rank, some_at_rank}
use Rattle.bimap_core.proofs.Positions.{insertion_walk}
use Rattle.bimap_core.proofs.insertion_order.Table+L+R+InsertionOrder+I+J.last.Goals as goal

pub returns-in_err-place : goal.returns-in_err-place
returns-in_err-place g c =
    let t = c.args.self.now in
    let walk = insertion_walk (λ p. p.0) g.L.PartialEq.eq g.I.Index.is_listing g.met.I.Index.settled t.pairs t.left.index t.left.list.places t.left_listing in
    let at = rw c.list.ensures at c.last.ensures in
    rw c.from_residual.ensures (sym (ap (λ n. slice_get (pairs_at t.pairs t.left.list.places) (n - 1)) (long_at t.pairs t.left.list.places (λ q. (walk.live q).0)) ∙ none_at_rank t.pairs t.left.list.places (λ q. (walk.live q).0) (length t.left.list.places - 1) (sym at ∙ c.in_err-place.was)))

pub held-requires : goal.held-requires
held-requires g c =
    let t = c.args.self.now in
    let walk = insertion_walk (λ p. p.0) g.L.PartialEq.eq g.I.Index.is_listing g.met.I.Index.settled t.pairs t.left.index t.left.list.places t.left_listing in
    let at = rw c.list.ensures at c.last.ensures in
    record { live = live_at_rank t.pairs t.left.list.places (λ q. (walk.live q).0) (length t.left.list.places - 1) c.in_ok-place.place (sym at ∙ c.in_ok-place.was) }

pub returns : goal.returns
returns g c =
    let t = c.args.self.now in
    let walk = insertion_walk (λ p. p.0) g.L.PartialEq.eq g.I.Index.is_listing g.met.I.Index.settled t.pairs t.left.index t.left.list.places t.left_listing in
    let at = rw c.list.ensures at c.last.ensures in
    sym (ap (λ n. slice_get (pairs_at t.pairs t.left.list.places) (n - 1)) (long_at t.pairs t.left.list.places (λ q. (walk.live q).0)) ∙ some_at_rank t.pairs t.left.list.places (λ q. (walk.live q).0) (length t.left.list.places - 1) c.in_ok-place.place (sym at ∙ c.in_ok-place.was) _ c.held.ensures)
