use Rattle.std.proofs.Common.{◌∙◌}
use Rattle.bimap.proofs.LookUps.{put_is_held, found_by_left}
use Rattle.demo_any.proofs.found.seat_and_find.Goals as goal

pub returns : goal.returns
returns g c =
    let guests = g.met.G.Eq.laws in
    let seated = put_is_held g.G.PartialEq.eq g.S.PartialEq.eq _ _ _ c.in_ok-insert.ensures.answer.put in
    c.copied.ensures ∙ found_by_left _ _ guests g.met.S.Eq.laws _ _ _ _ _ (g.met.B.Bijection.apart c.insert.new.self) seated (guests.refl c.args.guest) c.get_by_left.ensures
