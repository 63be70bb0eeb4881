use Rattle.std.proofs.Common.{arith}
use Rattle.demo_any.proofs.moves.can_move.Goals as goal

pub returns : goal.returns
returns g c =
    let mark = c.mark-mark.result in
    let before = c.mark-mark.ensures.stands_for_what_is_held in
    let one = c.move_to-first.ensures.kept.sets mark (omega arith) _ before in
    let two = c.move_to-second.ensures.kept.sets mark (omega arith) _ one in
    let three = c.move_to-third.ensures.kept.sets mark (omega arith) _ two in
    c.back_to.ensures.gone_back.held _ three
