use Rattle.std.proofs.Common.{arith}
use Rattle.bimap.proofs.Ends.{end_is_held, none_below, none_held}
use Rattle.demo_any.proofs.queue.in_front.Goals as goal

pub returns-clause-waits : goal.returns-clause-waits
returns-clause-waits g c = let h = c.first_by_right.ensures in end_is_held _ _ _ _ h.sorted _ h.pair

pub returns-clause-least : goal.returns-clause-least
returns-clause-least g c = let h = c.first_by_right.ensures in none_below _ _ h.sorted _ h.pair

pub returns-clause-nobody : goal.returns-clause-nobody
returns-clause-nobody g c =
    let h = c.first_by_right.ensures in
    none_held _ _ 0 _ h.pair (omega arith) h.sorted.count
