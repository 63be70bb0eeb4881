use Rattle.std.proofs.Common.{arith}
use Rattle.bimap_kinds.proofs.LastTaken.{last_taken}
use Rattle.bimap_kinds.proofs.ends.BijectiveMap+L+R+I+Ordered.pop_last_by_right_metered.Goals as goal

pub returns-clause-taken : goal.returns-clause-taken
returns-clause-taken g c =
    last_taken _ _ c.take_at_right_rank.result c.saturating_sub-last.result (omega (arith, c.saturating_sub-last.ensures, c.len.ensures, c.take_at_right_rank.ensures.sorted.count)) c.take_at_right_rank.ensures.pair c.take_at_right_rank.ensures.rest
