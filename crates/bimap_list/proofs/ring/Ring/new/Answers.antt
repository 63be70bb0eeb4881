use Rattle.std.proofs.Common.{[], refl, arith}
use Rattle.bimap_list.proofs.Links.{is_ring, none_listed, shown}
use Rattle.bimap_list.proofs.ring.Ring.new.Goals as goal

pub invariant_of-result : goal.invariant_of-result
invariant_of-result g c = rw c.new.ensures.items (record { ring = is_ring [] [] (none_listed [] (refl, refl)); few = omega arith })

pub returns-clause-places : goal.returns-clause-places
returns-clause-places g c = rw c.new.ensures.items (shown [] [] (none_listed [] (refl, refl)))
