use Rattle.std.proofs.Common.{◌≡◌}
use Rattle.bimap_list.proofs.Ranking.{IsRead}
use Rattle.bimap_list.proofs.ring.Ring.copied.Given as goal

abbrev pub invariant-loop : goal.invariant-loop
invariant-loop g l = record { read : IsRead l.self.places l.counter l.copy.places l.next; cells : l.copy.cells ≡ l.to }
