use Rattle.std.proofs.Common.{◌≡◌}
use Rattle.bimap_list.proofs.Ranking.{AreRanked}
use Rattle.bimap_list.proofs.linked_list.LinkedList.ranks.Given as goal

abbrev pub invariant-loop-place : goal.invariant-loop-place
invariant-loop-place l = record { ranked : AreRanked l.sorted.items l.self.places l.place-index l.list.places; cells : l.list.cells ≡ l.to }
