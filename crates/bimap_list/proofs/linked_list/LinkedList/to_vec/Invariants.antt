use Rattle.bimap_list.proofs.Ranking.{IsRead}
use Rattle.bimap_list.proofs.linked_list.LinkedList.to_vec.Given as goal

abbrev pub invariant-loop : goal.invariant-loop
invariant-loop l = IsRead l.self.places l.counter l.places.items l.next
