use Rattle.std.proofs.Common.{refl}
use Rattle.bimap_list.proofs.ring.Ring.to_front.Goals as goal

pub push_front-requires-clause-absent : goal.push_front-requires-clause-absent
push_front-requires-clause-absent g c has = ((c.remove.ensures.drops c.args.place).0 has).1 refl
