use Rattle.bimap_list.proofs.Links.{told_joined}
use Rattle.bimap_list.proofs.ring.join.Goals as goal

pub returns-clause-joined : goal.returns-clause-joined
returns-clause-joined g c =
    told_joined g.N.CellNumber.value c.args.cells.now.items c.args.from c.args.to c.index_mut.result.now _ c.index_mut-2.result.now _ c.of-2.result c.of.result c.requires.from c.requires.to c.of-2.ensures c.of.ensures c.index_mut.ensures.value c.index_mut-2.ensures.value
