use Rattle.std.proofs.Common.{arith, length, ap, ◌<◌}
use Rattle.std.proofs.lemmas.List.{length-map}
use Rattle.bimap_base.proofs.NodesInCells.{map-written}
use Rattle.bimap_base.proofs.cells.Nodes.write.Goals as goal

pub of-requires : goal.of-requires
of-requires g c =
    let few : length c.args.self.now < g.C.Cell.most = omega (arith, c.self.invariant, ap length c.self.view_is, length-map c.self.inside.cells.items g.C.Cell.node_in) in
    (_, few, record { left = c.requires.left; right = c.requires.right; height = c.requires.height; size = c.requires.size })

pub returns-clause-written : goal.returns-clause-written
returns-clause-written g c = map-written g.C.Cell.node_in _ _ _ _ _ c.self.view_is c.of.ensures
