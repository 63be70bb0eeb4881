use Rattle.std.proofs.Common.{ap, ◌∙◌, arith, length, ◌<◌}
use Rattle.std.proofs.lemmas.List.{length-map}
use Rattle.bimap_base.specs.NodesInCells.{linked}
use Rattle.bimap_base.proofs.NodesInCells.{map-written, read-mapped}
use Rattle.bimap_base.proofs.cells.Nodes.set_child.Goals as goal

pub linked-requires : goal.linked-requires
linked-requires g c =
    let few : length c.args.self.now < g.C.Cell.most = omega (arith, c.self.invariant, ap length c.self.view_is, length-map c.self.inside.cells.items g.C.Cell.node_in) in
    (_, few, c.requires.child)

pub returns-clause-written : goal.returns-clause-written
returns-clause-written g c n told =
    let is = read-mapped g.C.Cell.node_in _ _ _ _ n c.index.ensures c.self.view_is told in
    map-written g.C.Cell.node_in _ _ _ _ _ c.self.view_is (c.linked.ensures ∙ ap (λ z. linked c.args.direction c.args.child z) is)
