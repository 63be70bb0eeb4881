use Rattle.std.proofs.Common.{ap, ◌∙◌}
use Rattle.bimap_base.specs.NodesInCells.{counted}
use Rattle.bimap_base.proofs.NodesInCells.{map-written, read-mapped}
use Rattle.bimap_base.proofs.cells.Nodes.count.Goals as goal

pub returns-clause-written : goal.returns-clause-written
returns-clause-written g c n told =
    let is = read-mapped g.C.Cell.node_in _ _ _ _ n c.index.ensures c.self.view_is told in
    map-written g.C.Cell.node_in _ _ _ _ _ c.self.view_is (c.counted.ensures ∙ ap (λ z. counted c.args.grew z) is)
