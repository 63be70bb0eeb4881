use Rattle.std.proofs.Common.{ap, map, ◌∙◌, arith}
use Rattle.bimap_base.specs.NodesInCells.{link_of}
use Rattle.bimap_chain.specs.Cells.{cell_of}
use Rattle.bimap_chain.specs.Width.{target}
use Rattle.bimap_chain.proofs.Kept.{as_many}
use Rattle.bimap_chain.proofs.threads.Threads.empty.Goals as goal

pub returns-clause-cells : goal.returns-clause-cells
returns-clause-cells g c =
    let cell = cell_of g.L.Link.width in
    ap (map cell) c.refill.ensures ∙ as_many cell cell _ _ _ _ _ (ap (λ t. t.cells) c.self.view_is) (omega (arith, c.len-cells.ensures, c.self.inside.cells.ok)) c.free.ensures

pub returns-clause-heads : goal.returns-clause-heads
returns-clause-heads g c =
    let place = target g.L.Link.width in
    ap (map place) c.refill-2.ensures ∙ as_many place place _ _ _ _ _ (ap (λ t. t.heads) c.self.view_is) (omega (arith, c.len-heads.ensures, c.self.inside.heads.ok)) (ap link_of c.of.ensures)
