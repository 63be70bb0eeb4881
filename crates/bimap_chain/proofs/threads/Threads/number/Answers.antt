use Rattle.std.proofs.Common.{ap, sym, ◌∙◌}
use Rattle.bimap_chain.specs.Cells.{cell_of}
use Rattle.bimap_chain.proofs.Seen.{seen}
use Rattle.bimap_chain.proofs.threads.Threads.number.Goals as goal

pub returns : goal.returns
returns g c = c.number.ensures ∙ sym (seen (cell_of g.L.Link.width) _ _ (ap (λ t. t.cells) c.self.view_is) (λ e. e.number) _ _ _ c.requires c.index.ensures)
