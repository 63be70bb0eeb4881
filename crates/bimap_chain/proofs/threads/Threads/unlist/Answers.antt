use Rattle.std.proofs.Common.{ap}
use Rattle.bimap_chain.specs.Cells.{cell_of}
use Rattle.bimap_chain.proofs.Seen.{rewritten}
use Rattle.bimap_chain.proofs.threads.Threads.unlist.Goals as goal

pub returns-clause-numbers : goal.returns-clause-numbers
returns-clause-numbers g c = rewritten (cell_of g.L.Link.width) _ _ (ap (λ t. t.cells) c.self.view_is) (λ e. e.number) _ _ _ c.free.ensures

pub returns-clause-links : goal.returns-clause-links
returns-clause-links g c = rewritten (cell_of g.L.Link.width) _ _ (ap (λ t. t.cells) c.self.view_is) (λ e. e.next) _ _ _ c.free.ensures
