use Rattle.std.proofs.Common.{ap}
use Rattle.bimap_chain.specs.Cells.{cell_of}
use Rattle.bimap_chain.proofs.Seen.{rewritten, fits}
use Rattle.bimap_chain.proofs.threads.Threads.list.Goals as goal

pub of-requires : goal.of-requires
of-requires g c = fits (cell_of g.L.Link.width) _ _ (ap (λ t. t.cells) c.self.view_is) _ _ c.self.invariant c.requires.next

pub returns-clause-numbers : goal.returns-clause-numbers
returns-clause-numbers g c = rewritten (cell_of g.L.Link.width) _ _ (ap (λ t. t.cells) c.self.view_is) (λ e. e.number) _ _ _ c.of.ensures

pub returns-clause-links : goal.returns-clause-links
returns-clause-links g c = rewritten (cell_of g.L.Link.width) _ _ (ap (λ t. t.cells) c.self.view_is) (λ e. e.next) _ _ _ c.of.ensures
