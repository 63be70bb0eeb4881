use Rattle.std.proofs.Common.{ap, sym, ◌∙◌}
use Rattle.bimap_chain.specs.Cells.{cell_of}
use Rattle.bimap_chain.proofs.Seen.{seen, has_one}
use Rattle.bimap_chain.proofs.threads.Threads.next.Goals as goal

pub next-requires : goal.next-requires
next-requires g c = has_one (cell_of g.L.Link.width) _ _ (ap (λ t. t.cells) c.self.view_is) _ c.requires.listed.0 _ _ c.requires.place c.index.ensures c.requires.listed.1

pub returns : goal.returns
returns g c = c.next.ensures ∙ sym (seen (cell_of g.L.Link.width) _ _ (ap (λ t. t.cells) c.self.view_is) (λ e. e.next) _ _ _ c.requires.place c.index.ensures)
