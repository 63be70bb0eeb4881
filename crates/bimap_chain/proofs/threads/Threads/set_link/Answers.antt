use Rattle.std.proofs.Common.{ap}
use Rattle.bimap_base.proofs.NodesInCells.{map-written}
use Rattle.bimap_chain.specs.Cells.{cell_of}
use Rattle.bimap_chain.specs.Threads.{links_of}
use Rattle.bimap_chain.specs.Width.{target}
use Rattle.bimap_chain.proofs.Seen.{rewritten, numbers_left, has_one}
use Rattle.bimap_chain.proofs.threads.Threads.set_link.Goals as goal

pub with_next-requires-clause-listed : goal.with_next-requires-clause-listed
with_next-requires-clause-listed g c =
    let over = rw c.in-Some.is at c.requires.over in
    let listed = rw c.in-Some.is at c.requires.listed in
    has_one (cell_of g.L.Link.width) _ _ (ap (λ t. t.cells) c.self.view_is) _ listed.0 _ _ over c.index.ensures listed.1

pub returns-in-None-clause-links : goal.returns-in-None-clause-links
returns-in-None-clause-links g c =
    rw c.in-None.is (ap (λ t. links_of t) c.self.view_is, map-written (target g.L.Link.width) _ _ _ _ _ (ap (λ t. t.heads) c.self.view_is) c.link_to.ensures.target)

pub returns-in-Some-clause-numbers : goal.returns-in-Some-clause-numbers
returns-in-Some-clause-numbers g c =
    let over = rw c.in-Some.is at c.requires.over in
    numbers_left (cell_of g.L.Link.width) _ _ (ap (λ t. t.cells) c.self.view_is) _ _ _ _ _ over c.index.ensures c.with_next.ensures

pub returns-in-Some-clause-links : goal.returns-in-Some-clause-links
returns-in-Some-clause-links g c =
    rw c.in-Some.is (rewritten (cell_of g.L.Link.width) _ _ (ap (λ t. t.cells) c.self.view_is) (λ e. e.next) _ _ _ c.with_next.ensures, ap (λ t. t.heads) c.self.view_is)
