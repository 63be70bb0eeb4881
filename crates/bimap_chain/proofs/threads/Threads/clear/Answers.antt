use Rattle.std.proofs.Common.{◌∙◌, ap, replicate, None, arith}
use Rattle.std.proofs.lemmas.List.{length-map}
use Rattle.bimap_chain.specs.Cells.{free_cell, numbers_in}
use Rattle.bimap_chain.proofs.Kept.{map-replicated}
use Rattle.bimap_chain.proofs.threads.Threads.clear.Goals as goal

pub returns-clause-numbers : goal.returns-clause-numbers
returns-clause-numbers g c =
    let cells = c.args.self.now.cells in
    c.thread.ensures.numbers ∙ ap numbers_in c.empty.ensures.cells ∙ map-replicated (λ e. e.number) _ free_cell ∙ ap (λ n. replicate n None) (omega (arith, length-map cells (λ e. e.number)))
