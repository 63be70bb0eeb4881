use Rattle.std.proofs.Common.{◌∙◌, ap}
use Rattle.bimap_chain.specs.Cells.{numbers_in}
use Rattle.bimap_chain.proofs.Seen.{more_numbers}
use Rattle.bimap_chain.proofs.threads.Threads.grow.Goals as goal

pub returns-clause-ok : goal.returns-clause-ok
returns-clause-ok g c = c.thread.ensures.numbers ∙ ap numbers_in c.in_ok-extend.ensures.cells ∙ more_numbers _ c.args.to
