use Rattle.std.proofs.Common.{[]}
use Rattle.bimap_journal.proofs.group.line_of.Goals as goal

pub returns : goal.returns
returns c = c.in_ok-push_line.ensures.pushed [] c.new-line.ensures.items
