use Rattle.bimap_rows.proofs.Progress.{HasServed}
use Rattle.bimap_rows.proofs.serve.serve_lines.Given as goal

abbrev pub invariant-loop-taken : goal.invariant-loop-taken
invariant-loop-taken g l =
    HasServed (g.I.Read.remaining l.initial.input) (g.I.Read.remaining l.input) l.taken (g.W.Write.contents l.initial.output) (g.W.Write.contents l.output) (g.B.Bijection.holding l.held).pairs
