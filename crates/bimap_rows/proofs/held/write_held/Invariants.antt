use Rattle.std.proofs.Common.{map}
use Rattle.std.specs.Prelude.{flat_map}
use Rattle.std.specs.Io.KnownBytes.{Appends}
use Rattle.bimap_rows.specs.Serving.{pair_line}
use Rattle.std.specs.Map.Iter.{deref_pair}
use Rattle.bimap_rows.proofs.held.write_held.Given as goal

abbrev pub invariant-loop-left : goal.invariant-loop-left
invariant-loop-left g l = Appends (g.W.Write.contents l.initial.output) (g.W.Write.contents l.output) (flat_map pair_line (map deref_pair l.yielded))
