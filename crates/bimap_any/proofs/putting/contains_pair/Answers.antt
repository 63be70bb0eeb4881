use Rattle.std.proofs.Common.{sym, ◌∙◌}
use Rattle.bimap_any.proofs.Meeting.{decided_by_right}
use Rattle.bimap_any.proofs.putting.contains_pair.Goals as goal

pub returns-in-Some : goal.returns-in-Some
returns-in-Some g c =
    let bimap = c.args.bimap.now in
    let found = rw c.in-Some.is at c.get_by_left.ensures.found in
    let decided = decided_by_right g.L.PartialEq.eq g.R.PartialEq.eq g.met.L.Eq.laws g.met.R.Eq.laws (g.B.Bijection.holding bimap).pairs (c.args.left.now, c.args.right.now) found.0 c.in-Some.held.now (g.met.B.Bijection.apart bimap) found.1 found.2 in
    (λ t. decided.0 (sym c.eq.ensures ∙ t), λ has. c.eq.ensures ∙ decided.1 has)
