use Rattle.std.proofs.Common.{sym, ◌∙◌}
use Rattle.std.proofs.lemmas.Bool.{false≢true}
use Rattle.bimap_any.proofs.Meeting.{decided_by_right, lacking_left}
use Rattle.bimap_kinds.specs.Held.{holding}
use Rattle.bimap_kinds.proofs.map.BijectiveMap.has_equal.Goals as goal

pub returns-in-Some : goal.returns-in-Some
returns-in-Some g c =
    let bimap = c.args.self.now in
    let found = rw c.in-Some.is at c.get_by_left.ensures.found in
    let decided = decided_by_right g.L.PartialEq.eq g.R.PartialEq.eq g.met.L.Eq.laws g.met.R.Eq.laws (holding bimap).pairs (c.args.left.now, c.args.right.now) found.0 c.in-Some.held.now bimap.apart found.1 found.2 in
    (λ t. decided.0 (sym c.eq.ensures ∙ t), λ has. c.eq.ensures ∙ decided.1 has)

pub returns-in-None : goal.returns-in-None
returns-in-None g c =
    let none = rw c.in-None.is at c.get_by_left.ensures.none in
    (λ t. absurd (false≢true t), λ has. absurd (lacking_left g.L.PartialEq.eq g.R.PartialEq.eq g.met.L.Eq.laws g.met.R.Eq.laws (holding c.args.self.now).pairs (c.args.left.now, c.args.right.now) none has))
