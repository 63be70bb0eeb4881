use Rattle.std.proofs.Common.{◌∙◌, false, arith, sym}
use Rattle.bimap_index.proofs.Ascending.{known_by_order, same_by_order, not_equal, effort_some}
use Rattle.bimap_index.proofs.ordered.OrderedIndex.is_known.Goals as goal

pub returns-in-Equal-clause-found : goal.returns-in-Equal-clause-found
returns-in-Equal-clause-found g c _ = known_by_order g.K.Ord.cmp g.K.PartialEq.eq g.met.K.Ord.total g.met.K.Ord.matches_eq c.args.self.now.places (g.S.Side.key_at c.args.side) c.args.key.now c.args.place c.requires.listing c.requires.live (sym (rw c.in-Equal.is at rw c.new.ensures at c.compare.ensures.answer))

pub returns-in-Equal-clause-comparisons : goal.returns-in-Equal-clause-comparisons
returns-in-Equal-clause-comparisons g c = omega (arith, c.compare.ensures.comparisons, effort_some g.K.Ord.cmp g.K.PartialEq.eq g.met.K.Ord.total g.met.K.Ord.matches_eq c.args.self.now.places (g.S.Side.key_at c.args.side) c.args.place c.requires.listing c.requires.live)

pub returns-in_default : goal.returns-in_default
returns-in_default g c = record {
  found = λ e. absurd (cc);
  equal = same_by_order g.K.Ord.cmp g.K.PartialEq.eq g.met.K.Ord.total g.met.K.Ord.matches_eq (g.S.Side.key_at c.args.side c.args.place) c.args.key.now false (not_equal _ (λ e. c.in_default.not-Equal ((rw c.new.ensures at c.compare.ensures.answer) ∙ e)));
  comparisons = omega (arith, c.compare.ensures.comparisons, effort_some g.K.Ord.cmp g.K.PartialEq.eq g.met.K.Ord.total g.met.K.Ord.matches_eq c.args.self.now.places (g.S.Side.key_at c.args.side) c.args.place c.requires.listing c.requires.live);
  touches = c.compare.ensures.touches;
}
