use Rattle.std.proofs.Common.{◌≡◌, ◌∙◌, ◌+◌, ◌∷◌, [], length, ap, arith, length-append, subst, sym}
use Rattle.bimap_undo.specs.Marks.{Marked, marked, IsBefore}
use Rattle.bimap_undo.proofs.Paths.{before_last, keeps_below, keeps_through, keeps_pop, marks_pop, last_is_held}
use Rattle.bimap_undo.proofs.undoable.Undoable.back_to.Goals as goal

pub take_back-requires : goal.take_back-requires
take_back-requires g c =
    before_last g.L.PartialEq.eq g.R.PartialEq.eq g.met.L.Eq.laws g.met.R.Eq.laws
    (marked (g.B.Bijection.holding c.loop-self.self-inside.bimap) c.loop-self.self-inside.changes.items)
    c.pop.new.self.items c.unwrap-entry.result (rw c.unwrap-entry.ensures at c.pop.ensures.items) c.loop-self.invariant.marks

shorter : (g : _) (c : goal.After-take_back g) → length c.loop-self.self-inside.changes.items ≡ length c.pop.new.self.items + 1
shorter g c = ap length (rw c.unwrap-entry.ensures at c.pop.ensures.items) ∙ length-append c.pop.new.self.items (c.unwrap-entry.result ∷ [])

pub loop-self-preserved : goal.loop-self-preserved
loop-self-preserved g c = record {
  above = omega (arith, shorter g c, c.loop-self-test.true, c.len.ensures, c.loop-self.self-inside.changes.ok.0);
  marks = marks_pop g.L.PartialEq.eq g.R.PartialEq.eq g.met.L.Eq.laws g.met.R.Eq.laws
      (marked (g.B.Bijection.holding c.loop-self.self-inside.bimap) c.loop-self.self-inside.changes.items)
      (marked (g.B.Bijection.holding c.take_back.new.bimap) c.pop.new.self.items)
      c.unwrap-entry.result (rw c.unwrap-entry.ensures at c.pop.ensures.items) c.take_back.ensures.taken_back c.loop-self.invariant.marks c.take_back.ensures.room;
  kept =
      let u = marked (g.B.Bijection.holding c.loop-self.self-inside.bimap) c.loop-self.self-inside.changes.items in
      let v = marked (g.B.Bijection.holding c.take_back.new.bimap) c.pop.new.self.items in
      keeps_through g.L.PartialEq.eq g.R.PartialEq.eq c.args.self.now u v (length c.pop.new.self.items)
      (keeps_below g.L.PartialEq.eq g.R.PartialEq.eq c.args.self.now u (length c.loop-self.self-inside.changes.items) (length c.pop.new.self.items) (omega (arith, shorter g c)) c.loop-self.invariant.kept)
      (keeps_pop g.L.PartialEq.eq g.R.PartialEq.eq g.met.L.Eq.laws g.met.R.Eq.laws u v c.unwrap-entry.result (rw c.unwrap-entry.ensures at c.pop.ensures.items) c.take_back.ensures.taken_back);
  room = omega (arith, c.take_back.ensures.room, c.loop-self.invariant.room);
}

pub returns-clause-gone_back : goal.returns-clause-gone_back
returns-clause-gone_back g c =
    let u : Marked g.row.L.Denot g.row.R.Denot = marked (g.B.Bijection.holding c.loop-self.self-inside.bimap) c.loop-self.self-inside.changes.items in
    let all : c.args.mark ≡ length c.loop-self.self-inside.changes.items = omega (arith, c.loop-self-test.false, c.loop-self.invariant.above, c.len.ensures, c.loop-self.self-inside.changes.ok.0) in
    record {
      held = λ A b. last_is_held g.L.PartialEq.eq g.R.PartialEq.eq u A (c.loop-self.invariant.kept.sets (length c.loop-self.self-inside.changes.items) (omega arith) A (subst (λ mark. IsBefore g.L.PartialEq.eq g.R.PartialEq.eq c.args.self.now mark A) all b));
      kept = keeps_below g.L.PartialEq.eq g.R.PartialEq.eq c.args.self.now u (length c.loop-self.self-inside.changes.items) c.args.mark (omega (arith, c.loop-self.invariant.above)) c.loop-self.invariant.kept;
      recorded = sym all;
    }
