use Rattle.std.proofs.Common.{Contains}
use Rattle.bimap_base.specs.Places.{pairs_in}
use Rattle.bimap_any.proofs.HoldingsAlike.{undoing_alike}
use Rattle.bimap_any.proofs.SetsAlike.{IsUndoable-same, turned}
use Rattle.bimap_kinds.specs.HeldTable.{held}
use Rattle.bimap_kinds.proofs.Walk.{table_alike, right_walk, table_facts, held_unchanged}
use Rattle.bimap_kinds.proofs.map.BijectiveMap.undo_insert.Goals as goal

pub invariant_of-self : goal.invariant_of-self
invariant_of-self g c = table_facts c.undo_insert.new.self g.met.I.Index.listed g.met.I.Index.distinct g.met.I.Index.settled g.met.I.Index.in_order g.met.L.Eq.laws g.met.R.Eq.laws _ (right_walk c.undo_insert.new.self g.met.J.Index.listed g.met.J.Index.distinct g.met.J.Index.settled)

pub undo_insert-requires : goal.undo_insert-requires
undo_insert-requires g c = record {
  undoable =
      let table = c.args.self.now.table in
      let old = (held table).pairs in
      let members = turned (Contains (pairs_in table.pairs)) (Contains old) (table_alike table g.met.I.Index.listed g.met.I.Index.distinct g.met.I.Index.settled).members in
      IsUndoable-same (Contains old) (Contains (pairs_in table.pairs)) members g.L.PartialEq.eq g.R.PartialEq.eq c.args.left.now c.args.answer c.requires.undoable;
}

pub returns-clause-answer : goal.returns-clause-answer
returns-clause-answer g c =
    undoing_alike _ _ (table_alike c.args.self.now.table g.met.I.Index.listed g.met.I.Index.distinct g.met.I.Index.settled) _ _ (table_alike c.undo_insert.new.self g.met.I.Index.listed g.met.I.Index.distinct g.met.I.Index.settled) g.L.PartialEq.eq g.R.PartialEq.eq c.args.left.now c.args.answer c.undo_insert.result
    (held_unchanged c.args.self.now.table c.undo_insert.new.self c.undo_insert.result c.undo_insert.ensures.slots c.undo_insert.ensures.places) c.undo_insert.ensures.answer

pub returns-clause-position : goal.returns-clause-position
unfolding Rattle.bimap_kinds.specs.HeldTable.held
returns-clause-position g c = c.undo_insert.ensures.position
