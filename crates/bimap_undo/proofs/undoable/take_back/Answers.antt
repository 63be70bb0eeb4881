use Rattle.std.proofs.Common.{inl, inr, arith, Contains}
use Rattle.bimap.proofs.Undoing.{inserting_undoable, inserting_shorter, undone_same}
use Rattle.bimap.proofs.Removals.{removing_shorter, put_again}
use Rattle.bimap_undo.proofs.Replacing.{left_close, right_close, has_new, replaced_back, found_there}
use Rattle.bimap.proofs.Trails.{both_or_not}
use Rattle.bimap_undo.proofs.undoable.take_back.Goals as goal

pub undo_insert-requires : goal.undo_insert-requires
undo_insert-requires g c = record {
  undoable =
      let i = rw c.in-Inserted.is at c.requires.3 in
      inserting_undoable g.L.PartialEq.eq g.R.PartialEq.eq g.met.L.Eq.laws g.met.R.Eq.laws c.requires.0 (g.B.Bijection.holding c.args.bimap.now).pairs c.in-Inserted.left c.in-Inserted.answer c.requires.1 i;
}

pub unreachable-requires : goal.unreachable-requires
unreachable-requires g c =
    let i = rw c.in-Inserted.is at c.requires.3 in
    let l = inserting_shorter g.L.PartialEq.eq g.R.PartialEq.eq g.met.L.Eq.laws g.met.R.Eq.laws c.requires.0 (g.B.Bijection.holding c.args.bimap.now).pairs c.in-Inserted.left c.in-Inserted.answer c.requires.1 (g.met.B.Bijection.apart c.args.bimap.now) i c.in-Err.ensures.answer.both in
    omega (arith, l, c.requires.2, c.in-Err.ensures.answer.full)

pub unwrap-right-requires : goal.unwrap-right-requires
unwrap-right-requires g c = found_there g.L.PartialEq.eq (Contains (g.B.Bijection.holding c.args.bimap.now).pairs) c.in-LeftReplaced.left c.remove_by_left.result c.remove_by_left.ensures.answer.none (has_new g.L.PartialEq.eq g.R.PartialEq.eq g.met.L.Eq.laws g.met.R.Eq.laws c.requires.0 (g.B.Bijection.holding c.args.bimap.now).pairs c.in-LeftReplaced.left (λ p. (c.in-LeftReplaced.old, p.1)) (left_close g.L.PartialEq.eq g.R.PartialEq.eq g.met.L.Eq.laws g.met.R.Eq.laws c.in-LeftReplaced.old) c.requires.1 (g.met.B.Bijection.apart c.args.bimap.now) (rw c.in-LeftReplaced.is at c.requires.3))

pub returns-in-LeftReplaced-clause-taken_back : goal.returns-in-LeftReplaced-clause-taken_back
returns-in-LeftReplaced-clause-taken_back g c A apart i =
    replaced_back g.L.PartialEq.eq g.R.PartialEq.eq g.met.L.Eq.laws g.met.R.Eq.laws A (g.B.Bijection.holding c.args.bimap.now).pairs c.in-LeftReplaced.left (λ p. (c.in-LeftReplaced.old, p.1)) (left_close g.L.PartialEq.eq g.R.PartialEq.eq g.met.L.Eq.laws g.met.R.Eq.laws c.in-LeftReplaced.old) apart (g.met.B.Bijection.apart c.args.bimap.now) (rw c.in-LeftReplaced.is at i) (g.B.Bijection.holding c.remove_by_left.new.self).pairs (g.B.Bijection.holding c.put_back.new.bimap).pairs c.unwrap-right.result
    (rw c.unwrap-right.ensures at c.remove_by_left.ensures.answer.removed) c.remove_by_left.ensures.answer.without c.put_back.ensures.put

pub unwrap-left-requires : goal.unwrap-left-requires
unwrap-left-requires g c = found_there g.L.PartialEq.eq (Contains (g.B.Bijection.holding c.args.bimap.now).pairs) c.in-RightReplaced.left c.remove_by_left-in-RightReplaced.result c.remove_by_left-in-RightReplaced.ensures.answer.none (has_new g.L.PartialEq.eq g.R.PartialEq.eq g.met.L.Eq.laws g.met.R.Eq.laws c.requires.0 (g.B.Bijection.holding c.args.bimap.now).pairs c.in-RightReplaced.left (λ p. (p.0, c.in-RightReplaced.old)) (right_close g.L.PartialEq.eq g.R.PartialEq.eq g.met.L.Eq.laws g.met.R.Eq.laws c.in-RightReplaced.old) c.requires.1 (g.met.B.Bijection.apart c.args.bimap.now) (rw c.in-RightReplaced.is at c.requires.3))

pub returns-in-RightReplaced-clause-taken_back : goal.returns-in-RightReplaced-clause-taken_back
returns-in-RightReplaced-clause-taken_back g c A apart i =
    replaced_back g.L.PartialEq.eq g.R.PartialEq.eq g.met.L.Eq.laws g.met.R.Eq.laws A (g.B.Bijection.holding c.args.bimap.now).pairs c.in-RightReplaced.left (λ p. (p.0, c.in-RightReplaced.old)) (right_close g.L.PartialEq.eq g.R.PartialEq.eq g.met.L.Eq.laws g.met.R.Eq.laws c.in-RightReplaced.old) apart (g.met.B.Bijection.apart c.args.bimap.now) (rw c.in-RightReplaced.is at i) (g.B.Bijection.holding c.remove_by_left-in-RightReplaced.new.self).pairs (g.B.Bijection.holding c.put_back-in-RightReplaced.new.bimap).pairs c.unwrap-left.result
    (rw c.unwrap-left.ensures at c.remove_by_left-in-RightReplaced.ensures.answer.removed) c.remove_by_left-in-RightReplaced.ensures.answer.without c.put_back-in-RightReplaced.ensures.put

pub put_back-requires-in-Removed : goal.put_back-requires-in-Removed
put_back-requires-in-Removed g c =
    let l = removing_shorter g.L.PartialEq.eq g.R.PartialEq.eq g.met.L.Eq.laws g.met.R.Eq.laws c.requires.0 (c.in-Removed.left, c.in-Removed.right) (g.B.Bijection.holding c.args.bimap.now).pairs c.requires.1 (g.met.B.Bijection.apart c.args.bimap.now) (rw c.in-Removed.is at c.requires.3) in
    record { free = omega (arith, l, c.requires.2) }

pub returns-in-Ok-clause-taken_back : goal.returns-in-Ok-clause-taken_back
returns-in-Ok-clause-taken_back g c A apart i =
    undone_same g.L.PartialEq.eq g.R.PartialEq.eq g.met.L.Eq.laws g.met.R.Eq.laws A (g.B.Bijection.holding c.args.bimap.now).pairs c.in-Inserted.left c.in-Inserted.answer apart (rw c.in-Inserted.is at i) (Contains (g.B.Bijection.holding c.undo_insert.new.self).pairs) c.in-Ok.ensures.answer.undone

pub returns-in-Ok-clause-room : goal.returns-in-Ok-clause-room
returns-in-Ok-clause-room g c =
    let i = rw c.in-Inserted.is at c.requires.3 in
    elim (both_or_not c.in-Inserted.answer) [
      | inl both ↦
          let l = inserting_shorter g.L.PartialEq.eq g.R.PartialEq.eq g.met.L.Eq.laws g.met.R.Eq.laws c.requires.0 (g.B.Bijection.holding c.args.bimap.now).pairs c.in-Inserted.left c.in-Inserted.answer c.requires.1 (g.met.B.Bijection.apart c.args.bimap.now) i both in
          c.undo_insert.ensures.answer.room.had_place (omega (arith, l, c.requires.2))
      | inr not ↦ c.undo_insert.ensures.answer.room.in_place not
    ]

pub returns-in-Removed-clause-taken_back : goal.returns-in-Removed-clause-taken_back
returns-in-Removed-clause-taken_back g c A apart i =
    put_again g.L.PartialEq.eq g.R.PartialEq.eq g.met.L.Eq.laws g.met.R.Eq.laws A (c.in-Removed.left, c.in-Removed.right) (g.B.Bijection.holding c.args.bimap.now).pairs apart (g.B.Bijection.holding c.put_back-in-Removed.new.bimap).pairs (rw c.in-Removed.is at i) c.put_back-in-Removed.ensures.put
