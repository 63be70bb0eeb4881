use Rattle.std.proofs.Common.{refl, sym, ◌∙◌, true≢false}
use Rattle.bimap_base.proofs.Room.{room_stays}
use Rattle.test_support.proofs.plain.changes.insert_with.Goals as goal
use Rattle.test_support.proofs.plain.changes.insert_with.Goals.{else-refuses-via-then-refuses+else-has_left, else-refuses-via-else-refuses, else-refuses-2-via-then-refuses-2+else-has_right, else-refuses-2-via-else-refuses-2}

pub returns-then-has_left-clause-insertion : goal.returns-then-has_left-clause-insertion
returns-then-has_left-clause-insertion g c = record {
  allowed = tt;
  answer = tt;
  put = tt;
  count = tt;
  refused = (refl, c.refuses.ensures.0 c.if-refuses.true, rw c.deref.ensures.value at (rw c.if-has_left.true at c.has_left.ensures));
  unchanged = refl;
  room = room_stays _ _ _ refl;
}

pub returns-then-has_right-clause-insertion : goal.returns-then-has_right-clause-insertion
returns-then-has_right-clause-insertion g c = record {
  allowed = tt;
  answer = tt;
  put = tt;
  count = tt;
  refused = (
    refl,
    elim c.else-refuses.branch [
      | else-refuses-via-then-refuses+else-has_left w ↦ λ e. rw w.deref.ensures.value at (rw w.if-has_left.false at w.has_left.ensures)
      | else-refuses-via-else-refuses w ↦ λ e. absurd (true≢false (sym (c.refuses.ensures.1 e) ∙ w.if-refuses.false))
    ],
    c.refuses-2.ensures.0 c.if-refuses-2.true,
    rw c.deref-then-refuses-2.ensures.value at (rw c.if-has_right.true at c.has_right.ensures),
  );
  unchanged = refl;
  room = room_stays _ _ _ refl;
}

pub returns-in-Ok-clause-insertion : goal.returns-in-Ok-clause-insertion
returns-in-Ok-clause-insertion g c = record {
  allowed = record {
    left = elim c.else-refuses.branch [
      | else-refuses-via-then-refuses+else-has_left w ↦ λ e. rw w.deref.ensures.value at (rw w.if-has_left.false at w.has_left.ensures)
      | else-refuses-via-else-refuses w ↦ λ e. absurd (true≢false (sym (c.refuses.ensures.1 e) ∙ w.if-refuses.false))
    ];
    right = elim c.else-refuses-2.branch [
      | else-refuses-2-via-then-refuses-2+else-has_right w ↦ λ e. rw w.deref-then-refuses-2.ensures.value at (rw w.if-has_right.false at w.has_right.ensures)
      | else-refuses-2-via-else-refuses-2 w ↦ λ e. absurd (true≢false (sym (c.refuses-2.ensures.1 e) ∙ w.if-refuses-2.false))
    ];
  };
  answer = c.in-Ok.ensures.insertion.answer;
  put = c.in-Ok.ensures.insertion.put;
  count = c.in-Ok.ensures.insertion.count;
  refused = tt;
  unchanged = tt;
  room = c.in-Ok.ensures.insertion.room;
}
