-- What a recorded replacement returns and leaves. The argument `part` is the side, so each lemma serves both sides.
use Rattle.std.proofs.Common.{◌≡◌, ◌∙◌, ◌≤◌, Bool, List, [], ◌∷◌, ◌++◌, length, ap, arith, length-append}
use Rattle.std.specs.Prelude.{Contains, Ok, Err}
use Rattle.bimap.specs.Sets.{IsApart}
use Rattle.bimap.specs.Holding.{Holding}
use Rattle.bimap.specs.Exchange.{IsPartReplaced}
use Rattle.bimap_undo.specs.declared.entry.Entry.{Entry}
use Rattle.bimap_undo.specs.declared.refusal.NotRecorded.{NotRecorded}
use Rattle.bimap_undo.specs.Marks.{marked, HasMarks, IsChange, IsNotRecorded, IsRecordedReplacement}
use Rattle.bimap_undo.proofs.Paths.{keeps_push, marks_push}

module _ {L R K M : Type 0} (same_left : L → L → Bool) (same_right : R → R → Bool) (part : L × R → K) (pair : K → M → L × R) (same : K → K → Bool) (entry : L → K → Entry L R) (old new : Holding L R) (entries entries' : List (Entry L R)) (from to : K) where
  -- Nothing was replaced.
  pub refused : (why : NotRecorded K) → IsNotRecorded same_left same_right part pair same entry (Contains old.pairs) from to why → new ≡ old → entries' ≡ entries → IsRecordedReplacement same_left same_right part pair same entry (marked old entries) from to (Err why) (marked new entries')
  refused why is still rest = record {
    last = tt;
    recorded = tt;
    kept = tt;
    count = ap (λ (held : Holding L R). length held.pairs) still;
    room = ap (λ (held : Holding L R). held.room) still;
    refused = is;
    unchanged = ap (λ (held : Holding L R). marked held entries') still ∙ ap (marked old) rest;
  }

  -- The value was replaced, and the change was recorded.
  module _ (left : L) (taken : K) (apart : IsApart same_left same_right new.pairs) (replaced : IsPartReplaced part pair same (Contains old.pairs) from to taken (Contains new.pairs)) (change : IsChange same_left same_right old.pairs (entry left taken) new.pairs) (count : length new.pairs ≡ length old.pairs) (room : new.room ≡ old.room) (between : List (Entry L R)) (pushed : entries' ≡ between ++ entry left taken ∷ []) (reserved : between ≡ entries) where
    grown : entries' ≡ entries ++ entry left taken ∷ []
    grown = pushed ∙ ap (λ es. es ++ entry left taken ∷ []) reserved

    pub marks_recorded : HasMarks same_left same_right (marked old entries) → length new.pairs ≤ new.room → HasMarks same_left same_right (marked new entries')
    marks_recorded marks fits = marks_push same_left same_right (marked old entries) (marked new entries') (entry left taken) grown apart change marks (omega (arith, room)) fits

    pub recorded : IsRecordedReplacement same_left same_right part pair same entry (marked old entries) from to (Ok tt) (marked new entries')
    recorded = record {
      last = record { left = left; taken = taken; replaced = replaced; change = change; entries = grown };
      recorded = ap length grown ∙ length-append entries (entry left taken ∷ []);
      kept = keeps_push same_left same_right (marked old entries) (marked new entries') (entry left taken) grown apart change;
      count = count;
      room = room;
      refused = tt;
      unchanged = tt;
    }
