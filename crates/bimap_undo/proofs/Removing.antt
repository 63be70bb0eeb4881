-- What a recorded removal returns and leaves, in each of its three cases.
-- The argument `part` is the side, so each lemma serves both sides.
use Rattle.std.proofs.Common.{◌≡◌, ◌↔◌, ◌∙◌, ◌+◌, ◌≤◌, Bool, true, false, List, [], ◌∷◌, ◌++◌, length, refl, sym, ap, arith, true≢false, length-append}
use Rattle.std.specs.Prelude.{Contains, Result, Ok, Err, IsErr}
use Rattle.bimap.specs.Sets.{IsApart}
use Rattle.bimap.specs.Holding.{Holding}
use Rattle.bimap.specs.Exchange.{IsWithoutPair}
use Rattle.bimap.specs.declared.NoMemory.{NoMemory}
use Rattle.bimap_undo.specs.declared.entry.Entry.{Entry}
use Rattle.bimap_undo.specs.declared.entry.Entry.TheVariants.{Removed}
use Rattle.bimap_undo.specs.Marks.{marked, HasMarks, IsRecordedRemoval}
use Rattle.bimap_undo.proofs.Paths.{keeps_all, keeps_push, marks_push}

module _ {L R K : Type 0} (same_left : L → L → Bool) (same_right : R → R → Bool) (part : L × R → K) (same : K → K → Bool) (old : Holding L R) (entries entries' : List (Entry L R)) (value : K) where
  -- No pair has the value.
  pub absent : ((q : L × R) → Contains old.pairs q → same (part q) value ≡ false) → IsRecordedRemoval same_left same_right part same (marked old entries) value (Ok false) (marked old entries)
  absent lacks = record {
    found = (λ e. absurd (true≢false (sym e)), λ w. absurd (true≢false (sym w.2 ∙ lacks w.0 w.1)));
    without = λ q. (λ m. (m, lacks q m), λ m. m.0);
    recorded = refl;
    last = tt;
    kept = keeps_all same_left same_right (marked old entries) (length entries);
    count = tt;
    room = refl;
    refused = tt;
    unchanged = tt;
  }

  -- The record ran out of memory.
  pub refused : (r : Result Bool NoMemory) → IsErr r → (q : L × R) × Contains old.pairs q × (same (part q) value ≡ true) → entries' ≡ entries → IsRecordedRemoval same_left same_right part same (marked old entries) value r (marked old entries')
  refused (Ok b) no_ok has still = absurd cc
  refused (Err e) some has still = record { found = tt; without = tt; recorded = tt; last = tt; kept = tt; count = tt; room = refl; refused = has; unchanged = ap (marked old) still }

  -- The pair is removed and recorded.
  module _ (removing : (A : List (L × R)) (p : L × R) (B : List (L × R)) → IsApart same_left same_right A → (k : K) → Contains A p → same (part p) k ≡ true → ((q : L × R) → Contains B q ↔ (Contains A q × (same (part q) k ≡ false))) → IsWithoutPair A p B)
      (new : Holding L R) (p : L × R) (apart : IsApart same_left same_right old.pairs) (apart' : IsApart same_left same_right new.pairs) (removed : Contains old.pairs p × (same (part p) value ≡ true)) (without : (q : L × R) → Contains new.pairs q ↔ (Contains old.pairs q × (same (part q) value ≡ false))) (count : length new.pairs + 1 ≡ length old.pairs) (room : new.room ≡ old.room)
      (between : List (Entry L R)) (pushed : entries' ≡ between ++ Removed p.0 p.1 ∷ []) (reserved : between ≡ entries) where
    grown : entries' ≡ entries ++ Removed p.0 p.1 ∷ []
    grown = pushed ∙ ap (λ es. es ++ Removed p.0 p.1 ∷ []) reserved

    taken : IsWithoutPair old.pairs p new.pairs
    taken = removing old.pairs p new.pairs apart value removed.0 removed.1 without

    pub marks_recorded : HasMarks same_left same_right (marked old entries) → length new.pairs ≤ new.room → HasMarks same_left same_right (marked new entries')
    marks_recorded marks fits = marks_push same_left same_right (marked old entries) (marked new entries') (Removed p.0 p.1) grown apart' taken marks (omega (arith, room)) fits

    pub recorded : IsRecordedRemoval same_left same_right part same (marked old entries) value (Ok true) (marked new entries')
    recorded = record {
      found = (λ e. (p, removed.0, removed.1), λ w. refl);
      without = without;
      recorded = ap length grown ∙ length-append entries (Removed p.0 p.1 ∷ []);
      last = (p, removed.0, removed.1, grown);
      kept = keeps_push same_left same_right (marked old entries) (marked new entries') (Removed p.0 p.1) grown apart' taken;
      count = count;
      room = room;
      refused = tt;
      unchanged = tt;
    }
