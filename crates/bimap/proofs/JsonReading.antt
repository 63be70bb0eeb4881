-- The entries of an object, read one after another.
use Rattle.std.proofs.Common.{◌≡◌, ◌≢◌, ◌↔◌, ◌⊎◌, inl, ℕ, ◌+◌, ◌≤◌, Bool, List, [], ◌∷◌, ◌++◌, length, refl, sym, ap, subst, ◌∙◌, append_assoc, append-nil, arith}
use Rattle.std.specs.Prelude.{Contains, Result, Ok, Err}
use Rattle.std.proofs.lemmas.List.{length_push}
use Rattle.serde_json.specs.Data.{Data}
use Rattle.bimap_base.specs.Sets.{IsApart}
use Rattle.bimap_base.specs.Answer.{IsRefusalUnder, named_count, overwrites}
use Rattle.bimap_base.specs.declared.overwritten.Overwritten.{Overwritten}
use Rattle.bimap_base.specs.declared.refusal.NotInsertedWith.TheVariants.{LeftHeld as LeftKept, RightHeld as RightKept}
use Rattle.bimap_any.specs.Survivors.{Survives, PutsItself, TouchesSharing, AreSurvivors}
use Rattle.bimap_base.specs.Holding.{Holding, IsInsertionUnder}
use Rattle.bimap_any.specs.Extension.{AreAllowed}
use Rattle.bimap_base.specs.Positions.{StandsInOrder}
use Rattle.bimap_base.specs.declared.policy.OnHeld.TheVariants.{Refuse}
use Rattle.bimap_base.specs.declared.policy.Policy.{Policy}
use Rattle.bimap_any.proofs.Survivors.{items_none, items_push, not_split}
use Rattle.bimap_any.proofs.Extending.{allowed_push}
use Rattle.bimap_any.proofs.Positions.{stands_last}
use Rattle.bimap_any.specs.Growth.{Outgrows}
use Rattle.bimap_any.proofs.Growing.{answer_overwrites, room_after, room_push}
use Rattle.bimap.specs.JsonObjects.{Entry, HasEntries, ReadsAs, EachReadsAs, StopsAt, StopsUnder, FollowEntries, IsReadIntoUnder, ReadsObject, ReadsObjectUnder}
use Rattle.bimap.specs.declared.value.object.JsonFault.{JsonFault}
use Rattle.bimap.specs.declared.value.object.JsonFault.TheVariants.{NotJson, NameTwice, NotAnObject, BadKey, BadValue, LeftHeld, RightHeld, Memory}

module _ {L R : Type 0} (reads_key : List ℕ → L → Type 0) (reads : Data → R → Type 0) where
  read_more : (before : List Entry) (pairs : List (L × R)) (e : Entry) (p : L × R) → EachReadsAs reads_key reads before pairs → ReadsAs reads_key reads e p → EachReadsAs reads_key reads (before ++ e ∷ []) (pairs ++ p ∷ [])
  read_more [] [] e p each one = (one, tt)
  read_more [] (q ∷ pairs) e p each one = absurd each
  read_more (f ∷ before) [] e p each one = absurd each
  read_more (f ∷ before) (q ∷ pairs) e p each one = (each.0, read_more before pairs e p each.1 one)

  -- The entries in `left` are still to be read.
  -- If there is a pair for each of the other entries, these entries read as the pairs in order.
  pub record IsReadInOrder (all left : List Entry) (held : List (L × R)) : Type 0 where
    pub before : List Entry
    pub split : all ≡ before ++ left
    pub no_longer : length held ≤ length before
    pub in_turn : length held ≡ length before → EachReadsAs reads_key reads before held

  pub in_order_first : (all : List Entry) (held : List (L × R)) → held ≡ [] → IsReadInOrder all all held
  in_order_first all held empty = record {
    before = [];
    split = refl;
    no_longer = omega (arith, ap length empty);
    in_turn = λ _. subst (EachReadsAs reads_key reads []) (sym empty) tt;
  }

  pub in_order_more : (all left : List Entry) (e : Entry) (old new : List (L × R)) (p : L × R) (answer : Overwritten L R) → IsReadInOrder all (e ∷ left) old → ReadsAs reads_key reads e p → length new + named_count answer ≡ length old + 1 → StandsInOrder old p answer new → IsReadInOrder all left new
  in_order_more all left e old new p answer r one count stands =
      let more = length_push r.before e in
      record {
        before = r.before ++ e ∷ [];
        split = r.split ∙ sym (append_assoc r.before (e ∷ []) left);
        no_longer = omega (arith, more, count, r.no_longer);
        in_turn = λ whole. subst (EachReadsAs reads_key reads (r.before ++ e ∷ [])) (sym (stands_last old p answer new (omega (arith, more, whole, count, r.no_longer)) stands))
            (read_more r.before old e p (r.in_turn (omega (arith, more, whole, count, r.no_longer))) one);
      }

  pub in_order_done : (value : Data) (all : List Entry) (held : List (L × R)) → HasEntries value all → IsReadInOrder all [] held → FollowEntries reads_key reads value held
  in_order_done value all held has r = record { entries = r.before; has = subst (HasEntries value) (r.split ∙ append-nil r.before) has; in_turn = r.in_turn }

  module _ (same_left : L → L → Bool) (same_right : R → R → Bool) (policy : Policy) where
    -- The first `at` entries were read as pairs, and the map contains their survivors.
    -- The entries in `left` are still to be read.
    pub record IsReading (all left : List Entry) (places : ℕ) (held : Holding L R) (at : ℕ) : Type 0 where
      pub before : List Entry
      pub split : all ≡ before ++ left
      pub place : length before ≡ at
      pub pairs : List (L × R)
      pub read : EachReadsAs reads_key reads before pairs
      pub survivors : AreSurvivors same_left same_right (Contains []) pairs (Contains held.pairs)
      pub allowed : AreAllowed same_left same_right (Contains []) pairs policy
      pub not_lower : places ≤ held.room
      pub room : (held.room ≡ places) ⊎ Outgrows same_left same_right PutsItself (Survives PutsItself (TouchesSharing same_left same_right) (Contains [])) pairs places held.room

    pub reading_first : (all : List Entry) (held : Holding L R) → held.pairs ≡ [] → IsReading all all held.room held 0
    reading_first all held empty = record {
      before = [];
      split = refl;
      place = refl;
      pairs = [];
      read = tt;
      survivors = subst (λ h. AreSurvivors same_left same_right (Contains []) [] (Contains h)) (sym empty) (items_none same_left same_right (Contains []));
      allowed = λ before item later q. not_split before later item q;
      not_lower = omega arith;
      room = inl refl;
    }

    pub reading_more : (all left : List Entry) (e : Entry) (places : ℕ) (old new : Holding L R) (at : ℕ) (p : L × R) (answer : Overwritten L R) → IsReading all (e ∷ left) places old at → ReadsAs reads_key reads e p → IsApart same_left same_right old.pairs → length old.pairs ≤ old.room → IsInsertionUnder same_left same_right old p policy (Ok answer) new → IsReading all left places new (at + 1)
    reading_more all left e places old new at p answer r one apart fits insertion = record {
      before = r.before ++ e ∷ [];
      split = r.split ∙ sym (append_assoc r.before (e ∷ []) left);
      place = length_push r.before e ∙ omega (arith, r.place);
      pairs = r.pairs ++ p ∷ [];
      read = read_more r.before r.pairs e p r.read one;
      survivors = items_push same_left same_right (Contains []) (Contains old.pairs) (Contains new.pairs) r.pairs p r.survivors insertion.put;
      allowed = allowed_push same_left same_right (Contains []) (Contains old.pairs) r.pairs p policy r.survivors r.allowed insertion.allowed;
      not_lower = omega (arith, r.not_lower, insertion.room.not_lower);
      room =
          room_push same_left same_right PutsItself (Survives PutsItself (TouchesSharing same_left same_right) (Contains [])) old new r.pairs p places apart r.survivors r.not_lower r.room
          (room_after same_left same_right PutsItself old new p p (overwrites answer) refl fits (answer_overwrites same_left same_right (Contains old.pairs) p answer insertion.answer) insertion.room);
    }

    pub reading_stops : (value : Data) (all left : List Entry) (e : Entry) (places : ℕ) (held : Holding L R) (at : ℕ) (P : (L × R → Type 0) → Entry → Type 0) → HasEntries value all → IsReading all (e ∷ left) places held at → ((S : L × R → Type 0) → ((p : L × R) → Contains held.pairs p ↔ S p) → P S e) → StopsUnder reads_key reads same_left same_right value policy at P
    reading_stops value all left e places held at P has r stops = record {
      before = r.before;
      entry = e;
      rest = left;
      has = subst (HasEntries value) r.split has;
      place = r.place;
      pairs = r.pairs;
      read = r.read;
      allowed = r.allowed;
      stops = stops (Survives PutsItself (TouchesSharing same_left same_right) (Contains []) r.pairs) r.survivors;
    }

    pub reading_done : (value : Data) (all : List Entry) (places : ℕ) (held : Holding L R) (at : ℕ) → HasEntries value all → IsReading all [] places held at → IsReadIntoUnder reads_key reads same_left same_right value places policy held
    reading_done value all places held at has r = record {
      is_read = record {
        entries = r.before;
        has = subst (HasEntries value) (r.split ∙ append-nil r.before) has;
        pairs = r.pairs;
        read = r.read;
        survivors = r.survivors;
        not_lower = r.not_lower;
        room = r.room;
      };
      allowed = r.allowed;
    }

    -- The reason why the policy refused a pair, expressed by the survivors of the entries before it.
    pub left_kept : (S T : L × R → Type 0) (NoPlace : Type 0) (p : L × R) (l : L) (r : R) → ((q : L × R) → S q ↔ T q) → IsRefusalUnder same_left same_right S NoPlace p policy (LeftKept l r) → IsRefusalUnder same_left same_right T ⊥ p policy (LeftKept p.0 p.1)
    left_kept S T NoPlace p l r same w = (refl, w.1, (w.2.0, (same w.2.0).0 w.2.1, w.2.2))

    pub right_kept : (S T : L × R → Type 0) (NoPlace : Type 0) (p : L × R) (l : L) (r : R) → ((q : L × R) → S q ↔ T q) → IsRefusalUnder same_left same_right S NoPlace p policy (RightKept l r) → IsRefusalUnder same_left same_right T ⊥ p policy (RightKept p.0 p.1)
    right_kept S T NoPlace p l r same w = (refl, λ refuses q m. w.1 refuses q ((same q).1 m), w.2, (w.3.0, (same w.3.0).0 w.3.1, w.3.2))

    -- The same statement without the policy.
    stopped_any : (value : Data) (at : ℕ) (P : Entry → Type 0) → StopsUnder reads_key reads same_left same_right value policy at (λ S e. P e) → StopsAt reads_key reads value at P
    stopped_any value at P s = record {
      before = s.before;
      entry = s.entry;
      rest = s.rest;
      has = s.has;
      place = s.place;
      pairs = s.pairs;
      read = s.read;
      stops = s.stops;
    }

    -- Reading under a policy that keeps nothing.
    pub read_any : {B : Type 0} (holding : B → Holding L R) (places : ℕ) (value : Data) → policy.left ≢ Refuse → policy.right ≢ Refuse → (result : Result B JsonFault) → ReadsObjectUnder reads_key reads same_left same_right holding places value policy result → ReadsObject reads_key reads same_left same_right holding places value result
    read_any holding places value left right (Ok b) h = h.is_read
    read_any holding places value left right (Err NotJson) h = h
    read_any holding places value left right (Err NameTwice) h = h
    read_any holding places value left right (Err NotAnObject) h = h
    read_any holding places value left right (Err (BadKey at)) h = stopped_any value at _ h
    read_any holding places value left right (Err (BadValue at)) h = stopped_any value at _ h
    read_any holding places value left right (Err (LeftHeld at)) h = left h.stops.2.1
    read_any holding places value left right (Err (RightHeld at)) h = right h.stops.2.2
    read_any holding places value left right (Err Memory) h = (h.0, stopped_any value h.0 _ h.1)
