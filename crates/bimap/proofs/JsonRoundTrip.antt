-- What was written of a map reads back as an equal map.
use Rattle.std.proofs.Common.{◌≡◌, inl, inr, ℕ, ◌≤◌, ◌||◌, ◌&&◌, Bool, true, false, List, [], ◌∷◌, ◌++◌, length, get_or, Some, None, Result, Ok, Err, IfOk, IfErr, refl, sym, ap, subst, ◌∙◌, arith, true≢false}
use Rattle.std.specs.Prelude.{Contains}
use Rattle.std.specs.Cmp.{IsEquivalence, and_equiv, on_equiv, first_so, second_so}
use Rattle.std.proofs.lemmas.List.Elements.{Contains-append_right}
use Rattle.std.proofs.lemmas.Map.Keys.{IsDistinct-from_apart}
use Rattle.std.proofs.lemmas.Map.Made.{length-le_from_is_member}
use Rattle.serde_json.specs.Data.{Data}
use Rattle.bimap_base.specs.Sets.{shares, IsApart}
use Rattle.bimap_any.specs.Same.{pair_eq, HasEqual, IsSame}
use Rattle.bimap_base.specs.Holding.{Holding}
use Rattle.bimap_any.specs.Survivors.{Survives, IsPutToStay, PutsItself, TouchesSharing}
use Rattle.bimap_base.proofs.Apart.{shares_symm, apart_unique}
use Rattle.bimap_base.proofs.Members.{head_in, more_in, cases_in, none_in, any_in, in_any}
use Rattle.bimap.specs.JsonObjects.{Entry, entries_of, Ascends, HasEntries, IsObjectOf, IsEntryOf, IsWrittenAs, EachReadsBack, ReadsAs, EachReadsAs, StopsAt, IsReadInto, ReadsObject}
use Rattle.bimap.proofs.JsonEntries.{other_key, below_later}
use Rattle.bimap.proofs.JsonWriting.{IsSplit, split_member, middle_in}
use Rattle.bimap.specs.declared.value.object.JsonFault.{JsonFault}
use Rattle.bimap.specs.declared.value.object.JsonFault.TheVariants.{NotJson, NameTwice, NotAnObject, BadKey, BadValue, LeftHeld, RightHeld, Memory}

-- An object has only one list of entries.
has_unique : (value : Data) (es fs : List Entry) → HasEntries value es → HasEntries value fs → es ≡ fs
has_unique value es fs a b =
    let members : Some a.members ≡ Some b.members = sym a.is_object ∙ b.is_object in
    let one : a.members ≡ b.members = cc members in
    a.are ∙ ap entries_of one ∙ sym b.are

module _ {L R : Type 0} (key : List ℕ → L → Type 0) (val : Data → R → Type 0) where
  -- The pair as which an entry in the middle of the list reads.
  record IsReadAt (e : Entry) (later : List Entry) (pairs : List (L × R)) : Type 0 where
    before : List (L × R)
    pair : L × R
    after : List (L × R)
    is : pairs ≡ before ++ pair ∷ after
    reads : ReadsAs key val e pair
    rest : EachReadsAs key val later after

  read_at : (before : List Entry) (e : Entry) (later : List Entry) (pairs : List (L × R)) → EachReadsAs key val (before ++ e ∷ later) pairs → IsReadAt e later pairs
  read_at [] e later [] each = absurd each
  read_at [] e later (p ∷ pairs) each = record { before = []; pair = p; after = pairs; is = refl; reads = each.0; rest = each.1 }
  read_at (f ∷ before) e later [] each = absurd each
  read_at (f ∷ before) e later (p ∷ pairs) each =
      let r = read_at before e later pairs each.1 in
      record { before = p ∷ r.before; pair = r.pair; after = r.after; is = ap (λ l. p ∷ l) r.is; reads = r.reads; rest = r.rest }

  -- Each pair was read from some entry.
  read_from : (es : List Entry) (pairs : List (L × R)) → EachReadsAs key val es pairs → (p : L × R) → Contains pairs p → (e : Entry) × Contains es e × ReadsAs key val e p
  read_from es [] each p c = none_in p c
  read_from [] (q ∷ pairs) each p c = absurd each
  read_from (e ∷ es) (q ∷ pairs) each p c =
      elim (cases_in q pairs p c) [
        | inl same ↦ (e, head_in e es, subst (ReadsAs key val e) same each.0)
        | inr later ↦ let r = read_from es pairs each.1 p later in (r.0, more_in e es r.0 r.1, r.2)
      ]

unlike : (a b : Bool) → (a || b) ≡ false → (a && b) ≡ false
unlike true b e = absurd (true≢false e)
unlike false b e = refl

module _ {L R : Type 0} (same_left : L → L → Bool) (same_right : R → R → Bool) (left_laws : IsEquivalence same_left) (right_laws : IsEquivalence same_right) where
  pairs : IsEquivalence (pair_eq same_left same_right)
  pairs = and_equiv (on_equiv (λ p. p.0) left_laws) (on_equiv (λ p. p.1) right_laws)

  -- No two pairs of a list share a value, and each has an equal pair in the other list.
  -- Then the first list is no longer than the second.
  no_more : (ps qs : List (L × R)) → IsApart same_left same_right ps → ((p : L × R) → Contains ps p → HasEqual same_left same_right (Contains qs) p) → length ps ≤ length qs
  no_more ps qs apart each =
      length-le_from_is_member pairs ps qs (IsDistinct-from_apart (pair_eq same_left same_right) ps (λ i j d before inside. unlike (same_left (get_or ps i d).0 (get_or ps j d).0) (same_right (get_or ps i d).1 (get_or ps j d).1) (apart i j d before inside)))
      (λ q e.
      let p = in_any (pair_eq same_left same_right q) ps e in
      let w = each p.0 p.1 in
      any_in (pair_eq same_left same_right q) qs w.0 w.1 (pairs.congr q p.0 w.0 p.2 ∙ w.2))

  -- If two pairs are equal, one shares a value with a third pair exactly if the other does.
  shares_like : (p q r : L × R) → pair_eq same_left same_right p q ≡ true → shares same_left same_right p r ≡ shares same_left same_right q r
  shares_like p q r e i = left_laws.congr p.0 q.0 r.0 (first_so (same_left p.0 q.0) (same_right p.1 q.1) e) i || right_laws.congr p.1 q.1 r.1 (second_so (same_left p.0 q.0) (same_right p.1 q.1) e) i

  module _ (writes_key : L → List ℕ) (writes : R → Data) (key : List ℕ → L → Type 0) (val : Data → R → Type 0) (ps : List (L × R)) (apart : IsApart same_left same_right ps) (each : EachReadsBack writes_key writes key val same_left same_right ps) where
    -- An entry reads as a pair that is equal to the one from which it was written.
    alike : (e : Entry) (p q : L × R) → Contains ps p → IsWrittenAs writes_key writes p e → ReadsAs key val e q → pair_eq same_left same_right q p ≡ true
    alike e p q c w r =
        let b = each p c in
        let l = b.0.only q.0 (subst (λ f. key f.0 q.0) w r.0) in
        let m = b.1.only q.1 (subst (λ f. val f.1 q.1) w r.1) in
        λ i. l i && m i

    module _ (value : Data) (object : IsObjectOf (IsEntryOf writes_key writes (Contains ps)) value) where
      module _ (places : ℕ) (new : Holding L R) (read : IsReadInto key val same_left same_right value places new) where
        es : List Entry
        es = object.entries

        each_read : EachReadsAs key val object.entries read.pairs
        each_read = subst (λ l. EachReadsAs key val l read.pairs) (has_unique value read.entries object.entries read.has object.has) read.read

        forth : (p : L × R) → Contains ps p → HasEqual same_left same_right (Contains new.pairs) p
        forth p c = (q, (read.survivors q).1 (inr stays), pairs.symm p q ∙ like)
          where
            e : Entry
            e = (writes_key p.0, writes p.1)

            s : IsSplit object.entries e
            s = split_member object.entries e ((object.exactly e).1 (p, c, refl))

            r : IsReadAt key val e s.later read.pairs
            r = read_at key val s.before e s.later read.pairs (subst (λ l. EachReadsAs key val l read.pairs) s.is each_read)

            q : L × R
            q = r.pair

            like : pair_eq same_left same_right q p ≡ true
            like = alike e p q c refl r.reads

            none : (t : L × R) → Contains r.after t → TouchesSharing same_left same_right t q → ⊥
            none t m touches =
                let f = read_from key val s.later r.after r.rest t m in
                let inside : Contains object.entries f.0 = subst (λ l. Contains l f.0) (sym s.is) (Contains-append_right s.before (e ∷ s.later) f.0 (more_in e s.later f.0 f.1)) in
                let w = (object.exactly f.0).0 inside in
                let one : p ≡ w.0 = apart_unique same_left same_right left_laws right_laws ps p w.0 apart c w.1 (sym (shares_like q p w.0 like) ∙ shares_symm same_left same_right left_laws right_laws q w.0 ∙ sym (shares_like t w.0 q (alike f.0 w.0 t w.1 w.2 f.2)) ∙ shares_symm same_left same_right left_laws right_laws t q ∙ touches) in
                other_key e.0 s.later f.0 (below_later s.before e s.later (subst Ascends s.is object.has.ascends)) f.1 (ap (λ x. x.0) w.2 ∙ ap (λ x. writes_key x.0) (sym one))

            stays : IsPutToStay PutsItself (TouchesSharing same_left same_right) read.pairs q
            stays = record { before = r.before; entry = q; later = r.after; split = r.is; puts = refl; untouched = none }

        back : (q : L × R) → Contains new.pairs q → HasEqual same_left same_right (Contains ps) q
        back q c = by ((read.survivors q).0 c)
          where
            by : Survives PutsItself (TouchesSharing same_left same_right) (Contains []) read.pairs q → HasEqual same_left same_right (Contains ps) q
            by (inl s) = none_in q s.0
            by (inr s) =
                let inside : Contains read.pairs q = subst (λ l. Contains l q) (sym s.split) (subst (λ x. Contains (s.before ++ x ∷ s.later) q) s.puts (middle_in s.before q s.later)) in
                let f = read_from key val object.entries read.pairs each_read q inside in
                let w = (object.exactly f.0).0 f.1 in
                (w.0, w.1, alike f.0 w.0 q w.1 w.2 f.2)

        reread_same : IsApart same_left same_right new.pairs → IsSame same_left same_right ps new.pairs
        reread_same other = (omega (arith, no_more ps new.pairs apart forth, no_more new.pairs ps other back), forth)

      -- An entry at which reading stops was written from some pair.
      stopped_at : (at : ℕ) (P : Entry → Type 0) (s : StopsAt key val value at P) → IsEntryOf writes_key writes (Contains ps) s.entry
      stopped_at at P s = (object.exactly s.entry).0 (subst (λ l. Contains l s.entry) (has_unique value (s.before ++ s.entry ∷ s.rest) object.entries s.has object.has) (middle_in s.before s.entry s.rest))

      reread_fault : {B : Type 0} (holding : B → Holding L R) (places : ℕ) (fault : JsonFault) → ReadsObject key val same_left same_right holding places value (Err fault) → fault ≡ Memory
      reread_fault holding places NotJson h = absurd h
      reread_fault holding places NameTwice h = absurd h
      reread_fault holding places NotAnObject h = let e : Some object.has.members ≡ None = sym object.has.is_object ∙ h in absurd (cc)
      reread_fault holding places (BadKey at) h =
          let w = stopped_at at _ h in
          let b = (each w.0 w.1).0 in
          absurd (h.stops b.as_value (subst (λ f. key f.0 b.as_value) (sym w.2) b.reads))
      reread_fault holding places (BadValue at) h =
          let w = stopped_at at _ h in
          let b = (each w.0 w.1).1 in
          absurd (h.stops.1 b.as_value (subst (λ f. val f.1 b.as_value) (sym w.2) b.reads))
      reread_fault holding places (LeftHeld at) h = absurd h
      reread_fault holding places (RightHeld at) h = absurd h
      reread_fault holding places Memory h = refl

      pub reread : {B : Type 0} (holding : B → Holding L R) (places : ℕ) → ((b : B) → IsApart same_left same_right (holding b).pairs) → (result : Result B JsonFault) → ReadsObject key val same_left same_right holding places value result → IfOk result (λ copy. IsSame same_left same_right ps (holding copy).pairs) × IfErr result (λ fault. fault ≡ Memory)
      reread holding places others (Ok b) h = (reread_same places (holding b) h (others b), tt)
      reread holding places others (Err fault) h = (tt, reread_fault holding places fault h)
