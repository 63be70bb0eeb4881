-- A history that grows by one entry at its end.
use Rattle.std.proofs.Common.{◌≡◌, ◌↔◌, ◌⊎◌, inl, inr, ◌≤◌, Bool, true, false, Some, None, List, [], ◌∷◌, ◌++◌, length, refl, sym, ap, ◌∙◌, subst, arith}
use Rattle.std.specs.Prelude.{Contains}
use Rattle.std.specs.List.{zip}
use Rattle.std.proofs.lemmas.List.Elements.{Contains-append_left, Contains-append_right}
use Rattle.bimap_base.specs.Sets.{IsApart, HasLeft, HasRight}
use Rattle.bimap_base.specs.Holding.{Holding}
use Rattle.bimap_base.proofs.Members.{head_in, more_in, none_in, lacking}
use Rattle.bimap_any.proofs.SetsAlike.{IsAnswer-same, IsAllowed-same}
use Rattle.bimap_any.proofs.Survivors.{split_append, split_push, not_split, Survives_none, Survives_append, Survives_along, survivors_push}
use Rattle.bimap.specs.declared.call.Call.{Call}
use Rattle.bimap.specs.declared.call.Call.TheVariants.{Insert, InsertNoOverwrite, InsertWith, RemoveByLeft, RemoveByRight, ContainsLeft, ContainsRight, Retain, Clear}
use Rattle.bimap.specs.declared.call.Reply.{Reply}
use Rattle.bimap.specs.declared.call.Reply.TheVariants.{Inserted, NoRoom, Put, Occupied, LeftHeld, RightHeld, Removed, Holds, Done}
use Rattle.bimap.specs.Test.{IsHandedIn}
use Rattle.bimap_any.specs.Growth.{IsOutOfRoom, Outgrows}
use Rattle.bimap.specs.History.{Entry, Puts, Touches, IsNoRoom, IsSurvivor, IsRight, IsLegal, NeedsRoom, IsHistory, IsStanding, IsWholeHistory}
use Rattle.bimap.specs.Step.{MayRetain, IsStep, IsRoomAfterCall}
use Rattle.bimap_any.proofs.Growing.{out_of_room_along, outgrows_first, outgrows_second, room_push}

module _ {L R : Type 0} (same_left : L → L → Bool) (same_right : R → R → Bool) (S T : L × R → Type 0) (to : (p : L × R) → S p → T p) (from : (p : L × R) → T p → S p) where
  -- A reply that is right for a set is right for any set with the same members.
  pub IsRight_along : {K : Type 0} (e : Entry L R K) → IsRight same_left same_right S e → IsRight same_left same_right T e
  IsRight_along (Insert l r, Inserted a) h = IsAnswer-same S T (λ p. (to p, from p)) same_left same_right (l, r) a h
  IsRight_along (Insert l r, NoRoom l' r') h = (h.0, h.1, λ q m. h.2 q (from q m))
  IsRight_along (InsertNoOverwrite l r, Put) h = λ q m. h q (from q m)
  IsRight_along (InsertNoOverwrite l r, Occupied l' r') h = (h.0, h.1, (h.2.0, to h.2.0 h.2.1, h.2.2))
  IsRight_along (InsertNoOverwrite l r, NoRoom l' r') h = (h.0, h.1, λ q m. h.2 q (from q m))
  IsRight_along (InsertWith l r policy, Inserted a) h = (IsAllowed-same S T (λ p. (to p, from p)) same_left same_right (l, r) policy h.0, IsAnswer-same S T (λ p. (to p, from p)) same_left same_right (l, r) a h.1)
  IsRight_along (InsertWith l r policy, LeftHeld l' r') h = (h.0, h.1, h.2, (h.3.0, to h.3.0 h.3.1, h.3.2))
  IsRight_along (InsertWith l r policy, RightHeld l' r') h = (h.0, h.1, (λ e q m. h.2 e q (from q m)), h.3, (h.4.0, to h.4.0 h.4.1, h.4.2))
  IsRight_along (InsertWith l r policy, NoRoom l' r') h = (h.0, h.1, λ q m. h.2 q (from q m))
  IsRight_along (RemoveByLeft l, Removed None) h = λ q m. h q (from q m)
  IsRight_along (RemoveByLeft l, Removed (Some p)) h = (to p h.0, h.1)
  IsRight_along (RemoveByRight r, Removed None) h = λ q m. h q (from q m)
  IsRight_along (RemoveByRight r, Removed (Some p)) h = (to p h.0, h.1)
  IsRight_along (ContainsLeft l, Holds true) h = (h.0, to h.0 h.1, h.2)
  IsRight_along (ContainsLeft l, Holds false) h = λ q m. h q (from q m)
  IsRight_along (ContainsRight r, Holds true) h = (h.0, to h.0 h.1, h.2)
  IsRight_along (ContainsRight r, Holds false) h = λ q m. h q (from q m)
  IsRight_along (Retain k, Done) h = tt
  IsRight_along (Clear, Done) h = tt
  IsRight_along (call, reply) h = absurd h

module _ {L R : Type 0} (same_left : L → L → Bool) (same_right : R → R → Bool) (S : L × R → Type 0) where
  -- The reply of `contains_left` is right if it is `true` exactly when the left is contained.
  -- The same goes for `contains_right`.
  pub right_contains_left : (K : Type 0) (l : L) (held : Bool) → (held ≡ true) ↔ HasLeft same_left S l → IsRight {K = K} same_left same_right S (ContainsLeft l, Holds held)
  right_contains_left K l true h = h.0 refl
  right_contains_left K l false h = lacking S (λ p. same_left p.0 l) h

  pub right_contains_right : (K : Type 0) (r : R) (held : Bool) → (held ≡ true) ↔ HasRight same_right S r → IsRight {K = K} same_left same_right S (ContainsRight r, Holds held)
  right_contains_right K r true h = h.0 refl
  right_contains_right K r false h = lacking S (λ p. same_right p.1 r) h

module _ {L R K : Type 0} (same_left : L → L → Bool) (same_right : R → R → Bool) (Test : K → L × R → Bool → Type 0) where
  pub step_retain : (S T : L × R → Type 0) (k : K) → ((p : L × R) → T p ↔ (S p × (Test k p false → ⊥))) → IsStep same_left same_right Test S (Retain k, Done) T
  step_retain S T k h p = (λ t. inr ((h p).0 t), λ t. elim t [ inl e ↦ absurd e | inr e ↦ (h p).1 e ])

  -- The empty history.
  pub IsHistory_none : (old : Holding L R) → IsHistory same_left same_right Test old [] old
  IsHistory_none old = record {
    legal = λ before e later q. not_split before later e q;
    survivors = Survives_none Puts (Touches same_left same_right Test) (Contains old.pairs);
    needs_room = λ before e later q. not_split before later e q;
    not_lower = omega arith;
    room = inl refl;
  }

  module _ (first second third : Holding L R) (g h : List (Entry L R K)) (one : IsHistory same_left same_right Test first g second) (two : IsHistory same_left same_right Test second h third) where
    -- A pair survives a part of the second history exactly if it survives the first history followed by that part.
    through : (before : List (Entry L R K)) (p : L × R) → IsSurvivor same_left same_right Test (Contains second.pairs) before p ↔ IsSurvivor same_left same_right Test (Contains first.pairs) (g ++ before) p
    through before p =
        let along = Survives_along Puts (Touches same_left same_right Test) (Contains second.pairs) (λ q. IsSurvivor same_left same_right Test (Contains first.pairs) g q) before p (one.survivors p) in
        let all = Survives_append Puts (Touches same_left same_right Test) (Contains first.pairs) g before p in
        (λ s. all.1 (along.0 s), λ s. along.1 (all.0 s))

    legal_both : IsLegal same_left same_right Test (Contains first.pairs) (g ++ h)
    legal_both before e later q =
        elim (split_append g h before later e q) [
          | inl w ↦ one.legal before e w.0 w.1
          | inr w ↦
              subst (λ b. IsRight same_left same_right (IsSurvivor same_left same_right Test (Contains first.pairs) b) e) (sym w.1)
              (IsRight_along same_left same_right (IsSurvivor same_left same_right Test (Contains second.pairs) w.0) (IsSurvivor same_left same_right Test (Contains first.pairs) (g ++ w.0)) (λ p. (through w.0 p).0) (λ p. (through w.0 p).1) e (two.legal w.0 e later w.2))
        ]

    needs_room_both : NeedsRoom same_left same_right Test (Contains first.pairs) first.room (g ++ h)
    needs_room_both before e later q n =
        elim (split_append g h before later e q) [
          | inl w ↦ one.needs_room before e w.0 w.1 n
          | inr w ↦
              subst (λ b. IsOutOfRoom same_left same_right (IsSurvivor same_left same_right Test (Contains first.pairs) b) first.room) (sym w.1)
              (out_of_room_along same_left same_right (IsSurvivor same_left same_right Test (Contains second.pairs) w.0) (IsSurvivor same_left same_right Test (Contains first.pairs) (g ++ w.0)) first.room second.room (through w.0) one.not_lower (two.needs_room w.0 e later w.2 n))
        ]

    room_both : (third.room ≡ first.room) ⊎ Outgrows same_left same_right Puts (IsSurvivor same_left same_right Test (Contains first.pairs)) (g ++ h) first.room third.room
    room_both =
        elim two.room [
          | inl still ↦ elim one.room [
            | inl stays ↦ inl (still ∙ stays)
            | inr o ↦ inr (outgrows_first same_left same_right Puts (IsSurvivor same_left same_right Test (Contains first.pairs)) g h first.room second.room third.room still o)
          ]
          | inr o ↦ inr (outgrows_second same_left same_right Puts (IsSurvivor same_left same_right Test (Contains first.pairs)) (IsSurvivor same_left same_right Test (Contains second.pairs)) g h first.room second.room third.room through one.not_lower o)
        ]

    -- Two histories, one after the other.
    pub IsHistory_append : IsHistory same_left same_right Test first (g ++ h) third
    IsHistory_append = record {
      legal = legal_both;
      survivors = λ p. (λ m. (through h p).0 ((two.survivors p).0 m), λ s. (two.survivors p).1 ((through h p).1 s));
      needs_room = needs_room_both;
      not_lower = omega (arith, one.not_lower, two.not_lower);
      room = room_both;
    }

  -- A history of one call.
  module _ (old new : Holding L R) (e : Entry L R K) (right : IsRight same_left same_right (Contains old.pairs) e) (step : IsStep same_left same_right Test (Contains old.pairs) e (Contains new.pairs)) (full : IsNoRoom e → old.room ≤ length old.pairs) (apart : IsApart same_left same_right old.pairs) (not_lower : old.room ≤ new.room) (room : IsRoomAfterCall same_left same_right old e new) where
    unchanged : (p : L × R) → Contains old.pairs p ↔ IsSurvivor same_left same_right Test (Contains old.pairs) [] p
    unchanged = Survives_none Puts (Touches same_left same_right Test) (Contains old.pairs)

    only : (P : List (Entry L R K) → Entry L R K → Type 0) → P [] e → (before : List (Entry L R K)) (f : Entry L R K) (later : List (Entry L R K)) → e ∷ [] ≡ before ++ f ∷ later → P before f
    only P h before f later q =
        elim (split_push [] before later f e q) [
          | inl w ↦ subst (λ x. P before x) w.2 (subst (λ b. P b e) w.1 h)
          | inr w ↦ not_split before w.0 f w.2
        ]

    pub IsHistory_one : IsHistory same_left same_right Test old (e ∷ []) new
    IsHistory_one = record {
      legal = only (λ before f. IsRight same_left same_right (IsSurvivor same_left same_right Test (Contains old.pairs) before) f)
          (IsRight_along same_left same_right (Contains old.pairs) (IsSurvivor same_left same_right Test (Contains old.pairs) []) (λ p. (unchanged p).0) (λ p. (unchanged p).1) e right);
      survivors = survivors_push Puts (Touches same_left same_right Test) (Contains old.pairs) (Contains old.pairs) (Contains new.pairs) [] e unchanged step;
      needs_room = only (λ before f. IsNoRoom f → IsOutOfRoom same_left same_right (IsSurvivor same_left same_right Test (Contains old.pairs) before) old.room)
          (λ n. record { pairs = old.pairs; apart = apart; members = unchanged; full = full n });
      not_lower = not_lower;
      room = room_push same_left same_right Puts (IsSurvivor same_left same_right Test (Contains old.pairs)) old new [] e old.room apart unchanged (omega arith) (inl refl) room;
    }

  -- A history that begins with no pair.
  module _ (old new : Holding L R) (h : List (Entry L R K)) (none : old.pairs ≡ []) (led : IsHistory same_left same_right Test old h new) where
    standing : (before : List (Entry L R K)) (p : L × R) → IsSurvivor same_left same_right Test (Contains old.pairs) before p → IsStanding same_left same_right Test before p
    standing before p (inl s) = none_in p (subst (λ (ps : List (L × R)). Contains ps p) none s.0)
    standing before p (inr s) = s

    pub IsWholeHistory_from : IsWholeHistory same_left same_right Test h new
    IsWholeHistory_from = record {
      legal = λ before e later q. IsRight_along same_left same_right (IsSurvivor same_left same_right Test (Contains old.pairs) before) (IsStanding same_left same_right Test before) (standing before) (λ p s. inr s) e (led.legal before e later q);
      held = λ p. (λ m. standing h p ((led.survivors p).0 m), λ s. (led.survivors p).1 (inr s));
    }

module _ {L R K : Type 0} where
  pub zip_push : (cs : List (Call L R K)) (rs : List (Reply L R)) (c : Call L R K) (r : Reply L R) → length rs ≡ length cs → zip (cs ++ c ∷ []) (rs ++ r ∷ []) ≡ zip cs rs ++ (c, r) ∷ []
  zip_push [] [] c r e = refl
  zip_push [] (s ∷ rs) c r e = absurd (omega arith)
  zip_push (d ∷ cs) [] c r e = absurd (omega arith)
  zip_push (d ∷ cs) (s ∷ rs) c r e = ap (λ h. (d, s) ∷ h) (zip_push cs rs c r (omega arith))

  entry_call : (cs : List (Call L R K)) (rs : List (Reply L R)) (before : List (Entry L R K)) (e : Entry L R K) (later : List (Entry L R K)) → zip cs rs ≡ before ++ e ∷ later → Contains cs e.0
  entry_call [] rs before e later q = not_split before later e q
  entry_call (c ∷ cs) [] before e later q = not_split before later e q
  entry_call (c ∷ cs) (r ∷ rs) [] e later q =
      let w : (c, r) ≡ e = cc in
      subst (Contains (c ∷ cs)) (ap (λ (x : Entry L R K). x.0) w) (head_in c cs)
  entry_call (c ∷ cs) (r ∷ rs) (b ∷ before) e later q = more_in c cs e.0 (entry_call cs rs before e later (cc))

  handed_put : (calls : List (Call L R K)) (e : Entry L R K) (p : L × R) → Puts e p → Contains calls e.0 → IsHandedIn calls p
  handed_put calls (Insert l r, Inserted a) p e m = inl (subst (λ (x : L × R). Contains calls (Insert x.0 x.1)) (sym e) m)
  handed_put calls (InsertNoOverwrite l r, Put) p e m = inr (inl (subst (λ (x : L × R). Contains calls (InsertNoOverwrite x.0 x.1)) (sym e) m))
  handed_put calls (InsertWith l r policy, Inserted a) p e m = inr (inr (policy, subst (λ (x : L × R). Contains calls (InsertWith x.0 x.1 policy)) (sym e) m))
  handed_put calls (call, reply) p e m = absurd e

  handed_first : (done left : List (Call L R K)) (p : L × R) → IsHandedIn done p → IsHandedIn (done ++ left) p
  handed_first done left p (inl m) = inl (Contains-append_left done left _ m)
  handed_first done left p (inr (inl m)) = inr (inl (Contains-append_left done left _ m))
  handed_first done left p (inr (inr m)) = inr (inr (m.0, Contains-append_left done left _ m.1))

  -- A contained pair was contained at first, or some call inserted it.
  pub handed_from : (same_left : L → L → Bool) (same_right : R → R → Bool) (Test : K → L × R → Bool → Type 0) (S : L × R → Type 0) (cs : List (Call L R K)) (rs : List (Reply L R)) (p : L × R) → IsSurvivor same_left same_right Test S (zip cs rs) p → S p ⊎ IsHandedIn cs p
  handed_from same_left same_right Test S cs rs p (inl s) = inl s.0
  handed_from same_left same_right Test S cs rs p (inr s) = inr (handed_put cs s.entry p s.puts (entry_call cs rs s.before s.entry s.later s.split))

  -- The next call may be made.
  pub MayRetain_next : (Decided : K → L × R → Type 0) (S T : L × R → Type 0) (calls done left : List (Call L R K)) (c : Call L R K) → ((k : K) (p : L × R) → Contains calls (Retain k) → S p ⊎ IsHandedIn calls p → Decided k p) → calls ≡ done ++ c ∷ left → ((p : L × R) → T p → S p ⊎ IsHandedIn done p) → MayRetain Decided T c
  MayRetain_next D S T calls done left c h q t = λ k p e m.
      h k p (subst (λ (cs : List (Call L R K)). Contains cs (Retain k)) (sym q) (Contains-append_right done (c ∷ left) (Retain k) (subst (Contains (c ∷ left)) e (head_in c left))))
      (elim (t p m) [ inl s ↦ inl s | inr w ↦ inr (subst (λ (cs : List (Call L R K)). IsHandedIn cs p) (sym q) (handed_first done (c ∷ left) p w)) ])
