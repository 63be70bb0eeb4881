-- What an insertion returns and leaves, expressed for the map with its sides exchanged.
use Rattle.std.proofs.Common.{◌≡◌, ◌↔◌, ◌∙◌, ◌<◌, Bool, length, map, refl, sym, ap, inl, inr, arith, Contains}
use Rattle.std.specs.Prelude.{Ok, Err}
use Rattle.std.proofs.Math.Bool.{or_comm}
use Rattle.std.proofs.lemmas.List.{length-map}
use Rattle.bimap_base.specs.Answer.{IsOnlyStruck, IsAnswer, IsRefusalUnder, named_count}
use Rattle.bimap_base.specs.Holding.{Holding, IsFull, IsInsertion, IsInsertionUnder, IsRoomAfter}
use Rattle.bimap_base.specs.Inverse.{inverse_pair}
use Rattle.bimap_base.specs.Sets.{shares, NoneShares, SomeShares, IsWithPut, LacksRight, HasRight}
use Rattle.bimap_base.specs.declared.overwritten.Overwritten.{Overwritten}
use Rattle.bimap_base.specs.declared.overwritten.Overwritten.TheVariants.{Neither, Left, Right, Pair, Both}
use Rattle.bimap_base.specs.declared.policy.OnHeld.TheVariants.{Refuse}
use Rattle.bimap_base.specs.declared.policy.Policy.{Policy}
use Rattle.bimap_base.specs.declared.refusal.NotInsertedWith.{NotInsertedWith}
use Rattle.bimap_base.specs.declared.refusal.NotInsertedWith.TheVariants.{LeftHeld, RightHeld, Memory}
use Rattle.bimap_base.proofs.Counts.{none_named}
use Rattle.bimap_base.proofs.Inverse.{inverse_in, in_inverse}
use Rattle.bimap_any.specs.Added.{IsAdded}
use Rattle.bimap_any.specs.Exchanged.{inverse_holding, inverse_answer}

-- The same policy for the map with its sides exchanged.
abbrev pub inverse_policy : Policy → Policy
inverse_policy policy = record { left = policy.right; right = policy.left }

counted_inverse : {L R : Type 0} (answer : Overwritten L R) → named_count (inverse_answer answer) ≡ named_count answer
counted_inverse Neither = refl
counted_inverse (Left l r) = refl
counted_inverse (Right l r) = refl
counted_inverse (Pair l r) = refl
counted_inverse (Both p q) = refl

module _ {L R : Type 0} (same_left : L → L → Bool) (same_right : R → R → Bool) where
  -- Two pairs share a value exactly if they share one with their sides exchanged.
  shares_inverse : (p q : R × L) → shares same_right same_left p q ≡ shares same_left same_right (inverse_pair p) (inverse_pair q)
  shares_inverse p q = or_comm (same_right p.0 q.0) (same_left p.1 q.1)

  module _ (S : L × R → Type 0) (T : R × L → Type 0) (exchanged : (q : R × L) → T q ↔ S (inverse_pair q)) (new : L × R) where
    none_inverse : NoneShares same_left same_right S new → NoneShares same_right same_left T (inverse_pair new)
    none_inverse h q c = shares_inverse q (inverse_pair new) ∙ h (inverse_pair q) ((exchanged q).0 c)

    inverse_some : SomeShares same_right same_left T (inverse_pair new) → SomeShares same_left same_right S new
    inverse_some h = (inverse_pair h.0, (exchanged h.0).0 h.1, sym (shares_inverse h.0 (inverse_pair new)) ∙ h.2)

    struck : (p : L × R) → IsOnlyStruck same_left same_right S new p → IsOnlyStruck same_right same_left T (inverse_pair new) (inverse_pair p)
    struck p h = record {
      member = (exchanged (inverse_pair p)).1 h.member;
      only = λ q c e. ap inverse_pair (h.only (inverse_pair q) ((exchanged q).0 c) (sym (shares_inverse q (inverse_pair new)) ∙ e));
    }

    answer_inverse : (answer : Overwritten L R) → IsAnswer same_left same_right S new answer → IsAnswer same_right same_left T (inverse_pair new) (inverse_answer answer)
    answer_inverse Neither h = none_inverse h
    answer_inverse (Left l r) h = (struck (l, r) h.0, h.2, h.1)
    answer_inverse (Right l r) h = (struck (l, r) h.0, h.2, h.1)
    answer_inverse (Pair l r) h = (struck (l, r) h.0, h.2, h.1)
    answer_inverse (Both p q) h = record {
      first = (exchanged (inverse_pair q)).1 h.second;
      second = (exchanged (inverse_pair p)).1 h.first;
      two = λ e. h.two (sym (ap inverse_pair e));
      by_left = h.by_right;
      by_right = h.by_left;
      only = λ s c e. elim (h.only (inverse_pair s) ((exchanged s).0 c) (sym (shares_inverse s (inverse_pair new)) ∙ e)) [
        | inl f ↦ inr (ap inverse_pair f)
        | inr f ↦ inl (ap inverse_pair f)
      ];
    }

    put_inverse : (S' : L × R → Type 0) (T' : R × L → Type 0) → ((q : R × L) → T' q ↔ S' (inverse_pair q)) → IsWithPut same_left same_right S new S' → IsWithPut same_right same_left T (inverse_pair new) T'
    put_inverse S' T' exchanged' h q = (
      λ c. elim ((h (inverse_pair q)).0 ((exchanged' q).0 c)) [
        | inl e ↦ inl (ap inverse_pair e)
        | inr d ↦ inr ((exchanged q).1 d.0, shares_inverse q (inverse_pair new) ∙ d.1)
      ],
      λ c. (exchanged' q).1 ((h (inverse_pair q)).1 (elim c [
        | inl e ↦ inl (ap inverse_pair e)
        | inr d ↦ inr ((exchanged q).0 d.0, sym (shares_inverse q (inverse_pair new)) ∙ d.1)
      ])),
    )

module _ {L R : Type 0} where
  members : (held : Holding L R) (q : R × L) → Contains (map inverse_pair held.pairs) q ↔ Contains held.pairs (inverse_pair q)
  members held q = (inverse_in held.pairs q, in_inverse held.pairs q)

  pub room_inverse : {old new : Holding L R} {InPlace InPlace' : Type 0} → (InPlace' → InPlace) → IsRoomAfter old InPlace new → IsRoomAfter (inverse_holding old) InPlace' (inverse_holding new)
  room_inverse {old} there h = record {
    not_lower = h.not_lower;
    at_most = h.at_most;
    had_place = λ below. h.had_place (rw (length-map old.pairs inverse_pair) at below);
    in_place = λ e. h.in_place (there e);
  }

module _ {L R : Type 0} {same_left : L → L → Bool} {same_right : R → R → Bool} {old new : Holding L R} {pair : L × R} where
  pub inserted_inverse : {policy : Policy} {answer : Overwritten L R} → IsInsertionUnder same_left same_right old pair policy (Ok answer) new → IsInsertionUnder same_right same_left (inverse_holding old) (inverse_pair pair) (inverse_policy policy) (Ok (inverse_answer answer)) (inverse_holding new)
  inserted_inverse {policy} {answer} h = record {
    allowed = record { left = λ e q c. h.allowed.right e (inverse_pair q) (inverse_in old.pairs q c); right = λ e q c. h.allowed.left e (inverse_pair q) (inverse_in old.pairs q c) };
    answer = answer_inverse same_left same_right (Contains old.pairs) (Contains (map inverse_pair old.pairs)) (members old) pair answer h.answer;
    put = put_inverse same_left same_right (Contains old.pairs) (Contains (map inverse_pair old.pairs)) (members old) pair (Contains new.pairs) (Contains (map inverse_pair new.pairs)) (members new) h.put;
    count = rw (length-map new.pairs inverse_pair, length-map old.pairs inverse_pair, counted_inverse answer) h.count;
    refused = tt;
    unchanged = tt;
    room = room_inverse (inverse_some same_left same_right (Contains old.pairs) (Contains (map inverse_pair old.pairs)) (members old) pair) h.room;
  }

  -- The call was refused, and the reason is true of the exchanged sides.
  refused_inverse : {policy : Policy} {e : NotInsertedWith L R} {e' : NotInsertedWith R L} → IsInsertionUnder same_left same_right old pair policy (Err e) new → IsRefusalUnder same_right same_left (Contains (map inverse_pair old.pairs)) (IsFull (inverse_holding old)) (inverse_pair pair) (inverse_policy policy) e' → IsInsertionUnder same_right same_left (inverse_holding old) (inverse_pair pair) (inverse_policy policy) (Err e') (inverse_holding new)
  refused_inverse h refusal = record {
    allowed = tt;
    answer = tt;
    put = tt;
    count = tt;
    refused = refusal;
    unchanged = ap inverse_holding h.unchanged;
    room = room_inverse (inverse_some same_left same_right (Contains old.pairs) (Contains (map inverse_pair old.pairs)) (members old) pair) h.room;
  }

  module _ {policy : Policy} {l : L} {r : R} where
    pub memory_inverse : IsInsertionUnder same_left same_right old pair policy (Err (Memory l r)) new → IsInsertionUnder same_right same_left (inverse_holding old) (inverse_pair pair) (inverse_policy policy) (Err (Memory r l)) (inverse_holding new)
    memory_inverse h = refused_inverse h (ap inverse_pair h.refused.0, none_inverse same_left same_right (Contains old.pairs) (Contains (map inverse_pair old.pairs)) (members old) pair h.refused.1, length-map old.pairs inverse_pair ∙ h.refused.2)

    pub right_held : IsInsertionUnder same_left same_right old pair policy (Err (RightHeld l r)) new → IsInsertionUnder same_right same_left (inverse_holding old) (inverse_pair pair) (inverse_policy policy) (Err (LeftHeld r l)) (inverse_holding new)
    right_held h = let (q, m, e) = h.refused.3 in refused_inverse h (ap inverse_pair h.refused.0, h.refused.2, (inverse_pair q, in_inverse old.pairs (inverse_pair q) m, e))

    -- If the left is contained, the right may be contained too.
    module _ (h : IsInsertionUnder same_left same_right old pair policy (Err (LeftHeld l r)) new) where
      pub both_held : policy.right ≡ Refuse → HasRight same_right (Contains old.pairs) pair.1 → IsInsertionUnder same_right same_left (inverse_holding old) (inverse_pair pair) (inverse_policy policy) (Err (LeftHeld r l)) (inverse_holding new)
      both_held e has = refused_inverse h (ap inverse_pair h.refused.0, e, (inverse_pair has.0, in_inverse old.pairs (inverse_pair has.0) has.1, has.2))

      pub left_held : (policy.right ≡ Refuse → LacksRight same_right (Contains old.pairs) pair.1) → IsInsertionUnder same_right same_left (inverse_holding old) (inverse_pair pair) (inverse_policy policy) (Err (RightHeld r l)) (inverse_holding new)
      left_held lacks =
          let has = h.refused.2 in
          refused_inverse h (ap inverse_pair h.refused.0, λ e q c. lacks e (inverse_pair q) (inverse_in old.pairs q c), h.refused.1, (inverse_pair has.0, in_inverse old.pairs (inverse_pair has.0) has.1, has.2))

  -- A pair was inserted that shares no value with another one.
  pub added_inverse : {answer : Overwritten L R} → length old.pairs < old.room → NoneShares same_right same_left (Contains (map inverse_pair old.pairs)) (inverse_pair pair) → IsInsertion same_left same_right old pair (Ok answer) new → IsAdded (inverse_holding old) (inverse_pair pair) (inverse_holding new)
  added_inverse {answer} free alone h =
      let none : NoneShares same_left same_right (Contains old.pairs) pair = λ q m. sym (shares_inverse same_left same_right (inverse_pair q) (inverse_pair pair)) ∙ alone (inverse_pair q) (in_inverse old.pairs (inverse_pair q) m) in
      let named = none_named same_left same_right (Contains old.pairs) pair answer none h.answer in
      record {
        put = λ q. (
          λ c. elim ((h.put (inverse_pair q)).0 (inverse_in new.pairs q c)) [ inl e ↦ inl (ap inverse_pair e) | inr d ↦ inr (in_inverse old.pairs q d.0) ],
          λ c. in_inverse new.pairs q ((h.put (inverse_pair q)).1 (elim c [
            | inl e ↦ inl (ap inverse_pair e)
            | inr d ↦ let m = inverse_in old.pairs q d in inr (m, none (inverse_pair q) m)
          ])),
        );
        count = omega (arith, named, h.count, length-map old.pairs inverse_pair, length-map new.pairs inverse_pair);
        room = h.room.had_place free;
      }
