-- A statement about a bimap is true of another bimap with the same members, the same number of pairs and the same capacity.
use Rattle.std.proofs.Common.{◌≡◌, ◌∙◌, Bool, Option, Some, None, length, sym, arith}
use Rattle.std.specs.Prelude.{Contains, Result, OnErr, MatchOption, IfNone}
use Rattle.std.specs.Borrow.{Bor}
use Rattle.std.proofs.lemmas.Option.{IfSome_then}
use Rattle.std.proofs.lemmas.Result.{IfOk-weaker, IfErr-weaker, on_ok_weaker, on_err_weaker}
use Rattle.bimap_base.specs.Sets.{IsSameSet, HasLeft}
use Rattle.bimap_base.specs.Holding.{Holding, IsFull, IsPartner, IsRemoval, IsRoomAfter, IsInsertionUnder, IsInterning, IsUndoing}
use Rattle.bimap_base.specs.declared.overwritten.Overwritten.{Overwritten}
use Rattle.bimap_base.specs.declared.policy.Policy.{Policy}
use Rattle.bimap_base.specs.declared.refusal.NotInserted.{NotInserted}
use Rattle.bimap_base.specs.declared.refusal.NotInsertedWith.{NotInsertedWith}
use Rattle.bimap_base.specs.declared.refusal.UndoStopped.{UndoStopped}
use Rattle.bimap_any.proofs.SetsAlike.{turned, HasLeft-same, LacksLeft-same, SomeShares-back, IsAnswer-same, IsAllowed-same, IsRefusal-same, IsRefusalUnder-same, IsWithPut-same, IsUndone-same}

module _ {T : Type 0} where
  MatchOption-then : {P P' : Type 0} {Q Q' : T → Type 0} (o : Option T) → (P → P') → ((x : T) → Q x → Q' x) → MatchOption o P Q → MatchOption o P' Q'
  MatchOption-then (Some x) none some q = some x q
  MatchOption-then None none some p = none p

  IfNone-then : {P Q : Type 0} (o : Option T) → (P → Q) → IfNone o P → IfNone o Q
  IfNone-then (Some x) step p = p
  IfNone-then None step p = step p

module _ {L R : Type 0} where
  pub record AreAlike (h k : Holding L R) : Type 0 where
    pub members : IsSameSet (Contains h.pairs) (Contains k.pairs)
    pub long : length k.pairs ≡ length h.pairs
    pub room : k.room ≡ h.room

  module _ (h k : Holding L R) (like : AreAlike h k) where
    pub full_alike : IsFull h → IsFull k
    full_alike full = like.long ∙ full ∙ sym like.room

    pub found_alike : {X Y : Type 0} (pair : X → Y → L × R) (passes : L × R → Bool) (result : Option (Bor Y)) → IsPartner pair passes h result → IsPartner pair passes k result
    found_alike pair passes result f = record {
      found = IfSome_then result f.found (λ y w. (w.0, (like.members (pair w.0 y.now)).0 w.1, w.2));
      none = IfNone-then result (λ lacks p there. lacks p ((like.members p).1 there)) f.none;
    }

    module _ (h' k' : Holding L R) (after : AreAlike h' k') where
      pub removal_alike : (passes : L × R → Bool) (result : Option (L × R)) → IsRemoval passes h result h' → IsRemoval passes k result k'
      removal_alike passes result r = record {
        removed = IfSome_then result r.removed (λ p w. ((like.members p).0 w.0, w.1));
        none = IfNone-then result (λ lacks p there. lacks p ((like.members p).1 there)) r.none;
        without = λ p. (
          λ there. let w = (r.without p).0 ((after.members p).1 there) in ((like.members p).0 w.0, w.1),
          λ w. (after.members p).0 ((r.without p).1 ((like.members p).1 w.0, w.1)),
        );
        count = MatchOption-then result (λ e. after.long ∙ e ∙ sym like.long) (λ p e. omega (arith, after.long, e, like.long)) r.count;
        room = after.room ∙ r.room ∙ sym like.room;
      }

      module _ (same_left : L → L → Bool) (same_right : R → R → Bool) where
        room_alike : (InPlace InPlaceBack : Type 0) → (InPlaceBack → InPlace) → IsRoomAfter h InPlace h' → IsRoomAfter k InPlaceBack k'
        room_alike InPlace InPlaceBack back r = record {
          not_lower = rw (like.room, after.room) r.not_lower;
          at_most = rw (like.room, after.room) r.at_most;
          had_place = λ free. after.room ∙ r.had_place (rw (sym like.room, sym like.long) free) ∙ sym like.room;
          in_place = λ in_place. after.room ∙ r.in_place (back in_place) ∙ sym like.room;
        }

        -- If an `Err` left the first bimap unchanged, it left the other one unchanged.
        pub insertion_alike : (pair : L × R) (policy : Policy) (result : Result (Overwritten L R) (NotInsertedWith L R)) → OnErr result (k' ≡ k) → IsInsertionUnder same_left same_right h pair policy result h' → IsInsertionUnder same_left same_right k pair policy result k'
        insertion_alike pair policy result unchanged i = record {
          allowed = on_ok_weaker result (IsAllowed-same (Contains h.pairs) (Contains k.pairs) like.members same_left same_right pair policy) i.allowed;
          answer = IfOk-weaker result _ _ (IsAnswer-same (Contains h.pairs) (Contains k.pairs) like.members same_left same_right pair) i.answer;
          put = on_ok_weaker result (IsWithPut-same (Contains h.pairs) (Contains k.pairs) like.members same_left same_right (Contains h'.pairs) (Contains k'.pairs) pair after.members) i.put;
          count = IfOk-weaker result _ _ (λ answer e. omega (arith, after.long, e, like.long)) i.count;
          refused = IfErr-weaker result _ _ (λ e. IsRefusalUnder-same (Contains h.pairs) (Contains k.pairs) like.members same_left same_right (IsFull h) (IsFull k) pair policy e full_alike) i.refused;
          unchanged = unchanged;
          room = room_alike _ _ (SomeShares-back (Contains h.pairs) (Contains k.pairs) like.members same_left same_right pair) i.room;
        }

        -- If a contained left, or an `Err`, left the first bimap unchanged, it left the other one unchanged.
        pub interning_alike : (pair : L × R) (result : Result R (NotInserted L R)) → (HasLeft same_left (Contains h.pairs) pair.0 → k' ≡ k) → OnErr result (k' ≡ k) → IsInterning same_left same_right h pair result h' → IsInterning same_left same_right k pair result k'
        interning_alike pair result held unchanged i =
            let back = turned (Contains h.pairs) (Contains k.pairs) like.members in
            let lacked = LacksLeft-same (Contains k.pairs) (Contains h.pairs) back same_left pair.0 in
            record {
              answer = IfOk-weaker result _ _ (λ right w. (w.0, (after.members (w.0, right)).0 w.1, w.2)) i.answer;
              held = λ has. let was = HasLeft-same (Contains k.pairs) (Contains h.pairs) back same_left pair.0 has in ((i.held was).0, held was);
              given = λ lacks. i.given (lacked lacks);
              put = λ lacks. on_ok_weaker result (IsWithPut-same (Contains h.pairs) (Contains k.pairs) like.members same_left same_right (Contains h'.pairs) (Contains k'.pairs) pair after.members) (i.put (lacked lacks));
              count = λ lacks. on_ok_weaker result (λ e. omega (arith, after.long, e, like.long)) (i.count (lacked lacks));
              kept = λ p was. (after.members p).0 (i.kept p ((like.members p).1 was));
              refused = IfErr-weaker result _ _ (λ e. IsRefusal-same (Contains h.pairs) (Contains k.pairs) like.members same_left same_right (IsFull h) (IsFull k) pair e full_alike) i.refused;
              unchanged = unchanged;
              room = room_alike _ _ (SomeShares-back (Contains h.pairs) (Contains k.pairs) like.members same_left same_right pair) i.room;
            }

        pub undoing_alike : (left : L) (answer : Overwritten L R) (result : Result (L × R) (UndoStopped L R)) → OnErr result (k' ≡ k) → IsUndoing same_left same_right h left answer result h' → IsUndoing same_left same_right k left answer result k'
        undoing_alike left answer result unchanged u = record {
          taken = IfOk-weaker result _ _ (λ p w. ((like.members p).0 w.0, w.1)) u.taken;
          undone = on_ok_weaker result (IsUndone-same (Contains h.pairs) (Contains k.pairs) like.members same_left same_right (Contains h'.pairs) (Contains k'.pairs) left answer after.members) u.undone;
          count = on_ok_weaker result (λ e. omega (arith, after.long, e, like.long)) u.count;
          handed_back = u.handed_back;
          both = u.both;
          full = on_err_weaker result full_alike u.full;
          unchanged = unchanged;
          room = room_alike _ _ (λ never. never) u.room;
        }
