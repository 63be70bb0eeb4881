-- Items that are inserted one after the other under a policy.
use Rattle.std.proofs.Common.{◌≡◌, ◌↔◌, ◌+◌, ◌≤◌, ℕ, Bool, Option, Some, List, [], ◌∷◌, ◌++◌, length, refl, sym, ◌∙◌, subst, arith, inl, inr}
use Rattle.std.specs.Prelude.{◌-◌, ◌^◌, min, Contains}
use Rattle.std.specs.Iterator.{Drains, YieldsThen}
use Rattle.std.specs.Cmp.{IsEquivalence}
use Rattle.std.proofs.lemmas.List.{length_push}
use Rattle.bimap_base.specs.Sets.{IsApart, IsWithPut, NoneShares, SomeShares}
use Rattle.bimap_base.specs.Answer.{IsAnswer, IsAllowed, IsRefusalUnder, overwrites}
use Rattle.bimap_any.specs.Survivors.{Survives, PutsItself, TouchesSharing, AreSurvivors}
use Rattle.bimap_base.specs.Holding.{Holding, IsFull, IsRoomAfter}
use Rattle.bimap_any.specs.Extension.{AreAllowed, IsRoomAfterItems, IsOutOfPlaces, IsNextItem, IsExtensionUnder, IsExtensionStopped, IsExtensionStoppedUnder}
use Rattle.bimap_base.specs.declared.overwritten.Overwritten.{Overwritten}
use Rattle.bimap_base.specs.declared.policy.Policy.{Policy}
use Rattle.bimap_base.specs.declared.refusal.ItemRefused.{ItemRefused}
use Rattle.bimap_base.specs.declared.refusal.NotInsertedWith.{NotInsertedWith}
use Rattle.bimap_base.specs.declared.refusal.NotInsertedWith.TheVariants.{LeftHeld, RightHeld, Memory}
use Rattle.bimap_base.proofs.Apart.{one_longer}
use Rattle.bimap_any.proofs.Growing.{answer_overwrites, room_after, room_push}
use Rattle.bimap_any.proofs.Survivors.{split_push, not_split, items_none, items_push}

module _ {L R : Type 0} (same_left : L → L → Bool) (same_right : R → R → Bool) where
  -- The reason of a refused insertion is also true of another set with the same members.
  pub refusal_along : (S T : L × R → Type 0) (NoPlace NoPlaceLeft : Type 0) (new : L × R) (policy : Policy) (why : NotInsertedWith L R) → ((p : L × R) → S p ↔ T p) → (NoPlace → NoPlaceLeft) → IsRefusalUnder same_left same_right S NoPlace new policy why → IsRefusalUnder same_left same_right T NoPlaceLeft new policy why
  refusal_along S T NoPlace NoPlaceLeft new policy (LeftHeld l r) same place w = (w.0, w.1, (w.2.0, (same w.2.0).0 w.2.1, w.2.2))
  refusal_along S T NoPlace NoPlaceLeft new policy (RightHeld l r) same place w =
      (w.0, λ refuses q m. w.1 refuses q ((same q).1 m), w.2, (w.3.0, (same w.3.0).0 w.3.1, w.3.2))
  refusal_along S T NoPlace NoPlaceLeft new policy (Memory l r) same place w = (w.0, λ q m. w.1 q ((same q).1 m), place w.2)

  pub allowed_push : (S T : L × R → Type 0) (items : List (L × R)) (new : L × R) (policy : Policy) → AreSurvivors same_left same_right S items T → AreAllowed same_left same_right S items policy → IsAllowed same_left same_right T new policy → AreAllowed same_left same_right S (items ++ new ∷ []) policy
  allowed_push S T items new policy are each last before item later q =
      elim (split_push items before later item new q) [
        | inl w ↦
            subst (λ (z : L × R). IsAllowed same_left same_right (Survives PutsItself (TouchesSharing same_left same_right) S before) z policy) w.2
            (subst (λ (h : List (L × R)). IsAllowed same_left same_right (Survives PutsItself (TouchesSharing same_left same_right) S h) new policy) w.1
            (record {
              left = λ r p s. last.left r p ((are p).1 s);
              right = λ r p s. last.right r p ((are p).1 s);
            }))
        | inr w ↦ each before item w.0 w.2
      ]

  -- These items were inserted under the policy, and nothing else changed.
  pub record ArePutIn (old : Holding L R) (items : List (L × R)) (policy : Policy) (new : Holding L R) : Type 0 where
    pub survivors : AreSurvivors same_left same_right (Contains old.pairs) items (Contains new.pairs)
    pub allowed : AreAllowed same_left same_right (Contains old.pairs) items policy
    pub no_longer : length new.pairs ≤ length old.pairs + length items
    pub room : IsRoomAfterItems same_left same_right old items new

  pub put_in_none : (old : Holding L R) (policy : Policy) → ArePutIn old [] policy old
  put_in_none old policy = record {
    survivors = items_none same_left same_right (Contains old.pairs);
    allowed = λ before item later q. not_split before later item q;
    no_longer = omega arith;
    room = record { not_lower = omega arith; had_places = λ _. refl; outgrown = inl refl };
  }

  -- If no place is free, the old capacity was used up.
  pub put_in_full : (old : Holding L R) (items : List (L × R)) (policy : Policy) (new : Holding L R) → ArePutIn old items policy new → IsFull new → IsOutOfPlaces old items new
  put_in_full old items policy new are full = record { full = full; used = omega (arith, full, are.no_longer, are.room.not_lower) }

  -- The capacity after one more item.
  room_more : (old : Holding L R) (items : List (L × R)) (policy : Policy) (held : Holding L R) (item : L × R) (answer : Overwritten L R) (new : Holding L R) → IsApart same_left same_right held.pairs → length held.pairs ≤ held.room → ArePutIn old items policy held → IsAnswer same_left same_right (Contains held.pairs) item answer → IsRoomAfter held (SomeShares same_left same_right (Contains held.pairs) item) new → IsRoomAfterItems same_left same_right old (items ++ item ∷ []) new
  room_more old items policy held item answer new apart fits are named room =
      let more = length_push items item in
      record {
        not_lower = omega (arith, are.room.not_lower, room.not_lower);
        had_places = λ had.
            let was = are.room.had_places (omega (arith, had, more)) in
            room.had_place (omega (arith, had, more, are.no_longer, was)) ∙ was;
        outgrown = room_push same_left same_right PutsItself (Survives PutsItself (TouchesSharing same_left same_right) (Contains old.pairs)) held new items item old.room apart are.survivors are.room.not_lower are.room.outgrown
            (room_after same_left same_right PutsItself held new item item (overwrites answer) refl fits (answer_overwrites same_left same_right (Contains held.pairs) item answer named) room);
      }

  -- One more item was inserted.
  pub put_in_more : (old : Holding L R) (items : List (L × R)) (policy : Policy) (held : Holding L R) (item : L × R) (answer : Overwritten L R) (new : Holding L R) → IsEquivalence same_left → IsEquivalence same_right → IsApart same_left same_right held.pairs → IsApart same_left same_right new.pairs → length held.pairs ≤ held.room → ArePutIn old items policy held → IsAllowed same_left same_right (Contains held.pairs) item policy → IsAnswer same_left same_right (Contains held.pairs) item answer → IsWithPut same_left same_right (Contains held.pairs) item (Contains new.pairs) → IsRoomAfter held (SomeShares same_left same_right (Contains held.pairs) item) new → ArePutIn old (items ++ item ∷ []) policy new
  put_in_more old items policy held item answer new lefts rights apart apart_after fits are let_in named put room =
      let more = length_push items item in
      let longer = one_longer same_left same_right lefts rights held.pairs new.pairs item apart apart_after put in
      record {
        survivors = items_push same_left same_right (Contains old.pairs) (Contains held.pairs) (Contains new.pairs) items item are.survivors put;
        allowed = allowed_push (Contains old.pairs) (Contains held.pairs) items item policy are.survivors are.allowed let_in;
        no_longer = omega (arith, more, longer, are.no_longer);
        room = room_more old items policy held item answer new apart fits are named room;
      }

  module _ {It : Type 0} (gives : It → Type 0) (next : It → Option (L × R) → It → Type 0) where
    -- An iterator gave exactly these items.
    abbrev pub all_put_in : (old : Holding L R) (items : List (L × R)) (policy : Policy) (new : Holding L R) (iterator : It) → gives iterator → Drains next iterator items → ArePutIn old items policy new → IsExtensionUnder same_left same_right gives next old policy new
    all_put_in old items policy new iterator given all are = record {
      extension = record { iterator = iterator; items = items; given = given; all = all; survivors = are.survivors; room = are.room };
      allowed = are.allowed;
    }

    -- An iterator gave these items, and then this item.
    pub item_after : (items : List (L × R)) (item : L × R) (number : ℕ) (iterator rest : It) → gives iterator → YieldsThen next iterator items (Some item) rest → number ≡ min (length items) (2 ^ 64 - 1) → IsNextItem same_left same_right gives next items item number
    item_after items item number iterator rest given next_item counted = record { iterator = iterator; rest = rest; given = given; next_item = next_item; counted = counted }

    -- If an extension under a policy ran out of memory, an extension without a policy did so too, after the same items.
    pub stopped_for_memory : (old : Holding L R) (policy : Policy) (stopped : ItemRefused L R) (left : L) (right : R) (new : Holding L R) → stopped.why ≡ Memory left right → (u : IsExtensionStoppedUnder same_left same_right gives next old policy stopped new) → (s : IsExtensionStopped same_left same_right gives next old (record { taken = stopped.taken; left = left; right = right }) new) × (s.items ≡ u.items)
    stopped_for_memory old policy stopped left right new is u =
        let S = Survives PutsItself (TouchesSharing same_left same_right) (Contains old.pairs) u.items in
        let w = subst (IsRefusalUnder same_left same_right S (IsOutOfPlaces old u.items new) u.refused.item policy) is u.refused.why in
        let back : u.refused.item ≡ (left, right) = sym w.0 in (
          record {
            items = u.items;
            refused = record {
              is_next = subst (λ p. IsNextItem same_left same_right gives next u.items p stopped.taken) back u.refused.is_next;
              strikes_none = subst (NoneShares same_left same_right S) back w.1;
            };
            survivors = u.survivors;
            out_of_places = w.2;
            room = u.room;
          },
          refl,
        )
