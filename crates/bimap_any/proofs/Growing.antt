-- When a growing history outgrows the capacity of a bimap.
use Rattle.std.proofs.Common.{◌≡◌, ◌↔◌, ◌⊎◌, inl, inr, ℕ, ◌≤◌, ◌*◌, Bool, true, false, List, [], ◌∷◌, ◌++◌, length, refl, sym, ap, ◌∙◌, arith, append_assoc}
use Rattle.std.specs.Prelude.{Contains, MatchBool, max}
use Rattle.std.proofs.lemmas.Bool.{cases_lt, or_left, or_right}
use Rattle.bimap_base.specs.Sets.{NoneShares, SomeShares, IsApart}
use Rattle.bimap_base.specs.Answer.{IsAnswer, overwrites}
use Rattle.bimap_base.specs.Holding.{Holding, IsFull, IsRoomAfter}
use Rattle.bimap_base.specs.declared.overwritten.Overwritten.{Overwritten}
use Rattle.bimap_base.specs.declared.overwritten.Overwritten.TheVariants.{Neither, Left, Right, Pair, Both}
use Rattle.bimap_any.specs.Growth.{IsOutOfRoom, Adds, Outgrows}

module _ {L R : Type 0} (same_left : L → L → Bool) (same_right : R → R → Bool) where
  -- An answer says whether some pair was overwritten.
  pub answer_overwrites : (S : L × R → Type 0) (new : L × R) (answer : Overwritten L R) → IsAnswer same_left same_right S new answer → MatchBool (overwrites answer) (SomeShares same_left same_right S new) (NoneShares same_left same_right S new)
  answer_overwrites S new Neither h = h
  answer_overwrites S new (Left l r) h = ((l, r), h.0.member, or_left (same_left l new.0) (same_right r new.1) h.1)
  answer_overwrites S new (Right l r) h = ((l, r), h.0.member, or_right (same_left l new.0) (same_right r new.1) h.2)
  answer_overwrites S new (Pair l r) h = ((l, r), h.0.member, or_left (same_left l new.0) (same_right r new.1) h.1)
  answer_overwrites S new (Both p q) h = (p, h.first, or_left (same_left p.0 new.0) (same_right p.1 new.1) h.by_left)

  -- A capacity that is too small is also too small if it is less. It is also too small for a set with the same members.
  pub out_of_room_along : (S T : L × R → Type 0) (room more : ℕ) → ((p : L × R) → S p ↔ T p) → room ≤ more → IsOutOfRoom same_left same_right S more → IsOutOfRoom same_left same_right T room
  out_of_room_along S T room more same fewer out = record {
    pairs = out.pairs;
    apart = out.apart;
    members = λ p. (λ m. (same p).0 ((out.members p).0 m), λ t. (out.members p).1 ((same p).1 t));
    full = omega (arith, fewer, out.full);
  }

  module _ {E : Type 0} (Puts : E → L × R → Type 0) where
    -- After an entry that puts a pair in, the capacity is as it was. If not, the entry added the pair when no place was free.
    pub room_after : (old new : Holding L R) (pair : L × R) (e : E) (strikes : Bool) → Puts e pair → length old.pairs ≤ old.room → MatchBool strikes (SomeShares same_left same_right (Contains old.pairs) pair) (NoneShares same_left same_right (Contains old.pairs) pair) → IsRoomAfter old (SomeShares same_left same_right (Contains old.pairs) pair) new → (new.room ≡ old.room) ⊎ (Adds same_left same_right Puts (Contains old.pairs) e × IsFull old × (new.room ≤ max 4 (2 * old.room)))
    room_after old new pair e true puts fits some room = inl (room.in_place some)
    room_after old new pair e false puts fits none room =
        elim (cases_lt (length old.pairs) old.room) [
          | inl free ↦ inl (room.had_place free)
          | inr full ↦ inr ((pair, puts, none), omega (arith, fits, full), room.at_most)
        ]

    module _ (Held : List E → L × R → Type 0) where
      -- If a history outgrew the capacity, every longer history outgrew it too.
      pub outgrows_first : (g h : List E) (room grown now : ℕ) → now ≡ grown → Outgrows same_left same_right Puts Held g room grown → Outgrows same_left same_right Puts Held (g ++ h) room now
      outgrows_first g h room grown now stays o = record {
        before = o.before;
        entry = o.entry;
        later = o.later ++ h;
        split = ap (λ l. l ++ h) o.split ∙ append_assoc o.before (o.entry ∷ o.later) h;
        adds = o.adds;
        full = o.full;
        at_most = omega (arith, stays, o.at_most);
      }

      -- Entries before it change nothing, if they leave no smaller capacity.
      pub outgrows_second : (After : List E → L × R → Type 0) (g h : List E) (room more grown : ℕ) → ((before : List E) (p : L × R) → After before p ↔ Held (g ++ before) p) → room ≤ more → Outgrows same_left same_right Puts After h more grown → Outgrows same_left same_right Puts Held (g ++ h) room grown
      unfolding out_of_room_along
      outgrows_second After g h room more grown through fewer o = record {
        before = g ++ o.before;
        entry = o.entry;
        later = o.later;
        split = ap (λ l. g ++ l) o.split ∙ sym (append_assoc g o.before (o.entry ∷ o.later));
        adds = (o.adds.0, o.adds.1, λ q m. o.adds.2 q ((through o.before q).1 m));
        full = out_of_room_along (After o.before) (Held (g ++ o.before)) room more (through o.before) fewer o.full;
        at_most = o.at_most;
      }

      -- One more entry.
      pub room_push : (old new : Holding L R) (g : List E) (e : E) (room : ℕ) → IsApart same_left same_right old.pairs → ((p : L × R) → Contains old.pairs p ↔ Held g p) → room ≤ old.room → (old.room ≡ room) ⊎ Outgrows same_left same_right Puts Held g room old.room → (new.room ≡ old.room) ⊎ (Adds same_left same_right Puts (Contains old.pairs) e × IsFull old × (new.room ≤ max 4 (2 * old.room))) → (new.room ≡ room) ⊎ Outgrows same_left same_right Puts Held (g ++ e ∷ []) room new.room
      room_push old new g e room apart held fewer so_far (inl stays) =
          elim so_far [ inl was ↦ inl (stays ∙ was) | inr o ↦ inr (outgrows_first g (e ∷ []) room old.room new.room stays o) ]
      room_push old new g e room apart held fewer so_far (inr added) = inr (record {
        before = g;
        entry = e;
        later = [];
        split = refl;
        adds = (added.0.0, added.0.1, λ q m. added.0.2 q ((held q).1 m));
        full = record { pairs = old.pairs; apart = apart; members = held; full = omega (arith, fewer, added.1) };
        at_most = omega (arith, added.1, added.2);
      })
