-- The capacity after calls that may enlarge it.
use Rattle.std.proofs.Common.{◌≡◌, ◌∙◌, arith}
use Rattle.bimap_base.specs.Holding.{Holding, IsRoomAfter}

module _ {L R : Type 0} where
  -- The capacity stays the same.
  pub room_stays : (old new : Holding L R) (InPlace : Type 0) → new.room ≡ old.room → IsRoomAfter old InPlace new
  room_stays old new InPlace same = record { not_lower = omega (arith, same); at_most = omega (arith, same); had_place = λ _. same; in_place = λ _. same }

  -- The capacity was enlarged, and a pair was inserted afterwards.
  pub room_made : (old made new : Holding L R) (InPlace : Type 0) → new.room ≡ made.room → (InPlace → ⊥) → IsRoomAfter old ⊥ made → IsRoomAfter old InPlace new
  room_made old made new InPlace same none room = record {
    not_lower = omega (arith, same, room.not_lower);
    at_most = omega (arith, same, room.at_most);
    had_place = λ free. same ∙ room.had_place free;
    in_place = λ w. absurd (none w);
  }
