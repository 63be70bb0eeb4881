-- What a reservation leaves.
use Rattle.std.proofs.Common.{◌≡◌, ℕ, ◌+◌, ◌<◌, List, length, Option, ap, arith}
use Rattle.std.specs.Prelude.{Result, Ok, Err, OnOk, OnErr, max}
use Rattle.bimap_base.specs.declared.refusal.NoMemory.{NoMemory}
use Rattle.bimap_base.specs.Slots.{pair_at}
use Rattle.bimap_base.specs.Places.{pairs_in}
use Rattle.bimap_any.specs.Capacity.{IsReservation}
use Rattle.bimap_core.proofs.Places.{pairs_kept}
use Rattle.bimap_core.specs.Store.{holding_of}

pub reserved : {L R : Type 0} (slots slots' : List (Option (L × R))) (more wanted : ℕ) (r : Result (Unit {0}) NoMemory) → wanted ≡ length (pairs_in slots) + more → length slots < wanted
    → OnOk r (length slots' ≡ max wanted (length slots)) → ((place : ℕ) → pair_at slots' place ≡ pair_at slots place) → OnErr r (slots' ≡ slots) → IsReservation (holding_of slots) more r (holding_of slots')
reserved slots slots' more wanted (Ok x) e f ok kept err = record { ok = omega (arith, ok); pairs = pairs_kept slots slots' kept; had_room = λ h. absurd (omega arith); unchanged = tt }
reserved slots slots' more wanted (Err x) e f ok kept err = record { ok = tt; pairs = pairs_kept slots slots' kept; had_room = λ h. absurd (omega arith); unchanged = ap holding_of err }
