use Rattle.std.proofs.Common.{◌≡◌, ◌≤◌, ℕ, List, length, refl, ap, arith}
use Rattle.std.specs.Prelude.{Result, Ok, Err, OnOk, OnErr, max}
use Rattle.bimap_base.proofs.Room.{room_stays}
use Rattle.bimap_core.proofs.Places.{length-pairs_in}
use Rattle.bimap_core.proofs.table.Table.make_room.Goals as goal

pub returns-then-len-places-clause-ok : goal.returns-then-len-places-clause-ok
returns-then-len-places-clause-ok g c = omega arith

pub returns-then-len-places-clause-room : goal.returns-then-len-places-clause-room
returns-then-len-places-clause-room g c = room_stays _ _ _ refl

-- The store grew to at least `to` places, or not at all.
grown : {T E P : Type 0} (r : Result T E) (to : ℕ) (was now : List P) → OnOk r (length now ≡ max to (length was)) → OnErr r (now ≡ was) → length now ≤ max to (length was)
grown (Ok x) to was now ok err = omega (arith, ok)
grown (Err x) to was now ok err = omega (arith, ap length err)

pub returns-in-Some-clause-room : goal.returns-in-Some-clause-room
returns-in-Some-clause-room g c = record {
  not_lower = c.grow.ensures.grows;
  at_most = omega (arith, grown c.grow.result c.max.result c.args.self.now.pairs c.grow.new.self.pairs c.grow.ensures.ok c.grow.ensures.err, c.max.ensures, c.in-Some.ensures.1, c.places-places.ensures);
  had_place = λ h. absurd (omega (arith, h, length-pairs_in c.args.self.now.pairs));
  in_place = λ never. absurd never;
}

pub returns-in-None-clause-room : goal.returns-in-None-clause-room
returns-in-None-clause-room g c = room_stays _ _ _ refl
