-- The pairs at listed places.
use Rattle.std.specs.Prelude.{ℕ, List, Option}
use Rattle.std.specs.List.{filter_map}
use Rattle.bimap_base.specs.Slots.{pair_at}

-- The pairs at these places, in this order.
abbrev pub pairs_at : {P : Type 0} → List (Option P) → List ℕ → List P
pairs_at slots places = filter_map (pair_at slots) places
