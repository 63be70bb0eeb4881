-- The entries of a route down a tree, as they are noted.
use Rattle.std.specs.Prelude.{◌≡◌, ◌≢◌, ℕ, ◌-◌, ◌==◌, ◌/◌, ◌%◌, ◌^◌, Bool, false, get_or}
use Rattle.bimap_tree.specs.declared.route.Route.{Route}
use Rattle.bimap_tree.specs.declared.notes.LongRoute.{LongRoute}

-- A noted route: how a place is stored, the entry at each depth, and the number of entries.
pub record Notes : Type 0 where
  pub kept : ℕ → ℕ
  pub step_at : ℕ → ℕ × Bool
  pub depth : ℕ

-- How a `Route` stores a place.
abbrev pub packed : ℕ → ℕ
packed place = place % 2 ^ 31

-- The place, as it is stored, and the direction at a depth of a `Route`.
abbrev pub step_at : Route → ℕ → ℕ × Bool
step_at route = λ depth. (get_or route.steps depth 0 / 2, get_or route.steps depth 0 % 2 == 1)

-- The noted route of a `Route`.
abbrev pub notes_of : Route → Notes
notes_of route = record { kept = packed; step_at = step_at route; depth = route.depth }

-- The same without its last entry.
abbrev pub notes_before : Route → Notes
notes_before route = record { kept = packed; step_at = step_at route; depth = route.depth - 1 }

-- The place and the direction at a depth of a `LongRoute`.
abbrev pub long_step_at : LongRoute → ℕ → ℕ × Bool
long_step_at route = λ depth. (get_or route.places depth 0, get_or route.directions depth false)

-- The noted route of a `LongRoute`, which stores places in full.
abbrev pub long_notes_of : LongRoute → Notes
long_notes_of route = record { kept = λ place. place; step_at = long_step_at route; depth = route.depth }

-- The entry at a depth is `step`. Every other entry is as it was.
pub record IsNoted (old : ℕ → ℕ × Bool) (depth : ℕ) (step : ℕ × Bool) (new : ℕ → ℕ × Bool) : Type 0 where
  pub here : new depth ≡ step
  pub elsewhere : (other : ℕ) → other ≢ depth → new other ≡ old other
