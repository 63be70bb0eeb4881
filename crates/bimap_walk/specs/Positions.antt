-- How far an iterator along a linked list has come.
use Rattle.std.specs.Prelude.{◌≡◌, ◌≢◌, ℕ, ◌-◌, ◌<◌, ◌≤◌, List, Option, length, slice_get}
use Rattle.std.specs.List.{All, AllPairs, between}
use Rattle.bimap_base.specs.Slots.{IsLive}
use Rattle.bimap_walk.specs.declared.by_insertion.ListPosition.{ListPosition}

-- The places that are left.
abbrev pub places_left : List ℕ → ListPosition → List ℕ
places_left places position = between position.front position.back places

-- If places are left, the cursor knows the first and the last of them. No place is listed twice.
pub record IsListPosition (places : List ℕ) (position : ListPosition) : Type 0 where
  pub ordered : position.front ≤ position.back
  pub within : position.back ≤ length places
  pub next : position.front < position.back → position.next ≡ slice_get places position.front
  pub last : position.front < position.back → position.last ≡ slice_get places (position.back - 1)
  pub distinct : AllPairs (λ a b. a ≢ b) places

-- In addition, each place that is left has a pair.
pub record IsLiveListPosition {P : Type 0} (slots : List (Option P)) (places : List ℕ) (position : ListPosition) : Type 0 where
  pub positions : IsListPosition places position
  pub live : All (IsLive slots) (places_left places position)
