-- A window of the ranks of an index.
use Rattle.std.specs.Prelude.{◌≡◌, ◌≢◌, ◌↔◌, ℕ, ◌<◌, ◌≤◌, Bool, IsTrue, List, Option, Some, None, length}
use Rattle.std.specs.List.{All, AllPairs, between}
use Rattle.bimap_base.specs.Slots.{IsLive}
use Rattle.bimap_tree.specs.Batches.{HasRank, IsBatch}
use Rattle.bimap_tree.specs.declared.batch.Batch.{Batch}
use Rattle.bimap_walk.specs.declared.window.Window.{Window}

-- The places with the ranks of the window.
abbrev pub places_in : List ℕ → Window → List ℕ
places_in places window = between window.front window.back places

-- The batch belongs to the list. It contains the places of the ranks from `first` up to `end`, which is excluded.
pub record IsReady (places : List ℕ) (batch : Batch) (first end : ℕ) : Type 0 where
  pub belongs : IsBatch places batch
  pub has : (rank : ℕ) → first ≤ rank → rank < end → HasRank batch rank

-- There is such a batch, or no rank is from `first` up to `end`.
abbrev pub IsReadyIn : List ℕ → Option Batch → ℕ → ℕ → Type 0
IsReadyIn places None first end = end ≤ first
IsReadyIn places (Some batch) first end = IsReady places batch first end

-- The window's ranks are ranks of listed places. No place is listed twice. Each batch contains the places that are ready at one end.
pub record IsWindow (places : List ℕ) (window : Window) : Type 0 where
  pub ordered : window.front ≤ window.ready
  pub apart : window.ready ≤ window.ready_back
  pub ordered_back : window.ready_back ≤ window.back
  pub within : window.back ≤ length places
  pub distinct : AllPairs (λ a b. a ≢ b) places
  pub ahead : IsReady places window.ahead window.front window.ready
  pub behind : IsReadyIn places window.behind window.ready_back window.back

-- After a read, the ranks are as before. The result says whether one is left.
pub record IsRead (places : List ℕ) (old new : Window) (result : Bool) : Type 0 where
  pub window : IsWindow places new
  pub front : new.front ≡ old.front
  pub back : new.back ≡ old.back
  pub left : IsTrue result ↔ (old.front < old.back)

-- In addition, each place of the window has a pair.
pub record IsLiveWindow {P : Type 0} (slots : List (Option P)) (places : List ℕ) (window : Window) : Type 0 where
  pub ranks : IsWindow places window
  pub live : All (IsLive slots) (places_in places window)
