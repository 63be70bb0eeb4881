-- What a map shows from both sides after a run that started with no pair.
use Rattle.std.specs.Prelude.{ℕ, ◌+◌, ◌≤◌, Bool, Option, List, length}
use Rattle.std.specs.Borrow.{Bor}
use Rattle.bimap.specs.Sets.{IsApart}
use Rattle.bimap.specs.Holding.{Holding, IsFoundByLeft, IsFoundByRight}
use Rattle.bimap.specs.History.{Entry, IsWholeHistory}

-- Every reply is right. Both look-ups find the pairs of the successful insertions that no later call touched. No two
-- pairs share a value. The comparisons of each look-up are within the bound of a search of its side, for this number of
-- pairs.
pub record IsShown {L R K : Type 0} (same_left : L → L → Bool) (same_right : R → R → Bool)
    (Test : K → L × R → Bool → Type 0) (left_effort right_effort : ℕ → ℕ) (history : List (Entry L R K))
    (left : L) (right : R) (of_left : Option (Bor R)) (of_right : Option (Bor L))
    (left_before left_after right_before right_after : ℕ) : Type 0 where
  pub now : Holding L R
  pub each_once : IsApart same_left same_right now.pairs
  pub led : IsWholeHistory same_left same_right Test history now
  pub by_left : IsFoundByLeft same_left now left of_left
  pub by_right : IsFoundByRight same_right now right of_right
  pub left_comparisons : left_after ≤ left_before + left_effort (length now.pairs)
  pub right_comparisons : right_after ≤ right_before + right_effort (length now.pairs)
