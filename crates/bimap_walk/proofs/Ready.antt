-- The ranks whose places are ready, after some of them were given.
use Rattle.std.proofs.Common.{ℕ, ◌≤◌, List, Option, None, Some, arith}
use Rattle.std.specs.Prelude.{IfSome}
use Rattle.bimap_tree.specs.Batches.{IsBatch}
use Rattle.bimap_tree.specs.declared.batch.Batch.{Batch}
use Rattle.bimap_walk.specs.Windows.{IsReady, IsReadyIn}

module _ (places : List ℕ) where
  -- Fewer ranks are ready.
  pub fewer_ready : (batch : Batch) (a b c d : ℕ) → a ≤ c → d ≤ b → IsReady places batch a b → IsReady places batch c d
  fewer_ready batch a b c d low high h = record { belongs = h.belongs; has = λ rank l m. h.has rank (omega (arith, low, l)) (omega (arith, high, m)) }

  pub fewer_ready_in : (o : Option Batch) (a b c d : ℕ) → a ≤ c → d ≤ b → IsReadyIn places o a b → IsReadyIn places o c d
  fewer_ready_in None a b c d low high h = omega (arith, low, high, h)
  fewer_ready_in (Some batch) a b c d low high h = fewer_ready batch a b c d low high h

  -- If there is a batch, it belongs to the list.
  pub belongs_in : (o : Option Batch) (a b : ℕ) → IsReadyIn places o a b → IfSome o (IsBatch places)
  belongs_in None a b h = tt
  belongs_in (Some batch) a b h = h.belongs
