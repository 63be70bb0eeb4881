-- What an insertion returns about the pairs that it overwrites, and why an insertion is refused. The answer is the `Overwritten`
-- that an insertion returns.
use Rattle.std.specs.Prelude.{◌≡◌, ◌≢◌, ◌⊎◌, ℕ, Bool, true, false}
use Rattle.bimap_base.specs.Sets.{shares, NoneShares, SomeShares, HasLeft, LacksLeft, HasRight, LacksRight}
use Rattle.bimap_base.specs.declared.overwritten.Overwritten.{Overwritten}
use Rattle.bimap_base.specs.declared.overwritten.Overwritten.TheVariants.{Neither, Left, Right, Pair, Both}
use Rattle.bimap_base.specs.declared.policy.OnHeld.TheVariants.{Refuse}
use Rattle.bimap_base.specs.declared.policy.Policy.{Policy}
use Rattle.bimap_base.specs.declared.refusal.NotInserted.{NotInserted}
use Rattle.bimap_base.specs.declared.refusal.NotInserted.TheVariants.{Occupied, Memory}
use Rattle.bimap_base.specs.declared.refusal.NotInsertedWith.{NotInsertedWith}
use Rattle.bimap_base.specs.declared.refusal.NotInsertedWith.TheVariants.{LeftHeld, RightHeld, Memory as MemoryWith}

-- Some pair was overwritten.
abbrev pub overwrites : {L R : Type 0} → Overwritten L R → Bool
overwrites Neither = false
overwrites answer = true

-- `p` is one of the overwritten pairs that the answer names.
abbrev pub IsNamed : {L R : Type 0} → Overwritten L R → L × R → Type 0
IsNamed Neither p = ⊥
IsNamed (Left l r) p = p ≡ (l, r)
IsNamed (Right l r) p = p ≡ (l, r)
IsNamed (Pair l r) p = p ≡ (l, r)
IsNamed (Both q s) p = (p ≡ q) ⊎ (p ≡ s)

-- The number of overwritten pairs that the answer names.
abbrev pub named_count : {L R : Type 0} → Overwritten L R → ℕ
named_count Neither = 0
named_count (Left l r) = 1
named_count (Right l r) = 1
named_count (Pair l r) = 1
named_count (Both q s) = 2

-- The answer names two overwritten pairs.
abbrev pub IsBoth : {L R : Type 0} → Overwritten L R → Type 0
IsBoth (Both q s) = Unit {0}
IsBoth answer = ⊥

module _ {L R : Type 0} (same_left : L → L → Bool) (same_right : R → R → Bool) where
  -- `p` is the only member of S that shares a value with `new`.
  pub record IsOnlyStruck (S : L × R → Type 0) (new p : L × R) : Type 0 where
    pub member : S p
    pub only : (q : L × R) → S q → shares same_left same_right q new ≡ true → q ≡ p

  -- `p` and `q` are two members of S, and the only ones that share a value with `new`. `p` has its left, and `q` has its right.
  pub record AreBothStruck (S : L × R → Type 0) (new p q : L × R) : Type 0 where
    pub first : S p
    pub second : S q
    pub two : p ≢ q
    pub by_left : same_left p.0 new.0 ≡ true
    pub by_right : same_right q.1 new.1 ≡ true
    pub only : (s : L × R) → S s → shares same_left same_right s new ≡ true → (s ≡ p) ⊎ (s ≡ q)

  -- The answer names exactly the members of S that share a value with `new`, with the values that they have. It says which of the
  -- values each of them shares.
  abbrev pub IsAnswer : (L × R → Type 0) → L × R → Overwritten L R → Type 0
  IsAnswer S new Neither = NoneShares same_left same_right S new
  IsAnswer S new (Left l r) = IsOnlyStruck S new (l, r) × (same_left l new.0 ≡ true) × (same_right r new.1 ≡ false)
  IsAnswer S new (Right l r) = IsOnlyStruck S new (l, r) × (same_left l new.0 ≡ false) × (same_right r new.1 ≡ true)
  IsAnswer S new (Pair l r) = IsOnlyStruck S new (l, r) × (same_left l new.0 ≡ true) × (same_right r new.1 ≡ true)
  IsAnswer S new (Both p q) = AreBothStruck S new p q

  -- Why `insert_no_overwrite` refused a pair, which it hands back. Either the bimap contains a value of the pair, or it contains
  -- neither value and no place was free.
  abbrev pub IsRefusal : (L × R → Type 0) → Type 0 → L × R → NotInserted L R → Type 0
  IsRefusal S NoPlace new (Occupied l r) = ((l, r) ≡ new) × SomeShares same_left same_right S new
  IsRefusal S NoPlace new (Memory l r) = ((l, r) ≡ new) × NoneShares same_left same_right S new × NoPlace

  -- The bimap contains no value of the pair that the policy refuses to overwrite.
  pub record IsAllowed (S : L × R → Type 0) (new : L × R) (policy : Policy) : Type 0 where
    pub left : policy.left ≡ Refuse → LacksLeft same_left S new.0
    pub right : policy.right ≡ Refuse → LacksRight same_right S new.1

  -- Why `insert_with` refused a pair, which it hands back. The left is looked up first.
  abbrev pub IsRefusalUnder : (L × R → Type 0) → Type 0 → L × R → Policy → NotInsertedWith L R → Type 0
  IsRefusalUnder S NoPlace new policy (LeftHeld l r) = ((l, r) ≡ new) × (policy.left ≡ Refuse) × HasLeft same_left S new.0
  IsRefusalUnder S NoPlace new policy (RightHeld l r) =
      ((l, r) ≡ new) × (policy.left ≡ Refuse → LacksLeft same_left S new.0) × (policy.right ≡ Refuse) × HasRight same_right S new.1
  IsRefusalUnder S NoPlace new policy (MemoryWith l r) = ((l, r) ≡ new) × NoneShares same_left same_right S new × NoPlace
