-- The test of `Retain`, which is a closure without a state.
use Rattle.std.specs.Prelude.{◌≡◌, ◌⊎◌, Bool, List, Contains}
use denote.Param.Members.{Shared}
use denote.Ref.{Bor}
use Rattle.bimap_base.specs.declared.policy.Policy.{Policy}
use Rattle.bimap.specs.declared.call.Call.{Call}
use Rattle.bimap.specs.declared.call.Call.TheVariants.{Insert, InsertNoOverwrite, InsertWith, Retain}

-- One of the calls inserts this pair, or tries to.
abbrev pub IsHandedIn : {L R K : Type 0} → List (Call L R K) → L × R → Type 0
IsHandedIn calls p =
    Contains calls (Insert p.0 p.1)
    ⊎ (Contains calls (InsertNoOverwrite p.0 p.1) ⊎ ((policy : Policy) × Contains calls (InsertWith p.0 p.1 policy)))

module _ {F K L R : Type 0} (g : Shared F (Bor K × (Bor L × (Bor R × Unit {0}))) Bool) (test : F) where
  -- The test may return `b` on this key and this pair.
  pub record Answers (k : K) (p : L × R) (b : Bool) : Type 0 where
    pub key : Bor K
    pub left : Bor L
    pub right : Bor R
    pub shows_key : key.now ≡ k
    pub shows_left : left.now ≡ p.0
    pub shows_right : right.now ≡ p.1
    pub returns : g.post test (key, (left, (right, tt))) b

  -- The test may be called on this key and this pair, and always returns the same result there.
  pub record IsDecided (k : K) (p : L × R) : Type 0 where
    pub callable : (key : Bor K) (left : Bor L) (right : Bor R) → key.now ≡ k → left.now ≡ p.0 → right.now ≡ p.1 → g.pre test (key, (left, (right, tt)))
    pub one_answer : (a b : Bool) → Answers k p a → Answers k p b → a ≡ b

  -- The test is decided for each key of a `Retain`, and for each pair that was contained at first or is inserted by a
  -- call.
  abbrev pub IsTestOf : List (L × R) → List (Call L R K) → Type 0
  IsTestOf held calls = (k : K) (p : L × R) → Contains calls (Retain k) → Contains held p ⊎ IsHandedIn calls p → IsDecided k p
