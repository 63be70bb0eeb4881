-- Which pairs `retain` keeps. The state of its closure may change from call to call.
use Rattle.std.specs.Prelude.{◌≡◌, ◌↔◌, Bool, true, false, List, [], ◌∷◌, ◌++◌, Contains, IsPermutation}
use denote.Param.Members.{Mut, Called}
use denote.Ref.{Bor}

-- A call of `f` with the two values of `p` may return `a`, and leave the closure as `f'`.
pub record TestedAt {F L R A : Type 0} (g : Mut F (Bor L × (Bor R × Unit {0})) A) (f : F) (p : L × R) (a : A) (f' : F) : Type 0 where
  pub left : Bor L
  pub right : Bor R
  pub shows_left : left.now ≡ p.0
  pub shows_right : right.now ≡ p.1
  pub called : Called g f (left, (right, tt)) a f'

-- `f` may be called with the two values of `p`.
abbrev pub MayTestPair : {F L R A : Type 0} → Mut F (Bor L × (Bor R × Unit {0})) A → F → L × R → Type 0
MayTestPair {F} {L} {R} {A} g f p = (left : Bor L) (right : Bor R) → left.now ≡ p.0 → right.now ≡ p.1 → g.pre f (left, (right, tt))

module _ {F L R : Type 0} (g : Mut F (Bor L × (Bor R × Unit {0})) Bool) where
  -- `f` was called with each pair of the list in order, and returned these results. Each call began in the state that the call
  -- before it left.
  abbrev pub TestsInOrder : F → List (L × R) → List Bool → F → Type 0
  TestsInOrder f [] [] last = f ≡ last
  TestsInOrder f [] (b ∷ bs) last = ⊥
  TestsInOrder f (p ∷ ps) [] last = ⊥
  TestsInOrder f (p ∷ ps) (b ∷ bs) last = (next : F) × TestedAt g f p b next × TestsInOrder next ps bs last

  -- `f` may be called once with each pair of the bimap, in any order.
  pub record MayTest (f : F) (held : List (L × R)) : Type 0 where
    pub at : (ps : List (L × R)) (bs : List Bool) (later : F) (left : Bor L) (right : Bor R) (rest : List (L × R)) → IsPermutation held (ps ++ (left.now, right.now) ∷ rest) → TestsInOrder f ps bs later → g.pre later (left, (right, tt))

  -- `f` may be called once with each pair of the list, in the order of the list.
  pub record MayTestInOrder (f : F) (pairs : List (L × R)) : Type 0 where
    pub at : (ps : List (L × R)) (bs : List Bool) (later : F) (left : Bor L) (right : Bor R) (rest : List (L × R)) → pairs ≡ ps ++ (left.now, right.now) ∷ rest → TestsInOrder f ps bs later → g.pre later (left, (right, tt))

  -- The pairs of the list for which the result was true.
  abbrev pub answered_true : List (L × R) → List Bool → List (L × R)
  answered_true [] bs = []
  answered_true (p ∷ ps) [] = []
  answered_true (p ∷ ps) (true ∷ bs) = p ∷ answered_true ps bs
  answered_true (p ∷ ps) (false ∷ bs) = answered_true ps bs

  -- `f` was called once with each pair of the bimap, in some order. The pairs for which it returned true are left.
  pub record IsKept (f : F) (held left : List (L × R)) : Type 0 where
    pub order : List (L × R)
    pub answers : List Bool
    pub last : F
    pub each_once : IsPermutation held order
    pub calls : TestsInOrder f order answers last
    pub kept : (q : L × R) → Contains left q ↔ Contains (answered_true order answers) q

  -- `f` was called once with each pair of the bimap, in their order. The pairs for which it returned true are left, in the same
  -- order.
  pub record IsKeptInOrder (f : F) (held left : List (L × R)) : Type 0 where
    pub answers : List Bool
    pub last : F
    pub calls : TestsInOrder f held answers last
    pub kept : left ≡ answered_true held answers
