-- The height of a balanced tree.
use Rattle.std.proofs.Common.{ℕ, zero, suc, ◌+◌, ◌*◌, ◌^◌, ◌≤◌, ◌<◌, arith, inl, inr}
use Rattle.std.proofs.lemmas.Bool.Decides.{leb_tells}
use Rattle.std.proofs.Math.Nat.{pow-suc}
use Rattle.std.proofs.lemmas.Nat.{pow_pos}
use Rattle.bimap_tree.specs.Tree.{Tree, leaf, fork, height, size, IsBalanced}
use Rattle.bimap_base.specs.Digits.{bits, most_height}
use Rattle.bimap_base.proofs.Digits.{bits-enough, bits_mono}

-- A tree has at most as many levels as places.
pub height_below_size : (t : Tree) → height t ≤ size t
height_below_size leaf = omega arith
height_below_size (fork l p r) = omega (arith, height_below_size l, height_below_size r)

-- A balanced tree of height 2 k - 1 or more has at least 2 ^ k - 1 places.
pub many_places : (t : Tree) → IsBalanced t → (k : ℕ) → 2 * k ≤ height t + 1 → 2 ^ k ≤ size t + 1
many_places leaf b zero le = omega (arith, pow_pos 0)
many_places leaf b (suc k) le = absurd (omega arith)
many_places (fork l p r) b zero le = omega (arith, pow_pos 0)
many_places (fork l p r) b (suc k) le =
    omega (arith, pow-suc 2 k, many_places l b.2 k (omega arith), many_places r b.3 k (omega arith))

-- A balanced tree of n places has at most twice as many levels as n has binary digits.
pub height-bound : (t : Tree) → IsBalanced t → height t ≤ 2 * bits (size t)
height-bound t b =
    elim (leb_tells (height t) (2 * bits (size t))) [
      | inl w ↦ w.1
      | inr w ↦ absurd (omega (arith, pow-suc 2 (bits (size t)), bits-enough (size t), many_places t b (suc (bits (size t))) (omega arith), pow_pos (bits (size t))))
    ]

-- A balanced tree of height 2 k or more has at least 2 ^ k places, if k is not 0.
many_even : (t : Tree) → IsBalanced t → (k : ℕ) → 2 * suc k ≤ height t → 2 ^ suc k ≤ size t
many_even leaf b k le = absurd (omega (arith, le))
many_even (fork l p r) b zero le = omega (arith, pow-suc 2 0, height_below_size (fork l p r))
many_even (fork l p r) b (suc k) le = omega (arith, pow-suc 2 (suc k), many_even l b.2 k (omega arith), many_even r b.3 k (omega arith))

too_few : (t : Tree) → IsBalanced t → (k : ℕ) → 0 < size t → size t < 2 ^ k → 2 * k ≤ height t → ⊥
too_few t b zero some few tall = absurd (omega (arith, some, few, pow_pos 0))
too_few t b (suc k) some few tall = absurd (omega (arith, few, many_even t b k tall))

-- A balanced tree with a place therefore has fewer levels than twice the number of these digits.
pub below_bound : (t : Tree) → IsBalanced t → 0 < size t → height t + 1 ≤ 2 * bits (size t)
below_bound t b some =
    elim (leb_tells (height t + 1) (2 * bits (size t))) [
      | inl w ↦ w.1
      | inr w ↦ absurd (too_few t b (bits (size t)) some (bits-enough (size t)) (omega arith))
    ]

-- The number of levels is also at most twice the number of digits of any number that is not smaller.
pub low : (t : Tree) → IsBalanced t → (n : ℕ) → size t ≤ n → height t ≤ most_height n
low t b n le = omega (arith, height-bound t b, bits_mono (size t) n le)

-- A balanced tree of this many levels has at least this many places.
abbrev HasPlaces : ℕ → ℕ → Type 0
HasPlaces levels n = (t : Tree) → IsBalanced t → levels ≤ height t → n ≤ size t

two_levels_on : (levels m n : ℕ) → HasPlaces levels m → HasPlaces (levels + 1) n → HasPlaces (levels + 2) (m + n + 1)
two_levels_on levels m n first next leaf b le = absurd (omega arith)
two_levels_on levels m n first next (fork l p r) b le =
    elim (leb_tells (levels + 1) (height l)) [
      | inl w ↦ omega (arith, next l b.2 w.1, first r b.3 (omega arith))
      | inr w ↦ omega (arith, first l b.2 (omega arith), next r b.3 (omega arith))
    ]

-- The sequence m, n, m + n + 1 and so on. Each number is one more than the sum of the two before it.
abbrev after : ℕ → ℕ → ℕ → ℕ
after zero m n = m
after (suc more) m n = after more n (m + n + 1)

levels_on : (more levels m n : ℕ) → HasPlaces levels m → HasPlaces (levels + 1) n → HasPlaces (levels + more) (after more m n)
levels_on zero levels m n first next t b le = first t b (omega arith)
levels_on (suc more) levels m n first next t b le =
    levels_on more (levels + 1) n (m + n + 1) next (λ u c h. two_levels_on levels m n first next u c (omega arith)) t b (omega arith)

-- A balanced tree with fewer than 2 ^ 64 places has at most 91 levels.
pub few_levels : (t : Tree) → IsBalanced t → size t < 2 ^ 64 → height t ≤ 91
few_levels t b few =
    elim (leb_tells (height t) 91) [
      | inl w ↦ w.1
      | inr w ↦ absurd (omega (arith, levels_on 92 0 0 1 (λ u c h. omega arith) (λ u c h. omega (arith, height_below_size u)) t b (omega arith)))
    ]
