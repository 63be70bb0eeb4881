-- `bits n` is the least k with n < 2 ^ k.
use Rattle.std.proofs.Common.{◌≡◌, ℕ, zero, suc, ◌+◌, ◌^◌, ◌≤◌, ◌<◌, add-zero, zero-add, arith, inl, inr}
use Rattle.std.proofs.lemmas.Nat.{pow_pos}
use Rattle.std.proofs.Math.Pow.{pow_mono}
use Rattle.std.proofs.Math.Nat.{pow-suc}
use Rattle.std.proofs.lemmas.Bool.Decides.{leb_tells}
use Rattle.bimap_base.specs.Digits.{bits_from, bits}

-- Every number is less than two to its power.
pub below_power : (n : ℕ) → n < 2 ^ n
below_power zero = pow_pos 0
below_power (suc n) = omega (arith, below_power n, pow-suc 2 n)

bits_from-enough : (fuel k n : ℕ) → n < 2 ^ (k + fuel) → n < 2 ^ bits_from fuel k n
unfolding bits_from
bits_from-enough zero k n h = rw add-zero at h
bits_from-enough (suc fuel) k n h =
    elim (leb_tells (2 ^ k) n) [
      | inr w ↦ rw w.0 w.1
      | inl w ↦ rw w.0 (bits_from-enough fuel (k + 1) n (let e : k + suc fuel ≡ (k + 1) + fuel = omega arith in rw e at h))
    ]

power_cut : (k m n : ℕ) → 2 ^ k ≤ n → n < 2 ^ m → k + 1 ≤ m
power_cut k m n a b =
    elim (leb_tells (k + 1) m) [ inl w ↦ w.1 | inr w ↦ absurd (omega (arith, pow_mono {i = m} {j = k} (omega arith))) ]

bits_from-least : (fuel k n m : ℕ) → k ≤ m → n < 2 ^ m → bits_from fuel k n ≤ m
unfolding bits_from
bits_from-least zero k n m le h = le
bits_from-least (suc fuel) k n m le h =
    elim (leb_tells (2 ^ k) n) [
      | inr w ↦ rw w.0 le
      | inl w ↦ rw w.0 (bits_from-least fuel (k + 1) n m (power_cut k m n w.1 h) h)
    ]

pub bits-enough : (n : ℕ) → n < 2 ^ bits n
unfolding bits
bits-enough n = bits_from-enough n 0 n (rw zero-add (below_power n))

pub bits-least : (n m : ℕ) → n < 2 ^ m → bits n ≤ m
unfolding bits
bits-least n m h = bits_from-least n 0 n m (omega arith) h

-- A number that is not smaller has no fewer digits.
pub bits_mono : (m n : ℕ) → m ≤ n → bits m ≤ bits n
bits_mono m n le = bits-least m (bits n) (omega (arith, bits-enough n))
