-- The number of binary digits of a number.
use Rattle.std.specs.Prelude.{ℕ, zero, suc, ◌+◌, ◌*◌, ◌^◌, cond, leb}

-- The first of k, k + 1 and so on whose power of two is above n. At most `tries` numbers are tried.
unfoldable pub bits_from : ℕ → ℕ → ℕ → ℕ
bits_from zero k n = k
bits_from (suc tries) k n = cond (leb (2 ^ k) n) (bits_from tries (k + 1) n) k

-- The least k with n < 2 ^ k. It is the number of binary digits of n.
unfoldable pub bits : ℕ → ℕ
bits n = bits_from n 0 n

-- An upper bound on the height of a balanced tree of n places. A search down such a tree takes at most this many comparisons.
-- The greatest height may be less.
abbrev pub most_height : ℕ → ℕ
most_height n = 2 * bits n
