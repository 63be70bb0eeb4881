-- Lists of places, compared with one key.
use Rattle.std.specs.Prelude.{◌≡◌, ◌⊎◌, ℕ, ◌+◌, cond, List, [], ◌∷◌, Option, Some, None}
use Rattle.std.specs.Ordering.{is_lt, is_eq}
use Rattle.std.specs.declared.cmp.Ordering.{Ordering}
use Rattle.std.specs.declared.cmp.Ordering.TheVariants.{Less, Equal, Greater}

-- How a place compares with the position just after the key, from how it compares with the key.
abbrev pub after_key : Ordering → Ordering
after_key Less = Less
after_key Equal = Less
after_key Greater = Greater

-- Each place of the list compares with the key in this way.
abbrev pub AllStand : (ℕ → Ordering) → Ordering → List ℕ → Type 0
AllStand go how [] = Unit {0}
AllStand go how (x ∷ xs) = (go x ≡ how) × AllStand go how xs

-- Each place that is not below the key has only places above the key after it.
abbrev pub IsSplit : (ℕ → Ordering) → List ℕ → Type 0
IsSplit go [] = Unit {0}
IsSplit go (x ∷ xs) = ((go x ≡ Less) ⊎ AllStand go Greater xs) × IsSplit go xs

-- The first place of the list whose key is equal.
abbrev pub first_equal : (ℕ → Ordering) → List ℕ → Option ℕ
first_equal go [] = None
first_equal go (x ∷ xs) = cond (is_eq (go x)) (Some x) (first_equal go xs)

-- The number of places in the list that are below the key.
abbrev pub count_below : (ℕ → Ordering) → List ℕ → ℕ
count_below go [] = 0
count_below go (x ∷ xs) = cond (is_lt (go x)) 1 0 + count_below go xs
