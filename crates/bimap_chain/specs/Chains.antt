-- Places listed under hash numbers, and the chains that link the places.
use Rattle.std.specs.Prelude.{◌≡◌, ℕ, zero, suc, ◌+◌, ◌%◌, ◌<◌, ◌≤◌, Bool, true, false, List, length, Option, None, Some, slice_index_or, ◌==◌, if◌then◌else◌, IsSomeAnd, IsTrue, slice_set}
use Rattle.std.specs.Option.{MatchOption}

-- Has an entry for each place. The entry is the hash number under which the place is listed, or `None` if it is not listed.
abbrev pub Numbers : Type 0
Numbers = List (Option ℕ)

-- The number under which a place is listed, or `None`.
abbrev pub number_at : Numbers → ℕ → Option ℕ
number_at numbers place = slice_index_or numbers place None

-- The place is listed under some number.
abbrev pub IsListed : Numbers → ℕ → Type 0
IsListed numbers place = (number : ℕ) × (number_at numbers place ≡ Some number)

-- Whether a place with this number is in the bucket, if there are `buckets` buckets. A place without a number is in no bucket.
abbrev pub is_of : ℕ → ℕ → Option ℕ → Bool
is_of buckets bucket None = false
is_of buckets bucket (Some number) = number % buckets == bucket

-- The greatest place below the end that is listed and in the bucket, or `None`. Along a chain the places get lower.
unfoldable pub last_below : Numbers → ℕ → ℕ → ℕ → Option ℕ
last_below numbers buckets bucket zero = None
last_below numbers buckets bucket (suc place) =
    if is_of buckets bucket (number_at numbers place) then Some place else last_below numbers buckets bucket place

-- No listed place of the bucket is from `first` on and below `end`.
abbrev pub NoneWithin : Numbers → ℕ → ℕ → ℕ → ℕ → Type 0
NoneWithin numbers buckets bucket first end = (place : ℕ) → first ≤ place → place < end → is_of buckets bucket (number_at numbers place) ≡ false

-- Each chain begins at its head. It contains all listed places of its bucket in descending order.
pub record IsThreaded (numbers : Numbers) (links heads : List (Option ℕ)) : Type 0 where
  pub as_many_links : length links ≡ length numbers
  pub enough_heads : length numbers ≤ length heads
  pub heads_begin : (bucket : ℕ) → bucket < length heads → slice_index_or heads bucket None ≡ last_below numbers (length heads) bucket (length numbers)
  pub links_lead : (place number : ℕ) → number_at numbers place ≡ Some number → slice_index_or links place None ≡ last_below numbers (length heads) (number % length heads) place

-- `over` is the place just before `place` in the chain of the bucket. It is `None` if only the head is before `place`.
abbrev pub GoesOver : Numbers → ℕ → ℕ → ℕ → Option ℕ → Type 0
GoesOver numbers buckets bucket place over =
    MatchOption over (NoneWithin numbers buckets bucket (place + 1) (length numbers))
    (λ p. (place < p) × (p < length numbers) × (is_of buckets bucket (number_at numbers p) ≡ true) × NoneWithin numbers buckets bucket (place + 1) p)

-- The place that the link of a place leads to. If no place is given, it is the place that the head of the bucket leads to.
abbrev pub link_or_head : List (Option ℕ) → List (Option ℕ) → ℕ → Option ℕ → Option ℕ
link_or_head links heads bucket None = slice_index_or heads bucket None
link_or_head links heads bucket (Some p) = slice_index_or links p None

-- The link of the place `over` is written, or the head of the bucket if `over` is `None`. All else stays.
abbrev pub Links : ℕ → Option ℕ → Option ℕ → List (Option ℕ) → List (Option ℕ) → List (Option ℕ) → List (Option ℕ) → Type 0
Links bucket over to links heads links' heads' =
    MatchOption over ((links' ≡ links) × (heads' ≡ slice_set heads bucket to)) (λ p. (links' ≡ slice_set links p to) × (heads' ≡ heads))

-- Each listed place has a key, and is listed under the hash number of this key.
pub record AreNumbered {Key : Type 0} (key_at : ℕ → Option Key) (number_of : Key → ℕ) (numbers : Numbers) : Type 0 where
  pub numbered : (place number : ℕ) → number_at numbers place ≡ Some number → IsSomeAnd (key_at place) (λ key. number_of key ≡ number)

-- The place is listed, and its key passes the test.
abbrev pub Matches : {Key : Type 0} → (ℕ → Option Key) → (Key → Bool) → Numbers → ℕ → Type 0
Matches key_at test numbers place = IsListed numbers place × IsSomeAnd (key_at place) (λ key. IsTrue (test key))
