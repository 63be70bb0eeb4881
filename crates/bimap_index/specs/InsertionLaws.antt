-- Why the laws of an index are true of one in insertion order.
use Rattle.std.specs.Prelude.{◌≡◌, ℕ, Bool, List, Option, Some, None, is_some}
use Rattle.std.proofs.Common.{refl, sym, ◌∙◌}
use Rattle.std.proofs.Math.Logic.{∥∥₁_elim, ∥∥₁_map}
use Rattle.std.proofs.Props.{props}
use Rattle.bimap_index.specs.Listed.{IsAlike}
use Rattle.bimap_index.specs.ByInsertion.{ListsByInsertion}
use Rattle.bimap_index.specs.OrderLaws.{contains_from}

module _ {X K : Type 0} (same : K → K → Bool) (IsListing : X → (ℕ → Option K) → Type 0) where
  as_some : (o p : Option K) → IsAlike same o p → is_some o ≡ is_some p
  as_some None None a = refl
  as_some None (Some l) a = absurd a
  as_some (Some k) None a = absurd a
  as_some (Some k) (Some l) a = refl

  -- The same places are listed after keys are exchanged for equal ones.
  pub insertion_respects : ((index : X) (f g : ℕ → Option K) → ((p : ℕ) → IsAlike same (f p) (g p)) → IsListing index f → IsListing index g) → (index : X) (places : List ℕ) (f g : ℕ → Option K) → ((p : ℕ) → IsAlike same (f p) (g p)) → ListsByInsertion IsListing index places f → ListsByInsertion IsListing index places g
  insertion_respects respects index places f g alike listing =
      record {
        found = respects index f g alike listing.found;
        lists = λ p. let e = as_some (f p) (g p) (alike p) in (λ c. sym e ∙ (listing.lists p).0 c, λ s. (listing.lists p).1 (e ∙ s));
        distinct = listing.distinct;
      }

  -- There is at most one proof that the index lists a side.
  pub insertion_settled : ((index : X) (f : ℕ → Option K) → ∥ IsListing index f ∥₁ → IsListing index f) → (index : X) (places : List ℕ) (f : ℕ → Option K) → ∥ ListsByInsertion IsListing index places f ∥₁ → ListsByInsertion IsListing index places f
  insertion_settled settled index places f h =
      record {
        found = settled index f (∥∥₁_map h (λ l. l.found));
        lists = λ p. (λ c. ∥∥₁_elim h (hlevel props) (λ l. (l.lists p).0 c), λ s. contains_from places p (∥∥₁_map h (λ l. (l.lists p).1 s)));
        distinct = λ i j d before inside e. ∥∥₁_elim h (λ a _. absurd a) (λ l. l.distinct i j d before inside e);
      }
