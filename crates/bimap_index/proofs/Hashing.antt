-- What a look-up in a hashed index finds.
use Rattle.std.proofs.Common.{◌≡◌, ℕ, Bool, true, false, List, Option, Some, None, refl, sym, ap, subst, ◌∙◌}
use Rattle.std.specs.Prelude.{IfSome, IfNone, IsSomeAnd, IsTrue, option_map}
use Rattle.bimap_chain.specs.Chains.{Matches}
use Rattle.bimap_index.specs.ByHash.{ListsByHash}
use Rattle.bimap_index.specs.Listed.{IsFound}

module _ {K : Type 0} (same : K → K → Bool) (number : K → ℕ) (test : K → Bool) (respects : (x y : K) → test x ≡ true → test y ≡ same y x)
    (numbers : List (Option ℕ)) (f : ℕ → Option K) (listing : ListsByHash same number numbers f) where
  a_key : (o : Option K) → IsSomeAnd o (λ k. IsTrue (test k)) → (k : K) × (o ≡ Some k) × (test k ≡ true)
  a_key None h = absurd h
  a_key (Some k) h = (k, refl, h)

  untold : (place : ℕ) (k : K) → f place ≡ Some k → (Matches f test numbers place → ⊥) → test k ≡ false
  untold place k is none = by (test k) refl
    where
      by : (b : Bool) → test k ≡ b → test k ≡ false
      by true e = absurd (none ((number k, listing.numbered place ∙ ap (option_map number) is), subst (λ o. IsSomeAnd o (λ k. IsTrue (test k))) (sym is) e))
      by false e = e

  pub found_by_hash : (r : Option ℕ) → IfSome r (Matches f test numbers) → IfNone r ((p : ℕ) → Matches f test numbers p → ⊥) → IsFound f test r
  found_by_hash None found none = record { here = tt; elsewhere = λ place k away is. untold place k is (none place) }
  found_by_hash (Some p) found none =
      let (l, has, e) = a_key (f p) found.1 in
      record {
        here = subst (λ z. IsSomeAnd z (λ k. test k ≡ true)) (sym has) e;
        elsewhere = λ place k away is. respects l k e ∙ listing.apart place p k l (λ at. away (ap Some (sym at))) is has;
      }
