-- A pair that replaces another pair.
use Rattle.std.proofs.Common.{◌≡◌, ◌↔◌, ◌⊎◌, ◌+◌, ◌≤◌, inl, inr, Bool, true, false, List, length, refl, sym, subst, ◌∙◌, arith, true≢false}
use Rattle.std.specs.Prelude.{Contains, not, Ok, Err}
use Rattle.std.specs.Cmp.{IsEquivalence}
use Rattle.std.proofs.lemmas.Bool.{or_left, or_right, or_from, false_from_ne_true}
use Rattle.bimap_base.specs.Sets.{IsApart, NoneShares, IsWithPut, LacksLeft, LacksRight}
use Rattle.bimap_any.specs.Exchange.{IsWithoutPair, IsExchanged, LacksPart, IsReplacement}
use Rattle.bimap_base.specs.Holding.{Holding, IsInsertion}
use Rattle.bimap_base.specs.declared.overwritten.Overwritten.{Overwritten}
use Rattle.bimap_base.specs.declared.refusal.NotReplaced.TheVariants.{Missing}
use Rattle.bimap_base.proofs.Apart.{apart_unique}
use Rattle.bimap_base.proofs.Counts.{none_named}

true_from_not : (b : Bool) → false ≡ not b → b ≡ true
true_from_not true e = refl
true_from_not false e = absurd (true≢false (sym e))

module _ {L R : Type 0} (same_left : L → L → Bool) (same_right : R → R → Bool) (lefts : IsEquivalence same_left) (rights : IsEquivalence same_right) (A B : List (L × R)) (p : L × R) (apart : IsApart same_left same_right A) (r : IsWithoutPair A p B) where
  -- None of the other pairs has the value that stays or the new value.
  pub none_shares_left : (to : L) → LacksLeft same_left (Contains B) to → NoneShares same_left same_right (Contains B) (to, p.1)
  none_shares_left to lacks q m =
      let w = (r.without q).0 m in
      or_from (same_left q.0 to) (same_right q.1 p.1) (lacks q m) (false_from_ne_true (same_right q.1 p.1) (λ e. w.1 (apart_unique same_left same_right lefts rights A q p apart w.0 r.member (or_right (same_left q.0 p.0) (same_right q.1 p.1) e))))

  pub none_shares_right : (to : R) → LacksRight same_right (Contains B) to → NoneShares same_left same_right (Contains B) (p.0, to)
  none_shares_right to lacks q m =
      let w = (r.without q).0 m in
      or_from (same_left q.0 p.0) (same_right q.1 to) (false_from_ne_true (same_left q.0 p.0) (λ e. w.1 (apart_unique same_left same_right lefts rights A q p apart w.0 r.member (or_left (same_left q.0 p.0) (same_right q.1 p.1) e)))) (lacks q m)

  pub exchanging : (other : L × R) (T : L × R → Type 0) → NoneShares same_left same_right (Contains B) other → IsWithPut same_left same_right (Contains B) other T → IsExchanged (Contains A) p other T
  exchanging other T none put = record {
    member = r.member;
    exchanged = λ q. (
      λ n. elim ((put q).0 n) [ inl e ↦ inl e | inr w ↦ inr ((r.without q).0 w.0) ],
      λ n. (put q).1 (elim n [
        | inl e ↦ inl e
        | inr w ↦ let m = (r.without q).1 w in inr (m, none q m)
      ]),
    );
  }

module _ {L R : Type 0} (same_left : L → L → Bool) (same_right : R → R → Bool) (lefts : IsEquivalence same_left) (rights : IsEquivalence same_right) (old held new : Holding L R) (apart : IsApart same_left same_right old.pairs) (fits : length old.pairs ≤ old.room) (answer : Overwritten L R) where
  -- One pair was removed, and another was inserted. The other pair shares no value with the rest.
  placed : (p other : L × R) → IsWithoutPair old.pairs p held.pairs → NoneShares same_left same_right (Contains held.pairs) other → length held.pairs + 1 ≡ length old.pairs → held.room ≡ old.room → IsInsertion same_left same_right held other (Ok answer) new
      → IsExchanged (Contains old.pairs) p other (Contains new.pairs) × (length new.pairs ≡ length old.pairs) × (new.room ≡ old.room)
  placed p other r none count room i = (
    exchanging same_left same_right lefts rights old.pairs held.pairs p apart r other (Contains new.pairs) none i.put,
    (let named = none_named same_left same_right (Contains held.pairs) other answer none i.answer in omega (arith, named, i.count, count)),
    i.room.had_place (omega (arith, count, fits, room)) ∙ room,
  )

-- One proof for both sides. `part` is the side, `rest` is the other side, and `pair` makes a pair of the two.
module _ {L R K M : Type 0} (part : L × R → K) (rest : L × R → M) (pair : K → M → L × R) (same : K → K → Bool) where
  -- Nothing changes if no pair has the value.
  pub missing : (held : Holding L R) (from to : K) → LacksPart part pair same (Contains held.pairs) from → IsReplacement part pair same held from to (Err (Missing to)) held
  missing held from to lacks = record { replaced = tt; refused = (refl, lacks); unchanged = refl; count = refl; room = refl }

  module _ (same_left : L → L → Bool) (same_right : R → R → Bool) (lefts : IsEquivalence same_left) (rights : IsEquivalence same_right) (equal : IsEquivalence same)
      (removing : (A : List (L × R)) (p : L × R) (B : List (L × R)) → IsApart same_left same_right A → (k : K) → Contains A p → same (part p) k ≡ true → ((q : L × R) → Contains B q ↔ (Contains A q × (same (part q) k ≡ false))) → IsWithoutPair A p B)
      (none_shares : (A B : List (L × R)) (p : L × R) → IsApart same_left same_right A → IsWithoutPair A p B → (to : K) → LacksPart part pair same (Contains B) to → NoneShares same_left same_right (Contains B) (pair to (rest p))) where
    pub replaced : (old held new : Holding L R) → IsApart same_left same_right old.pairs → length old.pairs ≤ old.room → (answer : Overwritten L R) (from to : K) (p : L × R) → p ≡ pair (part p) (rest p)
        → Contains old.pairs p × (same (part p) from ≡ true) → ((q : L × R) → Contains held.pairs q ↔ (Contains old.pairs q × (same (part q) from ≡ false))) → length held.pairs + 1 ≡ length old.pairs → held.room ≡ old.room
        → LacksPart part pair same (Contains old.pairs) to ⊎ (false ≡ not (same to from)) → IsInsertion same_left same_right held (pair to (rest p)) (Ok answer) new → IsReplacement part pair same old from to (Ok (part p)) new
    replaced old held new apart fits answer from to p whole removed without count room free i =
        let lacks : LacksPart part pair same (Contains held.pairs) to = elim free [
          | inl none ↦ λ q m. none q ((without q).0 m).0
          | inr e ↦ λ q m. equal.symm (part q) to ∙ equal.congr to from (part q) (true_from_not (same to from) e) ∙ equal.symm from (part q) ∙ ((without q).0 m).1
        ] in
        let taken = removing old.pairs p held.pairs apart from removed.0 removed.1 without in
        let w = placed same_left same_right lefts rights old held new apart fits answer p (pair to (rest p)) taken (none_shares old.pairs held.pairs p apart taken to lacks) count room i in
        record {
          replaced = record { other = rest p; by_part = removed.1; exchanged = subst (λ z. IsExchanged (Contains old.pairs) z (pair to (rest p)) (Contains new.pairs)) whole w.0 };
          refused = tt;
          unchanged = tt;
          count = w.1;
          room = w.2;
        }
