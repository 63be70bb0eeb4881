-- What is written of the pairs of a list.
use Rattle.std.proofs.Common.{◌≡◌, ◌↔◌, ◌⊎◌, inl, inr, ℕ, Bool, true, false, List, [], ◌∷◌, ◌++◌, refl, sym, ap, subst, ◌∙◌, true≢false}
use Rattle.std.specs.Prelude.{Contains}
use Rattle.std.specs.Cmp.{IsEquivalence}
use Rattle.std.proofs.lemmas.Bool.{or_left}
use Rattle.std.proofs.lemmas.List.Elements.{Contains-push_cases, Contains-append_right}
use denote.Ref.{Bor}
use Rattle.serde_json.specs.Data.{Data, Members, put}
use Rattle.bimap_base.specs.Sets.{shares, IsApart}
use Rattle.bimap_base.proofs.Apart.{apart_head, apart_tail}
use Rattle.bimap_base.proofs.Members.{head_in, cases_in, more_in, none_in}
use Rattle.bimap_any.proofs.Survivors.{survivors_push}
use Rattle.bimap.specs.JsonReading.{ReadsBack}
use Rattle.bimap.specs.JsonObjects.{Entry, entries_of, Ascends, IsWrittenAs, TakesKey, IsEntryOf, IsLastEntryOf, EachReadsBack, shown_pairs}
use Rattle.bimap.proofs.JsonEntries.{put_entries}

pub shown_push : {L R : Type 0} (xs : List (Bor L × Bor R)) (left : Bor L) (right : Bor R) → shown_pairs (xs ++ (left, right) ∷ []) ≡ shown_pairs xs ++ (left.now, right.now) ∷ []
shown_push [] left right = refl
shown_push (x ∷ xs) left right = ap (λ ps. (x.0.now, x.1.now) ∷ ps) (shown_push xs left right)

-- A member of a list splits it.
pub record IsSplit {X : Type 0} (xs : List X) (x : X) : Type 0 where
  pub before : List X
  pub later : List X
  pub is : xs ≡ before ++ x ∷ later

pub split_member : {X : Type 0} (xs : List X) (x : X) → Contains xs x → IsSplit xs x
split_member [] x c = none_in x c
split_member (y ∷ ys) x c =
    elim (cases_in y ys x c) [
      | inl same ↦ record { before = []; later = ys; is = ap (λ z. z ∷ ys) same }
      | inr later ↦ let s = split_member ys x later in record { before = y ∷ s.before; later = s.later; is = ap (λ zs. y ∷ zs) s.is }
    ]

pub middle_in : {X : Type 0} (before : List X) (x : X) (later : List X) → Contains (before ++ x ∷ later) x
middle_in before x later = Contains-append_right before (x ∷ later) x (head_in x later)

module _ {L R X : Type 0} (key : L → X) (val : R → Data) (reads_key : X → L → Type 0) (reads : Data → R → Type 0) (same_left : L → L → Bool) (same_right : R → R → Bool) where
  pub each_push : (ps : List (L × R)) (p : L × R) → EachReadsBack key val reads_key reads same_left same_right ps → ReadsBack same_left (reads_key (key p.0)) p.0 → ReadsBack same_right (reads (val p.1)) p.1 → EachReadsBack key val reads_key reads same_left same_right (ps ++ p ∷ [])
  each_push ps p each left right q c =
      elim (Contains-push_cases ps p q c) [
        | inl old ↦ each q old
        | inr same ↦ subst (λ r. ReadsBack same_left (reads_key (key r.0)) r.0 × ReadsBack same_right (reads (val r.1)) r.1) same (left, right)
      ]

module _ {L R : Type 0} (key : L → List ℕ) (val : R → Data) where
  -- The entries after one more pair was written.
  pub entries_push : (ps : List (L × R)) (p : L × R) (old new : Members) → new ≡ put (key p.0) (val p.1) old → Ascends (entries_of old) → Ascends (entries_of new) → ((e : Entry) → Contains (entries_of old) e ↔ IsLastEntryOf key val ps e) → (e : Entry) → Contains (entries_of new) e ↔ IsLastEntryOf key val (ps ++ p ∷ []) e
  entries_push ps p old new is up after are =
      survivors_push (IsWrittenAs key val) (TakesKey key val) (λ e. ⊥) (Contains (entries_of old)) (Contains (entries_of new)) ps p are
      (subst (λ ms. (e : Entry) → Contains (entries_of ms) e ↔ ((e ≡ (key p.0, val p.1)) ⊎ (Contains (entries_of old) e × (e.0 ≡ key p.0 → ⊥)))) (sym is) (put_entries (key p.0) (val p.1) old up (subst (λ ms. Ascends (entries_of ms)) is after)))

  -- No two pairs that share no value are written under the same key.

  module _ (same_left : L → L → Bool) (same_right : R → R → Bool) (laws : IsEquivalence same_left) (reads_key : List ℕ → L → Type 0) (reads : Data → R → Type 0) where
    pub same_key : (p q : L × R) → ReadsBack same_left (reads_key (key p.0)) p.0 → ReadsBack same_left (reads_key (key q.0)) q.0 → key p.0 ≡ key q.0 → same_left p.0 q.0 ≡ true
    same_key p q a b e =
        let k = a.as_value in
        sym (laws.congr k p.0 q.0 (a.only k a.reads)) ∙ b.only k (subst (λ t. reads_key t k) e a.reads)

    apart_later : (before : List (L × R)) (p : L × R) (later : List (L × R)) → IsApart same_left same_right (before ++ p ∷ later) → (q : L × R) → Contains later q → shares same_left same_right p q ≡ false
    apart_later [] p later apart = apart_head same_left same_right p later apart
    apart_later (r ∷ before) p later apart = apart_later before p later (apart_tail same_left same_right r (before ++ p ∷ later) apart)

    pub exactly_written : (ps : List (L × R)) → IsApart same_left same_right ps → EachReadsBack key val reads_key reads same_left same_right ps → (e : Entry) → IsLastEntryOf key val ps e ↔ IsEntryOf key val (Contains ps) e
    exactly_written ps apart each e = (to, from)
      where
        to : IsLastEntryOf key val ps e → IsEntryOf key val (Contains ps) e
        to (inl s) = absurd s.0
        to (inr s) = (s.entry, subst (λ l. Contains l s.entry) (sym s.split) (middle_in s.before s.entry s.later), s.puts)

        from : IsEntryOf key val (Contains ps) e → IsLastEntryOf key val ps e
        from w = inr (record { before = s.before; entry = p; later = s.later; split = s.is; puts = w.2; untouched = none })
          where
            p : L × R
            p = w.0

            s : IsSplit ps p
            s = split_member ps p w.1

            none : (q : L × R) → Contains s.later q → TakesKey key val q e → ⊥
            none q c t =
                let inside : Contains ps q = subst (λ l. Contains l q) (sym s.is) (Contains-append_right s.before (p ∷ s.later) q (more_in p s.later q c)) in
                let one : same_left p.0 q.0 ≡ true = same_key p q (each p w.1).0 (each q inside).0 (sym (ap (λ x. x.0) w.2) ∙ t) in
                true≢false (sym (or_left _ (same_right p.1 q.1) one) ∙ apart_later s.before p s.later (subst (IsApart same_left same_right) s.is apart) q c)
