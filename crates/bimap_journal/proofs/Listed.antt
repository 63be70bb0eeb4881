-- A file that lists pairs stands for them.
use Rattle.std.proofs.Common.{◌≡◌, ◌≢◌, ◌⊎◌, ◌∙◌, inl, inr, ℕ, ◌+◌, ◌-◌, Bool, true, false, List, [], ◌∷◌, ◌++◌, length, sym, ap, subst, append_assoc, arith, true≢false, Vec, Global}
use Rattle.std.specs.Prelude.{Contains}
use Rattle.std.specs.List.{AllZip}
use Rattle.std.specs.Cmp.{IsEquivalence}
use Rattle.std.proofs.lemmas.Slice.Zip.{all_zipped_more}
use Rattle.std.proofs.lemmas.List.{length-append, append-nil}
use Rattle.std.proofs.lemmas.List.Elements.{Contains-push_cases, Contains-append_left, Contains-append_right, All-push}
use Rattle.serde_json.specs.Data.{Data}
use Rattle.bimap.specs.Sets.{shares, IsApart}
use Rattle.bimap_base.proofs.Apart.{apart_head, apart_tail}
use Rattle.bimap_base.proofs.Members.{head_in, cases_in, none_in}
use Rattle.bimap_journal.specs.declared.change.Change.TheVariants.{Insert}
use Rattle.bimap_journal.specs.declared.disk.Operation.TheVariants.{Replaced}
use Rattle.bimap_journal.specs.Calls.{Event, MayLeave, LeavesOnly}
use Rattle.bimap_journal.specs.Changes.{IsAfter, IsLineOf, AreKept, IsListOf, StandsFor}
use Rattle.bimap_journal.specs.Lines.{header, lines, closed, HasLines, IsAtRest, AreUnbroken}
use Rattle.bimap_journal.specs.State.{State, IsDurable, KeepsOneOf}
use Rattle.bimap_journal.proofs.Groups.{lines-append}
use Rattle.bimap_journal.proofs.Kept.{kept_none, kept_more}
use Rattle.bimap_journal.proofs.Moments.{leaves_now, leaves_more}
use Rattle.bimap_journal.proofs.Steps.{rest_stands}

module _ {L R : Type 0} (reads_left : Data → L → Type 0) (reads_right : Data → R → Type 0) (same_left : L → L → Bool) (same_right : R → R → Bool) where
  abbrev Kept : List (List ℕ) → (L × R → Type 0) → Type 0
  Kept = AreKept same_left same_right reads_left reads_right

  abbrev Inserts : List ℕ → L × R → Type 0
  Inserts text p = IsLineOf same_left same_right reads_left reads_right (Insert p.0 p.1) text

  abbrev Stands : (L × R → Type 0) → List ℕ → Type 0
  Stands = StandsFor same_left same_right reads_left reads_right

  -- The bytes are the first line and a line for each pair.
  pub record Lists (pairs : List (L × R)) (file : List ℕ) : Type 0 where
    pub texts : List (List ℕ)
    pub is : file ≡ header ++ lines texts
    pub unbroken : AreUnbroken texts
    pub each : AllZip Inserts texts pairs

  pub lists_none : (file : List ℕ) → file ≡ header → Lists [] file
  lists_none file is = record { texts = []; is = is; unbroken = λ k d inside. absurd (omega (arith, inside)); each = tt }

  pub lists_some : (pairs : List (L × R)) (file : List ℕ) → Lists pairs file → file ≢ []
  lists_some pairs file list none = let bad : [] ≡ header ++ lines list.texts = sym none ∙ list.is in absurd (cc)

  pub lists_push : (pairs : List (L × R)) (p : L × R) (text old new : List ℕ) → Lists pairs old → Inserts text p → ¬ Contains text 10 → new ≡ old ++ lines (text ∷ []) → Lists (pairs ++ p ∷ []) new
  lists_push pairs p text old new list inserts none is =
      record {
        texts = list.texts ++ text ∷ [];
        is = is ∙ ap (λ xs. xs ++ lines (text ∷ [])) list.is ∙ append_assoc header (lines list.texts) (lines (text ∷ [])) ∙ ap (λ xs. header ++ xs) (sym (lines-append list.texts (text ∷ [])));
        unbroken = All-push (λ t. ¬ Contains t 10) list.texts text list.unbroken none;
        each = all_zipped_more Inserts list.texts pairs text p list.each inserts;
      }

  pub listed : (pairs : List (L × R)) (old new : List ℕ) → Lists pairs old → new ≡ old ++ closed ∷ [] → IsListOf same_left same_right reads_left reads_right pairs new
  listed pairs old new list is = record { texts = list.texts; is = is ∙ ap (λ xs. xs ++ closed ∷ []) list.is; unbroken = list.unbroken; each = list.each }

  -- The pair behind others shares no value with them.
  apart_before : (done : List (L × R)) (p : L × R) (ps : List (L × R)) → IsApart same_left same_right (done ++ p ∷ ps) → (q : L × R) → Contains done q → shares same_left same_right q p ≡ false
  apart_before [] p ps apart q there = none_in q there
  apart_before (d ∷ done) p ps apart q there =
      elim (cases_in d done q there) [
        | inl same ↦ subst (λ z. shares same_left same_right z p ≡ false) same (apart_head same_left same_right d (done ++ p ∷ ps) apart p (Contains-append_right done (p ∷ ps) p (head_in p ps)))
        | inr later ↦ apart_before done p ps (apart_tail same_left same_right d (done ++ p ∷ ps) apart) q later
      ]

  -- One more pair, which shares no value with the others, is inserted.
  after_push : (done : List (L × R)) (p : L × R) → ((q : L × R) → Contains done q → shares same_left same_right q p ≡ false) → IsAfter same_left same_right (Insert p.0 p.1) (Contains done) (Contains (done ++ p ∷ []))
  after_push done p apart q = (
    λ there. elim (Contains-push_cases done p q there) [
      | inl old ↦ inr (old, λ touched. true≢false (sym touched ∙ apart q old))
      | inr same ↦ inl (sym same)
    ],
    λ either. elim either [
      | inl same ↦ subst (Contains (done ++ p ∷ [])) (sym same) (Contains-append_right done (p ∷ []) p (head_in p []))
      | inr old ↦ Contains-append_left done (p ∷ []) q old.0
    ],
  )

  -- Lines that insert pairs, behind lines that leave others, leave all of them.
  kept_all : (left : IsEquivalence same_left) (right : IsEquivalence same_right)
      → (texts : List (List ℕ)) (done : List (L × R)) (more : List (List ℕ)) (ps : List (L × R)) → Kept texts (Contains done) → AllZip Inserts more ps → IsApart same_left same_right (done ++ ps) → Kept (texts ++ more) (Contains (done ++ ps))
  kept_all left right texts done [] [] kept each apart = subst (λ ts. Kept ts (Contains (done ++ []))) (sym (append-nil texts)) (subst (λ ps. Kept texts (Contains ps)) (sym (append-nil done)) kept)
  kept_all left right texts done [] (p ∷ ps) kept each apart = absurd each
  kept_all left right texts done (text ∷ more) [] kept each apart = absurd each
  kept_all left right texts done (text ∷ more) (p ∷ ps) kept each apart =
      let longer = kept_more reads_left reads_right same_left same_right left right texts text (Insert p.0 p.1) (Contains done) (Contains (done ++ p ∷ [])) kept each.0 (after_push done p (apart_before done p ps apart)) in
      let regrouped : (done ++ p ∷ []) ++ ps ≡ done ++ p ∷ ps = append_assoc done (p ∷ []) ps in
      let all = kept_all left right (texts ++ text ∷ []) (done ++ p ∷ []) more ps longer each.1 (subst (IsApart same_left same_right) (sym regrouped) apart) in
      subst (λ ts. Kept ts (Contains (done ++ p ∷ ps))) (append_assoc texts (text ∷ []) more) (subst (λ qs. Kept ((texts ++ text ∷ []) ++ more) (Contains qs)) regrouped all)

  module _ (left : IsEquivalence same_left) (right : IsEquivalence same_right) (pairs : List (L × R)) (file : Vec ℕ Global) (apart : IsApart same_left same_right pairs) (list : IsListOf same_left same_right reads_left reads_right pairs file.items) where
    has : HasLines file.items list.texts
    has = record { rest = []; is = list.is; unbroken = list.unbroken }

    kept : Kept list.texts (Contains pairs)
    kept = kept_all left right [] [] list.texts pairs (kept_none reads_left reads_right same_left same_right left right (Contains []) (λ p there. none_in p there)) list.each apart

    stands : (f : List ℕ) → f ≡ file.items → Stands (Contains pairs) f
    stands f same = record { texts = list.texts; has = inl (subst (λ g. HasLines g list.texts) (sym same) has); kept = kept }

    -- A crash during the replacement leaves the old file or the new one.
    at_replace : (calls : List Event) → ((f : List ℕ) → MayLeave calls f → Stands (Contains pairs) f) → (done : Bool) (f : List ℕ) → MayLeave ((Replaced done, file) ∷ calls) f → Stands (Contains pairs) f
    at_replace calls before true f may = stands f may
    at_replace calls before false f may = elim may [ inl old ↦ before f old | inr new ↦ stands f new ]

    abbrev Durable : State L R → Type 0
    Durable = IsDurable same_left same_right reads_left reads_right

    -- The file was replaced, or was to be.
    module _ (old new : State L R) (held : old.held.pairs ≡ pairs) (same : new.held.pairs ≡ pairs) (done : Bool) (made : new.calls ≡ (Replaced done, file) ∷ old.calls) where
      pub replaced_moment : Durable old → KeepsOneOf same_left same_right reads_left reads_right old new
      replaced_moment d =
          let P : List ℕ → Type 0 = λ f. Stands (Contains old.held.pairs) f ⊎ Stands (Contains new.held.pairs) f in
          let before : (f : List ℕ) → MayLeave old.calls f → Stands (Contains pairs) f = λ f may. subst (λ ps. Stands (Contains ps) f) held (rest_stands reads_left reads_right same_left same_right left right (Contains old.held.pairs) old.calls old.end d.texts d.rests d.kept f may) in
          let is : (f : List ℕ) → Stands (Contains pairs) f → P f = λ f s. inr (subst (λ ps. Stands (Contains ps) f) (sym same) s) in
          subst (λ calls. LeavesOnly old.calls calls P) (sym made) (leaves_more P old.calls old.calls (Replaced done, file) (leaves_now P old.calls (λ f may. is f (before f may))) (λ f may. is f (at_replace old.calls before done f may)))

      pub replaced_durable : done ≡ true → new.end ≡ length file.items - 1 → Durable new
      replaced_durable t at_end =
          record {
            texts = list.texts;
            rests = subst (λ calls. IsAtRest calls new.end list.texts) (sym (made ∙ ap (λ b. (Replaced b, file) ∷ old.calls) t)) (record {
              has = has;
              at_end =
                  let long : length file.items ≡ length (header ++ lines list.texts) + 1 = ap length list.is ∙ length-append (header ++ lines list.texts) (closed ∷ []) in
                  omega (arith, long, at_end);
              durable = λ f may. may;
            });
            kept = subst (λ ps. Kept list.texts (Contains ps)) (sym same) kept;
          }
