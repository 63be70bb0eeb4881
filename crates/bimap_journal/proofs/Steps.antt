-- What a change of a map with a journal leaves.
use Rattle.std.proofs.Common.{◌≡◌, ◌↔◌, ◌⊎◌, inl, inr, ℕ, Bool, List, [], ◌∷◌, ◌++◌, sym, subst}
use Rattle.std.specs.Prelude.{Contains, None}
use Rattle.bimap.specs.Holding.{Holding, IsRemoval}
use Rattle.std.specs.Cmp.{IsEquivalence}
use Rattle.serde_json.specs.Data.{Data}
use Rattle.bimap_journal.specs.declared.change.Change.{Change}
use Rattle.bimap_journal.specs.Calls.{Event, MayLeave, LeavesOnly}
use Rattle.bimap_journal.specs.Lines.{HasLines, IsAtRest}
use Rattle.bimap_journal.specs.Changes.{AreKept, IsLineOf, IsAfter, StandsFor}
use Rattle.bimap_journal.specs.State.{State, IsDurable, KeepsOneOf, Acknowledges}
use Rattle.bimap_journal.proofs.Kept.{kept_more}
use Rattle.bimap_journal.proofs.Moments.{leaves_now, leaves_weaker}

module _ {L R : Type 0} (reads_left : Data → L → Type 0) (reads_right : Data → R → Type 0) (same_left : L → L → Bool) (same_right : R → R → Bool) (left : IsEquivalence same_left) (right : IsEquivalence same_right) where
  abbrev Stands : (L × R → Type 0) → List ℕ → Type 0
  Stands = StandsFor same_left same_right reads_left reads_right

  abbrev Keeps : List (List ℕ) → (L × R → Type 0) → Type 0
  Keeps = AreKept same_left same_right reads_left reads_right

  stands : (S : L × R → Type 0) (texts : List (List ℕ)) (file : List ℕ) → Keeps texts S → HasLines file texts → Stands S file
  stands S texts file kept has = record { texts = texts; has = inl has; kept = kept }

  -- A file at rest stands for the pairs.
  pub rest_stands : (S : L × R → Type 0) (calls : List Event) (end : ℕ) (texts : List (List ℕ)) → IsAtRest calls end texts → Keeps texts S → (file : List ℕ) → MayLeave calls file → Stands S file
  rest_stands S calls end texts rests kept file left = stands S texts file kept (subst (λ f. HasLines f texts) (sym (rests.durable file left)) rests.has)

  -- Nothing was done.
  pub no_moment : (S T : L × R → Type 0) (calls : List Event) (end : ℕ) (texts : List (List ℕ)) → IsAtRest calls end texts → Keeps texts S → LeavesOnly calls calls (λ file. Stands S file ⊎ Stands T file)
  no_moment S T calls end texts rests kept = leaves_now (λ file. Stands S file ⊎ Stands T file) calls (λ file left. inl (rest_stands S calls end texts rests kept file left))

  -- A line was added.
  pub more_kept : (S T : L × R → Type 0) (texts : List (List ℕ)) (text : List ℕ) (change : Change L R) → Keeps texts S → IsLineOf same_left same_right reads_left reads_right change text → IsAfter same_left same_right change S T → Keeps (texts ++ text ∷ []) T
  more_kept S T texts text change kept line after = kept_more reads_left reads_right same_left same_right left right texts text change S T kept line after

  step_moment : (S T : L × R → Type 0) (old new : List Event) (texts more : List (List ℕ)) → Keeps texts S → Keeps (texts ++ more) T
      → LeavesOnly old new (λ file. HasLines file texts ⊎ HasLines file (texts ++ more)) → LeavesOnly old new (λ file. Stands S file ⊎ Stands T file)
  step_moment S T old new texts more before after leaves =
      leaves_weaker (λ file. HasLines file texts ⊎ HasLines file (texts ++ more)) (λ file. Stands S file ⊎ Stands T file) old new
      (λ file either. elim either [ inl has ↦ inl (stands S texts file before has) | inr has ↦ inr (stands T (texts ++ more) file after has) ]) leaves

  abbrev Durable : State L R → Type 0
  Durable = IsDurable same_left same_right reads_left reads_right

  abbrev OneOf : State L R → State L R → Type 0
  OneOf = KeepsOneOf same_left same_right reads_left reads_right

  -- No call was made on the file.
  pub quiet : (old new : State L R) → Durable old → new.calls ≡ old.calls → OneOf old new
  quiet old new d e =
      subst (λ calls. LeavesOnly old.calls calls (λ file. Stands (Contains old.held.pairs) file ⊎ Stands (Contains new.held.pairs) file)) (sym e)
      (no_moment (Contains old.held.pairs) (Contains new.held.pairs) old.calls old.end d.texts d.rests d.kept)

  -- Lines were added that leave the pairs of the map.
  module _ (old new : State L R) (d : Durable old) (more : List (List ℕ)) (kept : Keeps (d.texts ++ more) (Contains new.held.pairs)) where
    pub group_moment : LeavesOnly old.calls new.calls (λ file. HasLines file d.texts ⊎ HasLines file (d.texts ++ more)) → OneOf old new
    group_moment leaves = step_moment (Contains old.held.pairs) (Contains new.held.pairs) old.calls new.calls d.texts more d.kept kept leaves

    pub group_durable : IsAtRest new.calls new.end (d.texts ++ more) → Durable new
    group_durable rests = record { texts = d.texts ++ more; rests = rests; kept = kept }

  -- A change was made and its line added.
  module _ (old new : State L R) (d : Durable old) (change : Change L R) (text : List ℕ) (line : IsLineOf same_left same_right reads_left reads_right change text) (after : IsAfter same_left same_right change (Contains old.held.pairs) (Contains new.held.pairs)) where
    kept : Keeps (d.texts ++ text ∷ []) (Contains new.held.pairs)
    kept = more_kept (Contains old.held.pairs) (Contains new.held.pairs) d.texts text change d.kept line after

    pub stored_moment : LeavesOnly old.calls new.calls (λ file. HasLines file d.texts ⊎ HasLines file (d.texts ++ text ∷ [])) → OneOf old new
    stored_moment = group_moment old new d (text ∷ []) kept

    pub stored_durable : IsAtRest new.calls new.end (d.texts ++ text ∷ []) → Durable new
    stored_durable = group_durable old new d (text ∷ []) kept

  pub acknowledges : (state : State L R) → Durable state → Acknowledges same_left same_right reads_left reads_right state
  acknowledges state d file left = rest_stands (Contains state.held.pairs) state.calls state.end d.texts d.rests d.kept file left

  -- The map has the same pairs as before.
  pub same_kept : (S T : L × R → Type 0) (texts : List (List ℕ)) → ((p : L × R) → T p ↔ S p) → Keeps texts S → Keeps texts T
  same_kept S T texts same before =
      record {
        is_read = before.is_read;
        leaves = λ changes are.
            let equal = before.leaves changes are in
            record {
              there = λ p t. equal.there p ((same p).0 t);
              back = λ p s. let q = equal.back p s in (q.0, (same q.0).1 q.1, q.2);
            };
      }

  pub same_durable : (old new : State L R) (d : Durable old) → ((p : L × R) → Contains new.held.pairs p ↔ Contains old.held.pairs p) → new.calls ≡ old.calls → new.end ≡ old.end → Durable new
  same_durable old new d same calls end =
      record {
        texts = d.texts;
        rests = subst (λ c. IsAtRest c new.end d.texts) (sym calls) (subst (λ n. IsAtRest old.calls n d.texts) (sym end) d.rests);
        kept = same_kept (Contains old.held.pairs) (Contains new.held.pairs) d.texts same d.kept;
      }

-- A removal that found nothing.
pub none_removed : {L R : Type 0} (passes : L × R → Bool) (old new : Holding L R) → IsRemoval passes old None new → (p : L × R) → Contains new.pairs p ↔ Contains old.pairs p
none_removed passes old new removal p = (λ t. ((removal.without p).0 t).0, λ s. (removal.without p).1 (s, removal.none p s))
