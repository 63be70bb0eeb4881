-- What opening a file that was found says of it.
use Rattle.std.proofs.Common.{◌≡◌, ◌∙◌, inl, inr, ℕ, List, [], ◌∷◌, ◌++◌, length, refl, sym, subst, Vec, Global}
use Rattle.std.specs.Prelude.{Result, Ok, Err, IfErr}
use Rattle.serde_json.specs.Data.{Data}
use Rattle.bimap_journal.specs.declared.disk.Operation.TheVariants.{Found}
use Rattle.bimap_journal.specs.declared.fault.NotOpened.{NotOpened}
use Rattle.bimap_journal.specs.declared.fault.NotOpened.TheVariants.{NotAJournal, OtherVersion, Damaged, Memory, Failed}
use Rattle.bimap_journal.specs.Calls.{Event, LeavesOnly}
use Rattle.bimap_journal.specs.Lines.{header, lines, HasLines, IsAtRest}
use Rattle.bimap_journal.specs.Reading.{HasLinesOrNone, IsFileFault, IsNotOpened, IsBeginFault}
use Rattle.bimap_journal.proofs.Moments.{leaves_weaker}
use Rattle.bimap_journal.proofs.Opened.{HasNone, at_found, of_found}

-- It rests once its lines are read.
pub found_rests : (calls old : List Event) (found : Vec ℕ Global) (end : ℕ) (texts : List (List ℕ)) → old ≡ (Found, found) ∷ calls → HasLines found.items texts → end ≡ length (header ++ lines texts) → IsAtRest old end texts
found_rests calls old found end texts e has at_end = subst (λ o. IsAtRest o end texts) (sym e) (at_found calls found end texts has at_end)

-- What a repair leaves.
pub found_leaves : (calls old new : List Event) (found : Vec ℕ Global) (texts : List (List ℕ)) → old ≡ (Found, found) ∷ calls → LeavesOnly old new (λ file. HasLines file texts) → LeavesOnly ((Found, found) ∷ calls) new (HasLinesOrNone texts)
found_leaves calls old new found texts e leaves =
    leaves_weaker (λ file. HasLines file texts) (HasLinesOrNone texts) ((Found, found) ∷ calls) new (λ file has. inl has) (of_found (λ file. HasLines file texts) calls old new found e leaves)

module _ {L R : Type 0} (reads_left : Data → L → Type 0) (reads_right : Data → R → Type 0) (calls old : List Event) (found : Vec ℕ Global) (e : old ≡ (Found, found) ∷ calls) where
  -- The file was only read.
  pub not_read : (fault : NotOpened) → IsFileFault reads_left reads_right found.items fault → IsNotOpened reads_left reads_right calls old fault
  not_read NotAJournal why = (found, e, why)
  not_read OtherVersion why = (found, e, why)
  not_read (Damaged at) why = (found, e, why)
  not_read Memory why = (found, e, why)
  not_read (Failed error) why = absurd why

  -- An empty file was not made a journal.
  pub not_begun : {T : Type 0} (new : List Event) (r : Result T NotOpened) → found.items ≡ [] → LeavesOnly old new HasNone → IfErr r (IsBeginFault old new) → IfErr r (IsNotOpened reads_left reads_right calls new)
  not_begun new (Ok x) empty leaves why = tt
  not_begun new (Err Memory) empty leaves why = (found, why ∙ e, tt)
  not_begun new (Err (Failed error)) empty leaves why = inr (record { found = found; texts = []; has = inr (empty, refl); any_moment = of_found HasNone calls old new found e leaves; failed = why })
  not_begun new (Err NotAJournal) empty leaves why = absurd why
  not_begun new (Err OtherVersion) empty leaves why = absurd why
  not_begun new (Err (Damaged at)) empty leaves why = absurd why
