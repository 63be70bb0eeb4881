-- How what a crash may leave goes on from call to call.
use Rattle.std.proofs.Common.{◌≡◌, ◌∙◌, ℕ, List, [], ◌∷◌, ◌++◌, refl, sym, ap, subst}
use Rattle.bimap_journal.specs.Calls.{Event, MayLeave, LeavesOnly}

-- No call was made.
pub leaves_now : (P : List ℕ → Type 0) (calls : List Event) → ((file : List ℕ) → MayLeave calls file → P file) → LeavesOnly calls calls P
leaves_now P calls now = record { made = []; grown = refl; each = each }
  where
    each : (later earlier : List Event) (file : List ℕ) → [] ≡ later ++ earlier → MayLeave (earlier ++ calls) file → P file
    each [] [] file e left = now file left
    each [] (x ∷ earlier) file e left = absurd (cc)
    each (x ∷ later) earlier file e left = absurd (cc)

-- One more call was made.
pub leaves_more : (P : List ℕ → Type 0) (old new : List Event) (event : Event) → LeavesOnly old new P → ((file : List ℕ) → MayLeave (event ∷ new) file → P file) → LeavesOnly old (event ∷ new) P
leaves_more P old new event so_far now = record { made = event ∷ so_far.made; grown = ap (λ calls. event ∷ calls) so_far.grown; each = each }
  where
    each : (later earlier : List Event) (file : List ℕ) → event ∷ so_far.made ≡ later ++ earlier → MayLeave (earlier ++ old) file → P file
    each [] earlier file e left =
        let same : earlier ++ old ≡ event ∷ new = ap (λ calls. calls ++ old) (sym e) ∙ ap (λ calls. event ∷ calls) (sym so_far.grown) in
        now file (subst (λ calls. MayLeave calls file) same left)
    each (x ∷ later) earlier file e left = so_far.each later earlier file (cc) left

pub leaves_weaker : (P Q : List ℕ → Type 0) (old new : List Event) → ((file : List ℕ) → P file → Q file) → LeavesOnly old new P → LeavesOnly old new Q
leaves_weaker P Q old new f leaves =
    record { made = leaves.made; grown = leaves.grown; each = λ later earlier file e left. f file (leaves.each later earlier file e left) }
