-- What an iterator of a map gives from its end.
use Rattle.std.proofs.Common.{◌≡◌, ◌∙◌, List, [], ◌∷◌, reverse, sym, ap}
use Rattle.std.proofs.lemmas.Iterator.{YieldsList}
use Rattle.std.proofs.lemmas.List.{reverse-append}
use Rattle.std.specs.Iterator.{AlwaysYields}
use Rattle.std.specs.Iterator.Adapters.{rev_source, rev_steps}
use Rattle.std.specs.Map.Iter.{TakesLast}
use Rattle.std.specs.declared.iter.Rev.{Rev}

module _ {A X : Type 0} (shows : A → X) where
  along : (ys : List X) (s : Rev (List X)) → reverse (rev_source s) ≡ ys → AlwaysYields (rev_steps (TakesLast shows)) shows s ys
  along [] s e = λ x j step.
      let turned : shows x ∷ reverse (rev_source j) ≡ [] = sym (reverse-append (rev_source j) (shows x ∷ [])) ∙ ap reverse (sym step) ∙ e in
      cc
  along (y ∷ ys) s e = (
    λ j step. let none : [] ≡ y ∷ ys = ap reverse (sym step.0) ∙ e in cc,
    λ x j step.
        let turned : shows x ∷ reverse (rev_source j) ≡ y ∷ ys = sym (reverse-append (rev_source j) (shows x ∷ [])) ∙ ap reverse (sym step) ∙ e in
        (cc, along ys j (cc)),
  )

  -- An iterator that is seen as the list that it has left gives the list turned from its end.
  pub YieldsList-from_turned : (xs : List X) (s : Rev (List X)) → rev_source s ≡ xs → YieldsList (rev_steps (TakesLast shows)) shows s (reverse xs)
  YieldsList-from_turned xs s e = record { runs = along (reverse xs) s (ap reverse e) }
