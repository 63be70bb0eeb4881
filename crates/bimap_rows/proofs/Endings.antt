-- The end of the work.
use Rattle.std.proofs.Common.{◌≡◌, inl, inr, ℕ, List, [], ◌++◌, Option, refl, sym, ap, ◌∙◌, subst, append-nil, append_assoc}
use Rattle.std.specs.List.{AllPairs}
use Rattle.std.specs.Ordering.{nat_cmp}
use Rattle.std.proofs.lemmas.Cmp.{ranked}
use Rattle.std.specs.declared.cmp.Ordering.TheVariants.{Less}
use Rattle.std.specs.Io.KnownBytes.{Appends}
use Rattle.std.proofs.KnownBytes.{Appends-trans}
use Rattle.bimap_rows.specs.Lines.{Request, SaysInAll}
use Rattle.bimap_rows.specs.Serving.{IsServed, IsReadOut, AscendsByLeft, told, tail, Ends}
use Rattle.bimap_rows.specs.Steps.{IsFlushed}
use Rattle.bimap_rows.specs.declared.serve.Ending.{Ending}
use Rattle.bimap_rows.specs.declared.serve.Ending.TheVariants.{Clean}

-- Lefts in ascending order of characters are in ascending order of numbers.
pub ascends : (pairs : List (ℕ × ℕ)) → AllPairs (λ p q. nat_cmp p.0 q.0 ≡ Less) pairs → AscendsByLeft pairs
ascends pairs up = λ i j d earlier within. ranked _ _ Less (sym (up i j d earlier within))

-- The program wrote more, or nothing.
wrote_more : (Say : List ℕ → List Request → Type 0) (input o p q : Option (List ℕ)) (pairs : List (ℕ × ℕ)) (end more all : List ℕ) → IsServed Say input o p pairs end → Appends p q more → end ++ more ≡ all → IsServed Say input o q pairs all
wrote_more Say input o p q pairs end more all s a e =
    record { history = s.history; leads = s.leads; says = s.says; wrote = subst (Appends o q) (append_assoc (told s.history) end more ∙ ap (λ l. told s.history ++ l) e) (Appends-trans o p q (told s.history ++ end) more s.wrote a) }

-- All lines were served, and all pairs were written.
pub ends_clean : (result : Ending) (input left o p q r : Option (List ℕ)) (buffer : List ℕ) (pairs : List (ℕ × ℕ)) → AscendsByLeft pairs → IsServed SaysInAll input o p pairs [] → IsReadOut input left → Appends p q (tail pairs) → IsFlushed Clean result q r buffer → Ends result input left o r
ends_clean result input left o p q r buffer pairs up s end a (inl e) = subst (λ k. Ends k input left o r) (sym e) tt
ends_clean result input left o p q r buffer pairs up s end a (inr h) =
    subst (λ k. Ends k input left o r) (sym h.0) (pairs, up, wrote_more SaysInAll input o q r pairs (tail pairs) [] (tail pairs) (wrote_more SaysInAll input o p q pairs [] (tail pairs) (tail pairs) s a refl) h.1 (append-nil (tail pairs)), end)
