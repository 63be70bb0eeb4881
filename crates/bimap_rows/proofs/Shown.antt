-- The lines of pairs that are written one after the other.
use Rattle.std.proofs.Common.{◌≡◌, ℕ, List, [], ◌∷◌, ◌++◌, Option, length, map, ap, sym, subst, ◌∙◌, append_assoc, append-nil, codes}
use Rattle.std.specs.Prelude.{flat_map, decimal}
use Rattle.std.proofs.lemmas.Grind.{flat_map-append}
use Rattle.std.proofs.lemmas.List.{map_push}
use Rattle.std.specs.Map.Iter.{deref_pair}
use denote.Ref.{Bor}
use Rattle.std.specs.Io.KnownBytes.{Appends}
use Rattle.std.proofs.KnownBytes.{Appends-trans}
use Rattle.bimap_rows.specs.Serving.{pair_line, tail}

lines_push : (xs : List (Bor ℕ × Bor ℕ)) (x : Bor ℕ × Bor ℕ) → flat_map pair_line (map deref_pair (xs ++ x ∷ [])) ≡ flat_map pair_line (map deref_pair xs) ++ pair_line (deref_pair x)
lines_push xs x = ap (flat_map pair_line) (map_push deref_pair xs x) ∙ flat_map-append pair_line (map deref_pair xs) (deref_pair x ∷ []) ∙ ap (λ l. flat_map pair_line (map deref_pair xs) ++ l) (append-nil (pair_line (deref_pair x)))

pub next_shown : (o p q : Option (List ℕ)) (xs : List (Bor ℕ × Bor ℕ)) (x : Bor ℕ × Bor ℕ) → Appends o p (flat_map pair_line (map deref_pair xs)) → Appends p q (pair_line (deref_pair x)) → Appends o q (flat_map pair_line (map deref_pair (xs ++ x ∷ [])))
next_shown o p q xs x a b = subst (Appends o q) (sym (lines_push xs x)) (Appends-trans o p q (flat_map pair_line (map deref_pair xs)) (pair_line (deref_pair x)) a b)

head_end : (a b r : List ℕ) → (a ++ b ++ 10 ∷ []) ++ r ≡ a ++ b ++ 10 ∷ r
head_end a b r = append_assoc (a ++ b) (10 ∷ []) r

pub all_shown : (o p q : Option (List ℕ)) (count : ℕ) (xs : List (Bor ℕ × Bor ℕ)) (pairs : List (ℕ × ℕ)) → map deref_pair xs ≡ pairs → count ≡ length pairs → Appends o p (codes "held " ++ decimal count ++ 10 ∷ []) → Appends p q (flat_map pair_line (map deref_pair xs)) → Appends o q (tail pairs)
all_shown o p q count xs pairs e n a b =
    subst (Appends o q) (head_end (codes "held ") (decimal (length pairs)) (flat_map pair_line pairs))
    (Appends-trans o p q (codes "held " ++ decimal (length pairs) ++ 10 ∷ []) (flat_map pair_line pairs) (subst (λ k. Appends o p (codes "held " ++ decimal k ++ 10 ∷ [])) n a) (subst (λ ps. Appends p q (flat_map pair_line ps)) e b))
