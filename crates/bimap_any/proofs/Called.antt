-- A closure that calls another one with its arguments exchanged.
use Rattle.std.proofs.Common.{◌≡◌, ◌++◌, Bool, true, false, List, [], ◌∷◌, map, refl, sym, ap, subst, Contains}
use Rattle.std.specs.List.Sorted.{IsPermutation}
use Rattle.std.proofs.lemmas.List.{map-append}
use Rattle.std.proofs.lemmas.List.Sorted.{IsPermutation-map}
use denote.Param.Members.{Mut, Called}
use denote.Ref.{Bor}
use Rattle.bimap_base.specs.Holding.{Holding, IsRetention}
use Rattle.bimap_base.specs.Inverse.{inverse_pair}
use Rattle.bimap_base.specs.Kept.{TestedAt, TestsInOrder, MayTest, answered_true}
use Rattle.bimap_any.specs.Visited.{VisitsInOrder, MayVisit, IsVisited}
use Rattle.bimap_base.proofs.Inverse.{inverse_in, in_inverse}
use Rattle.bimap_any.specs.Exchanged.{inverse_holding}

-- A call of `g'` is a call of `g` with the arguments exchanged.
abbrev pub Exchanges : {F F' L R A : Type 0} → Mut F (Bor R × (Bor L × Unit {0})) A → Mut F' (Bor L × (Bor R × Unit {0})) A → (F' → F) → Type 0
Exchanges {F} {F'} {L} {R} {A} g g' inner = (s : F') (l : Bor L) (r : Bor R) (a : A) (t : F') → Called g' s (l, (r, tt)) a t → Called g (inner s) (r, (l, tt)) a (inner t)

-- The call of `g'` may be made if the call of `g` may be made.
abbrev pub Asks : {F F' L R A : Type 0} → Mut F (Bor R × (Bor L × Unit {0})) A → Mut F' (Bor L × (Bor R × Unit {0})) A → (F' → F) → Type 0
Asks {F} {F'} {L} {R} {A} g g' inner = (s : F') (l : Bor L) (r : Bor R) → g.pre (inner s) (r, (l, tt)) → g'.pre s (l, (r, tt))

tested : {F F' L R A : Type 0} (g : Mut F (Bor R × (Bor L × Unit {0})) A) (g' : Mut F' (Bor L × (Bor R × Unit {0})) A) (inner : F' → F) → Exchanges g g' inner → (s : F') (p : L × R) (a : A) (t : F') → TestedAt g' s p a t → TestedAt g (inner s) (inverse_pair p) a (inner t)
tested g g' inner gives s p a t h = record { left = h.right; right = h.left; shows_left = h.shows_right; shows_right = h.shows_left; called = gives s h.left h.right a t h.called }

-- The pairs are split at one pair, in the order of the exchanged pairs.
moved_inverse : {L R : Type 0} (held ps : List (L × R)) (p : L × R) (rest : List (L × R)) → IsPermutation held (ps ++ p ∷ rest) → IsPermutation (map inverse_pair held) (map inverse_pair ps ++ inverse_pair p ∷ map inverse_pair rest)
moved_inverse held ps p rest moved = subst (IsPermutation (map inverse_pair held)) (map-append inverse_pair ps (p ∷ rest)) (IsPermutation-map inverse_pair held (ps ++ p ∷ rest) moved)

module _ {F F' L R : Type 0} (g : Mut F (Bor R × (Bor L × Unit {0})) (Unit {0})) (g' : Mut F' (Bor L × (Bor R × Unit {0})) (Unit {0})) (inner : F' → F) (gives : Exchanges g g' inner) where
  visits : (s : F') (ps : List (L × R)) (t : F') → VisitsInOrder g' s ps t → VisitsInOrder g (inner s) (map inverse_pair ps) (inner t)
  visits s [] t h = ap inner h
  visits s (p ∷ ps) t h = (inner h.0, tested g g' inner gives s p tt h.0 h.1, visits h.0 ps t h.2)

  pub may_visit_inverse : Asks g g' inner → (s : F') (held : List (L × R)) → MayVisit g (inner s) (map inverse_pair held) → MayVisit g' s held
  may_visit_inverse asks s held may = record {
    at = λ ps later left right rest moved calls.
        asks later left right (may.at (map inverse_pair ps) (inner later) right left (map inverse_pair rest) (moved_inverse held ps (left.now, right.now) rest moved) (visits s ps later calls));
  }

  pub visited_inverse : (s : F') (held : List (L × R)) → IsVisited g' s held → IsVisited g (inner s) (map inverse_pair held)
  visited_inverse s held h = record {
    order = map inverse_pair h.order;
    last = inner h.last;
    each_once = IsPermutation-map inverse_pair held h.order h.each_once;
    calls = visits s h.order h.last h.calls;
  }

module _ {F F' L R : Type 0} (g : Mut F (Bor R × (Bor L × Unit {0})) Bool) (g' : Mut F' (Bor L × (Bor R × Unit {0})) Bool) (inner : F' → F) (gives : Exchanges g g' inner) where
  tests : (s : F') (ps : List (L × R)) (bs : List Bool) (t : F') → TestsInOrder g' s ps bs t → TestsInOrder g (inner s) (map inverse_pair ps) bs (inner t)
  tests s [] [] t h = ap inner h
  tests s [] (b ∷ bs) t h = absurd h
  tests s (p ∷ ps) [] t h = absurd h
  tests s (p ∷ ps) (b ∷ bs) t h = (inner h.0, tested g g' inner gives s p b h.0 h.1, tests h.0 ps bs t h.2)

  answered : (ps : List (L × R)) (bs : List Bool) → map inverse_pair (answered_true g' ps bs) ≡ answered_true g (map inverse_pair ps) bs
  answered [] bs = refl
  answered (p ∷ ps) [] = refl
  answered (p ∷ ps) (true ∷ bs) = ap (λ z. inverse_pair p ∷ z) (answered ps bs)
  answered (p ∷ ps) (false ∷ bs) = answered ps bs

  pub may_test_inverse : Asks g g' inner → (s : F') (held : List (L × R)) → MayTest g (inner s) (map inverse_pair held) → MayTest g' s held
  may_test_inverse asks s held may = record {
    at = λ ps bs later left right rest moved calls.
        asks later left right (may.at (map inverse_pair ps) bs (inner later) right left (map inverse_pair rest) (moved_inverse held ps (left.now, right.now) rest moved) (tests s ps bs later calls));
  }

  pub retention_inverse : (old : Holding L R) (s : F') (new : Holding L R) → IsRetention g' old s new → IsRetention g (inverse_holding old) (inner s) (inverse_holding new)
  retention_inverse old s new h =
      let k = h.kept in
      let same = answered k.order k.answers in
      record {
        kept = record {
          order = map inverse_pair k.order;
          answers = k.answers;
          last = inner k.last;
          each_once = IsPermutation-map inverse_pair old.pairs k.order k.each_once;
          calls = tests s k.order k.answers k.last k.calls;
          kept = λ q. (
            λ c. subst (λ xs. Contains xs q) same (in_inverse (answered_true g' k.order k.answers) q ((k.kept (inverse_pair q)).0 (inverse_in new.pairs q c))),
            λ c. in_inverse new.pairs q ((k.kept (inverse_pair q)).1 (inverse_in (answered_true g' k.order k.answers) q (subst (λ xs. Contains xs q) (sym same) c))),
          );
        };
        room = h.room;
      }
