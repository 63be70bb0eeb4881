-- Each change of the slots keeps the count of pairs and the list of free slots right.
use Rattle.std.proofs.Common.{◌≡◌, ◌≢◌, ℕ, zero, suc, ◌+◌, ◌-◌, ◌<◌, List, [], ◌∷◌, ◌++◌, map, length, get_or, set, Some, None, is_some, IsSome, count_by, cond, slice_get, refl, sym, ap, subst, ◌∙◌, arith, length-set, true≢false}
use Rattle.std.proofs.lemmas.List.{map-set, map_push, length-map, length_push, get_or-map, get_or-set_same, get_or-set_other, get_or_past, get_or_append_left}
use Rattle.std.proofs.lemmas.List.Sums.{sum_by-set, sum_by_push}
use Rattle.std.proofs.lemmas.Option.{slice_get_within, slice_get-get_or, get_or_from_slice_get}
use Rattle.std.proofs.Math.Seq.{get_or-append_seam}
use Rattle.bimap_base.specs.declared.pairs.Slot.{Slot}
use Rattle.bimap_base.specs.declared.pairs.Slot.TheVariants.{Free, Held}
use Rattle.bimap_base.specs.FreeSlots.{pair_of, AddsFree, IsFreeList, IsSound, IsGrown}

-- To append the default to a list changes no read.
get_or-push_default : {X : Type 0} (xs : List X) (d : X) (i : ℕ) → get_or (xs ++ d ∷ []) i d ≡ get_or xs i d
get_or-push_default [] d zero = refl
get_or-push_default [] d (suc i) = refl
get_or-push_default (x ∷ xs) d zero = refl
get_or-push_default (x ∷ xs) d (suc i) = get_or-push_default xs d i

module _ {L R : Type 0} where
  -- At most one list of free slots starts at a place.
  pub IsFreeList-count_unique : (slots : List (Slot L R)) (m n first : ℕ) → IsFreeList slots m first → IsFreeList slots n first → m ≡ n
  IsFreeList-count_unique slots zero zero first p q = refl
  IsFreeList-count_unique slots zero (suc n) first p q = absurd (omega (arith, p, slice_get_within slots first _ q.1))
  IsFreeList-count_unique slots (suc m) zero first p q = absurd (omega (arith, q, slice_get_within slots first _ p.1))
  IsFreeList-count_unique slots (suc m) (suc n) first p q =
      let one = p.1 in
      let two = q.1 in
      let same : q.0 ≡ p.0 = cc in
      ap suc (IsFreeList-count_unique slots m n p.0 p.2 (subst (IsFreeList slots n) same q.2))

  -- A write at a place outside the list keeps the list.
  pub IsFreeList-set : (slots : List (Slot L R)) (place : ℕ) (slot : Slot L R) (n first : ℕ) → ((m : ℕ) → m < n → IsFreeList slots (suc m) place → ⊥) → IsFreeList slots n first → IsFreeList (set slots place slot) n first
  IsFreeList-set slots place slot zero first off p = p ∙ sym (length-set slots place slot)
  IsFreeList-set slots place slot (suc n) first off p =
      let other : first ≢ place = λ same. off n (omega arith) (subst (IsFreeList slots (suc n)) same p) in
      let within = slice_get_within slots first _ p.1 in
      let kept : slice_get (set slots place slot) first ≡ Some (Free p.0) =
      slice_get-get_or (set slots place slot) first slot (omega (arith, length-set slots place slot))
      ∙ ap Some (get_or-set_other slots place first slot slot other ∙ get_or_from_slice_get slots first _ slot p.1) in
      (p.0, kept, IsFreeList-set slots place slot n p.0 (λ m below. off m (omega arith)) p.2)

  -- A slot with a pair is on no list of free slots.
  pub held_is_off_list : (slots : List (Slot L R)) (place : ℕ) (l : L) (r : R) → slice_get slots place ≡ Some (Held l r) → (m : ℕ) → IsFreeList slots (suc m) place → ⊥
  held_is_off_list slots place l r found m p = let listed = p.1 in cc

  -- The count of pairs after a write.
  pub count-set : (slots : List (Slot L R)) (place : ℕ) (old new : Slot L R) → slice_get slots place ≡ Some old → count_by is_some (map pair_of (set slots place new)) + cond (is_some (pair_of old)) 1 0 ≡ count_by is_some (map pair_of slots) + cond (is_some (pair_of new)) 1 0
  count-set slots place old new found =
      let within = slice_get_within slots place old found in
      let read : get_or (map pair_of slots) place None ≡ pair_of old =
      get_or-map pair_of slots place old None within ∙ ap pair_of (get_or_from_slice_get slots place old old found) in
      let counted = sum_by-set (λ o. cond (is_some o) 1 0) (map pair_of slots) place (pair_of new) None (omega (arith, length-map slots pair_of)) in
      rw (map-set pair_of slots place new, ← read) counted

  -- If a place has a pair, its slot is not free.
  pub held_at : (slots : List (Slot L R)) (place : ℕ) → IsSome (get_or (map pair_of slots) place None) → (l : L) × (r : R) × (slice_get slots place ≡ Some (Held l r))
  held_at slots place present =
      let inside : place < length (map pair_of slots) = grind (arith, get_or_past) in
      let within : place < length slots = omega (arith, length-map slots pair_of) in
      by_slot (get_or slots place (Free 0)) (slice_get-get_or slots place (Free 0) within) (subst IsSome (get_or-map pair_of slots place (Free 0) None within) present)
    where
      by_slot : (s : Slot L R) → slice_get slots place ≡ Some s → IsSome (pair_of s) → (l : L) × (r : R) × (slice_get slots place ≡ Some (Held l r))
      by_slot (Free _) found some = absurd (true≢false (sym some))
      by_slot (Held l r) found some = (l, r, found)

  -- If some place has no pair, the first place of the list is free.
  pub first_is_free : (slots : List (Slot L R)) (len place : ℕ) → IsSound slots len place → len < length slots → (after : ℕ) × (slice_get slots place ≡ Some (Free after))
  first_is_free slots len place sound fewer = by_count sound.free sound.total sound.linked
    where
      by_count : (n : ℕ) → len + n ≡ length slots → IsFreeList slots n place → (after : ℕ) × (slice_get slots place ≡ Some (Free after))
      by_count zero total linked = absurd (omega arith)
      by_count (suc n) total linked = (linked.0, linked.1)

  pub IsSound-fill : (slots : List (Slot L R)) (len place after : ℕ) (l : L) (r : R) → IsSound slots len place → slice_get slots place ≡ Some (Free after) → IsSound (set slots place (Held l r)) (len + 1) after
  IsSound-fill slots len place after l r sound found = by_count sound.free sound.total sound.linked
    where
      by_count : (n : ℕ) → len + n ≡ length slots → IsFreeList slots n place → IsSound (set slots place (Held l r)) (len + 1) after
      by_count zero total linked = absurd (omega (arith, linked, slice_get_within slots place _ found))
      by_count (suc n) total linked =
          let listed = linked.1 in
          let follows : linked.0 ≡ after = cc in
          let off : (m : ℕ) → m < n → IsFreeList slots (suc m) place → ⊥ =
          λ m below p. omega (arith, IsFreeList-count_unique slots (suc m) (suc n) place p linked) in
          record {
            counted = omega (arith, sound.counted, count-set slots place (Free after) (Held l r) found);
            free = n;
            total = omega (arith, length-set slots place (Held l r));
            linked = IsFreeList-set slots place (Held l r) n after off (subst (IsFreeList slots n) follows linked.2);
          }

  pub IsSound-vacate : (slots : List (Slot L R)) (len place next : ℕ) (l : L) (r : R) → IsSound slots len next → slice_get slots place ≡ Some (Held l r) → IsSound (set slots place (Free next)) (len - 1) place
  IsSound-vacate slots len place next l r sound found =
      let within = slice_get_within slots place _ found in
      let count = count-set slots place (Held l r) (Free next) found in
      let written : slice_get (set slots place (Free next)) place ≡ Some (Free next) =
      slice_get-get_or _ place (Free next) (omega (arith, length-set slots place (Free next)))
      ∙ ap Some (get_or-set_same slots place (Free next) (Free next) within) in
      record {
        counted = omega (arith, sound.counted);
        free = suc sound.free;
        total = omega (arith, length-set slots place (Free next), sound.counted, sound.total);
        linked = (next, written, IsFreeList-set slots place (Free next) sound.free next (λ m _. held_is_off_list slots place l r found m) sound.linked);
      }

  pub IsSound-rewrite : (slots : List (Slot L R)) (len place next : ℕ) (l m : L) (r s : R) → IsSound slots len next → slice_get slots place ≡ Some (Held l r) → IsSound (set slots place (Held m s)) len next
  IsSound-rewrite slots len place next l m r s sound found =
      record {
        counted = omega (arith, sound.counted, count-set slots place (Held l r) (Held m s) found);
        free = sound.free;
        total = omega (arith, length-set slots place (Held m s), sound.total);
        linked = IsFreeList-set slots place (Held m s) sound.free next (λ k _. held_is_off_list slots place l r found k) sound.linked;
      }

  -- ---- One more free slot at the end.
  pub before_push : (slots : List (Slot L R)) (slot : Slot L R) (p : ℕ) → p < length slots → slice_get (slots ++ slot ∷ []) p ≡ slice_get slots p
  before_push slots slot p within =
      slice_get-get_or (slots ++ slot ∷ []) p slot (omega (arith, within, length_push slots slot))
      ∙ ap Some (get_or_append_left slots (slot ∷ []) slot p within)
      ∙ sym (slice_get-get_or slots p slot within)

  pub at_push : (slots : List (Slot L R)) (after p q : ℕ) → p ≡ length slots → after ≡ q → slice_get (slots ++ Free after ∷ []) p ≡ Some (Free q)
  at_push slots after p q here same =
      slice_get-get_or (slots ++ Free after ∷ []) p (Free after) (let longer = length_push slots (Free after) in omega (arith, here, longer))
      ∙ ap Some (subst (λ x. get_or (slots ++ Free after ∷ []) x (Free after) ≡ Free after) (sym here) (get_or-append_seam slots (Free after) [] (Free after)) ∙ ap (λ n. Free n) same)

  pub adds_none : (slots : List (Slot L R)) → AddsFree slots slots
  adds_none slots = record { kept = λ _. refl; count = refl }

  pub adds_push : (first slots : List (Slot L R)) (after : ℕ) → AddsFree first slots → AddsFree first (slots ++ Free after ∷ [])
  adds_push first slots after a =
      let pushed : map pair_of (slots ++ Free after ∷ []) ≡ map pair_of slots ++ None ∷ [] = map_push pair_of slots (Free after) in
      let same = sum_by_push (λ o. cond (is_some o) 1 0) (map pair_of slots) None in
      let counts : count_by is_some (map pair_of (slots ++ Free after ∷ [])) ≡ count_by is_some (map pair_of slots) = rw pushed (omega arith) in
      record {
        kept = λ place. rw pushed (get_or-push_default (map pair_of slots) None place ∙ a.kept place);
        count = counts ∙ a.count;
      }

  pub IsSound-empty : IsSound {L = L} {R = R} [] 0 0
  IsSound-empty = record { counted = refl; free = 0; total = refl; linked = refl }

  pub IsGrown-start : (slots : List (Slot L R)) (len next : ℕ) → IsSound slots len next → IsGrown slots slots len next
  IsGrown-start slots len next sound = record { sound = sound; adds = adds_none slots }
