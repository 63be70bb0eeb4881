-- One place is listed or removed, and one link or head is written. The chains are in order afterwards.
use Rattle.std.proofs.Common.{◌≡◌, ◌≢◌, ℕ, zero, suc, ◌+◌, ◌%◌, ◌<◌, ◌≤◌, true, false, List, [], ◌∷◌, length, Option, None, Some, refl, sym, ◌∙◌, ap, subst, arith, inl, inr, eq-eqb, length-set, get_or-set_same, get_or-set_other}
use Rattle.std.specs.Prelude.{slice_index_or, slice_set, IfSome}
use Rattle.bimap_chain.specs.Chains.{Numbers, number_at, is_of, last_below, NoneWithin, IsThreaded, IsListed, GoesOver, Links, link_or_head}
use Rattle.std.proofs.lemmas.Bool.{cases_eq, cases_order}
use Rattle.bimap_chain.specs.Threads.{Threading, IsSized, IsSound, numbers_of, links_of as the_links}
use Rattle.bimap_chain.proofs.Below.{found, last_here, last_lower, same_last, skipped, same_above}
use Rattle.bimap_chain.proofs.Walk.{leads, of_bucket}

-- The item at an index of a list after one item was written.
pub written_at : (xs : List (Option ℕ)) (i k : ℕ) (v x : Option ℕ) → i < length xs → (k ≡ i → v ≡ x) → (k ≢ i → slice_index_or xs k None ≡ x) → slice_index_or (slice_set xs i v) k None ≡ x
written_at xs i k v x fits same other =
    elim (cases_eq k i) [
      | inl e ↦ ap (λ j. slice_index_or (slice_set xs i v) j None) e ∙ get_or-set_same xs i v None fits ∙ same e
      | inr n ↦ get_or-set_other xs i k v None n ∙ other n
    ]

pub listed_within : (c : Numbers) (q h : ℕ) → number_at c q ≡ Some h → q < length c
listed_within [] q h e = cc
listed_within (x ∷ c) zero h e = omega arith
listed_within (x ∷ c) (suc q) h e = omega (arith, listed_within c q h e)

pub is_own : (n h : ℕ) → is_of n (h % n) (Some h) ≡ true
is_own n h = eq-eqb (h % n) (h % n) refl

pub is_others : (n h k : ℕ) → (k ≡ h % n → ⊥) → is_of n k (Some h) ≡ false
is_others n h k differs = grind arith

module _ (c : Numbers) (links heads : List (Option ℕ)) (b place : ℕ) (over : Option ℕ) (t : IsThreaded c links heads) (fits : b < length heads) (inn : place < length c) (o : GoesOver c (length heads) b place over) where
  -- The link or head before the place leads to the greatest listed place of the bucket that is not above it.
  pub link_over : link_or_head links heads b over ≡ last_below c (length heads) b (suc place)
  link_over = by over o
    where
      by : (p : Option ℕ) → GoesOver c (length heads) b place p → link_or_head links heads b p ≡ last_below c (length heads) b (suc place)
      by None g = t.heads_begin b fits ∙ skipped (length heads) b c (suc place) (length c) (omega arith) (λ q l r. g q (omega arith) r)
      by (Some p) g = leads c links heads b p t g.2 ∙ skipped (length heads) b c (suc place) p (omega (arith, g.0)) (λ q l r. g.3 q (omega arith) r)

  module _ (v : Option ℕ) (kept : List (Option ℕ)) (old_own : (k : ℕ) → k ≢ b → is_of (length heads) k (number_at c place) ≡ false) (new_own : (k : ℕ) → k ≢ b → is_of (length heads) k v ≡ false)
      (as_long : length kept ≡ length links) (others_kept : (q : ℕ) → q ≢ place → slice_index_or kept q None ≡ slice_index_or links q None)
      (own_link : (h : ℕ) → v ≡ Some h → slice_index_or kept place None ≡ last_below c (length heads) b place) where
    abbrev d : Numbers
    d = slice_set c place v

    abbrev n : ℕ
    n = length heads

    at_place : number_at d place ≡ v
    at_place = get_or-set_same c place v None inn

    at_other : (q : ℕ) → q ≢ place → number_at d q ≡ number_at c q
    at_other q e = get_or-set_other c place q v None e

    -- Outside the bucket no cell has changed.
    same_of : (k q : ℕ) → k ≢ b → is_of n k (number_at c q) ≡ is_of n k (number_at d q)
    same_of k q e =
        elim (cases_eq q place) [
          | inl i ↦ subst (λ r. is_of n k (number_at c r) ≡ is_of n k (number_at d r)) (sym i) (old_own k e ∙ sym (new_own k e) ∙ ap (is_of n k) (sym at_place))
          | inr i ↦ ap (is_of n k) (sym (at_other q i))
        ]

    other_bucket : (k m : ℕ) → k ≢ b → last_below d n k m ≡ last_below c n k m
    other_bucket k m e = sym (same_last n k c d m (λ q l. same_of k q e))

    -- Below the place no cell has changed.
    lower : (k m : ℕ) → m ≤ place → last_below d n k m ≡ last_below c n k m
    lower k m l = sym (same_last n k c d m (λ q r. ap (is_of n k) (sym (at_other q (omega arith)))))

    -- A chain is as before down to a listed place above this one.
    higher : (m p : ℕ) → place < p → p < m → is_of n b (number_at c p) ≡ true → last_below d n b m ≡ last_below c n b m
    higher m p l r e = sym (same_above n b c d (suc place) m p (λ q i j. ap (is_of n b) (sym (at_other q (omega arith)))) (omega arith) r e)

    -- No place of the bucket is between this place and the one before it in the chain.
    up_to : (m : ℕ) → place < m → NoneWithin c n b (place + 1) m → last_below d n b m ≡ last_below d n b (suc place)
    up_to m l h = skipped n b d (suc place) m (omega arith) (λ q i j. ap (is_of n b) (at_other q (omega arith)) ∙ h q (omega arith) j)

    heads_of : (p : Option ℕ) (links' heads' : List (Option ℕ)) → GoesOver c n b place p → Links b p (last_below d n b (suc place)) kept heads links' heads' → (k : ℕ) → k < length heads → slice_index_or heads' k None ≡ last_below d n k (length c)
    heads_of None links' heads' g w k l =
        ap (λ hs. slice_index_or hs k None) w.1 ∙ written_at heads b k (last_below d n b (suc place)) (last_below d n k (length c)) fits
        (λ i. sym (up_to (length c) inn g) ∙ ap (λ m. last_below d n m (length c)) (sym i))
        (λ i. t.heads_begin k l ∙ sym (other_bucket k (length c) i))
    heads_of (Some p) links' heads' g w k l =
        ap (λ hs. slice_index_or hs k None) w.1 ∙ t.heads_begin k l ∙
        (elim (cases_eq k b) as (λ _. last_below c n k (length c) ≡ last_below d n k (length c)) [
          | inl i ↦ subst (λ m. last_below c n m (length c) ≡ last_below d n m (length c)) (sym i) (sym (higher (length c) p g.0 g.1 g.2))
          | inr i ↦ sym (other_bucket k (length c) i)
        ])

    -- The link of another place that was not written is still right.
    link_kept : (q h : ℕ) → q ≢ place → number_at c q ≡ Some h → last_below d n (h % n) q ≡ last_below c n (h % n) q → slice_index_or kept q None ≡ last_below d n (h % n) q
    link_kept q h e a s = others_kept q e ∙ t.links_lead q h a ∙ sym s

    own_bucket : (h : ℕ) → v ≡ Some h → h % n ≡ b
    own_bucket h e =
        elim (cases_eq (h % n) b) [
          | inl i ↦ i
          | inr i ↦ let f : is_of n (h % n) (Some h) ≡ false = ap (is_of n (h % n)) (sym e) ∙ new_own (h % n) i in let g = is_own n h in cc
        ]

    of_own : (q h : ℕ) → number_at c q ≡ Some h → h % n ≡ b → is_of n b (number_at c q) ≡ true
    of_own q h a e = ap (is_of n b) a ∙ eq-eqb (h % n) b e

    -- A place whose link was not written leads to where it led before.
    unchanged : (p : Option ℕ) → GoesOver c n b place p → (q h : ℕ) → q ≢ place → number_at c q ≡ Some h → (p ≡ Some q → ⊥) → last_below d n (h % n) q ≡ last_below c n (h % n) q
    unchanged p g q h e a differs =
        elim (cases_eq (h % n) b) [
          | inr i ↦ other_bucket (h % n) q i
          | inl i ↦ elim (cases_order q place) [
            | inl j ↦ absurd (e j)
            | inr r ↦ elim r [ inl l ↦ lower (h % n) q (omega arith) | inr l ↦ subst (λ k. last_below d n k q ≡ last_below c n k q) (sym i) (above p g l (of_own q h a i) differs) ]
          ]
        ]
      where
        above : (p : Option ℕ) → GoesOver c n b place p → place < q → is_of n b (number_at c q) ≡ true → (p ≡ Some q → ⊥) → last_below d n b q ≡ last_below c n b q
        above None g l o differs = let f = g q (omega arith) (listed_within c q h a) in cc
        above (Some p) g l o differs =
            elim (cases_order q p) [
              | inl j ↦ absurd (differs (ap Some (sym j)))
              | inr r ↦ elim r [ inl k ↦ let f = g.3 q (omega arith) k in cc | inr k ↦ higher q p g.0 k g.2 ]
            ]

    links_of : (p : Option ℕ) (links' heads' : List (Option ℕ)) → GoesOver c n b place p → Links b p (last_below d n b (suc place)) kept heads links' heads' → (q h : ℕ) → number_at d q ≡ Some h → slice_index_or links' q None ≡ last_below d n (h % n) q
    links_of p links' heads' g w q h a =
        elim (cases_eq q place) [ inl i ↦ at_it p g w i | inr i ↦ at_others p g w i (sym (at_other q i) ∙ a) ]
      where
        kept_own : q ≡ place → slice_index_or kept q None ≡ last_below d n (h % n) q
        kept_own i =
            let e : v ≡ Some h = sym at_place ∙ ap (number_at d) (sym i) ∙ a in
            ap (λ r. slice_index_or kept r None) i ∙ own_link h e ∙ ap (λ k. last_below c n k place) (sym (own_bucket h e)) ∙ sym (lower (h % n) place (omega arith)) ∙ ap (last_below d n (h % n)) (sym i)

        at_it : (p : Option ℕ) → GoesOver c n b place p → Links b p (last_below d n b (suc place)) kept heads links' heads' → q ≡ place → slice_index_or links' q None ≡ last_below d n (h % n) q
        at_it None g w i = ap (λ ls. slice_index_or ls q None) w.0 ∙ kept_own i
        at_it (Some p) g w i = ap (λ ls. slice_index_or ls q None) w.0 ∙ get_or-set_other kept p q (last_below d n b (suc place)) None (omega (arith, g.0)) ∙ kept_own i

        at_others : (p : Option ℕ) → GoesOver c n b place p → Links b p (last_below d n b (suc place)) kept heads links' heads' → q ≢ place → number_at c q ≡ Some h → slice_index_or links' q None ≡ last_below d n (h % n) q
        at_others None g w i e = ap (λ ls. slice_index_or ls q None) w.0 ∙ link_kept q h i e (unchanged None g q h i e (λ j. cc))
        at_others (Some p) g w i e =
            ap (λ ls. slice_index_or ls q None) w.0 ∙ written_at kept p q (last_below d n b (suc place)) (last_below d n (h % n) q) (omega (arith, g.1, as_long, t.as_many_links))
            (λ j. let k = of_bucket n b (number_at c p) g.2 in
            let s : h ≡ k.0 = let m = ap (number_at c) j in cc in
            sym (up_to p g.0 g.3) ∙ ap (λ m. last_below d n m p) (sym k.2 ∙ ap (λ m. m % n) (sym s)) ∙ ap (last_below d n (h % n)) (sym j))
            (λ j. link_kept q h i e (unchanged (Some p) g q h i e (λ m. j (let z : p ≡ q = cc in sym z))))

    lengths : (p : Option ℕ) (links' heads' : List (Option ℕ)) → Links b p (last_below d n b (suc place)) kept heads links' heads' → (length links' ≡ length kept) × (length heads' ≡ length heads)
    lengths None links' heads' w = (ap length w.0, ap length w.1 ∙ length-set heads b (last_below d n b (suc place)))
    lengths (Some p) links' heads' w = (ap length w.0 ∙ length-set kept p (last_below d n b (suc place)), ap length w.1)

    -- The chains are in order again.
    pub with_next : (to : Option ℕ) (links' heads' : List (Option ℕ)) → to ≡ last_below d n b (suc place) → Links b over to kept heads links' heads' → IsThreaded d links' heads'
    with_next to links' heads' e written =
        let w = subst (λ s. Links b over s kept heads links' heads') e written in
        let long = lengths over links' heads' w in
        let cells : length d ≡ length c = length-set c place v in
        record {
          as_many_links = long.0 ∙ as_long ∙ t.as_many_links ∙ sym cells;
          enough_heads = omega (arith, long.1, t.enough_heads, cells);
          heads_begin = λ k l. heads_of over links' heads' o w k (omega (arith, long.1)) ∙ ap (λ m. last_below d m k (length c)) (sym long.1) ∙ ap (last_below d (length heads') k) (sym cells);
          links_lead = λ q h a. links_of over links' heads' o w q h a ∙ ap (λ m. last_below d m (h % m) q) (sym long.1);
        }

-- A place is listed.
pub listed : (c : Numbers) (links heads : List (Option ℕ)) (b number place : ℕ) (over next : Option ℕ) (links' heads' : List (Option ℕ)) → IsThreaded c links heads → b ≡ number % length heads → place < length c → number_at c place ≡ None
    → GoesOver c (length heads) b place over → next ≡ link_or_head links heads b over → Links b over (Some place) (slice_set links place next) heads links' heads' → IsThreaded (slice_set c place (Some number)) links' heads'
listed c links heads b number place over next links' heads' t own inn free o is written =
    let some : 0 < length heads = omega (arith, t.enough_heads) in
    let fits : b < length heads = omega (arith, own) in
    with_next c links heads b place over t fits inn o (Some number) (slice_set links place next)
    (λ k differs. ap (is_of (length heads) k) free)
    (λ k differs. is_others (length heads) number k (λ i. differs (i ∙ sym own)))
    (length-set links place next)
    (λ q i. get_or-set_other links place q next None i)
    (λ h i. get_or-set_same links place next None (omega (arith, t.as_many_links)) ∙ is ∙ link_over c links heads b place over t fits inn o ∙ last_lower (length heads) b c place (ap (is_of (length heads) b) free))
    (Some place) links' heads'
    (sym (last_here (length heads) b (slice_set c place (Some number)) place (ap (is_of (length heads) b) (get_or-set_same c place (Some number) None inn) ∙ ap (λ k. is_of (length heads) k (Some number)) own ∙ is_own (length heads) number)))
    written

-- A place is removed, whatever its own link is then.
pub unlisted : (c : Numbers) (links heads : List (Option ℕ)) (b number place : ℕ) (over next left : Option ℕ) (links' heads' : List (Option ℕ)) → IsThreaded c links heads → b ≡ number % length heads → number_at c place ≡ Some number
    → GoesOver c (length heads) b place over → next ≡ slice_index_or links place None → Links b over next (slice_set links place left) heads links' heads' → IsThreaded (slice_set c place None) links' heads'
unlisted c links heads b number place over next left links' heads' t own held o is written =
    let inn : place < length c = listed_within c place number held in
    let some : 0 < length heads = omega (arith, t.enough_heads) in
    let fits : b < length heads = omega (arith, own) in
    with_next c links heads b place over t fits inn o None (slice_set links place left)
    (λ k differs. ap (is_of (length heads) k) held ∙ is_others (length heads) number k (λ i. differs (i ∙ sym own)))
    (λ k differs. refl)
    (length-set links place left)
    (λ q i. get_or-set_other links place q left None i)
    (λ h i. cc)
    next links' heads'
    (is ∙ t.links_lead place number held ∙ ap (λ k. last_below c (length heads) k place) (sym own)
    ∙ same_last (length heads) b c (slice_set c place None) place (λ q l. ap (is_of (length heads) b) (sym (get_or-set_other c place q None None (omega arith))))
    ∙ sym (last_lower (length heads) b (slice_set c place None) place (ap (is_of (length heads) b) (get_or-set_same c place None None inn))))
    written

-- A place that a chain leads to is below the end.
pub few : (c : Numbers) (n b m k : ℕ) (at : Option ℕ) → at ≡ last_below c n b m → m ≤ k → IfSome at (λ p. p < k)
few c n b m k None e h = tt
few c n b m k (Some p) e h = omega (arith, (found n b c m p (sym e)).0)

-- The place before another one in a chain is listed, whatever is written at that other place.
pub over_listed : (c : Numbers) (n b place : ℕ) (v over : Option ℕ) → GoesOver c n b place over → IfSome over (λ p. IsListed (slice_set c place v) p)
over_listed c n b place v None g = tt
over_listed c n b place v (Some p) g = let o = of_bucket n b (number_at c p) g.2 in (o.0, get_or-set_other c place p v None (omega (arith, g.0)) ∙ o.1)

pub goes_listed : (c : Numbers) (n b place : ℕ) (over : Option ℕ) → GoesOver c n b place over → IfSome over (λ p. IsListed c p)
goes_listed c n b place None g = tt
goes_listed c n b place (Some p) g = let o = of_bucket n b (number_at c p) g.2 in (o.0, o.1)

-- ---- The threads are sound again.
pub as_sized : (a b a' b' : ℕ) → IsSized a b → a' ≡ a → b' ≡ b → IsSized a' b'
as_sized a b a' b' s e f = subst (λ x. IsSized x b') (sym e) (subst (λ y. IsSized a y) (sym f) s)

-- A place was written, and after it a link or a head.
pub sound_again : (old mid new : Threading) (b : ℕ) (over to : Option ℕ) (numbers : Numbers) (links : List (Option ℕ)) → IsSound old
    → numbers_of mid ≡ numbers → the_links mid ≡ links → length mid.cells ≡ length old.cells → mid.heads ≡ old.heads
    → numbers_of new ≡ numbers_of mid → Links b over to (the_links mid) mid.heads (the_links new) new.heads → length new.cells ≡ length mid.cells → length new.heads ≡ length mid.heads
    → (Links b over to links old.heads (the_links new) new.heads → IsThreaded numbers (the_links new) new.heads) → IsSound new
sound_again old mid new b over to numbers links sound same was cells heads kept written as_many as_long threaded = record {
  sized = as_sized _ _ _ _ sound.sized (as_many ∙ cells) (as_long ∙ ap length heads);
  threaded = rw (kept, same) (threaded (subst (λ v. Links b over to v old.heads (the_links new) new.heads) was (subst (λ v. Links b over to (the_links mid) v (the_links new) new.heads) heads written)));
}
