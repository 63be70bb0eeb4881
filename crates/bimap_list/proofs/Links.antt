-- A ring of cells, in which one place is appended or removed.
use Rattle.std.proofs.Common.{◌≡◌, ◌≢◌, ℕ, zero, suc, ◌+◌, ◌-◌, ◌<◌, ◌≤◌, List, [], ◌∷◌, ◌++◌, length, get_or, replicate, take, Some, None, map, refl, sym, ap, subst, ◌∙◌, inl, inr, arith, eqb, add-one, length-append, length-set, get_or-set_same, get_or-set_other}
use Rattle.std.specs.Prelude.{slice_get, slice_index_or, slice_set}
use Rattle.std.specs.List.{All, AllPairs, Contains, remove}
use Rattle.std.proofs.lemmas.Bool.{cases_eq}
use Rattle.std.proofs.lemmas.Bool.Decides.{Decides-eqb}
use Rattle.std.proofs.lemmas.Option.{get_or_from_slice_get, slice_get-get_or, slice_get_within}
use Rattle.std.proofs.lemmas.List.{get_or_default, get_or-map, get_or-take, length-map, length-take, map-append, map-set, take_all}
use Rattle.std.proofs.lemmas.List.Elements.{All-append, All-cons, All-contains, All-contains_itself, All-drop, All-head, All-nil, All-push, All-tail, All-take, All-weaker, Contains-get_or}
use Rattle.std.proofs.lemmas.List.Quantifiers.{all_pairs_push, all_pairs_remove}
use Rattle.std.proofs.lemmas.Map.Made.{IsDistinct-from_AllPairs}
use Rattle.std.proofs.lemmas.Map.Steps.{length-le_from_distinct_below}
use Rattle.bimap_base.specs.Keyed.{Drops}
use Rattle.bimap_base.proofs.Members.{AllPairs-head, AllPairs-tail, head_in, in_any, in_removed, more_in}
use Rattle.bimap_list.specs.Ring.{IsJoined, IsRing, Leads, LeadsThrough, Listing, listing, next_at, place_of, places_from, places_of, previous_at, links_in, told, unlinked}
use Rattle.bimap_list.specs.declared.ring.Links.{Links}

-- Distinct numbers below a bound are at most as many as the bound says.
few_below : (n : ℕ) (xs : List ℕ) → AllPairs (λ a b. a ≢ b) xs → All (λ p. p + 1 < n) xs → length xs ≤ n - 1
few_below n xs distinct below =
    length-le_from_distinct_below xs (n - 1) (IsDistinct-from_AllPairs Decides-eqb xs distinct) (λ q any.
    let has = in_any (eqb q) xs any in
    let less = All-contains (λ p. p + 1 < n) xs has.0 below has.1 in
    let same = (Decides-eqb q has.0).0 has.2 in
    omega (arith, less, same))

heads : (x : ℕ) (xs : List ℕ) → AllPairs (λ a b. a ≢ b) (x ∷ xs) → All (λ y. x ≢ y) xs
heads x xs distinct k d inside = distinct 0 (suc k) d (omega arith) (omega (arith, inside))

distinct_pushed : (xs : List ℕ) (p : ℕ) → AllPairs (λ a b. a ≢ b) xs → (Contains xs p → ⊥) → AllPairs (λ a b. a ≢ b) (xs ++ p ∷ [])
distinct_pushed xs p distinct absent = all_pairs_push (λ a b. a ≢ b) xs p distinct (λ k d inside e. absent (k, inside, get_or_default xs k p d inside ∙ e))

distinct_first : (xs : List ℕ) (p : ℕ) → AllPairs (λ a b. a ≢ b) xs → (Contains xs p → ⊥) → AllPairs (λ a b. a ≢ b) (p ∷ xs)
distinct_first xs p distinct absent zero zero d before inside = absurd (omega (arith, before))
distinct_first xs p distinct absent zero (suc j) d before inside = λ e. absent (j, omega (arith, inside), get_or_default xs j p d (omega (arith, inside)) ∙ sym e)
distinct_first xs p distinct absent (suc i) zero d before inside = absurd (omega (arith, before))
distinct_first xs p distinct absent (suc i) (suc j) d before inside = distinct i j d (omega (arith, before)) (omega (arith, inside))

All-removed : (P : ℕ → Type 0) (xs : List ℕ) (k : ℕ) → All P xs → All P (remove xs k)
All-removed P xs k all = All-append P _ _ (All-take P k xs all) (All-drop P (suc k) xs all)

distinct_removed : (xs : List ℕ) (k p : ℕ) → slice_get xs k ≡ Some p → AllPairs (λ a b. a ≢ b) xs → AllPairs (λ a b. a ≢ b) (remove xs k)
distinct_removed xs k p is = all_pairs_remove (λ a b. a ≢ b) xs k (slice_get_within xs k p is)

-- A place in the list stands at the index at which it is read.
pub contains_at : (xs : List ℕ) (k p : ℕ) → slice_get xs k ≡ Some p → Contains xs p
contains_at xs k p is = (k, slice_get_within xs k p is, get_or_from_slice_get xs k p p is)

others : (xs : List ℕ) (k p : ℕ) → slice_get xs k ≡ Some p → AllPairs (λ a b. a ≢ b) xs → All (λ q. q ≢ p) (remove xs k)
others [] k p is distinct = cc
others (x ∷ xs) zero p is distinct = let e : x ≡ p = cc in subst (λ y. All (λ q. q ≢ y) xs) e (All-weaker (λ q. x ≢ q) (λ q. q ≢ x) (λ q away same. away (sym same)) xs (heads x xs distinct))
others (x ∷ xs) (suc k) p is distinct =
    All-cons (λ q. q ≢ p) x (remove xs k) (AllPairs-head (λ a b. a ≢ b) x xs distinct p (contains_at xs k p is)) (others xs k p is (AllPairs-tail (λ a b. a ≢ b) x xs distinct))

-- The removed place is absent, and the other places are left.
pub dropped : (xs : List ℕ) (k p : ℕ) → slice_get xs k ≡ Some p → AllPairs (λ a b. a ≢ b) xs → Drops xs p (remove xs k)
dropped xs k p is distinct q = (
  λ c. (All-contains (Contains xs) (remove xs k) q (All-removed (Contains xs) xs k (All-contains_itself xs)) c, All-contains (λ q. q ≢ p) (remove xs k) q (others xs k p is distinct) c),
  λ h. elim (in_removed xs k p q (slice_get_within xs k p is) h.0) [ inl same ↦ absurd (h.1 (sym same ∙ get_or_from_slice_get xs k p p is)) | inr c ↦ c ],
)

module _ (cells : List (Links ℕ)) where
  -- Each place is read where its cell is linked.
  read_from : (ps : List ℕ) (from most : ℕ) → LeadsThrough cells from ps 0 → length ps ≤ most → places_from cells most (next_at cells from) ≡ ps
  read_from [] from zero linked less = refl
  read_from [] from (suc most) linked less = rw linked.0 refl
  read_from (p ∷ ps) from zero linked less = absurd (omega (arith, less))
  read_from (p ∷ ps) from (suc most) linked less =
      rw (linked.0.0, add-one p) (ap (λ qs. p ∷ qs) (ap (λ q. places_from cells most (next_at cells q)) (sym (add-one p)) ∙ read_from ps (p + 1) most linked.1 (omega (arith, less))))

  -- This makes a ring show its places.
  pub shown : (ps : List ℕ) → IsRing cells ps → places_of cells ≡ ps
  unfolding places_of
  shown ps ring = read_from ps 0 (length cells) ring.linked (omega (arith, few_below (length cells) ps ring.distinct ring.within))

  pub is_ring : (ps : List ℕ) → IsRing cells ps → IsRing cells (places_of cells)
  is_ring ps ring = subst (IsRing cells) (sym (shown ps ring)) ring

  -- The first cell and the last cell are each linked to a cell. A predicate that is true of all linked cells is true of it.
  first_of : (P : ℕ → Type 0) (ps : List ℕ) (from to : ℕ) → LeadsThrough cells from ps to → All (λ p. P (p + 1)) ps → P to → (cell : ℕ) × Leads cells from cell × P cell
  first_of P [] from to linked all last = (to, linked, last)
  first_of P (p ∷ ps) from to linked all last = (p + 1, linked.0, All-head (λ p. P (p + 1)) p ps all)

  last_of : (P : ℕ → Type 0) (ps : List ℕ) (from to : ℕ) → LeadsThrough cells from ps to → All (λ p. P (p + 1)) ps → P from → (cell : ℕ) × Leads cells cell to × P cell
  last_of P [] from to linked all first = (from, linked, first)
  last_of P (p ∷ ps) from to linked all first = last_of P ps (p + 1) to linked.1 (All-tail (λ p. P (p + 1)) p ps all) (All-head (λ p. P (p + 1)) p ps all)

  -- The predicate is also true of the cells before and after the cell of each place.
  around : (P : ℕ → Type 0) (ps : List ℕ) (k from to place : ℕ) → slice_get ps k ≡ Some place → LeadsThrough cells from ps to → All (λ p. P (p + 1)) ps → P from → P to → (before : ℕ) × (after : ℕ) × Leads cells before (place + 1) × Leads cells (place + 1) after × P before × P after
  around P [] k from to place is linked all first last = cc
  around P (p ∷ ps) zero from to place is linked all first last =
      let e : p ≡ place = cc in
      let next = first_of P ps (p + 1) to linked.1 (All-tail (λ p. P (p + 1)) p ps all) last in
      subst (λ q. (before : ℕ) × (after : ℕ) × Leads cells before (q + 1) × Leads cells (q + 1) after × P before × P after) e (from, next.0, linked.0, next.1, first, next.2)
  around P (p ∷ ps) (suc k) from to place is linked all first last = around P ps k (p + 1) to place is linked.1 (All-tail (λ p. P (p + 1)) p ps all) (All-head (λ p. P (p + 1)) p ps all) last

  -- These places are read after a cell.
  head_after : (ps : List ℕ) (from : ℕ) → LeadsThrough cells from ps 0 → place_of (next_at cells from) ≡ slice_get ps 0
  head_after [] from linked = ap place_of linked.0
  head_after (p ∷ ps) from linked = ap place_of (linked.0.0 ∙ add-one p)

  pub read_after : (ps : List ℕ) (from k place : ℕ) → LeadsThrough cells from ps 0 → slice_get ps k ≡ Some place → place_of (next_at cells (place + 1)) ≡ slice_get ps (suc k)
  read_after [] from k place linked is = cc
  read_after (p ∷ ps) from zero place linked is = let e : p ≡ place = cc in subst (λ q. place_of (next_at cells (q + 1)) ≡ slice_get ps 0) e (head_after ps (p + 1) linked.1)
  read_after (p ∷ ps) from (suc k) place linked is = read_after ps (p + 1) k place linked.1 is

  -- These places are read before a cell.
  pub read_last : (ps : List ℕ) (from to p : ℕ) → LeadsThrough cells from (p ∷ ps) to → place_of (previous_at cells to) ≡ slice_get (p ∷ ps) (length ps)
  read_last [] from to p linked = ap place_of (linked.1.1 ∙ add-one p)
  read_last (q ∷ qs) from to p linked = read_last qs (p + 1) to q linked.1

  pub read_before : (ps : List ℕ) (from k place : ℕ) → LeadsThrough cells from ps 0 → slice_get ps (suc k) ≡ Some place → place_of (previous_at cells (place + 1)) ≡ slice_get ps k
  read_before [] from k place linked is = cc
  read_before (p ∷ []) from k place linked is = cc
  read_before (p ∷ q ∷ qs) from zero place linked is = let e : q ≡ place = cc in subst (λ r. place_of (previous_at cells (r + 1)) ≡ Some p) e (ap place_of (linked.1.0.1 ∙ add-one p))
  read_before (p ∷ q ∷ qs) from (suc k) place linked is = read_before (q ∷ qs) (p + 1) k place linked.1 is

  pub none_before : (ps : List ℕ) (place : ℕ) → LeadsThrough cells 0 ps 0 → slice_get ps 0 ≡ Some place → place_of (previous_at cells (place + 1)) ≡ None
  none_before [] place linked is = cc
  none_before (p ∷ ps) place linked is = let e : p ≡ place = cc in subst (λ r. place_of (previous_at cells (r + 1)) ≡ None) e (ap place_of linked.0.1)

-- The cells of the places and cell 0 have the same links in another list of cells.
pub same_cells : (old new : List (Links ℕ)) (bound : ℕ) → ((cell : ℕ) → cell ≤ bound → slice_index_or new cell unlinked ≡ slice_index_or old cell unlinked) → (ps : List ℕ) (from to : ℕ) → from ≤ bound → to ≤ bound → All (λ p. p < bound) ps → LeadsThrough old from ps to → LeadsThrough new from ps to
same_cells old new bound same [] from to first last below linked = (ap (λ c. c.next) (same from first) ∙ linked.0, ap (λ c. c.previous) (same to last) ∙ linked.1)
same_cells old new bound same (p ∷ ps) from to first last below linked =
    let here = All-head (λ p. p < bound) p ps below in
    let less : p + 1 ≤ bound = omega (arith, here) in (
      (ap (λ c. c.next) (same from first) ∙ linked.0.0, ap (λ c. c.previous) (same (p + 1) less) ∙ linked.0.1),
      same_cells old new bound same ps (p + 1) to less last (All-tail (λ p. p < bound) p ps below) linked.1,
    )

-- A place is appended.
module _ (old mid new : List (Links ℕ)) (place : ℕ) (first : IsJoined old (previous_at old 0) (place + 1) mid) (second : IsJoined mid (place + 1) 0 new) (back : next_at old (previous_at old 0) ≡ 0) where
  appended : (ps : List ℕ) (from : ℕ) → LeadsThrough old from ps 0 → from ≢ place + 1 → (Contains ps place → ⊥) → LeadsThrough new from (ps ++ place ∷ []) 0
  appended [] from linked away absent = (
    (
      second.next_kept from away ∙ subst (λ cell. next_at mid cell ≡ place + 1) linked.1 first.leads.0,
      second.previous_kept (place + 1) (λ e. absurd (omega (arith, e))) ∙ first.leads.1 ∙ linked.1,
    ),
    second.leads,
  )
  appended (p ∷ ps) from linked away absent =
      let other : p ≢ place = λ e. absent (subst (Contains (p ∷ ps)) e (head_in p ps)) in
      let inner : from ≢ previous_at old 0 = λ e. let zero_is : p + 1 ≡ 0 = sym linked.0.0 ∙ ap (next_at old) e ∙ back in absurd (omega (arith, zero_is)) in (
        (
          second.next_kept from away ∙ first.next_kept from inner ∙ linked.0.0,
          second.previous_kept (p + 1) (λ e. absurd (omega (arith, e))) ∙ first.previous_kept (p + 1) (λ e. other (omega (arith, e))) ∙ linked.0.1,
        ),
        appended ps (p + 1) linked.1 (λ e. other (omega (arith, e))) (λ c. absent (more_in p ps place c)),
      )

-- A place is put before all others.
module _ (old mid new : List (Links ℕ)) (place : ℕ) (first : IsJoined old (place + 1) (next_at old 0) mid) (second : IsJoined mid 0 (place + 1) new) where
  link_behind : (from to : ℕ) → Leads old from to → from ≢ 0 → from ≢ place + 1 → to ≢ next_at old 0 → to ≢ place + 1 → Leads new from to
  link_behind from to leads some away front other = (
    second.next_kept from some ∙ first.next_kept from away ∙ leads.0,
    second.previous_kept to other ∙ first.previous_kept to front ∙ leads.1,
  )

  behind : (ps : List ℕ) (from : ℕ) → LeadsThrough old from ps 0 → from ≢ 0 → from ≢ place + 1 → 0 ≢ next_at old 0 → All (λ q. q + 1 ≢ next_at old 0) ps → (Contains ps place → ⊥) → LeadsThrough new from ps 0
  behind [] from linked some away front fronts absent = link_behind from 0 linked some away front (λ e. absurd (omega (arith, e)))
  behind (p ∷ ps) from linked some away front fronts absent =
      let other : p + 1 ≢ place + 1 = λ e. absent (subst (Contains (p ∷ ps)) (omega (arith, e)) (head_in p ps)) in (
        link_behind from (p + 1) linked.0 some away (All-head (λ q. q + 1 ≢ next_at old 0) p ps fronts) other,
        behind ps (p + 1) linked.1 (λ e. absurd (omega (arith, e))) other front (All-tail (λ q. q + 1 ≢ next_at old 0) p ps fronts) (λ c. absent (more_in p ps place c)),
      )

  -- The new cell leads to the cell that was the first.
  leads_on : (cell : ℕ) → next_at old 0 ≡ cell → cell ≢ place + 1 → Leads new (place + 1) cell
  leads_on cell is other = subst (Leads new (place + 1)) is (
    second.next_kept (place + 1) (λ e. absurd (omega (arith, e))) ∙ first.leads.0,
    second.previous_kept (next_at old 0) (λ e. other (sym is ∙ e)) ∙ first.leads.1,
  )

  put_first : (ps : List ℕ) → LeadsThrough old 0 ps 0 → AllPairs (λ a b. a ≢ b) ps → (Contains ps place → ⊥) → LeadsThrough new 0 (place ∷ ps) 0
  put_first [] linked distinct absent = (second.leads, leads_on 0 linked.0 (λ e. absurd (omega (arith, e))))
  put_first (p ∷ ps) linked distinct absent =
      let is = linked.0.0 in
      let other : p + 1 ≢ place + 1 = λ e. absent (subst (Contains (p ∷ ps)) (omega (arith, e)) (head_in p ps)) in (
        second.leads,
        (
          leads_on (p + 1) is other,
          behind ps (p + 1) linked.1 (λ e. absurd (omega (arith, e))) other (λ e. absurd (omega (arith, e, is)))
              (All-weaker (λ q. p ≢ q) (λ q. q + 1 ≢ next_at old 0) (λ q away e. away (omega (arith, e, is))) ps (heads p ps distinct)) (λ c. absent (more_in p ps place c)),
        ),
      )

-- A place is removed.
module _ (old new : List (Links ℕ)) (place : ℕ) (joined : IsJoined old (previous_at old (place + 1)) (next_at old (place + 1)) new) (back : next_at old (previous_at old (place + 1)) ≡ place + 1) (forth : previous_at old (next_at old (place + 1)) ≡ place + 1) where
  link_left : (from to : ℕ) → Leads old from to → from ≢ place + 1 → to ≢ place + 1 → Leads new from to
  link_left from to leads first last = (
    joined.next_kept from (λ e. last (sym leads.0 ∙ ap (next_at old) e ∙ back)) ∙ leads.0,
    joined.previous_kept to (λ e. first (sym leads.1 ∙ ap (previous_at old) e ∙ forth)) ∙ leads.1,
  )

  links_left : (ps : List ℕ) (from to : ℕ) → LeadsThrough old from ps to → from ≢ place + 1 → to ≢ place + 1 → All (λ p. place ≢ p) ps → LeadsThrough new from ps to
  links_left [] from to linked first last off = link_left from to linked first last
  links_left (p ∷ ps) from to linked first last off =
      let other : p + 1 ≢ place + 1 = λ e. All-head (λ p. place ≢ p) p ps off (omega (arith, e)) in
      (link_left from (p + 1) linked.0 first other, links_left ps (p + 1) to linked.1 other last (All-tail (λ p. place ≢ p) p ps off))

  removed : (ps : List ℕ) (k from to : ℕ) → slice_get ps k ≡ Some place → LeadsThrough old from ps to → AllPairs (λ a b. a ≢ b) ps → from ≢ place + 1 → to ≢ place + 1 → LeadsThrough new from (remove ps k) to
  removed [] k from to is linked distinct first last = cc
  removed (p ∷ ps) zero from to is linked distinct first last = let e : p ≡ place = cc in at_head ps (subst (λ q. Leads old from (q + 1)) e linked.0) (subst (λ q. LeadsThrough old (q + 1) ps to) e linked.1) (subst (λ q. All (λ p. q ≢ p) ps) e (heads p ps distinct))
    where
      at_head : (ps : List ℕ) → Leads old from (place + 1) → LeadsThrough old (place + 1) ps to → All (λ p. place ≢ p) ps → LeadsThrough new from ps to
      at_head [] into out off = subst (λ a. Leads new a to) into.1 (subst (Leads new (previous_at old (place + 1))) out.0 joined.leads)
      at_head (q ∷ qs) into out off =
          let other : q + 1 ≢ place + 1 = λ e. All-head (λ p. place ≢ p) q qs off (omega (arith, e)) in (
            subst (λ a. Leads new a (q + 1)) into.1 (subst (Leads new (previous_at old (place + 1))) out.0.0 joined.leads),
            links_left qs (q + 1) to out.1 other last (All-tail (λ p. place ≢ p) q qs off),
          )
  removed (p ∷ ps) (suc k) from to is linked distinct first last =
      let other : p + 1 ≢ place + 1 = λ e. AllPairs-head (λ a b. a ≢ b) p ps distinct place (contains_at ps k place is) (omega (arith, e)) in
      (link_left from (p + 1) linked.0 first other, removed ps k (p + 1) to is linked.1 (AllPairs-tail (λ a b. a ≢ b) p ps distinct) other last)

-- Cells in which cell 0 leads to itself list no place.
pub none_listed : (cells : List (Links ℕ)) → Leads cells 0 0 → IsRing cells []
none_listed cells leads = record { linked = leads; distinct = λ i j d before inside. absurd (omega (arith, inside)); within = All-nil _ }

-- A list without cells lists no place either.
pub none_shown : (cells : List (Links ℕ)) (l : Listing) → ◌≡◌ {A = Listing} (listing cells) l → length cells ≡ 0 → l.places ≡ []
none_shown [] l is none = ap (λ l. Listing.places l) (sym is) ∙ shown [] [] (none_listed [] (refl, refl))
none_shown (c ∷ cells) l is none = absurd (omega (arith, none))

-- Cells that were added are read as a missing cell is read.
pub added : (xs : List (Links ℕ)) (n k : ℕ) → slice_index_or (xs ++ replicate n unlinked) k unlinked ≡ slice_index_or xs k unlinked
added [] zero k = refl
added [] (suc n) zero = refl
added [] (suc n) (suc k) = added [] n k
added (x ∷ xs) n zero = refl
added (x ∷ xs) n (suc k) = added xs n k

-- These lemmas take a list and the cells that show it.
module _ (cells : List (Links ℕ)) (l : Listing) (whole : IsRing cells (places_of cells)) (is : ◌≡◌ {A = Listing} (listing cells) l) where
  pub ring_of : IsRing cells l.places
  ring_of = subst (λ l. IsRing cells (Listing.places l)) is whole

  pub cells_of : l.cells ≡ length cells - 1
  cells_of = sym (ap (λ l. Listing.cells l) is)

  pub below_cells : (p : ℕ) → Contains l.places p → p < l.cells
  below_cells p has = omega (arith, All-contains (λ p. p + 1 < length cells) l.places p ring_of.within has, cells_of)

  pub fits_cells : length l.places ≤ l.cells
  fits_cells = omega (arith, few_below (length cells) l.places ring_of.distinct ring_of.within, cells_of)

  -- The cells that both lists have are the same.
  resized : (new : List (Links ℕ)) (bound : ℕ) → ((cell : ℕ) → cell ≤ bound → slice_index_or new cell unlinked ≡ slice_index_or cells cell unlinked) → All (λ p. p < bound) l.places → bound ≤ length new - 1 → IsRing new l.places
  resized new bound same below inside =
      record {
        linked = same_cells cells new bound same l.places 0 0 (omega arith) (omega arith) below ring_of.linked;
        distinct = ring_of.distinct;
        within = All-weaker (λ p. p < bound) (λ p. p + 1 < length new) (λ p less. omega (arith, less, inside)) l.places below;
      }

  pub grown : (new : List (Links ℕ)) (more : ℕ) → new ≡ cells ++ replicate more unlinked → IsRing new l.places
  grown new more e =
      resized new l.cells (λ cell _. ap (λ z. slice_index_or z cell unlinked) e ∙ added cells more cell)
      (All-weaker (λ p. p + 1 < length cells) (λ p. p < l.cells) (λ p less. omega (arith, less, cells_of)) l.places ring_of.within)
      (omega (arith, cells_of, ap length e, length-append cells (replicate more unlinked)))

  pub cut : (to : ℕ) → to ≤ l.cells → ((p : ℕ) → Contains l.places p → p < to) → IsRing (take (to + 1) cells) l.places
  cut to fewer below =
      resized (take (to + 1) cells) to (λ cell less. get_or-take (to + 1) cells cell unlinked (omega (arith, less)))
      (λ k d inside. below (get_or l.places k d) (Contains-get_or l.places k d inside))
      (omega (arith, fewer, cells_of, length-take (to + 1) cells))

  pub cleared : 0 < length cells → IsRing (slice_set cells 0 unlinked) []
  cleared some =
      let e = get_or-set_same cells 0 unlinked unlinked some in
      none_listed (slice_set cells 0 unlinked) (ap (λ c. c.next) e, ap (λ c. c.previous) e)

  -- The cell before cell 0, as it is read.
  module _ (links : Links ℕ) (some : 0 < l.cells) (read : links ≡ get_or cells 0 links) where
    at_start : previous_at cells 0 ≡ links.previous
    at_start = ap (λ c. c.previous) (get_or_default cells 0 unlinked links (omega (arith, some, cells_of)) ∙ sym read)

    last_cell : (cell : ℕ) × Leads cells cell 0 × (cell < length cells)
    last_cell = last_of cells (λ cell. cell < length cells) l.places 0 0 ring_of.linked ring_of.within (omega (arith, some, cells_of))

    pub last_within : links.previous < length cells
    last_within = subst (λ cell. cell < length cells) (sym last_cell.1.1 ∙ at_start) last_cell.2

    pub pushed : (mid new : List (Links ℕ)) (place : ℕ) → place < l.cells → (Contains l.places place → ⊥) → IsJoined cells links.previous (place + 1) mid → IsJoined mid (place + 1) 0 new → length new ≡ length cells → IsRing new (l.places ++ place ∷ [])
    pushed mid new place inside absent first second long =
        record {
          linked = appended cells mid new place (subst (λ cell. IsJoined cells cell (place + 1) mid) (sym at_start) first) second (ap (next_at cells) last_cell.1.1 ∙ last_cell.1.0) l.places 0 ring_of.linked (λ e. absurd (omega (arith, e))) absent;
          distinct = distinct_pushed l.places place ring_of.distinct absent;
          within = subst (λ n. All (λ p. p + 1 < n) (l.places ++ place ∷ [])) (sym long) (All-push (λ p. p + 1 < length cells) l.places place ring_of.within (omega (arith, inside, cells_of)));
        }

  -- The cell after cell 0, as it is read.
  module _ (links : Links ℕ) (some : 0 < l.cells) (read : links ≡ get_or cells 0 links) where
    next_at_start : next_at cells 0 ≡ links.next
    next_at_start = ap (λ c. c.next) (get_or_default cells 0 unlinked links (omega (arith, some, cells_of)) ∙ sym read)

    pub first_within : links.next < length cells
    first_within =
        let first = first_of cells (λ cell. cell < length cells) l.places 0 0 ring_of.linked ring_of.within (omega (arith, some, cells_of)) in
        subst (λ cell. cell < length cells) (sym first.1.0 ∙ next_at_start) first.2

    pub pushed_first : (mid new : List (Links ℕ)) (place : ℕ) → place < l.cells → (Contains l.places place → ⊥) → IsJoined cells (place + 1) links.next mid → IsJoined mid 0 (place + 1) new → length new ≡ length cells → IsRing new (place ∷ l.places)
    pushed_first mid new place inside absent first second long =
        record {
          linked = put_first cells mid new place (subst (λ cell. IsJoined cells (place + 1) cell mid) (sym next_at_start) first) second l.places ring_of.linked ring_of.distinct absent;
          distinct = distinct_first l.places place ring_of.distinct absent;
          within = subst (λ n. All (λ p. p + 1 < n) (place ∷ l.places)) (sym long) (All-cons (λ p. p + 1 < length cells) place l.places (omega (arith, inside, cells_of)) ring_of.within);
        }

  -- The cells before and after the cell of a place, as they are read.
  module _ (links : Links ℕ) (k place : ℕ) (here : slice_get l.places k ≡ Some place) (read : links ≡ get_or cells (place + 1) links) where
    pub at_place : slice_index_or cells (place + 1) unlinked ≡ links
    at_place = get_or_default cells (place + 1) unlinked links (All-contains (λ p. p + 1 < length cells) l.places place ring_of.within (contains_at l.places k place here)) ∙ sym read

    cells_around : (before : ℕ) × (after : ℕ) × Leads cells before (place + 1) × Leads cells (place + 1) after × (before < length cells) × (after < length cells)
    cells_around = let some : 0 < length cells = omega (arith, All-contains (λ p. p + 1 < length cells) l.places place ring_of.within (contains_at l.places k place here)) in around cells (λ cell. cell < length cells) l.places k 0 0 place here ring_of.linked ring_of.within some some

    pub before_within : links.previous < length cells
    before_within = subst (λ cell. cell < length cells) (sym cells_around.2.1 ∙ ap (λ c. c.previous) at_place) cells_around.4

    pub after_within : links.next < length cells
    after_within = subst (λ cell. cell < length cells) (sym cells_around.3.0 ∙ ap (λ c. c.next) at_place) cells_around.5

    pub taken_out : (new : List (Links ℕ)) → IsJoined cells links.previous links.next new → length new ≡ length cells → IsRing new (remove l.places k)
    taken_out new joined long =
        record {
          linked = removed cells new place
              (subst (λ c. IsJoined cells (Links.previous c) (Links.next c) new) (sym at_place) joined)
              (ap (next_at cells) cells_around.2.1 ∙ cells_around.2.0) (ap (previous_at cells) cells_around.3.0 ∙ cells_around.3.1)
              l.places k 0 0 here ring_of.linked ring_of.distinct (λ e. absurd (omega (arith, e))) (λ e. absurd (omega (arith, e)));
          distinct = distinct_removed l.places k place here ring_of.distinct;
          within = subst (λ n. All (λ p. p + 1 < n) (remove l.places k)) (sym long) (All-removed (λ p. p + 1 < length cells) l.places k ring_of.within);
        }

-- One stored item is overwritten, and its plain form stays the same.
told_still : {A : Type 0} (f : A → ℕ) (xs : List A) (i : ℕ) (x d : A) → i < length xs → f x ≡ f (get_or xs i d) → (k : ℕ) → f (get_or (slice_set xs i x) k d) ≡ f (get_or xs k d)
told_still f xs i x d inside same k =
    elim (cases_eq k i) [
      | inl here ↦ ap (λ k. f (get_or (slice_set xs i x) k d)) here ∙ ap f (get_or-set_same xs i x d inside) ∙ same ∙ ap (λ k. f (get_or xs k d)) (sym here)
      | inr other ↦ ap f (get_or-set_other xs i k x d other)
    ]

-- The first cell gets its next cell, and the second cell gets its previous one.
joined : (cells : List (Links ℕ)) (from to : ℕ) (a b : Links ℕ) → from < length cells → to < length cells → a.next ≡ to → a.previous ≡ previous_at cells from → b.previous ≡ from → b.next ≡ next_at (slice_set cells from a) to → IsJoined cells from to (slice_set (slice_set cells from a) to b)
joined cells from to a b first second a_next a_previous b_previous b_next =
    let mid = slice_set cells from a in
    let inside : to < length mid = omega (arith, second, length-set cells from a) in
    let nexts = told_still (λ c. c.next) mid to b unlinked inside b_next in
    let previouses = told_still (λ c. c.previous) cells from a unlinked first a_previous in
    record {
      leads = (
        nexts from ∙ ap (λ c. c.next) (get_or-set_same cells from a unlinked first) ∙ a_next,
        ap (λ c. c.previous) (get_or-set_same mid to b unlinked inside) ∙ b_previous,
      );
      next_kept = λ cell away. nexts cell ∙ ap (λ c. c.next) (get_or-set_other cells from cell a unlinked away);
      previous_kept = λ cell away. ap (λ c. c.previous) (get_or-set_other mid to cell b unlinked away) ∙ previouses cell;
    }

many_told : {A B : Type 0} (f : A → B) (n : ℕ) (a : A) → map f (replicate n a) ≡ replicate n (f a)
many_told f zero a = refl
many_told f (suc n) a = ap (λ z. f a ∷ z) (many_told f n a)

-- These lemmas take the stored cells and their links as plain numbers.
module _ {N : Type 0} (value : N → ℕ) (xs : List (Links N)) where
  pub as_many : length (told value xs) ≡ length xs
  as_many = length-map xs (links_in value)

  -- A cell that was read.
  read : (k : ℕ) (x d : Links N) (e : Links ℕ) → k < length xs → x ≡ get_or xs k d → links_in value x ≡ get_or (told value xs) k e
  read k x d e within is = ap (links_in value) is ∙ sym (get_or-map (links_in value) xs k d e within)

  -- Cells that were added.
  pub told_more : (items new : List (Links N)) (to more : ℕ) (u : Links N) → items ≡ xs → new ≡ take to items ++ replicate more u → length items ≤ to → links_in value u ≡ unlinked → told value new ≡ told value xs ++ replicate more unlinked
  told_more items new to more u was made inside is =
      let tell = links_in value in
      ap (map tell) (made ∙ ap (λ z. z ++ replicate more u) (take_all to items inside ∙ was)) ∙ map-append tell xs (replicate more u) ∙ ap (λ z. map tell xs ++ z) (many_told tell more u ∙ ap (replicate more) is)

  pub told_joined : (from to : ℕ) (x d y e : Links N) (m n : N) → from < length xs → to < length xs → value m ≡ from → value n ≡ to → x ≡ get_or xs from d → y ≡ get_or (slice_set xs from (record { previous = x.previous; next = n })) to e
      → IsJoined (told value xs) from to (told value (slice_set (slice_set xs from (record { previous = x.previous; next = n })) to (record { previous = m; next = y.next })))
  told_joined from to x d y e m n first second m_is n_is x_is y_is =
      let tell = links_in value in
      let a : Links N = record { previous = x.previous; next = n } in
      let b : Links N = record { previous = m; next = y.next } in
      let cells = told value xs in
      let once : map tell (slice_set xs from a) ≡ slice_set cells from (tell a) = map-set tell xs from a in
      let inside : to < length (slice_set xs from a) = omega (arith, second, length-set xs from a) in
      let y_told : tell y ≡ get_or (slice_set cells from (tell a)) to unlinked = ap tell y_is ∙ sym (get_or-map tell (slice_set xs from a) to e unlinked inside) ∙ ap (λ z. get_or z to unlinked) once in
      subst (IsJoined cells from to) (sym (map-set tell (slice_set xs from a) to b ∙ ap (λ z. slice_set z to (tell b)) once))
      (joined cells from to (tell a) (tell b) (omega (arith, first, as_many)) (omega (arith, second, as_many)) n_is (ap (λ c. c.previous) (read from x d unlinked first x_is)) m_is (ap (λ c. c.next) y_told))

  -- A list, and the stored cells that show it.
  module _ (l : Listing) (whole : IsRing (told value xs) (places_of (told value xs))) (is : ◌≡◌ {A = Listing} (listing (told value xs)) l) where
    cell_0 : (x d : Links N) → 0 < l.cells → x ≡ get_or xs 0 d → links_in value x ≡ get_or (told value xs) 0 (links_in value x)
    cell_0 x d some r = read 0 x d (links_in value x) (omega (arith, some, cells_of (told value xs) l whole is, as_many)) r

    pub cell_of : (x d : Links N) (k place : ℕ) → slice_get l.places k ≡ Some place → x ≡ get_or xs (place + 1) d → links_in value x ≡ get_or (told value xs) (place + 1) (links_in value x)
    cell_of x d k place here r =
        read (place + 1) x d (links_in value x) (omega (arith, All-contains (λ p. p + 1 < length (told value xs)) l.places place (ring_of (told value xs) l whole is).within (contains_at l.places k place here), as_many)) r

    pub last_inside : (x d : Links N) → 0 < l.cells → x ≡ get_or xs 0 d → value x.previous < length xs
    last_inside x d some r = omega (arith, last_within (told value xs) l whole is (links_in value x) some (cell_0 x d some r), as_many)

    pub pushed_there : (x d : Links N) (some : 0 < l.cells) (r : x ≡ get_or xs 0 d) (from : ℕ) → from ≡ value x.previous → (mid new : List (Links N)) (place : ℕ) → place < l.cells → (Contains l.places place → ⊥) → IsJoined (told value xs) from (place + 1) (told value mid) → IsJoined (told value mid) (place + 1) 0 (told value new) → length new ≡ length xs → IsRing (told value new) (l.places ++ place ∷ [])
    pushed_there x d some r from last mid new place inside absent first second long =
        pushed (told value xs) l whole is (links_in value x) some (cell_0 x d some r) (told value mid) (told value new) place inside absent
        (subst (λ from. IsJoined (told value xs) from (place + 1) (told value mid)) last first) second (length-map new (links_in value) ∙ long ∙ sym as_many)

    pub first_inside : (x d : Links N) → 0 < l.cells → x ≡ get_or xs 0 d → value x.next < length xs
    first_inside x d some r = omega (arith, first_within (told value xs) l whole is (links_in value x) some (cell_0 x d some r), as_many)

    pub pushed_before : (x d : Links N) (some : 0 < l.cells) (r : x ≡ get_or xs 0 d) (to : ℕ) → to ≡ value x.next → (mid new : List (Links N)) (place : ℕ) → place < l.cells → (Contains l.places place → ⊥) → IsJoined (told value xs) (place + 1) to (told value mid) → IsJoined (told value mid) 0 (place + 1) (told value new) → length new ≡ length xs → IsRing (told value new) (place ∷ l.places)
    pushed_before x d some r to first mid new place inside absent joined second long =
        pushed_first (told value xs) l whole is (links_in value x) some (cell_0 x d some r) (told value mid) (told value new) place inside absent
        (subst (λ to. IsJoined (told value xs) (place + 1) to (told value mid)) first joined) second (length-map new (links_in value) ∙ long ∙ sym as_many)

    -- The last place is read at cell 0.
    pub last_read : (x d : Links N) → 0 < length xs → x ≡ get_or xs 0 d → place_of (value x.previous) ≡ slice_get l.places (length l.places - 1)
    last_read x d some r =
        let ring = ring_of (told value xs) l whole is in
        let cell = read 0 x d unlinked some r in
        ap (λ c. place_of (Links.previous c)) cell ∙ by l.places ring.linked
      where
        by : (ps : List ℕ) → LeadsThrough (told value xs) 0 ps 0 → place_of (previous_at (told value xs) 0) ≡ slice_get ps (length ps - 1)
        by [] linked = ap place_of linked.1
        by (p ∷ ps) linked = let e : length (p ∷ ps) - 1 ≡ length ps = omega arith in read_last (told value xs) ps 0 0 p linked ∙ ap (slice_get (p ∷ ps)) (sym e)

    -- The cells before and after the cell of a place.
    module _ (x d : Links N) (k place : ℕ) (here : slice_get l.places k ≡ Some place) (r : x ≡ get_or xs (place + 1) d) where
      pub before_inside : value x.previous < length xs
      before_inside = omega (arith, before_within (told value xs) l whole is (links_in value x) k place here (cell_of x d k place here r), as_many)

      pub after_inside : value x.next < length xs
      after_inside = omega (arith, after_within (told value xs) l whole is (links_in value x) k place here (cell_of x d k place here r), as_many)

      pub taken_there : (from to : ℕ) → from ≡ value x.previous → to ≡ value x.next → (new : List (Links N)) → IsJoined (told value xs) from to (told value new) → length new ≡ length xs → IsRing (told value new) (remove l.places k)
      taken_there from to before after new joined long =
          taken_out (told value xs) l whole is (links_in value x) k place here (cell_of x d k place here r) (told value new)
          (subst (λ from. IsJoined (told value xs) from (value x.next) (told value new)) before (subst (λ to. IsJoined (told value xs) from to (told value new)) after joined))
          (length-map new (links_in value) ∙ long ∙ sym as_many)

-- A place of a list has an index there.
pub place_in : (xs : List ℕ) (p : ℕ) → Contains xs p → (k : ℕ) × (slice_get xs k ≡ Some p)
place_in xs p c = (c.0, slice_get-get_or xs c.0 p c.1 ∙ ap Some c.2)
