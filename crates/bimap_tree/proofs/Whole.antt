-- The fields of an index, and what a contract sees of it.
use Rattle.std.proofs.Common.{◌≡◌, ℕ, ◌+◌, ◌-◌, ◌*◌, ◌^◌, ◌≤◌, ◌<◌, List, [], ◌∷◌, ◌++◌, Option, Some, None, length, refl, sym, subst, ◌∙◌, ap, arith, append_assoc, append-nil, length-append}
use Rattle.std.specs.Prelude.{IsSome, IfNone, slice_get}
use Rattle.std.specs.Cmp.{IsTotalOrder}
use Rattle.std.specs.List.{Contains}
use Rattle.std.specs.declared.cmp.Ordering.{Ordering}
use Rattle.std.specs.declared.cmp.Ordering.TheVariants.{Equal}
use Rattle.bimap_base.specs.declared.cells.Node.{Node}
use Rattle.bimap_base.specs.Digits.{bits, most_height}
use Rattle.bimap_base.specs.Keyed.{standing, Ascends, Follows, Adds, Drops}
use Rattle.bimap_base.specs.QueryLaws.{follows_itself}
use Rattle.bimap_tree.specs.Tree.{Tree, leaf, fork, reading, height, size, occurs, is_at, IsBalanced, IsDistinctTree, Stands, Shows, root_of}
use Rattle.bimap_tree.specs.IndexView.{IndexView, IsIndex, IsBalancedIndex, IsWhole, index_of, tree_in}
use Rattle.bimap_tree.specs.Order.{after_key, first_equal, IsSplit}
use Rattle.bimap_tree.specs.Path.{Path, top, plug, front, back, Wants, CanPut, IsRisen}
use Rattle.bimap_tree.specs.Remove.{CanTake, IsTaken}
use Rattle.bimap_tree.specs.Route.{IsNotedRoute, CanFollow, IsFollowed}
use Rattle.bimap_tree.specs.Search.{CanSeek}
use Rattle.bimap_tree.specs.Notes.{notes_of}
use Rattle.bimap_tree.specs.declared.route.Route.{Route}
use Rattle.bimap_tree.proofs.Ascending.{live_all, split, split_after, only_one, own_key, ascends_with, ascends_without}
use Rattle.bimap_tree.proofs.Distinct.{absent_reading, adds, drops, contains_occurs, occurs_all}
use Rattle.bimap_tree.proofs.Found.{none_of, one_of}
pub use Rattle.bimap_tree.proofs.Heights.{few_levels}
use Rattle.bimap_tree.proofs.Heights.{height-bound}
use Rattle.bimap_tree.proofs.IndexView.{tree_in-shown, whole_of}
use Rattle.bimap_tree.proofs.Paths.{occurs-plug, size-plug, reading-plug, steps_within, beside}
use Rattle.bimap_tree.proofs.Rooms.{size_room}
use Rattle.bimap_tree.proofs.Shown.{Shows-frame, no_root, a_fork, size-reading, with_absent, in_tree}

module _ (ns : List Node) (root : Option ℕ) (len : ℕ) (v : IndexView) (w : IsWhole ns root len) (e : index_of ns root ≡ v) where
  pub places_are : reading (tree_in ns root) ≡ v.places
  places_are = ap (λ x. x.places) e

  pub nodes_are : length ns ≡ length v.nodes
  nodes_are = ap (λ x. length x.nodes) e

  pub length_is : len ≡ length v.places
  length_is = w.counted ∙ sym (size-reading (tree_in ns root)) ∙ ap length places_are

  pub size_is : size (tree_in ns root) ≡ length v.places
  size_is = sym w.counted ∙ length_is

  pub few_in_height : most_height (size (tree_in ns root)) ≡ most_height (length v.places)
  few_in_height = ap most_height size_is

  few : size (tree_in ns root) < 2 ^ 64
  few = omega (arith, w.counted, w.few)

  -- The height is at most twice the number of binary digits of the length.
  pub height_within : height (tree_in ns root) ≤ most_height (length v.places)
  height_within = subst (λ x. height (tree_in ns root) ≤ 2 * bits x) size_is (height-bound (tree_in ns root) w.index.balanced)

  pub cost_within : (before after : ℕ) → ((t : Tree) → Stands ns root t → after ≤ before + height t) → after ≤ before + most_height (length v.places)
  cost_within before after h = omega (arith, h _ w.index.tree, height_within)

  pub rank_within : (rank : ℕ) → rank < length v.places → rank < size (tree_in ns root)
  rank_within rank h = omega (arith, h, size_is)

  -- What callers see of the index.
  pub shown_index : IsBalancedIndex v (tree_in ns root)
  shown_index = subst (λ x. IsBalancedIndex x (tree_in ns root)) e (record { tree = w.index; in_order = refl })

  pub listed_within : (p : ℕ) → Contains v.places p → p < length v.nodes
  listed_within p c =
      let here : Contains (reading (tree_in ns root)) p = subst (λ x. Contains x p) (sym places_are) c in
      omega (arith, nodes_are, in_tree ns (tree_in ns root) p w.index.tree.shown (contains_occurs (tree_in ns root) p here))

  -- ---- Cells are added.
  module _ (ms : List Node) (same : (k : ℕ) → k < length ns → slice_get ms k ≡ slice_get ns k) where
    still_stands : Stands ms root (tree_in ns root)
    still_stands = record { root_is = w.index.tree.root_is; shown = Shows-frame ns ms (tree_in ns root) (λ q n. same q (in_tree ns (tree_in ns root) q w.index.tree.shown n)) w.index.tree.shown }

    pub whole_grown : IsWhole ms root len
    whole_grown = whole_of ms root len (tree_in ns root) (record { tree = still_stands; balanced = w.index.balanced; distinct = w.index.distinct }) w.counted w.few

    pub tree_grown : tree_in ms root ≡ tree_in ns root
    tree_grown = tree_in-shown ms root (tree_in ns root) still_stands

    pub places_grown : reading (tree_in ms root) ≡ v.places
    places_grown = ap reading tree_grown ∙ places_are

  -- ---- Searches.
  module _ {K Q : Type 0} (key : ℕ → Option K) (order : K → K → Ordering) (to : K → Q → Ordering) (follows : Follows order to) (up : Ascends key order v.places) where
    -- Every tree that the index shows may be searched.
    pub can_seek_of : (t : Tree) → IsBalancedIndex v t → (k : Q) → CanSeek ns root (λ q. IsSome (key q)) (λ q. standing to (key q) (Some k)) t
    can_seek_of t shown k =
        let ascends : Ascends key order (reading t) = subst (λ x. Ascends key order x) (sym shown.in_order) up in
        record {
          tree = subst (λ x. Stands x.nodes x.root t) (sym e) shown.tree.tree;
          all_live = occurs_all (λ q. IsSome (key q)) t (live_all key order (reading t) ascends);
          in_order = split key order to follows k (reading t) ascends;
          fits = omega (arith, size-reading t, ap length shown.in_order, length_is, w.few);
        }

    pub can_seek : (k : Q) → CanSeek ns root (λ q. IsSome (key q)) (λ q. standing to (key q) (Some k)) (tree_in ns root)
    can_seek = can_seek_of (tree_in ns root) shown_index

    -- What a search of the tree returns.
    pub finds : (k : Q) (found : Option ℕ) → ((t : Tree) → CanSeek ns root (λ q. IsSome (key q)) (λ q. standing to (key q) (Some k)) t → found ≡ first_equal (λ q. standing to (key q) (Some k)) (reading t)) → found ≡ first_equal (λ q. standing to (key q) (Some k)) v.places
    finds k found h = h _ (can_seek k) ∙ ap (λ x. first_equal (λ q. standing to (key q) (Some k)) x) places_are

    pub can_seek_after : (k : Q) → CanSeek ns root (λ q. IsSome (key q)) (λ q. after_key (standing to (key q) (Some k))) (tree_in ns root)
    can_seek_after k = record { tree = (can_seek k).tree; all_live = (can_seek k).all_live; in_order = split_after (λ q. standing to (key q) (Some k)) (reading (tree_in ns root)) (can_seek k).in_order; fits = few }

  pub can_seek_place : {K : Type 0} (key : ℕ → Option K) (order : K → K → Ordering) → IsTotalOrder order → Ascends key order v.places → (place : ℕ) (k : K) → key place ≡ Some k → CanSeek ns root (λ q. IsSome (key q) × IsSome (key place)) (λ q. standing order (key q) (key place)) (tree_in ns root)
  can_seek_place key order total up place k is =
      let seek = can_seek key order order (follows_itself total) up k in
      subst (λ o. CanSeek ns root (λ q. IsSome (key q) × IsSome o) (λ q. standing order (key q) o) (tree_in ns root)) (sym is)
      (record { tree = seek.tree; all_live = λ q n. (seek.all_live q n, refl); in_order = seek.in_order; fits = few })

  pub can_follow : (live : ℕ → Type 0) (go : ℕ → Ordering) (route : Route) → CanSeek ns root live go (tree_in ns root) → CanFollow ns root live go route 0 top (tree_in ns root)
  can_follow live go route h = record {
    seek = h;
    follows = tt;
    depth_is = refl;
    wants = tt;
    deep = omega (arith, few_levels (tree_in ns root) w.index.balanced few);
  }

  -- The route that is left by a search that found nothing.
  pub route_left : (t : Tree) → IsBalancedIndex v t → (go : ℕ → Ordering) (route : Route) (found : Option ℕ) → found ≡ None → (low : Path) × (s : Tree) × IsFollowed go route route.depth found t low s → IsNotedRoute v go route
  route_left t shown go route found none (low, s, f) =
      let no : s ≡ leaf = no_root s (f.root_is ∙ none) in
      let is : t ≡ plug low leaf = sym f.whole ∙ ap (λ x. plug low x) no in
      record {
        path = low;
        of_index = subst (λ x. IsBalancedIndex v x) is shown;
        follows = f.follows;
        depth_is = f.depth_is;
        wants = f.wants;
      }

  pub route_if_none : (t : Tree) → IsBalancedIndex v t → (go : ℕ → Ordering) (route : Route) (found : Option ℕ) → (found ≡ None → (low : Path) × (s : Tree) × IsFollowed go route route.depth found t low s) → IfNone found (IsNotedRoute v go route)
  route_if_none t shown go route None f = route_left t shown go route None refl (f refl)
  route_if_none t shown go route (Some p) f = tt

  -- ---- A search for the key of a place.
  module _ {K : Type 0} (key : ℕ → Option K) (order : K → K → Ordering) (place : ℕ) (k : K) (is : key place ≡ Some k) (found : Option ℕ) (first : found ≡ first_equal (λ q. standing order (key q) (key place)) (reading (tree_in ns root))) where
    first_listed : found ≡ first_equal (λ q. standing order (key q) (Some k)) v.places
    first_listed =
        subst (λ o. found ≡ first_equal (λ q. standing order (key q) o) (reading (tree_in ns root))) is first
        ∙ ap (λ x. first_equal (λ q. standing order (key q) (Some k)) x) places_are

    -- It leads to no place, if no listed key is equal.
    pub place_route : ((p : ℕ) → Contains v.places p → standing order (key p) (Some k) ≡ Equal → ⊥) → (route : Route) → (low : Path) × (s : Tree) × IsFollowed (λ q. standing order (key q) (key place)) route route.depth found (tree_in ns root) low s → IsNotedRoute v (λ q. standing order (key q) (Some k)) route
    place_route unequal route f =
        route_left (tree_in ns root) shown_index (λ q. standing order (key q) (Some k)) route found (none_of (λ q. standing order (key q) (Some k)) v.places found first_listed unequal)
        (subst (λ o. (low : Path) × (s : Tree) × IsFollowed (λ q. standing order (key q) o) route route.depth found (tree_in ns root) low s) is f)

    -- It leads to the place, if the place is listed.
    pub place_found : IsTotalOrder order → Ascends key order v.places → Contains v.places place → found ≡ Some place
    place_found total up listed =
        one_of (λ q. standing order (key q) (Some k)) v.places found place first_listed listed (own_key key order total place k is)
        (λ p c s. only_one key order order (follows_itself total) v.places up k p place c listed s (own_key key order total place k is))

  -- ---- A place is inserted at the end of a route.
  module _ (go : ℕ → Ordering) (route : Route) (r : IsNotedRoute v go route) where
    at_fields : IsIndex ns root (plug r.path leaf)
    at_fields = subst (λ x. IsIndex x.nodes x.root (plug r.path leaf)) (sym e) r.of_index.tree

    pub put_root : root_of (plug r.path leaf) ≡ root
    put_root = at_fields.tree.root_is

    pub route_depth : route.depth ≤ most_height (length v.places)
    route_depth =
        let n : size (plug r.path leaf) ≡ length v.places = sym (size-reading (plug r.path leaf)) ∙ ap length r.of_index.in_order in
        let h : height (plug r.path leaf) ≤ 2 * bits (length v.places) = subst (λ x. height (plug r.path leaf) ≤ 2 * bits x) n (height-bound (plug r.path leaf) at_fields.balanced) in
        omega (arith, r.depth_is, steps_within r.path leaf)

    module _ (place rooms : ℕ) (cell : place < length v.nodes) (unlisted : Contains v.places place → ⊥) (counted : rooms ≡ length ns) (fits : rooms < 2 ^ 64) where
      none : occurs place (plug r.path leaf) ≡ 0
      none = absent_reading (plug r.path leaf) place (λ c. unlisted (subst (λ x. Contains x place) r.of_index.in_order c))

      within : place < length ns
      within = omega (arith, cell, nodes_are)

      room : size (plug r.path leaf) + 1 ≤ length ns
      room = size_room ns (plug r.path leaf) place at_fields.tree.shown within (λ q. with_absent (plug r.path leaf) place q at_fields.distinct none)

      pub can_put : CanPut ns (notes_of route) r.path place
      can_put = record {
        follows = r.follows;
        depth_is = r.depth_is;
        deep = omega (arith, r.depth_is, steps_within r.path leaf, few_levels (plug r.path leaf) at_fields.balanced (omega (arith, room, counted, fits)));
        shown = at_fields.tree.shown;
        distinct = λ q. omega (arith, with_absent (plug r.path leaf) place q at_fields.distinct none, occurs-plug q r.path leaf);
        balanced = at_fields.balanced;
        has_cell = within;
        fits = omega (arith, room, counted, fits, size-plug r.path leaf);
      }

      size_before : size (plug r.path leaf) ≡ len
      size_before = sym (size-reading (plug r.path leaf)) ∙ ap length r.of_index.in_order ∙ sym length_is

      pub len_fits : len + 1 < 2 ^ 64
      len_fits = omega (arith, room, counted, fits, size_before)

      module _ (ms : List Node) (last : Option ℕ) (done : (u : Tree) × IsRisen ns ms r.path (fork leaf place leaf) last u) where
        one_more : (q : ℕ) → occurs q done.0 ≡ occurs q (plug r.path leaf) + is_at q place
        one_more q = omega (arith, done.1.same_places q, occurs-plug q r.path leaf)

        read_now : reading done.0 ≡ front r.path ++ place ∷ back r.path
        read_now = done.1.in_order ∙ append_assoc (front r.path) (place ∷ []) (back r.path)

        read_before : v.places ≡ front r.path ++ back r.path
        read_before = sym r.of_index.in_order ∙ reading-plug r.path leaf ∙ ap (λ x. x ++ back r.path) (append-nil (front r.path))

        sized : size done.0 ≡ len + 1
        sized = omega (arith, size_before, size-reading done.0, ap length read_now, size-reading (plug r.path leaf), ap length r.of_index.in_order, ap length read_before, length-append (front r.path) (place ∷ back r.path), length-append (front r.path) (back r.path))

        pub put_whole : IsWhole ms last (len + 1)
        put_whole =
            whole_of ms last (len + 1) done.0
            (record { tree = done.1.tree; balanced = done.1.balanced; distinct = λ q. omega (arith, one_more q, with_absent (plug r.path leaf) place q at_fields.distinct none) })
            (sym sized) len_fits

        reads : reading (tree_in ms last) ≡ reading done.0
        reads = ap reading (tree_in-shown ms last done.0 done.1.tree)

        pub put_length : length (reading (tree_in ms last)) ≡ length v.places + 1
        put_length = ap length reads ∙ size-reading done.0 ∙ sized ∙ ap (λ x. x + 1) length_is

        pub put_adds : Adds v.places place (reading (tree_in ms last))
        put_adds =
            subst (λ x. Adds v.places place x) (sym reads)
            (subst (λ x. Adds x place (reading done.0)) r.of_index.in_order (adds (plug r.path leaf) done.0 place one_more))

        pub put_cells : length ms ≡ length v.nodes
        put_cells = done.1.same_length ∙ nodes_are

        pub put_ascends : {K : Type 0} (key : ℕ → Option K) (order : K → K → Ordering) → IsTotalOrder order → Ascends key order v.places → (k : K) → key place ≡ Some k → (go ≡ (λ q. standing order (key q) (Some k))) → Ascends key order (reading (tree_in ms last))
        put_ascends key order total up k is same =
            let parts : Ascends key order (front r.path ++ back r.path) = subst (λ x. Ascends key order x) read_before up in
            let divided : IsSplit (λ q. standing order (key q) (Some k)) (reading (plug r.path leaf)) = split key order order (follows_itself total) k (reading (plug r.path leaf)) (subst (λ x. Ascends key order x) (sym r.of_index.in_order) up) in
            let (less, more) = beside (λ q. standing order (key q) (Some k)) r.path leaf divided (subst (λ g. Wants g r.path) same r.wants) in
            subst (λ x. Ascends key order x) (sym (reads ∙ read_now))
            (ascends_with key order total (front r.path) (back r.path) place k is less more parts)

  -- ---- The place at the end of a route is removed.
  module _ (go : ℕ → Ordering) (route : Route) (found : ℕ) (low : Path) (s : Tree) (f : IsFollowed go route route.depth (Some found) (tree_in ns root) low s) where
    pub end : (l : Tree) × (r : Tree) × (s ≡ fork l found r)
    end = a_fork s found f.root_is

    pub is_whole : plug low (fork end.0 found end.1) ≡ tree_in ns root
    is_whole = ap (λ x. plug low x) (sym end.2) ∙ f.whole

    pub take_root : root_of (plug low (fork end.0 found end.1)) ≡ root
    take_root = ap root_of is_whole ∙ w.index.tree.root_is

    pub can_take : CanTake ns (notes_of route) low end.0 found end.1
    can_take = record {
      follows = f.follows;
      depth_is = f.depth_is;
      shown = subst (λ x. Shows ns x) (sym is_whole) w.index.tree.shown;
      distinct = subst (λ x. IsDistinctTree x) (sym is_whole) w.index.distinct;
      balanced = subst (λ x. IsBalanced x) (sym is_whole) w.index.balanced;
      deep = subst (λ x. height x ≤ 91) (sym is_whole) (few_levels (tree_in ns root) w.index.balanced few);
      fits = subst (λ x. size x < 2 ^ 64) (sym is_whole) few;
    }

    pub take_height : height (plug low (fork end.0 found end.1)) ≤ most_height (length v.places)
    take_height = subst (λ x. height x ≤ most_height (length v.places)) (sym is_whole) height_within

    module _ (ms : List Node) (last : Option ℕ) (done : (u : Tree) × IsTaken ns ms low end.0 end.1 last u) where
      one_less : (q : ℕ) → occurs q (tree_in ns root) ≡ occurs q done.0 + is_at q found
      one_less q = omega (arith, done.1.same_places q, occurs-plug q low (fork end.0 found end.1), ap (λ x. occurs q x) is_whole)

      was_read : v.places ≡ (front low ++ reading end.0) ++ found ∷ (reading end.1 ++ back low)
      was_read = sym places_are ∙ ap reading (sym is_whole) ∙ reading-plug low (fork end.0 found end.1) ∙ simp append_assoc

      now_read : reading done.0 ≡ (front low ++ reading end.0) ++ (reading end.1 ++ back low)
      now_read = done.1.in_order ∙ append_assoc (front low ++ reading end.0) (reading end.1) (back low)

      left_size : size done.0 + 1 ≡ len
      left_size = omega (arith, length_is, size-reading done.0, ap length now_read, ap length was_read, length-append (front low ++ reading end.0) (found ∷ (reading end.1 ++ back low)), length-append (front low ++ reading end.0) (reading end.1 ++ back low))

      left_reads : reading (tree_in ms last) ≡ reading done.0
      left_reads = ap reading (tree_in-shown ms last done.0 done.1.tree)

      pub take_whole : IsWhole ms last (len - 1)
      take_whole =
          whole_of ms last (len - 1) done.0
          (record { tree = done.1.tree; balanced = done.1.balanced; distinct = λ q. omega (arith, one_less q, w.index.distinct q) })
          (omega (arith, left_size)) (omega (arith, w.few))

      pub take_length : length (reading (tree_in ms last)) + 1 ≡ length v.places
      take_length = omega (arith, ap length left_reads, size-reading done.0, left_size, length_is)

      pub take_drops : Drops v.places found (reading (tree_in ms last))
      take_drops =
          subst (λ x. Drops v.places found x) (sym left_reads)
          (subst (λ x. Drops x found (reading done.0)) places_are (drops (tree_in ns root) done.0 found w.index.distinct one_less))

      pub take_cells : length ms ≡ length v.nodes
      take_cells = done.1.same_length ∙ nodes_are

      pub take_ascends : {K : Type 0} (key : ℕ → Option K) (order : K → K → Ordering) → Ascends key order v.places → Ascends key order (reading (tree_in ms last))
      take_ascends key order up =
          subst (λ x. Ascends key order x) (sym (left_reads ∙ now_read))
          (ascends_without key order (front low ++ reading end.0) (reading end.1 ++ back low) found (subst (λ x. Ascends key order x) was_read up))
