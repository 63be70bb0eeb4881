-- Searches that are under way.
use Rattle.std.proofs.Common.{◌≡◌, ◌⊎◌, inl, inr, ℕ, ◌+◌, ◌≤◌, ◌<◌, Bool, true, false, cond, List, Option, Some, None, length, refl, sym, subst, ◌∙◌, ap, arith, lit<}
use Rattle.std.specs.Prelude.{IsSome, IfNone, is_some}
use Rattle.std.specs.Cmp.{IsTotalOrder}
use Rattle.std.specs.List.{Contains}
use Rattle.std.specs.declared.cmp.Ordering.{Ordering}
use Rattle.std.specs.declared.cmp.Ordering.TheVariants.{Equal, Less}
use Rattle.bimap_base.specs.declared.cells.Node.{Node}
use Rattle.bimap_base.specs.Digits.{most_height}
use Rattle.bimap_base.specs.Keyed.{standing, Ascends}
use Rattle.bimap_base.specs.QueryLaws.{follows_itself}
use Rattle.bimap_tree.specs.Tree.{Tree, Shows, Stands, leaf, fork, reading, size, root_of, branch, node_of}
use Rattle.bimap_tree.specs.IndexView.{IndexView, IsBalancedIndex, IsWhole, index_of, tree_in, height_at}
use Rattle.bimap_tree.specs.Order.{first_equal}
use Rattle.bimap_tree.specs.Notes.{packed, step_at}
use Rattle.bimap_tree.specs.Path.{Path, top, below, plug, steps, Follows, Wants, wanted}
use Rattle.bimap_tree.specs.Route.{CanFollow, IsFollowed, IsNotedRoute, IsPast, IsRoute}
use Rattle.bimap_tree.specs.Search.{CanSeek}
use Rattle.bimap_tree.specs.Descent.{IsDown, IsUnderWay, levels_below, levels_left}
use Rattle.bimap_tree.specs.declared.descent.Descent.{Descent}
use Rattle.bimap_tree.specs.declared.route.Route.{Route}
use Rattle.bimap_tree.proofs.Descents.{here}
use Rattle.bimap_tree.proofs.Heights.{below_bound}
use Rattle.bimap_tree.proofs.Paths.{steps_within}
use Rattle.bimap_tree.proofs.Searches.{seek_into, found_left, found_right}
use Rattle.bimap_tree.proofs.Shown.{a_fork, height_told, no_root}
use Rattle.bimap_tree.proofs.Whole.{can_seek_of, few_levels, height_within, route_if_none, shown_index, size_is}

-- A search that has not found the key yet may still go down all levels below.
pub levels_on : (ns : List Node) (descent : Descent) → descent.is_found ≡ false → levels_below ns descent ≡ height_at ns descent.root
levels_on ns descent e = ap (λ b. cond b 0 (height_at ns descent.root)) e

pub true_or_not : (b : Bool) → (b ≡ true) ⊎ (b ≡ false)
true_or_not true = inl refl
true_or_not false = inr refl

-- A place, or none.
pub some_or_none : (found : Option ℕ) → ((place : ℕ) × (found ≡ Some place)) ⊎ (found ≡ None)
some_or_none (Some place) = inl (place, refl)
some_or_none None = inr refl

pub is_none_of : (found : Option ℕ) → is_some found ≡ false → found ≡ None
is_none_of (Some place) e = let no : true ≡ false = e in absurd (cc)
is_none_of None e = refl

no_steps : (path : Path) → steps path ≡ 0 → path ≡ top
no_steps top e = refl
no_steps (below up direction p sister) e = absurd (cc)

-- The tree without a root has no places.
pub none_listed : (ns : List Node) (t : Tree) {root : Option ℕ} → Stands ns root t → root ≡ None → size t ≡ 0
none_listed ns t h none = ap size (no_root t (h.root_is ∙ none))

-- What a search may still take.
module _ (ns : List Node) (descent : Descent) where
  pub levels_whole : (place : ℕ) → descent.top ≡ Some place → levels_left ns descent ≡ height_at ns descent.top + 1
  levels_whole place t = ap (λ b. cond b (height_at ns descent.top + 1) (levels_below ns descent)) (ap is_some t)

  pub levels_down : descent.top ≡ None → levels_left ns descent ≡ levels_below ns descent
  levels_down n = ap (λ b. cond b (height_at ns descent.top + 1) (levels_below ns descent)) (ap is_some n)

-- The search has made a step. If it had no subtree to go down, nothing has changed.
module _ (ns : List Node) (descent later : Descent) (same : later.top ≡ descent.top) (still : descent.root ≡ None → later ≡ descent) (whole : (place : ℕ) → descent.top ≡ Some place → descent.root ≡ None) where
  pub spends : (spent before : ℕ) → spent + levels_below ns later ≤ before + levels_below ns descent → spent + levels_left ns later ≤ before + levels_left ns descent
  spends spent before le =
      elim (some_or_none descent.top) [
        | inl t ↦ let is = still (whole t.0 t.1) in omega (arith, le, ap (λ d. levels_below ns d) is, ap (λ d. levels_left ns d) is)
        | inr n ↦ omega (arith, le, levels_down ns descent n, levels_down ns later (same ∙ n))
      ]

  pub goes_down : levels_below ns later < levels_below ns descent → levels_left ns later < levels_left ns descent
  goes_down le =
      elim (some_or_none descent.top) [
        | inl t ↦ absurd (omega (arith, le, ap (λ d. levels_below ns d) (still (whole t.0 t.1))))
        | inr n ↦ omega (arith, le, levels_down ns descent n, levels_down ns later (same ∙ n))
      ]

module _ (ns : List Node) (live : ℕ → Type 0) (go : ℕ → Ordering) where
  -- A key that is found at the top is the first equal key.
  pub found_at : (root : Option ℕ) (s : Tree) (place : ℕ) → CanSeek ns root live go s → root ≡ Some place → go place ≡ Equal → root ≡ first_equal go (reading s)
  found_at root s place h e same =
      let (l, r, whole) = a_fork s place (h.tree.root_is ∙ e) in
      let shown : Shows ns (fork l place r) = subst (λ x. Shows ns x) whole h.tree.shown in
      e ∙ sym (here ns live go root place (node_of l r) s h e shown.0 same)

  a_level : (direction : Bool) (s sister : Tree) (p : ℕ) → CanSeek ns (root_of (branch direction s p sister)) live go (branch direction s p sister) → go p ≡ wanted direction → CanSeek ns (root_of s) live go s × (first_equal go (reading (branch direction s p sister)) ≡ first_equal go (reading s))
  a_level true s sister p h w =
      let (l, r, i) = seek_into ns (Some p) p (node_of sister s) live go (fork sister p s) h refl h.tree.shown.0 in
      let same : r ≡ s = let e = i.is in cc in
      (subst (λ x. CanSeek ns (root_of s) live go x) same i.can_right, found_right ns (Some p) p (node_of sister s) live go (fork sister p s) l r i w ∙ ap (λ x. first_equal go (reading x)) same)
  a_level false s sister p h w =
      let (l, r, i) = seek_into ns (Some p) p (node_of s sister) live go (fork s p sister) h refl h.tree.shown.0 in
      let same : l ≡ s = let e = i.is in cc in
      (subst (λ x. CanSeek ns (root_of s) live go x) same i.can_left, found_left ns (Some p) p (node_of s sister) live go (fork s p sister) l r i w ∙ ap (λ x. first_equal go (reading x)) same)

  -- If a route leads down a tree that may be searched, its subtree may be searched. The search finds the same there as in the
  -- whole tree.
  seek_along : (root : Option ℕ) (path : Path) (s : Tree) → CanSeek ns root live go (plug path s) → Wants go path → CanSeek ns (root_of s) live go s × (first_equal go (reading (plug path s)) ≡ first_equal go (reading s))
  seek_along root top s h w = (subst (λ x. CanSeek ns x live go s) (sym h.tree.root_is) h, refl)
  seek_along root (below up direction p sister) s h w =
      let (k, f) = seek_along root up (branch direction s p sister) h w.1 in
      let (m, e) = a_level direction s sister p k w.0 in
      (m, f ∙ e)

module _ (ns : List Node) (root : Option ℕ) (len : ℕ) (v : IndexView) (w : IsWhole ns root len) (e : index_of ns root ≡ v) (descent : Descent) (no_step : descent.depth ≡ 0) (not_found : descent.is_found ≡ false) where
  -- A search from the top that has not gone down yet.
  pub starts_down : descent.root ≡ root → (go : ℕ → Ordering) (route : Route) → IsDown v go descent route
  starts_down at_root go route = record {
    path = top;
    rest = tree_in ns root;
    of_index = shown_index ns root len v w e;
    root_is = w.index.tree.root_is ∙ sym at_root;
    follows = tt;
    depth_is = no_step;
    wants = tt;
    found = λ y. absurd (let x : false ≡ true = sym not_found ∙ y in cc);
  }

  -- A new search, which tries the last place first or not.
  module _ (tries : Bool) (first : tries ≡ true → (descent.root ≡ None) × (descent.top ≡ root)) (goes : tries ≡ false → (descent.root ≡ root) × (descent.top ≡ None)) where
    pub starts : (go : ℕ → Ordering) (route : Route) → IsUnderWay v go descent route
    starts go route =
        elim (true_or_not tries) [
          | inl t ↦ record {
            down = λ n. starts_down ((first t).0 ∙ sym n ∙ (first t).1) go route;
            whole = λ place is. ((first t).1 ∙ ap (λ x. x.root) e, (first t).0, no_step, not_found);
          }
          | inr f ↦ record {
            down = λ n. starts_down (goes f).0 go route;
            whole = λ place is. absurd (let no : None ≡ Some place = sym (goes f).1 ∙ is in cc);
          }
        ]

    pub left_at_start : (tries ≡ true → 0 < size (tree_in ns root)) → levels_left v.nodes descent ≤ most_height (length v.places)
    left_at_start some =
        let h = height_told v.nodes v.root (tree_in ns root) (shown_index ns root len v w e).tree.tree in
        elim (true_or_not tries) [
          | inl t ↦ let r : height_at v.nodes descent.top ≡ height_at v.nodes v.root = ap (λ x. height_at v.nodes x) ((first t).1 ∙ ap (λ x. x.root) e) in
              elim (some_or_none descent.top) [
                | inl p ↦ omega (arith, h, r, levels_whole v.nodes descent p.0 p.1, below_bound (tree_in ns root) w.index.balanced (some t), ap most_height (size_is ns root len v w e))
                | inr n ↦ omega (arith, levels_down v.nodes descent n, levels_on v.nodes descent not_found, h, r, ap (λ x. height_at v.nodes x) ((first t).0 ∙ sym n), below_bound (tree_in ns root) w.index.balanced (some t), ap most_height (size_is ns root len v w e))
              ]
          | inr f ↦ let r : height_at v.nodes descent.root ≡ height_at v.nodes v.root = ap (λ x. height_at v.nodes x) ((goes f).0 ∙ ap (λ x. x.root) e) in
              omega (arith, levels_on v.nodes descent not_found, h, r, levels_down v.nodes descent (goes f).1, height_within ns root len v w e)
        ]

-- No place past which a key is has this key.
pub past_none : (v : IndexView) (go : ℕ → Ordering) → IsPast v go → (p : ℕ) → Contains v.places p → go p ≡ Equal → ⊥
past_none v go past p there same = let no : Less ≡ Equal = sym (past p there) ∙ same in cc

-- The route past the last place has no entries of its own.
pub of_past : (v : IndexView) (go : ℕ → Ordering) (route : Route) → route.is_past ≡ true → IsPast v go → IsRoute v go route
of_past v go route e past = record {
  noted = λ y. absurd (let x : true ≡ false = sym e ∙ y in cc);
  past = λ y. past;
}

-- If a search has come to no place, and has taken no step, the index lists nothing.
pub at_none : (v : IndexView) (go : ℕ → Ordering) (descent : Descent) (route : Route) → IsDown v go descent route → descent.root ≡ None → descent.depth ≡ 0 → v.root ≡ None
at_none v go descent route u none no_step =
    let empty : u.rest ≡ leaf = no_root u.rest (u.root_is ∙ none) in
    sym u.of_index.tree.tree.root_is ∙ ap (λ x. root_of (plug u.path x)) empty ∙ ap (λ x. root_of (plug x leaf)) (no_steps u.path (sym u.depth_is ∙ no_step))

-- A search that has a subtree to go down, or has taken a step, does not try the last place first.
pub is_down : (v : IndexView) (go : ℕ → Ordering) (descent : Descent) (route : Route) → IsUnderWay v go descent route → (descent.root ≡ None → descent.depth ≡ 0 → ⊥) → descent.top ≡ None
is_down v go descent route u goes =
    elim (some_or_none descent.top) [
      | inl t ↦ let (is, none, no_step, not_found) = u.whole t.0 t.1 in absurd (goes none no_step)
      | inr n ↦ n
    ]

-- A route with the entries of a noted one leads there too.
pub of_noted : (v : IndexView) (go : ℕ → Ordering) (noted route : Route) (found : Option ℕ) → route.is_past ≡ false → step_at route ≡ step_at noted → route.depth ≡ noted.depth → IfNone found (IsNotedRoute v go noted) → IfNone found (IsRoute v go route)
of_noted v go noted route (Some p) e same deep r = tt
of_noted v go noted route None e same deep r = record {
  noted = λ y. record { path = r.path; of_index = r.of_index; follows = subst (λ f. Follows packed f r.path) (sym same) r.follows; depth_is = deep ∙ r.depth_is; wants = r.wants };
  past = λ y. absurd (let x : false ≡ true = sym e ∙ y in cc);
}

module _ (ns : List Node) (root : Option ℕ) (len : ℕ) (v : IndexView) (w : IsWhole ns root len) (e : index_of ns root ≡ v) {K : Type 0} (key : ℕ → Option K) (order : K → K → Ordering) (total : IsTotalOrder order) (up : Ascends key order v.places) (k : K) (descent : Descent) where
  -- Which places have a key, and how each compares with the key that is searched for.
  abbrev live : ℕ → Type 0
  live = λ q. IsSome (key q)

  abbrev go : ℕ → Ordering
  go = λ q. standing order (key q) (Some k)

  -- A search that has come down may go on. It finds what it would have found from the top.
  pub goes_on_down : (route : Route) (u : IsDown v go descent route) → CanFollow ns descent.root live go route descent.depth u.path u.rest × (first_equal go v.places ≡ first_equal go (reading u.rest))
  goes_on_down route u =
      let whole = can_seek_of ns root len v w e key order order (follows_itself total) up (plug u.path u.rest) u.of_index k in
      let (can, found) = seek_along ns live go root u.path u.rest whole u.wants in (
        record {
          seek = subst (λ x. CanSeek ns x live go u.rest) u.root_is can;
          follows = u.follows;
          depth_is = u.depth_is;
          wants = u.wants;
          deep = omega (arith, u.depth_is, steps_within u.path u.rest, few_levels (plug u.path u.rest) u.of_index.tree.balanced whole.fits);
        },
        ap (λ x. first_equal go x) (sym u.of_index.in_order) ∙ found,
      )

  -- A search that is to try the last place first has no subtree to go down.
  pub stays_whole : (route : Route) → descent.root ≡ None → descent.depth ≡ 0 → CanFollow ns descent.root live go route descent.depth top leaf
  stays_whole route none no_step = record {
    seek = record { tree = record { root_is = sym none; shown = tt }; all_live = λ q some. absurd (omega (arith, some)); in_order = tt; fits = lit< tt };
    follows = tt;
    depth_is = no_step;
    wants = tt;
    deep = omega (arith, no_step);
  }

  pub can_step : (route : Route) (u : IsUnderWay v go descent route) → (path : Path) × (s : Tree) × CanFollow ns descent.root live go route descent.depth path s
  can_step route u =
      elim (some_or_none descent.top) [
        | inl t ↦ let (is, none, no_step, not_found) = u.whole t.0 t.1 in (top, leaf, stays_whole route none no_step)
        | inr n ↦ (_, _, (goes_on_down route (u.down n)).0)
      ]

  -- Where the search is after one level more.
  pub goes_further : (old next : Route) (u : IsUnderWay v go descent old) (later : Descent) → later.top ≡ descent.top → (descent.root ≡ None → later ≡ descent) → ((path : Path) (s : Tree) → CanFollow ns descent.root live go old descent.depth path s → (low : Path) × (rest : Tree) × IsFollowed go next later.depth later.root (plug path s) low rest) → (later.is_found ≡ true → (later ≡ descent) ⊎ ((place : ℕ) × (later.root ≡ Some place) × (go place ≡ Equal))) → IsUnderWay v go later next
  goes_further old next u later same still goes found = record {
    down = λ n. let d = u.down (sym same ∙ n) in
        let (low, rest, f) = goes _ _ (goes_on_down old d).0 in
        record {
          path = low;
          rest = rest;
          of_index = subst (λ x. IsBalancedIndex v x) (sym f.whole) d.of_index;
          root_is = f.root_is;
          follows = f.follows;
          depth_is = f.depth_is;
          wants = f.wants;
          found = λ y. elim (found y) [
            | inl is ↦ let (place, at, equal) = d.found (sym (ap (λ x. x.is_found) is) ∙ y) in (place, ap (λ x. x.root) is ∙ at, equal)
            | inr there ↦ there
          ];
        };
    whole = λ place is. let was = u.whole place (sym same ∙ is) in subst (λ d. (d.top ≡ v.root) × (d.root ≡ None) × (d.depth ≡ 0) × (d.is_found ≡ false)) (sym (still was.1)) was;
  }

  -- What a completed search returns, and where its route leads.
  module _ (old : Route) (u : IsDown v go descent old) (found : Option ℕ) where
    pub finds_on : ((path : Path) (s : Tree) → CanFollow ns descent.root live go old descent.depth path s → found ≡ first_equal go (reading s)) → found ≡ first_equal go v.places
    finds_on h = let (can, first) = goes_on_down old u in h _ _ can ∙ sym first

    pub leads_on : (next : Route) → ((path : Path) (s : Tree) → CanFollow ns descent.root live go old descent.depth path s → found ≡ None → (low : Path) × (rest : Tree) × IsFollowed go next next.depth found (plug path s) low rest) → IfNone found (IsNotedRoute v go next)
    leads_on next h = route_if_none ns root len v w e _ u.of_index _ next found (h _ _ (goes_on_down old u).0)
