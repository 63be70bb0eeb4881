-- The invariants of loops down a tree. They say what the loop has cost, and what it finds from the present position.
use Rattle.std.proofs.Common.{◌≡◌, ◌≢◌, ℕ, ◌+◌, ◌-◌, ◌*◌, ◌≤◌, ◌<◌, ◌^◌, Bool, true, false, cond, List, Option, Some, None, length, subst, refl, sym, ◌∙◌, ap, arith, inl, inr}
use Rattle.std.proofs.Math.Nat.{mul-le-mul_left, mul-suc}
use Rattle.std.specs.Prelude.{slice_get}
use Rattle.std.specs.Ordering.{is_eq, is_lt}
use Rattle.std.specs.declared.cmp.Ordering.{Ordering}
use Rattle.std.specs.declared.cmp.Ordering.TheVariants.{Less, Equal, Greater}
use Rattle.bimap_base.specs.declared.cells.Node.{Node}
use Rattle.bimap_tree.specs.Tree.{Tree, Stands, reading, height, size, branch, near_of}
use Rattle.bimap_tree.specs.IndexView.{height_at}
use Rattle.bimap_tree.specs.Order.{first_equal, count_below}
use Rattle.bimap_tree.specs.Path.{Path, below, plug, wanted, Follows}
use Rattle.bimap_tree.specs.Notes.{Notes, IsNoted, packed, step_at}
use Rattle.bimap_tree.specs.Remove.{CanDescend, IsFirst}
use Rattle.bimap_tree.specs.Route.{CanFollow, IsFollowed}
use Rattle.bimap_tree.specs.declared.route.Route.{Route}
use Rattle.bimap_tree.specs.Search.{CanSeek}
use Rattle.bimap_tree.proofs.Branch.{opened_on, height-branch}
use Rattle.bimap_tree.proofs.Follow.{goes_on}
use Rattle.bimap_tree.proofs.Removes.{descent, first_here, first_left}
use Rattle.bimap_tree.proofs.Searches.{seek_into, found_right, found_left, found_here, counted_right, counted_left, counted_fits}
use Rattle.bimap_tree.proofs.Ranks.{rank_left, rank_here, rank_right}
use Rattle.bimap_tree.proofs.Shown.{no_root, opened, Stands-at, root_within, height_told, size-reading}
use Rattle.bimap_tree.proofs.Split.{count_length, less_or_not, not_less}
use Rattle.bimap_tree.proofs.Found.{equal_or_not}

-- ---- A test of how a place compares.
pub wants : (how go : Ordering) (same direction : Bool) → how ≡ go → same ≡ is_eq how → same ≡ false → direction ≡ is_lt how → go ≡ wanted direction
wants Less go same direction e f n t = sym e ∙ ap wanted (sym t)
wants Equal go same direction e f n t = cc
wants Greater go same direction e f n t = sym e ∙ ap wanted (sym t)

pub is_equal : (how go : Ordering) (same : Bool) → how ≡ go → same ≡ is_eq how → same ≡ true → go ≡ Equal
is_equal how go same e f y = elim (equal_or_not how) [ inl w ↦ cc | inr n ↦ cc ]

pub is_less : (how go : Ordering) (direction : Bool) → how ≡ go → direction ≡ is_lt how → direction ≡ true → go ≡ Less
is_less how go direction e f y = elim (less_or_not how) [ inl w ↦ cc | inr n ↦ let no = not_less how n in cc ]

pub is_not_less : (how go : Ordering) (direction : Bool) → how ≡ go → direction ≡ is_lt how → direction ≡ false → go ≢ Less
is_not_less how go direction e f n less = let is : is_lt how ≡ true = ap is_lt (e ∙ less) in cc

-- ---- The cost of a descent.
module _ (ns : List Node) (top : Option ℕ) (each before : ℕ) where
  -- Each level that the loop has passed has cost at most `each`.
  pub record Costs (root : Option ℕ) (now : ℕ) : Type 0 where
    pub within : (t : Tree) → Stands ns top t → (s : Tree) × Stands ns root s × (now + each * height s ≤ before + each * height t)

  pub costs_none : Costs top before
  costs_none = record { within = λ t h. (t, h, omega arith) }

  module _ (root : Option ℕ) (now : ℕ) (c : Costs root now) where
    pub costs_end : (t : Tree) → Stands ns top t → now ≤ before + each * height t
    costs_end t h = let (s, k, le) = c.within t h in omega arith

    module _ (at : ℕ) (is : root ≡ Some at) where
      pub cell_within : (t : Tree) → Stands ns top t → at < length ns
      cell_within t h = let (s, k, le) = c.within t h in root_within ns at s (Stands-at ns root (Some at) s is k)

      module _ (node : Node) (told : slice_get ns at ≡ Some node) (direction : Bool) where
        -- The subtree on the next level.
        near_stands : (s : Tree) → Stands ns root s → (near : Tree) × Stands ns (near_of direction node) near × (height near + 1 ≤ height s)
        near_stands s k =
            let (near, far, o) = opened_on ns root at direction node s k is told in
            (near, o.near_stands, omega (arith, ap height o.is, height-branch direction near at far))

        pub costs_on : (next : Option ℕ) → next ≡ near_of direction node → (later : ℕ) → later ≤ now + each → Costs next later
        costs_on next e later le = record {
          within = λ t h. let (s, k, few) = c.within t h in
              let (near, st, low) = near_stands s k in
              let m : each * (height near + 1) ≤ each * height s = mul-le-mul_left each low in
              (near, Stands-at ns (near_of direction node) next near (sym e) st, omega (arith, mul-suc each (height near)));
        }

        pub costs_last : (later : ℕ) → later ≤ now + each → (t : Tree) → Stands ns top t → later ≤ before + each * height t
        costs_last later le t h = let (s, k, few) = (costs_on (near_of direction node) refl later le).within t h in omega arith

        pub falls : (next : Option ℕ) → next ≡ near_of direction node → (t : Tree) → Stands ns top t → height_at ns next < height_at ns root
        falls next e t h =
            let (s, k, few) = c.within t h in
            let (near, st, low) = near_stands s k in
            omega (arith, height_told ns root s k, height_told ns next near (Stands-at ns (near_of direction node) next near (sym e) st))

-- A level costs three touches at most, and one if the search does not look ahead.
pub reads_within : (ahead : Bool) (levels : ℕ) → (1 + cond ahead 2 0) * levels ≤ 3 * levels
reads_within true levels = omega arith
reads_within false levels = omega arith

pub reads_alone : (ahead : Bool) (levels : ℕ) → ahead ≡ false → (1 + cond ahead 2 0) * levels ≡ levels
reads_alone true levels off = cc
reads_alone false levels off = omega arith

-- ---- What a descent finds.
module _ (ns : List Node) (live : ℕ → Type 0) (go : ℕ → Ordering) where
  -- The loop goes down in the direction `direction`.
  pub record StepOn (root : Option ℕ) (at : ℕ) (node : Node) (direction : Bool) (s near far : Tree) : Type 0 where
    pub is : s ≡ branch direction near at far
    pub can : CanSeek ns (near_of direction node) live go near
    pub found : go at ≡ wanted direction → first_equal go (reading s) ≡ first_equal go (reading near)

  pub step_on : (root : Option ℕ) (at : ℕ) (node : Node) (direction : Bool) (s : Tree) → CanSeek ns root live go s → root ≡ Some at → slice_get ns at ≡ Some node → (near : Tree) × (far : Tree) × StepOn root at node direction s near far
  step_on root at node true s h e f =
      let (l, r, i) = seek_into ns root at node live go s h e f in
      (r, l, record { is = i.is; can = i.can_right; found = λ w. found_right ns root at node live go s l r i w })
  step_on root at node false s h e f =
      let (l, r, i) = seek_into ns root at node live go s h e f in
      (l, r, record { is = i.is; can = i.can_left; found = λ w. found_left ns root at node live go s l r i w })

  pub here : (root : Option ℕ) (at : ℕ) (node : Node) (s : Tree) → CanSeek ns root live go s → root ≡ Some at → slice_get ns at ≡ Some node → go at ≡ Equal → first_equal go (reading s) ≡ Some at
  here root at node s h e f same =
      let (l, r, i) = seek_into ns root at node live go s h e f in
      found_here ns root at node live go s l r i same

  none_below : (root : Option ℕ) (s : Tree) → CanSeek ns root live go s → root ≡ None → count_below go (reading s) ≡ 0
  none_below root s h e = ap (λ t. count_below go (reading t)) (no_root s (h.tree.root_is ∙ e))

  none_here : (root : Option ℕ) (s : Tree) → CanSeek ns root live go s → root ≡ None → first_equal go (reading s) ≡ None
  none_here root s h e = ap (λ t. first_equal go (reading t)) (no_root s (h.tree.root_is ∙ e))

  live_here : (root : Option ℕ) (at : ℕ) (node : Node) (s : Tree) → CanSeek ns root live go s → root ≡ Some at → slice_get ns at ≡ Some node → live at
  live_here root at node s h e f = let (l, r, i) = seek_into ns root at node live go s h e f in i.at_live

  module _ (top : Option ℕ) where
    -- The loop finds from here what it would find from the top.
    pub record Finds (root : Option ℕ) : Type 0 where
      pub alike : (t : Tree) → CanSeek ns top live go t → (s : Tree) × CanSeek ns root live go s × (first_equal go (reading t) ≡ first_equal go (reading s))

    pub finds_top : Finds top
    finds_top = record { alike = λ t h. (t, h, refl) }

    module _ (root : Option ℕ) (d : Finds root) where
      pub finds_none : root ≡ None → (t : Tree) → CanSeek ns top live go t → None ≡ first_equal go (reading t)
      finds_none e t h = let (s, k, f) = d.alike t h in sym (f ∙ none_here root s k e)

      module _ (at : ℕ) (is : root ≡ Some at) (node : Node) (told : slice_get ns at ≡ Some node) where
        pub finds_live : (t : Tree) → CanSeek ns top live go t → live at
        finds_live t h = let (s, k, f) = d.alike t h in live_here root at node s k is told

        pub finds_here : go at ≡ Equal → (t : Tree) → CanSeek ns top live go t → Some at ≡ first_equal go (reading t)
        finds_here same t h = let (s, k, f) = d.alike t h in sym (f ∙ here root at node s k is told same)

        pub finds_on : (direction : Bool) → go at ≡ wanted direction → (next : Option ℕ) → next ≡ near_of direction node → Finds next
        finds_on direction w next e = record {
          alike = λ t h. let (s, k, f) = d.alike t h in
              let (near, far, o) = step_on root at node direction s k is told in
              (near, rw e o.can, f ∙ o.found w);
        }

    -- `rank` places are below the key, and further ones are counted from here on.
    pub record Counts (root : Option ℕ) (rank : ℕ) : Type 0 where
      pub alike : (t : Tree) → CanSeek ns top live go t → (s : Tree) × CanSeek ns root live go s × (count_below go (reading t) ≡ rank + count_below go (reading s))

    pub counts_top : Counts top 0
    counts_top = record { alike = λ t h. (t, h, omega arith) }

    module _ (root : Option ℕ) (rank : ℕ) (d : Counts root rank) where
      pub counts_none : root ≡ None → (t : Tree) → CanSeek ns top live go t → rank ≡ count_below go (reading t)
      counts_none e t h = let (s, k, f) = d.alike t h in omega (arith, f, none_below root s k e)

      module _ (at : ℕ) (is : root ≡ Some at) (node : Node) (told : slice_get ns at ≡ Some node) where
        pub counts_live : (t : Tree) → CanSeek ns top live go t → live at
        counts_live t h = let (s, k, f) = d.alike t h in live_here root at node s k is told

        -- The subtree on the left.
        pub counts_left : (t : Tree) → CanSeek ns top live go t → (l : Tree) × Stands ns node.left l × (size l + 1 < 2 ^ 64) × (go at ≡ Less → rank + (size l + 1) < 2 ^ 64)
        counts_left t h =
            let (s, k, f) = d.alike t h in
            let (l, r, i) = seek_into ns root at node live go s k is told in
            (l, i.can_left.tree, omega (arith, counted_fits ns root at node live go s l r i, k.fits), λ less. omega (arith, f, counted_right ns root at node live go s l r i less, count_length go (reading t), size-reading t, h.fits))

        module _ (direction : Bool) (next : Option ℕ) (e : next ≡ near_of direction node) (later : ℕ) where
          pub counts_below : direction ≡ true → go at ≡ Less → (sized : ℕ) → ((l : Tree) → Stands ns node.left l → sized ≡ size l) → later ≡ rank + (sized + 1) → Counts next later
          counts_below right less sized counted now = record {
            alike = λ t h. let (s, k, f) = d.alike t h in
                let (l, r, i) = seek_into ns root at node live go s k is told in
                let same : next ≡ node.right = e ∙ ap (λ x. near_of x node) right in
                (r, rw same i.can_right, omega (arith, now, f, counted_right ns root at node live go s l r i less, counted l i.can_left.tree));
          }

          pub counts_above : direction ≡ false → go at ≢ Less → later ≡ rank → Counts next later
          counts_above left n now = record {
            alike = λ t h. let (s, k, f) = d.alike t h in
                let (l, r, i) = seek_into ns root at node live go s k is told in
                let same : next ≡ node.left = e ∙ ap (λ x. near_of x node) left in
                (l, rw same i.can_left, omega (arith, now, f, counted_left ns root at node live go s l r i n));
          }

-- ---- Where a rank leads.
module _ (ns : List Node) (top : Option ℕ) (first : ℕ) where
  -- The place at this rank from here is the place at the first rank from the top.
  pub record Leads (root : Option ℕ) (rank : ℕ) : Type 0 where
    pub alike : (t : Tree) → Stands ns top t → first < size t → (s : Tree) × Stands ns root s × (rank < size s) × ((p : ℕ) → slice_get (reading s) rank ≡ Some p → slice_get (reading t) first ≡ Some p)

  pub leads_top : Leads top first
  leads_top = record { alike = λ t h few. (t, h, few, λ p e. e) }

  module _ (root : Option ℕ) (rank : ℕ) (d : Leads root rank) where
    pub leads_none : root ≡ None → (t : Tree) → Stands ns top t → first < size t → ⊥
    leads_none e t h few = let (s, k, low, f) = d.alike t h few in absurd (omega (arith, ap size (no_root s (k.root_is ∙ e))))

    module _ (at : ℕ) (is : root ≡ Some at) (node : Node) (told : slice_get ns at ≡ Some node) where
      -- The subtree on the left.
      pub leads_before : (t : Tree) → Stands ns top t → first < size t → (l : Tree) × Stands ns node.left l
      leads_before t h few =
          let (s, k, low, f) = d.alike t h few in
          let (l, r, i) = opened ns root at node s k is told in
          (l, i.left_stands)

      module _ (before : ℕ) (counted : (l : Tree) → Stands ns node.left l → before ≡ size l) where
        pub leads_here : rank ≡ before → (t : Tree) → Stands ns top t → first < size t → slice_get (reading t) first ≡ Some at
        leads_here e t h few =
            let (s, k, low, f) = d.alike t h few in
            let (l, r, i) = opened ns root at node s k is told in
            f at (rank_here s l r at rank i.is (e ∙ counted l i.left_stands))

        pub leads_left : rank < before → Leads node.left rank
        leads_left lt = record {
          alike = λ t h few. let (s, k, low, f) = d.alike t h few in
              let (l, r, i) = opened ns root at node s k is told in
              let less : rank < size l = omega (arith, lt, counted l i.left_stands) in
              (l, i.left_stands, less, λ p e. f p (rank_left s l r at rank p i.is less e));
        }

        pub leads_right : before < rank → Leads node.right (rank - (before + 1))
        leads_right gt = record {
          alike = λ t h few. let (s, k, low, f) = d.alike t h few in
              let (l, r, i) = opened ns root at node s k is told in
              let b = counted l i.left_stands in
              let n = ap size i.is in
              (r, i.right_stands, omega arith, λ p e. f p (rank_right s l r at rank (rank - (before + 1)) p i.is (omega arith) e));
        }

-- ---- A route that is noted.
module _ (ns : List Node) (live : ℕ → Type 0) (go : ℕ → Ordering) (top : Option ℕ) (first : Route) (start : ℕ) where
  -- The route has come to here. The search finds from here what it would find from its start.
  pub record Goes (root : Option ℕ) (now : Route) (depth : ℕ) : Type 0 where
    pub alike : (path : Path) (s : Tree) → CanFollow ns top live go first start path s → (low : Path) × (e : Tree) × CanFollow ns root live go now depth low e × (plug low e ≡ plug path s) × (first_equal go (reading s) ≡ first_equal go (reading e))

  pub goes_top : Goes top first start
  goes_top = record { alike = λ path s h. (path, s, h, refl, refl) }

  module _ (root : Option ℕ) (now : Route) (depth : ℕ) (d : Goes root now depth) where
    pub goes_none : root ≡ None → (path : Path) (s : Tree) → CanFollow ns top live go first start path s → None ≡ first_equal go (reading s)
    goes_none e path s h = let (low, x, k, w, f) = d.alike path s h in sym (f ∙ none_here ns live go root x k.seek e)

    -- When the loop ends, the search is complete.
    pub goes_end : (found : Option ℕ) → found ≡ root → (last : Route) → step_at last ≡ step_at now → (path : Path) (s : Tree) → CanFollow ns top live go first start path s → (low : Path) × (e : Tree) × IsFollowed go last depth found (plug path s) low e
    goes_end found same last noted path s h =
        let (low, x, k, w, f) = d.alike path s h in
        (low, x, record { whole = w; follows = subst (λ x. Follows packed x low) (sym noted) k.follows; depth_is = k.depth_is; wants = k.wants; root_is = k.seek.tree.root_is ∙ sym same })

    module _ (at : ℕ) (is : root ≡ Some at) (node : Node) (told : slice_get ns at ≡ Some node) where
      pub goes_live : (path : Path) (s : Tree) → CanFollow ns top live go first start path s → live at
      goes_live path s h = let (low, x, k, w, f) = d.alike path s h in live_here ns live go root at node x k.seek is told

      pub goes_deep : (path : Path) (s : Tree) → CanFollow ns top live go first start path s → depth < 91
      goes_deep path s h =
          let (low, x, k, w, f) = d.alike path s h in
          let (near, far, o) = step_on ns live go root at node true x k.seek is told in
          omega (arith, k.deep, ap height o.is)

      pub goes_here : go at ≡ Equal → (path : Path) (s : Tree) → CanFollow ns top live go first start path s → Some at ≡ first_equal go (reading s)
      goes_here same path s h = let (low, x, k, w, f) = d.alike path s h in sym (f ∙ here ns live go root at node x k.seek is told same)

      pub goes_down : (direction : Bool) → go at ≡ wanted direction → (next : Option ℕ) → next ≡ near_of direction node → (then : Route) → IsNoted (step_at now) depth (packed at, direction) (step_at then) → Goes next then (depth + 1)
      goes_down direction w next e then noted = record {
        alike = λ path s h. let (low, x, k, whole, f) = d.alike path s h in
            let (near, far, o) = step_on ns live go root at node direction x k.seek is told in
            let can : CanSeek ns next live go near = rw e o.can in (
              below low direction at far,
              near,
              goes_on ns root next live go now then depth low x k direction near far at o.is can w noted,
              ap (λ y. plug low y) (sym o.is) ∙ whole,
              f ∙ o.found w,
            );
      }

      pub goes_right : (direction : Bool) → direction ≡ true → go at ≡ Less → (next : Option ℕ) → next ≡ node.right → (then : Route) → IsNoted (step_at now) depth (packed at, direction) (step_at then) → Goes next then (depth + 1)
      goes_right direction right less next e then noted = goes_down direction (less ∙ ap wanted (sym right)) next (e ∙ ap (λ x. near_of x node) (sym right)) then noted

-- ---- The route to a tree's first place.
module _ (ns : List Node) (top start : ℕ) (old : Notes) where
  -- The route that is noted from here on belongs to the route that is noted from the top.
  pub record Descends (at depth : ℕ) (now : Notes) : Type 0 where
    pub alike : (s : Tree) → CanDescend ns top start s → (e : Tree) × CanDescend ns at depth e × ((last : Notes) (first low : ℕ) → (lefts : List (ℕ × Tree)) × (rest : Tree) × IsFirst now last depth e first low lefts rest → (lefts : List (ℕ × Tree)) × (rest : Tree) × IsFirst old last start s first low lefts rest)

  pub descends_top : Descends top start old
  descends_top = record { alike = λ s h. (s, h, λ last first low i. i) }

  module _ (at depth : ℕ) (now : Notes) (d : Descends at depth now) (node : Node) (told : slice_get ns at ≡ Some node) where
    pub descends_deep : (s : Tree) → CanDescend ns top start s → depth < 91
    descends_deep s h = let (e, k, f) = d.alike s h in let (l, r, i) = descent ns at depth node e k told in i.here

    pub descends_end : node.left ≡ None → (s : Tree) → CanDescend ns top start s → (lefts : List (ℕ × Tree)) × (rest : Tree) × IsFirst old now start s at depth lefts rest
    descends_end none s h = let (e, k, f) = d.alike s h in f now at depth (first_here ns at depth node e k told none now)

    pub descends_on : (left : ℕ) → node.left ≡ Some left → (next : Notes) → IsNoted now.step_at depth (now.kept at, false) next.step_at → next.kept ≡ now.kept → Descends left (depth + 1) next
    descends_on left is next noted same = record {
      alike = λ s h. let (e, k, f) = d.alike s h in
          let (l, r, i) = descent ns at depth node e k told in (
            l,
            record { tree = Stands-at ns node.left (Some left) l is i.left_stands; deep = i.deeper },
            λ last first low w. f last first low (first_left ns at depth node e k told now next last l r i noted same first low w),
          );
    }
