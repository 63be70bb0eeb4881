-- The rotations of a tree that is two levels higher in one direction.
use Rattle.std.proofs.Common.{◌≡◌, ℕ, ◌+◌, ◌^◌, ◌≤◌, ◌<◌, max, Bool, true, false, not, List, ◌∷◌, Option, Some, refl, sym, subst, ◌∙◌, ap, arith, length, append_assoc, length-set}
use Rattle.std.specs.Prelude.{slice_get, slice_set}
use Rattle.std.proofs.lemmas.Option.{slice_get_within}
use Rattle.bimap_base.specs.declared.cells.Node.{Node}
use Rattle.bimap_tree.specs.Tree.{Tree, reading, height, size, root_of, IsBalanced, Shows, Stands, is_at, occurs, branch, node_on, near_of, far_of}
use Rattle.bimap_tree.specs.Link.{CanRebalance, IsRebalanced}
use Rattle.bimap_tree.proofs.Shown.{is_at-same, is_at-apart, Shows-frame, get-elsewhere}
use Rattle.bimap_tree.proofs.Heights.{low}
use Rattle.bimap_tree.proofs.Rooms.{room_for}
use Rattle.bimap_tree.proofs.Branch.{branch-not, height-branch, size-branch, occurs-branch, Parts, parts, Level, level, IsBalanced-branch, Shows-linked, opened_on}

single_reading : (direction : Bool) (a : Tree) (heavy : ℕ) (b : Tree) (place : ℕ) (r : Tree) → reading (branch direction a heavy (branch direction b place r)) ≡ reading (branch direction (branch direction a heavy b) place r)
single_reading true a heavy b place r = append_assoc (reading r) (place ∷ reading b) (heavy ∷ reading a)
single_reading false a heavy b place r = sym (append_assoc (reading a) (heavy ∷ reading b) (place ∷ reading r))

double_reading : (direction : Bool) (a : Tree) (heavy : ℕ) (b : Tree) (middle : ℕ) (d : Tree) (place : ℕ) (r : Tree) → reading (branch direction (branch direction a heavy b) middle (branch direction d place r)) ≡ reading (branch direction (branch direction a heavy (branch direction b middle d)) place r)
double_reading true a heavy b middle d place r = simp append_assoc
double_reading false a heavy b middle d place r = simp append_assoc

-- A place may be linked above two trees that the nodes show. The trees and the place have nothing in common.
pub can_link : (ns : List Node) (place : ℕ) (n f : Tree) → place < length ns → Shows ns n → Shows ns f → ((q : ℕ) → occurs q n + is_at q place + occurs q f ≤ 1) → IsBalanced n → IsBalanced f → height n ≤ height f + 2 → height f ≤ height n + 2 → size n + size f + 1 < 2 ^ 64 → CanRebalance ns place n f
can_link ns place n f within near far distinct near_balanced far_balanced a b fits =
    let room = room_for ns n place f near far within distinct in
    record {
      link = record {
        has_cell = within;
        near_shown = near;
        far_shown = far;
        room = room;
        near_low = low n near_balanced (length ns) (omega arith);
        far_low = low f far_balanced (length ns) (omega arith);
        fits = fits;
      };
      distinct = distinct;
      near_balanced = near_balanced;
      far_balanced = far_balanced;
      near_level = a;
      far_level = b;
    }

-- A place above two trees of about the same height needs no rotation.
pub no_rotation : (N0 N1 : List Node) (direction : Bool) (place : ℕ) (n f : Tree) → CanRebalance N0 place n f → height n ≤ height f + 1 → height f ≤ height n + 1 → N1 ≡ slice_set N0 place (node_on direction n f) → IsRebalanced N0 N1 direction place n f (branch direction n place f)
no_rotation N0 N1 direction place n f h a b e =
    let dp = h.distinct place in
    let z = is_at-same place in
    let t = height-branch direction n place f in
    record {
      shown = Shows-linked N0 N1 direction n place f e h.link.has_cell (omega arith) (omega arith) h.link.near_shown h.link.far_shown;
      in_order = refl;
      same_places = λ q. occurs-branch q direction n place f;
      balanced = IsBalanced-branch direction n place f record { near_level = a; far_level = b; near_balanced = h.near_balanced; far_balanced = h.far_balanced };
      not_lower = omega arith;
      at_most_one_higher = omega arith;
      level = λ x y. t;
      same_elsewhere = λ q none.
          let other : is_at q place ≡ 0 = omega arith in
          rw e (get-elsewhere N0 place q (node_on direction n f) (is_at-apart q place other));
      same_length = rw (e, length-set) refl;
    }

-- ---- One rotation. The trees (a heavy b) place r become a heavy (b place r).
module _ (direction : Bool) (N0 : List Node) (place heavy : ℕ) (a b r : Tree) (h : CanRebalance N0 place (branch direction a heavy b) r) (two : height (branch direction a heavy b) ≡ height r + 2) where
  below_heavy : Parts N0 direction a heavy b
  below_heavy = parts N0 direction a heavy b h.link.near_shown

  levels : Level a b
  levels = level direction a heavy b h.near_balanced

  -- No place occurs twice in all of these together.
  each_once : (q : ℕ) → occurs q a + is_at q heavy + occurs q b + is_at q place + occurs q r ≤ 1
  each_once q = omega (arith, h.distinct q, occurs-branch q direction a heavy b)

  -- The height of the inner tree.
  inner_level : (height b ≤ height r + 1) × (height r ≤ height b + 1)
  inner_level = let lv = levels in let tall = height-branch direction a heavy b in (omega arith, omega arith)

  pub single_first : CanRebalance N0 place b r
  single_first =
      can_link N0 place b r h.link.has_cell below_heavy.far_shown h.link.far_shown (λ q. omega (arith, each_once q)) levels.far_balanced h.far_balanced
      (omega (arith, inner_level)) (omega (arith, inner_level)) (omega (arith, h.link.fits, size-branch direction a heavy b))

  module _ (N1 : List Node) (e1 : N1 ≡ slice_set N0 place (node_on direction b r)) where
    lower : IsRebalanced N0 N1 direction place b r (branch direction b place r)
    lower = no_rotation N0 N1 direction place b r single_first inner_level.0 inner_level.1 e1

    pub single_second : CanRebalance N1 heavy a (branch direction b place r)
    single_second =
        let lv = levels in
        let tall = height-branch direction a heavy b in
        let low = height-branch direction b place r in
        can_link N1 heavy a (branch direction b place r) (omega (arith, lower.same_length, slice_get_within N0 heavy (node_on direction a b) below_heavy.node))
        (Shows-frame N0 N1 a (λ q n. lower.same_elsewhere q (omega (arith, each_once q))) below_heavy.near_shown) lower.shown
        (λ q. omega (arith, each_once q, lower.same_places q)) levels.near_balanced lower.balanced
        (omega arith) (omega arith) (omega (arith, h.link.fits, size-branch direction a heavy b, size-branch direction b place r))

    pub single_done : (N2 : List Node) → N2 ≡ slice_set N1 heavy (node_on direction a (branch direction b place r)) → height b ≤ height a → IsRebalanced N0 N2 direction place (branch direction a heavy b) r (branch direction a heavy (branch direction b place r))
    single_done N2 e2 le =
        let lv = levels in
        let tall = height-branch direction a heavy b in
        let low = height-branch direction b place r in
        let all = height-branch direction a heavy (branch direction b place r) in
        let done = no_rotation N1 N2 direction heavy a (branch direction b place r) single_second (omega arith) (omega arith) e2 in
        record {
          shown = done.shown;
          in_order = single_reading direction a heavy b place r;
          same_places = λ q. omega (arith, done.same_places q, lower.same_places q, occurs-branch q direction a heavy b);
          balanced = done.balanced;
          not_lower = omega arith;
          at_most_one_higher = omega arith;
          level = λ x y. absurd (omega arith);
          same_elsewhere = λ q none. let o = occurs-branch q direction a heavy b in done.same_elsewhere q (omega (arith, lower.same_places q)) ∙ lower.same_elsewhere q (omega arith);
          same_length = done.same_length ∙ lower.same_length;
        }

-- ---- Two rotations. The trees (a heavy (b middle d)) place r become (a heavy b) middle (d place r).
module _ (direction : Bool) (N0 : List Node) (place heavy middle : ℕ) (a b d r : Tree) (h : CanRebalance N0 place (branch direction a heavy (branch direction b middle d)) r) (two : height (branch direction a heavy (branch direction b middle d)) ≡ height r + 2) (lt : height a < height (branch direction b middle d)) where
  upper : Parts N0 direction a heavy (branch direction b middle d)
  upper = parts N0 direction a heavy (branch direction b middle d) h.link.near_shown

  inner : Parts N0 direction b middle d
  inner = parts N0 direction b middle d upper.far_shown

  upper_levels : Level a (branch direction b middle d)
  upper_levels = level direction a heavy (branch direction b middle d) h.near_balanced

  inner_levels : Level b d
  inner_levels = level direction b middle d upper_levels.far_balanced

  -- No place occurs twice in all of these together.
  all_once : (q : ℕ) → occurs q a + is_at q heavy + occurs q b + is_at q middle + occurs q d + is_at q place + occurs q r ≤ 1
  all_once q = omega (arith, h.distinct q, occurs-branch q direction a heavy (branch direction b middle d), occurs-branch q direction b middle d)

  -- The number of places in all of these together.
  all_fit : size a + size b + size d + size r + 3 < 2 ^ 64
  all_fit = omega (arith, h.link.fits, size-branch direction a heavy (branch direction b middle d), size-branch direction b middle d)

  -- The heights of these trees.
  record Even : Type 0 where
    outer : height a ≡ height r
    near : (height b ≤ height r) × (height r ≤ height b + 1)
    far : (height d ≤ height r) × (height r ≤ height d + 1)
    one : max (height b) (height d) + 1 ≡ height r + 1

  even : Even
  even =
      let lu = upper_levels in
      let li = inner_levels in
      let tall = height-branch direction a heavy (branch direction b middle d) in
      let low = height-branch direction b middle d in
      record { outer = omega arith; near = (omega arith, omega arith); far = (omega arith, omega arith); one = omega arith }

  pub double_first : CanRebalance N0 heavy a b
  double_first =
      let v = even in
      can_link N0 heavy a b (slice_get_within N0 heavy (node_on direction a (branch direction b middle d)) upper.node) upper.near_shown inner.near_shown
      (λ q. omega (arith, all_once q)) upper_levels.near_balanced inner_levels.near_balanced (omega arith) (omega arith) (omega (arith, all_fit))

  module _ (N1 : List Node) (e1 : N1 ≡ slice_set N0 heavy (node_on direction a b)) where
    near_side : IsRebalanced N0 N1 direction heavy a b (branch direction a heavy b)
    near_side = let v = even in no_rotation N0 N1 direction heavy a b double_first (omega arith) (omega arith) e1

    -- A tree without these places is shown as before.
    kept : (t : Tree) → ((q : ℕ) → occurs q a + is_at q heavy + occurs q b + occurs q t ≤ 1) → Shows N0 t → Shows N1 t
    kept t apart shown = Shows-frame N0 N1 t (λ q n. near_side.same_elsewhere q (omega (arith, apart q))) shown

    pub double_second : CanRebalance N1 place d r
    double_second =
        let v = even in
        can_link N1 place d r (omega (arith, near_side.same_length, h.link.has_cell)) (kept d (λ q. omega (arith, all_once q)) inner.far_shown) (kept r (λ q. omega (arith, all_once q)) h.link.far_shown)
        (λ q. omega (arith, all_once q)) inner_levels.far_balanced h.far_balanced (omega arith) (omega arith) (omega (arith, all_fit))

    module _ (N2 : List Node) (e2 : N2 ≡ slice_set N1 place (node_on direction d r)) where
      far_side : IsRebalanced N1 N2 direction place d r (branch direction d place r)
      far_side = let v = even in no_rotation N1 N2 direction place d r double_second (omega arith) (omega arith) e2

      pub double_third : CanRebalance N2 middle (branch direction a heavy b) (branch direction d place r)
      double_third =
          let v = even in
          let hn = height-branch direction a heavy b in
          let hf = height-branch direction d place r in
          can_link N2 middle (branch direction a heavy b) (branch direction d place r) (omega (arith, far_side.same_length, near_side.same_length, slice_get_within N0 middle (node_on direction b d) inner.node))
          (Shows-frame N1 N2 (branch direction a heavy b) (λ q n. far_side.same_elsewhere q (omega (arith, all_once q, near_side.same_places q))) near_side.shown) far_side.shown
          (λ q. omega (arith, all_once q, near_side.same_places q, far_side.same_places q)) near_side.balanced far_side.balanced
          (omega arith) (omega arith) (omega (arith, all_fit, size-branch direction a heavy b, size-branch direction d place r))

      pub double_done : (N3 : List Node) → N3 ≡ slice_set N2 middle (node_on direction (branch direction a heavy b) (branch direction d place r)) → IsRebalanced N0 N3 direction place (branch direction a heavy (branch direction b middle d)) r (branch direction (branch direction a heavy b) middle (branch direction d place r))
      double_done N3 e3 =
          let v = even in
          let hn = height-branch direction a heavy b in
          let hf = height-branch direction d place r in
          let all = height-branch direction (branch direction a heavy b) middle (branch direction d place r) in
          let done = no_rotation N2 N3 direction middle (branch direction a heavy b) (branch direction d place r) double_third (omega arith) (omega arith) e3 in
          record {
            shown = done.shown;
            in_order = double_reading direction a heavy b middle d place r;
            same_places = λ q. omega (arith, done.same_places q, near_side.same_places q, far_side.same_places q, occurs-branch q direction a heavy (branch direction b middle d), occurs-branch q direction b middle d);
            balanced = done.balanced;
            not_lower = omega arith;
            at_most_one_higher = omega arith;
            level = λ x y. absurd (omega arith);
            same_elsewhere = λ q none.
                let ou = occurs-branch q direction a heavy (branch direction b middle d) in
                let oi = occurs-branch q direction b middle d in
                done.same_elsewhere q (omega (arith, near_side.same_places q, far_side.same_places q)) ∙ far_side.same_elsewhere q (omega arith) ∙ near_side.same_elsewhere q (omega arith);
            same_length = done.same_length ∙ far_side.same_length ∙ near_side.same_length;
          }

-- ---- The tree that is too high, as its nodes describe it.
module _ (direction : Bool) (N0 : List Node) (place heavy : ℕ) (n f : Tree) where
  -- Its two subtrees.
  pub record Upper (outer inner : Option ℕ) (a b : Tree) : Type 0 where
    pub is : n ≡ branch direction a heavy b
    pub outer_stands : Stands N0 outer a
    pub inner_stands : Stands N0 inner b
    pub can : CanRebalance N0 place (branch direction a heavy b) f
    pub two : height (branch direction a heavy b) ≡ height f + 2

  pub upper_of : (node : Node) (outer inner : Option ℕ) → CanRebalance N0 place n f → root_of n ≡ Some heavy → height n ≡ height f + 2 → slice_get N0 heavy ≡ Some node → outer ≡ near_of direction node → inner ≡ far_of direction node → (a : Tree) × (b : Tree) × Upper outer inner a b
  upper_of node outer inner h root two e near far =
      let (a, b, o) = opened_on N0 (Some heavy) heavy direction node n record { root_is = root; shown = h.link.near_shown } refl e in (
        a,
        b,
        record {
          is = o.is;
          outer_stands = rw near o.near_stands;
          inner_stands = rw far o.far_stands;
          can = subst (λ x. CanRebalance N0 place x f) o.is h;
          two = ap height (sym o.is) ∙ two;
        },
      )

  -- The two subtrees of the inner one.
  pub record Inner (middle : ℕ) (outer near far : Option ℕ) (a b d : Tree) : Type 0 where
    pub is : n ≡ branch direction a heavy (branch direction b middle d)
    pub outer_stands : Stands N0 outer a
    pub near_stands : Stands N0 near b
    pub far_stands : Stands N0 far d
    pub can : CanRebalance N0 place (branch direction a heavy (branch direction b middle d)) f
    pub two : height (branch direction a heavy (branch direction b middle d)) ≡ height f + 2
    pub lt : height a < height (branch direction b middle d)

  pub inner_of : (outer inner : Option ℕ) (a x : Tree) → Upper outer inner a x → height a < height x → (middle : ℕ) → inner ≡ Some middle → (node : Node) → slice_get N0 middle ≡ Some node → (near far : Option ℕ) → near ≡ near_of direction node → far ≡ far_of direction node → (b : Tree) × (d : Tree) × Inner middle outer near far a b d
  inner_of outer inner a x u lt middle some node e near far en ef =
      let (b, d, o) = opened_on N0 inner middle direction node x u.inner_stands some e in (
        b,
        d,
        record {
          is = u.is ∙ ap (λ y. branch direction a heavy y) o.is;
          outer_stands = u.outer_stands;
          near_stands = rw en o.near_stands;
          far_stands = rw ef o.far_stands;
          can = subst (λ y. CanRebalance N0 place (branch direction a heavy y) f) o.is u.can;
          two = ap (λ y. height (branch direction a heavy y)) (sym o.is) ∙ u.two;
          lt = omega (arith, lt, ap height o.is);
        },
      )

-- The same lemma for an equal tree.
pub rebalanced_of : (old new : List Node) (direction : Bool) (place : ℕ) (n x f t : Tree) → n ≡ x → IsRebalanced old new direction place x f t → IsRebalanced old new direction place n f t
rebalanced_of old new direction place n x f t e h = subst (λ y. IsRebalanced old new direction place y f t) (sym e) h

-- The same lemma in the other direction.
pub can_turned : (ns : List Node) (place : ℕ) (n f : Tree) → CanRebalance ns place n f → CanRebalance ns place f n
can_turned ns place n f h =
    can_link ns place f n h.link.has_cell h.link.far_shown h.link.near_shown (λ q. omega (arith, h.distinct q)) h.far_balanced h.near_balanced h.far_level h.near_level (omega (arith, h.link.fits))

pub turned : (old new : List Node) (direction : Bool) (place : ℕ) (n f t : Tree) → IsRebalanced old new (not direction) place f n t → IsRebalanced old new direction place n f t
turned old new direction place n f t h =
    record {
      shown = h.shown;
      in_order = h.in_order ∙ ap reading (branch-not direction n place f);
      same_places = λ q. omega (arith, h.same_places q);
      balanced = h.balanced;
      not_lower = omega arith;
      at_most_one_higher = omega arith;
      level = λ x y. omega (arith, h.level y x);
      same_elsewhere = λ q none. h.same_elsewhere q (omega (arith, none));
      same_length = h.same_length;
    }
