-- The removal of the place at the end of a route.
use Rattle.std.proofs.Common.{◌≡◌, ℕ, suc, ◌+◌, ◌^◌, ◌≤◌, ◌<◌, Bool, true, false, not, List, [], ◌∷◌, ◌++◌, Option, Some, None, length, refl, sym, subst, ◌∙◌, ap, arith, append_assoc, append-nil, length-set}
use Rattle.std.specs.Prelude.{is_some, slice_get, slice_set}
use Rattle.std.proofs.lemmas.Option.{slice_get_within}
use Rattle.bimap_base.specs.declared.cells.Node.{Node}
use Rattle.bimap_base.specs.Digits.{most_height}
use Rattle.bimap_tree.specs.Tree.{Tree, leaf, fork, reading, height, size, occurs, is_at, node_of, IsBalanced, Shows, Stands}
use Rattle.bimap_tree.specs.Path.{Path, top, below, plug, steps, front, back, occurs_on, size_on, Follows, Tells, Holds, Moves, KeepsWhole, CanRise, IsRisen}
use Rattle.bimap_tree.specs.Remove.{hang, onward, FollowsOn, CanDescend, IsFirst, CanReplace, IsReplaced, CanTake, IsTaken}
use Rattle.bimap_tree.specs.Notes.{Notes, IsNoted}
use Rattle.bimap_tree.proofs.Paths.{occurs-plug, size-plug, reading-plug, steps_within, balanced_inside, tells, holds_of, Holds-frame, IsBalanced-alike, Follows-frame, Follows-noted}
use Rattle.bimap_tree.proofs.Heights.{low}
use Rattle.bimap_tree.proofs.Rooms.{room_for}
use Rattle.bimap_tree.proofs.Shown.{is_at-same, is_at-apart, Shows-frame, get-written, get-elsewhere, no_root, opened, Stands-at}

-- The test for no child.
pub no_child : (child : Option ℕ) (b : Bool) → is_some child ≡ not b → b ≡ true → child ≡ None
no_child None b e h = refl
no_child (Some p) b e h = absurd (let x : true ≡ not true = e ∙ ap not h in cc)

-- ---- The route to the first place.
module _ (nodes : List Node) (at depth : ℕ) (node : Node) (s : Tree) (h : CanDescend nodes at depth s) (told : slice_get nodes at ≡ Some node) where
  pub record Descent (l r : Tree) : Type 0 where
    pub is : s ≡ fork l at r
    pub left_stands : Stands nodes node.left l
    pub here : depth < 91
    pub deeper : depth + 1 + height l ≤ 91

  pub descent : (l : Tree) × (r : Tree) × Descent l r
  descent =
      let (l, r, o) = opened nodes (Some at) at node s h.tree refl told in
      (l, r, record { is = o.is; left_stands = o.left_stands; here = omega (arith, h.deep, ap height o.is); deeper = omega (arith, h.deep, ap height o.is) })

  -- A place without a left child is itself the first place.
  pub first_here : node.left ≡ None → (notes : Notes) → (lefts : List (ℕ × Tree)) × (rest : Tree) × IsFirst notes notes depth s at depth lefts rest
  first_here none notes =
      let (l, r, d) = descent in
      let no = no_root l (d.left_stands.root_is ∙ none) in (
        [],
        r,
        record {
          whole = d.is ∙ ap (λ x. fork x at r) no;
          low_is = omega arith;
          kept_is = refl;
          follows = tt;
          same_above = λ i few. refl;
        },
      )

  -- A place with a left child has the first place of its left subtree.
  pub first_left : (old mid new : Notes) (l r : Tree) → Descent l r → IsNoted old.step_at depth (old.kept at, false) mid.step_at → mid.kept ≡ old.kept → (first low : ℕ) → (lefts : List (ℕ × Tree)) × (rest : Tree) × IsFirst mid new (depth + 1) l first low lefts rest → (lefts : List (ℕ × Tree)) × (rest : Tree) × IsFirst old new depth s first low lefts rest
  first_left old mid new l r d noted same first low (lefts, rest, i) =
      let next : depth + 1 ≡ suc depth = omega arith in (
        (at, r) ∷ lefts,
        rest,
        record {
          whole = d.is ∙ ap (λ x. fork x at r) i.whole;
          low_is = omega (arith, i.low_is);
          kept_is = i.kept_is ∙ same;
          follows = (i.same_above depth (omega arith) ∙ noted.here ∙ ap (λ k. (k at, false)) (sym (i.kept_is ∙ same)), subst (λ x. FollowsOn new.kept new.step_at x lefts) next i.follows);
          same_above = λ j few. i.same_above j (omega arith) ∙ noted.elsewhere j (λ w. absurd (omega arith));
        },
      )

-- ---- Entries to the left.
pub plug-onward : (path : Path) (lefts : List (ℕ × Tree)) (t : Tree) → plug (onward path lefts) t ≡ plug path (hang lefts t)
plug-onward path [] t = refl
plug-onward path (x ∷ xs) t = plug-onward (below path false x.0 x.1) xs t

pub steps-onward : (path : Path) (lefts : List (ℕ × Tree)) → steps (onward path lefts) ≡ steps path + length lefts
steps-onward path [] = omega arith
steps-onward path (x ∷ xs) = omega (arith, steps-onward (below path false x.0 x.1) xs)

pub occurs-hang : (q : ℕ) (lefts : List (ℕ × Tree)) (t : Tree) → occurs q (hang lefts t) ≡ occurs q (hang lefts leaf) + occurs q t
occurs-hang q [] t = omega arith
occurs-hang q (x ∷ xs) t = omega (arith, occurs-hang q xs t)

height-hang : (lefts : List (ℕ × Tree)) (t : Tree) → length lefts + height t ≤ height (hang lefts t)
height-hang [] t = omega arith
height-hang (x ∷ xs) t = omega (arith, height-hang xs t)

-- The first place comes first in the list.
pub reading-hang : (lefts : List (ℕ × Tree)) (first : ℕ) (rest : Tree) → reading (hang lefts (fork leaf first rest)) ≡ first ∷ reading (hang lefts rest)
reading-hang [] first rest = refl
reading-hang (x ∷ xs) first rest = ap (λ z. z ++ x.0 ∷ reading x.1) (reading-hang xs first rest)

pub Follows-onward : (kept : ℕ → ℕ) (noted : ℕ → ℕ × Bool) (path : Path) (lefts : List (ℕ × Tree)) → Follows kept noted path → FollowsOn kept noted (steps path) lefts → Follows kept noted (onward path lefts)
Follows-onward kept noted path [] h on = h
Follows-onward kept noted path (x ∷ xs) h on = Follows-onward kept noted (below path false x.0 x.1) xs (on.0, h) on.1

-- An entry that is noted above them does not change them.
FollowsOn-keeps : (kept : ℕ → ℕ) (old new : ℕ → ℕ × Bool) (n : ℕ) (step : ℕ × Bool) (depth : ℕ) (lefts : List (ℕ × Tree)) → IsNoted old n step new → n < depth → FollowsOn kept old depth lefts → FollowsOn kept new depth lefts
FollowsOn-keeps kept old new n step depth [] noted few on = tt
FollowsOn-keeps kept old new n step depth (x ∷ xs) noted few on = (
  noted.elsewhere depth (λ e. absurd (omega arith)) ∙ on.0,
  FollowsOn-keeps kept old new n step (suc depth) xs noted (omega arith) on.1,
)

-- The nodes of a tree fit the route to its first place, and show the subtree there.
Shows-hang : (nodes : List Node) (lefts : List (ℕ × Tree)) (s : Tree) → Shows nodes (hang lefts s) → Shows nodes s
Shows-hang nodes [] s h = h
Shows-hang nodes (x ∷ xs) s h = Shows-hang nodes xs s h.1

Holds-onward : (ns ms : List Node) (path : Path) (lefts : List (ℕ × Tree)) (s : Tree) → ((q : ℕ) → 0 < occurs q (hang lefts leaf) → slice_get ms q ≡ slice_get ns q) → Holds ms path (hang lefts s) → Shows ns (hang lefts s) → Holds ms (onward path lefts) s
Holds-onward ns ms path [] s same h shown = h
Holds-onward ns ms path (x ∷ xs) s same h shown =
    let step : Holds ms (below path false x.0 x.1) (hang xs s) = (
      (node_of (hang xs s) x.1, same x.0 (omega (arith, is_at-same x.0)) ∙ shown.0, tells false (hang xs s) x.1),
      Shows-frame ns ms x.1 (λ q o. same q (omega arith)) shown.2,
      h,
    ) in
    Holds-onward ns ms (below path false x.0 x.1) xs s (λ q o. same q (omega arith)) step shown.1

-- A place above a single subtree makes one place more.
one_less : (s t : Tree) → size s ≡ size t + 1 → height s ≡ height t + 1 → Moves false s t
one_less s t few low = record { sizes = omega arith; not_lower = omega arith; not_higher = omega arith }

-- ---- The place at the end of the route.
module _ (nodes : List Node) (notes : Notes) (path : Path) (l : Tree) (at : ℕ) (r : Tree) (h : CanTake nodes notes path l at r) where
  shown_here : Shows nodes (fork l at r)
  shown_here = (holds_of nodes path (fork l at r) h.shown).1

  pub at_within : at < length nodes
  at_within = slice_get_within nodes at (node_of l r) shown_here.0

  pub node_told : (node : Node) → slice_get nodes at ≡ Some node → node ≡ node_of l r
  node_told node e = let x : Some node ≡ Some (node_of l r) = sym e ∙ shown_here.0 in cc

  pub left_tree : (node : Node) → slice_get nodes at ≡ Some node → Stands nodes node.left l
  left_tree node e = record { root_is = sym (ap (λ n. n.left) (node_told node e)); shown = shown_here.1 }

  pub right_tree : (node : Node) → slice_get nodes at ≡ Some node → Stands nodes node.right r
  right_tree node e = record { root_is = sym (ap (λ n. n.right) (node_told node e)); shown = shown_here.2 }

  -- The depth of the route.
  pub depth_within : steps path + height (fork l at r) ≤ 91
  depth_within = omega (arith, steps_within path (fork l at r), h.deep)

  pub depth_few : notes.depth ≤ 91
  depth_few = omega (arith, h.depth_is, depth_within)

  once : (q : ℕ) → occurs_on q path + occurs q (fork l at r) ≤ 1
  once q = omega (arith, h.distinct q, occurs-plug q path (fork l at r))

  fit : size_on path + size (fork l at r) < 2 ^ 64
  fit = omega (arith, h.fits, size-plug path (fork l at r))

  balanced_here : IsBalanced (fork l at r)
  balanced_here = balanced_inside path (fork l at r) h.balanced

  -- A tree of all other places below the removed place moves to its position.
  rises : (t : Tree) → KeepsWhole nodes notes → Shows nodes t → IsBalanced t → ((q : ℕ) → occurs q t ≤ occurs q (fork l at r)) → Moves false (fork l at r) t → CanRise nodes notes path false (fork l at r) t
  rises t whole shown balanced few moves = record {
    follows = h.follows;
    whole = whole;
    holds = (holds_of nodes path (fork l at r) h.shown).0;
    shown = shown;
    distinct = λ q. omega (arith, once q, few q);
    steady = h.balanced;
    balanced = balanced;
    fits = omega (arith, fit);
    moves = moves;
  }

  taken : (t : Tree) → reading t ≡ reading l ++ reading r → ((q : ℕ) → occurs q t ≡ occurs q l + occurs q r) → (new : List Node) (root : Option ℕ) → (v : Tree) × IsRisen nodes new path t root v → (v : Tree) × IsTaken nodes new path l r root v
  taken t reads counts new root (v, i) = (
    v,
    record {
      tree = i.tree;
      in_order = i.in_order ∙ ap (λ x. front path ++ x ++ back path) reads ∙ simp append_assoc;
      same_places = λ q. omega (arith, i.same_places q, counts q);
      balanced = i.balanced;
      same_length = i.same_length;
    },
  )

  -- If there is no left subtree, this tree is the right one. If there is no right subtree, it is the left one.
  module _ (node : Node) (e : slice_get nodes at ≡ Some node) where
    pub rises_right : KeepsWhole nodes notes → node.left ≡ None → CanRise nodes notes path false (fork l at r) r
    rises_right whole none =
        let no = no_root l ((left_tree node e).root_is ∙ none) in
        rises r whole shown_here.2 balanced_here.3 (λ q. omega arith) (one_less (fork l at r) r (omega (arith, ap size no)) (omega (arith, ap height no)))

    pub rises_left : KeepsWhole nodes notes → node.right ≡ None → CanRise nodes notes path false (fork l at r) l
    rises_left whole none =
        let no = no_root r ((right_tree node e).root_is ∙ none) in
        rises l whole shown_here.1 balanced_here.2 (λ q. omega arith) (one_less (fork l at r) l (omega (arith, ap size no)) (omega (arith, ap height no)))

    pub taken_right : node.left ≡ None → (new : List Node) (root : Option ℕ) → (v : Tree) × IsRisen nodes new path r root v → (v : Tree) × IsTaken nodes new path l r root v
    taken_right none = let no = no_root l ((left_tree node e).root_is ∙ none) in taken r (ap (λ x. reading x ++ reading r) (sym no)) (λ q. omega (arith, ap (λ x. occurs q x) no))

    pub taken_left : node.right ≡ None → (new : List Node) (root : Option ℕ) → (v : Tree) × IsRisen nodes new path l root v → (v : Tree) × IsTaken nodes new path l r root v
    taken_left none =
        let no = no_root r ((right_tree node e).root_is ∙ none) in
        taken l (sym (ap (λ x. reading l ++ reading x) no ∙ append-nil (reading l))) (λ q. omega (arith, ap (λ x. occurs q x) no))

  -- The route to the first place of the right subtree.
  pub can_descend : (node : Node) → slice_get nodes at ≡ Some node → (right : ℕ) → node.right ≡ Some right → (depth : ℕ) → depth ≡ notes.depth → CanDescend nodes right (depth + 1) r
  can_descend node e right some depth is = record {
    tree = Stands-at nodes node.right (Some right) r some (right_tree node e);
    deep = omega (arith, is, h.depth_is, depth_within);
  }

  -- A cell can store the node of the removed place.
  pub kept : (node : Node) → slice_get nodes at ≡ Some node → (node.height ≤ most_height (length nodes) + 1) × (node.size ≤ length nodes)
  kept node e =
      let told = node_told node e in
      let room = room_for nodes l at r shown_here.1 shown_here.2 at_within (λ q. omega (arith, once q)) in
      (omega (arith, ap (λ n. n.height) told, low (fork l at r) balanced_here (length nodes) room), omega (arith, ap (λ n. n.size) told, room))

  -- The depth of the first place of the right subtree.
  pub low_within : (old mid : Notes) (depth first low : ℕ) (lefts : List (ℕ × Tree)) (rest : Tree) → depth ≡ notes.depth → IsFirst old mid (depth + 1) r first low lefts rest → (low + 1 ≤ height (plug path (fork l at r))) × (steps path + height r + 1 ≤ height (plug path (fork l at r)))
  low_within old mid depth first low lefts rest is i =
      let a = steps_within path (fork l at r) in
      let b = height-hang lefts (fork leaf first rest) in
      let d : height r ≡ height (hang lefts (fork leaf first rest)) = ap height i.whole in
      (omega (arith, i.low_is, is, h.depth_is), omega arith)

-- The same lemma for an equal tree.
pub taking : (nodes : List Node) (notes : Notes) (path : Path) (l : Tree) (at : ℕ) (r x : Tree) → CanTake nodes notes path l at r → r ≡ x → CanTake nodes notes path l at x
taking nodes notes path l at r x h e = subst (λ y. CanTake nodes notes path l at y) e h

pub taken_of : (old new : List Node) (path : Path) (l r x : Tree) (root : Option ℕ) → r ≡ x → (v : Tree) × IsTaken old new path l x root v → (v : Tree) × IsTaken old new path l r root v
taken_of old new path l r x root e h = subst (λ y. (v : Tree) × IsTaken old new path l y root v) (sym e) h

-- ---- The first place of the right subtree moves to the position of the removed place.
module _ (nodes : List Node) (notes : Notes) (path : Path) (l : Tree) (at first : ℕ) (lefts : List (ℕ × Tree)) (rest : Tree) (h : CanTake nodes notes path l at (hang lefts (fork leaf first rest))) where
  whole_shown : Shows nodes (fork l at (hang lefts (fork leaf first rest)))
  whole_shown = shown_here nodes notes path l at (hang lefts (fork leaf first rest)) h

  first_shown : Shows nodes (fork leaf first rest)
  first_shown = Shows-hang nodes lefts (fork leaf first rest) whole_shown.2

  pub first_within : first < length nodes
  first_within = slice_get_within nodes first (node_of leaf rest) first_shown.0

  pub last_told : (last : Node) → slice_get nodes first ≡ Some last → last ≡ node_of leaf rest
  last_told last e = let x : Some last ≡ Some (node_of leaf rest) = sym e ∙ first_shown.0 in cc

  pub rest_stands : (last : Node) → slice_get nodes first ≡ Some last → Stands nodes last.right rest
  rest_stands last e = record { root_is = sym (ap (λ n. n.right) (last_told last e)); shown = first_shown.2 }

  pub was_height : (last : Node) → slice_get nodes first ≡ Some last → last.height ≡ height (fork leaf first rest)
  was_height last e = ap (λ n. n.height) (last_told last e)

  -- No place occurs twice in all of these together.
  each_once : (q : ℕ) → occurs_on q path + occurs q l + is_at q at + occurs q (hang lefts leaf) + is_at q first + occurs q rest ≤ 1
  each_once q = omega (arith, once nodes notes path l at (hang lefts (fork leaf first rest)) h q, occurs-hang q lefts (fork leaf first rest))

  -- The whole tree, with the first place at the position of the removed place, and the rest below it.
  as_whole : (t : Tree) → plug (onward (below path true first l) lefts) t ≡ plug path (fork l first (hang lefts t))
  as_whole t = plug-onward (below path true first l) lefts t

  -- The whole tree may be replaced by another tree, if the first place has this node.
  module _ (node : Node) (mid : List Node) (e : mid ≡ slice_set nodes first node) where
    written_elsewhere : (q : ℕ) → is_at q first ≡ 0 → slice_get mid q ≡ slice_get nodes q
    written_elsewhere q other = ap (λ x. slice_get x q) e ∙ get-elsewhere nodes first q node (is_at-apart q first other)

    pub written_length : length mid ≡ length nodes
    written_length = ap length e ∙ length-set nodes first node

    pub can_replace : (now : Notes) (depth : ℕ) → Follows now.kept now.step_at path → now.kept ≡ notes.kept → KeepsWhole nodes notes → depth ≡ steps path → CanReplace mid now depth path (fork l at (hang lefts (fork leaf first rest)))
    can_replace now depth follows same whole is = record {
      follows = follows;
      whole = λ p few. ap (λ k. k p) same ∙ whole p (omega (arith, few, written_length));
      depth_is = is;
      deep = omega (arith, is, depth_within nodes notes path l at (hang lefts (fork leaf first rest)) h);
      holds = Holds-frame nodes mid path (fork l at (hang lefts (fork leaf first rest))) (λ q o. written_elsewhere q (let d = each_once q in omega arith)) (holds_of nodes path (fork l at (hang lefts (fork leaf first rest))) h.shown).0;
      distinct = λ q. let d = each_once q in omega arith;
    }

    -- The first place has that node, and the place above links to it.
    pub record TakesOver (new : List Node) : Type 0 where
      pub first_is : slice_get new first ≡ Some node
      pub same_elsewhere : (q : ℕ) → is_at q first ≡ 0 → occurs_on q path ≡ 0 → slice_get new q ≡ slice_get nodes q
      pub holds : Holds new path (fork l first (hang lefts (fork leaf first rest)))
      pub same_length : length new ≡ length nodes

    pub takes_over : (new : List Node) → IsReplaced mid new path (fork l first (hang lefts (fork leaf first rest))) → length new ≡ length mid → TakesOver new
    takes_over new r long = record {
      first_is = r.same_elsewhere first (let d = each_once first in omega (arith, is_at-same first)) ∙ ap (λ x. slice_get x first) e ∙ get-written nodes first node first_within;
      same_elsewhere = λ q other off. r.same_elsewhere q off ∙ written_elsewhere q other;
      holds = r.holds;
      same_length = long ∙ written_length;
    }

  module _ (node : Node) (told : slice_get nodes at ≡ Some node) (mid : List Node) (e : mid ≡ slice_set nodes first node) (new : List Node) (m : TakesOver node mid e new) where
    holds_on : Holds new (onward (below path true first l) lefts) (fork leaf first rest)
    holds_on =
        let step : Holds new (below path true first l) (hang lefts (fork leaf first rest)) = (
          (node, m.first_is, subst (λ n. Tells true n (hang lefts (fork leaf first rest)) l) (sym (node_told nodes notes path l at (hang lefts (fork leaf first rest)) h node told)) (tells true (hang lefts (fork leaf first rest)) l)),
          Shows-frame nodes new l (λ q o. let d = each_once q in m.same_elsewhere q (omega arith) (omega arith)) whole_shown.1,
          m.holds,
        ) in
        Holds-onward nodes new (below path true first l) lefts (fork leaf first rest) (λ q o. let d = each_once q in m.same_elsewhere q (omega arith) (omega arith)) step whole_shown.2

    -- The first place is removed from its subtree.
    pub rises_first : KeepsWhole nodes notes → (last : Notes) → last.kept ≡ notes.kept → Follows last.kept last.step_at (onward (below path true first l) lefts) → CanRise new last (onward (below path true first l) lefts) false (fork leaf first rest) rest
    rises_first whole last same follows =
        let bal = balanced_here nodes notes path l at (hang lefts (fork leaf first rest)) h in
        record {
          follows = follows;
          whole = λ p few. ap (λ k. k p) same ∙ whole p (omega (arith, few, m.same_length));
          holds = holds_on;
          shown = Shows-frame nodes new rest (λ q o. let d = each_once q in m.same_elsewhere q (omega arith) (omega arith)) first_shown.2;
          distinct = λ q. omega (arith, each_once q, occurs-plug q (onward (below path true first l) lefts) rest, ap (λ x. occurs q x) (as_whole rest), occurs-plug q path (fork l first (hang lefts rest)), occurs-hang q lefts rest);
          steady = subst (λ x. IsBalanced x) (sym (as_whole (fork leaf first rest))) (IsBalanced-alike path (fork l at (hang lefts (fork leaf first rest))) (fork l first (hang lefts (fork leaf first rest))) refl bal h.balanced);
          balanced = (balanced_inside (onward top lefts) (fork leaf first rest) (subst (λ x. IsBalanced x) (sym (plug-onward top lefts (fork leaf first rest))) bal.3)).3;
          fits = omega (arith, fit nodes notes path l at (hang lefts (fork leaf first rest)) h, size-plug (onward (below path true first l) lefts) (fork leaf first rest), ap size (as_whole (fork leaf first rest)), size-plug path (fork l first (hang lefts (fork leaf first rest))));
          moves = one_less (fork leaf first rest) rest (omega arith) (omega arith);
        }

    pub taken_first : (last : List Node) (root : Option ℕ) → (v : Tree) × IsRisen new last (onward (below path true first l) lefts) rest root v → (v : Tree) × IsTaken nodes last path l (hang lefts (fork leaf first rest)) root v
    taken_first last root (v, i) = (
      v,
      record {
        tree = i.tree;
        in_order = i.in_order
            ∙ sym (reading-plug (onward (below path true first l) lefts) rest)
            ∙ ap reading (as_whole rest)
            ∙ reading-plug path (fork l first (hang lefts rest))
            ∙ ap (λ x. front path ++ (reading l ++ x) ++ back path) (sym (reading-hang lefts first rest))
            ∙ ap (λ x. x ++ back path) (sym (append_assoc (front path) (reading l) (reading (hang lefts (fork leaf first rest)))));
        same_places = λ q. omega (arith, i.same_places q, occurs-plug q (onward (below path true first l) lefts) rest, ap (λ x. occurs q x) (as_whole rest), occurs-plug q path (fork l first (hang lefts rest)), occurs-hang q lefts rest, occurs-hang q lefts (fork leaf first rest));
        balanced = i.balanced;
        same_length = i.same_length ∙ m.same_length;
      },
    )

-- The route that was noted to the first place still follows the route to the removed place.
pub path_followed : (path : Path) (old mid : Notes) (depth first low : ℕ) (s : Tree) (lefts : List (ℕ × Tree)) (rest : Tree) → Follows old.kept old.step_at path → depth ≡ steps path → IsFirst old mid (depth + 1) s first low lefts rest → Follows mid.kept mid.step_at path
path_followed path old mid depth first low s lefts rest follows is i =
    Follows-frame mid.kept old.step_at mid.step_at path (λ j few. i.same_above j (omega (arith, is, few))) (subst (λ k. Follows k old.step_at path) (sym i.kept_is) follows)

-- The route that was noted to the first place.
pub first_followed : (path : Path) (l : Tree) (old mid last : Notes) (depth first low : ℕ) (s : Tree) (lefts : List (ℕ × Tree)) (rest : Tree) → Follows old.kept old.step_at path → depth ≡ steps path → IsFirst old mid (depth + 1) s first low lefts rest → IsNoted mid.step_at depth (mid.kept first, true) last.step_at → last.kept ≡ mid.kept → Follows last.kept last.step_at (onward (below path true first l) lefts) × (low ≡ steps (onward (below path true first l) lefts))
first_followed path l old mid last depth first low s lefts rest follows is i noted same =
    let kept = path_followed path old mid depth first low s lefts rest follows is i in
    let here = Follows-noted mid.kept mid.step_at last.step_at path true first l depth is noted kept in
    let on : FollowsOn mid.kept mid.step_at (suc (steps path)) lefts = subst (λ d. FollowsOn mid.kept mid.step_at d lefts) (omega (arith, is)) i.follows in (
      subst (λ k. Follows k last.step_at (onward (below path true first l) lefts)) (sym same) (Follows-onward mid.kept last.step_at (below path true first l) lefts here (FollowsOn-keeps mid.kept mid.step_at last.step_at depth (mid.kept first, true) (suc (steps path)) lefts noted (omega (arith, is)) on)),
      omega (arith, i.low_is, is, steps-onward (below path true first l) lefts),
    )
