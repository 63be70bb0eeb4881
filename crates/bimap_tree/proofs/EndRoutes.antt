-- The routes to the ends of a tree.
use Rattle.std.proofs.Common.{◌≡◌, ◌≢◌, [], ◌∷◌, ◌++◌, length, length-append, append-nil, ℕ, ◌+◌, ◌≤◌, ◌<◌, suc, max, not, Bool, true, false, List, Option, Some, None, refl, sym, subst, ◌∙◌, ap, arith}
use Rattle.std.specs.Prelude.{IfSome, slice_get}
use Rattle.std.specs.Global.{Box}
use Rattle.std.specs.declared.cmp.Ordering.{Ordering}
use Rattle.std.specs.declared.cmp.Ordering.TheVariants.{Less, Greater}
use Rattle.bimap_base.specs.Digits.{most_height}
use Rattle.bimap_base.specs.declared.cells.Node.{Node}
use Rattle.bimap_tree.specs.Tree.{Tree, Stands, IsBalanced, leaf, fork, occurs, reading, size, root_of, branch, height, near_of}
use Rattle.bimap_tree.specs.Path.{Path, top, below, plug, steps, front, back, size_on, Follows, AllGo, Begins, LeavesUpper, CanPut, IsRisen}
use Rattle.bimap_tree.specs.Remove.{CanTake, IsTaken}
use Rattle.bimap_tree.specs.Order.{AllStand, IsSplit}
use Rattle.bimap_tree.specs.Notes.{Notes, IsNoted, packed, notes_of, step_at}
use Rattle.bimap_tree.specs.Ends.{AreKept, CanNote, HasEnd, HasLast, IsKept, KeepsEnds, LeadsDown, LeadsToEnd}
use Rattle.bimap_tree.specs.declared.ends.End.{End}
use Rattle.bimap_tree.specs.declared.ends.Ends.{Ends}
use Rattle.bimap_tree.specs.declared.ends.Kept.{Kept}
use Rattle.bimap_tree.specs.declared.upper.UpperPart.{UpperPart}
use Rattle.bimap_tree.specs.declared.route.Route.{Route}
use Rattle.bimap_tree.proofs.Branch.{opened_on, height-branch, branch-not}
use Rattle.bimap_tree.proofs.Paths.{Follows-noted, holds_of, occurs-plug, size-plug, reading-plug, steps_within}
use Rattle.bimap_tree.proofs.Shown.{a_fork, is_at-same, no_root, size-reading, Stands-at}
use Rattle.bimap_tree.proofs.Heights.{below_bound, few_levels}
use Rattle.bimap_tree.proofs.Distinct.{all_append}
use Rattle.bimap_tree.proofs.IndexView.{tree_in-shown}
use Rattle.bimap_tree.proofs.Split.{split_below}

-- ---- A route is noted on to an end.
module _ (ns : List Node) (at : Option ℕ) (direction : Bool) (old : Route) (start : ℕ) where
  -- What was noted from the subtree `s` at the end of `path` down to the subtree `rest`. The last place is `end`.
  pub record Noted (root : Option ℕ) (route : Route) (depth : ℕ) (end : Option ℕ) (path : Path) (s : Tree) (low : Path) (rest : Tree) : Type 0 where
    pub can : CanNote ns root direction route depth low rest
    pub is : plug low rest ≡ plug path s
    pub ends : (place : ℕ) → end ≡ Some place → (up : Path) × (sister : Tree) × (low ≡ below up direction place sister)

  pub record Notes_on (root : Option ℕ) (route : Route) (depth : ℕ) (end : Option ℕ) : Type 0 where
    pub alike : (path : Path) (s : Tree) → CanNote ns at direction old start path s → (low : Path) × (rest : Tree) × Noted root route depth end path s low rest

  pub notes_none : Notes_on at old start None
  notes_none = record { alike = λ path s h. (path, s, record { can = h; is = refl; ends = λ place e. absurd (cc) }) }

  module _ (root : Option ℕ) (route : Route) (depth : ℕ) (end : Option ℕ) (n : Notes_on root route depth end) where
    module _ (place : ℕ) (some : root ≡ Some place) where
      pub notes_deep : (path : Path) (s : Tree) → CanNote ns at direction old start path s → depth < 91
      notes_deep path s h =
          let (low, rest, d) = n.alike path s h in
          let (l, r, whole) = a_fork rest place (d.can.tree.root_is ∙ some) in
          omega (arith, d.can.deep, ap height whole)

      pub notes_next : (node : Node) → slice_get ns place ≡ Some node → (next : Option ℕ) → next ≡ near_of direction node → (new : Route) → IsNoted (step_at route) depth (packed place, direction) (step_at new) → Notes_on next new (depth + 1) (Some place)
      notes_next node told next near new noted = record {
        alike = λ path s h.
            let (low, rest, d) = n.alike path s h in
            let (inner, sister, o) = opened_on ns root place direction node rest d.can.tree some told in
            let tall : height rest ≡ max (height inner) (height sister) + 1 = ap height o.is ∙ height-branch direction inner place sister in (
              below low direction place sister,
              inner,
              record {
                can = record {
                  tree = Stands-at ns (near_of direction node) next inner (sym near) o.near_stands;
                  follows = Follows-noted packed (step_at route) (step_at new) low direction place sister depth d.can.depth_is noted d.can.follows;
                  depth_is = omega (arith, d.can.depth_is);
                  goes = (refl, d.can.goes);
                  deep = omega (arith, d.can.deep, tall);
                };
                is = ap (λ t. plug low t) (sym o.is) ∙ d.is;
                ends = λ p e. let same : place ≡ p = cc in
                    (low, sister, ap (λ q. below low direction q sister) same);
              },
            );
      }

    -- Where the route leads at the end.
    pub notes_down : root ≡ None → (last : Route) → step_at last ≡ step_at route → last.depth ≡ depth → (path : Path) (s : Tree) → CanNote ns at direction old start path s → LeadsDown direction last (plug path s)
    notes_down none last same deep path s h =
        let (low, rest, d) = n.alike path s h in
        record {
          path = low;
          is = sym d.is ∙ ap (λ t. plug low t) (no_root rest (d.can.tree.root_is ∙ none));
          follows = subst (λ f. Follows packed f low) (sym same) d.can.follows;
          depth_is = deep ∙ d.can.depth_is;
          goes = d.can.goes;
        }

    pub notes_end : root ≡ None → (last : Route) → step_at last ≡ step_at route → last.depth ≡ depth → (path : Path) (s : Tree) → CanNote ns at direction old start path s → IfSome end (λ place. LeadsToEnd direction last place (plug path s))
    notes_end none last same deep path s h = notes_last end refl where
      notes_last : (found : Option ℕ) → end ≡ found → IfSome found (λ place. LeadsToEnd direction last place (plug path s))
      notes_last None e = tt
      notes_last (Some place) e =
          let (low, rest, d) = n.alike path s h in
          let (up, sister, is) = d.ends place e in
          let empty : rest ≡ leaf = no_root rest (d.can.tree.root_is ∙ none) in
          record {
            up = up;
            sister = sister;
            is = sym d.is ∙ ap (λ t. plug low t) empty ∙ ap (λ l. plug l leaf) is;
            follows = subst (λ l. Follows packed (step_at last) l) is (subst (λ f. Follows packed f low) (sym same) d.can.follows);
            depth_is = deep ∙ d.can.depth_is ∙ ap steps is;
            goes = (subst (λ l. AllGo direction l) is d.can.goes).1;
          }

-- ---- A change at one end.
-- The nodes show each subtree of a tree that they show.
pub subtree_stands : (ns : List Node) (root : Option ℕ) (path : Path) (s : Tree) → Stands ns root (plug path s) → Stands ns (root_of s) s
subtree_stands ns root path s h = record { root_is = refl; shown = (holds_of ns path s h.shown).1 }

-- The route may be noted on from where the change has come to.
pub can_note : (ns : List Node) (root : Option ℕ) (route : Route) (path : Path) (count : ℕ) (at : Option ℕ) (direction : Bool) → (b : Begins ns root (notes_of route) path count at) → AllGo direction path → height (plug b.up b.rest) ≤ 91 → CanNote ns at direction route count b.up b.rest
can_note ns root route path count at direction b goes low = record {
  tree = Stands-at ns (root_of b.rest) at b.rest b.rest_is (subtree_stands ns root b.up b.rest b.tree);
  follows = b.follows;
  depth_is = b.count_is;
  goes = b.upper.alike direction goes;
  deep = omega (arith, low, b.count_is, steps_within b.up b.rest);
}

-- Two trees that agree at the top in the other direction have the same end there.
top_of : (direction : Bool) (up : Path) → 0 < steps up → AllGo direction up → (r : ℕ) × (far : Tree) × ((x : Tree) → (near : Tree) × (plug up x ≡ branch direction near r far))
top_of direction top some goes = absurd (omega (arith, some))
top_of direction (below top turned p sister) some goes = (p, sister, λ x. (x, ap (λ d. branch d x p sister) goes.0))
top_of direction (below (below up turned q w) last p sister) some goes =
    let (r, far, e) = top_of direction (below up turned q w) (omega arith) goes.1 in
    (r, far, λ x. e (branch last x p sister))

record Swapped (kept : ℕ → ℕ) (noted : ℕ → ℕ × Bool) (e : Bool) (u : Path) (p : ℕ) (s t near other : Tree) (r : ℕ) (v : Path) (w : Tree) : Type 0 where
  is : plug (below v e p w) t ≡ branch e near r other
  as_long : steps v ≡ steps u
  follows : Follows kept noted (below u e p s) → Follows kept noted (below v e p w)
  goes : AllGo e v

branch_is : (e : Bool) (a b c d : Tree) (p q : ℕ) → branch e a p b ≡ branch e c q d → (a ≡ c) × (p ≡ q)
branch_is true a b c d p q h = (cc, cc)
branch_is false a b c d p q h = (cc, cc)

swapped : (kept : ℕ → ℕ) (noted : ℕ → ℕ × Bool) (e : Bool) (u : Path) (p : ℕ) (s t near far other : Tree) (r : ℕ) → AllGo e u → plug (below u e p s) t ≡ branch e near r far → (v : Path) × (w : Tree) × Swapped kept noted e u p s t near other r v w
swapped kept noted e top p s t near far other r goes h =
    let same = branch_is e t s near far p r h in
    (top, other, record { is = ap (λ x. branch e x p other) same.0 ∙ ap (λ q. branch e near q other) same.1; as_long = refl; follows = λ f. (f.0, tt); goes = tt })
swapped kept noted e (below u turned q w) p s t near far other r goes h =
    let (v, z, k) = swapped kept noted e u q w (branch e t p s) near far other r goes.1 (ap (λ d. plug (below u d q w) (branch e t p s)) (sym goes.0) ∙ h) in (
      below v e q z,
      s,
      record {
        is = k.is;
        as_long = omega (arith, k.as_long);
        follows = λ f. let g = subst (λ d. Follows kept noted (below u d q w)) goes.0 f.1 in
            (ap noted (omega (arith, k.as_long)) ∙ f.0, k.follows g);
        goes = (refl, k.goes);
      },
    )

-- The end in the other direction stays, unless another place stands at the top.
pub other_kept : (direction : Bool) (end : End) (up : Path) (x y : Tree) → 0 < steps up → AllGo direction up → IsKept (not direction) end (plug up x) → IsKept (not direction) end (plug up y)
other_kept direction end up x y some goes kept place is =
    let old = kept place is in
    let (r, far, at_top) = top_of direction up some goes in
    let (near, was) = at_top x in
    let (inner, now) = at_top y in
    let e : plug (below old.up (not direction) place old.sister) leaf ≡ branch (not direction) far r near = sym old.is ∙ was ∙ sym (branch-not direction near r far) in
    let (v, w, k) = swapped packed (step_at end.route) (not direction) old.up place old.sister leaf far near inner r old.goes e in
    record {
      up = v;
      sister = w;
      is = now ∙ sym (branch-not direction inner r far) ∙ sym k.is;
      follows = k.follows old.follows;
      depth_is = old.depth_is ∙ ap suc (sym k.as_long);
      goes = k.goes;
    }

pub same_tree : (ns : List Node) (root : Option ℕ) (t u : Tree) → Stands ns root t → Stands ns root u → t ≡ u
same_tree ns root t u h k = sym (tree_in-shown ns root t h) ∙ tree_in-shown ns root u k

-- The places outside the subtree stand before it or after it.
outside : (path : Path) → size_on path ≡ length (front path) + length (back path)
outside path =
    let all : length (reading (plug path leaf)) ≡ length (front path ++ []) + length (back path) = ap length (reading-plug path leaf) ∙ length-append (front path ++ []) (back path) in
    omega (arith, all, length-append (front path) [], size-plug path leaf, size-reading (plug path leaf))

-- A tree into which a place was put along a route is not too high for a route.
pub put_low : (ns ms : List Node) (notes : Notes) (path : Path) (place : ℕ) (root : Option ℕ) → CanPut ns notes path place → (u : Tree) × IsRisen ns ms path (fork leaf place leaf) root u → (v : Tree) → Stands ms root v → height v ≤ 91
put_low ns ms notes path place root h (u, i) v stands =
    let now : length (reading u) ≡ length (front path ++ reading (fork leaf place leaf)) + length (back path) = ap length i.in_order ∙ length-append (front path ++ reading (fork leaf place leaf)) (back path) in
    let one : length (front path ++ reading (fork leaf place leaf)) ≡ length (front path) + 1 = length-append (front path) (place ∷ []) in
    subst (λ t. height t ≤ 91) (same_tree ms root u v i.tree stands) (few_levels u i.balanced (omega (arith, h.fits, size-reading u, now, one, outside path)))

-- A tree from which a place was taken is not too high either.
pub take_low : (ns ms : List Node) (notes : Notes) (path : Path) (l : Tree) (at : ℕ) (r : Tree) (root : Option ℕ) → CanTake ns notes path l at r → (u : Tree) × IsTaken ns ms path l r root u → (v : Tree) → Stands ms root v → height v ≤ 91
take_low ns ms notes path l at r root h (u, i) v stands =
    let now : length (reading u) ≡ length ((front path ++ reading l) ++ reading r) + length (back path) = ap length i.in_order ∙ length-append ((front path ++ reading l) ++ reading r) (back path) in
    let parts : length ((front path ++ reading l) ++ reading r) ≡ length (front path ++ reading l) + length (reading r) = length-append (front path ++ reading l) (reading r) in
    subst (λ t. height t ≤ 91) (same_tree ms root u v i.tree stands)
    (few_levels u i.balanced (omega (arith, h.fits, now, parts, length-append (front path) (reading l), size-reading u, size-reading l, size-reading r, size-plug path (fork l at r), outside path)))

module _ (ns : List Node) (root : Option ℕ) (route : Route) (path : Path) (count : ℕ) (at : Option ℕ) (direction : Bool) (b : Begins ns root (notes_of route) path count at) (goes : AllGo direction path) (v : Tree) (stands : Stands ns root v) (low : height v ≤ 91) where
  v_is : plug b.up b.rest ≡ v
  v_is = same_tree ns root (plug b.up b.rest) v b.tree stands

  pub note_on : CanNote ns at direction route count b.up b.rest
  note_on = can_note ns root route path count at direction b goes (omega (arith, low, ap height v_is))

  -- The route to the end is kept again.
  pub end_noted : (end : End) → ((low : Path) (s : Tree) → CanNote ns at direction route count low s → IsKept direction end (plug low s)) → IsKept direction end v
  end_noted end noted = subst (λ t. IsKept direction end t) v_is (noted b.up b.rest note_on)

  -- What was noted anew is a part of the tree.
  pub rest_stands : Stands ns at b.rest
  rest_stands = note_on.tree

  pub rest_lower : height b.rest ≤ height v
  rest_lower = omega (arith, steps_within b.up b.rest, ap height v_is)

  pub other_stays : (other : End) (x : Tree) → count ≢ 0 → IsKept (not direction) other (plug path x) → IsKept (not direction) other v
  other_stays other x some kept =
      let (y, e) = b.upper.leads x in
      subst (λ t. IsKept (not direction) other t) v_is (other_kept direction other b.up y b.rest (omega (arith, b.count_is, some)) (b.upper.alike direction goes) (subst (λ t. IsKept (not direction) other t) e kept))

-- A route may be noted from the top of a tree.
pub from_top : (ns : List Node) (root : Option ℕ) (direction : Bool) (route : Route) (t : Tree) → Stands ns root t → height t ≤ 91 → CanNote ns root direction route 0 top t
from_top ns root direction route t stands low = record { tree = stands; follows = tt; depth_is = refl; goes = tt; deep = omega arith }

-- ---- The place at an end.
module _ (direction : Bool) (route : Route) (place : ℕ) (t : Tree) (e : LeadsToEnd direction route place t) where
  pub end_occurs : 0 < occurs place t
  end_occurs = omega (arith, ap (λ x. occurs place x) e.is, occurs-plug place (below e.up direction place e.sister) leaf, is_at-same place)

  pub end_some : 0 < size t
  end_some = omega (arith, ap size e.is, size-plug (below e.up direction place e.sister) leaf)

  -- The comparison with that place leaves enough for a whole search.
  pub end_spares : IsBalanced t → height t + 1 ≤ most_height (size t)
  end_spares b = below_bound t b end_some

none_behind : (up : Path) → AllGo true up → back up ≡ []
none_behind top goes = refl
none_behind (below up true p sister) goes = none_behind up goes.1
none_behind (below up false p sister) goes = absurd (let no : false ≡ true = goes.0 in cc)

-- If the last place is below the key, all places are.
pub all_below : (go : ℕ → Ordering) (route : Route) (place : ℕ) (t : Tree) → LeadsToEnd true route place t → IsSplit go (reading t) → go place ≡ Less → AllStand go Less (reading t)
all_below go route place t e split less =
    let xs : List ℕ = front e.up ++ reading e.sister in
    let is : reading t ≡ xs ++ place ∷ [] =
    ap reading e.is ∙ reading-plug (below e.up true place e.sister) leaf ∙ ap (λ ys. ((xs ++ place ∷ []) ++ []) ++ ys) (none_behind e.up e.goes) ∙ append-nil ((xs ++ place ∷ []) ++ []) ∙ append-nil (xs ++ place ∷ []) in
    let parts : IsSplit go (xs ++ place ∷ []) = subst (λ ys. IsSplit go ys) is split in
    subst (λ ys. AllStand go Less ys) (sym is)
    (all_append (λ q. go q ≡ Less) xs (place ∷ []) (split_below go xs [] place parts (λ f. let no : Less ≡ Greater = sym less ∙ f in cc)) (less, tt))

-- Neither route is kept.
pub none_kept : (ends : Box Ends) (first last : End) → ends.value ≡ record { first = first; last = last } → first.place ≡ None → last.place ≡ None → (t : Tree) → AreKept (Some ends) t
none_kept ends first last is no_first no_last t = (
  λ place e. let no : None ≡ Some place = sym no_first ∙ sym (ap (λ x. x.first.place) is) ∙ e in absurd (cc),
  λ place e. let no : None ≡ Some place = sym no_last ∙ sym (ap (λ x. x.last.place) is) ∙ e in absurd (cc),
)

-- The route to an end that is kept.
pub leads_to : (direction : Bool) (ends : Option (Box Ends)) (place : ℕ) → HasEnd direction ends place → (t : Tree) → AreKept ends t → (route : Route) × LeadsToEnd direction route place t
leads_to true (Some ends) place has t kept = (ends.value.last.route, kept.1 place has)
leads_to false (Some ends) place has t kept = (ends.value.first.route, kept.0 place has)
leads_to direction None place has t kept = absurd has

-- A tree with a last place is not empty.
pub has_some : (kept : Kept) (place : ℕ) → HasLast kept place → (t : Tree) → KeepsEnds kept t → 0 < size t
has_some kept place has t keeps =
    let (route, leads) = leads_to true kept.ends place has.1 t (keeps has.0) in
    end_some true route place t leads

-- After a change along the route, this much is told of it.
pub part_told : (part : UpperPart) (ns : List Node) (root : Option ℕ) (notes : Notes) (path : Path) → LeavesUpper (λ depth at. (part.depth ≡ depth) × (part.at ≡ at)) ns root notes path → Begins ns root notes path part.depth part.at
part_told part ns root notes path told =
    let (count, at, is, begins) = told in
    subst (λ n. Begins ns root notes path n part.at) (sym is.0) (subst (λ x. Begins ns root notes path count x) (sym is.1) begins)
