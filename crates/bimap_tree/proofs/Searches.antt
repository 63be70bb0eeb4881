-- Searches for places in a tree.
use Rattle.std.proofs.Common.{◌≡◌, ◌≢◌, ℕ, ◌+◌, ◌≤◌, List, ◌∷◌, ◌++◌, Option, Some, zero-add, refl, sym, subst, ◌∙◌, ap, arith}
use Rattle.std.specs.Prelude.{slice_get}
use Rattle.std.specs.declared.cmp.Ordering.{Ordering}
use Rattle.std.specs.declared.cmp.Ordering.TheVariants.{Less, Equal, Greater}
use Rattle.bimap_base.specs.declared.cells.Node.{Node}
use Rattle.bimap_tree.specs.Tree.{Tree, fork, reading, size}
use Rattle.bimap_tree.specs.Order.{AllStand, IsSplit, first_equal, count_below}
use Rattle.bimap_tree.proofs.Split.{split_front, split_back, split_below, split_above, first_after, first_before, less_not_greater, not_less, count-append, count_all, count_none, count_length}
use Rattle.bimap_tree.specs.Search.{CanSeek}
use Rattle.bimap_tree.proofs.Shown.{is_at-same, opened, size-reading}

-- What is known at the root of a tree that may be searched.
pub record SeekInto (ns : List Node) (root : Option ℕ) (at : ℕ) (node : Node) (live : ℕ → Type 0) (go : ℕ → Ordering) (t l r : Tree) : Type 0 where
  pub is : t ≡ fork l at r
  pub can_left : CanSeek ns node.left live go l
  pub can_right : CanSeek ns node.right live go r
  pub in_order : IsSplit go (reading l ++ at ∷ reading r)
  pub at_live : live at

pub seek_into : (ns : List Node) (root : Option ℕ) (at : ℕ) (node : Node) (live : ℕ → Type 0) (go : ℕ → Ordering) (t : Tree) → CanSeek ns root live go t → root ≡ Some at → slice_get ns at ≡ Some node → (l : Tree) × (r : Tree) × SeekInto ns root at node live go t l r
seek_into ns root at node live go t h e f =
    let (l, r, o) = opened ns root at node t h.tree e f in
    let h2 : CanSeek ns root live go (fork l at r) = subst (λ x. CanSeek ns root live go x) o.is h in
    let z = is_at-same at in (
      l,
      r,
      record {
        is = o.is;
        can_left = record { tree = o.left_stands; all_live = λ q n. h2.all_live q (omega arith); in_order = split_front go (reading l) (at ∷ reading r) h2.in_order; fits = omega arith };
        can_right = record { tree = o.right_stands; all_live = λ q n. h2.all_live q (omega arith); in_order = (split_back go (reading l) (at ∷ reading r) h2.in_order).1; fits = omega arith };
        in_order = h2.in_order;
        at_live = h2.all_live at (omega arith);
      },
    )

pub found_right : (ns : List Node) (root : Option ℕ) (at : ℕ) (node : Node) (live : ℕ → Type 0) (go : ℕ → Ordering) (t l r : Tree) → SeekInto ns root at node live go t l r → go at ≡ Less → first_equal go (reading t) ≡ first_equal go (reading r)
found_right ns root at node live go t l r i less =
    let below = split_below go (reading l) (reading r) at i.in_order (less_not_greater (go at) less) in
    let step : first_equal go (at ∷ reading r) ≡ first_equal go (reading r) = rw less refl in
    ap (λ x. first_equal go (reading x)) i.is ∙ first_after go (reading l) (at ∷ reading r) below ∙ step

pub found_left : (ns : List Node) (root : Option ℕ) (at : ℕ) (node : Node) (live : ℕ → Type 0) (go : ℕ → Ordering) (t l r : Tree) → SeekInto ns root at node live go t l r → go at ≡ Greater → first_equal go (reading t) ≡ first_equal go (reading l)
found_left ns root at node live go t l r i more =
    let above : AllStand go Greater (at ∷ reading r) = (more, split_above go (reading l) (reading r) at i.in_order (λ e. let x : Greater ≡ Less = sym more ∙ e in cc)) in
    ap (λ x. first_equal go (reading x)) i.is ∙ first_before go (reading l) (at ∷ reading r) above

pub found_here : (ns : List Node) (root : Option ℕ) (at : ℕ) (node : Node) (live : ℕ → Type 0) (go : ℕ → Ordering) (t l r : Tree) → SeekInto ns root at node live go t l r → go at ≡ Equal → first_equal go (reading t) ≡ Some at
found_here ns root at node live go t l r i same =
    let below = split_below go (reading l) (reading r) at i.in_order (λ e. let x : Equal ≡ Greater = sym same ∙ e in cc) in
    let step : first_equal go (at ∷ reading r) ≡ Some at = rw same refl in
    ap (λ x. first_equal go (reading x)) i.is ∙ first_after go (reading l) (at ∷ reading r) below ∙ step

pub counted_right : (ns : List Node) (root : Option ℕ) (at : ℕ) (node : Node) (live : ℕ → Type 0) (go : ℕ → Ordering) (t l r : Tree) → SeekInto ns root at node live go t l r → go at ≡ Less → count_below go (reading t) ≡ size l + 1 + count_below go (reading r)
counted_right ns root at node live go t l r i less =
    let below = split_below go (reading l) (reading r) at i.in_order (less_not_greater (go at) less) in
    let step : count_below go (at ∷ reading r) ≡ 1 + count_below go (reading r) = rw less refl in
    ap (λ x. count_below go (reading x)) i.is ∙ count-append go (reading l) (at ∷ reading r) ∙ omega (arith, step, count_all go (reading l) below, size-reading l)

pub counted_left : (ns : List Node) (root : Option ℕ) (at : ℕ) (node : Node) (live : ℕ → Type 0) (go : ℕ → Ordering) (t l r : Tree) → SeekInto ns root at node live go t l r → go at ≢ Less → count_below go (reading t) ≡ count_below go (reading l)
counted_left ns root at node live go t l r i n =
    let above = split_above go (reading l) (reading r) at i.in_order n in
    let step : count_below go (at ∷ reading r) ≡ count_below go (reading r) = rw (not_less (go at) n) (zero-add _) in
    ap (λ x. count_below go (reading x)) i.is ∙ count-append go (reading l) (at ∷ reading r) ∙ omega (arith, step, count_none go (reading r) above)

pub counted_fits : (ns : List Node) (root : Option ℕ) (at : ℕ) (node : Node) (live : ℕ → Type 0) (go : ℕ → Ordering) (t l r : Tree) → SeekInto ns root at node live go t l r → size l + 1 + count_below go (reading r) ≤ size t
counted_fits ns root at node live go t l r i = omega (arith, count_length go (reading r), size-reading r, ap size i.is)
