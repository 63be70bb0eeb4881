-- Subtrees that a descent comes to, and the consecutive places around them.
use Rattle.std.proofs.Common.{◌≡◌, ℕ, zero, suc, ◌+◌, ◌-◌, ◌≤◌, ◌<◌, List, [], ◌∷◌, ◌++◌, length, take, drop, Option, Some, None, refl, sym, subst, ◌∙◌, ap, arith, length-append, length-take-le, append_assoc}
use Rattle.std.specs.Prelude.{slice_get}
use Rattle.std.proofs.lemmas.List.{take_all, take-append-le, append-nil}
use Rattle.bimap_base.specs.declared.cells.Node.{Node}
use Rattle.bimap_tree.specs.Filled.{CanFill, IsFilled, IsRow, place_in}
use Rattle.bimap_tree.specs.RankedSubtree.{IsRankedSubtree}
use Rattle.bimap_tree.specs.Tree.{Tree, reading, height, size}
use Rattle.bimap_tree.specs.declared.walk.RankedSubtree.{RankedSubtree}
use Rattle.bimap_tree.proofs.Filling.{parts, below, told_size}
use Rattle.bimap_tree.proofs.Shown.{size-reading}

regroup : (f b l x y : List ℕ) → f ++ (b ++ ((l ++ x) ++ y)) ≡ (f ++ (b ++ l)) ++ (x ++ y)
regroup f b l x y = simp append_assoc

together : (b s e y : List ℕ) → b ++ (s ++ (e ++ y)) ≡ ((b ++ s) ++ e) ++ y
together b s e y = simp append_assoc

drop_front : (xs ys : List ℕ) (n : ℕ) → n ≡ length xs → drop n (xs ++ ys) ≡ ys
drop_front [] ys zero e = refl
drop_front [] ys (suc n) e = absurd (omega (arith, e))
drop_front (x ∷ xs) ys zero e = absurd (omega (arith, e))
drop_front (x ∷ xs) ys (suc n) e = drop_front xs ys n (omega (arith, e))

pub one_at_most : (place : Option ℕ) → length (place_in place) ≤ 1
one_at_most None = omega arith
one_at_most (Some place) = omega arith

module _ (ns : List Node) (places : List ℕ) (rank : ℕ) where
  -- The whole tree.
  pub subtree_whole : (at : ℕ) (node : Node) (t : Tree) → CanFill ns at node t → places ≡ reading t → rank < size t → IsRankedSubtree ns places rank (record { start = 0; before = None; behind = None; at = at; node = node }) t
  subtree_whole at node t h e l = record { front = []; back = []; shown = h; is = e ∙ sym (append-nil (reading t)); start_is = refl; low = omega arith; high = omega arith }

  module _ (subtree : RankedSubtree) (s : Tree) (h : IsRankedSubtree ns places rank subtree s) where
    -- The left subtree.
    pub subtree_left : (left : ℕ) (left_node : Node) → subtree.node.left ≡ Some left → slice_get ns left ≡ Some left_node → rank < subtree.start + left_node.size
        → (l : Tree) × IsRankedSubtree ns places rank (record { start = subtree.start; before = subtree.before; behind = Some subtree.at; at = left; node = left_node }) l × (height l + 1 ≤ height s)
    subtree_left left left_node el gl le =
        let (l, r, i, bl, br) = parts ns subtree.at subtree.node s h.shown in
        let hl = below ns subtree.node.left left left_node l i.left_stands bl el gl in (
          l,
          record {
            front = h.front;
            back = reading r ++ (place_in subtree.behind ++ h.back);
            shown = hl;
            is = h.is
                ∙ ap (λ z. h.front ++ (place_in subtree.before ++ (reading z ++ (place_in subtree.behind ++ h.back)))) i.is
                ∙ ap (λ z. h.front ++ (place_in subtree.before ++ z)) (append_assoc (reading l) (subtree.at ∷ reading r) (place_in subtree.behind ++ h.back));
            start_is = h.start_is;
            low = h.low;
            high = omega (arith, le, told_size ns left left_node l hl);
          },
          omega (arith, ap height i.is),
        )

    -- The right subtree.
    pub subtree_right : (left right : ℕ) (left_node right_node : Node) → subtree.node.left ≡ Some left → subtree.node.right ≡ Some right → slice_get ns left ≡ Some left_node → slice_get ns right ≡ Some right_node → subtree.start + left_node.size ≤ rank
        → (r : Tree) × IsRankedSubtree ns places rank (record { start = subtree.start + left_node.size + 1; before = Some subtree.at; behind = subtree.behind; at = right; node = right_node }) r × (height r + 1 ≤ height s)
    subtree_right left right left_node right_node el er gl gr le =
        let (l, r, i, bl, br) = parts ns subtree.at subtree.node s h.shown in
        let hl = below ns subtree.node.left left left_node l i.left_stands bl el gl in
        let hr = below ns subtree.node.right right right_node r i.right_stands br er gr in
        let n : left_node.size ≡ size l = told_size ns left left_node l hl in
        let whole : size s ≡ size l + size r + 1 = ap size i.is in
        let long : length (h.front ++ (place_in subtree.before ++ reading l)) ≡ subtree.start + left_node.size = omega (arith, h.start_is, n, size-reading l, length-append h.front (place_in subtree.before ++ reading l), length-append (place_in subtree.before) (reading l)) in (
          r,
          record {
            front = h.front ++ (place_in subtree.before ++ reading l);
            back = h.back;
            shown = hr;
            is = h.is
                ∙ ap (λ z. h.front ++ (place_in subtree.before ++ (reading z ++ (place_in subtree.behind ++ h.back)))) i.is
                ∙ regroup h.front (place_in subtree.before) (reading l) (subtree.at ∷ reading r) (place_in subtree.behind ++ h.back);
            start_is = omega (arith, long);
            low = omega (arith, long, le);
            high = omega (arith, h.high, whole, n);
          },
          omega (arith, ap height i.is),
        )

    -- The places of the subtree are listed places.
    pub subtree_within : subtree.start + size s ≤ length places
    subtree_within =
        let B : List ℕ = place_in subtree.before in
        let E : List ℕ = place_in subtree.behind ++ h.back in
        omega (arith, h.start_is, size-reading s, ap length h.is, length-append h.front (B ++ (reading s ++ E)), length-append B (reading s ++ E), length-append (reading s) E)

    -- The places of the subtree, and the places beside it.
    pub row : (old b c new : List ℕ) (f m : ℕ) → subtree.node.size ≤ 124 → IsFilled 128 0 old (place_in subtree.before) b f → IsFilled 128 f b (reading s) c (f + size s) → IsFilled 128 (f + subtree.node.size) c (place_in subtree.behind) new m → IsRow places rank new (subtree.start - f) m
    row old b c new f m few k1 k2 k3 =
        let n : subtree.node.size ≡ size s = told_size ns subtree.at subtree.node s h.shown in
        let f_is : f ≡ length (place_in subtree.before) = omega (arith, k1.enough, k1.most, k1.within) in
        let k12 = joined 0 old (place_in subtree.before) (reading s) b c f (f + size s) (omega arith) (omega (arith, f_is)) k1 k2 in
        let mid : f + size s ≡ 0 + length (place_in subtree.before ++ reading s) = omega (arith, f_is, length-append (place_in subtree.before) (reading s), size-reading s) in
        let k = joined 0 old (place_in subtree.before ++ reading s) (place_in subtree.behind) c new (f + size s) m (omega arith) mid k12 (subst (λ z. IsFilled 128 z c (place_in subtree.behind) new m) (ap (λ z. f + z) n) k3) in
        let all : length ((place_in subtree.before ++ reading s) ++ place_in subtree.behind) ≡ f + size s + length (place_in subtree.behind) = omega (arith, mid, length-append (place_in subtree.before ++ reading s) (place_in subtree.behind)) in
        let m_is : m ≡ f + size s + length (place_in subtree.behind) = omega (arith, all, k.enough, k.most, k.within) in
        let from_is : subtree.start - f ≡ length h.front = omega (arith, h.start_is, f_is) in
        let A : List ℕ = (place_in subtree.before ++ reading s) ++ place_in subtree.behind in
        let is : places ≡ h.front ++ (A ++ h.back) = h.is ∙ ap (λ z. h.front ++ z) (together (place_in subtree.before) (reading s) (place_in subtree.behind) h.back) in
        let whole : length places ≡ length h.front + (length A + length h.back) = ap length is ∙ length-append h.front (A ++ h.back) ∙ ap (λ z. length h.front + z) (length-append A h.back) in
        record {
          low = omega (arith, from_is, h.low);
          high = omega (arith, from_is, m_is, h.high, h.start_is, f_is);
          most = omega (arith, from_is, m_is, all, whole);
          within = k.within;
          same = k.places
              ∙ sym (ap (λ z. take m z) (ap (λ z. drop (subtree.start - f) z) is ∙ drop_front h.front (A ++ h.back) (subtree.start - f) from_is) ∙ take-append-le m A h.back (omega (arith, m_is, all)));
        }
      where
        joined : (f : ℕ) (old xs ys b new : List ℕ) (n m : ℕ) → f ≤ length old → n ≡ f + length xs → IsFilled 128 f old xs b n → IsFilled 128 n b ys new m → IsFilled 128 f old (xs ++ ys) new m
        joined f old xs ys b new n m short all h k =
            let front : length (take f old ++ xs) ≡ f + length xs = omega (arith, length-append (take f old) xs, length-take-le f old short) in
            let t : take n b ≡ take f old ++ xs = h.places ∙ take_all n (take f old ++ xs) (omega (arith, front, all)) in
            record {
              enough = omega (arith, all, k.enough, length-append xs ys);
              most = omega (arith, all, k.most, length-append xs ys);
              within = k.within;
              long = k.long;
              places = k.places ∙ ap (λ z. take m (z ++ ys)) t ∙ ap (λ z. take m z) (append_assoc (take f old) xs ys);
            }
