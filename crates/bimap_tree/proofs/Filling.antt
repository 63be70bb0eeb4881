-- Buffers to which the places of trees are appended.
use Rattle.std.proofs.Common.{◌≡◌, ℕ, ◌+◌, ◌≤◌, ◌<◌, List, [], ◌∷◌, ◌++◌, length, take, Option, Some, refl, sym, subst, ◌∙◌, ap, arith, length-append, length-take-le, append_assoc}
use Rattle.std.specs.Prelude.{slice_get, slice_set}
use Rattle.std.proofs.lemmas.List.{take_all, take_more_set}
use Rattle.bimap_base.specs.declared.cells.Node.{Node}
use Rattle.bimap_tree.specs.Filled.{CanFill, IsFilled, place_in}
use Rattle.bimap_tree.specs.Tree.{Tree, leaf, fork, reading, height, size, root_of, node_of, IsBalanced, Stands}
use Rattle.bimap_tree.proofs.Shown.{Opened, opened, Stands-at, size-reading}

-- A place is written after the appended ones, and more are appended after it.
pub behind : (w f : ℕ) (old xs ys b new : List ℕ) (at n m : ℕ) → f ≤ length old → n ≡ f + length xs → IsFilled w f old xs b n → IsFilled w (n + 1) (slice_set b n at) ys new m → IsFilled w f old (xs ++ at ∷ ys) new m
behind w f old xs ys b new at n m short all h k =
    let front : length (take f old ++ xs) ≡ f + length xs = omega (arith, length-append (take f old) xs, length-take-le f old short) in
    let s : take n b ≡ take f old ++ xs = h.places ∙ take_all n (take f old ++ xs) (omega (arith, front, all)) in
    let t : take (n + 1) (slice_set b n at) ≡ (take f old ++ xs) ++ at ∷ [] = take_more_set b n at (omega (arith, h.within, h.long)) ∙ ap (λ z. z ++ at ∷ []) s in
    record {
      enough = omega (arith, all, k.enough, length-append xs (at ∷ ys));
      most = omega (arith, all, k.most, length-append xs (at ∷ ys));
      within = k.within;
      long = k.long;
      places = k.places ∙ ap (λ z. take m (z ++ ys)) t ∙ ap (λ z. take m z) (append_assoc (take f old ++ xs) (at ∷ []) ys ∙ append_assoc (take f old) xs (at ∷ ys));
    }

pub on : (w f : ℕ) (old xs ys b new : List ℕ) (at n m : ℕ) → f ≤ length old → f + length xs < w → IsFilled w f old xs b n → IsFilled w (n + 1) (slice_set b n at) ys new m → IsFilled w f old (xs ++ at ∷ ys) new m
on w f old xs ys b new at n m short le h k = behind w f old xs ys b new at n m short (omega (arith, le, h.enough, h.most)) h k

-- The appended list may be replaced by an equal list.
pub IsFilled-same : (w f : ℕ) (old xs ys new : List ℕ) (n : ℕ) → xs ≡ ys → IsFilled w f old xs new n → IsFilled w f old ys new n
IsFilled-same w f old xs ys new n e h = subst (λ zs. IsFilled w f old zs new n) e h

-- Trees of few levels.
no_levels : (t : Tree) → height t ≤ 0 → t ≡ leaf
no_levels leaf h = refl
no_levels (fork l p r) h = absurd (omega arith)

pub one_level : (t : Tree) → height t ≤ 1 → place_in (root_of t) ≡ reading t
one_level leaf h = refl
one_level (fork l p r) h = rw (no_levels l (omega arith), no_levels r (omega arith)) refl

one_place : (t : Tree) → height t ≤ 1 → length (reading t) ≤ 1
one_place leaf h = omega arith
one_place (fork l p r) h = rw (no_levels l (omega arith), no_levels r (omega arith)) (omega arith)

pub two_levels : (f : ℕ) (old b new : List ℕ) (node : Node) (l r : Tree) (at n m : ℕ) → node ≡ node_of l r → height l ≤ 1 → height r ≤ 1 → f < 125 → length old ≡ 128 → IsFilled 128 f old (place_in node.left) b n → IsFilled 128 (n + 1) (slice_set b n at) (place_in node.right) new m → IsFilled 128 f old (reading l ++ at ∷ reading r) new m
two_levels f old b new node l r at n m e hl hr few long h k =
    let el : place_in node.left ≡ reading l = ap (λ z. place_in z.left) e ∙ one_level l hl in
    let er : place_in node.right ≡ reading r = ap (λ z. place_in z.right) e ∙ one_level r hr in
    on 128 f old (reading l) (reading r) b new at n m (omega (arith, few, long)) (omega (arith, few, one_place l hl)) (IsFilled-same 128 f old _ _ b n el h) (IsFilled-same 128 (n + 1) (slice_set b n at) _ _ new m er k)

-- The two subtrees of a place.
pub parts : (ns : List Node) (at : ℕ) (node : Node) (t : Tree) → CanFill ns at node t → (l : Tree) × (r : Tree) × Opened ns at node t l r × IsBalanced l × IsBalanced r
parts ns at node t h =
    let (l, r, o) = opened ns (Some at) at node t h.tree refl h.node_is in
    let b : IsBalanced (fork l at r) = subst IsBalanced o.is h.balanced in
    (l, r, o, b.2, b.3)

pub below : (ns : List Node) (root : Option ℕ) (p : ℕ) (node : Node) (t : Tree) → Stands ns root t → IsBalanced t → root ≡ Some p → slice_get ns p ≡ Some node → CanFill ns p node t
below ns root p node t h b e f = record { tree = Stands-at ns root (Some p) t e h; node_is = f; balanced = b }

pub told_size : (ns : List Node) (p : ℕ) (node : Node) (t : Tree) → CanFill ns p node t → node.size ≡ size t
told_size ns p node t h = let (l, r, i, _, _) = parts ns p node t h in ap (λ z. z.size) i.node_is ∙ ap size (sym i.is)

pub told_height : (ns : List Node) (p : ℕ) (node : Node) (t : Tree) → CanFill ns p node t → node.height ≡ height t
told_height ns p node t h = let (l, r, i, _, _) = parts ns p node t h in ap (λ z. z.height) i.node_is ∙ ap height (sym i.is)

-- The left subtree, the place and the right subtree.
pub both_sides : (f : ℕ) (old b new : List ℕ) (ns : List Node) (at left right : ℕ) (node left_node right_node : Node) (t : Tree) → CanFill ns at node t → node.left ≡ Some left → node.right ≡ Some right → slice_get ns left ≡ Some left_node → slice_get ns right ≡ Some right_node → f + size t < 126 → length old ≡ 128
    → ((l : Tree) → CanFill ns left left_node l → f + size l < 126 → IsFilled 128 f old (reading l) b (f + size l))
    → ((r : Tree) → CanFill ns right right_node r → f + left_node.size + 1 + size r < 126 → IsFilled 128 (f + left_node.size + 1) (slice_set b (f + left_node.size) at) (reading r) new (f + left_node.size + 1 + size r))
    → IsFilled 128 f old (reading t) new (f + size t)
both_sides f old b new ns at left right node left_node right_node t h el er gl gr few long kl kr =
    let (l, r, i, bl, br) = parts ns at node t h in
    let hl = below ns node.left left left_node l i.left_stands bl el gl in
    let hr = below ns node.right right right_node r i.right_stands br er gr in
    let n : left_node.size ≡ size l = told_size ns left left_node l hl in
    let whole : size t ≡ size l + size r + 1 = ap size i.is in
    let first = subst (λ z. IsFilled 128 f old (reading l) b z) (ap (λ z. f + z) (sym n)) (kl l hl (omega arith)) in
    let last = kr r hr (omega arith) in
    let all : f + left_node.size + 1 + size r ≡ f + size t = omega arith in
    subst (λ m. IsFilled 128 f old (reading t) new m) all
    (IsFilled-same 128 f old _ _ new (f + left_node.size + 1 + size r) (sym (ap reading i.is)) (on 128 f old (reading l) (reading r) b new at (f + left_node.size) (f + left_node.size + 1 + size r) (omega (arith, long)) (omega (arith, size-reading l)) first last))
