-- Places that are appended to a queue.
use Rattle.std.proofs.Common.{◌≡◌, ℕ, ◌+◌, ◌≤◌, ◌<◌, List, Some, length, refl, sym, ap, subst, ◌∙◌, arith, inl, inr}
use Rattle.std.specs.Prelude.{slice_get, slice_set, slice_index}
use Rattle.std.proofs.lemmas.Bool.{cases_lt}
use Rattle.std.proofs.lemmas.List.{get_or-set_same, get_or-set_other}
use Rattle.bimap_base.specs.declared.cells.Node.{Node}
use Rattle.bimap_tree.specs.Queued.{AreRooted}
use Rattle.bimap_tree.specs.Tree.{Tree, Stands}
use Rattle.bimap_tree.proofs.Shown.{opened, Stands-at, root_within}

module _ (nodes : List Node) where
  pub enqueued : (queue : List ℕ) (n place count : ℕ) → n < length queue → count ≤ n + 1 → ((t : Tree) × Stands nodes (Some place) t) → AreRooted nodes queue n → AreRooted nodes (slice_set queue n place) count
  enqueued queue n place count room most tree h k l = elim (cases_lt k n) [
    | inl before ↦ let (t, s) = h k before in (t, subst (λ p. Stands nodes (Some p) t) (sym (get_or-set_other queue n k place 0 (λ e. absurd (omega (arith, e, before))))) s)
    | inr last ↦
        let same : k ≡ n = omega (arith, last, l, most) in
        let (t, s) = tree in
        (t, subst (λ p. Stands nodes (Some p) t) (sym (ap (slice_index (slice_set queue n place)) same ∙ get_or-set_same queue n place 0 room)) s)
  ]

  pub rooted_within : (p : ℕ) → ((t : Tree) × Stands nodes (Some p) t) → p < length nodes
  rooted_within p tree = let (t, s) = tree in root_within nodes p t s

  module _ (p child : ℕ) (node : Node) (tree : (t : Tree) × Stands nodes (Some p) t) (is : slice_get nodes p ≡ Some node) where
    pub left_rooted : node.left ≡ Some child → (t : Tree) × Stands nodes (Some child) t
    left_rooted e = let (t, s) = tree in let (l, r, o) = opened nodes (Some p) p node t s refl is in (l, Stands-at nodes node.left (Some child) l e o.left_stands)

    pub right_rooted : node.right ≡ Some child → (t : Tree) × Stands nodes (Some child) t
    right_rooted e = let (t, s) = tree in let (l, r, o) = opened nodes (Some p) p node t s refl is in (r, Stands-at nodes node.right (Some child) r e o.right_stands)
