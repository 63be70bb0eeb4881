-- What a map contains after the items of a `Vec` were inserted, all or none.
use Rattle.std.proofs.Common.{◌≡◌, ◌∙◌, Bool, List, length, Vec, sym, subst}
use Rattle.std.specs.Iterator.{Drains}
use Rattle.std.specs.Vec.{vec_len}
use Rattle.std.specs.Vec.Iter.{into_iter_steps, into_iter_items, into_iter_len}
use Rattle.std.specs.declared.vec.IntoIter.{IntoIter}
use Rattle.std.proofs.lemmas.List.{map-id}
use Rattle.std.proofs.lemmas.Iterator.{items_from_drains}
use Rattle.std.proofs.lemmas.Iterator.Adapters.{YieldsList-from_vec}
use Rattle.bimap.specs.Types.{Policy, Refuse}
use Rattle.bimap_undo.specs.Marks.{Marked}
use Rattle.bimap_undo.specs.AllOrNone.{AreAdded, AreHeldAfter, AreAllRecorded}

-- Iterating over a `Vec` to its end gives its items.
items_of_vec : {X Z : Type 0} (xs items : List X) (it : IntoIter X Z) → into_iter_items it ≡ xs → into_iter_len it ≡ length xs → Drains into_iter_steps it items → items ≡ xs
items_of_vec xs items it is long all = sym (map-id items) ∙ items_from_drains items (all.1.0, all.1.1, λ _. (all.0, all.1.2)) (YieldsList-from_vec xs is long)

module _ {L R Z : Type 0} (same_left : L → L → Bool) (same_right : R → R → Bool) (vec : Vec (L × R) Z) (gives : IntoIter (L × R) Z → Type 0) (old : Marked L R) (policy : Policy) (new : Marked L R) (given : (it : IntoIter (L × R) Z) → gives it → (into_iter_items it ≡ vec.items) × (into_iter_len it ≡ vec_len vec)) where
  -- The inserted items are those of the `Vec`.
  pub vec_is_held : AreAllRecorded same_left same_right gives into_iter_steps old policy new → AreHeldAfter same_left same_right old.held.pairs vec.items policy new.held.pairs
  vec_is_held all =
      let e = all.put_in.extension in
      let it = given e.iterator e.given in
      subst (λ (xs : List _). AreHeldAfter same_left same_right old.held.pairs xs policy new.held.pairs) (items_of_vec vec.items e.items e.iterator it.0 (it.1 ∙ vec.ok.0) e.all) all.held

  -- If the policy keeps both sides, all items are contained, beside all earlier pairs.
  pub vec_is_added : policy.left ≡ Refuse → policy.right ≡ Refuse → AreAllRecorded same_left same_right gives into_iter_steps old policy new → AreAdded old.held.pairs vec.items new.held.pairs
  vec_is_added lefts rights all = (vec_is_held all).added lefts rights
