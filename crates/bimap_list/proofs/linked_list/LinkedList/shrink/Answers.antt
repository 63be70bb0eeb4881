use Rattle.std.proofs.Common.{ℕ, ◌<◌, ap, subst, sym, ◌∙◌}
use Rattle.std.specs.List.{Contains}
use Rattle.bimap_list.specs.ByWidth.{ring_in}
use Rattle.bimap_list.specs.Ring.{Listing}
use Rattle.bimap_list.proofs.linked_list.LinkedList.shrink.Goals as goal

pub shrink-requires-clause-below : goal.shrink-requires-clause-below
shrink-requires-clause-below c = subst (λ l. (p : ℕ) → Contains (Listing.places l) p → p < c.args.to) (sym (ap ring_in (sym c.in-Narrow.is) ∙ c.self.view_is)) c.requires.below

pub shrink-requires-in-Wide-clause-below : goal.shrink-requires-in-Wide-clause-below
shrink-requires-in-Wide-clause-below c = subst (λ l. (p : ℕ) → Contains (Listing.places l) p → p < c.args.to) (sym (ap ring_in (sym c.in-Wide.is) ∙ c.self.view_is)) c.requires.below
