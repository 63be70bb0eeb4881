use Rattle.std.proofs.Common.{ℕ, ◌<◌, ap, subst, sym, ◌∙◌}
use Rattle.std.specs.List.{Contains}
use Rattle.bimap_list.specs.ByWidth.{ring_in}
use Rattle.bimap_list.specs.Ring.{Listing}
use Rattle.bimap_list.proofs.linked_list.LinkedList.cells.Goals as goal

pub returns-in-Narrow-clause-below : goal.returns-in-Narrow-clause-below
returns-in-Narrow-clause-below c = subst (λ l. (p : ℕ) → Contains (Listing.places l) p → p < Listing.cells l) (ap ring_in (sym c.in-Narrow.is) ∙ c.self.view_is) c.cells.ensures.below

pub returns-in-Wide-clause-below : goal.returns-in-Wide-clause-below
returns-in-Wide-clause-below c = subst (λ l. (p : ℕ) → Contains (Listing.places l) p → p < Listing.cells l) (ap ring_in (sym c.in-Wide.is) ∙ c.self.view_is) c.cells-in-Wide.ensures.below
