use Rattle.std.proofs.Common.{ap, subst, sym, ◌∙◌}
use Rattle.bimap_base.specs.Keyed.{Drops}
use Rattle.bimap_list.specs.ByWidth.{ring_in}
use Rattle.bimap_list.specs.Ring.{Listing}
use Rattle.bimap_list.proofs.linked_list.LinkedList.remove.Goals as goal
use Rattle.bimap_list.proofs.linked_list.LinkedList.remove.Goals.{in-Narrow, in-Wide}

pub returns-clause-drops : goal.returns-clause-drops
returns-clause-drops c =
    elim c.match-self.branch [
      | in-Narrow w ↦ rw w.self-inside-is (subst (λ l. Drops (Listing.places l) c.args.place w.remove.new.self.places) (ap ring_in (sym w.in-Narrow.is) ∙ c.self.view_is) w.remove.ensures.drops)
      | in-Wide w ↦ rw w.self-inside-is (subst (λ l. Drops (Listing.places l) c.args.place w.remove-in-Wide.new.self.places) (ap ring_in (sym w.in-Wide.is) ∙ c.self.view_is) w.remove-in-Wide.ensures.drops)
    ]
