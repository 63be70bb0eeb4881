use Rattle.bimap_base.proofs.Clones.{pairs_of_clones, IsSound-clones}
use Rattle.bimap_base.proofs.pairs.copy.PairsClone.clone.Goals as goal

pub invariant_of-result : goal.invariant_of-result
invariant_of-result g c =
    IsSound-clones g.L.Clone.is_clone g.R.Clone.is_clone c.self.inside.slots.items c.in_ok-slots.slots.items c.in_ok-slots.ensures.cases.0 c.self.inside.len c.self.inside.next c.self.invariant

pub returns : goal.returns
returns g c =
    rw (← c.self.view_is) record {
      cases = pairs_of_clones g.L.Clone.is_clone g.R.Clone.is_clone c.self.inside.slots.items c.in_ok-slots.slots.items c.in_ok-slots.ensures.cases.0;
    }
