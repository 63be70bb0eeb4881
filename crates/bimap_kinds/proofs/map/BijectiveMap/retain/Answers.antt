use Rattle.bimap_kinds.specs.HeldTable.{held}
use Rattle.bimap_kinds.proofs.Walk.{right_walk, table_facts}
use Rattle.bimap_kinds.proofs.map.BijectiveMap.retain.Goals as goal

pub invariant_of-self : goal.invariant_of-self
invariant_of-self g c = table_facts c.partition_ordered.new.table g.met.I.Index.listed g.met.I.Index.distinct g.met.I.Index.settled g.met.I.Index.in_order g.met.L.Eq.laws g.met.R.Eq.laws _ (right_walk c.partition_ordered.new.table g.met.J.Index.listed g.met.J.Index.distinct g.met.J.Index.settled)

pub partition_ordered-requires-clause-may : goal.partition_ordered-requires-clause-may
unfolding held
partition_ordered-requires-clause-may g c = c.requires.may

pub returns : goal.returns
unfolding held
returns g c =
    let p = c.partition_ordered.ensures.parted in
    record { kept = record { answers = p.answers; last = p.last; calls = p.calls; kept = p.kept }; room = c.partition_ordered.ensures.room }
