use Rattle.bimap_kinds.specs.HeldTable.{held}
use Rattle.bimap_kinds.proofs.Walk.{left_walk, may_test_walked, retention_walked, right_walk, table_facts}
use Rattle.bimap_kinds.proofs.map.BijectiveMap.retain_by_place.Goals as goal

pub invariant_of-self : goal.invariant_of-self
invariant_of-self g c = table_facts c.partition.new.self g.met.I.Index.listed g.met.I.Index.distinct g.met.I.Index.settled g.met.I.Index.in_order g.met.L.Eq.laws g.met.R.Eq.laws _ (right_walk c.partition.new.self g.met.J.Index.listed g.met.J.Index.distinct g.met.J.Index.settled)

pub partition-requires : goal.partition-requires
unfolding held
partition-requires g c = record {
  may =
      let table = c.args.self.now.table in
      may_test_walked g.F.FnMut g.met.L.Eq.laws g.met.R.Eq.laws table.pairs _ (left_walk table g.met.I.Index.listed g.met.I.Index.distinct g.met.I.Index.settled) table.apart c.args.f c.requires.may;
  fits = λ _ _. tt;
}

pub returns : goal.returns
unfolding held
returns g c =
    let table = c.args.self.now.table in
    retention_walked g.F.FnMut g.met.L.Eq.laws g.met.R.Eq.laws table.pairs _ (left_walk table g.met.I.Index.listed g.met.I.Index.distinct g.met.I.Index.settled) table.apart c.args.f _ _ (left_walk c.partition.new.self g.met.I.Index.listed g.met.I.Index.distinct g.met.I.Index.settled) c.partition.ensures.parted c.partition.ensures.room
