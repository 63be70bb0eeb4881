use Rattle.bimap_kinds.specs.HeldTable.{held}
use Rattle.bimap_kinds.proofs.Walk.{left_walk, may_visit_walked, visited_walked}
use Rattle.bimap_kinds.proofs.bijection.BijectiveMapBijection.for_each.Goals as goal

pub for_each-requires : goal.for_each-requires
unfolding held
for_each-requires g c = record {
  may =
      let table = c.args.self.now.table in
      may_visit_walked g.F.FnMut g.met.L.Eq.laws g.met.R.Eq.laws table.pairs _ (left_walk table g.met.I.Index.listed g.met.I.Index.distinct g.met.I.Index.settled) table.apart c.args.f c.requires.may;
}

pub returns : goal.returns
unfolding held
returns g c =
    let table = c.args.self.now.table in
    visited_walked g.F.FnMut g.met.L.Eq.laws g.met.R.Eq.laws table.pairs _ (left_walk table g.met.I.Index.listed g.met.I.Index.distinct g.met.I.Index.settled) table.apart c.args.f c.for_each.ensures
