use Rattle.std.proofs.Common.{◌<◌, ◌∙◌, sym, ap, Some, arith, length}
use Rattle.bimap_core.proofs.Retaining.{same_pair}
use Rattle.bimap_core.proofs.Visiting.{start, may, goes_on, ended}
use Rattle.bimap_core.proofs.table.Table.for_each.Goals as goal

pub loop-place-init : goal.loop-place-init
loop-place-init g c = start g.F.FnMut c.args.f c.args.self.now.pairs

pub visit_at-requires : goal.visit_at-requires
visit_at-requires g c = record {
  may = λ p is left right x y.
      let inside : c.loop-place.place < length c.args.self.now.pairs = omega (arith, c.loop-place-test.true, c.places-places.ensures) in
      may g.F.FnMut c.args.f c.loop-place.f c.args.self.now.pairs c.loop-place.place c.loop-place.invariant inside c.requires.may left right (is ∙ ap Some (sym (same_pair p left.now right.now x y)));
}

pub loop-place-preserved : goal.loop-place-preserved
loop-place-preserved g c =
    let inside : c.loop-place.place < length c.args.self.now.pairs = omega (arith, c.loop-place-test.true, c.places-places.ensures) in
    goes_on g.F.FnMut c.args.f c.loop-place.f c.args.self.now.pairs c.loop-place.place c.loop-place.invariant inside c.visit_at.new.f c.visit_at.ensures.visited c.visit_at.ensures.none

pub returns : goal.returns
returns g c =
    ended g.F.FnMut c.args.f c.loop-place.f c.args.self.now.pairs c.loop-place.place c.loop-place.invariant (omega (arith, c.loop-place-test.false, c.places-places.ensures))
