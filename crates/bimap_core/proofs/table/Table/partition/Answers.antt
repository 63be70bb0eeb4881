use Rattle.std.proofs.Common.{◌<◌, ◌∙◌, sym, refl, ap, Some, None, arith, length}
use Rattle.std.proofs.lemmas.List.{length-set}
use Rattle.bimap_base.specs.Slots.{pair_at}
use Rattle.bimap_core.proofs.Retaining.{start, may, room_for, goes_on, goes_off, ended, tested_at, same_pair}
use Rattle.bimap_core.proofs.table.Table.partition.Goals as goal
use Rattle.bimap_core.proofs.table.Table.partition.Goals.{then-goes_at, else-goes_at}

pub loop-place-init : goal.loop-place-init
loop-place-init g c = record { so_far = start g.F.FnMut g.S.Outlet.has_room g.S.Outlet.receives c.args.goes c.args.f c.args.outlet.now c.args.self.now.pairs c.requires.fits; long = refl }

pub goes_at-requires : goal.goes_at-requires
goes_at-requires g c = record {
  may = λ p is left right x y.
      let i = c.loop-place.invariant in
      let inside : c.loop-place.place < length c.loop-place.self.pairs = omega (arith, c.loop-place-test.true, c.places-places.ensures, i.long) in
      may g.F.FnMut g.S.Outlet.has_room g.S.Outlet.receives c.args.goes c.args.f c.loop-place.f c.args.outlet.now c.loop-place.outlet c.args.self.now.pairs c.loop-place.self.pairs c.loop-place.place i.so_far inside c.requires.may left right (is ∙ ap Some (sym (same_pair p left.now right.now x y)));
}

pub receive-requires : goal.receive-requires
receive-requires g c =
    let i = c.loop-place.invariant in
    let inside : c.loop-place.place < length c.loop-place.self.pairs = omega (arith, c.loop-place-test.true, c.places-places.ensures, i.long) in
    record { room = room_for g.F.FnMut g.S.Outlet.has_room g.S.Outlet.receives c.args.goes c.args.f c.loop-place.f c.args.outlet.now c.loop-place.outlet c.args.self.now.pairs c.loop-place.self.pairs c.loop-place.place i.so_far inside c.take.result c.take.ensures.was }

pub loop-place-preserved : goal.loop-place-preserved
loop-place-preserved g c =
    let i = c.loop-place.invariant in
    let now = c.loop-place.self.pairs in
    let inside : c.loop-place.place < length now = omega (arith, c.loop-place-test.true, c.places-places.ensures, i.long) in
    elim c.if-goes_at.branch [
      | then-goes_at w ↦ rw (w.self-is, w.outlet-is) record {
        so_far = goes_off g.F.FnMut g.S.Outlet.has_room g.S.Outlet.receives c.args.goes c.args.f c.loop-place.f c.args.outlet.now c.loop-place.outlet c.args.self.now.pairs now c.loop-place.place i.so_far inside w.take.result w.take.ensures.was
            c.goes_at.new.f (tested_at g.F.FnMut (pair_at now c.loop-place.place) w.take.result c.loop-place.f c.args.goes c.goes_at.new.f w.take.ensures.was (rw w.if-goes_at.true at c.goes_at.ensures.tested))
            w.take.new.self.pairs w.take.ensures.pairs w.receive.new.self w.receive.ensures.received w.receive.ensures.rest;
        long = ap length w.take.ensures.pairs ∙ length-set now c.loop-place.place None ∙ i.long;
      }
      | else-goes_at w ↦ rw (w.self-is, w.outlet-is) record {
        so_far = goes_on g.F.FnMut g.S.Outlet.has_room g.S.Outlet.receives c.args.goes c.args.f c.loop-place.f c.args.outlet.now c.loop-place.outlet c.args.self.now.pairs now c.loop-place.place i.so_far inside
            c.goes_at.new.f c.goes_at.result (rw w.if-goes_at.false at c.goes_at.ensures.tested) c.goes_at.ensures.none;
        long = i.long;
      }
    ]

pub returns : goal.returns
returns g c =
    let i = c.loop-place.invariant in
    record {
      parted = ended g.F.FnMut g.S.Outlet.has_room g.S.Outlet.receives c.args.goes c.args.f c.loop-place.f c.args.outlet.now c.loop-place.outlet c.args.self.now.pairs c.loop-place.self.pairs c.loop-place.place i.so_far (omega (arith, c.loop-place-test.false, c.places-places.ensures, i.long));
      room = i.long;
    }
