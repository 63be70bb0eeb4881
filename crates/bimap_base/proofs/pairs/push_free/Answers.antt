use Rattle.std.proofs.Common.{arith, vec_len}
use Rattle.bimap_base.proofs.FreeList.{IsGrown-start}
use Rattle.bimap_base.proofs.FreeRuns.{grown_by_run}
use Rattle.bimap_base.proofs.pairs.push_free.Goals as goal

pub loop-slots-init : goal.loop-slots-init
loop-slots-init g c = record {
  grown = λ len next sound. IsGrown-start _ _ _ sound;
  fits = omega arith;
  room = omega arith;
}

pub loop-slots-preserved : goal.loop-slots-preserved
loop-slots-preserved g c =
    record {
      grown = λ len next sound. c.push_block.ensures.grown _ _ _ (c.loop-slots.invariant.grown len next sound);
      fits = omega (arith, c.push_block.ensures.long);
      room = omega (arith, c.push_block.ensures.capacity);
    }

pub returns-then-len-to-clause-grown : goal.returns-then-len-to-clause-grown
returns-then-len-to-clause-grown g c len next sound =
    let slots = c.loop-slots.slots in
    let more = c.push_run.new.slots in
    grown_by_run _ slots.items more.items (vec_len slots) c.args.to _ _ slots.ok.0 (omega (arith, c.if-len-to.true, c.len-2.ensures)) (omega (arith, c.push_run.ensures.long, more.ok.0)) c.push_run.ensures.kept c.push_run.ensures.adds c.push_run.ensures.run (c.loop-slots.invariant.grown len next sound)
