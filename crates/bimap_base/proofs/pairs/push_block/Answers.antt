use Rattle.std.proofs.Common.{◌≡◌, ◌+◌, ◌*◌, ◌/◌, ◌%◌, ◌∙◌, ap, arith, slice_get, subst, vec_len}
use Rattle.bimap_base.specs.FreeSlots.{AddsFree, IsRun}
use Rattle.bimap_base.proofs.FreeRuns.{grown_by_block}
use Rattle.bimap_base.proofs.pairs.push_block.Goals as goal

pub returns-clause-grown : goal.returns-clause-grown
returns-clause-grown g c first =
    let slots = c.args.slots.now in
    let pushed = c.push_reserved.new.self in
    let low = c.push_run.new.slots in
    let more = c.push_run-2.new.slots in
    let one : vec_len pushed ≡ c.len-first.result + 1 = omega (arith, c.push_reserved.ensures.len, c.len-first.ensures) in
    let middle = c.len-first.result + 2 + c.len-first.result / 1024 * 37 % 1000 in
    grown_by_block first slots.items low.items more.items c.len-first.result middle (c.len-first.result + 1024) (omega (arith, c.len-first.ensures, slots.ok.0)) (omega arith) (omega arith)
    (λ p within. c.push_run.ensures.kept p (omega (arith, within, one)) ∙ ap (λ xs. slice_get xs p) c.push_reserved.ensures.items)
    (subst (λ xs. AddsFree xs low.items) c.push_reserved.ensures.items c.push_run.ensures.adds)
    (subst (λ x. IsRun low.items x middle (c.len-first.result + 1024)) one c.push_run.ensures.run)
    (omega (arith, c.push_run.ensures.long, low.ok.0))
    (λ p within. c.push_run-2.ensures.kept p (omega (arith, within, c.push_run.ensures.long)))
    c.push_run-2.ensures.adds
    (subst (λ x. IsRun more.items x (c.len-first.result + 1024) (c.len-first.result + 1)) c.push_run.ensures.long c.push_run-2.ensures.run)
    (omega (arith, c.push_run-2.ensures.long, more.ok.0))
