use Rattle.std.proofs.lemmas.Grind.{common_steps}
use Rattle.std.proofs.Common.{◌<◌, ◌∙◌, length, ap, sym, arith, None, Some}
use Rattle.std.specs.Prelude.{slice_set}
use Rattle.std.proofs.lemmas.List.{length-map}
use Rattle.bimap_chain.specs.Threads.{numbers_of}
use Rattle.bimap_chain.proofs.Filling.{copied_more, left_free}
use Rattle.bimap_chain.proofs.threads.Threads.widened.Goals as goal
use Rattle.bimap_chain.proofs.threads.Threads.widened.Goals.{in-Some, in_default}

pub loop-place-preserved : goal.loop-place-preserved
loop-place-preserved g c =
    let i = c.loop-place.invariant in
    let place = c.loop-place.place in
    let numbers = numbers_of c.args.self.now in
    let inside : place < length numbers = omega (arith, c.loop-place-test.true, c.len-cells.ensures, length-map c.args.self.now.cells (λ e. e.number)) in
    elim c.match-number.branch [
      | in-Some w ↦
          let n = w.in-Some.number in
          rw w.wide-is record {
            sound = w.insert_numbered.ensures.sound;
            numbers = w.insert_numbered.ensures.numbers ∙ ap (λ z. slice_set z place (Some n)) i.numbers ∙ copied_more numbers place inside c.args.to (Some n) (sym c.number.ensures ∙ w.in-Some.is) c.requires.above;
          }
      | in_default w ↦
          rw w.wide-is record {
            sound = i.sound;
            numbers = i.numbers ∙ sym (left_free numbers place inside c.args.to c.requires.above) ∙ copied_more numbers place inside c.args.to None (sym c.number.ensures ∙ w.in_default.is) c.requires.above;
          }
    ]

pub returns-clause-numbers : goal.returns-clause-numbers
returns-clause-numbers g c = grind (arith, common_steps)
