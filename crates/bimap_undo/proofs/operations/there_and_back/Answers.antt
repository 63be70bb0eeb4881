use Rattle.std.proofs.Common.{arith}
use Rattle.bimap_undo.proofs.Paths.{keeps_through}
use Rattle.bimap_undo.proofs.Performing.{led_somewhere}
use Rattle.bimap_undo.proofs.operations.there_and_back.Goals as goal

pub returns : goal.returns
returns g c =
    let back = c.back_to.ensures.gone_back in
    let there = c.perform_all-outcomes.ensures in
    record {
      performed = led_somewhere g.L.PartialEq.eq g.R.PartialEq.eq c.args.undoable.now c.args.operations.items c.perform_all-outcomes.result c.perform_all-outcomes.new.undoable there.performed;
      gone_back = record {
        held = λ A b. back.held A (there.kept.sets c.args.mark (omega arith) A b);
        kept = keeps_through g.L.PartialEq.eq g.R.PartialEq.eq c.args.undoable.now c.perform_all-outcomes.new.undoable c.back_to.new.self c.args.mark there.kept back.kept;
        recorded = back.recorded;
      };
      room = omega (arith, there.room, c.back_to.ensures.room);
    }
