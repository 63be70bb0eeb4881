use Rattle.std.proofs.Common.{rules, ◌≡◌, ◌++◌, ◌∷◌, [], length, sym, ap, ◌∙◌, arith, length-append, append_assoc}
use Rattle.std.specs.Vec.Iter.{into_iter_items}
use Rattle.std.proofs.lemmas.List.{append-nil}
use Rattle.bimap.proofs.Members.{head_in, more_in}
use Rattle.bimap.proofs.Trails.{empty_from_length}
use Rattle.bimap_undo.proofs.Paths.{keeps_through}
use Rattle.bimap_undo.proofs.Performing.{performed_more}
use Rattle.bimap_undo.proofs.operations.perform_all.Goals as goal

pub perform-outcome-requires : goal.perform-outcome-requires
perform-outcome-requires g c = record {
  recorded = c.loop-operation.invariant.recorded;
  above = c.loop-operation.invariant.above c.in-Some.operation (rw c.in-Some.ensures.steps.0 (head_in c.in-Some.operation (into_iter_items c.next.new.self)));
}

pub loop-operation-preserved : goal.loop-operation-preserved
loop-operation-preserved g c =
    let e = c.perform-outcome.ensures in
    let i = c.loop-operation.invariant in
    record {
      front = (search rules) ∙ sym (append_assoc c.loop-operation.yielded (c.in-Some.operation ∷ []) (into_iter_items c.next.new.self));
      long = rw c.push_reserved.ensures.items (omega (arith, length-append c.loop-operation.outcomes.items (c.perform-outcome.result ∷ []), length-append c.loop-operation.yielded (c.in-Some.operation ∷ []), i.long));
      capacity = search rules;
      performed = rw c.push_reserved.ensures.items (performed_more g.L.PartialEq.eq g.R.PartialEq.eq c.args.undoable.now c.loop-operation.yielded c.loop-operation.outcomes.items c.loop-operation.undoable c.in-Some.operation c.perform-outcome.result c.perform-outcome.new.undoable i.performed e.performed);
      above = λ operation m. i.above operation (rw c.in-Some.ensures.steps.0 (more_in c.in-Some.operation (into_iter_items c.next.new.self) operation m));
      recorded = e.recorded;
      kept = keeps_through g.L.PartialEq.eq g.R.PartialEq.eq c.args.undoable.now c.loop-operation.undoable c.perform-outcome.new.undoable c.args.mark i.kept e.kept;
      room = omega (arith, i.room, e.room);
    }

pub returns-clause-performed : goal.returns-clause-performed
returns-clause-performed g c =
    let none = empty_from_length (into_iter_items c.loop-operation.operation-iterator) (sym c.loop-operation.operation-iterator.rest.ok.0 ∙ c.in-None.ensures.steps.0) in
    let all : c.args.operations.items ≡ c.loop-operation.yielded = c.loop-operation.invariant.front ∙ ap (λ rest. c.loop-operation.yielded ++ rest) none ∙ append-nil c.loop-operation.yielded in
    rw all c.loop-operation.invariant.performed

pub loop-operation-init : goal.loop-operation-init
loop-operation-init g c =
    let front : c.args.operations.items ≡ into_iter_items c.into_iter-operation-iterator.result = search rules in
    record {
      front = front;
      long = search rules;
      capacity = search rules;
      performed = search rules;
      above = λ operation m. c.requires.above operation (rw front m);
      recorded = search rules;
      kept = search rules;
      room = search rules;
    }
