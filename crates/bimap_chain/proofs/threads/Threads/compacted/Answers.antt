use Rattle.std.proofs.Common.{◌<◌, ◌∷◌, ◌∙◌, [], length, take, ap, sym, subst, arith, Some, length-append, rules}
use Rattle.std.specs.Prelude.{slice_set}
use Rattle.std.proofs.lemmas.List.{length-map}
use Rattle.bimap_base.specs.Places.{pairs_in, compacted}
use Rattle.bimap_base.proofs.Compaction.{length-compacted}
use Rattle.bimap_chain.specs.Threads.{numbers_of, IsSound}
use Rattle.bimap_chain.proofs.Filling.{more_seen, none_seen, room_left, filled_more}
use Rattle.bimap_chain.proofs.threads.Threads.compacted.Goals as goal
use Rattle.bimap_chain.proofs.threads.Threads.compacted.Goals.{in-Some, in_default}

pub insert_numbered-requires-clause-cell : goal.insert_numbered-requires-clause-cell
insert_numbered-requires-clause-cell g c =
    let i = c.loop-place.invariant in
    let numbers = numbers_of c.args.self.now in
    let inside : c.loop-place.place < length numbers = omega (arith, c.loop-place-test.true, c.len-place-end.ensures, length-map c.args.self.now.cells (λ e. e.number)) in
    let less = room_left numbers c.loop-place.place inside c.args.to c.in-Some.number (sym c.number.ensures ∙ c.in-Some.is) c.requires.fits in
    omega (arith, less, i.next, ap length i.kept, length-compacted (pairs_in (take c.loop-place.place numbers)) c.args.to (omega (arith, less)))

pub overflow_add-next : goal.overflow_add-next
overflow_add-next g c =
    let inside : c.loop-place.place < length (numbers_of c.args.self.now) = omega (arith, c.loop-place-test.true, c.len-place-end.ensures, length-map c.args.self.now.cells (λ e. e.number)) in
    let less = room_left (numbers_of c.args.self.now) c.loop-place.place inside c.args.to c.in-Some.number (sym c.number.ensures ∙ c.in-Some.is) c.requires.fits in
    omega (arith, less, c.loop-place.invariant.next, c.ranges.to.fits)

pub loop-place-preserved : goal.loop-place-preserved
loop-place-preserved g c =
    let i = c.loop-place.invariant in
    let numbers = numbers_of c.args.self.now in
    let ns = pairs_in (take c.loop-place.place numbers) in
    let inside : c.loop-place.place < length numbers = omega (arith, c.loop-place-test.true, c.len-place-end.ensures, length-map c.args.self.now.cells (λ e. e.number)) in
    elim c.match-number.branch [
      | in-Some w ↦
          let n = w.in-Some.number in
          let is = sym c.number.ensures ∙ w.in-Some.is in
          let more = more_seen numbers c.loop-place.place inside n is in
          let less = room_left numbers c.loop-place.place inside c.args.to n is c.requires.fits in
          record {
            sound = subst IsSound (sym w.kept-is) w.insert_numbered.ensures.sound;
            next = omega (arith, w.next-is, i.next, ap length more, length-append ns (n ∷ []));
            kept = ap numbers_of w.kept-is ∙ w.insert_numbered.ensures.numbers ∙ ap (λ z. slice_set z c.loop-place.next (Some n)) i.kept ∙ ap (λ k. slice_set (compacted ns c.args.to) k (Some n)) i.next ∙ filled_more ns c.args.to less n ∙ ap (λ z. compacted z c.args.to) (sym more);
          }
      | in_default w ↦
          let same = none_seen numbers c.loop-place.place inside (sym c.number.ensures ∙ w.in_default.is) in
          record {
            sound = subst IsSound (sym w.kept-is) i.sound;
            next = w.next-is ∙ i.next ∙ ap length (sym same);
            kept = ap numbers_of w.kept-is ∙ i.kept ∙ ap (λ z. compacted z c.args.to) (sym same);
          }
    ]

pub loop-place-init : goal.loop-place-init
loop-place-init g c = search rules
