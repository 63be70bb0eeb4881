use Rattle.std.proofs.Common.{◌≡◌, ◌∙◌, ◌+◌, length, ap, sym, refl, subst, arith, add-one, None, Some}
use Rattle.std.specs.Prelude.{slice_index_or, slice_set}
use Rattle.std.proofs.lemmas.List.{length-map}
use Rattle.bimap_chain.specs.Threads.{numbers_of, links_of}
use Rattle.bimap_chain.proofs.Kept.{everywhere, set_same}
use Rattle.bimap_chain.proofs.WithNext.{as_sized, few}
use Rattle.bimap_chain.proofs.Rethread.{ThreadedBelow, begun, passed, put_first}
use Rattle.bimap_chain.proofs.threads.Threads.thread.Goals as goal
use Rattle.bimap_chain.proofs.threads.Threads.thread.Goals.{in-Some, in_default}

pub loop-place-init : goal.loop-place-init
loop-place-init g c =
    let old = c.args.self.now in
    record {
      numbers = refl;
      cells = omega (arith, c.len-cells.ensures);
      sized = c.requires.sized;
      threaded = begun _ _ _ (length-map old.cells (λ e. e.next) ∙ sym (length-map old.cells (λ e. e.number)))
          (omega (arith, c.requires.sized.enough, length-map old.cells (λ e. e.number)))
          (λ k l. ap (λ v. slice_index_or v k None) c.requires.empty ∙ everywhere _ k None);
    }

pub list-requires-clause-next : goal.list-requires-clause-next
list-requires-clause-next g c =
    let i = c.loop-place.invariant in
    few _ _ _ _ _ _ (c.head-next.ensures ∙ i.threaded.heads_begin _ c.bucket-bucket.ensures.bound) (omega (arith, i.cells, c.loop-place-test.true, length-map c.loop-place.self.cells (λ e. e.number)))

pub loop-place-preserved : goal.loop-place-preserved
loop-place-preserved g c =
    let i = c.loop-place.invariant in
    let old = c.loop-place.self in
    let place = c.loop-place.place in
    elim c.match-number.branch [
      | in-Some w ↦
          let held = sym c.number.ensures ∙ w.in-Some.is in
          let same : numbers_of w.set_link.new.self ≡ numbers_of old = w.set_link.ensures.numbers ∙ w.list.ensures.numbers ∙ set_same (numbers_of old) place (Some w.in-Some.number) None held in
          let long : length w.set_link.new.self.cells ≡ length old.cells = w.set_link.ensures.cells ∙ w.list.ensures.cells in
          let heads : length w.set_link.new.self.heads ≡ length old.heads = w.set_link.ensures.heads ∙ ap length w.list.ensures.heads in
          let first = put_first (numbers_of old) (links_of old) old.heads w.bucket-bucket.result w.in-Some.number place (place + 1) w.head-next.result i.threaded (add-one place) w.bucket-bucket.ensures.value held w.head-next.ensures in
          let links = w.set_link.ensures.links.0 ∙ w.list.ensures.links in
          let begin = w.set_link.ensures.links.1 ∙ ap (λ h. slice_set h w.bucket-bucket.result (Some place)) w.list.ensures.heads in
          rw w.self-is record {
            numbers = same ∙ i.numbers;
            cells = long ∙ i.cells;
            sized = as_sized _ _ _ _ i.sized long heads;
            threaded = subst (λ n. ThreadedBelow n (links_of w.set_link.new.self) w.set_link.new.self.heads (place + 1)) (sym same)
                (subst (λ n. ThreadedBelow (numbers_of old) n w.set_link.new.self.heads (place + 1)) (sym links) (subst (λ n. ThreadedBelow (numbers_of old) (slice_set (links_of old) place w.head-next.result) n (place + 1)) (sym begin) first));
          }
      | in_default w ↦
          rw w.self-is record {
            numbers = i.numbers;
            cells = i.cells;
            sized = i.sized;
            threaded = passed _ _ _ place (place + 1) i.threaded (add-one place) (sym c.number.ensures ∙ w.in_default.is);
          }
    ]
