use Rattle.std.proofs.Common.{◌≡◌, ◌<◌, ◌+◌, ◌∙◌, length, replicate, ap, sym, subst, is_some, arith, None}
use Rattle.std.proofs.lemmas.List.{length-map, length-replicate}
use Rattle.bimap_chain.specs.Cells.{free_cell, numbers_in}
use Rattle.bimap_chain.specs.Chains.{number_at}
use Rattle.bimap_chain.specs.Threads.{numbers_of, IsSized}
use Rattle.bimap_chain.proofs.Kept.{everywhere, map-replicated}
use Rattle.bimap_chain.proofs.Rehashed.{IsRehashedTo, one_more, none_more, all_listed}
use Rattle.bimap_chain.proofs.threads.Threads.rehashed.Goals as goal
use Rattle.bimap_chain.proofs.threads.Threads.rehashed.Goals.{then-is_some, else-is_some}

pub loop-place-init : goal.loop-place-init
loop-place-init g c =
    let n = length c.args.self.now.cells in
    record {
      numbers = record {
        below = λ p less. absurd (omega (arith, less));
        above = λ p more. ap (λ z. number_at (numbers_in z) p) c.in_ok-copy.ensures.cells ∙ ap (λ z. number_at z p) (map-replicated (λ e. e.number) n free_cell) ∙ everywhere n p None;
      };
      cells = ap length c.in_ok-copy.ensures.cells ∙ length-replicate n free_cell;
      heads = c.in_ok-copy.ensures.heads;
    }

pub loop-place-preserved : goal.loop-place-preserved
loop-place-preserved g c =
    let i = c.loop-place.invariant in
    let place = c.loop-place.place in
    let copy = c.loop-place.copy in
    let key_at = g.S.Spread.key_at c.args.spread.now in
    let number_of = g.S.Spread.number_of c.args.spread.now in
    let inside : place < length (numbers_of copy) = omega (arith, c.loop-place-test.true, c.len-place-end.ensures, i.cells, length-map copy.cells (λ e. e.number)) in
    let told = c.requires.keys place ∙ ap is_some (sym c.number.ensures) ∙ sym c.is_some.ensures in
    elim c.if-is_some.branch [
      | then-is_some w ↦
          rw w.copy-is record {
            numbers = subst (IsRehashedTo key_at number_of (place + 1)) (sym w.list.ensures.numbers) (one_more key_at number_of place w.hash_place.result (numbers_of copy) inside (told ∙ w.if-is_some.true) w.hash_place.ensures i.numbers);
            cells = w.list.ensures.cells ∙ i.cells;
            heads = w.list.ensures.heads ∙ i.heads;
          }
      | else-is_some w ↦
          rw w.copy-is record {
            numbers = none_more key_at number_of place (numbers_of copy) (told ∙ w.if-is_some.false) i.numbers;
            cells = i.cells;
            heads = i.heads;
          }
    ]

pub thread-requires : goal.thread-requires
thread-requires g c =
    let i = c.loop-place.invariant in
    let self = c.args.self.now in
    let copy = c.loop-place.copy in
    let long : length copy.heads ≡ length self.heads = ap length i.heads ∙ length-replicate (length self.heads) None in
    record {
      sized = subst (λ n. IsSized n (length copy.heads)) (sym i.cells) (subst (IsSized (length self.cells)) (sym long) c.requires.sound.sized);
      empty = i.heads ∙ ap (λ n. replicate n None) (sym long);
    }

pub returns-clause-numbers : goal.returns-clause-numbers
returns-clause-numbers g c place =
    let self = c.args.self.now in
    let copy = c.loop-place.copy in
    ap (λ z. number_at z place) c.thread.ensures.numbers
    ∙ all_listed (g.S.Spread.key_at c.args.spread.now) (g.S.Spread.number_of c.args.spread.now) c.loop-place.place (numbers_of self) (numbers_of copy) c.requires.keys
    (omega (arith, c.loop-place-test.false, c.len-place-end.ensures, length-map self.cells (λ e. e.number))) c.loop-place.invariant.numbers place
