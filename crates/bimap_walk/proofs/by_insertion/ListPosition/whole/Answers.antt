use Rattle.std.proofs.Common.{◌≡◌, ◌-◌, length, ◌∙◌, ap, arith, sym}
use Rattle.std.specs.Prelude.{slice_get}
use Rattle.bimap_base.proofs.Compaction.{counted_in}
use Rattle.bimap_base.proofs.Walk.{listed_long}
use Rattle.bimap_walk.proofs.Windows.{between_all}
use Rattle.bimap_walk.proofs.by_insertion.ListPosition.whole.Goals as goal

pub returns-clause-position : goal.returns-clause-position
returns-clause-position g c =
    let all : c.len.result ≡ length c.args.list.now.places = c.len.ensures.value ∙ counted_in c.args.pairs.now ∙ sym (listed_long c.args.pairs.now c.args.list.now.places record { live = c.requires.lists; distinct = c.requires.distinct }) in
    record {
      ordered = omega arith;
      within = omega (arith, all);
      next = λ _. c.first.ensures;
      last = λ _. c.last.ensures ∙ ap (λ n. slice_get c.args.list.now.places (n - 1)) (sym all);
      distinct = c.requires.distinct;
    }

pub returns-clause-places : goal.returns-clause-places
returns-clause-places g c =
    between_all c.args.list.now.places c.len.result (c.len.ensures.value ∙ counted_in c.args.pairs.now ∙ sym (listed_long c.args.pairs.now c.args.list.now.places record { live = c.requires.lists; distinct = c.requires.distinct }))
