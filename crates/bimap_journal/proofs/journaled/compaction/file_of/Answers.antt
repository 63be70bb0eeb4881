use Rattle.std.proofs.Common.{arith, rules, ◌≡◌, ◌∷◌, [], map, subst, sym}
use Rattle.std.specs.Map.Iter.{deref_pair}
use Rattle.std.proofs.lemmas.List.{map-append}
use Rattle.std.proofs.lemmas.Map.Iter.{iter_end}
use Rattle.std.proofs.lemmas.Grind.{common_steps}
use contract.BorrowLft.{⊑_static}
use Rattle.bimap.specs.InsertionOrder.{holding}
use Rattle.bimap_journal.specs.Changes.{IsListOf}
use Rattle.bimap_journal.proofs.Listed.{Lists, lists_none, lists_some, lists_push, listed}
use Rattle.bimap_journal.proofs.journaled.compaction.file_of.Goals as goal

pub into_iter-left-iterator-requires-lives-I-Iterator-3 : goal.into_iter-left-iterator-requires-lives-I-Iterator-3
into_iter-left-iterator-requires-lives-I-Iterator-3 g c κs within = λ a m. ⊑_static κs.1.0 a (c.type_bounds.static-I-Way a m)

pub loop-left-init : goal.loop-left-init
loop-left-init g c = lists_none g.L.Stored.reads g.R.Stored.reads g.L.PartialEq.eq g.R.PartialEq.eq _ (grind (arith, common_steps))

pub push_insertion-requires : goal.push_insertion-requires
push_insertion-requires g c = record { begun = lists_some g.L.Stored.reads g.R.Stored.reads g.L.PartialEq.eq g.R.PartialEq.eq _ _ c.loop-left.invariant }

pub loop-left-preserved : goal.loop-left-preserved
loop-left-preserved g c =
    let before = map deref_pair c.loop-left.yielded in
    let p : g.row.L.Denot × g.row.R.Denot = (c.in-Some.left.now, c.in-Some.right.now) in
    let pushed = c.in_ok-push_insertion.ensures in
    subst (λ ps. Lists g.L.Stored.reads g.R.Stored.reads g.L.PartialEq.eq g.R.PartialEq.eq ps c.push_insertion.new.file.items) (sym (map-append deref_pair c.loop-left.yielded ((c.in-Some.left, c.in-Some.right) ∷ [])))
    (lists_push g.L.Stored.reads g.R.Stored.reads g.L.PartialEq.eq g.R.PartialEq.eq before p pushed.0 c.loop-left.file.items c.push_insertion.new.file.items c.loop-left.invariant pushed.1 pushed.2 pushed.3)

pub returns : goal.returns
returns g c =
    let pairs = (holding c.args.map.now).pairs in
    let all : map deref_pair c.loop-left.yielded ≡ pairs = search (rules, iter_end) in
    subst (λ ps. IsListOf g.L.PartialEq.eq g.R.PartialEq.eq g.L.Stored.reads g.R.Stored.reads ps c.push.new.self.items) all
    (listed g.L.Stored.reads g.R.Stored.reads g.L.PartialEq.eq g.R.PartialEq.eq _ c.loop-left.file.items c.push.new.self.items c.loop-left.invariant c.in_ok-push.ensures.items)
