use Rattle.std.proofs.Common.{◌++◌, ◌∙◌, ap, arith}
use Rattle.bimap_base.specs.Kept.{answered_true}
use Rattle.bimap_base.specs.PairsAt.{pairs_at}
use Rattle.bimap_kinds.specs.HeldTable.{held}
use Rattle.bimap_kinds.proofs.Walk.{pushed, right_walk, table_facts}
use Rattle.bimap_kinds.proofs.map.BijectiveMap.extract_into.Goals as goal

pub invariant_of-self : goal.invariant_of-self
invariant_of-self g c = table_facts c.partition_ordered.new.table g.met.I.Index.listed g.met.I.Index.distinct g.met.I.Index.settled g.met.I.Index.in_order g.met.L.Eq.laws g.met.R.Eq.laws _ (right_walk c.partition_ordered.new.table g.met.J.Index.listed g.met.J.Index.distinct g.met.J.Index.settled)

pub partition_ordered-requires-clause-may : goal.partition_ordered-requires-clause-may
unfolding held
partition_ordered-requires-clause-may g c = c.requires.may

pub partition_ordered-requires-clause-fits : goal.partition_ordered-requires-clause-fits
unfolding held
partition_ordered-requires-clause-fits g c n le = omega (arith, c.in_ok-try_reserve.ensures.ok, c.len.ensures, le)

pub returns-clause-extracted : goal.returns-clause-extracted
unfolding held
returns-clause-extracted g c =
    let p = c.partition_ordered.ensures.parted in
    let table = c.args.self.now.table in
    record {
      answers = p.answers;
      last = p.last;
      calls = p.calls;
      gone = pushed c.try_reserve.new.self (λ v. v.items) _ c.partition_ordered.new.outlet p.gone ∙ ap (λ xs. xs ++ answered_true g.F.FnMut (pairs_at table.pairs (g.I.Index.places table.left)) p.answers) c.try_reserve.ensures.items;
      kept = p.kept;
      room = c.partition_ordered.ensures.room;
    }
