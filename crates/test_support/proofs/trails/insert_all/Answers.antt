use Rattle.std.proofs.Common.{rules, ◌≡◌, subst, sym, arith, length}
use Rattle.bimap.specs.Trail.{Leads}
use Rattle.bimap.proofs.Trails.{leads_none, leads_push}
use Rattle.test_support.proofs.trails.insert_all.Goals as goal

pub loop-left-init : goal.loop-left-init
loop-left-init g c = record {
  long = search rules;
  capacity = search rules;
  leads = subst (λ entries. Leads g.L.PartialEq.eq g.R.PartialEq.eq (g.B.Bijection.holding c.args.bimap.now).pairs entries (g.B.Bijection.holding c.args.bimap.now).pairs) (sym c.in_ok-entries.ensures.items) (leads_none g.L.PartialEq.eq g.R.PartialEq.eq g.met.L.Eq.laws g.met.R.Eq.laws (g.B.Bijection.holding c.args.bimap.now).pairs (g.met.B.Bijection.apart c.args.bimap.now));
}

pub loop-left-preserved : goal.loop-left-preserved
loop-left-preserved g c = record {
  long = search rules;
  capacity = search rules;
  leads = subst (λ entries. Leads g.L.PartialEq.eq g.R.PartialEq.eq (g.B.Bijection.holding c.args.bimap.now).pairs entries (g.B.Bijection.holding c.insert.new.self).pairs) (sym c.push_reserved.ensures.items)
      (leads_push g.L.PartialEq.eq g.R.PartialEq.eq g.met.L.Eq.laws g.met.R.Eq.laws (g.B.Bijection.holding c.args.bimap.now).pairs c.loop-left.entries.items (g.B.Bijection.holding c.loop-left.bimap).pairs (g.B.Bijection.holding c.insert.new.self).pairs c.loop-left-item.result.0 c.loop-left-item.result.1 c.in-Ok.answer c.loop-left.invariant.leads (g.met.B.Bijection.apart c.insert.new.self) c.in-Ok.ensures.answer.answer c.in-Ok.ensures.answer.put);
}
