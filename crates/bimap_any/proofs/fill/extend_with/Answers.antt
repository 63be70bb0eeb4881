use Rattle.std.proofs.Common.{append-nil, ◌≡◌, ◌∙◌, refl, sym, subst, arith, Contains, rules}
use Rattle.std.proofs.lemmas.List.{length_push}
use Rattle.bimap_any.specs.Extension.{IsExtensionStoppedUnder}
use Rattle.bimap_base.specs.Holding.{IsFull}
use Rattle.bimap_base.specs.Positions.{ComeInOrder}
use Rattle.bimap_any.proofs.Extending.{ArePutIn, put_in_none, put_in_more, put_in_full, refusal_along, all_put_in, item_after}
use Rattle.bimap_any.proofs.Positions.{in_order_more}
use Rattle.bimap_any.proofs.fill.extend_with.Goals as goal
use Rattle.bimap_any.proofs.fill.extend_with.Goals.{In-Err}

pub loop-left-init : goal.loop-left-init
loop-left-init g c =
    let ready = c.requires.ends _ c.into_iter-left-iterator.ensures.into_iter_gives in
    record {
      callable = ready.0;
      ends = ready.1;
      taken = refl;
      lenders = refl;
      in_turn = λ appends all. sym (append-nil _);
      put_in = put_in_none g.L.PartialEq.eq g.R.PartialEq.eq (g.B.Bijection.holding c.args.bimap.now) c.args.policy;
    }

pub loop-left-preserved : goal.loop-left-preserved
loop-left-preserved g c =
    let p = c.in-Some.ensures.goes.on c.loop-left.invariant.ends in
    let more = length_push c.loop-left.yielded (c.in-Some.left, c.in-Some.right) in
    let i = c.loop-left.invariant in
    let e = c.in-Ok.ensures.answer in
    record {
      callable = p.0;
      ends = p.1;
      taken = omega (arith, more, c.saturating_add-taken.ensures, i.taken);
      lenders = c.in-Ok.ensures.lenders ∙ i.lenders;
      in_turn = λ appends. in_order_more _ c.loop-left.yielded _ (c.in-Some.left, c.in-Some.right) c.in-Ok.answer _ i.put_in.no_longer (i.in_turn appends) e.count (c.in-Ok.ensures.position appends);
      put_in = put_in_more g.L.PartialEq.eq g.R.PartialEq.eq (g.B.Bijection.holding c.args.bimap.now) c.loop-left.yielded c.args.policy (g.B.Bijection.holding c.loop-left.bimap) (c.in-Some.left, c.in-Some.right) c.in-Ok.answer (g.B.Bijection.holding c.insert_with.new.self)
          g.met.L.Eq.laws g.met.R.Eq.laws (g.met.B.Bijection.apart c.loop-left.bimap) (g.met.B.Bijection.apart c.insert_with.new.self) (g.met.B.Bijection.fits c.loop-left.bimap) i.put_in e.allowed e.answer e.put e.room;
    }

-- The items before the refused one came last, in order.
stopped : (g : _) (c : In-Err g) → (s : IsExtensionStoppedUnder g.L.PartialEq.eq g.R.PartialEq.eq (g.I.IntoIterator.into_iter_gives c.args.items) g.I.IntoIter.Iterator.next_gives (g.B.Bijection.holding c.args.bimap.now) c.args.policy (record { taken = c.loop-left.taken; why = c.in-Err.why }) (g.B.Bijection.holding c.insert_with.new.self)) × (s.items ≡ c.loop-left.yielded)
stopped g c =
    let first = g.B.Bijection.holding c.args.bimap.now in
    let old = g.B.Bijection.holding c.loop-left.bimap in
    let new = g.B.Bijection.holding c.insert_with.new.self in
    let e = c.in-Err.ensures.answer in
    let i = c.loop-left.invariant in
    let it = c.into_iter-left-iterator in
    let same : old ≡ new = sym e.unchanged in
    let put_in = subst (ArePutIn g.L.PartialEq.eq g.R.PartialEq.eq first c.loop-left.yielded c.args.policy) same i.put_in in (
      record {
        items = c.loop-left.yielded;
        refused = record {
          item = (c.in-Some.left, c.in-Some.right);
          is_next = item_after g.L.PartialEq.eq g.R.PartialEq.eq _ _ c.loop-left.yielded (c.in-Some.left, c.in-Some.right) _ it.result c.next.new.self it.ensures.into_iter_gives (c.loop-left.left-iterator, c.loop-left.yielded_by, c.in-Some.ensures.steps) i.taken;
          allowed = put_in.allowed;
          why = refusal_along g.L.PartialEq.eq g.R.PartialEq.eq (Contains old.pairs) _ (IsFull old) _ (c.in-Some.left, c.in-Some.right) c.args.policy c.in-Err.why i.put_in.survivors
              (λ full. put_in_full g.L.PartialEq.eq g.R.PartialEq.eq first c.loop-left.yielded c.args.policy new put_in (subst IsFull same full))
              e.refused;
        };
        survivors = put_in.survivors;
        room = put_in.room;
      },
      refl,
    )

pub returns-in-Err-clause-stopped : goal.returns-in-Err-clause-stopped
returns-in-Err-clause-stopped g c = (stopped g ((goal.at.returns-in-Err-clause-stopped g c).In-Err)).0

pub returns-in-Err-clause-position_stopped : goal.returns-in-Err-clause-position_stopped
returns-in-Err-clause-position_stopped g c appends =
    let first = g.B.Bijection.holding c.args.bimap.now in
    let i = c.loop-left.invariant in
    let stop = stopped g ((goal.at.returns-in-Err-clause-position_stopped g c).In-Err) in
    (stop.0, subst (λ items. ComeInOrder first.pairs items (g.B.Bijection.holding c.insert_with.new.self).pairs) (sym stop.1) (subst (λ held. ComeInOrder first.pairs c.loop-left.yielded held.pairs) (sym c.in-Err.ensures.answer.unchanged) (i.in_turn appends)))

pub returns-clause-extended : goal.returns-clause-extended
returns-clause-extended g c =
    let it = c.into_iter-left-iterator in
    let i = c.loop-left.invariant in
    all_put_in g.L.PartialEq.eq g.R.PartialEq.eq _ _ (g.B.Bijection.holding c.args.bimap.now) c.loop-left.yielded c.args.policy _ it.result it.ensures.into_iter_gives (search rules) i.put_in

pub returns-in-Err-clause-extended : goal.returns-in-Err-clause-extended
returns-in-Err-clause-extended g c = search

pub returns-clause-position : goal.returns-clause-position
returns-clause-position g c appends =
    let it = c.into_iter-left-iterator in
    record { iterator = it.result; items = c.loop-left.yielded; given = it.ensures.into_iter_gives; all = search rules; in_turn = c.loop-left.invariant.in_turn appends }
