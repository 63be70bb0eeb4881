use Rattle.std.proofs.Common.{rules, ◌≡◌, length, Contains, ◌++◌, ◌∷◌, [], refl, sym, ap, ◌∙◌, arith, length-append, append_assoc}
use Rattle.std.specs.Vec.Iter.{into_iter_items}
use Rattle.std.specs.List.{zip}
use Rattle.std.proofs.lemmas.List.{append-nil}
use Rattle.bimap.specs.Test.{Answers, IsDecided}
use Rattle.bimap.proofs.Histories.{IsHistory_none, IsHistory_one, IsHistory_append, MayRetain_next, handed_from, zip_push, IsWholeHistory_from}
use Rattle.bimap.proofs.Trails.{empty_from_length}
use Rattle.bimap.proofs.runs.run.Goals as goal

pub loop-call-init : goal.loop-call-init
loop-call-init g c = record {
  front = search rules;
  long = search rules;
  capacity = search rules;
  same_test = refl;
  lenders = refl;
  history = IsHistory_none g.L.PartialEq.eq g.R.PartialEq.eq (Answers g.F.Fn c.args.test) (g.B.Bijection.holding c.args.bimap.now);
}

pub perform-reply-requires : goal.perform-reply-requires
perform-reply-requires g c = record {
  may =
      MayRetain_next (IsDecided g.F.Fn c.args.test) (Contains (g.B.Bijection.holding c.args.bimap.now).pairs) (Contains (g.B.Bijection.holding c.loop-call.bimap).pairs) c.args.calls.items c.loop-call.yielded (into_iter_items c.next.new.self) c.in-Some.call c.requires.test (search rules)
      (λ p m. handed_from g.L.PartialEq.eq g.R.PartialEq.eq (Answers g.F.Fn c.args.test) (Contains (g.B.Bijection.holding c.args.bimap.now).pairs) c.loop-call.yielded c.loop-call.replies.items p ((c.loop-call.invariant.history.survivors p).0 m));
}

pub loop-call-preserved : goal.loop-call-preserved
loop-call-preserved g c =
    let e = c.perform-reply.ensures in
    let one = IsHistory_one g.L.PartialEq.eq g.R.PartialEq.eq (Answers g.F.Fn c.args.test) (g.B.Bijection.holding c.loop-call.bimap) (g.B.Bijection.holding c.perform-reply.new.bimap) (c.in-Some.call, c.perform-reply.result) e.right e.step e.full (g.met.B.Bijection.apart c.loop-call.bimap) e.not_lower e.room in
    record {
      front = (search rules) ∙ sym (append_assoc c.loop-call.yielded (c.in-Some.call ∷ []) (into_iter_items c.next.new.self));
      long = rw c.push_reserved.ensures.items (omega (arith, length-append c.loop-call.replies.items (c.perform-reply.result ∷ []), length-append c.loop-call.yielded (c.in-Some.call ∷ []), c.loop-call.invariant.long));
      capacity = search rules;
      same_test = c.loop-call.invariant.same_test;
      lenders = e.lenders ∙ c.loop-call.invariant.lenders;
      history =
          rw (c.push_reserved.ensures.items, zip_push c.loop-call.yielded c.loop-call.replies.items c.in-Some.call c.perform-reply.result c.loop-call.invariant.long)
          (IsHistory_append g.L.PartialEq.eq g.R.PartialEq.eq (Answers g.F.Fn c.args.test) (g.B.Bijection.holding c.args.bimap.now) (g.B.Bijection.holding c.loop-call.bimap) (g.B.Bijection.holding c.perform-reply.new.bimap) (zip c.loop-call.yielded c.loop-call.replies.items) ((c.in-Some.call, c.perform-reply.result) ∷ [])
          c.loop-call.invariant.history one);
    }

taken_all : (g : _) (c : goal.After-drop-test-2 g) → c.args.calls.items ≡ c.loop-call.yielded
taken_all g c =
    let none = empty_from_length (into_iter_items c.loop-call.call-iterator) (sym c.loop-call.call-iterator.rest.ok.0 ∙ c.in-None.ensures.steps.0) in
    c.loop-call.invariant.front ∙ ap (λ rest. c.loop-call.yielded ++ rest) none ∙ append-nil c.loop-call.yielded

pub returns-clause-one_each : goal.returns-clause-one_each
returns-clause-one_each g c = let e = ap length (taken_all g c) in omega (arith, e, c.loop-call.invariant.long, c.loop-call.replies.ok.0, c.args.calls.ok.0)

pub returns-clause-history : goal.returns-clause-history
returns-clause-history g c = rw (taken_all g c) c.loop-call.invariant.history

pub returns-clause-from_empty : goal.returns-clause-from_empty
returns-clause-from_empty g c = λ none. IsWholeHistory_from g.L.PartialEq.eq g.R.PartialEq.eq (Answers g.F.Fn c.args.test) (g.B.Bijection.holding c.args.bimap.now) (g.B.Bijection.holding c.loop-call.bimap) (zip c.args.calls.items c.loop-call.replies.items) none (returns-clause-history g c)
