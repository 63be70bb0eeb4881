use Rattle.std.proofs.Common.{◌≡◌, ◌∙◌, Bool, arith, sym}
use Rattle.std.specs.Prelude.{IsTrue}
use Rattle.bimap_chain.specs.Chains.{Matches}
use Rattle.bimap_chain.specs.Threads.{numbers_of}
use Rattle.bimap_chain.proofs.Walk.{arrived, stepped, ended_some, gone_on, nothing_left, keyed, hit, miss, is_some_of, is_other, its_number}
use Rattle.bimap_chain.proofs.threads.Threads.seek.Given.{Over}
use Rattle.bimap_chain.proofs.threads.Threads.seek.Goals as goal
use Rattle.bimap_chain.proofs.threads.Threads.seek.Goals.{After-len-end, else-has_number-via-then-has_number+else-same, else-has_number-via-else-has_number}

pub has_number-requires-clause-place : goal.has_number-requires-clause-place
has_number-requires-clause-place g c = (arrived _ _ _ _ _ c.loop-at.invariant.0.at_last c.loop-at.invariant.0.within c.in-Some.is).1

pub has_number-requires-clause-listed : goal.has_number-requires-clause-listed
has_number-requires-clause-listed g c = (arrived _ _ _ _ _ c.loop-at.invariant.0.at_last c.loop-at.invariant.0.within c.in-Some.is).2

pub next-at-requires-clause-place : goal.next-at-requires-clause-place
next-at-requires-clause-place g c = (arrived _ _ _ _ _ c.loop-at.invariant.0.at_last c.loop-at.invariant.0.within c.in-Some.is).1

pub next-at-requires-clause-listed : goal.next-at-requires-clause-listed
next-at-requires-clause-listed g c = (arrived _ _ _ _ _ c.loop-at.invariant.0.at_last c.loop-at.invariant.0.within c.in-Some.is).2

pub loop-at-smaller : goal.loop-at-smaller
loop-at-smaller g c = (arrived _ _ _ _ _ c.loop-at.invariant.0.at_last c.loop-at.invariant.0.within c.in-Some.is).0

pub same-requires : goal.same-requires
same-requires g c = record {
  live =
      keyed _ _ (λ k. g.S.Spread.same_key k c.args.query) (numbers_of c.args.self.now) c.in-Some.place c.args.number c.requires.numbered
      (is_some_of _ _ c.has_number.ensures c.if-has_number.true);
}

pub returns-then-same-clause-found : goal.returns-then-same-clause-found
returns-then-same-clause-found g c =
    hit _ _ (λ k. g.S.Spread.same_key k c.args.query) (numbers_of c.args.self.now) c.in-Some.place c.args.number c.same.result c.requires.numbered
    (is_some_of _ _ c.has_number.ensures c.if-has_number.true) c.same.ensures c.if-same.true

pub returns-then-same-clause-over : goal.returns-then-same-clause-over
returns-then-same-clause-over g c =
    let along = c.loop-at.invariant.0 in
    ended_some _ _ _ _ _ _ _ along (arrived _ _ _ _ _ along.at_last along.within c.in-Some.is).0 c.in-Some.is (omega arith)

-- A key that is equal to the query has the number that is searched for.
own : (g : Over) (c : After-len-end g) (k : g.row.S-Key.Denot) → IsTrue (g.S.Spread.same_key k c.args.query) → g.S.Spread.number_of c.args.spread.now k ≡ c.args.number
own g c k t = g.met.S.Spread.alike c.args.spread.now k c.args.query t ∙ sym c.requires.number

pub loop-at-preserved : goal.loop-at-preserved
loop-at-preserved g c =
    let numbers = numbers_of c.args.self.now in
    let key_at = g.S.Spread.key_at c.args.spread.now in
    let number_of = g.S.Spread.number_of c.args.spread.now in
    let test : g.row.S-Key.Denot → Bool = λ k. g.S.Spread.same_key k c.args.query in
    let same = own g (goal.at.loop-at-preserved g c).After-len-end in
    let absent : Matches key_at test numbers c.in-Some.place → ⊥ =
    elim c.else-has_number.branch [
      | else-has_number-via-then-has_number+else-same w ↦ miss key_at test numbers c.in-Some.place w.same.result w.same.ensures w.if-same.false
      | else-has_number-via-else-has_number w ↦ λ m. is_other _ c.args.number c.has_number.ensures w.if-has_number.false (its_number key_at number_of test numbers c.in-Some.place c.args.number c.requires.numbered same m)
    ] in (
      stepped _ _ _ _ _ _ _ _ c.requires.threaded c.loop-at.invariant.0 c.in-Some.is c.next-at.ensures,
      gone_on key_at number_of test numbers _ _ c.args.number c.loop-at.end c.in-Some.place _ c.requires.numbered same c.requires.bucket c.loop-at.invariant.0 c.loop-at.invariant.1 c.in-Some.is absent,
    )

pub returns-clause-absent : goal.returns-clause-absent
returns-clause-absent g c =
    nothing_left (g.S.Spread.key_at c.args.spread.now) (g.S.Spread.number_of c.args.spread.now) (λ k. g.S.Spread.same_key k c.args.query) _ _ _ c.args.number _ _
    c.requires.numbered (own g (goal.at.returns-clause-absent g c).After-len-end) c.requires.bucket c.loop-at.invariant.0 c.loop-at.invariant.1 c.in_default.is
