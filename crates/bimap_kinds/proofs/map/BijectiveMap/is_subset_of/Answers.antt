use contract.BorrowLft.{⊑_static}
use Rattle.std.proofs.Common.{refl, sym, ◌∙◌, subst, append-nil}
use Rattle.std.specs.Prelude.{Contains}
use Rattle.std.proofs.lemmas.Bool.{false≢true}
use Rattle.std.proofs.lemmas.List.Elements.{Contains-append_right}
use Rattle.bimap_base.proofs.Members.{head_in}
use Rattle.bimap_any.proofs.Meeting.{IsMetUpTo, met_more}
use Rattle.bimap_kinds.specs.Held.{holding}
use Rattle.bimap_kinds.proofs.map.BijectiveMap.is_subset_of.Goals as goal

-- A course is `'static`, so it outlives every lifetime.
pub into_iter-left-iterator-requires-lives-I-Iterator-3 : goal.into_iter-left-iterator-requires-lives-I-Iterator-3
into_iter-left-iterator-requires-lives-I-Iterator-3 g c κs within = λ a m. ⊑_static κs.1.0 a (c.type_bounds.static-I-Way a m)

pub returns-then-not-contains_pair : goal.returns-then-not-contains_pair
returns-then-not-contains_pair g c =
    let pair : g.row.L.Denot × g.row.R.Denot = (c.in-Some.left.now, c.in-Some.right.now) in
    let so_far = subst (λ rest. IsMetUpTo g.L.PartialEq.eq g.R.PartialEq.eq (holding c.args.self.now).pairs rest (g.B.Bijection.holding c.args.other.now).pairs) c.in-Some.ensures.steps c.loop-left.invariant in
    let there = subst (λ xs. Contains xs pair) (sym so_far.split) (Contains-append_right so_far.before _ pair (head_in pair c.next.new.self)) in
    (λ t. absurd (false≢true t), λ all. absurd (false≢true (c.if-not-contains_pair.ensures.1 (all pair there))))

pub loop-left-preserved : goal.loop-left-preserved
loop-left-preserved g c =
    let pair : g.row.L.Denot × g.row.R.Denot = (c.in-Some.left.now, c.in-Some.right.now) in
    let so_far = subst (λ rest. IsMetUpTo g.L.PartialEq.eq g.R.PartialEq.eq (holding c.args.self.now).pairs rest (g.B.Bijection.holding c.args.other.now).pairs) c.in-Some.ensures.steps c.loop-left.invariant in
    met_more g.L.PartialEq.eq g.R.PartialEq.eq (holding c.args.self.now).pairs c.next.new.self (g.B.Bijection.holding c.args.other.now).pairs pair so_far (c.if-not-contains_pair.ensures.0 refl)

pub returns : goal.returns
returns g c =
    let so_far = subst (λ rest. IsMetUpTo g.L.PartialEq.eq g.R.PartialEq.eq (holding c.args.self.now).pairs rest (g.B.Bijection.holding c.args.other.now).pairs) c.in-None.ensures.steps.0 c.loop-left.invariant in
    (λ t p there. so_far.met p (subst (λ xs. Contains xs p) (so_far.split ∙ append-nil so_far.before) there), λ all. refl)
