use Rattle.std.proofs.Common.{refl, sym, ◌∙◌, subst}
use Rattle.std.proofs.lemmas.Bool.{false≢true}
use Rattle.bimap_any.proofs.Meeting.{IsMetUpTo, met_more, met_all, unmet, unlike_long}
use Rattle.bimap_kinds.specs.Held.{holding}
use Rattle.bimap_kinds.proofs.map.BijectiveMap.has_equal_pairs.Goals as goal

pub returns-then-len : goal.returns-then-len
returns-then-len g c =
    sym (unlike_long g.L.PartialEq.eq g.R.PartialEq.eq (holding c.args.self.now).pairs (holding c.args.other.now).pairs (λ long. c.if-len.true (c.len.ensures ∙ long ∙ sym c.len-2.ensures)))

pub returns-then-not-has_equal : goal.returns-then-not-has_equal
returns-then-not-has_equal g c =
    let xs = (holding c.args.self.now).pairs in
    let ys = (holding c.args.other.now).pairs in
    let pair : g.row.L.Denot × g.row.R.Denot = (c.in-Some.left.now, c.in-Some.right.now) in
    let so_far = subst (λ rest. IsMetUpTo g.L.PartialEq.eq g.R.PartialEq.eq xs rest ys) c.in-Some.ensures.steps c.loop-left.invariant in
    sym (unmet g.L.PartialEq.eq g.R.PartialEq.eq xs c.next.new.self ys pair so_far (λ has. false≢true (c.if-not-has_equal.ensures.1 has)))

pub loop-left-preserved : goal.loop-left-preserved
loop-left-preserved g c =
    let xs = (holding c.args.self.now).pairs in
    let ys = (holding c.args.other.now).pairs in
    let pair : g.row.L.Denot × g.row.R.Denot = (c.in-Some.left.now, c.in-Some.right.now) in
    let so_far = subst (λ rest. IsMetUpTo g.L.PartialEq.eq g.R.PartialEq.eq xs rest ys) c.in-Some.ensures.steps c.loop-left.invariant in
    met_more g.L.PartialEq.eq g.R.PartialEq.eq xs c.next.new.self ys pair so_far (c.if-not-has_equal.ensures.0 refl)

pub returns : goal.returns
returns g c =
    let xs = (holding c.args.self.now).pairs in
    let ys = (holding c.args.other.now).pairs in
    let so_far = subst (λ rest. IsMetUpTo g.L.PartialEq.eq g.R.PartialEq.eq xs rest ys) c.in_default.ensures.steps.0 c.loop-left.invariant in
    sym (met_all g.L.PartialEq.eq g.R.PartialEq.eq xs ys (sym c.len.ensures ∙ c.if-len.false ∙ c.len-2.ensures) so_far)
