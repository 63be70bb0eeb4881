use Rattle.std.proofs.Common.{true, Some, subst, sym, arith, ap, ◌∙◌}
use Rattle.bimap_tree.specs.Ends.{AreKept, KeepsEnds, LeadsToEnd}
use Rattle.bimap_tree.specs.Tree.{Tree}
use Rattle.bimap_tree.proofs.Descents.{is_less}
use Rattle.bimap_tree.proofs.EndRoutes.{all_below, end_occurs, end_spares}
use Rattle.bimap_tree.proofs.Heights.{height-bound}
use Rattle.bimap_tree.proofs.ends.is_past_last.Given.{Over}
use Rattle.bimap_tree.proofs.ends.is_past_last.Goals as goal
use Rattle.bimap_tree.proofs.ends.is_past_last.Goals.{In-Some-place}

pub returns-then-not-kept-clause-few : goal.returns-then-not-kept-clause-few
returns-then-not-kept-clause-few g c t kept b = omega (arith, height-bound t b)

pub returns-in_default-clause-few : goal.returns-in_default-clause-few
returns-in_default-clause-few g c t kept b = omega (arith, height-bound t b)

pub returns-in_default-place-clause-few : goal.returns-in_default-place-clause-few
returns-in_default-place-clause-few g c t kept b = omega (arith, height-bound t b)

-- The route to the last place is kept.
leads : (g : Over) (c : In-Some-place g) (t : Tree) → KeepsEnds c.args.kept.now t → LeadsToEnd true c.in-Some.ends.value.last.route c.in-Some-place.last t
leads g c t keeps =
    let both : AreKept (Some c.in-Some.ends) t = subst (λ e. AreKept e t) c.in-Some.is (keeps c.if-not-kept.false) in
    both.1 c.in-Some-place.last (sym (ap (λ e. e.last.place) c.deref.ensures) ∙ c.in-Some-place.is)

pub ordering-requires : goal.ordering-requires
ordering-requires g c =
    let (t, kept, live) = c.requires in
    live _ (end_occurs _ _ _ t (leads g (goal.at.ordering-requires g c).In-Some-place t kept))

pub returns-clause-past : goal.returns-clause-past
returns-clause-past g c less t kept split =
    all_below _ _ _ t (leads g (goal.at.returns-clause-past g c).In-Some-place t kept) split (is_less _ _ _ c.ordering.ensures.ordering c.is_lt.ensures less)

pub returns-clause-few : goal.returns-clause-few
returns-clause-few g c t kept b = omega (arith, end_spares _ _ _ t (leads g (goal.at.returns-clause-few g c).In-Some-place t kept) b)
