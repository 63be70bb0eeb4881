use Rattle.std.proofs.Common.{false, Some, subst, sym, arith, ap, ◌∙◌}
use Rattle.bimap_tree.specs.Ends.{AreKept, KeepsEnds, LeadsToEnd}
use Rattle.bimap_tree.specs.Tree.{Tree}
use Rattle.bimap_tree.proofs.EndRoutes.{end_occurs, end_spares}
use Rattle.bimap_tree.proofs.Heights.{height-bound}
use Rattle.bimap_tree.proofs.ends.found_first.Given.{Over}
use Rattle.bimap_tree.proofs.ends.found_first.Goals as goal
use Rattle.bimap_tree.proofs.ends.found_first.Goals.{In_ok-first}

pub returns-then-not-kept-clause-few : goal.returns-then-not-kept-clause-few
returns-then-not-kept-clause-few g c t kept b = omega (arith, height-bound t b)

pub returns-in_default-clause-few : goal.returns-in_default-clause-few
returns-in_default-clause-few g c t kept b = omega (arith, height-bound t b)

pub returns-in_err-first-clause-few : goal.returns-in_err-first-clause-few
returns-in_err-first-clause-few g c t kept b = omega (arith, height-bound t b)

-- The route to the first place is kept.
leads : (g : Over) (c : In_ok-first g) (t : Tree) → KeepsEnds c.args.kept.now t → LeadsToEnd false c.in-Some.ends.value.first.route c.in_ok-first.first t
leads g c t keeps =
    let both : AreKept (Some c.in-Some.ends) t = subst (λ e. AreKept e t) c.in-Some.is (keeps c.if-not-kept.false) in
    both.0 c.in_ok-first.first (sym (ap (λ e. e.first.place) c.deref.ensures) ∙ c.in_ok-first.was)

pub ordering-requires : goal.ordering-requires
ordering-requires g c =
    let (t, kept, live) = c.requires in
    live _ (end_occurs _ _ _ t (leads g (goal.at.ordering-requires g c).In_ok-first t kept))

pub returns-then-is_eq-clause-few : goal.returns-then-is_eq-clause-few
returns-then-is_eq-clause-few g c t kept b = omega (arith, end_spares _ _ _ t (leads g (goal.at.returns-then-is_eq-clause-few g c).In_ok-first t kept) b)

pub returns-else-is_eq-clause-few : goal.returns-else-is_eq-clause-few
returns-else-is_eq-clause-few g c t kept b = omega (arith, end_spares _ _ _ t (leads g (goal.at.returns-else-is_eq-clause-few g c).In_ok-first t kept) b)
