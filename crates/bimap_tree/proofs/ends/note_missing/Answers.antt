use Rattle.std.proofs.Common.{true, false, Some, subst, sym}
use Rattle.bimap_tree.specs.Ends.{AreKept, IsKept}
use Rattle.bimap_tree.proofs.ends.note_missing.Goals as goal

pub returns-then-direction-clause-kept : goal.returns-then-direction-clause-kept
returns-then-direction-clause-kept g c t stands low kept any =
    let before : AreKept (Some c.in-Some.ends) t = subst (λ e. AreKept e t) c.in-Some.is (c.start_keeping.ensures.kept t kept c.start_keeping.ensures.counts) in
    (subst (λ e. IsKept false e.first t) (sym c.deref_mut.ensures.value) before.0, c.note_anew.ensures.kept t stands low (subst (λ e. IsKept true e.last t) (sym c.deref_mut.ensures.value) before.1))

pub returns-else-direction-clause-kept : goal.returns-else-direction-clause-kept
returns-else-direction-clause-kept g c t stands low kept any =
    let before : AreKept (Some c.in-Some.ends) t = subst (λ e. AreKept e t) c.in-Some.is (c.start_keeping.ensures.kept t kept c.start_keeping.ensures.counts) in
    (c.note_anew-else-direction.ensures.kept t stands low (subst (λ e. IsKept false e.first t) (sym c.deref_mut-else-direction.ensures.value) before.0), subst (λ e. IsKept true e.last t) (sym c.deref_mut-else-direction.ensures.value) before.1)
