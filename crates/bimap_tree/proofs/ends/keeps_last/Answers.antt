use Rattle.std.proofs.Common.{sym, ap, ◌∙◌}
use Rattle.bimap_tree.proofs.AtEnds.{a_place}
use Rattle.bimap_tree.proofs.ends.keeps_last.Goals as goal

pub returns-in-Some : goal.returns-in-Some
returns-in-Some c some =
    let (place, is) = a_place _ (sym c.is_some.ensures ∙ some) in
    rw c.in-Some.is (place, (c.if-not-kept.false, sym (ap (λ e. e.last.place) c.deref.ensures) ∙ is))
