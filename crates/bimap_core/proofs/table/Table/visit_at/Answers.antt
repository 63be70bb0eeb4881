use Rattle.std.proofs.Common.{rules, refl, subst}
use Rattle.std.specs.Prelude.{IfSome}
use Rattle.bimap_base.specs.Kept.{TestedAt}
use Rattle.bimap_core.proofs.table.Table.visit_at.Goals as goal

pub returns-in-Some-clause-visited : goal.returns-in-Some-clause-visited
returns-in-Some-clause-visited g c =
    let there = rw c.in-Some.is at c.at.ensures in
    subst (λ o. IfSome o (λ p. TestedAt g.F.FnMut c.args.f.now p tt c.f.new.self)) there
    record { left = c.in-Some.left; right = c.in-Some.right; shows_left = refl; shows_right = refl; called = search rules }
