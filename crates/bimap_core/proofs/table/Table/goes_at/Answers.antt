use Rattle.std.proofs.Common.{◌≡◌, ◌∙◌, Bool, true, false, rules, refl, sym, subst}
use Rattle.std.specs.Prelude.{IfSome, not, if◌then◌else◌}
use Rattle.bimap_base.specs.Kept.{TestedAt}
use Rattle.bimap_core.proofs.table.Table.goes_at.Goals as goal

so : (goes : Bool) → (if goes then goes else not goes) ≡ true
so true = refl
so false = refl

otherwise : (goes : Bool) → (if not goes then goes else not goes) ≡ false
otherwise true = refl
otherwise false = refl

pub returns-then-f-clause-tested : goal.returns-then-f-clause-tested
returns-then-f-clause-tested g c =
    let there = rw c.in-Some.is at c.at.ensures in
    let said = c.if-f.true ∙ sym (so c.args.goes) in
    subst (λ o. IfSome o (λ p. TestedAt g.F.FnMut c.args.f.now p (if c.args.goes then c.args.goes else not c.args.goes) c.f.new.self)) there
    (subst (λ b. TestedAt g.F.FnMut c.args.f.now (c.in-Some.left.now, c.in-Some.right.now) b c.f.new.self) said
    record { left = c.in-Some.left; right = c.in-Some.right; shows_left = refl; shows_right = refl; called = search rules })

pub returns-else-f-clause-tested : goal.returns-else-f-clause-tested
returns-else-f-clause-tested g c =
    let there = rw c.in-Some.is at c.at.ensures in
    let said = c.if-f.false ∙ sym (otherwise c.args.goes) in
    subst (λ o. IfSome o (λ p. TestedAt g.F.FnMut c.args.f.now p (if not c.args.goes then c.args.goes else not c.args.goes) c.f.new.self)) there
    (subst (λ b. TestedAt g.F.FnMut c.args.f.now (c.in-Some.left.now, c.in-Some.right.now) b c.f.new.self) said
    record { left = c.in-Some.left; right = c.in-Some.right; shows_left = refl; shows_right = refl; called = search rules })
