use Rattle.std.proofs.Common.{rules, refl, subst, true≢false}
use Rattle.std.proofs.KnownBytes.{Appends-nil}
use Rattle.bimap_rows.specs.Steps.{IsRead}
use Rattle.bimap_rows.specs.declared.line.Line.TheVariants.{Bad}
use Rattle.bimap.specs.Test.{Answers}
use Rattle.bimap_rows.proofs.Leading.{LeadsTo_one}
use Rattle.bimap_rows.proofs.serve.take_line.Goals as goal

pub returns-in-Bad-clause-err : goal.returns-in-Bad-clause-err
returns-in-Bad-clause-err g c = (refl, subst (λ t. IsRead t Bad) c.without_return.ensures c.in-Bad.ensures, Appends-nil (g.W.Write.contents c.args.output.now))

pub returns-in_default-clause-ok : goal.returns-in_default-clause-ok
returns-in_default-clause-ok g c =
    let h = g.B.Bijection.holding in
    let e = c.perform.ensures in
    let led = LeadsTo_one (Answers _ tt) (h c.args.held.now).pairs (h c.perform.new.bimap).pairs c.in-Call.call c.perform.result
    (g.met.B.Bijection.apart c.args.held.now) e.right e.step (λ key p no. true≢false (search rules)) c.in_default.not-NoRoom in
    search rules
