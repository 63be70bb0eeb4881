use Rattle.std.proofs.Common.{nat_eq, string_eq}
use Rattle.std.specs.String.{string_eq_equiv}
use Rattle.bimap.proofs.LookUps.{put_is_held, each_stays}
use Rattle.demo_any.proofs.names.intern.Goals as goal

pub returns-clause-has : goal.returns-clause-has
returns-clause-has g c =
    (c.args.name, put_is_held string_eq nat_eq _ _ _ c.in_ok-insert_no_overwrite.ensures.answer.put, string_eq_equiv.refl c.args.name)

pub returns-clause-kept : goal.returns-clause-kept
returns-clause-kept g c = each_stays c.insert_no_overwrite.ensures.answer
