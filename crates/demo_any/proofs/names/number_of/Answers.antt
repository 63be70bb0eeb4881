use Rattle.std.specs.Cmp.{nat_eq_equiv}
use Rattle.bimap.proofs.LookUps.{known_right}
use Rattle.demo_any.proofs.names.number_of.Goals as goal

pub returns-clause-known : goal.returns-clause-known
returns-clause-known g c =
    known_right _ _ g.met.L.Eq.laws nat_eq_equiv (g.met.B.Bijection.apart c.args.names.now) c.get_by_left_or_insert.ensures.answer
