use Rattle.std.proofs.Common.{◌∙◌, ap, map}
use Rattle.std.specs.Option.{option_map}
use Rattle.bimap_base.specs.Inverse.{inverse_pair}
use Rattle.bimap_kinds.proofs.Inverses.{walked_by_left, walked_by_right, is_inverse, same_map}
use Rattle.bimap_kinds.proofs.Walk.{left_walk, right_walk, table_facts}
use Rattle.bimap_kinds.proofs.map.BijectiveMap.into_inverse.Goals as goal

pub invariant_of-result : goal.invariant_of-result
invariant_of-result g c = table_facts c.in-Ok.table g.met.J.Index.listed g.met.J.Index.distinct g.met.J.Index.settled g.met.J.Index.in_order g.met.R.Eq.laws g.met.L.Eq.laws _ (right_walk c.in-Ok.table g.met.I.Index.listed g.met.I.Index.distinct g.met.I.Index.settled)

pub returns-in-Ok-clause-inverse : goal.returns-in-Ok-clause-inverse
returns-in-Ok-clause-inverse g c =
    let table = c.args.self.table in
    is_inverse table c.in-Ok.table (c.in-Ok.ensures.pairs ∙ ap (λ t. map (option_map inverse_pair) t.pairs) c.into_table.ensures)
    (left_walk table g.met.I.Index.listed g.met.I.Index.distinct g.met.I.Index.settled)
    (right_walk table g.met.J.Index.listed g.met.J.Index.distinct g.met.J.Index.settled)
    (c.in-Ok.ensures.left ∙ ap (λ t. t.right) c.into_table.ensures)

pub returns-in-Ok-clause-left : goal.returns-in-Ok-clause-left
returns-in-Ok-clause-left g c = walked_by_left c.args.self.table c.in-Ok.table (c.in-Ok.ensures.pairs ∙ ap (λ t. map (option_map inverse_pair) t.pairs) c.into_table.ensures) (c.in-Ok.ensures.left ∙ ap (λ t. t.right) c.into_table.ensures)

pub returns-in-Ok-clause-right : goal.returns-in-Ok-clause-right
returns-in-Ok-clause-right g c = walked_by_right c.args.self.table c.in-Ok.table (c.in-Ok.ensures.pairs ∙ ap (λ t. map (option_map inverse_pair) t.pairs) c.into_table.ensures) (c.in-Ok.ensures.right ∙ ap (λ t. t.left) c.into_table.ensures)

pub returns-in-Err-clause-err : goal.returns-in-Err-clause-err
returns-in-Err-clause-err g c = same_map _ c.args.self (c.in-Err.ensures.err ∙ c.into_table.ensures)
