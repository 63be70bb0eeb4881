use Rattle.std.proofs.Common.{◌≤◌, ◌∙◌, length, sym, arith}
use Rattle.std.proofs.lemmas.List.{drop_all}
use Rattle.std.proofs.lemmas.Option.{slice_get_cases}
use Rattle.bimap.specs.BTree.{by_right}
use Rattle.bimap_c.proofs.Ranks.{from_rank}
use Rattle.bimap_c.proofs.by_right.from_rank.Goals as goal

pub returns-in-Some-clause-rest : goal.returns-in-Some-clause-rest
returns-in-Some-clause-rest g c =
    c.right_range_between.ensures.rest ∙ from_rank (λ p. p.1) g.R.Ord.cmp g.met.R.Ord.total (by_right c.args.map.now) c.args.rank (c.in-Some.field-0-0.now, c.in-Some.from.now) c.right_range_between.ensures.sorted.ascends (sym c.in-Some.ensures.pair)

pub returns-in-None-clause-rest : goal.returns-in-None-clause-rest
returns-in-None-clause-rest g c =
    let pairs = by_right c.args.map.now in
    let past : length pairs ≤ c.args.rank = grind (arith, slice_get_cases pairs c.args.rank, c.in-None.ensures.pair) in
    drop_all c.args.rank pairs past
