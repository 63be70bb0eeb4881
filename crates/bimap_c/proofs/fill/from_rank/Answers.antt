use Rattle.std.proofs.Common.{◌≤◌, ◌∙◌, length, sym, arith}
use Rattle.std.proofs.lemmas.List.{drop_all}
use Rattle.std.proofs.lemmas.Option.{slice_get_cases}
use Rattle.bimap.specs.BTree.{holding}
use Rattle.bimap_c.proofs.Ranks.{from_rank}
use Rattle.bimap_c.proofs.fill.from_rank.Goals as goal

pub returns-in-Some : goal.returns-in-Some
returns-in-Some g c = c.left_range_between.ensures.rest ∙ from_rank (λ p. p.0) g.L.Ord.cmp g.met.L.Ord.total (holding c.args.map.now).pairs c.args.rank (c.in-Some.from.now, c.in-Some.field-0-1.now) c.args.map.now.ascending (sym c.in-Some.ensures)

pub returns-in-None : goal.returns-in-None
returns-in-None g c =
    let pairs = (holding c.args.map.now).pairs in
    let past : length pairs ≤ c.args.rank = grind (arith, slice_get_cases pairs c.args.rank, c.in-None.ensures) in
    drop_all c.args.rank pairs past
