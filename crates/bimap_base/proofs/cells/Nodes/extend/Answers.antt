use Rattle.std.proofs.Common.{arith, ℕ, length, ap, subst, ◌≡◌, ◌<◌, ◌≤◌}
use Rattle.std.specs.Prelude.{slice_get}
use Rattle.std.proofs.lemmas.List.{length-map}
use Rattle.bimap_base.proofs.NodesInCells.{get-mapped, get-resized}
use Rattle.bimap_base.proofs.cells.Nodes.extend.Goals as goal

pub returns-clause-kept : goal.returns-clause-kept
returns-clause-kept g c =
    let fits : length c.try_reserve_exact.new.self.items ≤ c.args.to = omega (arith, c.requires.more, ap length c.self.view_is, length-map c.self.inside.cells.items g.C.Cell.node_in, ap length c.try_reserve_exact.ensures.items) in
    let same = get-resized _ _ _ c.args.to fits c.in-Ok.ensures.items in
    get-mapped g.C.Cell.node_in _ _ (subst (λ z. (k : ℕ) → k < length z → slice_get c.resize.new.self.items k ≡ slice_get z k) c.try_reserve_exact.ensures.items same) _ c.self.view_is
