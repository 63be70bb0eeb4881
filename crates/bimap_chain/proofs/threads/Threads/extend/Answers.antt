use Rattle.std.proofs.Common.{◌≤◌, ap, map, length, replicate, ◌∙◌, arith, rules}
use Rattle.std.proofs.lemmas.List.{length-map}
use Rattle.bimap_base.specs.NodesInCells.{link_of}
use Rattle.bimap_chain.specs.Cells.{cell_of}
use Rattle.bimap_chain.specs.Width.{target}
use Rattle.bimap_chain.proofs.Kept.{map-replicated}
use Rattle.bimap_chain.proofs.Seen.{resized}
use Rattle.bimap_chain.proofs.threads.Threads.extend.Goals as goal

pub returns-clause-cells : goal.returns-clause-cells
returns-clause-cells g c =
    let cell = cell_of g.L.Link.width in
    let reserved = c.try_reserve_exact.ensures.items in
    let was = ap (λ t. t.cells) c.self.view_is in
    let few : length c.try_reserve_exact.new.self.items ≤ c.args.cells = omega (arith, c.requires.cells, ap length reserved, ap length was, length-map c.self.inside.cells.items cell) in
    resized cell _ _ (ap (map cell) reserved ∙ was) _ _ _ _ few (omega arith) c.in-Ok.ensures.items c.free.ensures

pub returns-clause-heads : goal.returns-clause-heads
returns-clause-heads g c =
    ap (map (target g.L.Link.width)) c.refill.ensures ∙ map-replicated (target g.L.Link.width) _ _ ∙ ap (λ n. replicate c.args.heads (link_of n)) c.of.ensures

pub returns-then-is_err-2-clause-err : goal.returns-then-is_err-2-clause-err
returns-then-is_err-2-clause-err g c = search rules
