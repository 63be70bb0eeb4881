use Rattle.std.proofs.Common.{◌≡◌, ◌++◌}
use Rattle.std.specs.List.{flat_map, fold}
use Rattle.bimap_kinds.proofs.compare_ordered.feed.Given as goal

abbrev pub invariant-loop-left : goal.invariant-loop-left
invariant-loop-left g l =
    let F = flat_map (λ (p : g.row.L.Denot × g.row.R.Denot). g.L.Hash.hash_input p.0 ++ g.R.Hash.hash_input p.1) in
    fold g.H.Hasher.write l.state (F l.left-iterator) ≡ fold g.H.Hasher.write l.initial.state (F l.initial.left-iterator)
