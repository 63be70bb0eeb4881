use Rattle.std.proofs.Common.{◌∙◌, ap, drop}
use Rattle.bimap_base.specs.Places.{pairs_in}
use Rattle.bimap_walk.proofs.by_place.iter.Goals as goal

pub returns : goal.returns
returns g c = c.new-2.ensures ∙ ap (λ k. pairs_in (drop k c.args.pairs.now)) c.new.ensures.from
