use Rattle.std.proofs.Common.{◌∙◌, sym, ap, subst}
use Rattle.std.specs.List.{All}
use Rattle.bimap_base.specs.PairsAt.{pairs_at}
use Rattle.bimap_base.specs.Slots.{IsLive}
use Rattle.bimap_walk.proofs.by_rank.iter.Goals as goal

pub new-requires : goal.new-requires
new-requires g c = record { stands = record { ranks = c.whole.ensures.window; live = subst (All (IsLive c.args.pairs.now)) (sym c.whole.ensures.places) c.requires.live } }

pub returns : goal.returns
returns g c = c.new.ensures ∙ ap (pairs_at c.args.pairs.now) c.whole.ensures.places
