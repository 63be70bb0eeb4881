use Rattle.std.proofs.Common.{sym, refl}
use Rattle.bimap_core.proofs.Ascending.{live_listed, none_at_rank, live_at_rank, some_at_rank}
use Rattle.bimap_core.proofs.ranks.pair_at_rank.Goals as goal

pub returns-in_err-place-clause-pair : goal.returns-in_err-place-clause-pair
returns-in_err-place-clause-pair g c = rw (none_at_rank c.args.pairs.now c.args.index.now.places (live_listed _ _ c.requires.live) c.args.rank (rw c.place_at.ensures.place at c.in_err-place.was), c.from_residual.ensures) refl

pub held-requires : goal.held-requires
held-requires g c = record { live = live_at_rank c.args.pairs.now c.args.index.now.places (live_listed _ _ c.requires.live) c.args.rank c.in_ok-place.place (rw c.place_at.ensures.place at c.in_ok-place.was) }

pub returns-clause-pair : goal.returns-clause-pair
returns-clause-pair g c = sym (some_at_rank c.args.pairs.now c.args.index.now.places (live_listed _ _ c.requires.live) c.args.rank c.in_ok-place.place (rw c.place_at.ensures.place at c.in_ok-place.was) _ c.held.ensures)
