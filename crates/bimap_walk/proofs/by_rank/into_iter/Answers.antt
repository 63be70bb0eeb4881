use Rattle.std.proofs.Common.{◌∙◌, sym, ap, subst}
use Rattle.std.specs.List.{All}
use Rattle.std_collections.proofs.IterRuns.{gives_in_order, gives_in_reverse}
use Rattle.bimap_base.specs.PairsAt.{pairs_at}
use Rattle.bimap_base.specs.Slots.{IsLive}
use Rattle.bimap_walk.proofs.by_rank.into_iter.Goals as goal

pub new-requires : goal.new-requires
new-requires g c = record {
  stands = record {
    ranks = c.whole-window.ensures.window;
    live = subst (All (IsLive c.args.pairs)) (sym c.whole-window.ensures.places) c.requires.live;
  };
}

pub returns-clause-runs : goal.returns-clause-runs
returns-clause-runs g c = gives_in_order

pub returns-clause-runs_back : goal.returns-clause-runs_back
returns-clause-runs_back g c = gives_in_reverse

pub returns-clause-rest : goal.returns-clause-rest
returns-clause-rest g c = c.new.ensures ∙ ap (pairs_at c.args.pairs) c.whole-window.ensures.places
