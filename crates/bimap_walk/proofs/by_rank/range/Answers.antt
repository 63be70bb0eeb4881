use Rattle.std.specs.Map.Iter.{deref_pair}
use Rattle.std.specs.Option.{option_map}
use Rattle.std.proofs.Common.{sym, ap, subst, is_some, ◌∙◌}
use Rattle.std.specs.List.{All}
use Rattle.bimap_base.specs.PairsAt.{pairs_at}
use Rattle.std_collections.proofs.IterRuns.{shows_in_order, shows_in_reverse}
use Rattle.bimap_base.specs.Slots.{pair_at, IsLive}
use Rattle.bimap_tree.specs.Ranges.{is_between}
use Rattle.bimap_walk.proofs.InSpan.{pairs_in_span, span_of_keys, live_places, is_some-map, All-between}
use Rattle.bimap_walk.proofs.by_rank.range.Goals as goal

pub new-requires : goal.new-requires
new-requires g c =
    let a = c.args in
    let live = live_places a.pairs.now (g.K.Keys.key_at a.keys.now) g.K.Keys.order a.index.now.places (λ p. ap is_some (c.requires.keys p) ∙ is_some-map g.P.Projection.of (pair_at a.pairs.now p)) c.requires.ascends in
    record {
      stands = record {
        ranks = c.new-window.ensures.window;
        live = subst (All (IsLive a.pairs.now)) (sym c.new-window.ensures.places) (All-between (IsLive a.pairs.now) a.index.now.places c.of-span.result.front c.of-span.result.back c.of-span.ensures.within live);
      };
    }

pub returns-clause-rest : goal.returns-clause-rest
returns-clause-rest g c =
    let a = c.args in
    let s = c.of-span in
    let test = is_between g.Q.Sought.order a.start a.end in
    let span = span_of_keys test (g.K.Keys.key_at a.keys.now) (λ p. option_map g.P.Projection.of (pair_at a.pairs.now p)) a.index.now.places s.result.front s.result.back c.requires.keys s.ensures.inside in
    c.new.ensures ∙ ap (pairs_at a.pairs.now) c.new-window.ensures.places ∙ sym (pairs_in_span g.P.Projection.of test a.pairs.now a.index.now.places s.result.front s.result.back s.ensures.ordered span)

pub returns-clause-runs : goal.returns-clause-runs
returns-clause-runs g c = shows_in_order deref_pair

pub returns-clause-runs_back : goal.returns-clause-runs_back
returns-clause-runs_back g c = shows_in_reverse deref_pair
