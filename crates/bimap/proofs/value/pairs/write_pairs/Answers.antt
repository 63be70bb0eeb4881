use Rattle.std.proofs.Common.{◌≡◌, ap, sym, subst, ◌∙◌, map, ◌++◌, ◌∷◌, []}
use Rattle.serde_json.specs.View.{view}
use Rattle.bimap.specs.JsonObjects.{EachReadsBack, shown_pairs}
use Rattle.bimap.specs.JsonPairs.{two}
use Rattle.bimap.proofs.JsonPairs.{written_more}
use Rattle.bimap.proofs.JsonWriting.{shown_push, each_push}
use Rattle.bimap.proofs.value.pairs.write_pairs.Goals as goal

pub loop-left-preserved : goal.loop-left-preserved
loop-left-preserved g c =
    let left = g.L.JsonValue.writes in
    let right = g.R.JsonValue.writes in
    let i = c.loop-left.invariant in
    let step = c.in-Some.ensures.goes.on i.ends in
    let ps = shown_pairs c.loop-left.yielded in
    let p : g.row.L.Denot × g.row.R.Denot = (c.in-Some.left.now, c.in-Some.right.now) in
    let longer = shown_push c.loop-left.yielded c.in-Some.left c.in-Some.right in
    record {
      callable = step.0;
      ends = step.1;
      written = ap (map view) c.in-Ok.ensures.items ∙ written_more (λ q. two (left q.0) (right q.1)) c.loop-left.items.items ps (shown_pairs (c.loop-left.yielded ++ (c.in-Some.left, c.in-Some.right) ∷ [])) c.in_ok-pair.pair p i.written (c.in_ok-pair.ensures ∙ (λ j. two (c.in_ok-to_json.ensures.json j) (c.in_ok-to_json-2.ensures.json j))) longer;
      reads_back = subst (EachReadsBack left right g.L.JsonValue.reads g.R.JsonValue.reads g.L.PartialEq.eq g.R.PartialEq.eq) (sym longer)
          (each_push left right g.L.JsonValue.reads g.R.JsonValue.reads g.L.PartialEq.eq g.R.PartialEq.eq ps p i.reads_back c.in_ok-to_json.ensures.reads_back c.in_ok-to_json-2.ensures.reads_back);
    }
