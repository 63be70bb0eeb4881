use Rattle.std.proofs.Common.{◌≡◌, ℕ, Some, Err, ap, sym, subst, ◌∙◌, map, take, arith, suc, ◌+◌, ◌∷◌, ◌++◌, []}
use Rattle.std.proofs.lemmas.List.{take_all}
use Rattle.std.specs.List.{AllZip}
use Rattle.serde_json.specs.Data.{Data}
use Rattle.serde_json.specs.Find.{as_array}
use Rattle.serde_json.specs.View.{view, items_view}
use Rattle.bimap.specs.JsonPairs.{IsTwo, IsTwoOf, ReadsAsPair, StopsAtItem}
use Rattle.bimap.specs.JsonReading.{Reads, ReadsNothing, ReadsSomething}
use Rattle.bimap.proofs.JsonPairs.{read_more, stops_here}
use Rattle.bimap.proofs.value.pairs.read_pairs.Goals.{In-Some-as_two}
use Rattle.bimap.proofs.value.pairs.read_pairs.Goals as goal

-- The items of the value.
items : (g : _) (c : In-Some-as_two g) → Some (items_view c.deref-item-items.result.now) ≡ as_array (view c.args.value.now)
items g c = ap (λ vs. Some (items_view vs)) c.deref-item-items.ensures.value ∙ c.in-Some.ensures

-- The item stops the reading.
stops : (g : _) (c : In-Some-as_two g) (P : Data → Type 0) → P (view c.item-item.result) → StopsAtItem g.L.JsonValue.reads g.R.JsonValue.reads (view c.args.value.now) c.len-at.result P
stops g c P =
    stops_here g.L.JsonValue.reads g.R.JsonValue.reads c.deref-item-items.result.now c.loop-item.item-index c.item-item.result c.loop-item-test.true c.item-item.is c.loop-item.pairs.items c.loop-item.invariant.read
    (view c.args.value.now) c.len-at.result P (items g c) (omega (arith, c.len-at.ensures))

pub returns-in_default-as_two : goal.returns-in_default-as_two
returns-in_default-as_two g c =
    stops_here g.L.JsonValue.reads g.R.JsonValue.reads c.deref-item-items.result.now c.loop-item.item-index c.item-item.result c.loop-item-test.true c.item-item.is c.loop-item.pairs.items c.loop-item.invariant.read
    (view c.args.value.now) c.len-at.result (λ d. ¬ IsTwo d) (ap (λ vs. Some (items_view vs)) c.deref-item-items.ensures.value ∙ c.in-Some.ensures) (omega (arith, c.len-at.ensures)) c.in_default-as_two.ensures.none

pub returns-in-Err-Bad : goal.returns-in-Err-Bad
returns-in-Err-Bad g c =
    stops g (goal.at.returns-in-Err-Bad g c).In-Some-as_two (IsTwoOf (λ first second. ReadsNothing (g.L.JsonValue.reads first)))
    (view c.in-Some-as_two.first.now, view c.in-Some-as_two.second.now, c.in-Some-as_two.ensures.is_two, subst (λ e. Reads (g.L.JsonValue.reads (view c.in-Some-as_two.first.now)) (Err e)) c.in-Err-Bad.field-0-is c.in-Err-Bad.ensures)

pub returns-in-Err-Bad-from_json : goal.returns-in-Err-Bad-from_json
returns-in-Err-Bad-from_json g c =
    stops g (goal.at.returns-in-Err-Bad-from_json g c).In-Some-as_two (IsTwoOf (λ first second. ReadsSomething (g.L.JsonValue.reads first) × ReadsNothing (g.R.JsonValue.reads second)))
    (view c.in-Some-as_two.first.now, view c.in-Some-as_two.second.now, c.in-Some-as_two.ensures.is_two, ((c.in-Ok.left, c.in-Ok.ensures), subst (λ e. Reads (g.R.JsonValue.reads (view c.in-Some-as_two.second.now)) (Err e)) c.in-Err-Bad-from_json.field-0-is c.in-Err-Bad-from_json.ensures))

-- The item is an array of two values whose first one is a left, and the call ran out of memory.
no_memory : (g : _) (c : In-Some-as_two g) → ReadsSomething (g.L.JsonValue.reads (view c.in-Some-as_two.first.now)) → (at : ℕ) × StopsAtItem g.L.JsonValue.reads g.R.JsonValue.reads (view c.args.value.now) at (IsTwoOf (λ first second. ReadsSomething (g.L.JsonValue.reads first)))
no_memory g c left = (c.len-at.result, stops g c (IsTwoOf (λ first second. ReadsSomething (g.L.JsonValue.reads first))) (view c.in-Some-as_two.first.now, view c.in-Some-as_two.second.now, c.in-Some-as_two.ensures.is_two, left))

pub returns-in-Err-Memory : goal.returns-in-Err-Memory
returns-in-Err-Memory g c = no_memory g (goal.at.returns-in-Err-Memory g c).In-Some-as_two (subst (λ e. Reads (g.L.JsonValue.reads (view c.in-Some-as_two.first.now)) (Err e)) c.in-Err-Memory.field-0-is c.in-Err-Memory.ensures)

pub returns-in-Err-Memory-from_json : goal.returns-in-Err-Memory-from_json
returns-in-Err-Memory-from_json g c = no_memory g (goal.at.returns-in-Err-Memory-from_json g c).In-Some-as_two (c.in-Ok.left, c.in-Ok.ensures)

pub returns-in_default-push : goal.returns-in_default-push
returns-in_default-push g c = no_memory g (goal.at.returns-in_default-push g c).In-Some-as_two (c.in-Ok.left, c.in-Ok.ensures)

pub loop-item-preserved : goal.loop-item-preserved
loop-item-preserved g c =
    let reads_pair = ReadsAsPair g.L.JsonValue.reads g.R.JsonValue.reads in
    let p : g.row.L.Denot × g.row.R.Denot = (c.in-Ok.left, c.in-Ok-from_json.right) in
    let i = c.loop-item.item-index in
    let next : suc i ≡ i + 1 = omega arith in
    let more = read_more g.L.JsonValue.reads g.R.JsonValue.reads c.deref-item-items.result.now i c.item-item.result c.loop-item-test.true c.item-item.is c.loop-item.pairs.items c.loop-item.invariant.read p
    (record { first = view c.in-Some-as_two.first.now; second = view c.in-Some-as_two.second.now; is_two = c.in-Some-as_two.ensures.is_two; left = c.in-Ok.ensures; right = c.in-Ok-from_json.ensures }) in
    record {
      read = subst (AllZip reads_pair (map view (take (i + 1) c.deref-item-items.result.now))) (sym c.in-Ok-push.ensures.items)
          (subst (λ n. AllZip reads_pair (map view (take n c.deref-item-items.result.now)) (c.loop-item.pairs.items ++ p ∷ [])) next more);
    }

pub returns : goal.returns
returns g c = (map view c.deref-item-items.result.now, sym (ap (λ vs. Some (items_view vs)) c.deref-item-items.ensures.value ∙ c.in-Some.ensures), subst (λ vs. AllZip (ReadsAsPair g.L.JsonValue.reads g.R.JsonValue.reads) (map view vs) c.loop-item.pairs.items) (take_all c.loop-item.item-index c.deref-item-items.result.now c.loop-item-test.false) c.loop-item.invariant.read)
