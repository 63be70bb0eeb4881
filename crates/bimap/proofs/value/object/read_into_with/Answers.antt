use Rattle.bimap_base.specs.Answer.{IsRefusalUnder}
use Rattle.bimap_base.specs.Holding.{IsFull}
use Rattle.std.proofs.Common.{◌↔◌, ℕ, Contains, ap, sym, subst, Err, length, string_bytes, arith}
use Rattle.serde_json.specs.View.{members_view, view}
use Rattle.bimap.specs.JsonReading.{Reads, ReadsNothing, ReadsSomething}
use Rattle.bimap.specs.JsonObjects.{Entry, ReadsAs, StopsUnder, entries_of}
use Rattle.bimap.proofs.JsonEntries.{map_has}
use Rattle.bimap.proofs.JsonReading.{IsReading, IsReadInOrder, in_order_first, in_order_more, in_order_done, reading_first, reading_more, reading_stops, reading_done, left_kept, right_kept}
use Rattle.bimap.proofs.value.object.read_into_with.Goals.{In-Ok, In-Some-next}
use Rattle.bimap.proofs.value.object.read_into_with.Goals as goal

-- The key of the entry was read.
read_key : (g : _) (c : In-Ok g) → g.L.JsonKey.reads_key (string_bytes c.in-Some-next.key.now) c.in-Ok.left
read_key g c = subst (λ t. g.L.JsonKey.reads_key t c.in-Ok.left) c.as_str.ensures.value c.in-Ok.ensures

pub loop-key-init : goal.loop-key-init
loop-key-init g c = record {
  reading = reading_first g.L.JsonKey.reads_key g.R.JsonValue.reads g.L.PartialEq.eq g.R.PartialEq.eq c.args.policy (entries_of (members_view c.iter-entries.result)) (g.B.Bijection.holding c.args.empty) c.requires.empty;
  in_turn = λ _. in_order_first g.L.JsonKey.reads_key g.R.JsonValue.reads _ _ c.requires.empty;
  counted = omega arith;
}

pub loop-key-preserved : goal.loop-key-preserved
loop-key-preserved g c =
    let key = g.L.JsonKey.reads_key in
    let val = g.R.JsonValue.reads in
    let i = c.loop-key.invariant in
    let p : g.row.L.Denot × g.row.R.Denot = (c.in-Ok.left, c.in-Ok-from_json.right) in
    let places = (g.B.Bijection.holding c.args.empty).room in
    let held = g.B.Bijection.holding c.loop-key.bimap in
    let all = entries_of (members_view c.iter-entries.result) in
    let one : ReadsAs key val (string_bytes c.in-Some-next.key.now, view c.in-Some-next.value.now) p = (read_key g (goal.at.loop-key-preserved g c).In-Ok, c.in-Ok-from_json.ensures) in
    let insertion = c.in-Ok-insert_with.ensures in
    record {
      reading = reading_more key val g.L.PartialEq.eq g.R.PartialEq.eq c.args.policy all (entries_of (members_view c.next.new.self)) (string_bytes c.in-Some-next.key.now, view c.in-Some-next.value.now) places held (g.B.Bijection.holding c.insert_with.new.self) c.loop-key.at p c.in-Ok-insert_with.struck
          (subst (λ l. IsReading key val g.L.PartialEq.eq g.R.PartialEq.eq c.args.policy all (entries_of (members_view l)) places held c.loop-key.at) c.in-Some-next.ensures.steps i.reading)
          one (g.met.B.Bijection.apart c.loop-key.bimap) (g.met.B.Bijection.fits c.loop-key.bimap) insertion.answer;
      in_turn = λ appends. in_order_more key val all (entries_of (members_view c.next.new.self)) _ held.pairs _ p c.in-Ok-insert_with.struck
          (subst (λ l. IsReadInOrder key val all (entries_of (members_view l)) held.pairs) c.in-Some-next.ensures.steps (i.in_turn appends)) one insertion.answer.count (insertion.position appends);
      counted = omega (arith, ap length c.in-Some-next.ensures.steps, i.counted);
    }

pub overflow_add-at : goal.overflow_add-at
overflow_add-at g c = omega (arith, ap length c.in-Some-next.ensures.steps, c.loop-key.invariant.counted, ap length c.iter-entries.ensures.rest, c.iter-entries.ensures.fits)

-- The entry that was read last stops the reading.
stops : (g : _) (c : In-Some-next g) (P : (g.row.L.Denot × g.row.R.Denot → Type 0) → Entry → Type 0) → ((S : g.row.L.Denot × g.row.R.Denot → Type 0) → ((p : g.row.L.Denot × g.row.R.Denot) → Contains (g.B.Bijection.holding c.loop-key.bimap).pairs p ↔ S p) → P S (string_bytes c.in-Some-next.key.now, view c.in-Some-next.value.now))
    → StopsUnder g.L.JsonKey.reads_key g.R.JsonValue.reads g.L.PartialEq.eq g.R.PartialEq.eq (view c.args.value.now) c.args.policy c.loop-key.at P
stops g c P why =
    let key = g.L.JsonKey.reads_key in
    let val = g.R.JsonValue.reads in
    let places = (g.B.Bijection.holding c.args.empty).room in
    let held = g.B.Bijection.holding c.loop-key.bimap in
    let all = entries_of (members_view c.iter-entries.result) in
    reading_stops key val g.L.PartialEq.eq g.R.PartialEq.eq c.args.policy (view c.args.value.now) all (entries_of (members_view c.next.new.self)) (string_bytes c.in-Some-next.key.now, view c.in-Some-next.value.now) places held c.loop-key.at P
    (map_has (view c.args.value.now) c.in-Some.map.now.entries c.iter-entries.result c.in-Some.ensures c.iter-entries.ensures.rest c.iter-entries.ensures.ordered)
    (subst (λ l. IsReading key val g.L.PartialEq.eq g.R.PartialEq.eq c.args.policy all (entries_of (members_view l)) places held c.loop-key.at) c.in-Some-next.ensures.steps c.loop-key.invariant.reading) why

pub returns-in-Err-Bad-clause-read : goal.returns-in-Err-Bad-clause-read
returns-in-Err-Bad-clause-read g c =
    let key = g.L.JsonKey.reads_key in
    stops g (goal.at.returns-in-Err-Bad-clause-read g c).In-Some-next (λ S e. ReadsNothing (key e.0))
    (λ S same l t. subst (λ e. Reads (key c.as_str.result.now) (Err e)) c.in-Err-Bad.field-0-is c.in-Err-Bad.ensures l (subst (λ s. key s l) (sym c.as_str.ensures.value) t))

pub returns-in-Err-Bad-from_json-clause-read : goal.returns-in-Err-Bad-from_json-clause-read
returns-in-Err-Bad-from_json-clause-read g c =
    let val = g.R.JsonValue.reads in
    stops g (goal.at.returns-in-Err-Bad-from_json-clause-read g c).In-Some-next (λ S e. ReadsSomething (g.L.JsonKey.reads_key e.0) × ReadsNothing (val e.1))
    (λ S same. ((c.in-Ok.left, read_key g (goal.at.returns-in-Err-Bad-from_json-clause-read g c).In-Ok), subst (λ e. Reads (val (view c.in-Some-next.value.now)) (Err e)) c.in-Err-Bad-from_json.field-0-is c.in-Err-Bad-from_json.ensures))

-- The key of the entry is a left, and the call ran out of memory.
no_memory : (g : _) (c : In-Some-next g) → ReadsSomething (g.L.JsonKey.reads_key (string_bytes c.in-Some-next.key.now)) → (at : ℕ) × StopsUnder g.L.JsonKey.reads_key g.R.JsonValue.reads g.L.PartialEq.eq g.R.PartialEq.eq (view c.args.value.now) c.args.policy at (λ S e. ReadsSomething (g.L.JsonKey.reads_key e.0))
no_memory g c left = (c.loop-key.at, stops g c (λ S e. ReadsSomething (g.L.JsonKey.reads_key e.0)) (λ S same. left))

pub returns-in-Err-Memory-clause-read : goal.returns-in-Err-Memory-clause-read
returns-in-Err-Memory-clause-read g c =
    let key = g.L.JsonKey.reads_key in
    let read : ReadsSomething (key c.as_str.result.now) = subst (λ e. Reads (key c.as_str.result.now) (Err e)) c.in-Err-Memory.field-0-is c.in-Err-Memory.ensures in
    no_memory g (goal.at.returns-in-Err-Memory-clause-read g c).In-Some-next (read.0, subst (λ t. key t read.0) c.as_str.ensures.value read.1)

pub returns-in-Err-Memory-from_json-clause-read : goal.returns-in-Err-Memory-from_json-clause-read
returns-in-Err-Memory-from_json-clause-read g c =
    let at = goal.at.returns-in-Err-Memory-from_json-clause-read g c in
    no_memory g at.In-Some-next (c.in-Ok.left, read_key g at.In-Ok)

pub returns-in-Err-Memory-insert_with-clause-read : goal.returns-in-Err-Memory-insert_with-clause-read
returns-in-Err-Memory-insert_with-clause-read g c =
    let at = goal.at.returns-in-Err-Memory-insert_with-clause-read g c in
    no_memory g at.In-Some-next (c.in-Ok.left, read_key g at.In-Ok)

pub returns : goal.returns
returns g c =
    let key = g.L.JsonKey.reads_key in
    let val = g.R.JsonValue.reads in
    let places = (g.B.Bijection.holding c.args.empty).room in
    let held = g.B.Bijection.holding c.loop-key.bimap in
    let all = entries_of (members_view c.iter-entries.result) in
    let i = c.loop-key.invariant in
    let none = c.in_default-next.ensures.steps.0 in
    let has = map_has (view c.args.value.now) c.in-Some.map.now.entries c.iter-entries.result c.in-Some.ensures c.iter-entries.ensures.rest c.iter-entries.ensures.ordered in
    record {
      read = reading_done key val g.L.PartialEq.eq g.R.PartialEq.eq c.args.policy (view c.args.value.now) all places held c.loop-key.at has
          (subst (λ l. IsReading key val g.L.PartialEq.eq g.R.PartialEq.eq c.args.policy all (entries_of (members_view l)) places held c.loop-key.at) none i.reading);
      position = λ appends. in_order_done key val (view c.args.value.now) all held.pairs has (subst (λ l. IsReadInOrder key val all (entries_of (members_view l)) held.pairs) none (i.in_turn appends));
    }

pub returns-in-Err-LeftHeld-clause-read : goal.returns-in-Err-LeftHeld-clause-read
returns-in-Err-LeftHeld-clause-read g c =
    let held = g.B.Bijection.holding c.loop-key.bimap in
    let pair : g.row.L.Denot × g.row.R.Denot = (c.in-Ok.left, c.in-Ok-from_json.right) in
    let why = subst (IsRefusalUnder g.L.PartialEq.eq g.R.PartialEq.eq (Contains held.pairs) (IsFull held) pair c.args.policy) c.in-Err-LeftHeld.field-0-is c.in-Err-LeftHeld.ensures.answer.refused in
    stops g (goal.at.returns-in-Err-LeftHeld-clause-read g c).In-Some-next _
    (λ S same. (pair, (read_key g (goal.at.returns-in-Err-LeftHeld-clause-read g c).In-Ok, c.in-Ok-from_json.ensures), left_kept g.L.JsonKey.reads_key g.R.JsonValue.reads g.L.PartialEq.eq g.R.PartialEq.eq c.args.policy (Contains held.pairs) S (IsFull held) pair c.in-Err-LeftHeld.field-0-0 c.in-Err-LeftHeld.field-0-1 same why))

pub returns-in-Err-RightHeld-clause-read : goal.returns-in-Err-RightHeld-clause-read
returns-in-Err-RightHeld-clause-read g c =
    let held = g.B.Bijection.holding c.loop-key.bimap in
    let pair : g.row.L.Denot × g.row.R.Denot = (c.in-Ok.left, c.in-Ok-from_json.right) in
    let why = subst (IsRefusalUnder g.L.PartialEq.eq g.R.PartialEq.eq (Contains held.pairs) (IsFull held) pair c.args.policy) c.in-Err-RightHeld.field-0-is c.in-Err-RightHeld.ensures.answer.refused in
    stops g (goal.at.returns-in-Err-RightHeld-clause-read g c).In-Some-next _
    (λ S same. (pair, (read_key g (goal.at.returns-in-Err-RightHeld-clause-read g c).In-Ok, c.in-Ok-from_json.ensures), right_kept g.L.JsonKey.reads_key g.R.JsonValue.reads g.L.PartialEq.eq g.R.PartialEq.eq c.args.policy (Contains held.pairs) S (IsFull held) pair c.in-Err-RightHeld.field-0-0 c.in-Err-RightHeld.field-0-1 same why))
