use Rattle.std.proofs.Common.{◌≡◌, ◌↔◌, sym, ap, subst, ◌∙◌, Contains, []}
use Rattle.serde_json.proofs.Views.{view-Object, members_view-insert_entry}
use Rattle.serde_json.specs.Data.{put}
use Rattle.serde_json.specs.Find.{as_object}
use Rattle.serde_json.specs.View.{members_view}
use Rattle.bimap_base.proofs.Members.{none_in}
use Rattle.bimap_any.proofs.Survivors.{Survives_none}
use Rattle.bimap.specs.JsonObjects.{Entry, entries_of, IsWrittenAs, TakesKey, IsLastEntryOf, EachReadsBack, shown_pairs}
use Rattle.bimap.proofs.JsonEntries.{map_ascends, has_entries}
use Rattle.bimap.proofs.JsonWriting.{shown_push, each_push, entries_push}
use Rattle.bimap.proofs.value.object.write_walk.Goals as goal

pub loop-left-init : goal.loop-left-init
loop-left-init g c =
    let ready = c.requires.ends _ c.into_iter-left-iterator.ensures.into_iter_gives in
    let key = g.L.JsonKey.writes_key in
    let val = g.R.JsonValue.writes in
    record {
      callable = ready.0;
      ends = ready.1;
      ascends = map_ascends _ c.new-map.ensures.ordered;
      exactly = subst (λ es. (e : Entry) → Contains (entries_of (members_view es)) e ↔ IsLastEntryOf key val [] e) (sym c.new-map.ensures.empty) (λ e. (λ m. none_in e m, λ s. absurd ((Survives_none (IsWrittenAs key val) (TakesKey key val) (λ e. ⊥) e).1 s)));
      reads_back = λ p m. none_in p m;
    }

pub loop-left-preserved : goal.loop-left-preserved
loop-left-preserved g c =
    let key = g.L.JsonKey.writes_key in
    let val = g.R.JsonValue.writes in
    let step = c.in-Some.ensures.goes.on c.loop-left.invariant.ends in
    let ps = shown_pairs c.loop-left.yielded in
    let p : g.row.L.Denot × g.row.R.Denot = (c.in-Some.left.now, c.in-Some.right.now) in
    let longer = shown_push c.loop-left.yielded c.in-Some.left c.in-Some.right in
    let old = members_view c.loop-left.map.entries in
    let is : members_view c.insert.new.self.entries ≡ put (key p.0) (val p.1) old =
    ap members_view c.in-Ok.ensures.entries ∙ members_view-insert_entry c.loop-left.map.entries c.in_ok-key.key c.in_ok-value.value ∙ (λ j. put (c.in_ok-key.ensures.text j) (c.in_ok-value.ensures.json j) old) in
    record {
      callable = step.0;
      ends = step.1;
      ascends = map_ascends _ c.insert.ensures.ordered;
      exactly = subst (λ l. (e : Entry) → Contains (entries_of (members_view c.insert.new.self.entries)) e ↔ IsLastEntryOf key val l e) (sym longer)
          (entries_push key val ps p old (members_view c.insert.new.self.entries) is c.loop-left.invariant.ascends (map_ascends _ c.insert.ensures.ordered) c.loop-left.invariant.exactly);
      reads_back = subst (EachReadsBack key val g.L.JsonKey.reads_key g.R.JsonValue.reads g.L.PartialEq.eq g.R.PartialEq.eq) (sym longer)
          (each_push key val g.L.JsonKey.reads_key g.R.JsonValue.reads g.L.PartialEq.eq g.R.PartialEq.eq ps p c.loop-left.invariant.reads_back c.in_ok-key.ensures.reads_back c.in_ok-value.ensures.reads_back);
    }

pub returns : goal.returns
returns g c = (
  c.into_iter-left-iterator.result,
  c.loop-left.yielded,
  c.into_iter-left-iterator.ensures.into_iter_gives,
  (c.next.new.self, (c.loop-left.left-iterator, c.loop-left.yielded_by, c.in-None.ensures.steps)),
  record {
    entries = entries_of (members_view c.loop-left.map.entries);
    has = has_entries _ c.loop-left.map.entries (ap as_object (view-Object c.loop-left.map)) c.loop-left.invariant.ascends;
    exactly = c.loop-left.invariant.exactly;
  },
  c.loop-left.invariant.reads_back,
)
