use Rattle.std.proofs.Common.{◌≡◌, ◌∙◌, ◌++◌, ◌∷◌, [], ap, sym, Some, refl, rules, true≢false}
use Rattle.bimap_base.specs.Slots.{pair_at}
use Rattle.bimap_core.proofs.Inserted.{on_err}
use Rattle.bimap_core.proofs.Places.{held_at}
use Rattle.bimap_core.proofs.Positions.{free_absent, pairs_kept, shown_last, the_walk}
use Rattle.bimap_core.proofs.Interned.{nothing, found_held, lacks_held, refused_occupied, refused_for_memory, interned_new}
use Rattle.bimap_core.proofs.table.Table.get_by_left_or_insert.Goals as goal

pub returns-in-Some-clause-answer : goal.returns-in-Some-clause-answer
returns-in-Some-clause-answer g c =
    let slots = c.args.self.now.pairs in
    let pair : g.row.L.Denot × g.row.R.Denot = (c.in-Some-at.field-0-0.now, c.in-Some-at.held.now) in
    let there : pair_at slots c.in-Some.place ≡ Some pair = sym (rw c.in-Some-at.is at c.at.ensures) in
    let equal = rw c.in-Some.is at c.finish_left.ensures.found.here in
    found_held g.L.PartialEq.eq g.R.PartialEq.eq slots c.args.left c.args.right c.in-Some.place pair there (rw there at equal)

pub returns-then-is_some-clause-answer : goal.returns-then-is_some-clause-answer
returns-then-is_some-clause-answer g c = refused_occupied g.L.PartialEq.eq g.R.PartialEq.eq c.args.self.now.pairs c.args.left c.args.right c.finish_left.result c.finish_right.result c.finish_left.ensures.found c.finish_right.ensures.found c.in_default.is (sym c.is_some.ensures ∙ c.if-is_some.true)

pub returns-then-is_err-clause-answer : goal.returns-then-is_err-clause-answer
returns-then-is_err-clause-answer g c =
    let failed = sym c.is_err.ensures.value ∙ c.if-is_err.true in
    refused_for_memory g.L.PartialEq.eq g.R.PartialEq.eq c.args.self.now.pairs c.args.left c.args.right c.finish_left.result c.finish_right.result c.finish_left.ensures.found c.finish_right.ensures.found c.in_default.is c.make_room.new.self.pairs (nothing _ (sym c.is_some.ensures ∙ c.if-is_some.false)) (on_err c.make_room.result failed c.make_room.ensures.full) (on_err c.make_room.result failed c.make_room.ensures.err)

pub returns-clause-answer : goal.returns-clause-answer
returns-clause-answer g c =
    let room = c.make_room.ensures in
    let there = c.put-place.ensures in
    interned_new g.L.PartialEq.eq g.R.PartialEq.eq c.args.self.now.pairs c.args.left c.args.right c.finish_left.result c.finish_right.result c.finish_left.ensures.found c.finish_right.ensures.found c.in_default.is g.met.L.Eq.laws g.met.R.Eq.laws c.make_room.new.self.pairs c.put-place.new.self.pairs c.put-place.result (nothing _ (sym c.is_some.ensures ∙ c.if-is_some.false)) room.kept room.room there.there there.was_free there.pairs

pub returns-clause-held_slots : goal.returns-clause-held_slots
returns-clause-held_slots g c = lacks_held g.L.PartialEq.eq g.R.PartialEq.eq c.args.self.now.pairs c.args.left c.args.right c.finish_left.result c.finish_right.result c.finish_left.ensures.found c.finish_right.ensures.found c.in_default.is

pub returns-clause-held_places : goal.returns-clause-held_places
returns-clause-held_places g c = lacks_held g.L.PartialEq.eq g.R.PartialEq.eq c.args.self.now.pairs c.args.left c.args.right c.finish_left.result c.finish_right.result c.finish_left.ensures.found c.finish_right.ensures.found c.in_default.is

pub returns-then-is_err-clause-slots : goal.returns-then-is_err-clause-slots
returns-then-is_err-clause-slots g c = on_err c.make_room.result (sym c.is_err.ensures.value ∙ c.if-is_err.true) c.make_room.ensures.err

pub returns-then-is_some-clause-slots : goal.returns-then-is_some-clause-slots
returns-then-is_some-clause-slots g c = refl

pub returns-then-is_some-clause-places : goal.returns-then-is_some-clause-places
returns-then-is_some-clause-places g c = refl

pub returns-in-Some-clause-comparisons : goal.returns-in-Some-clause-comparisons
returns-in-Some-clause-comparisons g c = search rules

pub returns-in-Some-clause-touches : goal.returns-in-Some-clause-touches
returns-in-Some-clause-touches g c = search rules

pub returns-in-Some-clause-position : goal.returns-in-Some-clause-position
returns-in-Some-clause-position g c appends lacks =
    let slots = c.args.self.now.pairs in
    let pair : g.row.L.Denot × g.row.R.Denot = (c.in-Some-at.field-0-0.now, c.in-Some-at.held.now) in
    let there : pair_at slots c.in-Some.place ≡ Some pair = sym (rw c.in-Some-at.is at c.at.ensures) in
    let equal = rw there at (rw c.in-Some.is at c.finish_left.ensures.found.here) in
    absurd (true≢false (sym equal ∙ lacks pair (held_at slots c.in-Some.place pair there)))

pub returns-clause-position : goal.returns-clause-position
returns-clause-position g c appends lacks =
    let table = c.make_room.new.self in
    let walk = the_walk (λ p. p.0) g.I.Index.is_listing g.I.Index.places g.met.I.Index.listed g.met.I.Index.distinct g.met.I.Index.settled table.pairs table.left table.left_listing in
    rw c.put-place.ensures.pairs
    (shown_last table.pairs c.put-place.result (c.args.left, c.args.right) (g.I.Index.places table.left) _ c.put-place.ensures.there (free_absent table.pairs (g.I.Index.places table.left) walk c.put-place.result c.put-place.ensures.was_free) (c.put-place.ensures.left_places appends)
    ∙ ap (λ ps. ps ++ (c.args.left, c.args.right) ∷ []) (pairs_kept c.args.self.now.pairs table.pairs (g.I.Index.places c.args.self.now.left) (g.I.Index.places table.left) c.make_room.ensures.kept c.make_room.ensures.left_places))
