use Rattle.std.proofs.Common.{◌∙◌, ◌++◌, ◌∷◌, [], ap, sym, refl, None, Some, arith}
use Rattle.bimap_base.specs.PairsAt.{pairs_at}
use Rattle.bimap_base.proofs.Room.{room_stays}
use Rattle.bimap_core.proofs.Places.{apart_at_places, key_lacking}
use Rattle.bimap_core.proofs.Inserted.{may, must, on_err, left_held, right_held, refused_memory, put_new, put_left, put_right, put_pair, put_both}
use Rattle.bimap_core.proofs.Positions.{free_absent, live_listed, pairs_kept, shown_anew, shown_instead, shown_last, shown_without, the_walk}
use Rattle.bimap_core.proofs.table.Table.insert_with.Goals as goal

pub returns-then-keeps-clause-answer : goal.returns-then-keeps-clause-answer
returns-then-keeps-clause-answer g c =
    let slots = c.args.self.now.pairs in
    let kept = must _ _ c.if-keeps.true c.keeps.ensures in
    record {
      allowed = tt;
      answer = tt;
      put = tt;
      count = tt;
      refused = (refl, kept.1, left_held g.L.PartialEq.eq g.R.PartialEq.eq slots c.args.left c.finish_left-by_left.result c.finish_left-by_left.ensures.found kept.0);
      unchanged = refl;
      room = room_stays _ _ _ refl;
    }

pub returns-then-keeps-2-clause-answer : goal.returns-then-keeps-2-clause-answer
returns-then-keeps-2-clause-answer g c =
    let slots = c.args.self.now.pairs in
    let kept = must _ _ c.if-keeps-2.true c.keeps-2.ensures in
    record {
      allowed = tt;
      answer = tt;
      put = tt;
      count = tt;
      refused = (
        refl,
        (λ e. key_lacking (λ p. p.0) g.L.PartialEq.eq slots c.args.left c.finish_left-by_left.result c.finish_left-by_left.ensures.found (may _ _ c.if-keeps.false c.keeps.ensures e)),
        kept.1,
        right_held g.L.PartialEq.eq g.R.PartialEq.eq slots c.args.right c.finish_right-by_right.result c.finish_right-by_right.ensures.found kept.0,
      );
      unchanged = refl;
      room = room_stays _ _ _ refl;
    }

pub returns-then-is_err-clause-answer : goal.returns-then-is_err-clause-answer
returns-then-is_err-clause-answer g c =
    let failed = sym c.is_err.ensures.value ∙ c.if-is_err.true in
    refused_memory g.L.PartialEq.eq g.R.PartialEq.eq g.met.L.Eq.laws g.met.R.Eq.laws c.args.self.now.pairs c.args.left c.args.right c.args.policy c.finish_left-by_left.result c.finish_right-by_right.result c.finish_left-by_left.ensures.found c.finish_right-by_right.ensures.found (may _ _ c.if-keeps.false c.keeps.ensures) (may _ _ c.if-keeps-2.false c.keeps-2.ensures) c.make_room.new.self.pairs c.in-None-None.is-0 c.in-None-None.is-1 (on_err c.make_room.result failed c.make_room.ensures.full) (on_err c.make_room.result failed c.make_room.ensures.err)

pub returns-in-None-None-clause-answer : goal.returns-in-None-None-clause-answer
returns-in-None-None-clause-answer g c =
    let room = c.make_room.ensures in
    put_new g.L.PartialEq.eq g.R.PartialEq.eq g.met.L.Eq.laws g.met.R.Eq.laws c.args.self.now.pairs c.args.left c.args.right c.args.policy c.finish_left-by_left.result c.finish_right-by_right.result c.finish_left-by_left.ensures.found c.finish_right-by_right.ensures.found (may _ _ c.if-keeps.false c.keeps.ensures) (may _ _ c.if-keeps-2.false c.keeps-2.ensures) c.make_room.new.self.pairs c.put-place.new.self.pairs c.put-place.result c.in-None-None.is-0 c.in-None-None.is-1 room.kept room.room c.put-place.ensures.there c.put-place.ensures.was_free c.put-place.ensures.pairs

pub returns-in-Some-None-clause-answer : goal.returns-in-Some-None-clause-answer
returns-in-Some-None-clause-answer g c = put_left g.L.PartialEq.eq g.R.PartialEq.eq g.met.L.Eq.laws g.met.R.Eq.laws c.args.self.now.pairs c.args.left c.args.right c.args.policy c.finish_left-by_left.result c.finish_right-by_right.result c.finish_left-by_left.ensures.found c.finish_right-by_right.ensures.found (may _ _ c.if-keeps.false c.keeps.ensures) (may _ _ c.if-keeps-2.false c.keeps-2.ensures) c.swap-old-in-Some-None.new.self.pairs c.in-Some-None.place c.swap-old-in-Some-None.result c.in-Some-None.is-0 c.in-Some-None.is-1 c.swap-old-in-Some-None.ensures.was c.swap-old-in-Some-None.ensures.pairs

pub returns-in-None-Some-clause-answer : goal.returns-in-None-Some-clause-answer
returns-in-None-Some-clause-answer g c = put_right g.L.PartialEq.eq g.R.PartialEq.eq g.met.L.Eq.laws g.met.R.Eq.laws c.args.self.now.pairs c.args.left c.args.right c.args.policy c.finish_left-by_left.result c.finish_right-by_right.result c.finish_left-by_left.ensures.found c.finish_right-by_right.ensures.found (may _ _ c.if-keeps.false c.keeps.ensures) (may _ _ c.if-keeps-2.false c.keeps-2.ensures) c.swap-old.new.self.pairs c.in-None-Some.place c.swap-old.result c.in-None-Some.is-0 c.in-None-Some.is-1 c.swap-old.ensures.was c.swap-old.ensures.pairs

pub returns-then-place-other-clause-answer : goal.returns-then-place-other-clause-answer
returns-then-place-other-clause-answer g c =
    put_pair g.L.PartialEq.eq g.R.PartialEq.eq g.met.L.Eq.laws g.met.R.Eq.laws c.args.self.now.pairs c.args.left c.args.right c.args.policy c.finish_left-by_left.result c.finish_right-by_right.result c.finish_left-by_left.ensures.found c.finish_right-by_right.ensures.found (may _ _ c.if-keeps.false c.keeps.ensures) (may _ _ c.if-keeps-2.false c.keeps-2.ensures) c.swap-old-then-place-other.new.self.pairs c.in-Some-Some.place c.swap-old-then-place-other.result c.in-Some-Some.is-0 (c.in-Some-Some.is-1 ∙ ap Some (sym c.if-place-other.true)) c.swap-old-then-place-other.ensures.was c.swap-old-then-place-other.ensures.pairs

pub returns-clause-answer : goal.returns-clause-answer
returns-clause-answer g c =
    let slots = c.args.self.now.pairs in
    put_both g.L.PartialEq.eq g.R.PartialEq.eq g.met.L.Eq.laws g.met.R.Eq.laws c.args.self.now.pairs c.args.left c.args.right c.args.policy c.finish_left-by_left.result c.finish_right-by_right.result c.finish_left-by_left.ensures.found c.finish_right-by_right.ensures.found (may _ _ c.if-keeps.false c.keeps.ensures) (may _ _ c.if-keeps-2.false c.keeps-2.ensures) c.swap-first.new.self.pairs c.in-Some-Some.place c.in-Some-Some.other c.swap-first.result c.take-second.result c.in-Some-Some.is-0 c.in-Some-Some.is-1 c.if-place-other.false
    (apart_at_places g.L.PartialEq.eq g.R.PartialEq.eq g.met.L.Eq.laws g.met.R.Eq.laws slots c.args.self.now.apart) (rw c.take-second.ensures.pairs at c.swap-first.ensures.was) c.take-second.ensures.was (rw c.take-second.ensures.pairs at c.swap-first.ensures.pairs)

pub returns-then-is_err-clause-slots : goal.returns-then-is_err-clause-slots
returns-then-is_err-clause-slots g c = on_err c.make_room.result (sym c.is_err.ensures.value ∙ c.if-is_err.true) c.make_room.ensures.err

pub returns-then-keeps-2-clause-slots : goal.returns-then-keeps-2-clause-slots
returns-then-keeps-2-clause-slots g c = refl

pub returns-then-keeps-2-clause-places : goal.returns-then-keeps-2-clause-places
returns-then-keeps-2-clause-places g c = refl

pub finish_left-by_left-requires : goal.finish_left-by_left-requires
finish_left-by_left-requires g c = record { under_way = search }

pub returns-then-keeps-clause-comparisons : goal.returns-then-keeps-clause-comparisons
returns-then-keeps-clause-comparisons g c = omega (arith, c.descend-to_left.ensures.comparisons, c.finish_left-by_left.ensures.comparisons)

pub returns-in-None-None-clause-position : goal.returns-in-None-None-clause-position
returns-in-None-None-clause-position g c appends =
    let table = c.make_room.new.self in
    let walk = the_walk (λ p. p.0) g.I.Index.is_listing g.I.Index.places g.met.I.Index.listed g.met.I.Index.distinct g.met.I.Index.settled table.pairs table.left table.left_listing in
    rw c.put-place.ensures.pairs
    (shown_last table.pairs c.put-place.result (c.args.left, c.args.right) (g.I.Index.places table.left) _ c.put-place.ensures.there (free_absent table.pairs (g.I.Index.places table.left) walk c.put-place.result c.put-place.ensures.was_free) (c.put-place.ensures.left_places appends)
    ∙ ap (λ ps. ps ++ (c.args.left, c.args.right) ∷ []) (pairs_kept c.args.self.now.pairs table.pairs (g.I.Index.places c.args.self.now.left) (g.I.Index.places table.left) c.make_room.ensures.kept c.make_room.ensures.left_places))

pub returns-in-Some-None-clause-position : goal.returns-in-Some-None-clause-position
returns-in-Some-None-clause-position g c appends =
    let table = c.args.self.now in
    let walk = the_walk (λ p. p.0) g.I.Index.is_listing g.I.Index.places g.met.I.Index.listed g.met.I.Index.distinct g.met.I.Index.settled table.pairs table.left table.left_listing in
    let swapped = c.swap-old-in-Some-None.ensures in
    rw swapped.pairs (shown_instead table.pairs c.in-Some-None.place c.swap-old-in-Some-None.result swapped.was (g.I.Index.places table.left) walk.distinct (c.args.left, c.args.right) _ (live_listed table.pairs (g.I.Index.places table.left) walk c.in-Some-None.place c.swap-old-in-Some-None.result swapped.was) swapped.left_places)

pub returns-in-None-Some-clause-position : goal.returns-in-None-Some-clause-position
returns-in-None-Some-clause-position g c appends =
    let table = c.args.self.now in
    let walk = the_walk (λ p. p.0) g.I.Index.is_listing g.I.Index.places g.met.I.Index.listed g.met.I.Index.distinct g.met.I.Index.settled table.pairs table.left table.left_listing in
    let swapped = c.swap-old.ensures in
    rw swapped.pairs (shown_anew table.pairs c.in-None-Some.place c.swap-old.result swapped.was (g.I.Index.places table.left) walk.distinct (c.args.left, c.args.right) _ (swapped.left_places appends))

pub returns-then-place-other-clause-position : goal.returns-then-place-other-clause-position
returns-then-place-other-clause-position g c appends =
    let table = c.args.self.now in
    let walk = the_walk (λ p. p.0) g.I.Index.is_listing g.I.Index.places g.met.I.Index.listed g.met.I.Index.distinct g.met.I.Index.settled table.pairs table.left table.left_listing in
    let swapped = c.swap-old-then-place-other.ensures in
    rw swapped.pairs (shown_instead table.pairs c.in-Some-Some.place c.swap-old-then-place-other.result swapped.was (g.I.Index.places table.left) walk.distinct (c.args.left, c.args.right) _ (live_listed table.pairs (g.I.Index.places table.left) walk c.in-Some-Some.place c.swap-old-then-place-other.result swapped.was) swapped.left_places)

pub returns-clause-position : goal.returns-clause-position
returns-clause-position g c appends =
    let table = c.args.self.now in
    let walk = the_walk (λ p. p.0) g.I.Index.is_listing g.I.Index.places g.met.I.Index.listed g.met.I.Index.distinct g.met.I.Index.settled table.pairs table.left table.left_listing in
    let after = c.take-second.new.self in
    let walk' = the_walk (λ p. p.0) g.I.Index.is_listing g.I.Index.places g.met.I.Index.listed g.met.I.Index.distinct g.met.I.Index.settled after.pairs after.left after.left_listing in
    let swapped = c.swap-first.ensures in
    record {
      rest = pairs_at after.pairs (g.I.Index.places after.left);
      out = rw c.take-second.ensures.pairs (shown_without table.pairs c.in-Some-Some.other c.take-second.result c.take-second.ensures.was (g.I.Index.places table.left) walk.distinct None (g.I.Index.places after.left) (c.take-second.ensures.left_places appends));
      stands = rw swapped.pairs (shown_instead after.pairs c.in-Some-Some.place c.swap-first.result swapped.was (g.I.Index.places after.left) walk'.distinct (c.args.left, c.args.right) _ (live_listed after.pairs (g.I.Index.places after.left) walk' c.in-Some-Some.place c.swap-first.result swapped.was) swapped.left_places);
    }
