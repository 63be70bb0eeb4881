use Rattle.std.proofs.Common.{◌∙◌, sym, subst, inl, inr, refl, None, true≢false}
use Rattle.bimap_base.specs.PairsAt.{pairs_at}
use Rattle.bimap_base.specs.Positions.{StandsFor}
use Rattle.bimap_base.specs.declared.overwritten.Overwritten.TheVariants.{Both}
use Rattle.bimap_any.proofs.Fits.{names_one}
use Rattle.bimap_core.proofs.Places.{key_lacking}
use Rattle.bimap_core.proofs.Inserted.{on_err}
use Rattle.bimap_core.proofs.Undoing.{alone_named, alone_grown, alone_beside, undone_neither, undone_one, undone_both, undo_refused}
use Rattle.bimap_core.proofs.Positions.{pairs_kept, shown_without, stands_one, the_walk}
use Rattle.bimap_core.proofs.table.Table.undo_insert.Goals as goal

pub unreachable-requires : goal.unreachable-requires
unreachable-requires g c =
    let lacking = key_lacking (λ p. p.0) g.L.PartialEq.eq c.args.self.now.pairs c.args.left.now c.left_place.result c.left_place.ensures.found c.in_default.is in
    true≢false (sym c.requires.undoable.by_left ∙ lacking c.requires.undoable.pair c.requires.undoable.member)

pub replace-requires-clause-alone : goal.replace-requires-clause-alone
replace-requires-clause-alone g c = alone_named g.L.PartialEq.eq g.R.PartialEq.eq g.met.L.Eq.laws g.met.R.Eq.laws c.args.self.now.pairs c.args.left.now c.in-Some.place c.left_place.result c.left_place.ensures.found c.in-Some.is c.args.answer c.requires.undoable (c.in-Left.l, c.in-Left.r) (names_one c.args.answer c.in-Left.l c.in-Left.r c.in-Left.is).is

pub replace-old-requires-clause-alone : goal.replace-old-requires-clause-alone
replace-old-requires-clause-alone g c =
    alone_grown g.L.PartialEq.eq g.R.PartialEq.eq c.args.self.now.pairs c.make_room.new.self.pairs c.in-Some.place c.in-Both.first c.make_room.ensures.kept
    (alone_named g.L.PartialEq.eq g.R.PartialEq.eq g.met.L.Eq.laws g.met.R.Eq.laws c.args.self.now.pairs c.args.left.now c.in-Some.place c.left_place.result c.left_place.ensures.found c.in-Some.is (Both c.in-Both.first c.in-Both.second) (rw c.in-Both.is at c.requires.undoable) c.in-Both.first (inl refl))

pub put_new-place-requires-clause-alone : goal.put_new-place-requires-clause-alone
put_new-place-requires-clause-alone g c other free =
    let undoable = rw c.in-Both.is at c.requires.undoable in
    rw c.replace-old.ensures.pairs (alone_beside g.L.PartialEq.eq g.R.PartialEq.eq c.make_room.new.self.pairs c.in-Some.place other c.replace-old.result c.in-Both.first c.in-Both.second c.replace-old.ensures.was undoable.two
    (alone_grown g.L.PartialEq.eq g.R.PartialEq.eq c.args.self.now.pairs c.make_room.new.self.pairs c.in-Some.place c.in-Both.second c.make_room.ensures.kept
    (alone_named g.L.PartialEq.eq g.R.PartialEq.eq g.met.L.Eq.laws g.met.R.Eq.laws c.args.self.now.pairs c.args.left.now c.in-Some.place c.left_place.result c.left_place.ensures.found c.in-Some.is (Both c.in-Both.first c.in-Both.second) undoable c.in-Both.second (inr refl))))

pub returns-in-Neither-clause-answer : goal.returns-in-Neither-clause-answer
returns-in-Neither-clause-answer g c =
    rw c.in-Neither.is (undone_neither g.L.PartialEq.eq g.R.PartialEq.eq g.met.L.Eq.laws g.met.R.Eq.laws c.args.self.now.pairs c.args.left.now c.in-Some.place c.left_place.result c.left_place.ensures.found c.in-Some.is c.take.result c.take.new.self.pairs c.take.ensures.was c.take.ensures.pairs)

pub returns-in-Left-clause-answer : goal.returns-in-Left-clause-answer
returns-in-Left-clause-answer g c =
    undone_one g.L.PartialEq.eq g.R.PartialEq.eq g.met.L.Eq.laws g.met.R.Eq.laws c.args.self.now.pairs c.args.left.now c.in-Some.place c.left_place.result c.left_place.ensures.found c.in-Some.is c.args.answer c.replace.result (c.in-Left.l, c.in-Left.r) c.replace.new.self.pairs (names_one c.args.answer c.in-Left.l c.in-Left.r c.in-Left.is) c.replace.ensures.was c.replace.ensures.pairs

pub returns-then-is_err-clause-answer : goal.returns-then-is_err-clause-answer
returns-then-is_err-clause-answer g c =
    let failed = sym c.is_err.ensures.value ∙ c.if-is_err.true in
    rw c.in-Both.is (undo_refused g.L.PartialEq.eq g.R.PartialEq.eq c.args.self.now.pairs c.make_room.new.self.pairs c.args.left.now c.in-Both.first c.in-Both.second (on_err c.make_room.result failed c.make_room.ensures.full) (on_err c.make_room.result failed c.make_room.ensures.err))

pub returns-else-is_err-clause-answer : goal.returns-else-is_err-clause-answer
returns-else-is_err-clause-answer g c =
    let room = c.make_room.ensures in
    rw c.in-Both.is (undone_both g.L.PartialEq.eq g.R.PartialEq.eq g.met.L.Eq.laws g.met.R.Eq.laws c.args.self.now.pairs c.args.left.now c.in-Some.place c.left_place.result c.left_place.ensures.found c.in-Some.is c.replace-old.result c.in-Both.first c.in-Both.second c.make_room.new.self.pairs c.put_new-place.new.self.pairs c.put_new-place.result c.replace-old.ensures.was room.kept room.room (rw c.replace-old.ensures.pairs at c.put_new-place.ensures.there) (rw c.replace-old.ensures.pairs at c.put_new-place.ensures.was_free) (rw c.replace-old.ensures.pairs at c.put_new-place.ensures.pairs))

pub returns-then-is_err-clause-slots : goal.returns-then-is_err-clause-slots
returns-then-is_err-clause-slots g c = on_err c.make_room.result (sym c.is_err.ensures.value ∙ c.if-is_err.true) c.make_room.ensures.err

pub returns-in-Neither-clause-position : goal.returns-in-Neither-clause-position
returns-in-Neither-clause-position g c appends =
    let table = c.args.self.now in
    let places = g.I.Index.places table.left in
    let walk = the_walk (λ p. p.0) g.I.Index.is_listing g.I.Index.places g.met.I.Index.listed g.met.I.Index.distinct g.met.I.Index.settled table.pairs table.left table.left_listing in
    rw (c.in-Neither.is, c.take.ensures.pairs) (shown_without table.pairs c.in-Some.place c.take.result c.take.ensures.was places walk.distinct None _ (c.take.ensures.left_places appends))

pub returns-in-Left-clause-position : goal.returns-in-Left-clause-position
returns-in-Left-clause-position g c appends = stands_one g.L.PartialEq.eq _ _ c.replace.result c.args.answer c.in-Left.l c.in-Left.r c.in-Left.is (c.replace.ensures.position appends)

pub returns-else-is_err-clause-position : goal.returns-else-is_err-clause-position
returns-else-is_err-clause-position g c appends =
    let old = c.args.self.now in
    let made = c.make_room.new.self in
    let mid = c.replace-old.new.self in
    let places = g.I.Index.places in
    let same = pairs_kept old.pairs made.pairs (places old.left) (places made.left) c.make_room.ensures.kept c.make_room.ensures.left_places in
    let left = pairs_at mid.pairs (places mid.left) in
    rw c.in-Both.is (left, subst (λ ps. StandsFor g.L.PartialEq.eq ps c.replace-old.result c.in-Both.first left) same (c.replace-old.ensures.position appends), c.put_new-place.ensures.position appends)
