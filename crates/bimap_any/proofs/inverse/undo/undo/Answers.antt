use Rattle.std.proofs.Common.{inl, arith, refl}
use Rattle.std.proofs.lemmas.List.{length-map}
use Rattle.bimap_base.specs.Inverse.{inverse_pair}
use Rattle.bimap_any.proofs.Fits.{names_one}
use Rattle.bimap_any.specs.Exchanged.{inverse_holding}
use Rattle.bimap_any.proofs.Inserted.{room_inverse}
use Rattle.bimap_any.proofs.InverseUndone.{one_back, two_back, named_free, second_free}
use Rattle.bimap_any.proofs.inverse.undo.undo.Goals as goal

pub take-taken-requires : goal.take-taken-requires
take-taken-requires g c = record {
  held = let u = c.requires.undoable in rw c.make_place.ensures.pairs (u.pair, u.member, u.by_left);
}

pub put_back-requires-clause-alone : goal.put_back-requires-clause-alone
put_back-requires-clause-alone g c =
    let removal = rw c.make_place.ensures.pairs at c.take-taken.ensures.answer in
    named_free removal g.met.R.Eq.laws g.met.L.Eq.laws c.requires.undoable c.in-Both.first (rw c.in-Both.is (inl refl))

pub put_back-requires-in-Both-clause-alone : goal.put_back-requires-in-Both-clause-alone
put_back-requires-in-Both-clause-alone g c =
    let removal = rw c.make_place.ensures.pairs at c.take-taken.ensures.answer in
    second_free removal g.met.R.Eq.laws g.met.L.Eq.laws c.requires.undoable c.in-Both.first c.in-Both.second c.in-Both.is c.put_back.ensures.added

pub put_back-requires-in-Left-clause-free : goal.put_back-requires-in-Left-clause-free
put_back-requires-in-Left-clause-free g c =
    let old = g.B.Bijection.holding c.args.bimap.now in
    let mid = g.B.Bijection.holding c.take-taken-in-Left.new.bimap in
    omega (arith, c.take-taken-in-Left.ensures.answer.count, c.take-taken-in-Left.ensures.answer.room, g.met.B.Bijection.fits c.args.bimap.now, length-map old.pairs inverse_pair, length-map mid.pairs inverse_pair)

pub put_back-requires-in-Left-clause-alone : goal.put_back-requires-in-Left-clause-alone
put_back-requires-in-Left-clause-alone g c =
    let one = names_one c.args.answer c.in-Left.l c.in-Left.r c.in-Left.is in
    named_free c.take-taken-in-Left.ensures.answer g.met.R.Eq.laws g.met.L.Eq.laws c.requires.undoable (c.in-Left.l, c.in-Left.r) one.is

pub returns-in-Left-clause-answer : goal.returns-in-Left-clause-answer
returns-in-Left-clause-answer g c = one_back c.take-taken-in-Left.ensures.answer (names_one c.args.answer c.in-Left.l c.in-Left.r c.in-Left.is) c.put_back-in-Left.ensures.added

pub returns-else-is_err-clause-answer : goal.returns-else-is_err-clause-answer
returns-else-is_err-clause-answer g c =
    let made = rw c.make_place.ensures.pairs at (room_inverse (λ b. b) c.make_place.ensures.room) in
    let removal = rw c.make_place.ensures.pairs at c.take-taken.ensures.answer in
    rw c.in-Both.is (two_back (inverse_holding (g.B.Bijection.holding c.args.bimap.now)) made removal c.put_back.ensures.added c.put_back-in-Both.ensures.added)
