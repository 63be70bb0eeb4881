use Rattle.std.proofs.Common.{refl, arith}
use Rattle.bimap_core.proofs.Reserving.{reserved}
use Rattle.bimap_core.proofs.table.Table.reserve.Goals as goal

pub returns-in_default-clause-answer : goal.returns-in_default-clause-answer
returns-in_default-clause-answer g c = record { ok = tt; pairs = refl; had_room = λ h. let none = rw c.in_default.is at c.checked_add.ensures in absurd (omega (arith, none, c.len.ensures, c.room-room.ensures)); unchanged = refl }

pub returns-clause-answer : goal.returns-clause-answer
returns-clause-answer g c =
    let some = rw c.in-Some.is at c.checked_add.ensures in
    reserved c.args.self.now.pairs c.grow.new.self.pairs c.args.more c.in-Some.wanted c.grow.result (omega (arith, some, c.len.ensures)) (omega (arith, c.if-wanted-room.false, c.room-room.ensures)) c.grow.ensures.ok c.grow.ensures.kept c.grow.ensures.err
