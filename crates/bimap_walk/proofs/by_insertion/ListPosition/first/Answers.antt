use Rattle.std.proofs.Common.{◌<◌, ◌∙◌, arith, sym}
use Rattle.bimap_walk.proofs.Positions.{first_place}
use Rattle.bimap_walk.proofs.by_insertion.ListPosition.first.Goals as goal

pub returns-clause-takes : goal.returns-clause-takes
returns-clause-takes c =
    let some : c.args.self.now.front < c.args.self.now.back = omega (arith, c.requires.position.ordered, c.if-self.false) in
    first_place c.args.list.now.places c.args.self.now c.requires.position some c.in_ok-place.place (sym (c.requires.position.next some) ∙ c.in_ok-place.was)
