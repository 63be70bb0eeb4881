use Rattle.std.proofs.Common.{◌<◌, ◌∙◌, arith, sym}
use Rattle.bimap_walk.proofs.Positions.{last_place}
use Rattle.bimap_walk.proofs.by_insertion.ListPosition.last.Goals as goal

pub returns-clause-takes : goal.returns-clause-takes
returns-clause-takes c =
    let some : c.args.self.now.front < c.args.self.now.back = omega (arith, c.requires.position.ordered, c.if-self.false) in
    last_place c.args.list.now.places c.args.self.now c.requires.position some c.in_ok-place.place (sym (c.requires.position.last some) ∙ c.in_ok-place.was)
