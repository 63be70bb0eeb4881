use Rattle.std.proofs.Common.{◌∙◌, sym}
use Rattle.std.proofs.lemmas.List.Edits.{length-between}
use Rattle.bimap_walk.proofs.Listed.{length-pairs_at}
use Rattle.bimap_walk.proofs.by_insertion.LinkedListCourse.len.Goals as goal

pub returns : goal.returns
returns g c =
    let position = c.args.position.now in
    sym (length-pairs_at c.args._pairs.now _ c.requires.stands.live ∙ length-between c.args.self.now.places position.front position.back c.requires.stands.positions.within)
