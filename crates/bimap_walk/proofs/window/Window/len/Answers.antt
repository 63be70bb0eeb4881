use Rattle.std.proofs.Common.{sym}
use Rattle.std.proofs.lemmas.List.Edits.{length-between}
use Rattle.bimap_walk.proofs.window.Window.len.Goals as goal

pub returns : goal.returns
returns c = let w = c.args.self.now in sym (length-between c.args.index.now.places w.front w.back c.requires.window.within)
