use Rattle.bimap_tree.proofs.Filling.{two_levels}
use Rattle.bimap_tree.proofs.walk.fill_two_levels.Goals as goal

pub returns : goal.returns
returns c l r e hl hr = two_levels _ _ _ _ _ l r _ _ _ e hl hr c.requires.room c.requires.long c.put-before.ensures c.put.ensures
