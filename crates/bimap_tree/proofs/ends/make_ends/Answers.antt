use Rattle.bimap_tree.proofs.EndRoutes.{none_kept}
use Rattle.bimap_tree.proofs.ends.make_ends.Goals as goal

pub returns-in-Ok-clause-kept : goal.returns-in-Ok-clause-kept
returns-in-Ok-clause-kept c t kept any = none_kept c.in-Ok.boxed c.new.result c.new-2.result c.in-Ok.ensures.ok c.new.ensures c.new-2.ensures t
