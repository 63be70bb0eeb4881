use Rattle.std.proofs.lemmas.Grind.{common_steps}
use Rattle.std.proofs.Common.{rules, arith}
use Rattle.bimap_index.proofs.Grown.{places_grown}
use Rattle.bimap_index.proofs.hash_index.HashIndexIndex.grow.Goals as goal

pub returns-clause-places : goal.returns-clause-places
returns-clause-places g c = places_grown c.args.self.now.hashed c.grow_to.new.self c.args.to c.grow_to.result c.grow_to.ensures.ok c.grow_to.ensures.err

pub returns-clause-listing : goal.returns-clause-listing
returns-clause-listing g c = grind (arith, common_steps)

pub returns-clause-err : goal.returns-clause-err
returns-clause-err g c = search rules
