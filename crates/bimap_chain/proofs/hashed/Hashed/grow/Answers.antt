use Rattle.bimap_chain.proofs.hashed.Hashed.grow.Goals as goal

pub returns-clause-ok : goal.returns-clause-ok
returns-clause-ok g c = search
