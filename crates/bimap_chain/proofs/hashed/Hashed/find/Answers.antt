use Rattle.bimap_chain.proofs.hashed.Hashed.find.Goals as goal

pub returns-clause-absent : goal.returns-clause-absent
returns-clause-absent g c = search
