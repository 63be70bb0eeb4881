use Rattle.bimap_base.specs.Numbered.{number_by}
use Rattle.bimap_index.specs.HashLaws.{hash_walks_alike}
use Rattle.bimap_index.proofs.Compaction.{hash_compacted, cells_compacted}
use Rattle.bimap_index.proofs.hash_index.HashIndexCompactedIndex.adopt.Goals as goal

pub returns-clause-listing : goal.returns-clause-listing
returns-clause-listing g c =
    hash_compacted g.K.PartialEq.eq (number_by g.B.Hasher.Hasher.finish g.B.Hasher.Hasher.write g.B.BuildHasher.build_hasher g.K.Hash.hash_input c.args.self.now.builder) g.met.K.Eq.laws
    c.args.self.now.hashed c.args.compacted c.requires.from.1 (g.S.Side.key_at c.args._side) c.requires.from.0 c.requires.from.3 c.requires.from.4 c.requires.from.2.1

pub returns-clause-cells : goal.returns-clause-cells
returns-clause-cells g c to is = cells_compacted c.args.self.now.hashed c.args.compacted to is.0 is.1

pub returns-clause-walk : goal.returns-clause-walk
returns-clause-walk g c to keys moved is listing listing' same =
    let number = number_by g.B.Hasher.Hasher.finish g.B.Hasher.Hasher.write g.B.BuildHasher.build_hasher g.K.Hash.hash_input c.args.self.now.builder in
    hash_walks_alike g.K.PartialEq.eq number number c.args.self.now.hashed c.args.compacted keys moved listing listing' same
