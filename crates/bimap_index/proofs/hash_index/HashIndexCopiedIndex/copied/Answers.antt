use Rattle.bimap_base.specs.Numbered.{number_by}
use Rattle.bimap_index.proofs.Copied.{listed_with_key, same_places}
use Rattle.bimap_index.proofs.hash_index.HashIndexCopiedIndex.copied.Goals as goal

pub rehashed-requires : goal.rehashed-requires
rehashed-requires g c =
    let number = number_by g.B.Hasher.Hasher.finish g.B.Hasher.Hasher.write g.B.BuildHasher.build_hasher g.K.Hash.hash_input c.args.self.now.builder in
    rw c.new.ensures.side (listed_with_key g.K.PartialEq.eq number c.args.self.now.hashed (g.S.Side.key_at c.args.side) c.requires.listing)

pub returns-clause-listing : goal.returns-clause-listing
returns-clause-listing g c = record {
  numbered = rw (c.new.ensures.side, c.new.ensures.builder) at c.in_ok-hashed.ensures.numbers;
  apart = c.requires.listing.apart;
}

pub returns-clause-places : goal.returns-clause-places
returns-clause-places g c =
    let number = number_by g.B.Hasher.Hasher.finish g.B.Hasher.Hasher.write g.B.BuildHasher.build_hasher g.K.Hash.hash_input in
    same_places g.K.PartialEq.eq (number c.args.self.now.builder) (number c.in_ok-builder.builder) c.args.self.now.hashed c.in_ok-hashed.hashed (g.S.Side.key_at c.args.side) c.requires.listing (returns-clause-listing g c)
