use Rattle.std.proofs.Common.{◌∙◌, sym}
use Rattle.bimap_index.specs.ByHash.{places_from}
use Rattle.bimap_index.specs.HashLaws.{hash_listed, hash_by_place, pairs_by_place}
use Rattle.bimap_kinds.proofs.walked_index.HashIndexWalkedIndex.walk.Goals as goal

pub returns : goal.returns
returns g c =
    let numbers = c.args.self.now.hashed in
    let listed = hash_listed _ _ numbers _ c.requires.listing in
    c.iter.ensures
    ∙ sym (pairs_by_place c.args.pairs.now (places_from 0 numbers) (hash_by_place _ _ numbers _ c.requires.listing) (λ p. (λ i. sym (c.requires.of_store p) ∙ (listed p).0 i, λ s. (listed p).1 (c.requires.of_store p ∙ s))))
