use Rattle.std.proofs.Common.{◌∙◌, sym}
use Rattle.bimap_kinds.proofs.walked_index.InsertionOrderWalkedIndex.walk.Goals as goal

pub iter-requires-clause-lists : goal.iter-requires-clause-lists
iter-requires-clause-lists g c place =
    rw c.list.ensures (λ listed. sym (c.requires.of_store place) ∙ (c.requires.listing.lists place).0 listed, λ live. (c.requires.listing.lists place).1 (c.requires.of_store place ∙ live))
