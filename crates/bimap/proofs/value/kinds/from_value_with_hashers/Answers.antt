use Rattle.bimap.proofs.value.kinds.from_value_with_hashers.Goals as goal

pub returns : goal.returns
returns g c = rw c.with_hashers-empty.ensures.room at c.read_into.ensures.read
