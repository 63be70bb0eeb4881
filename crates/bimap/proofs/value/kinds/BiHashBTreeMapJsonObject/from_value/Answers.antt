use Rattle.bimap.proofs.value.kinds.BiHashBTreeMapJsonObject.from_value.Goals as goal

pub returns : goal.returns
returns g c = record { read = rw c.new.ensures.room at c.read_into.ensures.read; position = c.read_into.ensures.position }
