use Rattle.bimap_c.proofs.bytes.new_table.Goals as goal

pub returns-in-Some-Hashed-clause-seeded : goal.returns-in-Some-Hashed-clause-seeded
returns-in-Some-Hashed-clause-seeded g c =
    rw c.table_of-in-Some-Hashed.ensures.map (rw c.in-Some-Hashed.field-0-is at c.in-Some-Hashed.ensures.seeded)

pub returns-in-Some-InsertionOrder-clause-seeded :
    goal.returns-in-Some-InsertionOrder-clause-seeded
returns-in-Some-InsertionOrder-clause-seeded g c =
    rw c.table_of-in-Some-InsertionOrder.ensures.map (rw c.in-Some-InsertionOrder.field-0-is at c.in-Some-InsertionOrder.ensures.seeded)
