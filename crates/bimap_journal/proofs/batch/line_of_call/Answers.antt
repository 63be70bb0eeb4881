use Rattle.bimap_journal.proofs.batch.line_of_call.Goals as goal

pub returns-in-Insert : goal.returns-in-Insert
returns-in-Insert g c = rw c.in-Insert.is c.insertion_line.ensures

pub returns-in-InsertNoOverwrite : goal.returns-in-InsertNoOverwrite
returns-in-InsertNoOverwrite g c = rw c.in-InsertNoOverwrite.is c.insertion_line-in-InsertNoOverwrite.ensures

pub returns-in-InsertWith : goal.returns-in-InsertWith
returns-in-InsertWith g c = rw c.in-InsertWith.is c.insertion_line-in-InsertWith.ensures
