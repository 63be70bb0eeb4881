use Rattle.bimap_c.proofs.compare.is_bytes_subset.Goals as goal

pub returns-in-Ordered : goal.returns-in-Ordered
returns-in-Ordered g c = rw c.in-Ordered.is c.is_subset_of_table.ensures

pub returns-in-Hashed : goal.returns-in-Hashed
returns-in-Hashed g c = rw c.in-Hashed.is c.is_subset_of_table-in-Hashed.ensures

pub returns-in-InsertionOrder : goal.returns-in-InsertionOrder
returns-in-InsertionOrder g c = rw c.in-InsertionOrder.is c.is_subset_of_table-in-InsertionOrder.ensures
