use Rattle.bimap_kinds.proofs.insertion_order.BijectiveMap+L+R+InsertionOrder+I+J.last.Goals as goal

pub returns : goal.returns
unfolding Rattle.bimap_kinds.specs.HeldTable.held
returns g c = c.last.ensures
