use Rattle.bimap_core.proofs.table.Table.new.Goals as goal

pub returns : goal.returns
returns g c = search
