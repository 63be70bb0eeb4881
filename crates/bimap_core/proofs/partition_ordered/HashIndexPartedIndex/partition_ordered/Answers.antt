use Rattle.bimap_core.proofs.InOrder.{as_listed, fits_as_listed, tested_as_listed}
use Rattle.bimap_core.proofs.Positions.{hash_walk}
use Rattle.bimap_core.proofs.partition_ordered.HashIndexPartedIndex.partition_ordered.Goals as goal

pub partition-requires-clause-may : goal.partition-requires-clause-may
partition-requires-clause-may g c =
    let table = c.args.table.now in
    tested_as_listed g.F.FnMut g.S.Outlet.has_room g.S.Outlet.receives c.args.goes c.args.f _ _ (hash_walk (λ p. p.0) table.pairs table.left.hashed table.left_listing) c.requires.may

pub partition-requires-clause-fits : goal.partition-requires-clause-fits
partition-requires-clause-fits g c =
    let table = c.args.table.now in
    fits_as_listed g.F.FnMut g.S.Outlet.has_room g.S.Outlet.receives c.args.goes c.args.outlet.now _ _ (hash_walk (λ p. p.0) table.pairs table.left.hashed table.left_listing) c.requires.fits

pub returns-clause-parted : goal.returns-clause-parted
returns-clause-parted g c =
    let table = c.args.table.now in
    let after = c.partition.new.self in
    as_listed g.F.FnMut g.S.Outlet.has_room g.S.Outlet.receives c.args.goes c.args.f c.args.outlet.now c.partition.new.outlet _ _ _ _ (hash_walk (λ p. p.0) table.pairs table.left.hashed table.left_listing) (hash_walk (λ p. p.0) after.pairs after.left.hashed after.left_listing) c.partition.ensures.parted
