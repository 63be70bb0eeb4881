use Rattle.bimap_tree.proofs.batch.Batch.fill.Goals as goal

pub returns-clause-has : goal.returns-clause-has
returns-clause-has g c = (c.places_around-from.ensures.row.low, c.places_around-from.ensures.row.high)
