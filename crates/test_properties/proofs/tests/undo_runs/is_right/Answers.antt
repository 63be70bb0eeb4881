use Rattle.test_properties.proofs.tests.undo_runs.is_right.Goals as goal

pub refusals-requires : goal.refusals-requires
refusals-requires c a = record { leads = (_, rw (← a.shrink_to_fit.ensures.pairs) at a.in_ok-entries.ensures) }
