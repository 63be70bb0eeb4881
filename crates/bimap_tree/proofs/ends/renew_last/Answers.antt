use Rattle.bimap_tree.proofs.ends.renew_last.Goals as goal

pub returns-then-is_wanted-clause-kept : goal.returns-then-is_wanted-clause-kept
returns-then-is_wanted-clause-kept g c t stands low = c.note_missing.ensures.kept t stands low (c.let_go.ensures t)
