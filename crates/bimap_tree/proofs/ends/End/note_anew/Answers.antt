use Rattle.bimap_tree.specs.Path.{top}
use Rattle.bimap_tree.proofs.EndRoutes.{from_top}
use Rattle.bimap_tree.proofs.ends.End.note_anew.Goals as goal

pub note-requires : goal.note-requires
note-requires g c =
    let (t, stands, low) = c.requires in
    (top, t, from_top _ _ _ _ t stands low)

pub returns-then-is_none-clause-kept : goal.returns-then-is_none-clause-kept
returns-then-is_none-clause-kept g c t stands low kept = c.note.ensures.kept top t (from_top _ _ _ _ t stands low)
