use Rattle.std.proofs.Common.{arith}
use Rattle.bimap_tree.proofs.EndRoutes.{end_noted, note_on, other_stays, rest_lower, rest_stands}
use Rattle.bimap_tree.proofs.end_changes.settle.Goals as goal

pub note-requires : goal.note-requires
note-requires g c =
    let (path, b, goes, low) = c.requires in
    (_, _, note_on _ _ c.args.end.now.route path _ _ c.args.direction b goes _ b.tree (low _ b.tree))

pub returns-then-upper-eq0-clause-end : goal.returns-then-upper-eq0-clause-end
returns-then-upper-eq0-clause-end g c path b goes v stands low = end_noted _ _ c.args.end.now.route path _ _ c.args.direction b goes v stands low _ c.note.ensures.kept

pub returns-else-upper-eq0-clause-end : goal.returns-else-upper-eq0-clause-end
returns-else-upper-eq0-clause-end g c path b goes v stands low = end_noted _ _ c.args.end.now.route path _ _ c.args.direction b goes v stands low _ c.note.ensures.kept

pub returns-else-upper-eq0-clause-other : goal.returns-else-upper-eq0-clause-other
returns-else-upper-eq0-clause-other g c path b goes v stands low s kept = other_stays _ _ c.args.end.now.route path _ _ c.args.direction b goes v stands low c.args.other.now s c.if-upper-eq0.false kept

pub returns-then-upper-eq0-clause-touches : goal.returns-then-upper-eq0-clause-touches
returns-then-upper-eq0-clause-touches g c v stands =
    let (path, b, goes, low) = c.requires in
    omega (arith, c.note.ensures.touches _ (rest_stands _ _ c.args.end.now.route path _ _ c.args.direction b goes v stands (low v stands)), rest_lower _ _ c.args.end.now.route path _ _ c.args.direction b goes v stands (low v stands))

pub returns-else-upper-eq0-clause-touches : goal.returns-else-upper-eq0-clause-touches
returns-else-upper-eq0-clause-touches g c v stands =
    let (path, b, goes, low) = c.requires in
    omega (arith, c.note.ensures.touches _ (rest_stands _ _ c.args.end.now.route path _ _ c.args.direction b goes v stands (low v stands)), rest_lower _ _ c.args.end.now.route path _ _ c.args.direction b goes v stands (low v stands))
