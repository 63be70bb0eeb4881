use Rattle.std.proofs.Common.{arith, ◌≡◌, ◌∙◌, ◌∷◌, [], ◌++◌, ap, subst, sym}
use Rattle.std.specs.Prelude.{is_ok}
use Rattle.std.proofs.lemmas.Grind.{common_steps}
use Rattle.bimap_journal.specs.declared.disk.Operation.TheVariants.{Replaced}
use Rattle.bimap_journal.specs.Calls.{LeavesOnly}
use Rattle.bimap_journal.specs.Lines.{header, closed}
use Rattle.bimap_journal.proofs.Opened.{HasNone, none_any_moment, begun_any_moment, begun_at_rest, to_found}
use Rattle.bimap_journal.proofs.reading.begin.Goals as goal

pub returns-in_default-clause-any_moment : goal.returns-in_default-clause-any_moment
returns-in_default-clause-any_moment g c calls found is empty =
    subst (λ o. LeavesOnly o o HasNone) (sym is) (none_any_moment calls found empty)

pub returns-in-Ok-clause-any_moment : goal.returns-in-Ok-clause-any_moment
returns-in-Ok-clause-any_moment g c calls found is empty =
    let first : c.push.new.self.items ≡ header ++ closed ∷ [] = grind (arith, common_steps) in
    to_found HasNone calls c.args.disk.now c.replace.new.self found is
    (begun_any_moment calls c.replace.new.self found c.push.new.self _ empty first (c.replace.ensures ∙ ap (λ o. (Replaced (is_ok c.replace.result), c.push.new.self) ∷ o) is))

pub returns-in-Ok-clause-rests : goal.returns-in-Ok-clause-rests
returns-in-Ok-clause-rests g c =
    let first : c.push.new.self.items ≡ header ++ closed ∷ [] = grind (arith, common_steps) in
    begun_at_rest c.args.disk.now c.replace.new.self c.push.new.self first c.in-Ok.ensures

pub returns-clause-any_moment : goal.returns-clause-any_moment
returns-clause-any_moment g c calls found is empty =
    let first : c.push.new.self.items ≡ header ++ closed ∷ [] = grind (arith, common_steps) in
    to_found HasNone calls c.args.disk.now c.replace.new.self found is
    (begun_any_moment calls c.replace.new.self found c.push.new.self _ empty first (c.replace.ensures ∙ ap (λ o. (Replaced (is_ok c.replace.result), c.push.new.self) ∷ o) is))
