use Rattle.std.proofs.Common.{arith, ◌≡◌, ◌≢◌, ◌∷◌, [], ◌++◌}
use Rattle.std.proofs.lemmas.Grind.{common_steps}
use Rattle.bimap_journal.proofs.Groups.{begun, continued}
use Rattle.bimap_journal.proofs.batch.push.Goals.{then-not-is_empty, else-not-is_empty}
use Rattle.bimap_journal.proofs.batch.push.Goals as goal

pub returns-clause-pushed : goal.returns-clause-pushed
returns-clause-pushed c text texts is before =
    let grown : c.extend_from_slice.new.self.items ≡ c.if-not-is_empty.group.items ++ (text ++ 10 ∷ []) = grind (arith, common_steps) in
    elim c.if-not-is_empty.branch [
      | then-not-is_empty w ↦
          let some : c.args.group.now.items ≢ [] = grind (arith, common_steps) in
          let e : w.push_reserved.new.self.items ≡ c.args.group.now.items ++ 43 ∷ [] = w.push_reserved.ensures.items in
          let f = continued text texts c.args.group.now.items before some in
          grind (arith, common_steps)
      | else-not-is_empty w ↦
          let none : c.args.group.now.items ≡ [] = grind (arith, common_steps) in
          let f = begun text texts c.args.group.now.items before none in
          grind (arith, common_steps)
    ]
