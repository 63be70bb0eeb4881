use Rattle.std.proofs.Common.{arith, ◌≡◌, ◌≢◌, ◌∷◌, [], ◌++◌}
use Rattle.std.proofs.lemmas.Grind.{common_steps}
use Rattle.bimap_journal.proofs.Groups.{begun, continued}
use Rattle.bimap_journal.proofs.text.push_line.Goals.{then-not-is_empty+in_ok-push, else-not-is_empty}
use Rattle.bimap_journal.proofs.text.push_line.Goals as goal

pub returns-clause-pushed : goal.returns-clause-pushed
returns-clause-pushed c texts is =
    let text = c.in_ok-text.text.items in
    let grown : c.push-2.new.self.items ≡ c.if-not-is_empty.group.items ++ (text ++ 10 ∷ []) = grind (arith, common_steps) in (
      text,
      c.in_ok-text.ensures.says,
      c.in_ok-text.ensures.unbroken,
      elim c.if-not-is_empty.branch [
        | then-not-is_empty+in_ok-push w ↦
            let some : c.args.group.now.items ≢ [] = grind (arith, common_steps) in
            let e : w.push.new.self.items ≡ c.args.group.now.items ++ 43 ∷ [] = w.in_ok-push.ensures.items in
            let f = continued text texts c.args.group.now.items is some in
            grind (arith, common_steps)
        | else-not-is_empty w ↦
            let none : c.args.group.now.items ≡ [] = grind (arith, common_steps) in
            let f = begun text texts c.args.group.now.items is none in
            grind (arith, common_steps)
      ],
    )
