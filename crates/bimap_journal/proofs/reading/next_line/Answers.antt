use Rattle.std.proofs.Common.{arith, ◌≡◌, ◌∙◌, ◌∷◌, ap, sym, take, drop, length, ◌-◌}
use Rattle.std.proofs.lemmas.Grind.{common_steps}
use Rattle.bimap_journal.specs.Lines.{opened, closed}
use Rattle.bimap_journal.proofs.Parsed.{behind_first, cut_is, cut_none, nowhere_none, has_break}
use Rattle.bimap_journal.proofs.reading.next_line.Goals as goal

pub returns-in-Some : goal.returns-in-Some
returns-in-Some c =
    let bytes = c.args.bytes.now in
    let rest = take (length bytes - 1) (drop 1 bytes) in
    let front = behind_first bytes 43 (grind (arith, common_steps)) c.if-bytes-ne43.false in
    let found = c.in-Some.ensures in
    (front ∙ ap (λ xs. 43 ∷ xs) (cut_is rest c.in-Some.long found.0 found.1), cut_none rest c.in-Some.long found.0)

pub returns-in-None : goal.returns-in-None
returns-in-None c =
    let bytes = c.args.bytes.now in
    let rest = take (length bytes - 1) (drop 1 bytes) in
    let front = behind_first bytes 43 (grind (arith, common_steps)) c.if-bytes-ne43.false in (
      λ end. let e : opened ∷ rest ≡ closed ∷ end.0 = sym front ∙ end.1 in let same : opened ≡ closed = cc in absurd (omega (arith, same)),
      λ text behind is. nowhere_none rest c.in-None.ensures (has_break rest text behind (sym front ∙ is)),
    )
