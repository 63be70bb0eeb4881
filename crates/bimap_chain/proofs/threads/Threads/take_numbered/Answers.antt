use Rattle.std.proofs.Common.{sym, ◌∙◌, subst, Bool}
use Rattle.std.specs.Prelude.{IfSome}
use Rattle.bimap_chain.specs.Chains.{Matches}
use Rattle.bimap_chain.specs.Threads.{numbers_of}
use Rattle.bimap_chain.proofs.Walk.{its_number}
use Rattle.bimap_chain.proofs.threads.Threads.take_numbered.Goals as goal

pub cut-requires-clause-listed : goal.cut-requires-clause-listed
cut-requires-clause-listed g c =
    let key_at = g.S.Spread.key_at c.args.spread.now in
    let test : g.row.S-Key.Denot → Bool = λ k. g.S.Spread.same_key k c.args.query in
    let numbers = numbers_of c.args.self.now in
    let found = subst (λ o. IfSome o (Matches key_at test numbers)) c.in_ok-at.was c.seek-at.ensures.found in (
      c.args.number,
      its_number key_at (g.S.Spread.number_of c.args.spread.now) test numbers c.in_ok-at.field-0 c.args.number c.requires.numbered (λ k t. g.met.S.Spread.alike c.args.spread.now k c.args.query t ∙ sym c.requires.number) found,
      c.bucket-bucket.ensures.value,
    )
