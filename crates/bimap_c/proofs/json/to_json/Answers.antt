use contract.BorrowLft.{⊑_static}
use Rattle.std.proofs.Common.{rules, refl}
use Rattle.std.specs.Str.{IsUtf8}
use Rattle.std.proofs.lemmas.Iterator.{cases_from_all}
use Rattle.std.proofs.lemmas.Iterator.Consumers.{YieldsList-from_rest}
use borrow.Author.Tests.{tests}
use Rattle.bimap.specs.BTree.{holding}
use Rattle.bimap_c.proofs.Texts.{all_texts, some_other}
use Rattle.bimap_c.proofs.json.to_json.Goals as goal

-- What leads an iterator is `'static`, so it outlives every lifetime.
pub all-requires-lives-Self-Iterator : goal.all-requires-lives-Self-Iterator
all-requires-lives-Self-Iterator g c κs within = λ a m. ⊑_static κs.1.1.0 a (c.type_bounds.static-I-Way a m)

pub returns-then-all-clause-told : goal.returns-then-all-clause-told
returns-then-all-clause-told g c =
    let texts = all_texts _ _ c.if-all.true (cases_from_all _ _ _ (λ p. IsUtf8 p.0.bytes.items) (λ p. IsUtf8 p.0.bytes.items → ⊥) c.all.ensures.ran (YieldsList-from_rest (holding c.args.map.now).pairs c.iter.ensures.rest) (λ x q k. search (rules, tests)) (λ x q k. search (rules, tests))) in
    record { texts = λ _. c.write_json.ensures.told; others = λ no. absurd (no texts) }

pub returns-else-all-clause-told : goal.returns-else-all-clause-told
returns-else-all-clause-told g c =
    let other = some_other _ _ c.if-all.false (cases_from_all _ _ _ (λ p. IsUtf8 p.0.bytes.items) (λ p. IsUtf8 p.0.bytes.items → ⊥) c.all.ensures.ran (YieldsList-from_rest (holding c.args.map.now).pairs c.iter.ensures.rest) (λ x q k. search (rules, tests)) (λ x q k. search (rules, tests))) in
    record { texts = λ all. absurd (other all); others = λ _. refl }
