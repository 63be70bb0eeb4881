use contract.BorrowLft.{⊑_static}
use Rattle.std.proofs.lemmas.Iterator.Adapters.{YieldsList-from_skip}
use Rattle.std.proofs.lemmas.Iterator.Consumers.{YieldsList-from_rest}
use Rattle.bimap_c.proofs.fill.fill_by_steps.Goals as goal

-- What leads an iterator is `'static`, so it outlives every lifetime.
pub skip-requires-lives-Self-Iterator-2 : goal.skip-requires-lives-Self-Iterator-2
skip-requires-lives-Self-Iterator-2 g c κs within = λ a m. ⊑_static κs.1.0 a (c.type_bounds.static-I-Way a m)

pub returns-clause-packed : goal.returns-clause-packed
returns-clause-packed g c = c.pack_rows.ensures.packed _ (YieldsList-from_skip c.args.start (YieldsList-from_rest _ (cc)) (cc)).runs
