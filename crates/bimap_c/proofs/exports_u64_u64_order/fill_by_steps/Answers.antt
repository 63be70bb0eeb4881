use contract.BorrowLft.{⊑_static}
use Rattle.std.proofs.Common.{refl}
use Rattle.std.proofs.lemmas.Iterator.Adapters.{YieldsList-from_skip}
use Rattle.std.proofs.lemmas.Iterator.Consumers.{YieldsList-from_rest}
use Rattle.bimap_c.proofs.exports_u64_u64_order.fill_by_steps.Goals as goal

-- What leads an iterator is `'static`, so it outlives every lifetime.
pub skip-requires-lives-Self-Iterator : goal.skip-requires-lives-Self-Iterator
skip-requires-lives-Self-Iterator g c κs within = λ a m. ⊑_static κs.1.0 a (c.type_bounds.static-I-Way a m)

pub returns : goal.returns
returns g c = (refl, c.write_row.ensures _ (YieldsList-from_skip c.args.start (YieldsList-from_rest _ (cc)) (cc)).runs)
