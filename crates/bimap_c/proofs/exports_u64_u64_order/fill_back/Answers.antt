use contract.BorrowLft.{⊑_static}
use Rattle.std.proofs.Common.{refl}
use Rattle.std.proofs.lemmas.Iterator.Adapters.{YieldsList-from_skip}
use Rattle.std.specs.Map.Iter.{deref_pair}
use Rattle.bimap.specs.BTree.{holding}
use Rattle.bimap_c.proofs.Turned.{YieldsList-from_turned}
use Rattle.bimap_c.proofs.exports_u64_u64_order.fill_back.Goals as goal

-- What leads an iterator is `'static`, so it outlives every lifetime.
pub rev-requires-lives-Self-Iterator : goal.rev-requires-lives-Self-Iterator
rev-requires-lives-Self-Iterator g c κs within = λ a m. ⊑_static κs.1.0 a (c.type_bounds.static-I-Way a m)

pub rev-requires-lives-Self-DoubleEndedIterator : goal.rev-requires-lives-Self-DoubleEndedIterator
rev-requires-lives-Self-DoubleEndedIterator g c κs within = λ a m. ⊑_static κs.1.0 a (c.type_bounds.static-I-Way a m)

pub skip-requires-lives-Self-Iterator : goal.skip-requires-lives-Self-Iterator
skip-requires-lives-Self-Iterator g c κs within = λ a m. ⊑_static κs.1.0 a (c.type_bounds.static-I-Way a m)

pub skip-requires-lives-Self-Iterator-2 : goal.skip-requires-lives-Self-Iterator-2
skip-requires-lives-Self-Iterator-2 g c κs within = λ a m. ⊑_static κs.1.0 a (c.type_bounds.static-I-Way a m)

pub returns : goal.returns
returns g c = (refl, c.write_row.ensures _ (YieldsList-from_skip c.args.start (YieldsList-from_turned deref_pair (holding c.args.map.now).pairs _ (cc)) (cc)).runs)
