use Rattle.std.proofs.Common.{rules}
use Rattle.bimap_tree.proofs.search_key.AfterQuerySearchKey.ordering.Goals as goal

pub returns-in-Equal-clause-ordering : goal.returns-in-Equal-clause-ordering
returns-in-Equal-clause-ordering g c = search rules
