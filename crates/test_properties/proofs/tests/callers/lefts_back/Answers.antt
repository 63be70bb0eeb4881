use Rattle.std.proofs.Common.{rules}
use Rattle.test_properties.proofs.tests.callers.lefts_back.Goals as goal

pub returns : goal.returns
returns c = search rules
