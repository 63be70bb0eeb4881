use Rattle.std.proofs.Common.{ap, ◌∙◌, arith}
use Rattle.std.specs.Option.{unwrap_or}
use Rattle.serde_json.specs.Data.{no_items}
use Rattle.serde_json.specs.Find.{as_array}
use Rattle.bimap.proofs.JsonPairs.{are_two}
use Rattle.bimap.proofs.value.pairs.as_two.Goals as goal

pub returns-then-len-ne2-clause-none : goal.returns-then-len-ne2-clause-none
returns-then-len-ne2-clause-none c is = c.if-len-ne2.true (omega (arith, c.len.ensures, are_two c.in_ok-items.items.now.items is.0 is.1 (ap (λ o. unwrap_or o no_items) (c.in_ok-items.ensures ∙ ap as_array is.2))))
