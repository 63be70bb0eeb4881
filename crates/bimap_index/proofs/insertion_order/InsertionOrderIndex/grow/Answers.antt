use Rattle.std.proofs.Common.{Contains, arith, subst}
use Rattle.bimap_index.proofs.insertion_order.InsertionOrderIndex.grow.Goals as goal

pub shrink-requires-clause-below : goal.shrink-requires-clause-below
shrink-requires-clause-below g c p has =
    omega (arith, c.cells-cells.ensures.cells, c.cells-cells.ensures.below p (subst (λ z. Contains z p) c.in_ok-grow.ensures.places has))
