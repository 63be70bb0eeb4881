use Rattle.bimap_tree.proofs.EndRoutes.{has_some}
use Rattle.bimap_tree.proofs.UnderWay.{starts, left_at_start}
use Rattle.bimap_tree.proofs.ordered.Ordered.start.Goals as goal

pub returns-clause-under_way : goal.returns-clause-under_way
returns-clause-under_way c = starts _ _ _ _ c.self.invariant.0 c.self.view_is _ c.new.ensures.depth c.new.ensures.is_found _ c.new.ensures.tries c.new.ensures.goes

pub returns-clause-left : goal.returns-clause-left
returns-clause-left c =
    left_at_start _ _ _ _ c.self.invariant.0 c.self.view_is _ c.new.ensures.depth c.new.ensures.is_found _ c.new.ensures.tries c.new.ensures.goes (λ t. let (place, has) = c.keeps_last.ensures t in has_some _ place has _ c.self.invariant.1)
