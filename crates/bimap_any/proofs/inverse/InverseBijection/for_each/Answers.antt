use Rattle.std.proofs.Common.{rules}
use Rattle.bimap_any.proofs.Called.{may_visit_inverse, visited_inverse}
use Rattle.bimap_any.proofs.inverse.InverseBijection.for_each.Goals as goal

pub for_each-requires : goal.for_each-requires
for_each-requires g c = record {
  may = may_visit_inverse g.F.FnMut _ (λ s. s.0) (λ s l r a t h. search rules) (λ s l r h. search rules) _ _ c.requires.may;
}

pub returns : goal.returns
returns g c = visited_inverse g.F.FnMut _ (λ s. s.0) (λ s l r a t h. search rules) _ _ c.for_each.ensures
