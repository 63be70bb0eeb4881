use Rattle.std.proofs.Common.{rules}
use Rattle.bimap_any.proofs.Called.{may_test_inverse, retention_inverse}
use Rattle.bimap_any.proofs.inverse.InverseBijection.retain.Goals as goal

pub retain-requires : goal.retain-requires
retain-requires g c = record {
  may = may_test_inverse g.F.FnMut _ (λ s. s.0) (λ s l r a t h. search rules) (λ s l r h. search rules) _ _ c.requires.may;
}

pub returns-clause-retained : goal.returns-clause-retained
returns-clause-retained g c = retention_inverse g.F.FnMut _ (λ s. s.0) (λ s l r a t h. search rules) _ _ _ c.retain.ensures.retained
