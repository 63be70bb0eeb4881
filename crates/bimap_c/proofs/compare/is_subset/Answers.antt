use Rattle.std.proofs.Common.{◌↔◌, IsTrue}
use Rattle.bimap.specs.BTree.{holding}
use Rattle.bimap_c.specs.Compared.{IsSubset}
use Rattle.bimap_c.proofs.InKind.{in_its_kind}
use Rattle.bimap_c.proofs.compare.is_subset.Goals as goal

pub returns-in-Ordered : goal.returns-in-Ordered
returns-in-Ordered g c =
    rw c.in-Ordered.is (in_its_kind (λ other. IsTrue c.is_subset_of.result ↔ IsSubset g.L.PartialEq.eq g.R.PartialEq.eq (holding c.in-Ordered.map).pairs other.pairs) holding holding holding c.args.other.now c.is_subset_of.ensures)

pub returns-in-Hashed : goal.returns-in-Hashed
returns-in-Hashed g c =
    rw c.in-Hashed.is (in_its_kind (λ other. IsTrue c.is_subset_of-in-Hashed.result ↔ IsSubset g.L.PartialEq.eq g.R.PartialEq.eq (holding c.in-Hashed.map).pairs other.pairs) holding holding holding c.args.other.now c.is_subset_of-in-Hashed.ensures)

pub returns-in-InsertionOrder : goal.returns-in-InsertionOrder
returns-in-InsertionOrder g c =
    rw c.in-InsertionOrder.is (in_its_kind (λ other. IsTrue c.is_subset_of-in-InsertionOrder.result ↔ IsSubset g.L.PartialEq.eq g.R.PartialEq.eq (holding c.in-InsertionOrder.map).pairs other.pairs) holding holding holding c.args.other.now c.is_subset_of-in-InsertionOrder.ensures)
