-- What `AnyOf` says of a map is what is seen of it under its kind.
use Rattle.bimap_dynamic.specs.ByKind.{by_kind}
use Rattle.bimap_dynamic.specs.declared.any_of.AnyOf.{AnyOf}
use Rattle.bimap_dynamic.specs.declared.any_of.AnyOf.TheVariants.{Ordered, Hashed, InsertionOrder}
use Rattle.bimap_c.specs.Kinds.{in_kind, map_kinds}

pub in_its_kind : {O H I X : Type 0} (P : X → Type 0) (o : O → X) (h : H → X) (i : I → X) (map : AnyOf O H I) → P (by_kind o h i map) → P (in_kind (map_kinds o h i map))
in_its_kind P o h i (Ordered map) p = p
in_its_kind P o h i (Hashed map) p = p
in_its_kind P o h i (InsertionOrder map) p = p
