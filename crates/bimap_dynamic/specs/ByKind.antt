-- What is known of a map whose kind is chosen when it is made.
use Rattle.bimap_dynamic.specs.declared.any_of.AnyOf.{AnyOf}
use Rattle.bimap_dynamic.specs.declared.any_of.AnyOf.TheVariants.{Ordered, Hashed, InsertionOrder}

module _ {O H I : Type 0} where
  -- What the function of its kind gives for a map.
  abbrev pub by_kind : {X : Type 0} → (O → X) → (H → X) → (I → X) → AnyOf O H I → X
  by_kind o h i (Ordered map) = o map
  by_kind o h i (Hashed map) = h map
  by_kind o h i (InsertionOrder map) = i map

  -- What is true of the maps of each kind is true of every map.
  pub by_cases : (P : AnyOf O H I → Type 0) → ((o : O) → P (Ordered o)) → ((h : H) → P (Hashed h)) → ((i : I) → P (InsertionOrder i)) → (map : AnyOf O H I) → P map
  by_cases P o h i (Ordered map) = o map
  by_cases P o h i (Hashed map) = h map
  by_cases P o h i (InsertionOrder map) = i map
