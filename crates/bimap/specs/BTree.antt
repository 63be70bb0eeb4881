-- What a contract sees of a map with an ordered left: its pairs, each once and in ascending order of their lefts, and
-- its capacity as `room`.
pub use Rattle.bimap_kinds.specs.Held.{holding, by_right}
pub use Rattle.bimap_kinds.specs.Sorted.{IsByRight}
