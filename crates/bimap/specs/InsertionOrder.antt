-- What a contract sees of a map in insertion order: its pairs, each once and in that order, and its capacity as `room`.
pub use Rattle.bimap_kinds.specs.Held.{holding, lefts_hashed_by, rights_hashed_by}
