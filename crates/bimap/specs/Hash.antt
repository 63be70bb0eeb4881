-- What a contract sees of a map with a hashed left: its pairs, each once, and its capacity as `room`.
pub use Rattle.bimap_kinds.specs.Held.{holding, lefts_hashed_by, rights_hashed_by}
