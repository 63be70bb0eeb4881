-- The names of the plain types, for callers that name this crate alone.
pub use Rattle.bimap_base.specs.declared.overwritten.Overwritten.{Overwritten}
pub use Rattle.bimap_base.specs.declared.overwritten.Overwritten.TheVariants.{Neither, Left, Right, Pair, Both}
pub use Rattle.bimap_base.specs.declared.policy.OnHeld.{OnHeld}
pub use Rattle.bimap_base.specs.declared.policy.OnHeld.TheVariants.{Overwrite, Refuse}
pub use Rattle.bimap_base.specs.declared.policy.Policy.{Policy}
pub use Rattle.bimap_base.specs.declared.refusal.NoMemory.{NoMemory}
pub use Rattle.bimap_base.specs.declared.refusal.NoRoom.{NoRoom}
pub use Rattle.bimap_base.specs.declared.refusal.NotInserted.{NotInserted}
pub use Rattle.bimap_base.specs.declared.refusal.NotInsertedWith.{NotInsertedWith}
pub use Rattle.bimap_base.specs.declared.refusal.ExtendStopped.{ExtendStopped}
pub use Rattle.bimap_base.specs.declared.refusal.NotInverted.{NotInverted}
pub use Rattle.bimap_base.specs.declared.refusal.NotReplaced.{NotReplaced}
pub use Rattle.bimap_base.specs.declared.refusal.NotSwapped.{NotSwapped}
pub use Rattle.bimap_base.specs.declared.refusal.ItemRefused.{ItemRefused}
pub use Rattle.bimap_base.specs.declared.refusal.UndoStopped.{UndoStopped}
pub use Rattle.bimap_kinds.specs.declared.seeded.Seeded.{Seeded}
