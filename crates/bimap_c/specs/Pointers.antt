-- What a pointer to a table owns.
use Rattle.std.specs.Prelude.{Option}
use Rattle.std.specs.Prelude.{None, Some}
use base.Fml.{Fml, ftrue}
use denote.RawPtr.{Ptr}

-- A pointer to a value owns what `owns` says about this value. A pointer to none owns nothing.
abbrev pub pointer_owns : {T : Type 0} → (Ptr → T → Fml) → Ptr → Option T → Fml
pointer_owns owns p None = ftrue
pointer_owns owns p (Some t) = owns p t
