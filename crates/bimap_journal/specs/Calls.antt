-- What a file contains after calls of the operating system, and what a crash may leave of it. This is what the journal trusts.
use Rattle.std.specs.Prelude.{◌≡◌, ◌⊎◌, ℕ, ◌+◌, true, false, List, [], ◌∷◌, ◌++◌, length, take, drop, Vec}
use Rattle.std.specs.declared.alloc.Global.{Global}
use Rattle.bimap_journal.specs.declared.disk.Operation.{Operation}
use Rattle.bimap_journal.specs.declared.disk.Operation.TheVariants.{Found, Wrote, WroteByte, Cut, Synced, Replaced}

-- A call on the file, with the bytes that it was given or that it read. Its truth value says whether it succeeded.
abbrev pub Event : Type 0
Event = Operation × Vec ℕ Global

-- The operation was made, without bytes.
abbrev pub IsMade : Operation → List Event → List Event → Type 0
IsMade operation old new = (bytes : Vec ℕ Global) × (new ≡ (operation, bytes) ∷ old)

-- `new` begins with the same `at` bytes as `old`.
abbrev pub KeepsFront : ℕ → List ℕ → List ℕ → Type 0
KeepsFront at old new = take at new ≡ take at old

-- `old` with this byte at this place.
abbrev pub with_byte : ℕ → ℕ → List ℕ → List ℕ
with_byte at byte old = take at old ++ byte ∷ drop (at + 1) old

-- What a read returns after these calls, the last of them first, if none of them failed.
abbrev pub seen : List Event → List ℕ
seen [] = []
seen ((Found, bytes) ∷ calls) = bytes.items
seen ((Wrote at done, bytes) ∷ calls) = take at (seen calls) ++ bytes.items ++ drop (at + length bytes.items) (seen calls)
seen ((WroteByte at byte done, bytes) ∷ calls) = with_byte at byte (seen calls)
seen ((Cut at done, bytes) ∷ calls) = take at (seen calls)
seen ((Synced done, bytes) ∷ calls) = seen calls
seen ((Replaced done, bytes) ∷ calls) = bytes.items

-- A crash after these calls, or during the last of them, may leave this file.
-- A file that was found is on the disk.
-- A write of many bytes and a cut may leave anything from their first byte on.
-- A write of one byte leaves the old byte or the new one.
-- After a sync that succeeded, the file is as a read returns it.
-- A replacement leaves the old file or the new one, and the new one alone once it has succeeded.
abbrev pub MayLeave : List Event → List ℕ → Type 0
MayLeave [] file = file ≡ []
MayLeave ((Found, bytes) ∷ calls) file = file ≡ bytes.items
MayLeave ((Wrote at done, bytes) ∷ calls) file = (old : List ℕ) × MayLeave calls old × KeepsFront at old file
MayLeave ((WroteByte at byte done, bytes) ∷ calls) file = (old : List ℕ) × MayLeave calls old × ((file ≡ old) ⊎ (file ≡ with_byte at byte old))
MayLeave ((Cut at done, bytes) ∷ calls) file = (old : List ℕ) × MayLeave calls old × KeepsFront at old file
MayLeave ((Synced true, bytes) ∷ calls) file = file ≡ seen calls
MayLeave ((Synced false, bytes) ∷ calls) file = MayLeave calls file
MayLeave ((Replaced true, bytes) ∷ calls) file = file ≡ bytes.items
MayLeave ((Replaced false, bytes) ∷ calls) file = MayLeave calls file ⊎ (file ≡ bytes.items)

-- A crash leaves this file and no other.
abbrev pub Only : List Event → List ℕ → Type 0
Only calls file = (c : List ℕ) → MayLeave calls c → c ≡ file

-- Calls were made after those of `old`, up to those of `new`. A crash during each of them, or after it, leaves a file that has `P`.
pub record LeavesOnly (old new : List Event) (P : List ℕ → Type 0) : Type 0 where
  pub made : List Event
  pub grown : new ≡ made ++ old
  pub each : (later earlier : List Event) (file : List ℕ) → made ≡ later ++ earlier → MayLeave (earlier ++ old) file → P file

-- The last call failed.
abbrev pub HasFailed : List Event → Type 0
HasFailed [] = ⊥
HasFailed ((Found, bytes) ∷ calls) = ⊥
HasFailed ((Wrote at done, bytes) ∷ calls) = done ≡ false
HasFailed ((WroteByte at byte done, bytes) ∷ calls) = done ≡ false
HasFailed ((Cut at done, bytes) ∷ calls) = done ≡ false
HasFailed ((Synced done, bytes) ∷ calls) = done ≡ false
HasFailed ((Replaced done, bytes) ∷ calls) = done ≡ false
