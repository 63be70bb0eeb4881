-- What a contract sees of the table behind a handle: its kind, what it contains, and the hash builders of both sides.
use Rattle.std.specs.Prelude.{◌≡◌, ℕ, Option, None, Some, List, [], ◌∷◌}
use Rattle.std.specs.List.{All}
use Rattle.bimap.specs.Holding.{Holding}
use Rattle.bimap.specs.BTree.{holding}
use Rattle.bimap.specs.Hash.{lefts_hashed_by, rights_hashed_by}
use Rattle.bimap.specs.Seeded.{seeded}
use Rattle.bimap.specs.Types.{Seeded}
use Rattle.bimap_c.specs.Bytes.{Kept, kept}
use Rattle.bimap_c.specs.Kinds.{Kinds, map_kinds}
use Rattle.bimap_c.specs.declared.byte_string.ByteString.{ByteString}
use Rattle.bimap_c.specs.declared.c_table.CTable.{CTable}
use Rattle.bimap_c.specs.declared.c_table.CTable.TheVariants.{U64U64, BytesU64, BytesBytes}

-- The pairs and the capacity of a table of numbers, if the table is one.
abbrev pub u64_u64 : Option CTable → Option (Kinds (Holding ℕ ℕ))
u64_u64 (Some (U64U64 map)) = Some (map_kinds holding holding holding map)
u64_u64 table = None

-- What a table of byte strings and numbers keeps, if the table is one.
abbrev pub bytes_u64 : Option CTable → Option (Kinds (Kept ℕ))
bytes_u64 (Some (BytesU64 it)) = Some (map_kinds (kept holding) (kept holding) (kept holding) it)
bytes_u64 table = None

-- What a table of two byte strings keeps, if the table is one.
abbrev pub bytes_bytes : Option CTable → Option (Kinds (Kept ByteString))
bytes_bytes (Some (BytesBytes it)) = Some (map_kinds (kept holding) (kept holding) (kept holding) it)
bytes_bytes table = None

-- The hash builders of both sides of a table of numbers, if the table is one. An ordered table has none.
abbrev pub u64_u64_builders : Option CTable → Option (Kinds (List Seeded))
u64_u64_builders (Some (U64U64 map)) = Some (map_kinds (λ m. []) (λ m. lefts_hashed_by m ∷ rights_hashed_by m ∷ [])
    (λ m. lefts_hashed_by m ∷ rights_hashed_by m ∷ []) map)
u64_u64_builders table = None

-- The same of a table of byte strings and numbers.
abbrev pub bytes_u64_builders : Option CTable → Option (Kinds (List Seeded))
bytes_u64_builders (Some (BytesU64 it)) = Some (map_kinds (λ t. []) (λ t. lefts_hashed_by t.map ∷ rights_hashed_by t.map ∷ [])
    (λ t. lefts_hashed_by t.map ∷ rights_hashed_by t.map ∷ []) it)
bytes_u64_builders table = None

-- The same of a table of two byte strings.
abbrev pub bytes_bytes_builders : Option CTable → Option (Kinds (List Seeded))
bytes_bytes_builders (Some (BytesBytes it)) = Some (map_kinds (λ t. []) (λ t. lefts_hashed_by t.map ∷ rights_hashed_by t.map ∷ [])
    (λ t. lefts_hashed_by t.map ∷ rights_hashed_by t.map ∷ []) it)
bytes_bytes_builders table = None

-- Every hash builder has this seed.
abbrev pub AreSeeded : ℕ → List Seeded → Type 0
AreSeeded seed builders = All (λ builder. builder.initial ≡ seeded seed) builders
