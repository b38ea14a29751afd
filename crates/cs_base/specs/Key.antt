-- The shard that holds a key, and the bytes that keys are ordered by.
use Rattle.std.specs.Prelude.{ℕ, ◌%◌, ◌^◌, ◌<◌, List, ◌∷◌, ◌++◌, drop}
use Rattle.std.specs.Int.{w16, w32, w64, to_be_bytes, from_be_bytes}
use Rattle.cs_base.specs.declared.key.Key.{Key}
use Rattle.cs_base.specs.declared.key.Key.TheVariants.{Object, Dummy}

-- by the last four bytes, the highest first
abbrev pub shard_of_key : ℕ → Key → ℕ
shard_of_key shards (Object digest) = from_be_bytes w32 (drop 28 digest) % shards
shard_of_key shards (Dummy shard serial) = shard

-- the bytes that a key is encoded by: of an object 0 and its digest, of a dummy 1, its shard and its serial number
abbrev pub key_bytes : Key → List ℕ
key_bytes (Object digest) = 0 ∷ digest
key_bytes (Dummy shard serial) = 1 ∷ (to_be_bytes w16 shard ++ to_be_bytes w64 serial)

-- the numbers of a dummy have 16 and 64 bits
abbrev pub IsInWidth : Key → Type 0
IsInWidth (Object digest) = Unit {0}
IsInWidth (Dummy shard serial) = (shard < 2 ^ 16) × (serial < 2 ^ 64)
