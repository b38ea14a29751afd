-- The encodings and limits of keys.
use Rattle.std.specs.Prelude.{ℕ, zero, suc, ◌<◌, ◌^◌, List, ◌∷◌, ◌++◌, None}
use Rattle.std.specs.Int.{w16, w64, to_be_bytes}
use Rattle.cs_base.specs.declared.key.Key.{Key}
use Rattle.cs_base.specs.declared.key.Key.TheVariants.{Object, Dummy}
use Rattle.cs_base.specs.Fields.{Found, ◌<$>◌, number_at, bytes_at, pair_at}
use Rattle.cs_tx_value.specs.Kinds.{kinds_at}
use Rattle.cs_tx_value.specs.Object.{DigestFits}

abbrev pub key_encoding : Key → List ℕ
key_encoding (Object digest) = 0 ∷ digest
key_encoding (Dummy shard serial) = 1 ∷ (to_be_bytes w16 shard ++ to_be_bytes w64 serial)

abbrev pub KeyFits : Key → Type 0
KeyFits (Object digest) = DigestFits digest
KeyFits (Dummy shard serial) = (shard < 2 ^ 16) × (serial < 2 ^ 64)

abbrev pub dummy_of : ℕ × ℕ → Key
dummy_of p = Dummy p.0 p.1

abbrev pub key_kind_at : ℕ → List ℕ → Found Key
key_kind_at zero bytes = Object <$> bytes_at 32 bytes
key_kind_at (suc zero) bytes = dummy_of <$> pair_at (number_at w16) (number_at w64) bytes
key_kind_at (suc (suc kind)) bytes = None

abbrev pub key_at : List ℕ → Found Key
key_at = kinds_at key_kind_at
