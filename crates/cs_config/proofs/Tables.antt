-- The table that bytes are.
use Rattle.std.proofs.Common.{◌≡◌, ℕ, List, refl, ap, inl, inr, Option, Result, Err}
use Rattle.std.specs.Str.{IsUtf8, is_utf8}
use Rattle.std.specs.Option.{ok_or}
use Rattle.std.proofs.lemmas.Bool.{cases_Bool}
use Rattle.std.proofs.lemmas.Str.{IsUtf8-from_is_utf8, is_utf8-from_IsUtf8}
use Rattle.toml.specs.Data.{Members}
use Rattle.toml.specs.Parse.{parse_document}
use Rattle.cs_config.specs.Reading.{toml_table_of, ◌>>=◌, GivesTable, FileGives}
use Rattle.cs_config.specs.declared.error.ConfigError.{ConfigError}
use Rattle.cs_config.specs.declared.error.ConfigError.TheVariants.{Toml, Field, Limit, Memory}

pub table_of-no_text : (bytes : List ℕ) → (IsUtf8 bytes → ⊥) → toml_table_of bytes ≡ Err Toml
table_of-no_text bytes none =
    elim (cases_Bool (is_utf8 bytes)) [
      | inl text ↦ absurd (none (IsUtf8-from_is_utf8 bytes text))
      | inr other ↦ rw other refl
    ]

pub table_of-text : (bytes : List ℕ) (found : Option Members) → IsUtf8 bytes → parse_document bytes ≡ found → toml_table_of bytes ≡ ok_or found Toml
table_of-text bytes found text is = rw (is_utf8-from_IsUtf8 bytes text, is) refl

-- bytes that are no table come to nothing
pub table_then : {B : Type 0} (e : ConfigError) (bytes : List ℕ) (f : Members → Result B ConfigError) → GivesTable (Err e) bytes → FileGives {A = B} (Err e) (toml_table_of bytes >>= f)
table_then Toml bytes f is = ap (λ r. r >>= f) is
table_then (Field x) bytes f is = absurd is
table_then (Limit x) bytes f is = absurd is
table_then Memory bytes f is = tt
