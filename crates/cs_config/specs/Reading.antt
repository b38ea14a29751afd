-- What stands in a file, field by field, or why it is refused.
use Rattle.std.specs.Prelude.{◌≡◌, ℕ, ℤ, pos, negsuc, nat_le, ◌&&◌, List, [], ◌∷◌, length, Option, Some, option_map, option_and_then, String, Result, Ok, Err, if◌then◌else◌}
use Rattle.std.specs.Option.{ok_or}
use Rattle.std.specs.Str.{is_utf8}
use Rattle.std.specs.BTreeMap.{BTreeMap}
use Rattle.std.specs.declared.alloc.Global.{Global}
use Rattle.toml.specs.Data.{Data, Items, no_items, item, Members, get_member, as_array}
use Rattle.toml.specs.Parse.{parse_document}
use Rattle.toml.specs.View.{table_view}
use Rattle.toml.specs.declared.value.Value.{Value}
use Rattle.cs_config.specs.Names.{field_name}
use Rattle.cs_config.specs.declared.error.FileField.{FileField}
use Rattle.cs_config.specs.declared.error.ConfigError.{ConfigError}
use Rattle.cs_config.specs.declared.error.ConfigError.TheVariants.{Toml, Field, Limit, Memory}

-- what a call answered is what stands in the file, unless memory ran out
abbrev pub FileGives : {A : Type 0} → Result A ConfigError → Result A ConfigError → Type 0
FileGives (Ok x) meant = meant ≡ Ok x
FileGives (Err Memory) meant = Unit {0}
FileGives (Err Toml) meant = meant ≡ Err Toml
FileGives (Err (Field field)) meant = meant ≡ Err (Field field)
FileGives (Err (Limit field)) meant = meant ≡ Err (Limit field)

-- a step, and the next one with what it gave; the first refusal decides
infixl 10 ◌>>=◌
abbrev pub ◌>>=◌ : {A B : Type 0} → Result A ConfigError → (A → Result B ConfigError) → Result B ConfigError
(Ok x) >>= f = f x
(Err refusal) >>= f = Err refusal

-- the members of the table that the bytes are
abbrev pub toml_table_of : List ℕ → Result Members ConfigError
toml_table_of bytes = if is_utf8 bytes then ok_or (parse_document bytes) Toml else Err Toml

-- the same of a table that was read
abbrev pub GivesTable : Result (BTreeMap (String Global) Value) ConfigError → List ℕ → Type 0
GivesTable (Ok table) bytes = toml_table_of bytes ≡ Ok (table_view table)
GivesTable (Err Memory) bytes = Unit {0}
GivesTable (Err Toml) bytes = toml_table_of bytes ≡ Err Toml
GivesTable (Err (Field field)) bytes = ⊥
GivesTable (Err (Limit field)) bytes = ⊥

-- what the field holds, if it is there and can be read
abbrev pub one_of : {A : Type 0} → (Data → Option A) → FileField → Members → Result A ConfigError
one_of read field members = ok_or (option_and_then read (get_member (field_name field) members)) (Field field)

-- each item, if all can be read
abbrev pub each_item : {A : Type 0} → (Data → Option A) → Items → Option (List A)
each_item read no_items = Some []
each_item read (item first rest) = option_and_then (λ x. option_map (λ xs. x ∷ xs) (each_item read rest)) (read first)

-- the items of the array that the field holds, if it is one and all can be read
abbrev pub each_of : {A : Type 0} → (Data → Option A) → FileField → Members → Result (List A) ConfigError
each_of read = one_of (λ held. option_and_then (each_item read) (as_array held))

-- a number from the least to the most
abbrev pub number_between : FileField → ℕ → ℕ → ℤ → Result ℕ ConfigError
number_between field least most (pos n) = if nat_le least n && nat_le n most then Ok n else Err (Limit field)
number_between field least most (negsuc n) = Err (Limit field)

-- no more than so many
abbrev pub few_of : {A : Type 0} → FileField → ℕ → List A → Result (List A) ConfigError
few_of field most xs = if nat_le (length xs) most then Ok xs else Err (Limit field)
