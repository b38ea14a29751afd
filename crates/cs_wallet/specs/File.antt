-- A wallet's file: the seed, and each number that has signed with its message.
use Rattle.std.specs.Prelude.{◌≡◌, ℕ, ℤ, pos, negsuc, Bool, true, false, not, ◌&&◌, ◌==◌, nat_le, List, [], ◌∷◌, length, codes, Option, option_map, option_and_then, String, Result, Ok, Err, if◌then◌else◌}
use Rattle.std.specs.Option.{ok_or}
use Rattle.std.specs.Str.{is_utf8}
use Rattle.std.specs.List.{list_any}
use Rattle.toml.specs.Data.{Data, Members, as_integer, as_array, as_table}
use Rattle.std.specs.BTreeMap.{BTreeMap}
use Rattle.std.specs.declared.alloc.Global.{Global}
use Rattle.toml.specs.Parse.{parse_document}
use Rattle.toml.specs.View.{table_view}
use Rattle.toml.specs.declared.value.Value.{Value}
use Rattle.cs_config.specs.Items.{hex_digest}
use Rattle.cs_config.specs.Named.{held_at}
use Rattle.cs_config.specs.Reading.{each_item}
use Rattle.cs_onetime.specs.declared.wallet.Wallet.{Wallet}
use Rattle.cs_onetime.specs.declared.wallet.TheConstants.{MOST_USED}
use Rattle.cs_wallet.specs.declared.error.FileError.{FileError}
use Rattle.cs_wallet.specs.declared.error.FileError.TheVariants.{Toml, Seed, Used, LimitUsed, Memory}
use Rattle.cs_wallet.specs.declared.entry.Entry.{Entry}

-- what a call answered is what stands in the file, unless memory ran out
abbrev pub FileGives : {A : Type 0} → Result A FileError → Result A FileError → Type 0
FileGives (Ok x) meant = meant ≡ Ok x
FileGives (Err Memory) meant = Unit {0}
FileGives (Err Toml) meant = meant ≡ Err Toml
FileGives (Err Seed) meant = meant ≡ Err Seed
FileGives (Err Used) meant = meant ≡ Err Used
FileGives (Err LimitUsed) meant = meant ≡ Err LimitUsed

-- a step, and the next one with what it gave; the first refusal decides
infixl 10 ◌>>=◌
abbrev pub ◌>>=◌ : {A B : Type 0} → Result A FileError → (A → Result B FileError) → Result B FileError
(Ok x) >>= f = f x
(Err refusal) >>= f = Err refusal

-- ---- the fields as they stand there

-- the members of the table that the bytes are
abbrev pub members_of : List ℕ → Result Members FileError
members_of bytes = if is_utf8 bytes then ok_or (parse_document bytes) Toml else Err Toml

-- the same of a table that was read
abbrev pub GivesMembers : Result (BTreeMap (String Global) Value) FileError → List ℕ → Type 0
GivesMembers (Ok table) bytes = members_of bytes ≡ Ok (table_view table)
GivesMembers (Err Memory) bytes = Unit {0}
GivesMembers (Err Toml) bytes = members_of bytes ≡ Err Toml
GivesMembers (Err Seed) bytes = ⊥
GivesMembers (Err Used) bytes = ⊥
GivesMembers (Err LimitUsed) bytes = ⊥

abbrev pub seed_in : Members → Result (List ℕ) FileError
seed_in members = ok_or (held_at hex_digest (codes "seed") members) Seed

-- a table of a number and the message that it has signed
abbrev pub entry_at : Members → Option Entry
entry_at members =
    option_and_then (λ number.
    option_map (λ message. record { number = number; message = message }) (held_at hex_digest (codes "message") members))
    (held_at as_integer (codes "number") members)

abbrev pub entry_in : Data → Option Entry
entry_in held = option_and_then entry_at (as_table held)

abbrev pub all_in : Data → Option (List Entry)
all_in held = option_and_then (each_item entry_in) (as_array held)

-- ---- their ranges

abbrev pub same_integer : ℤ → ℤ → Bool
same_integer (pos m) (pos n) = m == n
same_integer (negsuc m) (negsuc n) = m == n
same_integer (pos m) (negsuc n) = false
same_integer (negsuc m) (pos n) = false

-- one of the entries has the number
abbrev pub stands : ℤ → List Entry → Bool
stands number entries = list_any (λ entry. same_integer entry.number number) entries

-- no number stands twice
abbrev pub are_apart : List Entry → Bool
are_apart [] = true
are_apart (entry ∷ later) = not (stands entry.number later) && are_apart later

abbrev pub entries_in : Members → Result (List Entry) FileError
entries_in members = do
  entries ← ok_or (held_at all_in (codes "used") members) Used
  if are_apart entries then Ok entries else Err Used

-- a number without a sign
abbrev pub number_of : ℤ → Result ℕ FileError
number_of (pos n) = Ok n
number_of (negsuc n) = Err LimitUsed

abbrev pub signed_in : Entry → Result (ℕ × List ℕ) FileError
signed_in entry = do
  number ← number_of entry.number
  Ok (number, entry.message)

abbrev pub numbered : List Entry → Result (List (ℕ × List ℕ)) FileError
numbered [] = Ok []
numbered (entry ∷ entries) = do
  signed ← signed_in entry
  others ← numbered entries
  Ok (signed ∷ others)

-- no more than so many, each without a sign
abbrev pub used_of : List Entry → Result (List (ℕ × List ℕ)) FileError
used_of entries = if nat_le (length entries) MOST_USED then numbered entries else Err LimitUsed

-- ---- the file

-- what a wallet's file says, or why it is refused
abbrev pub wallet_of : List ℕ → Result Wallet FileError
wallet_of bytes = do
  members ← members_of bytes
  seed ← seed_in members
  entries ← entries_in members
  used ← used_of entries
  Ok (record { seed = seed; used = used })
