-- What taking files comes to, one after the other.
use Rattle.std.specs.Prelude.{◌≡◌, ℕ, nat_lt, List, length, Option, Some, None, IfSome, Result, Ok, Err, if◌then◌else◌}
use Rattle.std.specs.Str.{bytes_eq}
use Rattle.cs_io.specs.Store.{Files}
use Rattle.cs_config.specs.declared.error.ConfigError.{ConfigError}
use Rattle.cs_config.specs.declared.error.ConfigError.TheVariants as config
use Rattle.cs_deploy.specs.declared.cause.Cause.{Cause}
use Rattle.cs_deploy.specs.declared.cause.Cause.TheVariants as cause
use Rattle.cs_deploy.specs.declared.cause.Untaken.{Untaken}
use Rattle.cs_deploy.specs.declared.cause.Untaken.TheVariants as untaken
use Rattle.cs_deploy.specs.declared.loading.TheConstants.{MOST_FILE}

-- ---- what it comes to where the store doesn't fail

-- what is taken; or the name of the first file that isn't, and why
abbrev pub Taken : Type 0 → Type 0
Taken A = Result A (List ℕ × Cause)

-- a step, and the next one with what it gave; the first refusal decides
infixl 10 ◌>>=◌
abbrev pub ◌>>=◌ : {A B : Type 0} → Taken A → (A → Taken B) → Taken B
(Ok x) >>= next = next x
(Err refusal) >>= next = Err refusal

-- the content of a file of this name
abbrev pub content_taken : List ℕ → Option (List ℕ) → Taken (List ℕ)
content_taken name None = Err (name, cause.Absent)
content_taken name (Some bytes) = if nat_lt MOST_FILE (length bytes) then Err (name, cause.TooLong) else Ok bytes

abbrev pub bytes_taken : List ℕ → Files → Taken (List ℕ)
bytes_taken name files = content_taken name (files name)

-- why a file isn't taken that can't be read; what stands in it is none of memory
abbrev pub cause_of_config : ConfigError → Cause
cause_of_config config.Toml = cause.Toml
cause_of_config (config.Field f) = cause.Field f
cause_of_config (config.Limit f) = cause.Limit f
cause_of_config config.Memory = cause.Fault

-- what was read of the file of this name
abbrev pub read_as : {A : Type 0} → List ℕ → Result A ConfigError → Taken A
read_as {A} name (Ok x) = Ok x
read_as {A} name (Err error) = Err (name, cause_of_config error)

-- ---- what is answered

-- the store failed
abbrev pub IsStoreFault : Untaken → Type 0
IsStoreFault (untaken.Refused name cause.Fault) = Unit {0}
IsStoreFault (untaken.Refused name c) = ⊥
IsStoreFault untaken.Memory = ⊥

-- the same files, but for that of one name, which isn't there
abbrev pub without_file : List ℕ → Files → Files
without_file name files other = if bytes_eq other name then None else files other

-- The store may fail at the file of this name: were it not there, just this would be told. So it is one of those that
-- are taken, and all before it were.
abbrev pub MayFailAt : {A : Type 0} → (Files → Taken A → Type 0) → Files → List ℕ → Type 0
MayFailAt {A} Come files name = Come (without_file name files) (Err (name, cause.Absent))

-- this is what the files come to; or the store failed at one of them, or memory ran out
abbrev pub IsFileRefusal : {A : Type 0} → (Files → Taken A → Type 0) → Files → Untaken → Type 0
IsFileRefusal {A} Come files (untaken.Refused name cause.Fault) = MayFailAt Come files name
IsFileRefusal {A} Come files (untaken.Refused name c) = Come files (Err (name, c))
IsFileRefusal {A} Come files untaken.Memory = Unit {0}

abbrev pub AnswersTaken : {A : Type 0} → (Files → Taken A → Type 0) → Files → Result A Untaken → Type 0
AnswersTaken {A} Come files (Ok x) = Come files (Ok x)
AnswersTaken {A} Come files (Err why) = IsFileRefusal Come files why

-- what the files come to is answered, where the store tells them
abbrev pub TakesFiles : {A : Type 0} → (Files → Taken A → Type 0) → Option Files → Result A Untaken → Type 0
TakesFiles {A} Come files result = IfSome files (λ told. AnswersTaken Come told result)

-- what the files come to as a function of them
abbrev pub FilesCome : {A : Type 0} → (Files → Taken A) → Files → Taken A → Type 0
FilesCome {A} from files outcome = from files ≡ outcome
