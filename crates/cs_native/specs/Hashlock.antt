-- The rule `hashlock`: an int is locked under a hash, and whoever shows what hashes to it may claim the int.
use Rattle.std.specs.Prelude.{ℕ, ℤ, Bool, false, ◌&&◌, ◌==◌, bytes_eq, codes, List, [], ◌∷◌, length, Option, Some, None, if◌then◌else◌}
use Rattle.std.specs.Ordering.{int_eq}
use Rattle.sha2.specs.Sha256.{sha256}
use Rattle.cs_tx_value.specs.declared.object.Object.{Object}
use Rattle.cs_tx_value.specs.declared.value.Value.{Value, out-Value}
use Rattle.cs_tx_types.specs.declared.trace.Trace.{Trace}
use Rattle.cs_native.specs.Values.{int_of_layer, bytes_of_layer}

-- the digest of its name; the word before it keeps it apart from texts of contracts
abbrev pub hashlock_id : List ℕ
hashlock_id = sha256 (codes "native:hashlock")

-- ---- an `open` object shows one int

abbrev pub int_alone : List Value → Option ℤ
int_alone [] = None
int_alone (value ∷ []) = int_of_layer (out-Value value)
int_alone (value ∷ more ∷ values) = None

abbrev pub int_shown : Object → Option ℤ
int_shown object = if bytes_eq object.type_name (codes "open") then int_alone object.values else None

-- ---- a `lock` object holds an int under a hash

abbrev pub is_hash : List ℕ → Option (List ℕ) → Bool
is_hash hash None = false
is_hash hash (Some bytes) = bytes_eq bytes hash

abbrev pub is_int : ℤ → Option ℤ → Bool
is_int number None = false
is_int number (Some held) = int_eq held number

abbrev pub are_held : List ℕ → ℤ → List Value → Bool
are_held hash number [] = false
are_held hash number (first ∷ []) = false
are_held hash number (first ∷ second ∷ []) =
    is_hash hash (bytes_of_layer (out-Value first)) && is_int number (int_of_layer (out-Value second))
are_held hash number (first ∷ second ∷ more ∷ values) = false

abbrev pub is_locked : List ℕ → ℤ → Object → Bool
is_locked hash number object = bytes_eq object.type_name (codes "lock") && are_held hash number object.values

-- ---- what is shown by one object is held by the other, under a hash

abbrev pub holds_shown : List ℕ → Option ℤ → Object → Bool
holds_shown hash None locked = false
holds_shown hash (Some number) locked = is_locked hash number locked

-- `lock` is given the hash, of 32 bytes, and `claim` what hashes to it
abbrev pub is_step : List ℕ → List ℕ → Object → Object → Bool
is_step method given input output =
    if bytes_eq method (codes "lock") then length given == 32 && holds_shown given (int_shown input) output
    else bytes_eq method (codes "claim") && holds_shown (sha256 given) (int_shown output) input

abbrev pub is_step_with : List ℕ → Option (List ℕ) → Object → Object → Bool
is_step_with method None input output = false
is_step_with method (Some given) input output = is_step method given input output

-- ---- one parameter, one input and one output; and nothing is read, returned or stood on

-- there is one thing, and it passes
abbrev pub is_only : {X : Type 0} → (X → Bool) → List X → Bool
is_only test [] = false
is_only test (x ∷ []) = test x
is_only test (x ∷ more ∷ xs) = false

abbrev pub is_only_step : Trace → Bool
is_only_step t = is_only (λ given. is_only (λ input. is_only (λ output.
    is_step_with t.method (bytes_of_layer (out-Value given)) input.1 output) t.outputs) t.inputs) t.parameters

abbrev pub is_hashlock : Trace → Bool
is_hashlock t = length t.references == 0 && (length t.returns == 0 && (length t.deps == 0 && is_only_step t))
