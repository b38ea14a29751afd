-- The contract `token`: it moves coins, and makes none.
use Rattle.std.specs.Prelude.{ℕ, ◌+◌, ℤ, pos, negsuc, Bool, false, ◌&&◌, ◌==◌, bytes_eq, codes, List, [], ◌∷◌, length, map, Option, Some, None, if◌then◌else◌}
use Rattle.std.specs.List.{list_all}
use Rattle.sha2.specs.Sha256.{sha256}
use Rattle.cs_tx_value.specs.declared.object.Object.{Object}
use Rattle.cs_tx_value.specs.declared.value.Value.{Value, out-Value}
use Rattle.cs_tx_value.specs.declared.value.Value.TheOpen.{Value-F}
use Rattle.cs_tx_types.specs.declared.trace.Trace.{Trace}
use Rattle.cs_tx_types.specs.declared.transaction.Tx.{Tx}

-- the digest of its text, of five bytes
abbrev pub token_id : List ℕ
token_id = sha256 (codes "token")

-- ---- coins: one value, an int of at least 0

abbrev pub amount_of_int : ℤ → Option ℕ
amount_of_int (pos n) = Some n
amount_of_int (negsuc n) = None

abbrev pub amount_of_layer : Value-F Value → Option ℕ
amount_of_layer (Value-F.Int n) = amount_of_int n
amount_of_layer (Value-F.Bool b) = None
amount_of_layer (Value-F.Bytes bytes) = None
amount_of_layer (Value-F.List items) = None

abbrev pub amount_of : List Value → Option ℕ
amount_of [] = None
amount_of (value ∷ []) = amount_of_layer (out-Value value)
amount_of (value ∷ more ∷ values) = None

abbrev pub amount_of_coin : Object → Option ℕ
amount_of_coin object = if bytes_eq object.type_name (codes "coin") then amount_of object.values else None

-- the sum, and what coins add to it; nothing where one is no coin
abbrev pub added : ℕ → Option ℕ → (ℕ → Option ℕ) → Option ℕ
added sum (Some amount) later = later (sum + amount)
added sum None later = None

abbrev pub sum_from : List Object → ℕ → Option ℕ
sum_from [] sum = Some sum
sum_from (object ∷ objects) sum = added sum (amount_of_coin object) (sum_from objects)

abbrev pub are_equal : Option ℕ → Option ℕ → Bool
are_equal (Some a) (Some b) = a == b
are_equal (Some a) None = false
are_equal None b = false

-- ---- a transfer has neither parameters nor returns, and its inputs and outputs are coins of the same sum

abbrev pub is_balanced : Trace → Bool
is_balanced trace = are_equal (sum_from (map (λ item. item.1) trace.inputs) 0) (sum_from trace.outputs 0)

abbrev pub is_transfer : Trace → Bool
is_transfer trace =
    bytes_eq trace.method (codes "transfer")
    && (length trace.parameters == 0 && (length trace.returns == 0 && is_balanced trace))

-- a trace of another contract isn't approved
abbrev pub is_token_approved : Tx → Bool
is_token_approved tx = list_all (λ trace. bytes_eq trace.contract token_id && is_transfer trace) tx.traces
