-- The rule `sum`: purses of several kinds are moved, and of no kind is there more or less than before.
use Rattle.std.specs.Prelude.{ℕ, ℤ, Bool, false, ◌&&◌, ◌==◌, bytes_eq, codes, List, [], ◌∷◌, length, map, sum_by, Option, Some, None, if◌then◌else◌}
use Rattle.std.specs.Ordering.{int_eq}
use Rattle.std.specs.List.{list_all}
use Rattle.sha2.specs.Sha256.{sha256}
use Rattle.cs_tx_value.specs.declared.object.Object.{Object}
use Rattle.cs_tx_value.specs.declared.value.Value.{Value, out-Value}
use Rattle.cs_tx_types.specs.declared.trace.Trace.{Trace}
use Rattle.cs_tx.specs.Token.{amount_of_layer}
use Rattle.cs_native.specs.Values.{int_of_layer}
use Rattle.cs_native.specs.declared.sum.Purse.{Purse}

-- the digest of its name; the word before it keeps it apart from texts of contracts
abbrev pub sum_id : List ℕ
sum_id = sha256 (codes "native:sum")

-- ---- purses: an amount, an int of at least 0, and a kind

abbrev pub purse_with : Option ℕ → Option ℤ → Option Purse
purse_with None kind = None
purse_with (Some amount) None = None
purse_with (Some amount) (Some kind) = Some (record { amount = amount; kind = kind })

abbrev pub purse_with_values : List Value → Option Purse
purse_with_values [] = None
purse_with_values (first ∷ []) = None
purse_with_values (first ∷ second ∷ []) =
    purse_with (amount_of_layer (out-Value first)) (int_of_layer (out-Value second))
purse_with_values (first ∷ second ∷ more ∷ values) = None

abbrev pub purse_of : Object → Option Purse
purse_of object = if bytes_eq object.type_name (codes "purse") then purse_with_values object.values else None

-- ---- sums

-- what there is of a kind
abbrev pub amount_in : ℤ → Option Purse → ℕ
amount_in kind None = 0
amount_in kind (Some purse) = if int_eq purse.kind kind then purse.amount else 0

abbrev pub sum_of_kind : ℤ → List Object → ℕ
sum_of_kind kind objects = sum_by (λ object. amount_in kind (purse_of object)) objects

-- of the purse's kind as much is made as is used up; what is no purse isn't moved
abbrev pub is_conserved : List Object → List Object → Option Purse → Bool
is_conserved inputs outputs None = false
is_conserved inputs outputs (Some purse) = sum_of_kind purse.kind inputs == sum_of_kind purse.kind outputs

-- each input and each output is a purse, and its kind is conserved
abbrev pub is_balanced_in_each : List Object → List Object → Bool
is_balanced_in_each inputs outputs =
    let is_moved : Object → Bool = λ object. is_conserved inputs outputs (purse_of object) in
    list_all is_moved inputs && list_all is_moved outputs

-- a move has neither parameters nor returns
abbrev pub is_sum : Trace → Bool
is_sum t =
    bytes_eq t.method (codes "move")
    && (length t.parameters == 0
    && (length t.returns == 0 && is_balanced_in_each (map (λ item. item.1) t.inputs) t.outputs))
