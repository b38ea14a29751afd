-- The procedure `transfer` of `token`: it makes a coin for each argument.
use Rattle.std.specs.Prelude.{Bool, true, false, ◌&&◌, bytes_eq, codes, List, [], ◌∷◌, ◌++◌, map, Option, Some, None, if◌then◌else◌}
use Rattle.std.specs.List.{list_all}
use Rattle.cs_tx_value.specs.declared.object.Object.{Object}
use Rattle.cs_tx_value.specs.declared.value.Value.{Value, out-Value}
use Rattle.cs_tx_value.specs.declared.value.Value.TheOpen.{Value-F}
use Rattle.cs_tx_types.specs.declared.trace.Trace.{Trace}
use Rattle.cs_tx.specs.Token.{token_id}
use Rattle.cs_eval_values.specs.Lending.{lent_object}
use Rattle.cs_proc.specs.declared.call.Call.{Call}

abbrev pub is_int : Value-F Value → Bool
is_int (Value-F.Int n) = true
is_int v = false

-- one int, of whatever sign
abbrev pub are_amount : List Value → Bool
are_amount [] = false
are_amount (v ∷ []) = is_int (out-Value v)
are_amount (v ∷ w ∷ vs) = false

abbrev pub is_coin : Object → Bool
is_coin o = bytes_eq o.contract token_id && (bytes_eq o.type_name (codes "coin") && are_amount o.values)

abbrev pub coin_of : Value → Object
coin_of v = record { contract = token_id; type_name = codes "coin"; values = v ∷ [] }

-- the coins before, and one for each argument; nothing where one is no int
abbrev pub coins_made : List Object → List Value → Option (List Object)
coins_made coins [] = Some coins
coins_made coins (v ∷ vs) = if is_int (out-Value v) then coins_made (coins ++ coin_of v ∷ []) vs else None

-- its arguments are no parameters of its trace
abbrev pub trace_with : Call → List Object → Trace
trace_with call coins = record {
  contract = token_id;
  method = codes "transfer";
  inputs = call.inputs;
  references = call.reads;
  parameters = [];
  outputs = coins;
  returns = [];
  deps = [];
}

abbrev pub traced : Call → Option (List Object) → Option (List Trace)
traced call None = None
traced call (Some coins) = Some (trace_with call coins ∷ [])

-- it takes any number of coins, any objects to be read, and any number of ints
abbrev pub transferred : Call → Option (List Trace)
transferred call =
    if list_all is_coin (map lent_object call.inputs) then traced call (coins_made [] call.args) else None
