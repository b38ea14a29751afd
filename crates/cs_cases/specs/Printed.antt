-- Values and objects, as the language writes them.
use Rattle.std.specs.Prelude.{ℕ, zero, suc, ◌+◌, Bool, true, false, List, [], ◌∷◌, ◌++◌, codes}
use Rattle.std.specs.Fmt.{signed_decimal}
use Rattle.cs_base.specs.Codes.{bytes_text}
use Rattle.cs_tx_value.specs.declared.value.Value.{Value}
use Rattle.cs_tx_value.specs.declared.value.Value.TheOpen.{Value-F}
use Rattle.cs_tx_value.specs.declared.value.Value.TheFolds.{fold-Value}
use Rattle.cs_tx_value.specs.declared.object.Object.{Object}

abbrev pub truth_text : Bool → List ℕ
truth_text true = codes "true"
truth_text false = codes "false"

-- two small hex digits for each byte
abbrev pub digits_text : List ℕ → List ℕ
digits_text [] = []
digits_text (b ∷ bs) = bytes_text (b ∷ bs)

abbrev pub quoted_text : List ℕ → List ℕ
quoted_text bytes = codes "x\"" ++ (digits_text bytes ++ codes "\"")

-- in front of all but the first
abbrev pub comma_at : ℕ → List ℕ
comma_at zero = []
comma_at (suc place) = codes ", "

abbrev pub comma_row_from : ℕ → List (List ℕ) → List ℕ
comma_row_from place [] = []
comma_row_from place (text ∷ texts) = comma_at place ++ (text ++ comma_row_from (place + 1) texts)

abbrev pub comma_row : List (List ℕ) → List ℕ
comma_row texts = comma_row_from 0 texts

abbrev pub layer_text : Value-F (List ℕ) → List ℕ
layer_text (Value-F.Int n) = signed_decimal n
layer_text (Value-F.Bool b) = truth_text b
layer_text (Value-F.Bytes bytes) = quoted_text bytes
layer_text (Value-F.List items) = codes "[" ++ (comma_row items ++ codes "]")

abbrev pub value_text : Value → List ℕ
value_text = fold-Value (List ℕ) layer_text

abbrev pub each_value : List Value → List (List ℕ)
each_value [] = []
each_value (v ∷ vs) = value_text v ∷ each_value vs

-- values in parentheses
abbrev pub values_text : List Value → List ℕ
values_text vs = codes "(" ++ (comma_row (each_value vs) ++ codes ")")

abbrev pub object_text : Object → List ℕ
object_text o = o.type_name ++ values_text o.values

abbrev pub each_object : List Object → List (List ℕ)
each_object [] = []
each_object (o ∷ os) = object_text o ∷ each_object os

-- objects in parentheses
abbrev pub objects_text : List Object → List ℕ
objects_text os = codes "(" ++ (comma_row (each_object os) ++ codes ")")
