-- Each item of a list has a shorter encoding than the list.
use Rattle.std.specs.Prelude.{◌+◌, ◌≤◌, max, List, [], ◌∷◌, length}
use Rattle.std.proofs.Common.{arith, ap, length-append}
use denote.Param.Weighed.{most}
use Rattle.cs_base.specs.Fields.{each}
use Rattle.cs_tx_value.specs.declared.value.Value.{Value}
use Rattle.cs_tx_value.specs.Encoding.{value_encoding}
use Rattle.cs_tx_value.specs.laws.Layers.{encoding_list}
use Rattle.cs_eval_shared.specs.declared.shared.Form.{Form}
use Rattle.cs_eval_shared.specs.declared.shared.Form.TheVariants as form
use Rattle.cs_eval_shared.specs.declared.shared.Shared.TheDeep.{deep-Form}
use Rattle.cs_eval_shared.specs.Forms.{value_of}

most_within : (items : List Value)
    → most (λ v. length (value_encoding v) + 1) items ≤ length (each value_encoding items) + 1
most_within [] = omega arith
most_within (v ∷ vs) =
    omega (arith, most_within vs, length-append (value_encoding v) (each value_encoding vs))

pub parts_shorter : (f : Form) → max (deep-Form f) 0 ≤ length (value_encoding (value_of f))
parts_shorter (form.Int n) = omega arith
parts_shorter (form.Bool b) = omega arith
parts_shorter (form.Text bytes) = omega arith
parts_shorter (form.Bytes bytes) = omega arith
parts_shorter (form.List items encoded) =
    omega (arith, most_within items.value, ap length (encoding_list items.value))
