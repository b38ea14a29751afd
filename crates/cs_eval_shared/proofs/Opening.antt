-- What a value opens to, by how it is stored.
use Rattle.std.proofs.Common.{◌≡◌, ◌+◌, List, length, sym, ap, ◌∙◌, arith}
use Rattle.cs_base.specs.Fields.{each}
use Rattle.cs_tx_value.specs.declared.value.Value.{Value, out-Value, roll-Value}
use Rattle.cs_tx_value.specs.declared.value.Value.TheVariants as value
use Rattle.cs_tx_value.specs.declared.value.Value.TheVariants.{rolls-List}
use Rattle.cs_tx_value.specs.Encoding.{value_encoding}
use Rattle.cs_tx_value.specs.declared.value.Value.TheOpen.{Value-F}
use Rattle.cs_tx_value.specs.laws.Layers.{out-Int, out-Bool, out-Bytes, out-List, roll-out, encoding_list}
use Rattle.cs_eval_shared.specs.declared.shared.Form.{Form}
use Rattle.cs_eval_shared.specs.declared.shared.Form.TheVariants as form
use Rattle.cs_eval_shared.specs.Forms.{value_of}

abbrev pub layer_in : Form → Value-F Value
layer_in (form.Int n) = Value-F.Int n
layer_in (form.Bool b) = Value-F.Bool b
layer_in (form.Text bytes) = Value-F.Bytes bytes.now
layer_in (form.Bytes bytes) = Value-F.Bytes bytes.value
layer_in (form.List items encoded) = Value-F.List items.value

layered : (f : Form) → out-Value (value_of f) ≡ layer_in f
layered (form.Int n) = out-Int n
layered (form.Bool b) = out-Bool b
layered (form.Text bytes) = out-Bytes bytes.now
layered (form.Bytes bytes) = out-Bytes bytes.value
layered (form.List items encoded) = out-List items.value

-- the layer of a value that is stored so
pub opened : (f g : Form) (v : Value) → f ≡ g → value_of f ≡ v → layer_in g ≡ out-Value v
opened f g v is view = sym (ap layer_in is) ∙ sym (layered f) ∙ ap out-Value view

-- the items of a value that opens to a list are shorter than it is
pub items_shorter : (v : Value) (items : List Value) → Value-F.List items ≡ out-Value v
    → length (each value_encoding items) + 2 ≡ length (value_encoding v)
items_shorter v items is =
    let whole : value.List items ≡ v = sym (rolls-List items) ∙ ap roll-Value is ∙ roll-out v in
    omega (arith, ap (λ (w : Value). length (value_encoding w)) whole, ap length (encoding_list items))
