-- What a view says to a check.
use Rattle.std.specs.Prelude.{ℕ, ℤ, Bool, false, ◌&&◌, List, [], ◌∷◌, slice_get, position, Option, None, Some, if◌then◌else◌}
use Rattle.std.specs.Str.{bytes_eq}
use Rattle.cs_lang.specs.declared.tree.TypeDef.{TypeDef}
use Rattle.cs_tx_value.specs.declared.object.Object.{Object}
use Rattle.cs_tx_value.specs.declared.value.Value.{Value, out-Value}
use Rattle.cs_types_kinds.specs.Lookups.{is_type, is_field}
use Rattle.cs_eval_values.specs.declared.stop.Cause.TheVariants as cause
use Rattle.cs_eval_values.specs.declared.view.View.{View}
use Rattle.cs_eval_values.specs.declared.view.Dep.{Dep}
use Rattle.cs_eval_values.specs.Runs.{Run, gives, or_trap, ◌>>=◌}
use Rattle.cs_eval_values.specs.Datums.{Datum, Plain, object_of_datum}
use Rattle.cs_eval_shared.specs.Parts.{int_in}
use Rattle.cs_eval_values.specs.Operators.{int, truth}

-- ---- fields of objects

abbrev pub field_place : List ℕ → Option TypeDef → Option ℕ
field_place name None = None
field_place name (Some t) = position (is_field name) t.fields

abbrev pub field_value : List Value → Option ℕ → Option Value
field_value values None = None
field_value values (Some place) = slice_get values place

abbrev pub type_named : List ℕ → List TypeDef → Option TypeDef
type_named name [] = None
type_named name (t ∷ ts) = if is_type name t then Some t else type_named name ts

-- the value of the field of this name
abbrev pub field_in : List TypeDef → List ℕ → Object → Option Value
field_in types name o = field_value o.values (field_place name (type_named o.type_name types))

abbrev pub field_of : List TypeDef → List ℕ → ℕ → Datum → Run Datum
field_of types name place d =
    or_trap cause.Misfit place (object_of_datum d) >>= λ o.
    or_trap cause.Misfit place (field_in types name o) >>= λ v. gives (Plain v)

-- ---- deps

-- the trace of the dep has this contract and this method
abbrev pub is_call : List ℕ → List ℕ → Option Dep → Bool
is_call contract method None = false
is_call contract method (Some d) = bytes_eq d.contract contract && bytes_eq d.method method

abbrev pub is_called : View → ℕ → List ℕ → Bool
is_called view dep method = is_call view.contract method (slice_get view.deps dep)

abbrev pub returned : Option Dep → ℕ → Option Value
returned None place = None
returned (Some d) place = slice_get d.returns place

abbrev pub int_of_value : Option Value → Option ℤ
int_of_value None = None
int_of_value (Some v) = int_in (out-Value v)

-- the returned int of a dep
abbrev pub returned_int : View → ℕ → ℕ → ℕ → Run Datum
returned_int view dep value place =
    or_trap cause.Dep place (int_of_value (returned (slice_get view.deps dep) value)) >>= λ n. gives (int n)
