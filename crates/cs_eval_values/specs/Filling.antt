-- Which views fit a method, and the names that they fill.
use Rattle.std.specs.Prelude.{◌≡◌, ℕ, zero, suc, Bool, true, false, ◌&&◌, List, [], ◌∷◌, take, drop, Option, Some, None, if◌then◌else◌}
use Rattle.std.specs.List.{list_all}
use Rattle.std.specs.Str.{bytes_eq}
use Rattle.cs_base.specs.Fields.{◌>>=◌}
use Rattle.cs_lang_token.specs.declared.limits.TheConstants.{MOST_ITEMS}
use Rattle.cs_lang.specs.declared.tree.ValueKind.{ValueKind}
use Rattle.cs_lang.specs.declared.tree.Field.{Field}
use Rattle.cs_lang.specs.declared.tree.Slot.{Slot}
use Rattle.cs_lang.specs.declared.tree.TypeDef.{TypeDef}
use Rattle.cs_lang.specs.declared.tree.Method.{Method}
use Rattle.cs_lang.specs.declared.tree.ContractTree.{ContractTree}
use Rattle.cs_tx_value.specs.declared.object.Object.{Object}
use Rattle.cs_tx_value.specs.declared.value.Value.{Value, out-Value}
use Rattle.cs_tx_value.specs.declared.value.Value.TheOpen.{Value-F}
use Rattle.cs_types_kinds.specs.declared.kind.Base.{Base}
use Rattle.cs_types_kinds.specs.declared.kind.Base.TheVariants as base
use Rattle.cs_types_kinds.specs.declared.kind.Kind.{Kind}
use Rattle.cs_types_kinds.specs.declared.kind.Kind.TheVariants as kind
use Rattle.cs_types_kinds.specs.Kinds.{spelled_kind}
use Rattle.cs_types_kinds.specs.Lookups.{type_number}
use Rattle.cs_eval_values.specs.declared.view.View.{View}
use Rattle.cs_eval_values.specs.Datums.{Datum, Plain, One, Many}
use Rattle.cs_eval_values.specs.Views.{type_named}
use Rattle.cs_eval_values.specs.Namings.{Named, with_named}

-- ---- values of kinds

abbrev pub is_of_base : Base → Value-F Value → Bool
is_of_base base.Int (Value-F.Int n) = true
is_of_base base.Bool (Value-F.Bool b) = true
is_of_base base.Bytes (Value-F.Bytes bytes) = true
is_of_base b v = false

-- each item of a list passes
abbrev pub items_pass : (Value → Bool) → Value-F Value → Bool
items_pass test (Value-F.List items) = list_all test items
items_pass test v = false

-- lists so deep of a base
abbrev pub is_list_of : Base → ℕ → Value → Bool
is_list_of b zero v = is_of_base b (out-Value v)
is_list_of b (suc lists) v = items_pass (is_list_of b lists) (out-Value v)

abbrev pub has_kind : Option Kind → Value → Bool
has_kind (Some (kind.Value b lists)) v = is_list_of b lists v
has_kind k v = false

-- as many values as fields, each of the declared kind
abbrev pub values_fit : List Field → List Value → Bool
values_fit [] [] = true
values_fit [] (v ∷ vs) = false
values_fit (f ∷ fs) [] = false
values_fit (f ∷ fs) (v ∷ vs) = has_kind (spelled_kind f.kind) v && values_fit fs vs

-- ---- objects of slots

abbrev pub fields_fit : Option TypeDef → List Value → Bool
fields_fit None values = false
fields_fit (Some t) values = values_fit t.fields values

-- an object of this contract and this type
abbrev pub object_fits : List ℕ → List TypeDef → List ℕ → Object → Bool
object_fits contract types name o =
    bytes_eq o.contract contract && (bytes_eq o.type_name name && fields_fit (type_named name types) o.values)

-- the names so far, and the objects that are left
abbrev pub Filled : Type 0
Filled = List Named × List Object

-- a slot for any number takes all that are left, up to as many as a list has
abbrev pub many_filled : List ℕ → List TypeDef → Slot → ℕ → Filled → Option Filled
many_filled contract types s number so_far =
    if list_all (object_fits contract types s.object.bytes) (take MOST_ITEMS so_far.1)
    then Some (
      with_named so_far.0 s.name.bytes (kind.Objects number) (Many (take MOST_ITEMS so_far.1)),
      drop MOST_ITEMS so_far.1,
    )
    else None

-- another one takes the next
abbrev pub one_filled : List ℕ → List TypeDef → Slot → ℕ → List Named → List Object → Option Filled
one_filled contract types s number names [] = None
one_filled contract types s number names (o ∷ os) =
    if object_fits contract types s.object.bytes o
    then Some (with_named names s.name.bytes (kind.Object number) (One o), os) else None

abbrev pub slot_filled : List ℕ → List TypeDef → Filled → Slot → Option Filled
slot_filled contract types so_far s = do
  number ← type_number s.object.bytes types
  if s.many then many_filled contract types s number so_far else one_filled contract types s number so_far.0 so_far.1

abbrev pub each_filled : List ℕ → List TypeDef → List Slot → Filled → Option Filled
each_filled contract types [] so_far = Some so_far
each_filled contract types (s ∷ ss) so_far = slot_filled contract types so_far s >>= each_filled contract types ss

-- nothing is left over
abbrev pub all_taken : Filled → Option (List Named)
all_taken (names, []) = Some names
all_taken (names, (o ∷ os)) = None

abbrev pub slots_filled : List ℕ → List TypeDef → List Slot → List Object → List Named → Option (List Named)
slots_filled contract types slots objects names = each_filled contract types slots (names, objects) >>= all_taken

-- ---- fields

abbrev pub field_filled : Field → Value → List Named → Option (List Named)
field_filled f v names = do
  k ← spelled_kind f.kind
  if has_kind (Some k) v then Some (with_named names f.name.bytes k (Plain v)) else None

abbrev pub fields_filled : List Field → List Value → List Named → Option (List Named)
fields_filled [] [] names = Some names
fields_filled [] (v ∷ vs) names = None
fields_filled (f ∷ fs) [] names = None
fields_filled (f ∷ fs) (v ∷ vs) names = field_filled f v names >>= fields_filled fs vs

-- the names of a method, as a view that fits fills them
abbrev pub filled : ContractTree → Method → View → Option (List Named)
filled contract m view = do
  a ← slots_filled view.contract contract.types m.consumes view.inputs []
  b ← slots_filled view.contract contract.types m.reads view.reads a
  c ← fields_filled m.takes view.params b
  d ← slots_filled view.contract contract.types m.creates view.outputs c
  fields_filled m.returns view.returns d

-- ---- what a call answers that fills names

abbrev pub Fills : Bool → List Named → Option (List Named) → Type 0
Fills true names run = run ≡ Some names
Fills false names run = run ≡ None

-- so many of the objects are taken
abbrev pub FillsSlot : Option ℕ → List Object → List Named → Option Filled → Type 0
FillsSlot None objects names run = run ≡ None
FillsSlot (Some taken) objects names run = run ≡ Some (names, drop taken objects)
