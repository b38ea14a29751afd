-- How a method begins: it takes its objects from the front of those that are left.
use Rattle.std.specs.Prelude.{ℕ, zero, suc, ◌-◌, pos, false, List, [], ◌∷◌, map, take, drop, length, Option, Some}
use Rattle.cs_base.specs.Fields.{◌>>=◌}
use Rattle.cs_lang.specs.declared.tree.Field.{Field}
use Rattle.cs_lang.specs.declared.tree.Slot.{Slot}
use Rattle.cs_lang.specs.declared.tree.TypeDef.{TypeDef}
use Rattle.cs_lang.specs.declared.tree.Method.{Method}
use Rattle.cs_tx_value.specs.declared.value.Value.{Value}
use Rattle.cs_tx_value.specs.declared.value.Value.TheVariants as value
use Rattle.cs_tx_types.specs.Transaction.{Keyed}
use Rattle.cs_types_kinds.specs.declared.kind.Base.{Base}
use Rattle.cs_types_kinds.specs.declared.kind.Base.TheVariants as base
use Rattle.cs_types_kinds.specs.declared.kind.Kind.{Kind}
use Rattle.cs_types_kinds.specs.declared.kind.Kind.TheVariants as kind
use Rattle.cs_types_kinds.specs.Kinds.{spelled_kind}
use Rattle.cs_eval_values.specs.Datums.{Plain}
use Rattle.cs_eval_values.specs.Lending.{lent_object}
use Rattle.cs_eval_values.specs.Namings.{Named, with_named}
use Rattle.cs_eval_values.specs.Filling.{Filled, each_filled, fields_filled}
use Rattle.cs_proc_parts.specs.declared.beginning.Begun.{Begun}
use Rattle.cs_proc_parts.specs.declared.progress.Front.{Front}
use Rattle.cs_proc_parts.specs.declared.progress.Opened.{Opened}
use Rattle.cs_proc_parts.specs.declared.progress.Progress.{Progress}
use Rattle.cs_proc_parts.specs.declared.progress.Doing.{Doing}
use Rattle.cs_proc_parts.specs.Creating.{empty_slots}

-- ---- slots

-- the names with those of slots, and how many objects these took
abbrev pub TakenSlots : Type 0
TakenSlots = List Named × ℕ

abbrev pub taken_of : List Keyed → Filled → TakenSlots
taken_of keyed filled = (filled.0, length keyed - length filled.1)

-- slots are filled from the front, each with as many as it takes
abbrev pub taken : List ℕ → List TypeDef → List Slot → List Keyed → List Named → Option TakenSlots
taken contract types slots keyed names = do
  filled ← each_filled contract types slots (names, map lent_object keyed)
  Some (taken_of keyed filled)

-- ---- returned fields

abbrev pub zero_of_base : Base → Value
zero_of_base base.Int = value.Int (pos 0)
zero_of_base base.Bool = value.Bool false
zero_of_base base.Bytes = value.Bytes []

abbrev pub zero_of_lists : Base → ℕ → Value
zero_of_lists b zero = zero_of_base b
zero_of_lists b (suc lists) = value.List []

-- what a returned field begins as: 0, false, no bytes, or the empty list
abbrev pub zero_of : Kind → Value
zero_of (kind.Value b lists) = zero_of_lists b lists
zero_of k = value.List []

abbrev pub field_started : Field → List Named → Option (List Named)
field_started f names = do
  k ← spelled_kind f.kind
  Some (with_named names f.name.bytes k (Plain (zero_of k)))

abbrev pub fields_started : List Field → List Named → Option (List Named)
fields_started [] names = Some names
fields_started (f ∷ fs) names = field_started f names >>= fields_started fs

-- ---- methods

-- what a method begins with, where these arguments and the objects that are left fit it
abbrev pub begun : List ℕ → List TypeDef → Method → List Value → Progress → Option Begun
begun contract types m arguments p = do
  a ← taken contract types m.consumes p.inputs []
  b ← taken contract types m.reads p.reads a.0
  c ← fields_filled m.takes arguments b.0
  d ← fields_started m.returns c
  Some (record { names = d; inputs = a.1; reads = b.1 })

-- what its trace has from the beginning on
abbrev pub front_of : List Value → Progress → Begun → Front
front_of arguments p b =
    record { inputs = take b.inputs p.inputs; references = take b.reads p.reads; parameters = arguments }

-- without the objects that it took
abbrev pub left_behind : Progress → Begun → Progress
left_behind p b = record { inputs = drop b.inputs p.inputs; reads = drop b.reads p.reads; traces = p.traces }

-- its procedure before the first statement
abbrev pub at_start : Method → Progress → Begun → Doing
at_start m p b = record { names = b.names; made = empty_slots m.creates; deps = []; progress = left_behind p b }

abbrev pub opened_method : List ℕ → List TypeDef → Method → List Value → Progress → Option Opened
opened_method contract types m arguments p = do
  b ← begun contract types m arguments p
  Some (record { front = front_of arguments p b; doing = at_start m p b })
