-- The limits of traces.
use Rattle.std.specs.Prelude.{◌≡◌, ◌⊎◌, ℕ, ◌+◌, ◌<◌, List, [], ◌∷◌, Option, Some, None}
use Rattle.cs_tx_value.specs.Encoding.{ValueFits, AtMost}
use Rattle.cs_tx_value.specs.Name.{NameFits}
use Rattle.cs_tx_value.specs.Object.{DigestFits, ObjectFits}
use Rattle.cs_tx_types.specs.Transaction.{KeyedFits}
use Rattle.cs_tx_types.specs.declared.limits.TheConstants.{MOST_TRACE_OBJECTS, MOST_TRACE_VALUES, MOST_DEPS}
use Rattle.cs_tx_types.specs.declared.trace.Trace.{Trace}
use Rattle.cs_transact.specs.declared.refusal.Refusal.{Refusal}
use Rattle.cs_transact.specs.declared.refusal.Refusal.TheVariants.{Limit}
use Rattle.cs_transact.specs.declared.refusal.TraceField.{TraceField}
use Rattle.cs_transact.specs.declared.refusal.TraceField.TheVariants as field
use Rattle.cs_transact.specs.declared.refusal.TheConstants.{FIELDS}

-- the field keeps to the limits of traces
abbrev pub FieldFits : TraceField → Trace → Type 0
FieldFits field.Contract t = DigestFits t.contract
FieldFits field.Method t = NameFits t.method
FieldFits field.Inputs t = AtMost MOST_TRACE_OBJECTS KeyedFits t.inputs
FieldFits field.References t = AtMost MOST_TRACE_OBJECTS KeyedFits t.references
FieldFits field.Outputs t = AtMost MOST_TRACE_OBJECTS ObjectFits t.outputs
FieldFits field.Parameters t = AtMost MOST_TRACE_VALUES ValueFits t.parameters
FieldFits field.Returns t = AtMost MOST_TRACE_VALUES ValueFits t.returns
FieldFits field.Deps t = AtMost MOST_DEPS (λ n. n < 256) t.deps

-- this is the first of these fields that doesn't, if there is one
abbrev pub IsFirstPast : Trace → List TraceField → Option TraceField → Type 0
IsFirstPast t [] found = found ≡ None
IsFirstPast t (f ∷ fs) found = ((FieldFits f t → ⊥) × (found ≡ Some f)) ⊎ (FieldFits f t × IsFirstPast t fs found)

-- this is the refusal of the first trace that doesn't keep to its limits, if there is one; the first trace has this number
abbrev pub IsPast : ℕ → List Trace → Option Refusal → Type 0
IsPast number [] found = found ≡ None
IsPast number (t ∷ ts) found =
    ((f : TraceField) × IsFirstPast t FIELDS (Some f) × (found ≡ Some (Limit number f)))
    ⊎ (IsFirstPast t FIELDS None × IsPast (number + 1) ts found)
