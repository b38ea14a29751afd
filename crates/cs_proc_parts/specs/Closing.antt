-- How a method ends: its trace comes behind those that it called.
use Rattle.std.specs.Prelude.{ℕ, Bool, ◌&&◌, List, [], ◌∷◌, ◌++◌, Option, Some, if◌then◌else◌, option_and_then}
use Rattle.std.specs.List.{list_all}
use Rattle.cs_base.specs.Lists.{is_empty}
use Rattle.cs_base.specs.Fields.{◌>>=◌ as ◌then◌}
use Rattle.cs_lang.specs.declared.tree.Field.{Field}
use Rattle.cs_lang.specs.declared.tree.Method.{Method}
use Rattle.cs_tx_value.specs.declared.value.Value.{Value}
use Rattle.cs_tx_types.specs.declared.trace.Trace.{Trace}
use Rattle.cs_eval_values.specs.declared.stop.Cause.TheVariants as cause
use Rattle.cs_eval_values.specs.Datums.{plain_of}
use Rattle.cs_eval_values.specs.Namings.{Named, datum_named}
use Rattle.cs_proc_parts.specs.declared.ending.Ending.TheVariants as ending
use Rattle.cs_proc_parts.specs.declared.progress.Front.{Front}
use Rattle.cs_proc_parts.specs.declared.progress.Progress.{Progress}
use Rattle.cs_proc_parts.specs.declared.progress.Doing.{Doing}
use Rattle.cs_proc_parts.specs.Courses.{ProcedureCourse, goes, ends, or_ends, ◌>>=◌}
use Rattle.cs_proc_parts.specs.Creating.{is_filled, all_made}

-- the value of a name
abbrev pub value_named : List Named → List ℕ → Option Value
value_named names name = option_and_then plain_of (datum_named name names)

-- these values, and behind them those of returned fields
abbrev pub values_returned : List Named → List Value → List Field → Option (List Value)
values_returned names vs [] = Some vs
values_returned names vs (f ∷ fs) =
    value_named names f.name.bytes then λ v. values_returned names (vs ++ v ∷ []) fs

-- the trace of a method
abbrev pub trace_of : List ℕ → Method → Front → Doing → List Value → Trace
trace_of contract m front s returns = record {
  contract = contract;
  method = m.name.bytes;
  inputs = front.inputs;
  references = front.references;
  parameters = front.parameters;
  outputs = all_made s.made;
  returns = returns;
  deps = s.deps;
}

-- one trace more
abbrev pub with_trace : Progress → Trace → Progress
with_trace p t = record { inputs = p.inputs; reads = p.reads; traces = p.traces ++ t ∷ [] }

-- no object is left over
abbrev pub is_used_up : Progress → Bool
is_used_up p = is_empty p.inputs && is_empty p.reads

-- a method ends at its closing brace, where its slots for one object have to be filled
abbrev pub closed : List ℕ → Method → Front → Doing → ProcedureCourse Progress
closed contract m front s =
    if list_all is_filled s.made
    then (or_ends (ending.Trap cause.Misfit m.end) (values_returned s.names [] m.returns) >>= λ returns.
    goes (with_trace s.progress (trace_of contract m front s returns)))
    else ends (ending.Unfilled m.end)
