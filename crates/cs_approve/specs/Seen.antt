-- What the check of a trace looks at.
use Rattle.std.specs.Prelude.{ℕ, List, [], map, slice_get, Option, Some, None}
use Rattle.cs_tx_types.specs.declared.trace.Trace.{Trace}
use Rattle.cs_eval_values.specs.declared.view.Dep.{Dep}
use Rattle.cs_eval_values.specs.declared.view.View.{View}
use Rattle.cs_eval_values.specs.Lending.{lent_object}

-- A trace as one sees it that stands on it. Where there is none, checks see what they can't tell from a dep that
-- isn't there: it has no method, since no method's name is empty, and returned nothing.
abbrev pub dep_seen : List ℕ → Option Trace → Dep
dep_seen contract None = record { contract = contract; method = []; returns = [] }
dep_seen contract (Some t) = record { contract = t.contract; method = t.method; returns = t.returns }

-- the dep of this number of a trace among these
abbrev pub dep_at : List Trace → Trace → ℕ → Dep
dep_at traces t number = dep_seen t.contract (slice_get traces number)

-- what a trace among these shows to the check of its method
abbrev pub view_of_trace : List Trace → Trace → View
view_of_trace traces t = record {
  contract = t.contract;
  inputs = map lent_object t.inputs;
  reads = map lent_object t.references;
  params = t.parameters;
  outputs = t.outputs;
  returns = t.returns;
  deps = map (dep_at traces t) t.deps;
}
