-- The encodings and limits of traces and transactions.
use Rattle.std.specs.Prelude.{ℕ, ◌<◌, ◌≤◌, List, [], ◌∷◌, ◌++◌, length}
use Rattle.cs_base.specs.declared.limits.TheConstants.{MOST_TX}
use Rattle.cs_base.specs.Fields.{counted}
use Rattle.cs_tx_value.specs.declared.object.Object.{Object}
use Rattle.cs_tx_value.specs.Encoding.{value_encoding, ValueFits, AtMost}
use Rattle.cs_tx_value.specs.Name.{name_encoding, NameFits}
use Rattle.cs_tx_value.specs.Object.{object_encoding, DigestFits, ObjectFits}
use Rattle.cs_tx_types.specs.declared.limits.TheConstants.{MOST_TRACES, MOST_TRACE_OBJECTS, MOST_TRACE_VALUES, MOST_DEPS}
use Rattle.cs_tx_types.specs.declared.trace.Trace.{Trace}
use Rattle.cs_tx_types.specs.declared.transaction.Tx.{Tx}

-- the 32 bytes of an object's key, and the object that is carried under it
abbrev pub Keyed : Type 0
Keyed = List ℕ × Object

abbrev pub keyed_encoding : Keyed → List ℕ
keyed_encoding k = k.0 ++ object_encoding k.1

abbrev pub KeyedFits : Keyed → Type 0
KeyedFits k = DigestFits k.0 × ObjectFits k.1

-- contract, method, inputs and references
abbrev pub trace_front : Trace → List ℕ
trace_front t =
    t.contract ++ (name_encoding t.method ++ (counted keyed_encoding t.inputs ++ counted keyed_encoding t.references))

-- parameters, outputs, returns and deps
abbrev pub trace_back : Trace → List ℕ
trace_back t =
    counted value_encoding t.parameters ++
    (counted object_encoding t.outputs ++ (counted value_encoding t.returns ++ counted (λ n. n ∷ []) t.deps))

abbrev pub trace_encoding : Trace → List ℕ
trace_encoding t = trace_front t ++ trace_back t

abbrev pub tx_of : List Trace → Tx
tx_of traces = record { traces = traces }

pub record TraceFits (t : Trace) : Type 0 where
  pub contract : DigestFits t.contract
  pub method : NameFits t.method
  pub inputs : AtMost MOST_TRACE_OBJECTS KeyedFits t.inputs
  pub references : AtMost MOST_TRACE_OBJECTS KeyedFits t.references
  pub parameters : AtMost MOST_TRACE_VALUES ValueFits t.parameters
  pub outputs : AtMost MOST_TRACE_OBJECTS ObjectFits t.outputs
  pub returns : AtMost MOST_TRACE_VALUES ValueFits t.returns
  pub deps : AtMost MOST_DEPS (λ n. n < 256) t.deps

abbrev pub tx_encoding : Tx → List ℕ
tx_encoding tx = counted trace_encoding tx.traces

pub record TxFits (tx : Tx) : Type 0 where
  pub some : 1 ≤ length tx.traces
  pub traces : AtMost MOST_TRACES TraceFits tx.traces
  pub small : length (tx_encoding tx) ≤ MOST_TX
