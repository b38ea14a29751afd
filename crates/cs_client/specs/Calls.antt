-- The call of the method, on the objects that are believed.
use Rattle.std.specs.Prelude.{ℕ, List, [], ◌∷◌, Option, Some, None, option_map, option_and_then, Ok}
use Rattle.cs_tx_value.specs.declared.object.Object.{Object}
use Rattle.cs_base.specs.Fields.{whole_at}
use Rattle.cs_tx_types.specs.declared.transaction.Tx.{Tx}
use Rattle.cs_tx_types.specs.Reading.{tx_at}
use Rattle.cs_tx_types.specs.Transaction.{Keyed}
use Rattle.cs_config.specs.declared.call.CallFile.{CallFile}
use Rattle.cs_proc.specs.declared.call.Call.{Call}
use Rattle.cs_proc.specs.Calling.{CallRan, ran}
use Rattle.cs_client.specs.declared.errand.Errand.{Errand}
use Rattle.cs_client.specs.Inputs.{ClientInput}
use Rattle.cs_client.specs.Objects.{believed}

-- these names, each with its object, where each has one
abbrev pub objects_with : List ℕ → Option Object → Option (List Keyed) → Option (List Keyed)
objects_with name (Some object) more = option_map (λ items. (name, object) ∷ items) more
objects_with name None more = None

abbrev pub objects_for : (List ℕ → Option Object) → List (List ℕ) → Option (List Keyed)
objects_for object [] = Some []
objects_for object (name ∷ names) = objects_with name (object name) (objects_for object names)

-- the call on these objects to be used up, and these to be read
abbrev pub call_on : CallFile → List Keyed → List Keyed → Call
call_on call inputs reads = record {
  contract = call.contract;
  method = call.method;
  inputs = inputs;
  reads = reads;
  args = call.args;
}

-- both, where there are both
abbrev pub call_with : CallFile → Option (List Keyed) → Option (List Keyed) → Option Call
call_with call inputs reads = option_and_then (λ i. option_map (λ r. call_on call i r) reads) inputs

-- the call that is made, where all its objects are believed
abbrev pub ready : Errand → List ClientInput → Option Call
ready e inputs =
    let object = believed e.config e.keys inputs in
    call_with e.call (objects_for object e.call.inputs) (objects_for object e.call.reads)

-- the transaction that the call file has in place of a call, if any
abbrev pub given_tx : CallFile → Option Tx
given_tx call = option_and_then (whole_at tx_at) call.transaction

-- it, as it stands; else what the method comes to
abbrev pub unless_given : Option Tx → CallRan → CallRan
unless_given (Some tx) run = Ok tx.traces
unless_given None run = run

abbrev pub ran_with : Errand → Call → CallRan
ran_with e call = unless_given (given_tx e.call) (ran e.book call)
