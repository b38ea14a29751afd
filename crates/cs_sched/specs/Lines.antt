-- What each line adds to what was read, or why it is refused.
use Rattle.std.specs.Prelude.{ℕ, List, [], ◌∷◌, ◌++◌, length, Result, Ok, Err, if◌then◌else◌}
use Rattle.cs_base.specs.declared.config.Config.{Config}
use Rattle.cs_base.specs.declared.node_id.NodeId.{NodeId}
use Rattle.cs_tx_value.specs.declared.object.Object.{Object}
use Rattle.cs_tx.specs.Digest.{name_of_genesis}
use Rattle.cs_sched.specs.declared.schedule.Event.{Event}
use Rattle.cs_text.specs.Values.{◌>>=◌, no_field, digest_said}
use Rattle.cs_tx.specs.GenesisNames.{is_known}
use Rattle.cs_sched.specs.Said.{shards_said, faulty_said, dummies_said, liar_said, contract_said, object_said}
use Rattle.cs_sched.specs.Events.{event_said}
use Rattle.cs_text.specs.declared.cause.Cause.{Cause}
use Rattle.cs_text.specs.declared.cause.Cause.TheVariants as cause
use Rattle.cs_sched.specs.declared.draft.Draft.{Draft}
use Rattle.cs_sched.specs.declared.draft.Stage.{Stage}
use Rattle.cs_sched.specs.declared.draft.Stage.TheVariants as stage

-- what is added

-- the configuration, of which the next line says more
abbrev pub with_config : Draft → Stage → Config → Draft
with_config draft next config = record draft { stage = next; schedule = record draft.schedule { config = config } }

-- the master, behind which liars can stand
abbrev pub with_master : Draft → List ℕ → Draft
with_master draft master = record draft { stage = stage.Liars; schedule = record draft.schedule { master = master } }

-- one more liar
abbrev pub with_liar : Draft → NodeId → Draft
with_liar draft liar = record draft {
  schedule = record draft.schedule { liars = draft.schedule.liars ++ liar ∷ [] };
}

-- one more contract, behind which no liar can stand
abbrev pub with_contract_text : Draft → List ℕ → Draft
with_contract_text draft text = record draft {
  stage = stage.Contracts;
  schedule = record draft.schedule { contracts = draft.schedule.contracts ++ text ∷ [] };
}

-- one more object and its name, behind which no liar and no contract can stand
abbrev pub with_genesis : Draft → Object → List ℕ → Draft
with_genesis draft object name = record draft {
  stage = stage.Genesis;
  schedule = record draft.schedule { genesis = draft.schedule.genesis ++ object ∷ [] };
  names = draft.names ++ name ∷ [];
}

-- one more event, with the number of its line
abbrev pub with_event : Draft → ℕ → Event → Draft
with_event draft line event = record draft {
  schedule = record draft.schedule { events = draft.schedule.events ++ (line, event) ∷ [] };
}

-- nothing but the next stage
abbrev pub at_stage : Draft → Stage → Draft
at_stage draft next = record draft { stage = next }

-- the lines in their order

abbrev pub shards_line : Draft → List (List ℕ) → Result Draft Cause
shards_line draft fields = do
  config ← shards_said draft.schedule.config fields
  Ok (with_config draft stage.Faulty config)

abbrev pub faulty_line : Draft → List (List ℕ) → Result Draft Cause
faulty_line draft fields = do
  config ← faulty_said draft.schedule.config fields
  Ok (with_config draft stage.Dummies config)

abbrev pub dummies_line : Draft → List (List ℕ) → Result Draft Cause
dummies_line draft fields = do
  config ← dummies_said draft.schedule.config fields
  Ok (with_config draft stage.Master config)

abbrev pub master_line : Draft → List (List ℕ) → Result Draft Cause
master_line draft fields = do
  master ← digest_said fields
  Ok (with_master draft master)

abbrev pub liar_line : Draft → List (List ℕ) → Result Draft Cause
liar_line draft fields = do
  liar ← liar_said draft.schedule fields
  Ok (with_liar draft liar)

abbrev pub contract_line : Draft → List (List ℕ) → Result Draft Cause
contract_line draft fields = do
  text ← contract_said (length draft.schedule.contracts) fields
  Ok (with_contract_text draft text)

-- an object, whose name is its key, unless an earlier one has that key
abbrev pub named_object : Draft → Object → List ℕ → Result Draft Cause
named_object draft object name =
    if is_known name draft.names then Err cause.Key else Ok (with_genesis draft object name)

abbrev pub genesis_line : Draft → List (List ℕ) → Result Draft Cause
genesis_line draft fields = do
  object ← object_said (length draft.schedule.genesis) fields
  named_object draft object (name_of_genesis (length draft.schedule.genesis) object)

abbrev pub run_line : Draft → List (List ℕ) → Result Draft Cause
run_line draft fields = do
  nothing ← no_field fields
  Ok (at_stage draft stage.Events)

abbrev pub event_line : ℕ → Draft → List ℕ → List (List ℕ) → Result Draft Cause
event_line line draft word fields = do
  event ← event_said draft.schedule word fields
  Ok (with_event draft line event)

abbrev pub end_line : Draft → List (List ℕ) → Result Draft Cause
end_line draft fields = do
  nothing ← no_field fields
  Ok (at_stage draft stage.Ended)
