-- The traces that a text says, field by field, or why it is refused.
use Rattle.std.specs.Prelude.{◌≡◌, ℕ, ◌+◌, nat_le, Bool, ◌&&◌, is_some, List, [], ◌∷◌, length, codes, Option, String, Result, Ok, Err, if◌then◌else◌}
use Rattle.std.specs.Option.{ok_or}
use Rattle.std.specs.List.{list_all}
use Rattle.std.specs.Str.{is_utf8}
use Rattle.std.specs.BTreeMap.{BTreeMap}
use Rattle.std.specs.declared.alloc.Global.{Global}
use Rattle.toml.specs.Data.{Data, Items, no_items, item, Members, as_array, as_table}
use Rattle.toml.specs.Parse.{parse_document}
use Rattle.toml.specs.View.{table_view}
use Rattle.toml.specs.declared.value.Value.{Value}
use Rattle.cs_tx_types.specs.declared.limits.TheConstants.{MOST_TRACES}
use Rattle.cs_tx_types.specs.declared.trace.Trace.{Trace}
use Rattle.cs_config.specs.Named.{held_at}
use Rattle.cs_transact.specs.Refusing.{◌>>=◌}
use Rattle.cs_transact.specs.ContractNames.{contract_named}
use Rattle.cs_transact.specs.Items.{each_in, item_values, spelled_name, item_object, item_keyed, item_dep}
use Rattle.cs_transact.specs.Lines.{field_word}
use Rattle.cs_transact.specs.declared.refusal.Refusal.{Refusal}
use Rattle.cs_transact.specs.declared.refusal.Refusal.TheVariants.{Toml, Traces, Many, Field}
use Rattle.cs_transact.specs.declared.refusal.TraceField.{TraceField}
use Rattle.cs_transact.specs.declared.refusal.TraceField.TheVariants as field
use Rattle.cs_transact.specs.declared.refusal.TextError.{TextError}
use Rattle.cs_transact.specs.declared.refusal.TextError.TheVariants.{Refused, Memory}

-- ---- the text

-- the members of the table that the bytes are
abbrev pub document_of : List ℕ → Result Members Refusal
document_of bytes = if is_utf8 bytes then ok_or (parse_document bytes) Toml else Err Toml

-- the same of a table that was read
abbrev pub GivesDocument : Result (BTreeMap (String Global) Value) TextError → List ℕ → Type 0
GivesDocument (Ok table) bytes = document_of bytes ≡ Ok (table_view table)
GivesDocument (Err (Refused refusal)) bytes = document_of bytes ≡ Err refusal
GivesDocument (Err Memory) bytes = Unit {0}

-- ---- one trace

-- what the field of the trace with this number says
abbrev pub said_at : {A : Type 0} → (Data → Option A) → ℕ → TraceField → Members → Result A Refusal
said_at read number f members = ok_or (held_at read (field_word f) members) (Field number f)

-- all its fields, of which the first that can't be read is told
abbrev pub spelled_trace : ℕ → Members → Result Trace Refusal
spelled_trace number members = do
  contract ← said_at contract_named number field.Contract members
  method ← said_at spelled_name number field.Method members
  inputs ← said_at (each_in (item_keyed contract)) number field.Inputs members
  references ← said_at (each_in (item_keyed contract)) number field.References members
  outputs ← said_at (each_in (item_object contract)) number field.Outputs members
  parameters ← said_at item_values number field.Parameters members
  returns ← said_at item_values number field.Returns members
  deps ← said_at (each_in item_dep) number field.Deps members
  Ok (record {
    contract = contract;
    method = method;
    inputs = inputs;
    references = references;
    parameters = parameters;
    outputs = outputs;
    returns = returns;
    deps = deps;
  })

-- ---- all traces

-- the items, in a list
abbrev pub data_listed : Items → List Data
data_listed no_items = []
data_listed (item first rest) = first ∷ data_listed rest

abbrev pub is_table : Data → Bool
is_table held = is_some (as_table held)

-- all of the items, where each is a table
abbrev pub tables_of : List Data → Result (List Data) Refusal
tables_of held = if list_all is_table held then Ok held else Err Traces

-- one to 16 of them
abbrev pub some_tables : List Data → Result (List Data) Refusal
some_tables tables = if nat_le 1 (length tables) && nat_le (length tables) MOST_TRACES then Ok tables else Err Many

abbrev pub trace_in : ℕ → Data → Result Trace Refusal
trace_in number held = do
  members ← ok_or (as_table held) Traces
  spelled_trace number members

-- the traces of these tables, of which the first has this number
abbrev pub traces_from : ℕ → List Data → Result (List Trace) Refusal
traces_from number [] = Ok []
traces_from number (first ∷ later) = do
  trace ← trace_in number first
  traces ← traces_from (number + 1) later
  Ok (trace ∷ traces)

abbrev pub some_traces : List Data → Result (List Trace) Refusal
some_traces held = do
  tables ← some_tables held
  traces_from 0 tables

-- the traces of the items of an array
abbrev pub traces_of_items : Items → Result (List Trace) Refusal
traces_of_items items = do
  tables ← tables_of (data_listed items)
  some_traces tables

abbrev pub traces_in : Members → Result (List Trace) Refusal
traces_in members = do
  items ← ok_or (held_at as_array (codes "traces") members) Traces
  traces_of_items items

-- the traces that a text says, whatever their size
abbrev pub traces_of : List ℕ → Result (List Trace) Refusal
traces_of bytes = do
  members ← document_of bytes
  traces_in members
