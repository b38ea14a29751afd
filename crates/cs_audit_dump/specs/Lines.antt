-- What each line adds to what was read, or why it is refused.
use Rattle.std.specs.Prelude.{ℕ, ◌-◌, ◌/◌, List, [], ◌∷◌, ◌++◌, length, Result, Ok, Err, if◌then◌else◌}
use Rattle.cs_base.specs.declared.config.Config.{Config}
use Rattle.cs_tx_value.specs.declared.object.Object.{Object}
use Rattle.cs_tx_types.specs.declared.limits.TheConstants.{COVERED}
use Rattle.cs_tx_types.specs.declared.leaf.Leaf.{Leaf}
use Rattle.cs_tx.specs.Digest.{name_of_genesis}
use Rattle.cs_text.specs.Values.{◌>>=◌, no_field, number_said, digest_said}
use Rattle.cs_tx.specs.GenesisNames.{is_known}
use Rattle.cs_sched.specs.Said.{shards_said, faulty_said, dummies_said, contract_said, object_said}
use Rattle.cs_text.specs.declared.cause.Cause.{Cause}
use Rattle.cs_text.specs.declared.cause.Cause.TheVariants as cause
use Rattle.cs_audit_dump.specs.Said.{log_said, leaf_said}
use Rattle.cs_audit_dump.specs.Drafts.{empty_dump_log, is_open}
use Rattle.cs_audit_dump.specs.declared.draft.Draft.{Draft}
use Rattle.cs_audit_dump.specs.declared.draft.Stage.{Stage}
use Rattle.cs_audit_dump.specs.declared.draft.Stage.TheVariants as stage

-- ---- what is added

-- the configuration, of which the next line says more
abbrev pub draft_with_config : Draft → Stage → Config → Draft
draft_with_config draft next config = record draft { stage = next; dump = record draft.dump { config = config } }

-- one more contract
abbrev pub draft_with_contract : Draft → List ℕ → Draft
draft_with_contract draft text = record draft {
  dump = record draft.dump { contracts = draft.dump.contracts ++ text ∷ [] };
}

-- one more object and its name, behind which no contract can stand
abbrev pub draft_with_genesis : Draft → Object → List ℕ → Draft
draft_with_genesis draft object name = record draft {
  stage = stage.Genesis;
  dump = record draft.dump { genesis = draft.dump.genesis ++ object ∷ [] };
  names = draft.names ++ name ∷ [];
}

-- a log goes to the others where all its lines were read
abbrev pub log_settled : Draft → Draft
log_settled draft =
    if is_open draft then draft
    else record draft { dump = record draft.dump { logs = draft.dump.logs ++ draft.log ∷ [] }; log = empty_dump_log }

-- the log of the next shard begins, of so many slots: a leaf for each, and behind them a head for every 16
abbrev pub with_log : Draft → ℕ → Draft
with_log draft slots = log_settled (record draft { stage = stage.Logs; leaves_left = slots; heads_left = slots / COVERED })

-- one more leaf of the log
abbrev pub draft_with_leaf : Draft → Leaf → Draft
draft_with_leaf draft leaf = log_settled (record draft {
  log = record draft.log { leaves = draft.log.leaves ++ leaf ∷ [] };
  leaves_left = draft.leaves_left - 1;
})

-- one more head of the log
abbrev pub draft_with_head : Draft → List ℕ → Draft
draft_with_head draft head = log_settled (record draft {
  log = record draft.log { heads = draft.log.heads ++ head ∷ [] };
  heads_left = draft.heads_left - 1;
})

-- the history begins, of so many transactions
abbrev pub with_history : Draft → ℕ → Draft
with_history draft txs = record draft { stage = stage.History; txs_left = txs }

-- one more transaction
abbrev pub with_tx : Draft → List ℕ → Draft
with_tx draft tx = record draft {
  dump = record draft.dump { history = draft.dump.history ++ tx ∷ [] };
  txs_left = draft.txs_left - 1;
}

-- nothing but the next stage
abbrev pub dump_at_stage : Draft → Stage → Draft
dump_at_stage draft next = record draft { stage = next }

-- ---- the lines in their order

abbrev pub after_shards_line : Draft → List (List ℕ) → Result Draft Cause
after_shards_line draft fields = do
  config ← shards_said draft.dump.config fields
  Ok (draft_with_config draft stage.Faulty config)

abbrev pub after_faulty_line : Draft → List (List ℕ) → Result Draft Cause
after_faulty_line draft fields = do
  config ← faulty_said draft.dump.config fields
  Ok (draft_with_config draft stage.Dummies config)

abbrev pub after_dummies_line : Draft → List (List ℕ) → Result Draft Cause
after_dummies_line draft fields = do
  config ← dummies_said draft.dump.config fields
  Ok (draft_with_config draft stage.Contracts config)

abbrev pub after_contract_line : Draft → List (List ℕ) → Result Draft Cause
after_contract_line draft fields = do
  text ← contract_said (length draft.dump.contracts) fields
  Ok (draft_with_contract draft text)

-- an object, whose name is its key, unless an earlier one has that key
abbrev pub dump_named_object : Draft → Object → List ℕ → Result Draft Cause
dump_named_object draft object name =
    if is_known name draft.names then Err cause.Key else Ok (draft_with_genesis draft object name)

abbrev pub after_genesis_line : Draft → List (List ℕ) → Result Draft Cause
after_genesis_line draft fields = do
  object ← object_said (length draft.dump.genesis) fields
  dump_named_object draft object (name_of_genesis (length draft.dump.genesis) object)

abbrev pub after_log_line : Draft → List (List ℕ) → Result Draft Cause
after_log_line draft fields = do
  slots ← log_said (length draft.dump.logs) fields
  Ok (with_log draft slots)

abbrev pub after_leaf_line : Draft → List (List ℕ) → Result Draft Cause
after_leaf_line draft fields = do
  leaf ← leaf_said fields
  Ok (draft_with_leaf draft leaf)

abbrev pub after_head_line : Draft → List (List ℕ) → Result Draft Cause
after_head_line draft fields = do
  head ← digest_said fields
  Ok (draft_with_head draft head)

abbrev pub history_line : Draft → List (List ℕ) → Result Draft Cause
history_line draft fields = do
  txs ← number_said fields
  Ok (with_history draft txs)

abbrev pub after_tx_line : Draft → List (List ℕ) → Result Draft Cause
after_tx_line draft fields = do
  tx ← digest_said fields
  Ok (with_tx draft tx)

abbrev pub after_end_line : Draft → List (List ℕ) → Result Draft Cause
after_end_line draft fields = do
  nothing ← no_field fields
  Ok (dump_at_stage draft stage.Ended)
