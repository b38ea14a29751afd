-- Which lines can stand at each place. The word of a line is tested first.
use Rattle.std.specs.Prelude.{ℕ, nat_lt, List, [], ◌∷◌, length, Result, Ok, Err, codes, if◌then◌else◌}
use Rattle.std.specs.Str.{bytes_eq}
use Rattle.cs_text.specs.declared.cause.Cause.{Cause}
use Rattle.cs_text.specs.declared.cause.Cause.TheVariants as cause
use Rattle.cs_audit_dump.specs.Lines.{after_shards_line, after_faulty_line, after_dummies_line, after_contract_line, after_genesis_line, after_log_line, after_leaf_line, after_head_line, history_line, after_tx_line, after_end_line, dump_at_stage}
use Rattle.cs_audit_dump.specs.declared.draft.Draft.{Draft}
use Rattle.cs_audit_dump.specs.declared.draft.Stage.{Stage}
use Rattle.cs_audit_dump.specs.declared.draft.Stage.TheVariants as stage

-- the log of each shard, and then the history
abbrev pub next_place : Draft → List ℕ → List (List ℕ) → Result Draft Cause
next_place draft word fields =
    if nat_lt (length draft.dump.logs) draft.dump.config.shards
    then (if bytes_eq word (codes "log") then after_log_line draft fields else Err cause.Word)
    else if bytes_eq word (codes "history") then history_line draft fields
    else Err cause.Word

-- leaves, then heads, as many as are left of the log
abbrev pub logs_place : Draft → List ℕ → List (List ℕ) → Result Draft Cause
logs_place draft word fields =
    if nat_lt 0 draft.leaves_left
    then (if bytes_eq word (codes "leaf") then after_leaf_line draft fields else Err cause.Word)
    else if nat_lt 0 draft.heads_left
    then (if bytes_eq word (codes "head") then after_head_line draft fields else Err cause.Word)
    else next_place draft word fields

-- objects, and then the logs
abbrev pub dump_genesis_place : Draft → List ℕ → List (List ℕ) → Result Draft Cause
dump_genesis_place draft word fields =
    if bytes_eq word (codes "genesis") then after_genesis_line draft fields else next_place draft word fields

-- contracts, and then objects
abbrev pub dump_contracts_place : Draft → List ℕ → List (List ℕ) → Result Draft Cause
dump_contracts_place draft word fields =
    if bytes_eq word (codes "contract") then after_contract_line draft fields else dump_genesis_place draft word fields

-- transactions, as many as are left, and then the end
abbrev pub history_place : Draft → List ℕ → List (List ℕ) → Result Draft Cause
history_place draft word fields =
    if nat_lt 0 draft.txs_left
    then (if bytes_eq word (codes "tx") then after_tx_line draft fields else Err cause.Word)
    else if bytes_eq word (codes "end") then after_end_line draft fields
    else Err cause.Word

-- the dump begins with the first line whose only field is `dump`
abbrev pub before_place : Draft → List ℕ → List (List ℕ) → Draft
before_place draft word [] = if bytes_eq word (codes "dump") then dump_at_stage draft stage.Shards else draft
before_place draft word (field ∷ fields) = draft

-- a line of this word and these fields, where it has this place
abbrev pub dump_line_at : Stage → Draft → List ℕ → List (List ℕ) → Result Draft Cause
dump_line_at stage.Before draft word fields = Ok (before_place draft word fields)
dump_line_at stage.Shards draft word fields =
    if bytes_eq word (codes "shards") then after_shards_line draft fields else Err cause.Word
dump_line_at stage.Faulty draft word fields =
    if bytes_eq word (codes "faulty") then after_faulty_line draft fields else Err cause.Word
dump_line_at stage.Dummies draft word fields =
    if bytes_eq word (codes "dummies") then after_dummies_line draft fields else Err cause.Word
dump_line_at stage.Contracts draft word fields = dump_contracts_place draft word fields
dump_line_at stage.Genesis draft word fields = dump_genesis_place draft word fields
dump_line_at stage.Logs draft word fields = logs_place draft word fields
dump_line_at stage.History draft word fields = history_place draft word fields
dump_line_at stage.Ended draft word fields = Err cause.After
