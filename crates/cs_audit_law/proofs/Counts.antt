-- A dump has a line for each leaf and each transaction, and each line a byte at least.
use Rattle.std.proofs.Common.{◌≡◌, inl, inr, ℕ, zero, suc, ◌+◌, ◌<◌, ◌≤◌, List, [], ◌∷◌, ◌++◌, length, map, ap, arith, length-append}
use Rattle.std.specs.Prelude.{codes}
use Rattle.std.proofs.lemmas.Bool.{cases_lt}
use Rattle.std.proofs.lemmas.List.{length-map}
use Rattle.cs_base.specs.Fields.{each}
use Rattle.cs_node_state.specs.Setup.{Setup}
use Rattle.cs_node_rules.specs.World.{Execution}
use Rattle.cs_text.specs.Printed.{line_text}
use Rattle.cs_sched.specs.Printed.{contract_lines, genesis_lines}
use Rattle.cs_audit_dump.specs.declared.dump.Dump.{Dump}
use Rattle.cs_audit_dump.specs.declared.dump.Log.{Log}
use Rattle.cs_audit_dump.specs.Printed.{leaf_words, head_words, tx_words, log_lines, logs_lines, config_lines, dump_history_lines, dump_lines, printed_dump}
use Rattle.cs_audit_law.specs.Dumped.{dumped_leaves, dumped_log, dumped_logs}

some_byte : (line : List (List ℕ)) → 1 ≤ length (line_text line)
some_byte [] = omega arith
some_byte (word ∷ fields) =
    let front = length-append word (each (λ field. 32 ∷ field) fields ++ 10 ∷ []) in
    let last = length-append (each (λ field. 32 ∷ field) fields) (10 ∷ []) in
    omega arith

bytes_enough : (ls : List (List (List ℕ))) → length ls ≤ length (each line_text ls)
bytes_enough [] = omega arith
bytes_enough (line ∷ ls) =
    let all = length-append (line_text line) (each line_text ls) in
    let here = some_byte line in
    let rest = bytes_enough ls in
    omega arith

log_enough : (shard : ℕ) (log : Log) → length log.leaves ≤ length (log_lines shard log)
log_enough shard log =
    let both = length-append (map leaf_words log.leaves) (map head_words log.heads) in
    let leaves = length-map log.leaves leaf_words in
    omega arith

more_lines : (shard : ℕ) (logs : List Log) (log : Log) → length (logs_lines shard logs) + length log.leaves ≤ length (logs_lines shard (logs ++ log ∷ []))
more_lines shard [] log =
    let own = log_enough shard log in
    let none = length-append (log_lines shard log) [] in
    omega arith
more_lines shard (first ∷ logs) log =
    let before = length-append (log_lines shard first) (logs_lines (shard + 1) logs) in
    let after = length-append (log_lines shard first) (logs_lines (shard + 1) (logs ++ log ∷ [])) in
    let rest = more_lines (shard + 1) logs log in
    omega arith

pub leaves_lines : (setup : Setup) (firsts : List Execution) (n shard : ℕ) → shard < n → length (dumped_leaves shard firsts) ≤ length (logs_lines 0 (dumped_logs setup firsts n))
leaves_lines setup firsts zero shard less = absurd (omega arith)
leaves_lines setup firsts (suc n) shard less =
    let more = more_lines 0 (dumped_logs setup firsts n) (dumped_log setup firsts n) in
    elim (cases_lt shard n) [
      | inl below ↦ let before = leaves_lines setup firsts n shard below in omega arith
      | inr not_below ↦
          let at : n ≡ shard = omega arith in
          let same : length (dumped_leaves n firsts) ≡ length (dumped_leaves shard firsts) = ap (λ k. length (dumped_leaves k firsts)) at in
          omega arith
    ]

-- ---- the whole

module _ (dump : Dump) where
  abbrev ended : List (List (List ℕ))
  ended = dump_history_lines dump.history ++ (codes "end" ∷ []) ∷ []

  -- those of the logs and of the history are among all
  lines_enough : length (logs_lines 0 dump.logs) + length dump.history ≤ length (printed_dump dump)
  lines_enough =
      let txs = length-map dump.history tx_words in
      let told = length-append (dump_history_lines dump.history) ((codes "end" ∷ []) ∷ []) in
      let logs = length-append (logs_lines 0 dump.logs) ended in
      let objects = length-append (genesis_lines dump.genesis) (logs_lines 0 dump.logs ++ ended) in
      let contracts = length-append (contract_lines dump.contracts) (genesis_lines dump.genesis ++ (logs_lines 0 dump.logs ++ ended)) in
      let config = length-append (config_lines dump.config) (contract_lines dump.contracts ++ (genesis_lines dump.genesis ++ (logs_lines 0 dump.logs ++ ended))) in
      let all = bytes_enough (dump_lines dump) in
      omega arith

  pub logs_within : (limit : ℕ) → length (printed_dump dump) ≤ limit → length (logs_lines 0 dump.logs) ≤ limit
  logs_within limit small = omega (arith, lines_enough, small)

  pub history_within : (limit : ℕ) → length (printed_dump dump) ≤ limit → length dump.history ≤ limit
  history_within limit small = omega (arith, lines_enough, small)
