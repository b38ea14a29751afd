-- The text of a dump: its lines in the order of the format, each of a word and its fields.
use Rattle.std.specs.Prelude.{ℕ, ◌+◌, List, [], ◌∷◌, ◌++◌, length, map, codes}
use Rattle.std.specs.Fmt.{decimal}
use Rattle.cs_base.specs.Fields.{each}
use Rattle.cs_base.specs.declared.config.Config.{Config}
use Rattle.cs_tx_types.specs.declared.leaf.Leaf.{Leaf}
use Rattle.cs_base.specs.declared.version.Version.TheVariants.{One}
use Rattle.cs_tx_types.specs.Log.{leaf_encoding}
use Rattle.cs_text.specs.Printed.{line_text, number_words, bytes_words}
use Rattle.cs_sched.specs.Printed.{contract_lines, genesis_lines}
use Rattle.cs_audit_dump.specs.declared.dump.Dump.{Dump}
use Rattle.cs_audit_dump.specs.declared.dump.Log.{Log}

abbrev pub leaf_words : Leaf → List (List ℕ)
leaf_words leaf = bytes_words (codes "leaf") (leaf_encoding One leaf)

abbrev pub head_words : List ℕ → List (List ℕ)
head_words head = bytes_words (codes "head") head

abbrev pub tx_words : List ℕ → List (List ℕ)
tx_words digest = bytes_words (codes "tx") digest

abbrev pub log_words : ℕ → ℕ → List (List ℕ)
log_words shard slots = codes "log" ∷ decimal shard ∷ decimal slots ∷ []

abbrev pub log_lines : ℕ → Log → List (List (List ℕ))
log_lines shard log = log_words shard (length log.leaves) ∷ (map leaf_words log.leaves ++ map head_words log.heads)

-- of the logs of shards, the first of which has this number
abbrev pub logs_lines : ℕ → List Log → List (List (List ℕ))
logs_lines shard [] = []
logs_lines shard (log ∷ logs) = log_lines shard log ++ logs_lines (shard + 1) logs

abbrev pub config_lines : Config → List (List (List ℕ))
config_lines config =
    number_words (codes "shards") config.shards
    ∷ number_words (codes "faulty") config.f
    ∷ number_words (codes "dummies") config.dummies
    ∷ []

abbrev pub dump_history_lines : List (List ℕ) → List (List (List ℕ))
dump_history_lines history = number_words (codes "history") (length history) ∷ map tx_words history

-- all lines of a dump
abbrev pub dump_lines : Dump → List (List (List ℕ))
dump_lines dump =
    (codes "dump" ∷ []) ∷ (config_lines dump.config
    ++ (contract_lines dump.contracts
    ++ (genesis_lines dump.genesis
    ++ (logs_lines 0 dump.logs
    ++ (dump_history_lines dump.history
    ++ (codes "end" ∷ []) ∷ [])))))

-- its text
abbrev pub printed_dump : Dump → List ℕ
printed_dump dump = each line_text (dump_lines dump)
