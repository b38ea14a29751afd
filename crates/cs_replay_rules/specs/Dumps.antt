-- What a replay hands to an auditor: its configuration, a log of each shard with the heads of its checkpoints, and the
-- history.
use Rattle.std.specs.Prelude.{ℕ, zero, suc, ◌+◌, ◌*◌, nat_lt, if◌then◌else◌, List, [], ◌∷◌, ◌++◌, length, codes}
use Rattle.std.specs.List.{flat_map, filter}
use Rattle.std.specs.Fmt.{decimal}
use Rattle.cs_base.specs.declared.node_id.NodeId.{NodeId}
use Rattle.cs_base.specs.NodeId.{members_below}
use Rattle.cs_base.specs.Codes.{bytes_text}
use Rattle.cs_check_rules.specs.Chain.{Log, empty_log, head_of, checkpoint_of}
use Rattle.cs_ledger.specs.Ledger.{Bytes, Item}
use Rattle.cs_node_rules.specs.Site.{Site}
use Rattle.cs_node_rules.specs.World.{Happening, view_of, recorded_history}
use Rattle.cs_replay_rules.specs.Lines.{history_text}

-- ---- the log of one node

abbrev pub dumped_leaf : Bytes → Bytes
dumped_leaf leaf = codes "leaf " ++ (bytes_text leaf ++ codes "\n")

abbrev pub dumped_head : Bytes → Bytes
dumped_head head = codes "head " ++ (bytes_text head ++ codes "\n")

-- the heads of the first checkpoints, so many
abbrev pub heads_below : Log → ℕ → List Bytes
heads_below log zero = []
heads_below log (suc n) = heads_below log n ++ head_of (checkpoint_of log n) ∷ []

abbrev pub log_text : ℕ → Log → Bytes
log_text shard log =
    codes "log " ++ (decimal shard ++ (codes " " ++ (decimal (length log.leaves) ++ (codes "\n"
    ++ (flat_map dumped_leaf log.leaves ++ flat_map dumped_head (heads_below log (length log.table_roots)))))))

-- ---- the log of a shard: the longest of its honest nodes', of equally long ones that of the least index

abbrev pub longer : Log → Log → Log
longer first later = if nat_lt (length first.leaves) (length later.leaves) then later else first

abbrev pub longest : Log → List Log → Log
longest first [] = first
longest first (log ∷ logs) = longest (longer first log) logs

abbrev pub logs_of : {M : Type 0} → Site M → List (Happening M) → List NodeId → List Log
logs_of {M} site world [] = []
logs_of {M} site world (i ∷ names) = (view_of site world i).bench.log ∷ logs_of site world names

abbrev pub shard_log : {M : Type 0} → Site M → List (Happening M) → ℕ → Log
shard_log {M} site world shard =
    longest (empty_log shard) (logs_of site world (filter site.net.is_honest (members_below shard (3 * site.setup.f + 1))))

abbrev pub logs_text : {M : Type 0} → Site M → List (Happening M) → ℕ → Bytes
logs_text {M} site world zero = []
logs_text {M} site world (suc n) = logs_text site world n ++ log_text n (shard_log site world n)

-- ---- the whole

abbrev pub number_line : Bytes → ℕ → Bytes
number_line word n = word ++ (decimal n ++ codes "\n")

abbrev pub dumped_genesis : Item → Bytes
dumped_genesis item = codes "genesis " ++ (bytes_text item.object ++ codes "\n")

abbrev pub dumped_contract : Bytes → Bytes
dumped_contract contract = codes "contract " ++ (bytes_text contract ++ codes "\n")

abbrev pub dump_text : {M : Type 0} → Site M → List Bytes → List (Happening M) → Bytes
dump_text {M} site contracts world =
    codes "dump\n" ++ (number_line (codes "shards ") site.setup.shards
    ++ (number_line (codes "faulty ") site.setup.f
    ++ (number_line (codes "dummies ") site.setup.rules.dummies
    ++ (flat_map dumped_contract contracts ++ (flat_map dumped_genesis site.setup.rules.genesis
    ++ (logs_text site world site.setup.shards ++ (history_text (recorded_history site world) ++ codes "end\n")))))))
