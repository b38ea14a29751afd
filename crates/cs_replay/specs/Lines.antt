-- Lines of a dump by what the code has at hand: the numbers of a configuration at once, genesis objects without their
-- names, what is kept of a log.
use Rattle.std.specs.Prelude.{ℕ, List, ◌++◌, length, codes}
use Rattle.std.specs.List.{flat_map}
use Rattle.std.specs.Fmt.{decimal}
use Rattle.cs_base.specs.Codes.{bytes_text}
use Rattle.cs_tx_value.specs.declared.object.Object.{Object}
use Rattle.cs_tx_value.specs.Object.{object_encoding}
use Rattle.cs_replay_rules.specs.Dumps.{dumped_leaf, dumped_head}
use Rattle.cs_replay_play.specs.Logged.{Logged}

abbrev pub settings_text : ℕ → ℕ → ℕ → List ℕ
settings_text shards faulty dummies =
    codes "dump\nshards " ++ (decimal shards ++ (codes "\nfaulty " ++ (decimal faulty
    ++ (codes "\ndummies " ++ (decimal dummies ++ codes "\n")))))

abbrev pub object_line : Object → List ℕ
object_line object = codes "genesis " ++ (bytes_text (object_encoding object) ++ codes "\n")

-- in front of the leaves of a shard
abbrev pub log_line : ℕ → ℕ → List ℕ
log_line shard slots = codes "log " ++ (decimal shard ++ (codes " " ++ (decimal slots ++ codes "\n")))

-- what is kept of the log of a shard
abbrev pub logged_text : ℕ → Logged → List ℕ
logged_text shard kept =
    codes "log " ++ (decimal shard ++ (codes " " ++ (decimal (length kept.leaves) ++ (codes "\n"
    ++ (flat_map dumped_leaf kept.leaves ++ flat_map dumped_head kept.heads)))))
