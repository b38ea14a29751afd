-- Which log of a shard is told.
use Rattle.std.specs.Prelude.{ℕ, Option, Some, None, length, nat_lt, if◌then◌else◌, List}
use Rattle.cs_base.specs.declared.node_id.NodeId.{NodeId}
use Rattle.cs_node_rules.specs.Site.{Site}
use Rattle.cs_node_rules.specs.World.{Happening, view_of}
use Rattle.cs_replay_play.specs.Logged.{Logged, none_logged, logged_of}

-- what is kept of the log of a node, if it doesn't lie
abbrev pub honest_log : {M : Type 0} → Site M → List (Happening M) → NodeId → Option Logged
honest_log {M} site world name =
    if site.net.is_honest name then Some (logged_of (view_of site world name).bench.log) else None

abbrev pub slots_in : Option Logged → ℕ
slots_in None = 0
slots_in (Some kept) = length kept.leaves

-- the longer one, if the later is longer, else the first
abbrev pub longer_found : Option Logged → Option Logged → Option Logged
longer_found first None = first
longer_found first (Some later) = if nat_lt (slots_in first) (length later.leaves) then Some later else first

-- where none was found, nothing was executed
abbrev pub logged_or_empty : Option Logged → Logged
logged_or_empty None = none_logged
logged_or_empty (Some kept) = kept
