use Rattle.std.proofs.Common.{◌≡◌, ◌++◌, drop}
use Rattle.cs_base.specs.declared.config.Config.{Config}
use Rattle.cs_node_rules.specs.Net.{Net}
use Rattle.cs_node.specs.Notes.{AllReached, to_each, outs_for}
use Rattle.cs_node.specs.Speaking.{Speaks}
use Rattle.cs_node.proofs.outs.add_outs.Given as goal

abbrev pub invariant-loop-i : goal.invariant-loop-i
invariant-loop-i l = (config : Config) (net : Net) → Speaks config net l.keys → AllReached l.keys (to_each l.to l.message)
    → AllReached l.keys (to_each (drop l.i l.to) l.message)
    × (l.outs ++ outs_for net l.keys.me (to_each (drop l.i l.to) l.message) ≡ l.initial.outs ++ outs_for net l.keys.me (to_each l.to l.message))
