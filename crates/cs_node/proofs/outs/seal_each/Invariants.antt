use Rattle.std.proofs.Common.{◌≡◌, ◌++◌, drop}
use Rattle.cs_base.specs.declared.config.Config.{Config}
use Rattle.cs_node_rules.specs.Net.{Net}
use Rattle.cs_node.specs.Notes.{AllSaidFit, AllReached, spoken, outs_for}
use Rattle.cs_node.specs.Speaking.{Speaks}
use Rattle.cs_node.proofs.outs.seal_each.Given as goal

abbrev pub invariant-loop-i : goal.invariant-loop-i
invariant-loop-i l = record {
  left : AllSaidFit (drop l.i l.said);
  sealed : (config : Config) (net : Net) → Speaks config net l.keys → AllReached l.keys (spoken l.said)
      → AllReached l.keys (spoken (drop l.i l.said)) × (l.outs ++ outs_for net l.keys.me (spoken (drop l.i l.said)) ≡ outs_for net l.keys.me (spoken l.said));
}
