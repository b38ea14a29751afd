use Rattle.std.proofs.Common.{◌≡◌, take}
use Rattle.toml.specs.View.{items_view}
use Rattle.cs_config.specs.Printed.{peers_data}
use Rattle.cs_config.proofs.printing.peers_value.Given as goal

abbrev pub invariant-loop-peer : goal.invariant-loop-peer
invariant-loop-peer l = items_view l.tables.items ≡ peers_data (take l.peer-index l.list)
