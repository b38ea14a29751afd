use Rattle.std.proofs.Common.{ap, ◌∙◌}
use Rattle.std.proofs.lemmas.List.{take_all}
use Rattle.toml.specs.Data.{table, array}
use Rattle.toml.specs.declared.value.Value.{Table}
use Rattle.toml.specs.View.{items_view}
use Rattle.toml.proofs.Views.{view-Table, view-Array}
use Rattle.cs_config.specs.Printed.{peers_data}
use Rattle.cs_config.proofs.KeyTables.{peer_more}
use Rattle.cs_config.proofs.printing.peers_value.Goals as goal

pub loop-peer-preserved : goal.loop-peer-preserved
loop-peer-preserved c =
    let made = c.in_ok-peer_table.field-0 in
    ap items_view c.in_ok-push.ensures.items
    ∙ peer_more c.loop-peer.tables.items (Table made) c.args.list.now c.loop-peer.peer-index _ c.loop-peer-test.true c.loop-peer.invariant (view-Table made ∙ ap table c.in_ok-peer_table.ensures)

pub returns : goal.returns
returns c = view-Array c.loop-peer.tables ∙ ap array (c.loop-peer.invariant ∙ ap peers_data (take_all c.loop-peer.peer-index c.args.list.now c.loop-peer-test.false))
