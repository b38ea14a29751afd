use Rattle.std.proofs.Common.{◌≡◌, drop}
use Rattle.toml.specs.View.{items_view}
use Rattle.cs_config.specs.Reading.{each_item}
use Rattle.cs_transact.proofs.Read.{ahead}
use Rattle.cs_transact.proofs.items.read_each.Given as goal

abbrev pub invariant-loop-item : goal.invariant-loop-item
invariant-loop-item g l =
    each_item (g.T.Item.said l.contract) (items_view l.items) ≡ ahead l.found (each_item (g.T.Item.said l.contract) (items_view (drop l.item-index l.items)))
