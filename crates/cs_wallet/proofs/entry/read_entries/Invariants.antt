use Rattle.std.proofs.Common.{◌≡◌, drop}
use Rattle.toml.specs.View.{items_view}
use Rattle.cs_config.specs.Reading.{each_item}
use Rattle.cs_wallet.specs.File.{entry_in}
use Rattle.cs_wallet.proofs.Entries.{found_ahead}
use Rattle.cs_wallet.proofs.entry.read_entries.Given as goal

abbrev pub invariant-loop-item : goal.invariant-loop-item
invariant-loop-item l = each_item entry_in (items_view l.items) ≡ found_ahead l.found (each_item entry_in (items_view (drop l.item-index l.items)))
