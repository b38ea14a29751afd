use Rattle.std.proofs.Common.{◌≡◌, drop}
use Rattle.toml.specs.View.{items_view}
use Rattle.cs_config.specs.Items.{args_of}
use Rattle.cs_config.proofs.Read.{ahead}
use Rattle.cs_config.proofs.args.+args.Given as goal

abbrev pub invariant-read_args-loop-item : goal.invariant-read_args-loop-item
invariant-read_args-loop-item l = args_of (items_view l.items) ≡ ahead l.found (args_of (items_view (drop l.item-index l.items)))
