use Rattle.std.proofs.Common.{◌≡◌, take}
use Rattle.toml.specs.View.{items_view}
use Rattle.cs_wallet.specs.Printed.{used_data}
use Rattle.cs_wallet.proofs.printing.used_value.Given as goal

abbrev pub invariant-loop-signed : goal.invariant-loop-signed
invariant-loop-signed l = items_view l.tables.items ≡ used_data (take l.signed-index l.used)
