use Rattle.std.proofs.Common.{ap, ◌∙◌}
use Rattle.std.proofs.lemmas.List.{take_all}
use Rattle.toml.specs.Data.{table, array}
use Rattle.toml.specs.declared.value.Value.{Table}
use Rattle.toml.specs.View.{items_view}
use Rattle.toml.proofs.Views.{view-Table, view-Array}
use Rattle.cs_wallet.specs.Printed.{used_data}
use Rattle.cs_wallet.proofs.Tables.{signed_more}
use Rattle.cs_wallet.proofs.Fits.{fits_at}
use Rattle.cs_wallet.proofs.printing.used_value.Goals as goal

pub signed_table-requires : goal.signed_table-requires
signed_table-requires c = fits_at c.args.used.now c.loop-signed.signed-index _ c.requires c.loop-signed-test.true

pub loop-signed-preserved : goal.loop-signed-preserved
loop-signed-preserved c =
    let made = c.in_ok-signed_table.field-0 in
    ap items_view c.in_ok-push.ensures.items
    ∙ signed_more c.loop-signed.tables.items (Table made) c.args.used.now c.loop-signed.signed-index _ c.loop-signed-test.true c.loop-signed.invariant (view-Table made ∙ ap table c.in_ok-signed_table.ensures)

pub returns : goal.returns
returns c = view-Array c.loop-signed.tables ∙ ap array (c.loop-signed.invariant ∙ ap used_data (take_all c.loop-signed.signed-index c.args.used.now c.loop-signed-test.false))
