use Rattle.std.proofs.Common.{◌∙◌, ap}
use Rattle.toml.specs.Data.{get_member}
use Rattle.toml.specs.View.{table_view}
use Rattle.cs_transact.proofs.traces.value_at.Goals as goal

pub returns : goal.returns
returns c = c.held_under.ensures ∙ ap (λ key. get_member key (table_view c.args.table.now)) c.name.ensures
