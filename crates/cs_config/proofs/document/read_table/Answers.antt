-- What is no text, and what is the text of a table.
use Rattle.std.proofs.Common.{ap, sym, ◌∙◌, Some}
use Rattle.toml.specs.Parse.{parse_document}
use Rattle.toml.specs.View.{table_view}
use Rattle.cs_config.proofs.Tables.{table_of-no_text, table_of-text}
use Rattle.cs_config.proofs.document.read_table.Goals as goal

pub returns-in_default : goal.returns-in_default
returns-in_default c = table_of-no_text c.args.bytes.now c.in_default.ensures.cases.0

pub returns-in-Ok-table_from_str : goal.returns-in-Ok-table_from_str
returns-in-Ok-table_from_str c =
    let (same, text) = c.in-Ok.ensures.cases in
    table_of-text c.args.bytes.now (Some (table_view c.in-Ok-table_from_str.table)) text (ap parse_document (sym same) ∙ c.in-Ok-table_from_str.ensures.ok)
