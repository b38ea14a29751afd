use Rattle.std.proofs.Common.{◌≡◌, ℕ, ◌≤◌, true, false, List, Some, Vec, Global, string_bytes, sym, ap, subst, ◌∙◌}
use Rattle.std.proofs.lemmas.Str.{IsUtf8-string_bytes}
use Rattle.toml.specs.Data.{Members, members_depth, members_have_valid_dates}
use Rattle.toml.specs.Text.{IsDocumentText}
use Rattle.cs_wire.specs.Keys.{Listed}
use Rattle.cs_config.specs.KeyText.{IsKeyFile}
use Rattle.cs_config.specs.Printed.{AllListedFit}
use Rattle.cs_config.proofs.Back.{flat, undated, file_back}
use Rattle.cs_config.proofs.KeyTexts.{listed_text, listed-text}
use Rattle.cs_config.proofs.printing.print_keys.Goals as goal

pub print_table-requires-clause-flat : goal.print_table-requires-clause-flat
print_table-requires-clause-flat c = subst (λ (m : Members). members_depth m ≤ 3) (sym c.in_ok-table.ensures) (flat c.args.me c.as_slice.result.now)

pub print_table-requires-clause-undated : goal.print_table-requires-clause-undated
print_table-requires-clause-undated c = subst (λ (m : Members). members_have_valid_dates m ≡ true) (sym c.in_ok-table.ensures) (undated c.args.me c.as_slice.result.now)

pub returns : goal.returns
returns c =
    let list = c.as_slice.result.now in
    let listed = c.as_slice.ensures in
    let text = c.in_ok-text.text in
    let parsed = c.in_ok-text.ensures.reads_back ∙ ap Some c.in_ok-table.ensures in
    let written = subst (λ (m : Members). IsDocumentText false m (string_bytes text)) c.in_ok-table.ensures c.in_ok-text.ensures.text in
    let whole = file_back c.args.site.now.config c.args.master.now c.args.me list (string_bytes text) c.requires (listed ∙ c.in_ok-list.ensures.is) (subst AllListedFit (sym listed) c.in_ok-list.ensures.fits) (IsUtf8-string_bytes text) parsed in
    let bytes = ap (λ (made : Vec ℕ Global). made.items) c.into_bytes.ensures.value in
    let exact = listed-text c.args.me list (string_bytes text) written ∙ ap (λ (l : List Listed). listed_text c.args.me l) (listed ∙ c.in_ok-list.ensures.is) in
    subst (IsKeyFile c.args.site.now.config c.args.master.now c.args.me) (sym bytes) (record { is = exact; keys = whole })
