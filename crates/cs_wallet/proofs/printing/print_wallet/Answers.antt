use Rattle.std.proofs.Common.{◌≡◌, ℕ, ◌≤◌, true, List, Some, Ok, Vec, Global, string_bytes, sym, ap, subst, ◌∙◌}
use Rattle.std.proofs.lemmas.Str.{IsUtf8-string_bytes}
use Rattle.toml.specs.Data.{Members, members_depth, members_have_valid_dates}
use Rattle.cs_wallet.specs.File.{wallet_of}
use Rattle.cs_wallet.proofs.Back.{flat, undated, file_back}
use Rattle.cs_wallet.proofs.printing.print_wallet.Goals as goal

pub print_table-requires-clause-flat : goal.print_table-requires-clause-flat
print_table-requires-clause-flat c = subst (λ (m : Members). members_depth m ≤ 3) (sym c.in_ok-table.ensures) (flat c.args.wallet.now)

pub print_table-requires-clause-undated : goal.print_table-requires-clause-undated
print_table-requires-clause-undated c = subst (λ (m : Members). members_have_valid_dates m ≡ true) (sym c.in_ok-table.ensures) (undated c.args.wallet.now)

pub returns : goal.returns
returns c =
    let wallet = c.args.wallet.now in
    let text = c.in_ok-text.text in
    let bytes = ap (λ (made : Vec ℕ Global). made.items) c.into_bytes.ensures.value in
    subst (λ (b : List ℕ). wallet_of b ≡ Ok wallet) (sym bytes) (file_back (string_bytes text) wallet c.requires (IsUtf8-string_bytes text) (c.in_ok-text.ensures ∙ ap Some c.in_ok-table.ensures))
