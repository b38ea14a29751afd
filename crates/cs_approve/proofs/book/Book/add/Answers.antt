use Rattle.std.proofs.Common.{◌≡◌, ◌∙◌, false, is_some, bytes_eq, sym, ap}
use Rattle.indexmap.proofs.CallerLemmas.{insert_entry-new}
use Rattle.cs_approve.specs.Books.{contract_under, with_contract}
use Rattle.cs_approve.proofs.Making.{missing, fresh}
use Rattle.cs_approve.proofs.book.Book.add.Goals as goal

pub returns : goal.returns
returns c =
    let book = c.self.inside.contracts in
    let there : is_some (contract_under c.args.id book.entries) ≡ false = sym c.contains_key.ensures ∙ c.if-contains_key.false in
    c.in_ok-insert.ensures.entries ∙ insert_entry-new bytes_eq book c.args.id c.args.contract (missing (contract_under c.args.id book.entries) there)
    ∙ fresh book.entries c.args.id c.args.contract there
    ∙ ap (λ b. with_contract b c.args.id c.args.contract) c.self.view_is
