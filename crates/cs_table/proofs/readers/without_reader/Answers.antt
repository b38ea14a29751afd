use Rattle.std.proofs.Common.{not, bytes_eq, List, sym, ap, ◌∙◌, subst, rules}
use Rattle.std.specs.List.{filter}
use Rattle.std.proofs.lemmas.Fn.{filter_same}
use Rattle.cs_tx_types.specs.State.{ReadersFit}
use Rattle.cs_ledger.specs.Ledger.{Bytes}
use Rattle.cs_table.proofs.ReaderLists.{without_is, without_fits}
use Rattle.cs_table.proofs.readers.without_reader.Goals as goal

pub returns-clause-now : goal.returns-clause-now
returns-clause-now c =
    c.from_vec.ensures
    ∙ filter_same _ (λ (reader : Bytes). not (bytes_eq c.args.session.now reader)) _ (λ reader kept keep call. search rules) _ _ c.retain.ensures.filtered
    ∙ ap (λ (all : List Bytes). filter (λ reader. not (bytes_eq c.args.session.now reader)) all) c.into_vec-others.ensures
    ∙ without_is c.args.session.now c.args.readers

pub returns-clause-fits : goal.returns-clause-fits
returns-clause-fits c = λ fits some.
    let is = returns-clause-now c in
    subst ReadersFit (sym is) (without_fits c.args.session.now c.args.readers fits (λ none. some (is ∙ none)))
