use Rattle.std.proofs.Common.{List, ℕ, [], ◌∷◌, ◌++◌, sym, subst}
use Rattle.cs_tx_types.specs.State.{ReadersFit}
use Rattle.cs_table.proofs.ReaderLists.{first_fits}
use Rattle.cs_table.proofs.readers.first_reader.Goals as goal

pub returns-clause-fits : goal.returns-clause-fits
returns-clause-fits c =
    rw c.in_ok-push.ensures.ok
    (subst (λ (none : List (List ℕ)). ReadersFit (none ++ c.args.session ∷ [])) (sym c.new-readers.ensures) (first_fits c.args.session c.digest_fits.ensures))
