use Rattle.std.proofs.Common.{◌≡◌, true, false}
use Rattle.cs_ledger.specs.Ledger.{has}
use Rattle.cs_ledger.specs.Table.{has_seat}
use Rattle.cs_table.proofs.ReaderLists.{seated_fit}
use Rattle.cs_table.proofs.readers.with_reader.Goals as goal

pub returns-clause-fits : goal.returns-clause-fits
returns-clause-fits c =
    let none : has c.args.session c.args.readers ≡ false = cc in
    let seat : has_seat c.args.readers ≡ true = cc in
    rw c.in_ok-push.ensures.ok (seated_fit c.args.session c.args.readers c.digest_fits.ensures none seat)
