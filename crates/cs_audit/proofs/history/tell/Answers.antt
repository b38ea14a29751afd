use Rattle.std.proofs.Common.{◌≡◌, Some, sym}
use Rattle.cs_tx_types.specs.declared.transaction.Tx.{Tx}
use Rattle.cs_tx.specs.Digest.{digest_of_tx}
use Rattle.cs_audit.specs.Committed.{tx_in_logs}
use Rattle.cs_audit.proofs.Telling.{not-found, told-so, leads-on, is_named}
use Rattle.cs_audit.proofs.history.tell.Goals as goal

pub returns-in-None : goal.returns-in-None
returns-in-None c approves sessions plain earlier finds shows =
    not-found c.args.logs.now approves sessions plain earlier c.args.digest.now c.args.found.now.entries finds (sym c.in-None.ensures.value)

pub returns-in-None-tx_at : goal.returns-in-None-tx_at
returns-in-None-tx_at c approves sessions plain earlier finds shows =
    absurd (leads-on c.args.logs.now approves sessions plain earlier c.args.digest.now c.args.found.now.entries finds c.in-Some.place (sym c.in-Some.ensures.value) (sym c.in-None-tx_at.ensures.is))

pub returns : goal.returns
returns c approves sessions plain earlier finds shows =
    let tx : Tx = c.in-Some-tx_at.tx.now in
    let is : tx_in_logs c.args.logs.now c.in-Some.place ≡ Some tx = sym c.in-Some-tx_at.ensures.is in
    let named : c.args.digest.now ≡ digest_of_tx tx = is_named c.args.logs.now approves sessions plain earlier c.args.digest.now c.args.found.now.entries finds c.in-Some.place tx (sym c.in-Some.ensures.value) is in
    told-so c.args.logs.now approves sessions plain earlier c.args.digest.now c.args.found.now.entries finds c.in-Some.place tx (sym c.in-Some.ensures.value) is
    c.swap_remove.new.self.entries c.take.new.self c.in_ok-taken.taken (c.in_ok-taken.ensures.takes approves plain named shows) (c.in_ok-taken.ensures.after approves plain named shows) c.swap_remove.ensures.updates.0
