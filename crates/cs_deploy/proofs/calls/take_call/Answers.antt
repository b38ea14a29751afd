use Rattle.std.proofs.Common.{List, ℕ, Err, subst}
use Rattle.cs_config.specs.Call.{GivesCall}
use Rattle.cs_deploy.specs.Calls.{CallComes}
use Rattle.cs_deploy.proofs.Steps.{gave, call-absent, call-not}
use Rattle.cs_deploy.proofs.calls.take_call.Goals as goal

pub returns-in_err-bytes-clause-taken : goal.returns-in_err-bytes-clause-taken
returns-in_err-bytes-clause-taken g c =
    let a = g.E.Store.files c.args.store.now in
    let why = c.in_err-bytes.field-0.0 in
    gave (CallComes c.args.name.now) a why c.from_residual.result c.from_residual.ensures.1
    (call-absent c.args.name.now a why c.in_err-bytes.ensures.taken)

pub returns-clause-taken : goal.returns-clause-taken
returns-clause-taken g c =
    call-not c.args.name.now (g.E.Store.files c.args.store.now) c.in_ok-bytes.bytes c.in-Err.error c.unread.result
    c.in_ok-bytes.ensures.taken (subst (λ (bytes : List ℕ). GivesCall (Err c.in-Err.error) bytes) c.as_slice.ensures c.in-Err.ensures.given) c.unread.ensures.told c.unread.ensures.fault
