use Rattle.std.proofs.Common.{Ok, Err}
use Rattle.cs_deploy.specs.Calls.{CallComes, ClientComes}
use Rattle.cs_deploy.proofs.Steps.{back, gave}
use Rattle.cs_deploy.proofs.Takes.{client-no-setup, client-no-call, client-ok}
use Rattle.cs_deploy.proofs.calls.take_client.Goals as goal

pub returns-in_err-setup-clause-taken : goal.returns-in_err-setup-clause-taken
returns-in_err-setup-clause-taken g c =
    let a = g.E.Store.files c.args.store.now in
    let why = c.in_err-setup.field-0.0 in
    gave (ClientComes c.args.site_name.now c.args.keys_name.now c.args.call_name.now) a why c.from_residual.result c.from_residual.ensures.1
    (client-no-setup c.args.site_name.now c.args.keys_name.now c.args.call_name.now a why c.in_err-setup.ensures.taken)

pub returns-in_err-call-clause-taken : goal.returns-in_err-call-clause-taken
returns-in_err-call-clause-taken g c =
    let a = g.E.Store.files c.args.store.now in
    let b = g.E.Store.files c.take_setup.new.store in
    let why = c.in_err-call.field-0.0 in
    gave (ClientComes c.args.site_name.now c.args.keys_name.now c.args.call_name.now) a why c.from_residual-in_err-call.result c.from_residual-in_err-call.ensures.1
    (client-no-call c.args.site_name.now c.args.keys_name.now c.args.call_name.now a c.in_ok-setup.setup why c.in_ok-setup.ensures.taken
    (back (CallComes c.args.call_name.now) a b (Err why) c.in_ok-setup.ensures.kept c.in_err-call.ensures.taken))

pub returns-clause-taken : goal.returns-clause-taken
returns-clause-taken g c =
    let a = g.E.Store.files c.args.store.now in
    let b = g.E.Store.files c.take_setup.new.store in
    client-ok c.args.site_name.now c.args.keys_name.now c.args.call_name.now a c.in_ok-setup.setup c.in_ok-call.call c.in_ok-setup.ensures.taken
    (back (CallComes c.args.call_name.now) a b (Ok c.in_ok-call.call) c.in_ok-setup.ensures.kept c.in_ok-call.ensures.taken)
