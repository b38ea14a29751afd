use Rattle.std.proofs.Common.{◌≡◌, ◌∙◌, true, false, is_some, sym}
use Rattle.cs_node_state.specs.Setup.{Setup}
use Rattle.cs_node_pool.specs.Deployed.{deployed_setup}
use Rattle.cs_audit.proofs.Supporting.{log-told, log-passes, none-left}
use Rattle.cs_audit.proofs.support.first_unsupported.Goals as goal

pub loop-place-preserved : goal.loop-place-preserved
loop-place-preserved c genesis approves keeps =
    let setup : Setup = deployed_setup c.args.dump.now.config genesis approves in
    let none : is_some c.in_ok-found.found ≡ false = sym c.is_some.ensures ∙ c.if-is_some.false in
    sym (log-passes setup c.args.dump.now.logs c.as_slice-logs.result.now c.loop-place.place c.index-logs-place.result c.in_ok-found.found c.loop-place-test.true c.index-logs-place.is none
    (c.in_ok-found.ensures c.args.dump.now.logs genesis approves keeps)) ∙ c.loop-place.invariant genesis approves keeps

pub returns-then-is_some : goal.returns-then-is_some
returns-then-is_some c genesis approves keeps =
    let setup : Setup = deployed_setup c.args.dump.now.config genesis approves in
    let there : is_some c.in_ok-found.found ≡ true = sym c.is_some.ensures ∙ c.if-is_some.true in
    log-told setup c.args.dump.now.logs c.as_slice-logs.result.now c.loop-place.place c.index-logs-place.result c.in_ok-found.found c.loop-place-test.true c.index-logs-place.is there
    (c.in_ok-found.ensures c.args.dump.now.logs genesis approves keeps) ∙ c.loop-place.invariant genesis approves keeps

pub returns : goal.returns
returns c genesis approves keeps =
    let setup : Setup = deployed_setup c.args.dump.now.config genesis approves in
    none-left setup c.args.dump.now.logs c.as_slice-logs.result.now c.loop-place.place c.loop-place-test.false ∙ c.loop-place.invariant genesis approves keeps
