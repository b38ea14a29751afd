use Rattle.std.proofs.Common.{◌≡◌, ◌∙◌, ◌<◌, ◌≤◌, List, Result, length, get_or, ap, subst}
use Rattle.cs_base.specs.declared.config.Config.{Config}
use Rattle.cs_ledger.specs.Ledger.{Bytes}
use Rattle.cs_node_state.specs.Setup.{Setup}
use Rattle.cs_node_pool.specs.Deployed.{deployed_setup}
use Rattle.cs_audit_dump.specs.declared.dump.Log.{Log}
use Rattle.cs_audit_rules.specs.declared.verdict.Fault.{Fault}
use Rattle.cs_audit_rules.specs.Stands.{Stand}
use Rattle.cs_audit.specs.Kept.{TellsLog}
use Rattle.cs_tx.specs.GenesisNames.{genesis_names}
use Rattle.cs_sbac.proofs.Fit.{keyed-fit, all-fit}
use Rattle.cs_sbac.proofs.Apart.{none-twice}
use Rattle.cs_audit.proofs.Starting.{names-same}
use Rattle.cs_audit.proofs.Going.{logs_go_on, logs_break, logs_end}
use Rattle.cs_audit.proofs.logs.execute_logs.Goals as goal

pub new-requires-clause-fits : goal.new-requires-clause-fits
new-requires-clause-fits g c = all-fit c.args.genesis.now (keyed-fit c.args.dump.now.genesis c.args.genesis.now c.requires.named c.requires.formed.objects)

pub new-requires-clause-apart : goal.new-requires-clause-apart
new-requires-clause-apart g c =
    let objects = c.args.dump.now.genesis in
    none-twice c.args.dump.now.config.shards c.loop-place.place objects c.args.genesis.now (genesis_names 0 objects) c.requires.named (names-same 0 objects) c.requires.formed.keys_differ

pub returns-in-Err : goal.returns-in-Err
returns-in-Err g c =
    let approves = g.J.Judge.is_approved c.args.judge.now in
    let genesis = c.args.dump.now.genesis in
    let setup : Setup = deployed_setup c.args.dump.now.config genesis approves in
    let logs : List Log = c.args.dump.now.logs in
    let log : Log = c.log-item.result in
    let place = c.loop-place.place in
    let less : place < length logs = subst (λ (xs : List Log). place < length xs) c.as_slice-log-items.ensures c.loop-place-test.true in
    let is : log ≡ get_or logs place log = c.log-item.is ∙ ap (λ (xs : List Log). get_or xs place log) c.as_slice-log-items.ensures in
    let T : Config × Stand × Result (List Bytes) Fault → Type 0 = λ x. TellsLog (deployed_setup x.0 genesis approves) place log x.1 c.loop-place.votes c.execute_log.new.votes x.2 in
    let tells = subst T (λ i. (c.in_ok-stand.ensures.config i, c.in_ok-stand.ensures.stand genesis approves c.requires.named i, c.in-Err.is i)) (c.in_ok-more.ensures genesis) in
    logs_break setup logs place log c.loop-place.digests c.loop-place.votes c.execute_log.new.votes c.in-Err.fault c.loop-place.invariant less is tells

pub loop-place-preserved : goal.loop-place-preserved
loop-place-preserved g c =
    let approves = g.J.Judge.is_approved c.args.judge.now in
    let genesis = c.args.dump.now.genesis in
    let setup : Setup = deployed_setup c.args.dump.now.config genesis approves in
    let logs : List Log = c.args.dump.now.logs in
    let log : Log = c.log-item.result in
    let place = c.loop-place.place in
    let less : place < length logs = subst (λ (xs : List Log). place < length xs) c.as_slice-log-items.ensures c.loop-place-test.true in
    let is : log ≡ get_or logs place log = c.log-item.is ∙ ap (λ (xs : List Log). get_or xs place log) c.as_slice-log-items.ensures in
    let T : Config × Stand × Result (List Bytes) Fault → Type 0 = λ x. TellsLog (deployed_setup x.0 genesis approves) place log x.1 c.loop-place.votes c.execute_log.new.votes x.2 in
    let tells = subst T (λ i. (c.in_ok-stand.ensures.config i, c.in_ok-stand.ensures.stand genesis approves c.requires.named i, c.in-Ok.is i)) (c.in_ok-more.ensures genesis) in
    logs_go_on setup logs place log c.loop-place.digests c.push.new.self c.in-Ok.more c.loop-place.votes c.execute_log.new.votes c.loop-place.invariant less is tells c.in_ok-push-in-Ok.ensures.ok

pub returns : goal.returns
returns g c =
    let logs : List Log = c.args.dump.now.logs in
    let over : length logs ≤ c.loop-place.place = subst (λ (xs : List Log). length xs ≤ c.loop-place.place) c.as_slice-log-items.ensures c.loop-place-test.false in
    logs_end c.args.dump.now.config c.args.dump.now.genesis (g.J.Judge.is_approved c.args.judge.now) logs c.loop-place.place (record { digests = c.loop-place.digests; votes = c.loop-place.votes }) c.loop-place.invariant over
