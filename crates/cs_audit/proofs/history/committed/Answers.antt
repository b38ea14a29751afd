use Rattle.std.proofs.Common.{◌≡◌, ◌∙◌, List, Some, [], length, take, filter, get_or, subst, refl}
use Rattle.std.specs.Prelude.{slice_get}
use Rattle.std.proofs.lemmas.Option.{slice_get_read}
use Rattle.cs_node_state.specs.Setup.{Setup}
use Rattle.cs_node_pool.specs.Deployed.{deployed_setup}
use Rattle.cs_audit_dump.specs.declared.dump.Log.{Log}
use Rattle.cs_audit_rules.specs.History.{sessions_in_logs}
use Rattle.cs_audit_rules.specs.Support.{all_logs_commit}
use Rattle.cs_audit.specs.Committed.{FindsTransactions}
use Rattle.cs_audit.proofs.Collecting.{log-more, all-logs}
use Rattle.cs_audit.proofs.history.committed.Goals as goal

pub loop-shard-preserved : goal.loop-shard-preserved
loop-shard-preserved c approves keeps =
    let setup : Setup = deployed_setup c.args.dump.now.config c.args.dump.now.genesis approves in
    let shard = c.loop-shard.shard in
    let logs : List Log = c.as_slice-logs.result.now in
    let log : Log = c.index-logs-shard.result in
    let is : log ≡ get_or logs shard log = c.index-logs-shard.is in
    let here : slice_get c.args.dump.now.logs shard ≡ Some log =
    subst (λ (xs : List Log). slice_get xs shard ≡ Some log) c.as_slice-logs.ensures (slice_get_read logs (length logs) shard log refl c.loop-shard-test.true is) in
    log-more setup c.args.dump.now.logs logs shard log c.add_log.new.found.entries c.loop-shard-test.true is
    (c.in_ok-add_log.ensures c.args.dump.now.genesis approves c.args.dump.now.logs (filter (all_logs_commit setup c.args.dump.now.logs) (sessions_in_logs (take shard logs))) keeps here (c.loop-shard.invariant approves keeps))

pub returns : goal.returns
returns c approves keeps =
    let setup : Setup = deployed_setup c.args.dump.now.config c.args.dump.now.genesis approves in
    let logs : List Log = c.as_slice-logs.result.now in
    subst (λ (xs : List Log). FindsTransactions c.args.dump.now.logs c.loop-shard.found.entries (filter (all_logs_commit setup c.args.dump.now.logs) (sessions_in_logs xs)) [])
    (all-logs logs c.loop-shard.shard c.loop-shard-test.false ∙ c.as_slice-logs.ensures) (c.loop-shard.invariant approves keeps)
