use Rattle.std.proofs.Common.{◌≡◌, ◌∙◌, subst}
use Rattle.std.proofs.lemmas.Result.{IfOk-weaker}
use Rattle.cs_base.specs.Fields.{IsBytes, whole_at}
use Rattle.cs_tx_types.specs.Entry.{entry_at}
use Rattle.cs_node_rules.specs.Deployment.{entry_read}
use Rattle.cs_node_rules.proofs.Entries.{read-bytes}
use Rattle.cs_node_wire.proofs.proposals.read_entry.Goals as goal

pub returns-clause-found : goal.returns-clause-found
returns-clause-found c =
    let bytes : IsBytes c.args.proposed.now.bytes = subst IsBytes c.as_slice.ensures c.whole.ensures.bytes in
    IfOk-weaker c.whole.result (λ found. found ≡ whole_at (entry_at c.args.version) c.args.proposed.now.bytes) (λ found. found ≡ entry_read c.args.version c.args.proposed.now)
    (λ found is. is ∙ read-bytes c.args.version c.args.proposed.now bytes) (rw c.as_slice.ensures at c.whole.ensures.found)
