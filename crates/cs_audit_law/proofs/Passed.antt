-- A dump of the logs and the history of steps breaks no rule.
use Rattle.std.proofs.Common.{◌≡◌, List, [], None, sym, subst}
use Rattle.cs_ledger.specs.Ledger.{Bytes, genesis_ledger}
use Rattle.cs_node_state.specs.Setup.{Setup}
use Rattle.cs_node_rules.specs.World.{Execution}
use Rattle.cs_audit_dump.specs.declared.dump.Dump.{Dump}
use Rattle.cs_audit_dump.specs.declared.dump.Log.{Log}
use Rattle.cs_audit_rules.specs.Slots.{logs_fault}
use Rattle.cs_audit_rules.specs.Support.{support_fault}
use Rattle.cs_audit_rules.specs.History.{transactions, history_fault}
use Rattle.cs_audit_rules.specs.Verdicts.{told_fault, first_fault}
use Rattle.cs_base.specs.Options.{or_else}
use Rattle.cs_audit_law.specs.Dumped.{dumped_logs}
use Rattle.cs_audit_law.specs.Passing.{AreSteps, AreWithin, told_digests}
use Rattle.cs_audit_law.proofs.Behind.{none_of}
use Rattle.cs_audit_law.proofs.Unbroken.{logs_unbroken}
use Rattle.cs_audit_law.proofs.Backed.{logs_backed}
use Rattle.cs_audit_law.proofs.Listed.{history_unbroken}

-- of a dump with these logs and this history
pub passes : (setup : Setup) (dump : Dump) (logs : List Log) (history : List Bytes) → dump.logs ≡ logs → dump.history ≡ history
    → logs_fault setup 0 logs ≡ None → support_fault setup logs 0 logs ≡ None
    → history_fault (transactions setup logs) (genesis_ledger setup.rules.genesis) [] history ≡ None → first_fault setup dump ≡ None
passes setup dump logs history logs_are history_is slots support told =
    let slots_here = subst (λ (ls : List Log). logs_fault setup 0 ls ≡ None) (sym logs_are) slots in
    let support_here = subst (λ (ls : List Log). support_fault setup ls 0 ls ≡ None) (sym logs_are) support in
    let told_logs = subst (λ (ls : List Log). history_fault (transactions setup ls) (genesis_ledger setup.rules.genesis) [] history ≡ None) (sym logs_are) told in
    let told_here = subst (λ (ds : List Bytes). history_fault (transactions setup dump.logs) (genesis_ledger setup.rules.genesis) [] ds ≡ None) (sym history_is) told_logs in
    none_of (logs_fault setup 0 dump.logs) (or_else (support_fault setup dump.logs 0 dump.logs) (told_fault setup dump)) slots_here
    (none_of (support_fault setup dump.logs 0 dump.logs) (told_fault setup dump) support_here told_here)

pub steps_pass : (setup : Setup) → AreWithin setup → (firsts : List Execution) → AreSteps setup firsts → (dump : Dump)
    → dump.logs ≡ dumped_logs setup firsts setup.shards → dump.history ≡ told_digests setup firsts → first_fault setup dump ≡ None
steps_pass setup within firsts are dump logs_are history_is =
    passes setup dump (dumped_logs setup firsts setup.shards) (told_digests setup firsts) logs_are history_is
    (logs_unbroken setup firsts are setup.shards) (logs_backed setup within firsts are) (history_unbroken setup within firsts are)
