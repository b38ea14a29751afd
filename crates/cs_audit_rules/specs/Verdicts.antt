-- What is to be answered to a dump.
use Rattle.std.specs.Prelude.{Bool, List, [], Option, Some, None}
use Rattle.cs_base.specs.Options.{or_else}
use Rattle.cs_tx_types.specs.declared.transaction.Tx.{Tx}
use Rattle.cs_tx.specs.Sessions.{ledger_session}
use Rattle.cs_ledger.specs.Ledger.{Bytes, genesis_ledger}
use Rattle.cs_node_state.specs.Setup.{Setup}
use Rattle.cs_node_state.specs.Deployed.{setup_of}
use Rattle.cs_audit_dump.specs.declared.dump.Dump.{Dump}
use Rattle.cs_audit_rules.specs.declared.verdict.Fault.{Fault}
use Rattle.cs_audit_rules.specs.declared.verdict.Verdict.{Verdict}
use Rattle.cs_audit_rules.specs.declared.verdict.Verdict.TheVariants.{Yes, No}
use Rattle.cs_audit_rules.specs.Slots.{logs_fault}
use Rattle.cs_audit_rules.specs.Support.{support_fault}
use Rattle.cs_audit_rules.specs.History.{transactions, history_fault}

-- what the configuration and the genesis of a dump fix, where these transactions are approved
abbrev pub setup_in : (Tx → Bool) → Dump → Setup
setup_in approves dump = setup_of dump.config dump.genesis (ledger_session approves)

abbrev pub told_fault : Setup → Dump → Option Fault
told_fault setup dump =
    history_fault (transactions setup dump.logs) (genesis_ledger setup.rules.genesis) [] dump.history

-- the first rule that is broken
abbrev pub first_fault : Setup → Dump → Option Fault
first_fault setup dump =
    or_else (logs_fault setup 0 dump.logs)
    (or_else (support_fault setup dump.logs 0 dump.logs) (told_fault setup dump))

abbrev pub verdict_by : List Bytes → Option Fault → Verdict
verdict_by history None = Yes history
verdict_by history (Some fault) = No fault

-- yes with the history, or the first rule that is broken
abbrev pub verdict_of : (Tx → Bool) → Dump → Verdict
verdict_of approves dump = verdict_by dump.history (first_fault (setup_in approves dump) dump)
