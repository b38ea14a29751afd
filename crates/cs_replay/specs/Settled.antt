-- The setup of a schedule.
use Rattle.std.specs.Prelude.{◌≡◌}
use Rattle.cs_tx_types.specs.declared.session.Session.{Session}
use Rattle.cs_ledger.specs.Session as Seen
use Rattle.cs_sched.specs.declared.schedule.Schedule.{Schedule}
use Rattle.cs_node_state.specs.Setup.{Setup}
use Rattle.cs_node_state.specs.Deployed.{setup_of}

-- it is that of the schedule's configuration and genesis, whatever its judge
abbrev pub IsSetupOf : Schedule → Setup → Type 0
IsSetupOf schedule setup =
    (session_of : Session → Seen.Session) × (setup ≡ setup_of schedule.config schedule.genesis session_of)
