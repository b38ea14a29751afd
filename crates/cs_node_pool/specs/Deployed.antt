-- The setup of a deployment, as the pool and the table know it.
use Rattle.std.specs.Prelude.{Bool, List}
use Rattle.cs_base.specs.declared.config.Config.{Config}
use Rattle.cs_tx_value.specs.declared.object.Object.{Object}
use Rattle.cs_tx_types.specs.declared.transaction.Tx.{Tx}
use Rattle.cs_node_state.specs.Setup.{Setup}
use Rattle.cs_node_state.specs.Deployed.{setup_of}
use Rattle.cs_tx.specs.Sessions.{ledger_session}

-- the setup of a deployment with this configuration
abbrev pub deployed_setup : Config → List Object → (Tx → Bool) → Setup
deployed_setup config genesis approves = setup_of config genesis (ledger_session approves)

-- so at every setup of a deployment with this configuration: pool and table look at neither the genesis nor what the
-- checks say
abbrev pub AtEverySetup : Config → (Setup → Type 0) → Type 0
AtEverySetup config Holds = (genesis : List Object) (approves : Tx → Bool) → Holds (deployed_setup config genesis approves)

-- the same where the checks say this
abbrev pub AtAnyGenesis : Config → (Tx → Bool) → (Setup → Type 0) → Type 0
AtAnyGenesis config approves Holds = (genesis : List Object) → Holds (deployed_setup config genesis approves)
