-- What calls of the table and the pool make, at the setup of any deployment that the node may be of.
use Rattle.std.specs.Prelude.{◌≡◌, Bool, List, Result, OnOk}
use Rattle.cs_tx_value.specs.declared.object.Object.{Object}
use Rattle.cs_tx_types.specs.declared.transaction.Tx.{Tx}
use Rattle.cs_check_rules.specs.Chain.{Log, kept_of, AtItsLog}
use Rattle.cs_node_state.specs.Setup.{Setup}
use Rattle.cs_node_state.specs.Bench.{Bench}
use Rattle.cs_node_rules.specs.Signs.{Sign}
use Rattle.cs_node_pool.specs.Deployed.{deployed_setup}
use Rattle.cs_sbac.specs.Held.{Held, bench_of}
use Rattle.cs_node.specs.Drafts.{Draft}
use Rattle.cs_node.specs.Steps.{Makes}

-- These signs were made of a bench: what is held then keeps the bench behind them, the configuration and the name.
pub record Leaves (setup : Setup) (held : Held) (signs : List Sign)
    (old : Bench) (held' : Held) (draft draft' : Draft) : Type 0 where
  pub log : Log
  pub kept_is : held'.archived.kept ≡ kept_of log
  pub config_is : held'.config ≡ held.config
  pub me_is : held'.me ≡ held.me
  pub makes : Makes setup held.me signs old (bench_of log held') draft draft'

-- A call with this outcome, unless memory ran out, made the signs that a node with such a judge makes of what it held.
abbrev pub Does : {A E : Type 0} → (Tx → Bool) → Held → Held → Draft → Draft → Result A E
    → (Setup → Bench → List Sign) → Type 0
Does {A} {E} approves held held' draft draft' result signs =
    (genesis : List Object) → AtItsLog held.archived.kept (λ log.
    OnOk result (Leaves (deployed_setup held.config genesis approves) held
    (signs (deployed_setup held.config genesis approves) (bench_of log held)) (bench_of log held) held' draft draft'))
