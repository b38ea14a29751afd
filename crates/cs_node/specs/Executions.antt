-- What the execution of an action makes, and that of several, one after the other.
use Rattle.std.specs.Prelude.{◌≡◌, ℕ, ◌<◌, Bool, List, length, Option, Result, IfOk}
use Rattle.cs_tx_value.specs.declared.object.Object.{Object}
use Rattle.cs_tx_types.specs.declared.transaction.Tx.{Tx}
use Rattle.cs_tx_types.specs.declared.action.Action.{Action}
use Rattle.cs_tx_types.specs.declared.checkpoint.Checkpoint.{Checkpoint}
use Rattle.cs_tx_types.specs.Session.{session_in}
use Rattle.cs_check_rules.specs.Chain.{made_last, AtItsLog}
use Rattle.cs_node_state.specs.Setup.{Setup}
use Rattle.cs_node_state.specs.Bench.{Bench, executed}
use Rattle.cs_node_rules.specs.Signs.{ran_signs, actions_signs}
use Rattle.cs_node_pool.specs.Deployed.{deployed_setup}
use Rattle.cs_sbac.specs.Held.{Held, bench_of}
use Rattle.cs_node.specs.Drafts.{Draft}
use Rattle.cs_node.specs.Signing.{Leaves}

-- the signs of an action were made of a bench, and the last checkpoint of the log is this
pub record RanOne (setup : Setup) (held : Held) (b : Bench) (held' : Held) (draft draft' : Draft)
    (slot place : ℕ) (action : Action) (made : Option Checkpoint) : Type 0 where
  pub leaves : Leaves setup held
      (ran_signs setup held.me b slot place action (session_in action) (executed setup held.me.shard b action))
      b held' draft draft'
  pub made_is : made ≡ made_last leaves.log

-- the same of the first actions of a slot
pub record RanSome (setup : Setup) (held : Held) (b : Bench) (held' : Held) (draft draft' : Draft)
    (slot : ℕ) (actions : List Action) (made : Option Checkpoint) : Type 0 where
  pub leaves : Leaves setup held (actions_signs setup held.me b slot 0 actions) b held' draft draft'
  pub made_is : 0 < length actions → made ≡ made_last leaves.log

-- the execution of an action with this outcome, unless memory ran out, at any genesis and any log of which this is kept
abbrev pub RunsOne : {E : Type 0} → (Tx → Bool) → Held → Held → Draft → Draft → ℕ → ℕ → Action
    → Result (Option Checkpoint) E → Type 0
RunsOne {E} approves held held' draft draft' slot place action result =
    (genesis : List Object) → AtItsLog held.archived.kept (λ log. IfOk result (λ made.
    RanOne (deployed_setup held.config genesis approves) held (bench_of log held) held' draft draft'
    slot place action made))
