-- The phase of a client, by its inputs.
use Rattle.std.specs.Prelude.{ℕ, List, [], ◌∷◌, Option, Some, None, Ok, Err, if◌then◌else◌}
use Rattle.cs_base.specs.declared.config.Config.{Config}
use Rattle.cs_tx_types.specs.declared.session.Session.{Session}
use Rattle.cs_proc.specs.declared.call.Call.{Call}
use Rattle.cs_proc.specs.Calling.{CallRan}
use Rattle.cs_tx_types.specs.Transaction.{tx_of}
use Rattle.cs_client.specs.declared.errand.Errand.{Errand}
use Rattle.cs_client.specs.Inputs.{ClientInput}
use Rattle.cs_client.specs.Dummies.{dummy_believed, dummies_for}
use Rattle.cs_client.specs.Calls.{ready, ran_with}
use Rattle.cs_client.specs.Sessions.{has_input, session_without_dummies, with_dummies, bare_shards}

pub data Phase : Type 0 where
  Asking : Phase  -- it asks for the objects of its call
  Wanting : (x : Session) → Phase  -- it asks for dummies, which the session lacks
  Submitting : (x : Session) → Phase
  Idle : Phase  -- it does nothing more

-- the session that is submitted, if there is one
abbrev pub submitted : Phase → Option Session
submitted Asking = None
submitted (Wanting x) = None
submitted (Submitting x) = Some x
submitted Idle = None

-- the dummy that is believed in a shard, if any
abbrev pub Dummies : Type 0
Dummies = ℕ → Option ℕ

-- the session is submitted with its dummies, where there are all
abbrev pub provided : Session → Option (List (ℕ × ℕ)) → Phase
provided x (Some dummies) = Submitting (with_dummies x dummies)
provided x None = Wanting x

-- it needs one in each shard without an input
abbrev pub wanting : Config → Dummies → Session → Phase
wanting config dummy x = provided x (dummies_for dummy (bare_shards config x))

-- what the method came to: a transaction with an input goes on; after a refusal nothing comes
abbrev pub after_method : Errand → Dummies → CallRan → Phase
after_method e dummy (Ok traces) =
    if has_input (tx_of traces)
    then wanting e.config dummy (session_without_dummies (tx_of traces) e.call.number)
    else Idle
after_method e dummy (Err error) = Idle

-- the method is run, where all objects of the call are believed
abbrev pub after_call : Errand → Dummies → Option Call → Phase
after_call e dummy (Some call) = after_method e dummy (ran_with e call)
after_call e dummy None = Asking

-- the phase after an input, by the one before it, and by the call and the dummies that are believed now
abbrev pub moved : Errand → Dummies → Option Call → Phase → Phase
moved e dummy call Asking = after_call e dummy call
moved e dummy call (Wanting x) = wanting e.config dummy x
moved e dummy call (Submitting x) = Submitting x
moved e dummy call Idle = Idle

-- a session that was made before is submitted; else all begins with the objects of the call
abbrev pub first_phase : Option Session → Phase
first_phase None = Asking
first_phase (Some x) = Submitting x

abbrev pub phase : Errand → List ClientInput → Phase
phase e [] = first_phase e.session
phase e (input ∷ past) =
    moved e (dummy_believed e.dummy e.config e.keys (input ∷ past)) (ready e (input ∷ past)) (phase e past)
