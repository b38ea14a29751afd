-- What the calls of the pool answer.
use Rattle.std.specs.Prelude.{◌≡◌, ◌⊎◌, if◌then◌else◌, List, [], ◌∷◌, Option, Some, None, option_map}
use Rattle.cs_base.specs.declared.node_id.NodeId.{NodeId}
use Rattle.cs_tx_types.specs.declared.session.Session.{Session}
use Rattle.cs_tx_types.specs.declared.vote.Vote.{Vote}
use Rattle.cs_tx_types.specs.declared.action.Action.{Action}
use Rattle.cs_tx_types.specs.declared.action.Action.TheVariants.{Prepare, Decide}
use Rattle.cs_node_state.specs.declared.pooled.Pooled.{Pooled}
use Rattle.cs_ledger.specs.Ledger.{Bytes}
use Rattle.cs_node_state.specs.Setup.{Setup, concerned}
use Rattle.cs_tx_types.specs.Session.{session_in}
use Rattle.cs_node_state.specs.Evidence.{has_voted}
use Rattle.cs_node_state.specs.Pool.{Pool, found}
use Rattle.cs_node_state.specs.Admission.{due_vote}
use Rattle.cs_node_pool.specs.declared.answers.Counted.{Counted}
use Rattle.cs_node_pool.specs.declared.answers.Counted.TheVariants.{Counted as Taken, Repeat, NotPooled}

-- a node's first vote on a pooled session counts
abbrev pub counted_in : NodeId → Option Pooled → Counted
counted_in from None = NotPooled
counted_in from (Some p) = if has_voted from p.ballots then Repeat else Taken

-- the locked sessions, in the order of the pool
abbrev pub locked_in : Pool → List Session
locked_in [] = []
locked_in (e ∷ pool) = if e.1.locked then e.1.session ∷ locked_in pool else locked_in pool

-- the session that is pooled under a digest
abbrev pub session_under : Bytes → Pool → Option Session
session_under d pool = option_map (λ p. p.session) (found d pool)

abbrev pub decide_due : Session → Option Action → Option Vote → Option Action
decide_due x later (Some vote) = Some (Decide vote x)
decide_due x later None = later

-- the first decision that is due for a locked session, in the order of the pool
abbrev pub first_decided : Setup → Pool → Option Action
first_decided setup [] = None
first_decided setup (e ∷ pool) =
    decide_due e.1.session (first_decided setup pool) (due_vote setup.f (concerned setup e.1.session) e.1)

-- the first session that waits is to be voted on
abbrev pub first_waiting : Pool → Option Action
first_waiting [] = None
first_waiting (e ∷ pool) = if e.1.locked then first_waiting pool else Some (Prepare e.1.session)

-- the session is that of the first decision which is due, or that of the first vote
abbrev pub IsNext : Setup → Pool → Session → Type 0
IsNext setup pool x =
    (option_map session_in (first_decided setup pool) ≡ Some x)
    ⊎ (option_map session_in (first_waiting pool) ≡ Some x)
