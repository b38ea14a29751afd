-- What stands at the front of a list of bytes.
use Rattle.std.specs.Prelude.{◌≡◌, ℕ, zero, suc, List, Some, None, Result, Ok, Err}
use Rattle.std.specs.Int.{w8, w16, w64}
use Rattle.cs_base.specs.declared.limits.TheConstants.{MOST_READERS, MOST_TX}
use Rattle.cs_base.specs.Fields.{Found, ◌<$>◌, number_at, bytes_at, counted_at, pair_at, some_at, tested_at, within_at}
use Rattle.cs_tx_value.specs.declared.form.FormError.{FormError}
use Rattle.cs_tx_value.specs.declared.form.FormError.TheVariants.{BadForm}
use Rattle.cs_tx_value.specs.declared.object.Object.{Object}
use Rattle.cs_tx_value.specs.declared.value.Value.{Value}
use Rattle.cs_tx_value.specs.Kinds.{kinds_at}
use Rattle.cs_tx_value.specs.Name.{name_at}
use Rattle.cs_tx_value.specs.Object.{object_at}
use Rattle.cs_tx_value.specs.Reading.{value_at}
use Rattle.cs_tx_types.specs.declared.limits.TheConstants.{MOST_TRACES, MOST_TRACE_OBJECTS, MOST_TRACE_VALUES, MOST_DEPS, MOST_SESSION_DUMMIES}
use Rattle.cs_tx_types.specs.declared.trace.Trace.{Trace}
use Rattle.cs_tx_types.specs.declared.transaction.Tx.{Tx}
use Rattle.cs_tx_types.specs.declared.session.Session.{Session}
use Rattle.cs_tx_types.specs.declared.vote.Vote.{Vote}
use Rattle.cs_tx_types.specs.declared.vote.Vote.TheVariants as vote
use Rattle.cs_tx_types.specs.declared.action.Action.{Action}
use Rattle.cs_tx_types.specs.declared.action.Action.TheVariants as action
use Rattle.cs_tx_types.specs.declared.state.State.{State}
use Rattle.cs_tx_types.specs.declared.state.State.TheVariants as state
use Rattle.cs_tx_types.specs.State.{readers_differ}
use Rattle.cs_tx_types.specs.Transaction.{Keyed, tx_of}

abbrev pub keyed_at : List ℕ → Found Keyed
keyed_at = pair_at (bytes_at 32) object_at

-- ---- traces and transactions

abbrev pub Front : Type 0
Front = List ℕ × (List ℕ × (List Keyed × List Keyed))

abbrev pub Back : Type 0
Back = List Value × (List Object × (List Value × List ℕ))

abbrev pub trace_of_parts : Front × Back → Trace
trace_of_parts p = record {
  contract = p.0.0;
  method = p.0.1.0;
  inputs = p.0.1.1.0;
  references = p.0.1.1.1;
  parameters = p.1.0;
  outputs = p.1.1.0;
  returns = p.1.1.1.0;
  deps = p.1.1.1.1;
}

unfoldable pub front_at : List ℕ → Found Front
front_at =
    pair_at (bytes_at 32)
    (pair_at name_at (pair_at (counted_at MOST_TRACE_OBJECTS keyed_at) (counted_at MOST_TRACE_OBJECTS keyed_at)))

unfoldable pub back_at : List ℕ → Found Back
back_at =
    pair_at (counted_at MOST_TRACE_VALUES (value_at 4))
    (pair_at (counted_at MOST_TRACE_OBJECTS object_at)
    (pair_at (counted_at MOST_TRACE_VALUES (value_at 4)) (counted_at MOST_DEPS (number_at w8))))

unfoldable pub trace_at : List ℕ → Found Trace
trace_at bytes = trace_of_parts <$> pair_at front_at back_at bytes

unfoldable pub tx_at : List ℕ → Found Tx
tx_at = within_at MOST_TX (λ bytes. tx_of <$> some_at MOST_TRACES trace_at bytes)

-- ---- sessions, votes and actions

abbrev pub dummy_at : List ℕ → Found (ℕ × ℕ)
dummy_at = pair_at (number_at w16) (number_at w64)

abbrev pub session_of_parts : Tx × (ℕ × List (ℕ × ℕ)) → Session
session_of_parts p = record { tx = p.0; number = p.1.0; dummies = p.1.1 }

unfoldable pub session_at : List ℕ → Found Session
session_at bytes =
    session_of_parts <$> pair_at tx_at (pair_at (number_at w64) (counted_at MOST_SESSION_DUMMIES dummy_at)) bytes

abbrev pub vote_kind_at : ℕ → List ℕ → Found Vote
vote_kind_at zero bytes = Some (vote.Abort, bytes)
vote_kind_at (suc zero) bytes = Some (vote.Commit, bytes)
vote_kind_at (suc (suc kind)) bytes = None

abbrev pub vote_at : List ℕ → Found Vote
vote_at = kinds_at vote_kind_at

abbrev pub decide_action : Vote × Session → Action
decide_action p = action.Decide p.0 p.1

abbrev pub action_kind_at : ℕ → List ℕ → Found Action
action_kind_at zero bytes = action.Prepare <$> session_at bytes
action_kind_at (suc zero) bytes = decide_action <$> pair_at vote_at session_at bytes
action_kind_at (suc (suc kind)) bytes = None

abbrev pub action_at : List ℕ → Found Action
action_at = kinds_at action_kind_at

-- ---- states

abbrev pub locked_state : Object × List ℕ → State
locked_state p = state.Locked p.0 p.1

-- one to so many readers, of which none stands twice
abbrev pub readers_at : List ℕ → Found (List (List ℕ))
readers_at = tested_at readers_differ (some_at MOST_READERS (bytes_at 32))

-- what a call that takes no memory wrote into its places is what a reader finds
abbrev pub FillsReaders : Result Unit FormError → List (List ℕ) → List ℕ → Found (List (List ℕ)) → Type 0
FillsReaders (Ok done) places rest found = found ≡ Some (places, rest)
FillsReaders (Err e) places rest found = (e ≡ BadForm) × (found ≡ None)

abbrev pub shared_state : Object × List (List ℕ) → State
shared_state p = state.Shared p.0 p.1

abbrev pub state_kind_at : ℕ → List ℕ → Found State
state_kind_at zero bytes = Some (state.Unknown, bytes)
state_kind_at (suc zero) bytes = state.Active <$> object_at bytes
state_kind_at (suc (suc zero)) bytes = locked_state <$> pair_at object_at (bytes_at 32) bytes
state_kind_at (suc (suc (suc zero))) bytes = state.Inactive <$> bytes_at 32 bytes
state_kind_at (suc (suc (suc (suc zero)))) bytes = shared_state <$> pair_at object_at readers_at bytes
state_kind_at (suc (suc (suc (suc (suc kind))))) bytes = None

abbrev pub state_at : List ℕ → Found State
state_at = kinds_at state_kind_at
