-- How an entry is filled with what is due.
use Rattle.std.specs.Prelude.{ℕ, ◌-◌, Bool, true, false, if◌then◌else◌, List, [], ◌∷◌, ◌++◌, length, Option, Some, None}
use Rattle.cs_base.specs.declared.limits.TheConstants.{MOST_ENTRY, MOST_ACTIONS, MOST_BATCH}
use Rattle.cs_base.specs.declared.version.Version.{Version}
use Rattle.cs_base.specs.declared.version.Version.TheVariants.{One, Two}
use Rattle.cs_tx_types.specs.declared.session.Session.{Session}
use Rattle.cs_tx_types.specs.declared.vote.Vote.{Vote}
use Rattle.cs_tx_types.specs.declared.action.Action.{Action}
use Rattle.cs_tx_types.specs.declared.action.Action.TheVariants.{Prepare, Decide}
use Rattle.cs_tx_types.specs.Session.{action_encoding}
use Rattle.cs_node_state.specs.Admission.{has_room_for, batch_head}
use Rattle.cs_node_pool.specs.declared.batch.Batch.{Batch}
use Rattle.cs_node_pool.specs.declared.seat.Seat.{Seat}
use Rattle.cs_node_pool.specs.Seats.{Seats, seat_of_place}

-- ---- an entry in the making

abbrev pub most_actions : Version → ℕ
most_actions One = 1
most_actions Two = MOST_ACTIONS

-- the bytes for the actions: one of any session has room in version 1
abbrev pub room_of : Version → ℕ
room_of One = MOST_ENTRY
room_of Two = MOST_BATCH - batch_head

-- nothing yet
abbrev pub unfilled : Version → Batch
unfilled version = record { actions = []; left = most_actions version; room = room_of version }

abbrev pub with_action : Action → Batch → Batch
with_action action b = record {
  actions = b.actions ++ action ∷ [];
  left = b.left - 1;
  room = b.room - length (action_encoding action);
}

-- the actions one after the other, until there is no room for one; and whether there was room for all
abbrev pub filled : Batch → List Action → Batch × Bool
filled b [] = (b, true)
filled b (action ∷ more) = if has_room_for b.left b.room action then filled (with_action action b) more else (b, false)

-- ---- what is due on seats

abbrev pub action_for : Session → Option Vote → Action
action_for x (Some vote) = Decide vote x
action_for x None = Prepare x

-- the decision on the session of a seat, where one is due, or else a vote
abbrev pub action_on : Seat → Action
action_on seat = action_for seat.pooled.session seat.due

abbrev pub with_seat : Option Seat → List Action → List Action
with_seat None more = more
with_seat (Some seat) more = action_on seat ∷ more

-- those of the sessions at these places
abbrev pub actions_at : Seats → List ℕ → List Action
actions_at seats [] = []
actions_at seats (n ∷ ns) = with_seat (seat_of_place n seats) (actions_at seats ns)
