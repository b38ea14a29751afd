-- What the record of its anchor says of a session.
use Rattle.std.specs.Prelude.{Bool, false, not, ◌&&◌, ◌||◌, Option, Some, bytes_eq, is_some, if◌then◌else◌}
use Rattle.cs_ledger.specs.Ledger.{Bytes}
use Rattle.cs_ledger.specs.Table.{Vote, Commit, State, Inactive, Record, is_inactive, is_locked_by, vote_in, has_room}

abbrev pub is_inactive_by : Bytes → State → Bool
is_inactive_by d (Inactive by) = bytes_eq d by
is_inactive_by d _ = false

-- the standing of a session is Accepted: it has used up its anchor
abbrev pub stands_accepted : Record → Bytes → Bool
stands_accepted r d = is_inactive_by d r.state

-- another has used up the anchor, or it is worn and the session does not hold it
abbrev pub has_lost : Record → Bytes → Bool
has_lost r d = is_inactive r.state || (not (has_room r.book) && not (is_locked_by d r.state))

-- the standing of a session is Aborted; a session that stands neither Accepted nor Aborted is Open
abbrev pub stands_aborted : Record → Bytes → Bool
stands_aborted r d = not (stands_accepted r d) && (is_some (vote_in r.book d) || has_lost r d)

-- the vote that is on record
abbrev pub recorded : Record → Bytes → Option Vote
recorded r d = if is_inactive_by d r.state then Some Commit else vote_in r.book d
