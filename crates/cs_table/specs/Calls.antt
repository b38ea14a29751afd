-- What the calls on a session come to.
use Rattle.std.specs.Prelude.{ℕ, ◌+◌, ◌-◌, ◌^◌, ◌==◌, nat_lt, ◌&&◌, ◌||◌, not, Bool, false, if◌then◌else◌, List, ◌++◌, length, Option, Some, None, is_some}
use Rattle.std.specs.List.{list_any}
use Rattle.cs_ledger.specs.Ledger.{Bytes}
use Rattle.cs_ledger.specs.Session as ledger
use Rattle.cs_ledger.specs.Table.{Table, Record, Vote, Outcome, Prepare, Decide, act, is_locked_by, vote_in, has_room, new_dummy}
use Rattle.cs_ledger.specs.Standing as places
use Rattle.cs_table.specs.declared.standing.Standing.{Standing}
use Rattle.cs_table.specs.declared.standing.Standing.TheVariants.{Accepted, Aborted, Open}
use Rattle.cs_table.specs.Seen.{Stored, seen}
use Rattle.cs_table.specs.Effects.{accepted}
use Rattle.cs_table.specs.Pieces.{rules_in}

-- the key of the session in the table's shard by which it is held
abbrev pub anchor_in : Stored → ledger.Session → Option ledger.Key
anchor_in s x = ledger.anchor (rules_in s.shards) x s.shard

-- what a chosen Prepare and a chosen Decide come to
abbrev pub prepare_outcome : Stored → ledger.Session → Outcome
prepare_outcome s x = act (rules_in s.shards) s.shard (seen s) (Prepare x) (anchor_in s x)

abbrev pub decide_outcome : Stored → ledger.Session → Vote → Outcome
decide_outcome s x vote = act (rules_in s.shards) s.shard (seen s) (Decide x vote) (anchor_in s x)

-- without an anchor a session holds nothing, stands open, and has no vote on record
abbrev pub locked_at : Table → Bytes → Option ledger.Key → Bool
locked_at t d None = false
locked_at t d (Some key) = is_locked_by d (t.at key).state

abbrev pub standing_of : Record → Bytes → Standing
standing_of r d =
    if places.stands_accepted r d then Accepted
    else if places.stands_aborted r d then Aborted
    else Open

-- where no session has used the anchor up: it is in the book, or the record is worn and not locked by it
abbrev pub is_over : Record → Bytes → Bool
is_over r d = is_some (vote_in r.book d) || (not (has_room r.book) && not (is_locked_by d r.state))

abbrev pub standing_at : Table → Bytes → Option ledger.Key → Standing
standing_at t d None = Open
standing_at t d (Some key) = standing_of (t.at key) d

abbrev pub recorded_at : Table → Bytes → Option ledger.Key → Option Vote
recorded_at t d None = None
recorded_at t d (Some key) = places.recorded (t.at key) d

-- whether a session is locked, how it stands, and its vote on record
abbrev pub is_locked_in : Stored → ledger.Session → Bool
is_locked_in s x = locked_at (seen s) x.digest (anchor_in s x)

abbrev pub standing_in : Stored → ledger.Session → Standing
standing_in s x = standing_at (seen s) x.digest (anchor_in s x)

abbrev pub recorded_in : Stored → ledger.Session → Option Vote
recorded_in s x = recorded_at (seen s) x.digest (anchor_in s x)

-- one of the dummies is of the shard, and there is a serial for a new one
abbrev pub makes_dummy : Stored → List (ℕ × ℕ) → Bool
makes_dummy s dummies = list_any (λ dummy. dummy.0 == s.shard) dummies && nat_lt s.next (2 ^ 64 - 1)

-- a new dummy, where one of these was used up
abbrev pub new_in : Stored → List ledger.DummyName → List ledger.Piece
new_in s dummies =
    new_dummy (rules_in s.shards) s.shard (seen s) (ledger.dummies_in (rules_in s.shards) s.shard dummies)

-- what an accepted session brings into being
abbrev pub made_by : Stored → ledger.Session → List ledger.Piece
made_by s x = ledger.objects_in (rules_in s.shards) s.shard x.transaction.outputs ++ new_in s x.dummies

-- what an accepted session leaves, which had these keys
abbrev pub accepted_with : Stored → ledger.Session → Bytes → List ledger.Piece → List ledger.Piece → Table
accepted_with s x d used read =
    accepted d used read (made_by s x) (s.next + length (new_in s x.dummies)) (seen s)
