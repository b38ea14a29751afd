-- The table of a shard, and what executing an entry does to it.
use Rattle.std.specs.Prelude.{ℕ, ◌+◌, ◌-◌, ◌^◌, Bool, true, false, not, ◌&&◌, ◌||◌, List, [], ◌∷◌, ◌++◌, length, Option, Some, None, bytes_eq, ◌==◌, nat_lt, if◌then◌else◌}
use Rattle.cs_base.specs.Lists.{is_empty}
use Rattle.cs_base.specs.declared.limits.TheConstants.{BOOK_PLACES, MOST_PLACES, MOST_READERS}
use Rattle.cs_ledger.specs.Ledger.{Bytes, has}
use Rattle.cs_ledger.specs.Session.{Session, Rules, Key, Object, Dummy, Piece, key_eq, has_key, object_under, objects_in, dummies_in, used_up, read_only, anchor, concerns, well_formed}

pub data Vote : Type 0 where
  Commit : Vote
  Abort : Vote

pub data State : Type 0 where
  Unknown : State
  Active : (object : Bytes) → State
  Locked : (object by : Bytes) → State
  Inactive : (by : Bytes) → State
  Shared : (object : Bytes) (readers : List Bytes) → State  -- read by these sessions, in the order in which they came

-- the sessions' digests, and how each was voted on
abbrev pub Book : Type 0
Book = List (Bytes × Vote)

pub record Record : Type 0 where
  pub state : State
  pub book : Book

pub record Table : Type 0 where
  pub at : Key → Record  -- a key without a stored record is Unknown, with an empty book
  pub next : ℕ  -- the next serial of a dummy

pub data Entry : Type 0 where
  Prepare : (session : Session) → Entry
  Decide : (session : Session) (vote : Vote) → Entry

-- what an entry came to
pub data Effect : Type 0 where
  Voted : (vote : Vote) → Effect
  Accepted : Effect
  Aborted : Effect
  Skipped : Effect
  Void : Effect

pub record Outcome : Type 0 where
  pub table : Table
  pub effect : Effect

-- Locked by the session or Inactive by it
abbrev pub is_held_by : Bytes → State → Bool
is_held_by d Unknown = false
is_held_by d (Active object) = false
is_held_by d (Locked object by) = bytes_eq d by
is_held_by d (Inactive by) = bytes_eq d by
is_held_by d (Shared object readers) = false

abbrev pub is_locked_by : Bytes → State → Bool
is_locked_by d (Locked object by) = bytes_eq d by
is_locked_by d _ = false

abbrev pub is_inactive : State → Bool
is_inactive (Inactive by) = true
is_inactive _ = false

abbrev pub is_active_with : Bytes → State → Bool
is_active_with object (Active held) = bytes_eq object held
is_active_with object _ = false

-- one more session may read an object that these read
abbrev pub has_seat : List Bytes → Bool
has_seat readers = nat_lt (length readers) MOST_READERS

-- Active, or Shared with a seat, with exactly that object
abbrev pub is_readable_with : Bytes → State → Bool
is_readable_with object (Active held) = bytes_eq object held
is_readable_with object (Shared held readers) = bytes_eq object held && has_seat readers
is_readable_with object _ = false

-- the object that stands under a key, for whoever would read it
abbrev pub free_object : State → Option Bytes
free_object (Active object) = Some object
free_object (Shared object readers) = Some object
free_object _ = None

-- an object is there, which no session holds or reads
abbrev pub is_free : State → Bool
is_free (Active object) = true
is_free _ = false

abbrev pub is_unknown : State → Bool
is_unknown Unknown = true
is_unknown _ = false

-- the dummy of this serial is active
abbrev pub has_active_dummy : Table → ℕ → ℕ → Bool
has_active_dummy t shard serial = is_free (t.at (Dummy shard serial)).state

-- the vote on a session in a book
abbrev pub vote_in : Book → Bytes → Option Vote
vote_in [] d = None
vote_in (place ∷ book) d = if bytes_eq d place.0 then Some place.1 else vote_in book d

-- else the record is worn
abbrev pub has_room : Book → Bool
has_room book = nat_lt (length book) BOOK_PLACES

-- the vote of a session that is aborted still has a place
abbrev pub has_place : Book → Bool
has_place book = nat_lt (length book) MOST_PLACES

-- each key is Active with exactly the carried object
abbrev pub all_ready : Table → List Piece → Bool
all_ready t [] = true
all_ready t (piece ∷ pieces) = is_active_with piece.object (t.at piece.key).state && all_ready t pieces

-- each key is Active, or Shared with a seat, with exactly the carried object
abbrev pub all_readable : Table → List Piece → Bool
all_readable t [] = true
all_readable t (piece ∷ pieces) = is_readable_with piece.object (t.at piece.key).state && all_readable t pieces

-- what may be used up is there to be used up, and what is read there to be read
abbrev pub is_ready : Table → List Piece → List Piece → Bool
is_ready t used read = all_ready t used && all_readable t read

abbrev pub locked : Bytes → State → State
locked d (Active object) = Locked object d
locked d state = state

abbrev pub released : State → State
released (Locked object by) = Active object
released state = state

-- who isn't among the readers comes behind them, where there is a seat
abbrev pub with_reader : Bytes → List Bytes → List Bytes
with_reader d readers = if has d readers || not (has_seat readers) then readers else readers ++ d ∷ []

-- a session joins the readers
abbrev pub joined_by : Bytes → State → State
joined_by d (Active object) = Shared object (d ∷ [])
joined_by d (Shared object readers) = Shared object (with_reader d readers)
joined_by d state = state

abbrev pub without_reader : Bytes → List Bytes → List Bytes
without_reader d [] = []
without_reader d (reader ∷ readers) =
    if bytes_eq d reader then without_reader d readers else reader ∷ without_reader d readers

-- what nobody reads is Active
abbrev pub read_by : Bytes → List Bytes → State
read_by object [] = Active object
read_by object (reader ∷ readers) = Shared object (reader ∷ readers)

-- a session leaves the readers
abbrev pub vacated_by : Bytes → State → State
vacated_by d (Shared object readers) = read_by object (without_reader d readers)
vacated_by d state = state

-- an object comes into being; one that was there, or is used up, does not come back
abbrev pub appeared : Bytes → State → State
appeared object Unknown = Active object
appeared object state = state

abbrev pub made : Option Bytes → State → State
made (Some object) state = appeared object state
made None state = state

-- a session locks what it uses up, and joins the readers of what it only reads
abbrev pub lock_state : Bool → Bool → Bytes → State → State
lock_state used read d state = if used then locked d state else if read then joined_by d state else state

-- when it is aborted it lets go what it locked, and leaves the readers
abbrev pub undo_state : Bool → Bool → Bytes → State → State
undo_state used read d state = if used then released state else if read then vacated_by d state else state

-- what a session makes of a key when it is accepted
abbrev pub accept_state : Bool → Bool → Bytes → Option Bytes → State → State
accept_state used read d new state = if used then Inactive d else if read then vacated_by d state else made new state

-- what the session uses up here becomes Locked by it, and it is a reader of what it only reads
abbrev pub with_locks : Table → Bytes → List Piece → List Piece → Table
with_locks t d used read =
    record {
      at = λ key. record {
        state = lock_state (has_key key used) (has_key key read) d (t.at key).state;
        book = (t.at key).book;
      };
      next = t.next;
    }

-- a vote goes into the book of one key
abbrev pub with_vote : Table → Key → Bytes → Vote → Table
with_vote t anchor d vote =
    record {
      at = λ key. record {
        state = (t.at key).state;
        book = if key_eq key anchor then (t.at key).book ++ (d, vote) ∷ [] else (t.at key).book;
      };
      next = t.next;
    }

abbrev pub voted : Table → Vote → Outcome
voted t vote = record { table = t; effect = Voted vote }

-- each of its keys here is there for it, with exactly the carried object, or one of them is not
abbrev pub prepare_fresh : Table → Bytes → Key → List Piece → List Piece → Outcome
prepare_fresh t d anchor used read =
    if is_ready t used read
    then voted (with_locks t d used read) Commit
    else voted (with_vote t anchor d Abort) Abort

-- the anchor's book has room, or else there is no place for a vote
abbrev pub prepare_open : Table → Bytes → Key → List Piece → List Piece → Outcome
prepare_open t d anchor used read =
    if has_room (t.at anchor).book
    then prepare_fresh t d anchor used read
    else voted t Abort

-- it is in the anchor's book, or the anchor is Inactive by another session, or neither
abbrev pub prepare_unless : Table → Bytes → Key → List Piece → List Piece → Option Vote → Outcome
prepare_unless t d anchor used read (Some vote) = voted t vote
prepare_unless t d anchor used read None =
    if is_inactive (t.at anchor).state then voted t Abort else prepare_open t d anchor used read

-- the vote of a shard on a session, the first case that applies: it holds its anchor; it is in the anchor's book;
-- another has used up the anchor; all its keys are there for it; otherwise
abbrev pub prepare : Table → Bytes → Key → List Piece → List Piece → Outcome
prepare t d anchor used read =
    if is_held_by d (t.at anchor).state
    then voted t Commit
    else prepare_unless t d anchor used read (vote_in (t.at anchor).book d)

-- a dummy that was used up is followed by a new one
abbrev pub new_dummy : Rules → ℕ → Table → List Piece → List Piece
new_dummy rules shard t used =
    if not (is_empty used) && nat_lt t.next (2 ^ 64 - 1)
    then record { key = Dummy shard t.next; object = rules.dummy_object } ∷ []
    else []

-- what an accepted session brings into being in a shard
abbrev pub new_pieces : Rules → ℕ → Table → Session → List Piece
new_pieces rules shard t x =
    objects_in rules shard x.transaction.outputs ++ new_dummy rules shard t (dummies_in rules shard x.dummies)

abbrev pub with_accepted : Rules → ℕ → Table → Session → Table
with_accepted rules shard t x =
    record {
      at = λ key. record {
        state = accept_state
            (has_key key (used_up rules x shard)) (has_key key (read_only rules x shard))
            x.digest (object_under (new_pieces rules shard t x) key) (t.at key).state;
        book = (t.at key).book;
      };
      next = t.next + length (new_dummy rules shard t (dummies_in rules shard x.dummies));
    }

-- what it locked here is Active again, it leaves the readers, and its commit vote goes into the anchor's book
abbrev pub with_aborted : Table → Bytes → Key → List Piece → List Piece → Table
with_aborted t d anchor used read =
    record {
      at = λ key. record {
        state = undo_state (has_key key used) (has_key key read) d (t.at key).state;
        book = if key_eq key anchor && has_place (t.at key).book
            then (t.at key).book ++ (d, Commit) ∷ []
            else (t.at key).book;
      };
      next = t.next;
    }

-- a decision takes effect only on a session that holds the lock on its anchor
abbrev pub decide : Rules → ℕ → Table → Session → Key → Vote → Outcome
decide rules shard t x anchor Commit =
    if is_locked_by x.digest (t.at anchor).state
    then record { table = with_accepted rules shard t x; effect = Accepted }
    else record { table = t; effect = Skipped }
decide rules shard t x anchor Abort =
    if is_locked_by x.digest (t.at anchor).state
    then record {
      table = with_aborted t x.digest anchor (used_up rules x shard) (read_only rules x shard);
      effect = Aborted;
    }
    else record { table = t; effect = Skipped }

abbrev pub act : Rules → ℕ → Table → Entry → Option Key → Outcome
act rules shard t entry None = record { table = t; effect = Void }
act rules shard t (Prepare x) (Some anchor) =
    prepare t x.digest anchor (used_up rules x shard) (read_only rules x shard)
act rules shard t (Decide x vote) (Some anchor) = decide rules shard t x anchor vote

abbrev pub session_of : Entry → Session
session_of (Prepare x) = x
session_of (Decide x vote) = x

-- an entry whose session is not well formed, or does not concern the shard, changes nothing
abbrev pub exec : Rules → ℕ → Table → Entry → Outcome
exec rules shard t entry =
    if well_formed rules (session_of entry) && concerns rules (session_of entry) shard
    then act rules shard t entry (anchor rules (session_of entry) shard)
    else record { table = t; effect = Void }

-- at the start a shard holds its genesis objects and its first dummies
abbrev pub start_state : Rules → ℕ → Key → State
start_state rules shard (Object name) = made (object_under (objects_in rules shard rules.genesis) (Object name)) Unknown
start_state rules shard (Dummy s serial) =
    if s == shard && nat_lt serial rules.dummies then Active rules.dummy_object else Unknown

abbrev pub start : Rules → ℕ → Table
start rules shard =
    record { at = λ key. record { state = start_state rules shard key; book = [] }; next = rules.dummies }

-- the table of a shard after its log, which is given newest first
abbrev pub table_of : Rules → ℕ → List Entry → Table
table_of rules shard [] = start rules shard
table_of rules shard (entry ∷ earlier) = (exec rules shard (table_of rules shard earlier) entry).table

-- the table after a log that is given oldest first, one entry after the other
abbrev pub table_after : Rules → ℕ → Table → List Entry → Table
table_after rules shard t [] = t
table_after rules shard t (entry ∷ later) = table_after rules shard (exec rules shard t entry).table later

-- a list turned round, in front of another
abbrev pub turned : {A : Type 0} → List A → List A → List A
turned [] done = done
turned (x ∷ xs) done = turned xs (x ∷ done)
