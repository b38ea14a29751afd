-- The encodings and limits of records.
use Rattle.std.specs.Prelude.{ℕ, List, ◌++◌, length}
use Rattle.std.specs.Int.{w16, to_be_bytes}
use Rattle.cs_base.specs.declared.limits.TheConstants.{MOST_PLACES}
use Rattle.cs_base.specs.declared.key.Key.{Key}
use Rattle.cs_base.specs.Fields.{each, Found, ◌<$>◌, bytes_at, pair_at, many_at, upto_at}
use Rattle.cs_tx_value.specs.Encoding.{AtMost}
use Rattle.cs_tx_value.specs.Object.{DigestFits}
use Rattle.cs_tx_value.specs.Key.{key_encoding, KeyFits, key_at}
use Rattle.cs_tx_types.specs.declared.vote.Vote.{Vote}
use Rattle.cs_tx_types.specs.declared.state.State.{State}
use Rattle.cs_tx_types.specs.declared.record.Record.{Record}
use Rattle.cs_tx_types.specs.declared.stored.Stored.{Stored}
use Rattle.cs_tx_types.specs.Session.{vote_encoding}
use Rattle.cs_tx_types.specs.State.{state_encoding, StateFits}
use Rattle.cs_tx_types.specs.Reading.{vote_at, state_at}

-- a session's digest, and how it was voted on
abbrev pub Place : Type 0
Place = List ℕ × Vote

abbrev pub place_encoding : Place → List ℕ
place_encoding place = place.0 ++ vote_encoding place.1

-- every vote fits
abbrev pub PlaceFits : Place → Type 0
PlaceFits place = DigestFits place.0 × Unit {0}

-- the number of places in two bytes, and the places
abbrev pub book_encoding : List Place → List ℕ
book_encoding book = to_be_bytes w16 (length book) ++ each place_encoding book

abbrev pub record_encoding : Record → List ℕ
record_encoding r = state_encoding r.state ++ book_encoding r.book

pub record RecordFits (r : Record) : Type 0 where
  pub state : StateFits r.state
  pub book : AtMost MOST_PLACES PlaceFits r.book

-- a key, and its record
abbrev pub stored_encoding : Stored → List ℕ
stored_encoding s = key_encoding s.key ++ record_encoding s.value

pub record StoredFits (s : Stored) : Type 0 where
  pub key : KeyFits s.key
  pub value : RecordFits s.value

-- ---- what stands at the front of a list of bytes

abbrev pub place_at : List ℕ → Found Place
place_at = pair_at (bytes_at 32) vote_at

abbrev pub book_at : List ℕ → Found (List Place)
book_at = upto_at w16 MOST_PLACES (many_at place_at)

abbrev pub record_of : State × List Place → Record
record_of p = record { state = p.0; book = p.1 }

unfoldable pub record_at : List ℕ → Found Record
record_at bytes = record_of <$> pair_at state_at book_at bytes

abbrev pub stored_of : Key × Record → Stored
stored_of p = record { key = p.0; value = p.1 }

unfoldable pub stored_at : List ℕ → Found Stored
stored_at bytes = stored_of <$> pair_at key_at record_at bytes
