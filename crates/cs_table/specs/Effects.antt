-- What an execution came to, and what it left.
use Rattle.std.specs.Prelude.{◌≡◌, ℕ, Bool, true, false, if◌then◌else◌, List, Option, Some, None}
use Rattle.cs_tx.specs.Votes.{vote_of}
use Rattle.cs_tx_types.specs.declared.effect.Effect.{Effect}
use Rattle.cs_tx_types.specs.declared.effect.Effect.TheVariants as effect
use Rattle.cs_ledger.specs.Ledger.{Bytes}
use Rattle.cs_ledger.specs.Session.{Piece, has_key, object_under}
use Rattle.cs_ledger.specs.Table as ledger
use Rattle.cs_table.specs.Seen.{Stored}
use Rattle.cs_table.specs.Changes.{Becomes}

abbrev pub effect_of : Effect → ledger.Effect
effect_of (effect.Voted vote) = ledger.Voted (vote_of vote)
effect_of effect.Accepted = ledger.Accepted
effect_of effect.Aborted = ledger.Aborted
effect_of effect.Skipped = ledger.Skipped
effect_of effect.Void = ledger.Void

-- a call answered this, and left the table that the definitions give
pub record ComesTo (outcome : ledger.Outcome) (old new : Stored) (effect : ledger.Effect) : Type 0 where
  pub effect_is : effect ≡ outcome.effect
  pub table_is : Becomes old new outcome.table

-- the vote that the record of its anchor gives on a session, before its keys are looked at
abbrev pub or_lost : Bool → Option ledger.Vote → Option ledger.Vote
or_lost lost (Some vote) = Some vote
or_lost true None = Some ledger.Abort
or_lost false None = None

abbrev pub settled_vote : ledger.Record → Bytes → Option ledger.Vote
settled_vote r d =
    if ledger.is_held_by d r.state
    then Some ledger.Commit
    else or_lost (ledger.is_inactive r.state) (ledger.vote_in r.book d)

-- what an accepted session leaves of a table, with what comes into being
abbrev pub accepted : Bytes → List Piece → List Piece → List Piece → ℕ → ledger.Table → ledger.Table
accepted d used read made next t = record {
  at = λ key. record {
    state = ledger.accept_state (has_key key used) (has_key key read) d (object_under made key) (t.at key).state;
    book = (t.at key).book;
  };
  next = next;
}
