-- The encodings and limits of sessions, votes and actions.
use Rattle.std.specs.Prelude.{ℕ, ◌<◌, ◌^◌, List, [], ◌∷◌, ◌++◌}
use Rattle.std.specs.Int.{w16, w64, to_be_bytes}
use Rattle.cs_base.specs.Fields.{counted}
use Rattle.cs_tx_value.specs.Encoding.{AtMost}
use Rattle.cs_tx_types.specs.declared.limits.TheConstants.{MOST_SESSION_DUMMIES}
use Rattle.cs_tx_types.specs.declared.session.Session.{Session}
use Rattle.cs_tx_types.specs.declared.vote.Vote.{Vote}
use Rattle.cs_tx_types.specs.declared.vote.Vote.TheVariants.{Abort, Commit}
use Rattle.cs_tx_types.specs.declared.action.Action.{Action}
use Rattle.cs_tx_types.specs.declared.action.Action.TheVariants.{Prepare, Decide}
use Rattle.cs_tx_types.specs.Transaction.{tx_encoding, TxFits}

-- a dummy's shard and serial
abbrev pub dummy_encoding : ℕ × ℕ → List ℕ
dummy_encoding d = to_be_bytes w16 d.0 ++ to_be_bytes w64 d.1

abbrev pub DummyFits : ℕ × ℕ → Type 0
DummyFits d = (d.0 < 2 ^ 16) × (d.1 < 2 ^ 64)

abbrev pub session_encoding : Session → List ℕ
session_encoding x = tx_encoding x.tx ++ (to_be_bytes w64 x.number ++ counted dummy_encoding x.dummies)

pub record SessionFits (x : Session) : Type 0 where
  pub tx : TxFits x.tx
  pub number : x.number < 2 ^ 64
  pub dummies : AtMost MOST_SESSION_DUMMIES DummyFits x.dummies

abbrev pub vote_encoding : Vote → List ℕ
vote_encoding Abort = 0 ∷ []
vote_encoding Commit = 1 ∷ []

abbrev pub action_encoding : Action → List ℕ
action_encoding (Prepare x) = 0 ∷ session_encoding x
action_encoding (Decide vote x) = 1 ∷ (vote_encoding vote ++ session_encoding x)

abbrev pub ActionFits : Action → Type 0
ActionFits (Prepare x) = SessionFits x
ActionFits (Decide vote x) = SessionFits x

abbrev pub session_in : Action → Session
session_in (Prepare x) = x
session_in (Decide vote x) = x
