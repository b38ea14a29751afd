-- The kinds of messages, their bodies and limits.
use Rattle.std.specs.Prelude.{◌≡◌, ℕ, ◌<◌, ◌≤◌, ◌^◌, Bool, true, ◌&&◌, nat_le, if◌then◌else◌, List, [], ◌∷◌, ◌++◌, length, Option, Some, None}
use Rattle.std.specs.Ordering.{nat_cmp, is_lt}
use Rattle.std.specs.Cmp.Lexicographic.{slice_cmp}
use Rattle.std.specs.Int.{w16, w64, to_be_bytes}
use Rattle.cs_base.specs.declared.key.Key.{Key}
use Rattle.cs_base.specs.declared.limits.TheConstants.{LAST_VIEW, MOST_ECHOED, MOST_ACTIONS}
use Rattle.cs_base.specs.declared.version.Version.{Version}
use Rattle.cs_base.specs.declared.version.Version.TheVariants.{One, Two}
use Rattle.cs_base.specs.Fields.{counted}
use Rattle.cs_tx_value.specs.Object.{DigestFits}
use Rattle.cs_tx_value.specs.Key.{key_encoding, KeyFits}
use Rattle.cs_tx_types.specs.Session.{session_encoding, SessionFits, vote_encoding}
use Rattle.cs_tx_types.specs.Entry.{entry_encoding, EntryFits}
use Rattle.cs_tx_types.specs.State.{state_encoding, StateFits}
use Rattle.cs_tx_types.specs.Log.{place_encoding, checkpoint_encoding, CheckpointFits, proof_encoding, ProofFits}
use Rattle.cs_wire_message.specs.declared.change.Change.{Change}
use Rattle.cs_wire_message.specs.declared.kinds.TheConstants.{SUBMIT, PROPOSE, ECHO, CONFIRM, CHANGE, VOTED, DECIDED, WANT, DONE, ASK, TOLD, HEAD, ASK_PROOF, PROOF}
use Rattle.cs_wire_message.specs.declared.message.Message.{Message}
use Rattle.cs_wire_message.specs.declared.message.Message.TheVariants as message

abbrev pub kind_of : Message → ℕ
kind_of (message.Submit x) = SUBMIT
kind_of (message.Propose slot view entry) = PROPOSE
kind_of (message.Echo slot view digest) = ECHO
kind_of (message.Confirm slot view digest) = CONFIRM
kind_of (message.Change slot view change) = CHANGE
kind_of (message.Voted vote asks x) = VOTED
kind_of (message.Decided digest accepted) = DECIDED
kind_of (message.Want slot) = WANT
kind_of (message.Done slot entry) = DONE
kind_of (message.Ask key) = ASK
kind_of (message.Told key state) = TOLD
kind_of (message.Head checkpoint) = HEAD
kind_of (message.AskProof slot place) = ASK_PROOF
kind_of (message.Proof proof) = PROOF

-- the numbers of kinds: from the first to the last of these
abbrev pub is_kind : ℕ → Bool
is_kind kind = nat_le SUBMIT kind && nat_le kind PROOF

-- ---- what a member claims as it enters a view

-- a view and a digest that were prepared, if any
abbrev pub prepared_encoding : Option (ℕ × List ℕ) → List ℕ
prepared_encoding None = 0 ∷ []
prepared_encoding (Some pair) = 1 ∷ (to_be_bytes w16 pair.0 ++ pair.1)

-- a digest, and the greatest view in which it was echoed
abbrev pub echo_encoding : List ℕ × ℕ → List ℕ
echo_encoding echo = echo.0 ++ to_be_bytes w16 echo.1

abbrev pub change_encoding : Change → List ℕ
change_encoding c = prepared_encoding c.prepared ++ counted echo_encoding c.echoed

abbrev pub PreparedFits : ℕ → Option (ℕ × List ℕ) → Type 0
PreparedFits view None = Unit {0}
PreparedFits view (Some pair) = (pair.0 < view) × DigestFits pair.1

-- a view and a digest have so many bytes
abbrev pub PairFits : Option (ℕ × List ℕ) → Type 0
PairFits None = Unit {0}
PairFits (Some pair) = (pair.0 < 2 ^ 16) × DigestFits pair.1

-- the digest comes after the last one, as bytes are ordered
abbrev pub is_after_last : Option (List ℕ) → List ℕ → Bool
is_after_last None digest = true
is_after_last (Some last) digest = is_lt (slice_cmp nat_cmp last digest)

-- digests that rise from the last one, with views below the one given
abbrev pub Rise : ℕ → Option (List ℕ) → List (List ℕ × ℕ) → Type 0
Rise view last [] = Unit {0}
Rise view last (echo ∷ echoed) =
    ((DigestFits echo.0 × (is_after_last last echo.0 ≡ true)) × (echo.1 < view)) × Rise view (Some echo.0) echoed

pub record ChangeFits (view : ℕ) (c : Change) : Type 0 where
  pub prepared : PreparedFits view c.prepared
  pub few : length c.echoed ≤ MOST_ECHOED
  pub rise : Rise view None c.echoed

-- ---- bodies

abbrev pub flag_encoding : Bool → List ℕ
flag_encoding flag = (if flag then 1 else 0) ∷ []

-- a slot, a view and a digest
abbrev pub step_encoding : ℕ → ℕ → List ℕ → List ℕ
step_encoding slot view digest = to_be_bytes w64 slot ++ (to_be_bytes w16 view ++ digest)

-- a key, or nothing
abbrev pub asked_encoding : Option Key → List ℕ
asked_encoding None = []
asked_encoding (Some key) = key_encoding key

abbrev pub body_of : Version → Message → List ℕ
body_of version (message.Submit x) = session_encoding x
body_of version (message.Propose slot view entry) = to_be_bytes w64 slot ++ (to_be_bytes w16 view ++ entry_encoding version entry)
body_of version (message.Echo slot view digest) = step_encoding slot view digest
body_of version (message.Confirm slot view digest) = step_encoding slot view digest
body_of version (message.Change slot view change) = to_be_bytes w64 slot ++ (to_be_bytes w16 view ++ change_encoding change)
body_of version (message.Voted vote asks x) = vote_encoding vote ++ (flag_encoding asks ++ session_encoding x)
body_of version (message.Decided digest accepted) = digest ++ flag_encoding accepted
body_of version (message.Want slot) = to_be_bytes w64 slot
body_of version (message.Done slot entry) = to_be_bytes w64 slot ++ entry_encoding version entry
body_of version (message.Ask key) = asked_encoding key
body_of version (message.Told key state) = key_encoding key ++ state_encoding state
body_of version (message.Head checkpoint) = checkpoint_encoding version checkpoint
body_of version (message.AskProof slot place) = to_be_bytes w64 slot ++ place_encoding version place
body_of version (message.Proof proof) = proof_encoding version proof

-- ---- limits

abbrev pub IsSlot : ℕ → Type 0
IsSlot slot = slot < 2 ^ 62

abbrev pub IsView : ℕ → Type 0
IsView view = view ≤ LAST_VIEW

abbrev pub StepFits : ℕ → ℕ → List ℕ → Type 0
StepFits slot view digest = IsSlot slot × (IsView view × DigestFits digest)

abbrev pub AskedKeyFits : Option Key → Type 0
AskedKeyFits None = Unit {0}
AskedKeyFits (Some key) = KeyFits key

-- the place of an action in a slot: 0, or one of 32
abbrev pub AskedPlaceFits : Version → ℕ → Type 0
AskedPlaceFits One place = place ≡ 0
AskedPlaceFits Two place = place < MOST_ACTIONS

abbrev pub MessageFits : Version → Message → Type 0
MessageFits version (message.Submit x) = SessionFits x
MessageFits version (message.Propose slot view entry) = IsSlot slot × (IsView view × EntryFits version entry)
MessageFits version (message.Echo slot view digest) = StepFits slot view digest
MessageFits version (message.Confirm slot view digest) = StepFits slot view digest
MessageFits version (message.Change slot view change) = IsSlot slot × (IsView view × ((1 ≤ view) × ChangeFits view change))
MessageFits version (message.Voted vote asks x) = SessionFits x
MessageFits version (message.Decided digest accepted) = DigestFits digest
MessageFits version (message.Want slot) = IsSlot slot
MessageFits version (message.Done slot entry) = IsSlot slot × EntryFits version entry
MessageFits version (message.Ask key) = AskedKeyFits key
MessageFits version (message.Told key state) = KeyFits key × StateFits state
MessageFits version (message.Head checkpoint) = CheckpointFits version checkpoint
MessageFits version (message.AskProof slot place) = IsSlot slot × AskedPlaceFits version place
MessageFits version (message.Proof proof) = ProofFits version proof
