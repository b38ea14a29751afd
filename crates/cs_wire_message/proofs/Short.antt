-- How long bodies are at most.
use Rattle.std.proofs.Common.{◌≡◌, ℕ, ◌+◌, ◌*◌, ◌≤◌, ◌++◌, List, [], ◌∷◌, length, Option, Some, None, refl, arith}
use Rattle.std.specs.List.{AllByRecursion}
use Rattle.std.specs.Int.{w16, w64, to_be_bytes}
use Rattle.std.proofs.lemmas.List.{length-append}
use Rattle.cs_base.specs.declared.limits.TheConstants.{MOST_BODY}
use Rattle.cs_base.specs.declared.version.Version.{Version}
use Rattle.cs_base.specs.declared.version.Version.TheVariants.{One, Two}
use Rattle.cs_base.specs.declared.key.Key.{Key}
use Rattle.cs_base.specs.declared.key.Key.TheVariants as key
use Rattle.cs_base.specs.Fields.{each, counted}
use Rattle.cs_tx_value.specs.Key.{key_encoding, KeyFits}
use Rattle.cs_tx_value.specs.Object.{object_encoding, DigestFits}
use Rattle.cs_tx_types.specs.declared.vote.Vote.{Vote}
use Rattle.cs_tx_types.specs.declared.vote.Vote.TheVariants as vote
use Rattle.cs_tx_types.specs.declared.effect.Effect.{Effect}
use Rattle.cs_tx_types.specs.declared.effect.Effect.TheVariants as effect
use Rattle.cs_tx_types.specs.declared.state.State.{State}
use Rattle.cs_tx_types.specs.declared.state.State.TheVariants as state
use Rattle.cs_tx_types.specs.declared.leaf.Leaf.{Leaf}
use Rattle.cs_tx_types.specs.declared.checkpoint.Checkpoint.{Checkpoint}
use Rattle.cs_tx_types.specs.declared.proof.Proof.{Proof}
use Rattle.cs_tx_types.specs.Session.{session_encoding, vote_encoding, action_encoding}
use Rattle.cs_tx_types.specs.Entry.{entry_encoding, entry_limit}
use Rattle.cs_tx_types.specs.laws.Session.{session_short, action_short}
use Rattle.cs_tx_types.specs.laws.Entry.{entry_short}
use Rattle.cs_tx_types.specs.State.{readers_encoding, state_encoding, StateFits}
use Rattle.cs_tx_types.specs.Sized.{sized}
use Rattle.cs_tx_types.specs.laws.Sized.{length_sized}
use Rattle.cs_tx_types.specs.Log.{effect_encoding, place_encoding, LeavesFit, leaves_encoding, leaf_encoding, LeafFits, checkpoint_encoding, CheckpointFits, last_place, most_path, index_encoding, proof_encoding, ProofFits}
use Rattle.cs_wire_message.specs.declared.change.Change.{Change}
use Rattle.cs_wire_message.specs.declared.message.Message.{Message}
use Rattle.cs_wire_message.specs.declared.message.Message.TheVariants as message
use Rattle.cs_wire_message.specs.Message.{body_of, MessageFits, prepared_encoding, PreparedFits, echo_encoding, Rise, change_encoding, ChangeFits, flag_encoding}

key_short : (k : Key) → KeyFits k → length (key_encoding k) ≤ 33
key_short (key.Object digest) fits = omega (arith, fits.0)
key_short (key.Dummy shard serial) fits = omega arith

abbrev digests_of : List (List ℕ) → List ℕ
digests_of digests = each (λ digest. digest) digests

digests_length : (digests : List (List ℕ)) → AllByRecursion DigestFits digests → length (digests_of digests) ≡ 32 * length digests
digests_length [] fits = refl
digests_length (digest ∷ digests) fits =
    omega (arith, fits.0.0, length-append digest (digests_of digests), digests_length digests fits.1)

state_short : (s : State) → StateFits s → length (state_encoding s) ≤ 6146
state_short state.Unknown fits = omega arith
state_short (state.Active object) fits = omega (arith, fits.small)
state_short (state.Locked object by) fits = omega (arith, fits.0.small, fits.1.0, length-append (object_encoding object) by)
state_short (state.Inactive by) fits = omega (arith, fits.0)
state_short (state.Shared object readers) fits = omega (
  arith,
  fits.0.small,
  fits.1.0.1.0,
  digests_length readers fits.1.0.1.1,
  length-append (object_encoding object) (readers_encoding readers),
)

vote_one : (v : Vote) → length (vote_encoding v) ≡ 1
vote_one vote.Abort = refl
vote_one vote.Commit = refl

effect_one : (e : Effect) → length (effect_encoding e) ≡ 1
effect_one (effect.Voted vote.Abort) = refl
effect_one (effect.Voted vote.Commit) = refl
effect_one effect.Accepted = refl
effect_one effect.Aborted = refl
effect_one effect.Skipped = refl
effect_one effect.Void = refl

-- what version 1 leaves out has few bytes in version 2
limit_small : (version : Version) → entry_limit version ≤ 16384
limit_small One = omega arith
limit_small Two = omega arith

place_few : (version : Version) (place : ℕ) → length (place_encoding version place) ≤ 1
place_few One place = omega arith
place_few Two place = omega arith

leaves_few : (version : Version) (leaves : ℕ) → length (leaves_encoding version leaves) ≤ 2
leaves_few One leaves = omega arith
leaves_few Two leaves = omega arith

index_few : (version : Version) (place : ℕ) → length (index_encoding version place) ≤ 2
index_few One place = omega arith
index_few Two place = omega arith

path_few : (version : Version) → most_path version ≤ 9
path_few One = omega arith
path_few Two = omega arith

leaf_short : (version : Version) (l : Leaf) → LeafFits version l → length (leaf_encoding version l) ≤ 8367
leaf_short version l fits = omega (
  arith,
  action_short l.action fits.action,
  effect_one l.result,
  place_few version l.place,
  length_sized action_encoding l.action,
  length-append (to_be_bytes w64 l.slot) (place_encoding version l.place ++ (sized action_encoding l.action ++ effect_encoding l.result)),
  length-append (place_encoding version l.place) (sized action_encoding l.action ++ effect_encoding l.result),
  length-append (sized action_encoding l.action) (effect_encoding l.result),
)

checkpoint_short : (version : Version) (c : Checkpoint) → CheckpointFits version c → length (checkpoint_encoding version c) ≤ 108
checkpoint_short version c fits =
    let end = leaves_encoding version c.leaves in
    omega (
      arith,
      fits.previous.0,
      fits.leaf_root.0,
      fits.table_root.0,
      leaves_few version c.leaves,
      length-append (to_be_bytes w16 c.shard) (to_be_bytes w64 c.number ++ (c.previous ++ (c.leaf_root ++ (c.table_root ++ end)))),
      length-append (to_be_bytes w64 c.number) (c.previous ++ (c.leaf_root ++ (c.table_root ++ end))),
      length-append c.previous (c.leaf_root ++ (c.table_root ++ end)),
      length-append c.leaf_root (c.table_root ++ end),
      length-append c.table_root end,
    )

proof_short : (version : Version) (p : Proof) → ProofFits version p → length (proof_encoding version p) ≤ 9000
proof_short version p fits =
    let path = counted (λ digest. digest) p.path in
    omega (
      arith,
      fits.path.0,
      path_few version,
      index_few version p.place,
      checkpoint_short version p.checkpoint fits.checkpoint,
      leaf_short version p.leaf fits.leaf,
      length_sized (leaf_encoding version) p.leaf,
      digests_length p.path fits.path.1,
      length-append (checkpoint_encoding version p.checkpoint) (index_encoding version p.place ++ (sized (leaf_encoding version) p.leaf ++ path)),
      length-append (index_encoding version p.place) (sized (leaf_encoding version) p.leaf ++ path),
      length-append (sized (leaf_encoding version) p.leaf) path,
    )

echoed_length : (view : ℕ) (last : Option (List ℕ)) (echoed : List (List ℕ × ℕ)) → Rise view last echoed → length (each echo_encoding echoed) ≡ 34 * length echoed
echoed_length view last [] rise = refl
echoed_length view last (echo ∷ echoed) rise = omega (
  arith,
  rise.0.0.0.0,
  length-append (echo_encoding echo) (each echo_encoding echoed),
  length-append echo.0 (to_be_bytes w16 echo.1),
  echoed_length view (Some echo.0) echoed rise.1,
)

prepared_short : (view : ℕ) (p : Option (ℕ × List ℕ)) → PreparedFits view p → length (prepared_encoding p) ≤ 35
prepared_short view None fits = omega arith
prepared_short view (Some p) fits = omega (arith, fits.1.0, length-append (to_be_bytes w16 p.0) p.1)

change_short : (view : ℕ) (c : Change) → ChangeFits view c → length (change_encoding c) ≤ 600
change_short view c fits = omega (
  arith,
  fits.few,
  prepared_short view c.prepared fits.prepared,
  echoed_length view None c.echoed fits.rise,
  length-append (prepared_encoding c.prepared) (counted echo_encoding c.echoed),
)

step_length : (slot view : ℕ) (rest : List ℕ) → length (to_be_bytes w64 slot ++ (to_be_bytes w16 view ++ rest)) ≡ 10 + length rest
step_length slot view rest = omega (arith, length-append (to_be_bytes w64 slot) (to_be_bytes w16 view ++ rest), length-append (to_be_bytes w16 view) rest)

-- no body of a message that fits is longer than a datagram holds
pub body_short : (version : Version) (m : Message) → MessageFits version m → length (body_of version m) ≤ MOST_BODY
body_short version (message.Submit x) fits = omega (arith, session_short x fits)
body_short version (message.Propose slot view entry) fits = omega (arith, entry_short version entry fits.1.1, limit_small version, step_length slot view (entry_encoding version entry))
body_short version (message.Echo slot view digest) fits = omega (arith, fits.1.1.0, step_length slot view digest)
body_short version (message.Confirm slot view digest) fits = omega (arith, fits.1.1.0, step_length slot view digest)
body_short version (message.Change slot view change) fits = omega (arith, change_short view change fits.1.1.1, step_length slot view (change_encoding change))
body_short version (message.Voted vote asks x) fits = omega (arith, session_short x fits, vote_one vote, length-append (vote_encoding vote) (flag_encoding asks ++ session_encoding x), length-append (flag_encoding asks) (session_encoding x))
body_short version (message.Decided digest accepted) fits = omega (arith, fits.0, length-append digest (flag_encoding accepted))
body_short version (message.Want slot) fits = omega arith
body_short version (message.Done slot entry) fits = omega (arith, entry_short version entry fits.1, limit_small version, length-append (to_be_bytes w64 slot) (entry_encoding version entry))
body_short version (message.Ask None) fits = omega arith
body_short version (message.Ask (Some k)) fits = omega (arith, key_short k fits)
body_short version (message.Told k s) fits = omega (arith, key_short k fits.0, state_short s fits.1, length-append (key_encoding k) (state_encoding s))
body_short version (message.Head checkpoint) fits = omega (arith, checkpoint_short version checkpoint fits)
body_short version (message.AskProof slot place) fits = omega (arith, place_few version place, length-append (to_be_bytes w64 slot) (place_encoding version place))
body_short version (message.Proof proof) fits = omega (arith, proof_short version proof fits)
