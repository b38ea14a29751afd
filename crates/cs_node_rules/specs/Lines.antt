-- The lines of what a node did, and the datagrams that it sent.
use Rattle.std.specs.Prelude.{ℕ, Bool, false, List, [], ◌∷◌, ◌++◌, length, codes, if◌then◌else◌}
use Rattle.std.specs.Fmt.{decimal}
use Rattle.cs_base.specs.declared.node_id.NodeId.{NodeId}
use Rattle.cs_base.specs.NodeId.{node_text}
use Rattle.cs_base.specs.Codes.{bytes_text}
use Rattle.cs_ledger.specs.Ledger.{Bytes}
use Rattle.cs_wire.specs.declared.opening.OpenError.{OpenError}
use Rattle.cs_wire.specs.declared.opening.OpenError.TheVariants as error
use Rattle.cs_ledger.specs.Table.{Commit, Abort, Effect, Voted, Accepted, Aborted, Skipped, Void}
use Rattle.cs_node_rules.specs.declared.cause.Cause.{Cause}
use Rattle.cs_node_rules.specs.declared.cause.Cause.TheVariants as cause
use Rattle.cs_node_state.specs.Setup.{Setup, digest_of}
use Rattle.cs_tx_types.specs.Session.{session_in}
use Rattle.cs_node_rules.specs.Net.{Net, sealed_by_net}
use Rattle.cs_node_rules.specs.Signs.{Sign, Dropped, Took, Entered, Viewed, Did, Headed, Kept, Sent}

-- ---- what a node did

-- what an execution came to, of a session of that digest
abbrev pub effect_text : Bytes → Effect → Bytes
effect_text digest (Voted Commit) = codes "prepare " ++ (bytes_text digest ++ codes " commit")
effect_text digest (Voted Abort) = codes "prepare " ++ (bytes_text digest ++ codes " abort")
effect_text digest Accepted = codes "decide " ++ (bytes_text digest ++ codes " accepted")
effect_text digest Aborted = codes "decide " ++ (bytes_text digest ++ codes " aborted")
effect_text digest Skipped = codes "decide " ++ (bytes_text digest ++ codes " skipped")
effect_text digest Void = codes "void"

abbrev pub slot_line : NodeId → ℕ → Bytes → Effect → Bytes
slot_line me slot digest effect =
    codes "node " ++ (node_text me ++ (codes " slot " ++ (decimal slot
    ++ (codes " " ++ (effect_text digest effect ++ codes "\n")))))

abbrev pub error_text : OpenError → Bytes
error_text error.Short = codes "short"
error_text error.Magic = codes "magic"
error_text error.Kind = codes "kind"
error_text error.NotMine = codes "mine"
error_text error.Stranger = codes "stranger"
error_text error.Length = codes "length"
error_text error.Tag = codes "tag"
error_text error.Body = codes "body"

abbrev pub drop_cause_text : Cause → Bytes
drop_cause_text (cause.Unopened error) = error_text error
drop_cause_text cause.Mine = codes "mine"
drop_cause_text cause.Role = codes "role"
drop_cause_text cause.Malformed = codes "malformed"
drop_cause_text cause.Old = codes "old"
drop_cause_text cause.Far = codes "far"
drop_cause_text cause.Leader = codes "leader"
drop_cause_text cause.Repeat = codes "repeat"
drop_cause_text cause.Unasked = codes "unasked"
drop_cause_text cause.Denied = codes "denied"
drop_cause_text cause.Full = codes "full"
drop_cause_text cause.NoProof = codes "noproof"

abbrev pub drop_line : NodeId → Cause → Bytes
drop_line me cause = codes "drop " ++ (node_text me ++ (codes " " ++ (drop_cause_text cause ++ codes "\n")))

-- the node entered a view of a slot
abbrev pub view_line : NodeId → ℕ → ℕ → Bytes
view_line me slot view =
    codes "view " ++ (node_text me ++ (codes " slot " ++ (decimal slot ++ (codes " " ++ (decimal view ++ codes "\n")))))

-- the node made a checkpoint
abbrev pub head_line : NodeId → ℕ → Bytes → Bytes
head_line me number head =
    codes "node " ++ (node_text me ++ (codes " head " ++ (decimal number
    ++ (codes " " ++ (bytes_text head ++ codes "\n")))))

-- what is printed in a trace alone
abbrev pub if_traced : Bool → Bytes → Bytes
if_traced traced text = if traced then text else []

-- the line of a sign, if it has one; what was sent has its line after these
abbrev pub sign_line : Setup → Bool → NodeId → Sign → Bytes
sign_line setup traced me (Did slot place entry effect) = slot_line me slot (digest_of setup (session_in entry)) effect
sign_line setup traced me (Dropped cause) = if_traced traced (drop_line me cause)
sign_line setup traced me (Viewed slot view) = if_traced traced (view_line me slot view)
sign_line setup traced me (Headed number head) = head_line me number head
sign_line setup traced me (Took sender vote x) = []
sign_line setup traced me (Entered x) = []
sign_line setup traced me (Kept index checkpoint) = []
sign_line setup traced me (Sent to message) = []

-- the lines of an event's signs, in the order in which they came about
abbrev pub sign_lines : Setup → Bool → NodeId → List Sign → Bytes
sign_lines setup traced me [] = []
sign_lines setup traced me (sign ∷ past) = sign_lines setup traced me past ++ sign_line setup traced me sign

-- ---- what it sent

-- a datagram that an honest node sent; whether it came to its addressee
pub record Parcel : Type 0 where
  pub from : NodeId
  pub to : NodeId
  pub bytes : Bytes
  pub arrived : Bool

-- what the signs of a node sent, in the order in which it was sent
abbrev pub parcels_of : Net → NodeId → List Sign → List Parcel
parcels_of net me [] = []
parcels_of net me (Sent to message ∷ past) =
    parcels_of net me past ++ record { from = me; to = to; bytes = sealed_by_net net me to message; arrived = false } ∷ []
parcels_of net me (Dropped cause ∷ past) = parcels_of net me past
parcels_of net me (Took sender vote x ∷ past) = parcels_of net me past
parcels_of net me (Entered x ∷ past) = parcels_of net me past
parcels_of net me (Viewed slot view ∷ past) = parcels_of net me past
parcels_of net me (Did slot place entry effect ∷ past) = parcels_of net me past
parcels_of net me (Headed number head ∷ past) = parcels_of net me past
parcels_of net me (Kept index checkpoint ∷ past) = parcels_of net me past
