-- Why a mark may stand after the marks of its node that came before it. Marks and signs are newest first.
use Rattle.std.specs.Prelude.{◌≡◌, ◌⊎◌, ℕ, ◌+◌, Bool, true, false, ◌&&◌, ◌||◌, List, [], ◌∷◌, ◌++◌, length, take, Option, Some, None, Ok, slice_get}
use Rattle.cs_tx.specs.Votes.{vote_of}
use Rattle.cs_base.specs.declared.node_id.NodeId.{NodeId}
use Rattle.cs_base.specs.NodeId.{is_client}
use Rattle.cs_tx_value.specs.Object.{DigestFits}
use Rattle.cs_tx_types.specs.declared.checkpoint.Checkpoint.{Checkpoint}
use Rattle.cs_tx_types.specs.declared.session.Session.{Session}
use Rattle.cs_tx_types.specs.declared.vote.Vote.{Vote as Said}
use Rattle.cs_tx_types.specs.declared.action.Action.{Action}
use Rattle.cs_tx_types.specs.declared.entry.Entry.{Entry}
use Rattle.cs_tx_types.specs.declared.action.Action.TheVariants.{Prepare}
use Rattle.cs_wire_message.specs.declared.message.Message.{Message}
use Rattle.cs_wire_message.specs.declared.message.Message.TheVariants as message
use Rattle.cs_wire_message.specs.Message.{MessageFits}
use Rattle.cs_tx_types.specs.Entry.{EntryFits}
use Rattle.cs_check_rules.specs.Chain.{chain_head, cut_slot}
use Rattle.cs_order.specs.declared.proposed.Proposed.{Proposed}
use Rattle.cs_order.specs.declared.answers.May.TheVariants.{Only}
use Rattle.cs_base.specs.Lists.{IsIn}
use Rattle.cs_order.specs.Deeds.{Deed, Took_in, Advanced, Echoed, Proposing, Ticked, Resent, Replied, Cut, sent_by, chosen_in, kept_from}
use Rattle.cs_order.specs.Runs.{KeepsRules, IsFor}
use Rattle.cs_ledger.specs.Ledger.{Bytes}
use Rattle.cs_ledger.specs.Table.{Vote, Commit, Effect, Voted, exec}
use Rattle.cs_ledger.specs.ShardWorld.{is_vote}
use Rattle.cs_node_rules.specs.declared.cause.Cause.{Cause}
use Rattle.cs_node_state.specs.Setup.{Setup, digest_of, is_concerned_shard, is_fit, is_session_approved, entry_of, prepares}
use Rattle.cs_node_state.specs.Admission.{due}
use Rattle.cs_node_state.specs.Bench.{is_locked, noted, decision_on}
use Rattle.cs_node_rules.specs.Signs.{Sign, Dropped, Took, Entered, Viewed, Did, Headed, Kept, Sent}
use Rattle.cs_node_rules.specs.Site.{Input, Datagram, Tick, Mark, In, Ordered, Plain, Site, View, start_view, view_after, signs_of}
use Rattle.cs_node_rules.specs.Trail.{admits_proposed, opened_marks, event_marks}
use Rattle.cs_node_rules.specs.World.{Happening, view_of, IsLife}
use Rattle.cs_node_rules.specs.Ready.{IsQuiet}
use Rattle.cs_node_rules.specs.Collisions.{sessions_in, given}
use Rattle.cs_node_rules.specs.Carrying.{is_ordering}

-- a node after its marks
abbrev pub view_at : {M : Type 0} → Site M → NodeId → List (Mark M) → View M
view_at {M} site me t = view_after site t (start_view site me)

-- the actions that were executed
abbrev pub log_in : List Sign → List Action
log_in [] = []
log_in (Did slot place action effect ∷ past) = action ∷ log_in past
log_in (Dropped cause ∷ past) = log_in past
log_in (Took sender vote x ∷ past) = log_in past
log_in (Entered x ∷ past) = log_in past
log_in (Viewed slot view ∷ past) = log_in past
log_in (Headed number head ∷ past) = log_in past
log_in (Kept index checkpoint ∷ past) = log_in past
log_in (Sent to message ∷ past) = log_in past

-- a Prepare of exactly this session was executed, and gave a vote
abbrev pub HasVotedOn : Session → List Sign → Type 0
HasVotedOn x [] = ⊥
HasVotedOn x (Did slot place action effect ∷ past) =
    ((action ≡ Prepare x) × ((vote : Vote) × (effect ≡ Voted vote))) ⊎ HasVotedOn x past
HasVotedOn x (Dropped cause ∷ past) = HasVotedOn x past
HasVotedOn x (Took sender vote y ∷ past) = HasVotedOn x past
HasVotedOn x (Entered y ∷ past) = HasVotedOn x past
HasVotedOn x (Viewed slot view ∷ past) = HasVotedOn x past
HasVotedOn x (Headed number head ∷ past) = HasVotedOn x past
HasVotedOn x (Kept index checkpoint ∷ past) = HasVotedOn x past
HasVotedOn x (Sent to message ∷ past) = HasVotedOn x past

-- a Prepare of a session of this digest was executed, with this vote
abbrev pub has_given : Setup → Bytes → Vote → List Sign → Bool
has_given setup d vote [] = false
has_given setup d vote (Did slot place action effect ∷ past) =
    (prepares setup d action && is_vote vote effect) || has_given setup d vote past
has_given setup d vote (Dropped cause ∷ past) = has_given setup d vote past
has_given setup d vote (Took sender other x ∷ past) = has_given setup d vote past
has_given setup d vote (Entered x ∷ past) = has_given setup d vote past
has_given setup d vote (Viewed slot view ∷ past) = has_given setup d vote past
has_given setup d vote (Headed number head ∷ past) = has_given setup d vote past
has_given setup d vote (Kept index checkpoint ∷ past) = has_given setup d vote past
has_given setup d vote (Sent to message ∷ past) = has_given setup d vote past

-- the input that the node is at work on
abbrev pub current : {M : Type 0} → List (Mark M) → Option Input
current {M} [] = None
current {M} (In input ∷ past) = Some input
current {M} (Ordered deed ∷ past) = current past
current {M} (Plain sign ∷ past) = current past

-- that input says this, as from this sender
pub record IsHeard {M : Type 0} (site : Site M) (v : View M) (t : List (Mark M))
    (sender : NodeId) (said : Message) : Type 0 where
  pub bytes : Bytes
  pub is_current : current t ≡ Some (Datagram bytes)
  pub reads : site.net.opened v.me bytes ≡ Ok (sender, said)

-- a message offers this session, which may be voted on
pub record IsOffered {M : Type 0} (site : Site M) (v : View M) (t : List (Mark M)) (x : Session) : Type 0 where
  pub sender : NodeId
  pub said : Message
  pub heard : IsHeard site v t sender said
  pub about : IsIn x (sessions_in said)
  pub fit : is_fit site.setup v.me.shard x ≡ true
  pub approved : is_session_approved site.setup x ≡ true

-- a node of a concerned shard votes on this session
pub record IsVoted {M : Type 0} (site : Site M) (v : View M) (t : List (Mark M))
    (sender : NodeId) (vote : Said) (x : Session) : Type 0 where
  pub asks : Bool
  pub heard : IsHeard site v t sender (message.Voted vote asks x)
  pub fit : is_fit site.setup v.me.shard x ≡ true
  pub concerned : is_concerned_shard site.setup x sender.shard ≡ true

-- the order's message of another member
pub record IsTaken {M : Type 0} (site : Site M) (v : View M) (t : List (Mark M)) (from : ℕ) (m : M) : Type 0 where
  pub said : Message
  pub heard : IsHeard site v t (record { shard = v.me.shard; index = from }) said
  pub reads : site.carrier.read said ≡ Some m

-- what is echoed is the pending proposal, which the node admits
pub record IsEchoable {M : Type 0} (site : Site M) (v : View M) : Type 0 where
  pub proposed : Proposed
  pub pending : site.machine.pending v.member ≡ Some proposed
  pub admitted : admits_proposed site v proposed ≡ true

-- what is proposed is the due entry
pub record IsDue {M : Type 0} (site : Site M) (v : View M) (proposed : Proposed) : Type 0 where
  pub entry : Entry
  pub is : proposed ≡ site.proposed_of entry
  pub due : due site.setup v.bench.pool ≡ Some entry

-- or one of the order's candidates, which the node admits
pub record IsCandidate {M : Type 0} (site : Site M) (v : View M) (proposed : Proposed) : Type 0 where
  pub candidates : List Proposed
  pub may : site.machine.may_propose v.member ≡ Only candidates
  pub within : IsIn proposed candidates
  pub admitted : admits_proposed site v proposed ≡ true

-- Why the node lets its order do this deed.
abbrev pub DeedMade : {M : Type 0} → Site M → View M → List (Mark M) → Deed M → Type 0
DeedMade {M} site v t (Took_in from m) = IsTaken site v t from m
DeedMade {M} site v t (Advanced step sent) = Unit {0}
DeedMade {M} site v t (Echoed sent) = IsEchoable site v
DeedMade {M} site v t (Proposing proposed sent) = IsDue site v proposed ⊎ IsCandidate site v proposed
DeedMade {M} site v t (Ticked on sent) = Unit {0}
DeedMade {M} site v t (Resent sent) = Unit {0}
DeedMade {M} site v t (Replied slot to sent) = Unit {0}
DeedMade {M} site v t (Cut slot) = Unit {0}

-- the actions of what was chosen, the oldest first
abbrev pub actions_in : {M : Type 0} → Site M → List Proposed → List Action
actions_in {M} site [] = []
actions_in {M} site (proposed ∷ more) = (site.entry_in proposed).actions ++ actions_in site more

-- the next action of what was chosen is executed on the table: the entry of its slot has it at this place
pub record NodeExecutes {M : Type 0} (site : Site M) (v : View M) (signs : List Sign)
    (slot place : ℕ) (action : Action) (effect : Effect) : Type 0 where
  pub computed : effect ≡ (exec site.setup.rules v.me.shard v.bench.table (entry_of site.setup action)).effect
  pub proposed : Proposed
  pub chosen : slice_get (chosen_in v.member.deeds) slot ≡ Some proposed
  pub within : slice_get (site.entry_in proposed).actions place ≡ Some action
  pub next : length (log_in signs) ≡ length (actions_in site (take slot (chosen_in v.member.deeds))) + place

-- one of these deeds handed out a message that is written so, for this member or for all
abbrev pub IsHanded : {M : Type 0} → Site M → ℕ → Message → List (Deed M) → Type 0
IsHanded {M} site to said [] = ⊥
IsHanded {M} site to said (deed ∷ past) =
    ((m : M) × (IsFor m to (sent_by deed) × (site.carrier.written m ≡ said))) ⊎ IsHanded site to said past

-- the session stood in an input of the node, or was voted on
abbrev pub IsKnown : {M : Type 0} → Site M → View M → List (Mark M) → Session → Type 0
IsKnown {M} site v t x = IsIn x (given site sessions_in v.me t) ⊎ HasVotedOn x (signs_of t)

-- a session of this digest, which stood in an input of the node and concerns its shard, stood so in its table after
-- some of these marks: accepted, or aborted
pub record StoodDecided {M : Type 0} (site : Site M) (me : NodeId) (t : List (Mark M)) (digest : Bytes)
    (accepted : Bool) : Type 0 where
  pub session : Session
  pub digest_is : digest ≡ digest_of site.setup session
  pub known : IsIn session (given site sessions_in me t)
  pub fit : is_fit site.setup me.shard session ≡ true
  pub later : List (Mark M)
  pub earlier : List (Mark M)
  pub split : t ≡ later ++ earlier
  pub stood : decision_on site.setup me.shard (view_at site me earlier).bench.table session ≡ Some accepted

-- its hashes are digests
pub record HasDigests (c : Checkpoint) : Type 0 where
  pub previous : DigestFits c.previous
  pub leaf_root : DigestFits c.leaf_root
  pub table_root : DigestFits c.table_root

-- what the node says itself: of votes those that it gave, on sessions that it knows; what slot it wants; a checkpoint, of
-- which the hashes are digests; to clients how sessions stood; and nothing else but to clients, of which nothing is for
-- an order
abbrev pub SaidMade : {M : Type 0} → Site M → View M → List (Mark M) → NodeId → Message → Type 0
SaidMade {M} site v t to (message.Voted vote asks x) =
    (has_given site.setup (digest_of site.setup x) (vote_of vote) (signs_of t) ≡ true) × IsKnown site v t x
SaidMade {M} site v t to (message.Want slot) = Unit {0}
SaidMade {M} site v t to (message.Head checkpoint) = HasDigests checkpoint
SaidMade {M} site v t to (message.Decided digest accepted) =
    (is_client to ≡ true) × StoodDecided site v.me t digest accepted
SaidMade {M} site v t to said = (is_client to ≡ true) × (is_ordering said ≡ false)

-- A vote that was taken is the node's own, which it gave, or was heard; a session that entered was offered, or voted
-- on; a head that it noted is that of its own checkpoint of that number; what was sent was handed out by the order for
-- a member of the shard, or is the node's own word.
abbrev pub SignMade : {M : Type 0} → Site M → View M → List (Mark M) → Sign → Type 0
SignMade {M} site v t (Dropped cause) = Unit {0}
SignMade {M} site v t (Took sender vote x) =
    ((sender ≡ v.me) × (has_given site.setup (digest_of site.setup x) (vote_of vote) (signs_of t) ≡ true))
    ⊎ IsVoted site v t sender vote x
SignMade {M} site v t (Entered x) = IsOffered site v t x ⊎ HasVotedOn x (signs_of t)
SignMade {M} site v t (Viewed slot view) = Unit {0}
SignMade {M} site v t (Headed number head) = chain_head v.bench.log number ≡ Some head
SignMade {M} site v t (Kept index checkpoint) = Unit {0}
SignMade {M} site v t (Did slot place action effect) = NodeExecutes site v (signs_of t) slot place action effect
SignMade {M} site v t (Sent to said) =
    ((to.shard ≡ v.me.shard) × IsHanded site to.index said v.member.deeds) ⊎ SaidMade site v t to said

-- Why the mark may stand after the marks t of a node, which is at v.
abbrev pub MadeAt : {M : Type 0} → Site M → View M → List (Mark M) → Mark M → Type 0
MadeAt {M} site v t (In input) = Unit {0}
MadeAt {M} site v t (Ordered deed) = KeepsRules site.machine v.member deed × DeedMade site v t deed
MadeAt {M} site v t (Plain sign) = SignMade site v t sign

abbrev pub IsMade : {M : Type 0} → Site M → NodeId → List (Mark M) → Mark M → Type 0
IsMade {M} site me t mark = MadeAt site (view_at site me t) t mark

abbrev pub AllMade : {M : Type 0} → Site M → NodeId → List (Mark M) → Type 0
AllMade {M} site me [] = Unit {0}
AllMade {M} site me (mark ∷ past) = IsMade site me past mark × AllMade site me past

-- the marks of a node between its events: each is made, and what was chosen was executed
pub record IsLevel {M : Type 0} (site : Site M) (me : NodeId) (t : List (Mark M)) : Type 0 where
  pub made : AllMade site me t
  pub executed : length (actions_in site (chosen_in (view_at site me t).member.deeds)) ≡ length (log_in (signs_of t))

-- the order's messages that are read are proper, and what is read of proposals are entries that have encodings
pub record ReadsProper {M : Type 0} (site : Site M) : Type 0 where
  pub messages : (said : Message) (m : M) → MessageFits site.setup.version said → site.carrier.read said ≡ Some m →
      site.machine.proper m ≡ true
  pub entries : (proposed : Proposed) → EntryFits site.setup.version (site.entry_in proposed)

-- what the input says to the node is within the limits of messages
abbrev pub InputFits : {M : Type 0} → Site M → NodeId → Input → Type 0
InputFits {M} site me (Datagram bytes) =
    (sender : NodeId) (said : Message) → site.net.opened me bytes ≡ Ok (sender, said) →
    MessageFits site.setup.version said
InputFits {M} site me Tick = Unit {0}

-- The rules of a node add only marks that are made.
abbrev pub EventIsMade : {M : Type 0} → Site M → Type 0
EventIsMade {M} site =
    ReadsProper site → (me : NodeId) (t : List (Mark M)) (input : Input) → InputFits site me input → IsLevel site me t →
    IsLevel site me (event_marks site (view_at site me t) input ++ t)

-- A lock comes from a Prepare of that session that was voted commit.
abbrev pub LocksAreGiven : {M : Type 0} → Site M → Type 0
LocksAreGiven {M} site =
    (me : NodeId) (t : List (Mark M)) (x : Session) → AllMade site me t →
    is_locked site.setup (view_at site me t).me.shard (view_at site me t).bench.table x ≡ true →
    has_given site.setup (digest_of site.setup x) Commit (signs_of t) ≡ true

-- A vote that is on record comes from a Prepare of that session that gave it.
abbrev pub NotesAreGiven : {M : Type 0} → Site M → Type 0
NotesAreGiven {M} site =
    (me : NodeId) (t : List (Mark M)) (x : Session) (vote : Said) → AllMade site me t →
    noted site.setup (view_at site me t).me.shard (view_at site me t).bench.table x ≡ Some vote →
    has_given site.setup (digest_of site.setup x) (vote_of vote) (signs_of t) ≡ true

-- After any events no rule applies at any node.
abbrev pub LivesAreQuiet : {M : Type 0} → Site M → Type 0
LivesAreQuiet {M} site =
    (world : List (Happening M)) → IsLife site world → (i : NodeId) → IsQuiet site (view_of site world i)

-- Where each entry has one action, as in version 1, the order of a node keeps its entries after any events from the
-- slot on from which its chain keeps leaves.
abbrev pub CutsAreAlike : {M : Type 0} → Site M → Type 0
CutsAreAlike {M} site =
    ((proposed : Proposed) → length (site.entry_in proposed).actions ≡ 1) →
    (world : List (Happening M)) → IsLife site world → (i : NodeId) →
    kept_from (view_of site world i).member.deeds ≡ cut_slot (view_of site world i).bench.log

-- Where no rule applies, a datagram that is dropped makes the mark of that alone, and the node stays as it is.
abbrev pub DropChangesNothing : {M : Type 0} → Site M → Type 0
DropChangesNothing {M} site =
    (v : View M) (bytes : Bytes) (cause : Cause) → IsQuiet site v →
    opened_marks site v (site.net.opened v.me bytes) ≡ Plain (Dropped cause) ∷ [] →
    (event_marks site v (Datagram bytes) ≡ Plain (Dropped cause) ∷ In (Datagram bytes) ∷ [])
    × (view_after site (event_marks site v (Datagram bytes)) v ≡ v)
