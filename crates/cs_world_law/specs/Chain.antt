-- The world at the grain of marks: moments, what holds of each by those before it, and what is read off them.
use Rattle.std.specs.Prelude.{◌≡◌, ℕ, ◌+◌, ◌*◌, ◌<◌, ◌==◌, Bool, true, false, if◌then◌else◌, List, [], ◌∷◌, ◌++◌, Some, Ok}
use Rattle.cs_base.specs.Lists.{IsIn}
use Rattle.cs_base.specs.declared.node_id.NodeId.{NodeId}
use Rattle.cs_base.specs.NodeId.{is_client, same_name}
use Rattle.cs_tx_types.specs.declared.checkpoint.Checkpoint.{Checkpoint}
use Rattle.cs_tx_types.specs.declared.session.Session.{Session}
use Rattle.cs_tx_types.specs.declared.action.Action.{Action}
use Rattle.cs_tx_types.specs.declared.entry.Entry.{Entry}
use Rattle.cs_tx_types.specs.Entry.{EntryFits}
use Rattle.cs_order.specs.declared.proposed.Proposed.{Proposed}
use Rattle.cs_wire_message.specs.declared.message.Message.{Message}
use Rattle.cs_wire_message.specs.declared.message.Message.TheVariants as message
use Rattle.cs_base.specs.declared.version.Version.{Version}
use Rattle.cs_wire_message.specs.Message.{MessageFits}
use Rattle.cs_order.specs.Runs.{Act, FewLiars}
use Rattle.cs_order.specs.Law.{Law, Holds}
use Rattle.cs_ledger.specs.Ledger.{Bytes}
use Rattle.cs_node_rules.specs.Net.{sealed_by_net}
use Rattle.cs_node_rules.specs.Signs.{Sign, Dropped, Took, Entered, Viewed, Did, Headed, Kept, Sent}
use Rattle.cs_node_rules.specs.Site.{Datagram, Tick, Mark, In, Ordered, Plain, Site, signs_of}
use Rattle.cs_node_rules.specs.World.{Happening, Execution, with_first_execution}
use Rattle.cs_node_rules.specs.Collisions.{sessions_in, entries_in, entries_of}
use Rattle.cs_node_rules.specs.Carrying.{Carries}
use Rattle.cs_node_rules.specs.Deployment.{proposed_of}
use Rattle.cs_node_law.specs.Made.{current, HasDigests, IsMade}
use Rattle.cs_world_law.specs.Worlds.{is_honest}
use Rattle.cs_world_law.specs.Steps.{Run}

-- a mark of a node
pub record Moment (M : Type 0) : Type 0 where
  pub node : NodeId
  pub mark : Mark M

abbrev pub at_node : {M : Type 0} → NodeId → List (Mark M) → List (Moment M)
at_node {M} i [] = []
at_node {M} i (mark ∷ past) = record { node = i; mark = mark } ∷ at_node i past

abbrev pub moments : {M : Type 0} → List (Happening M) → List (Moment M)
moments {M} [] = []
moments {M} (h ∷ past) = at_node h.node h.marks ++ moments past

-- the marks of a node
abbrev pub trail_at : {M : Type 0} → NodeId → List (Moment M) → List (Mark M)
trail_at {M} i [] = []
trail_at {M} i (m ∷ past) = if same_name m.node i then m.mark ∷ trail_at i past else trail_at i past

-- ---- why a moment may follow

-- the sessions and the entries of which the hashed strings are made
pub record Known : Type 0 where
  pub sessions : List Session
  pub entries : List Entry

-- a message within the limits of a version, of known sessions and entries
pub record IsFine (version : Version) (known : Known) (said : Message) : Type 0 where
  pub fits : MessageFits version said
  pub sessions : (x : Session) → IsIn x (sessions_in said) → IsIn x known.sessions
  pub entries : (e : Entry) → IsIn e (entries_in said) → IsIn e known.entries

-- what a node is given is fine, and what it proposes is known
abbrev pub IsWithinKnown : {M : Type 0} → Site M → Known → NodeId → Mark M → Type 0
IsWithinKnown {M} site known me (In (Datagram bytes)) =
    (sender : NodeId) (said : Message) → site.net.opened me bytes ≡ Ok (sender, said) →
    IsFine site.setup.version known said
IsWithinKnown {M} site known me (In Tick) = Unit {0}
IsWithinKnown {M} site known me (Ordered deed) = (e : Entry) → IsIn e (entries_of site deed) → IsIn e known.entries
IsWithinKnown {M} site known me (Plain sign) = Unit {0}

-- the node has sent exactly this datagram
pub record HasSealed {M : Type 0} (site : Site M) (from to : NodeId) (bytes : Bytes) (signs : List Sign) : Type 0 where
  pub said : Message
  pub sent : IsIn (Sent to said) signs
  pub is : bytes ≡ sealed_by_net site.net from to said

-- what a node works on as from an honest node, that node had sent
abbrev pub IsBacked : {M : Type 0} → Site M → NodeId → List (Mark M) → List (Moment M) → Type 0
IsBacked {M} site i t past =
    (bytes : Bytes) (sender : NodeId) (said : Message) →
    current t ≡ Some (Datagram bytes) → site.net.opened i bytes ≡ Ok (sender, said) →
    is_honest site sender ≡ true → HasSealed site sender i bytes (signs_of (trail_at sender past))

pub record MomentFollows {M : Type 0} (site : Site M) (known : Known) (past : List (Moment M)) (m : Moment M) : Type 0 where
  pub honest : is_honest site m.node ≡ true
  pub made : IsMade site m.node (trail_at m.node past) m.mark
  pub within : IsWithinKnown site known m.node m.mark
  pub backed : IsBacked site m.node (trail_at m.node past) past

-- marks of honest nodes, each made by the rules of its node, whose inputs are no forgeries
abbrev pub Story : {M : Type 0} → Site M → Known → List (Moment M) → Type 0
Story {M} site known [] = Unit {0}
Story {M} site known (m ∷ past) = MomentFollows site known past m × Story site known past

-- ---- what is known of the functions of a site

pub record IsSoundSite {M : Type 0} (site : Site M) : Type 0 where
  pub law : Law site.machine
  pub holds : Holds site.machine
  pub carries : Carries site.setup.version site.machine site.carrier
  pub serves : site.machine.serves site.setup.f ≡ true
  pub few : (shard : ℕ) → shard < site.setup.shards →
      FewLiars site.setup.f (λ index. is_honest site (record { shard = shard; index = index }))
  -- honest nodes are nodes, and no clients
  pub shard : (name : NodeId) → is_honest site name ≡ true → name.shard < site.setup.shards
  pub index : (name : NodeId) → is_honest site name ≡ true → name.index < 3 * site.setup.f + 1
  pub apart : (name : NodeId) → is_honest site name ≡ true → is_client name ≡ false
  -- what opens is the message that was sealed; of a slot that is asked for and of a checkpoint the numbers may be cut
  pub exact : (from to sender : NodeId) (m said : Message) →
      is_honest site from ≡ true → is_honest site to ≡ true → MessageFits site.setup.version m →
      site.net.opened to (sealed_by_net site.net from to m) ≡ Ok (sender, said) → said ≡ m
  pub wanted : (from to sender : NodeId) (slot : ℕ) (said : Message) →
      is_honest site from ≡ true → is_honest site to ≡ true →
      site.net.opened to (sealed_by_net site.net from to (message.Want slot)) ≡ Ok (sender, said) →
      (other : ℕ) × (said ≡ message.Want other)
  pub headed : (from to sender : NodeId) (c : Checkpoint) (said : Message) →
      is_honest site from ≡ true → is_honest site to ≡ true → HasDigests c →
      site.net.opened to (sealed_by_net site.net from to (message.Head c)) ≡ Ok (sender, said) →
      (other : Checkpoint) × (said ≡ message.Head other)
  -- entries are proposed as they are written, and read back
  pub proposes : (entry : Entry) → site.proposed_of entry ≡ proposed_of site.setup.version entry
  pub reads : (entry : Entry) → EntryFits site.setup.version entry →
      site.entry_in (proposed_of site.setup.version entry) ≡ entry
  -- what is read of any bytes has an encoding
  pub read : (proposed : Proposed) → EntryFits site.setup.version (site.entry_in proposed)
  pub bound : (name : Bytes) → site.setup.rules.shard_of name < site.setup.shards

-- no two known entries have one digest in a version
abbrev pub IsUnique : Version → List Entry → Type 0
IsUnique version entries =
    (a b : Entry) → IsIn a entries → IsIn b entries →
    (proposed_of version a).digest ≡ (proposed_of version b).digest →
    (proposed_of version a).bytes ≡ (proposed_of version b).bytes

-- ---- what is read off a story

-- the deeds of a shard
abbrev pub acts_at : {M : Type 0} → ℕ → NodeId → Mark M → List (Act M) → List (Act M)
acts_at {M} shard node (In input) acts = acts
acts_at {M} shard node (Ordered deed) acts =
    if node.shard == shard then record { member = node.index; deed = deed } ∷ acts else acts
acts_at {M} shard node (Plain sign) acts = acts

abbrev pub shard_acts : {M : Type 0} → ℕ → List (Moment M) → List (Act M)
shard_acts {M} shard [] = []
shard_acts {M} shard (m ∷ past) = acts_at shard m.node m.mark (shard_acts shard past)

abbrev pub is_honest_in : {M : Type 0} → Site M → ℕ → ℕ → Bool
is_honest_in {M} site shard index = is_honest site (record { shard = shard; index = index })

-- the first execution in each place of each slot of each shard
abbrev pub firsts_at : {M : Type 0} → NodeId → Mark M → List Execution → List Execution
firsts_at {M} node (In input) firsts = firsts
firsts_at {M} node (Ordered deed) firsts = firsts
firsts_at {M} node (Plain sign) firsts = with_first_execution node.shard sign firsts

abbrev pub story_firsts : {M : Type 0} → List (Moment M) → List Execution
story_firsts {M} [] = []
story_firsts {M} (m ∷ past) = firsts_at m.node m.mark (story_firsts past)

-- what a shard executed, the newest first
abbrev pub shard_entries : ℕ → List Execution → List Action
shard_entries shard [] = []
shard_entries shard (e ∷ earlier) = if e.shard == shard then e.entry ∷ shard_entries shard earlier else shard_entries shard earlier

-- what a shard executed, each in its place, the newest first
abbrev pub shard_runs : ℕ → List Execution → List Run
shard_runs shard [] = []
shard_runs shard (e ∷ earlier) =
    if e.shard == shard
    then record { slot = e.slot; place = e.place; action = e.entry } ∷ shard_runs shard earlier
    else shard_runs shard earlier

-- what a node executed
abbrev pub runs_in : List Sign → List Run
runs_in [] = []
runs_in (Did slot place action effect ∷ past) = record { slot = slot; place = place; action = action } ∷ runs_in past
runs_in (Dropped cause ∷ past) = runs_in past
runs_in (Took sender vote x ∷ past) = runs_in past
runs_in (Entered x ∷ past) = runs_in past
runs_in (Viewed slot view ∷ past) = runs_in past
runs_in (Headed number head ∷ past) = runs_in past
runs_in (Kept index checkpoint ∷ past) = runs_in past
runs_in (Sent to message ∷ past) = runs_in past
