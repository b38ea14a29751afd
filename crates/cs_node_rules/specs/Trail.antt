-- The rules of a node: the marks that each input makes.
use Rattle.std.specs.Prelude.{ℕ, zero, suc, ◌+◌, ◌-◌, ◌%◌, ◌^◌, ◌==◌, nat_lt, Bool, if◌then◌else◌, List, [], ◌∷◌, ◌++◌, length, Option, Some, None, is_some, Ok, Err}
use Rattle.cs_base.specs.declared.node_id.NodeId.{NodeId}
use Rattle.cs_tx_types.specs.declared.limits.TheConstants.{COVERED}
use Rattle.cs_tx_types.specs.declared.entry.Entry.{Entry}
use Rattle.cs_wire_message.specs.declared.message.Message.{Message}
use Rattle.cs_wire_message.specs.declared.message.Message.TheVariants as message
use Rattle.cs_wire_message.specs.Classes.{Class, OfOrder, class_of}
use Rattle.cs_order.specs.declared.proposed.Proposed.{Proposed}
use Rattle.cs_order.specs.declared.answers.Outgoing.{Outgoing}
use Rattle.cs_order.specs.declared.answers.Took.{Took}
use Rattle.cs_order.specs.declared.answers.Took.TheVariants.{Taken, Old as TooOld, Far as TooFar, Leader as NotLeader, Repeat as Again}
use Rattle.cs_order.specs.declared.answers.Step.{Step}
use Rattle.cs_order.specs.declared.answers.Step.TheVariants.{Chosen, Moved, Quiet}
use Rattle.cs_order.specs.declared.answers.May.{May}
use Rattle.cs_order.specs.declared.answers.May.TheVariants.{No, Free, Only}
use Rattle.cs_order.specs.Deeds.{Deed, Took_in, Advanced, Echoed, Proposing, Ticked, Resent, Replied, Cut, did, sent_by, chosen_in}
use Rattle.cs_wire.specs.Opened.{Opened}
use Rattle.cs_check_rules.specs.Chain.{kept_slots}
use Rattle.cs_node_rules.specs.declared.cause.Cause.{Cause}
use Rattle.cs_node_rules.specs.declared.cause.Cause.TheVariants.{Unopened, Role, Old, Far, Leader, Repeat}
use Rattle.cs_node_state.specs.Admission.{admits, due}
use Rattle.cs_node_rules.specs.Members.{is_other_member, others}
use Rattle.cs_node_rules.specs.Signs.{Sign, Dropped, Viewed, Sent, sends, execution_signs, said_signs, asked_again}
use Rattle.cs_node_rules.specs.Site.{Input, Datagram, Tick, Mark, In, Ordered, Plain, Site, View, view_after, plain}

-- what an order hands out goes to another member, or to all other members
abbrev pub out_signs : {M : Type 0} → Site M → NodeId → Option ℕ → M → List Sign
out_signs {M} site me None m = sends (others site.setup.f me (me.shard ∷ [])) (site.carrier.written m)
out_signs {M} site me (Some to) m =
    if is_other_member site.setup.f me (record { shard = me.shard; index = to })
    then Sent (record { shard = me.shard; index = to }) (site.carrier.written m) ∷ []
    else []

abbrev pub handed : {M : Type 0} → Site M → NodeId → List (Outgoing M) → List Sign
handed {M} site me [] = []
handed {M} site me (out ∷ outs) = handed site me outs ++ out_signs site me out.to out.message

-- a deed of the order, and what it hands out
abbrev pub with_deed : {M : Type 0} → Site M → View M → Deed M → List (Mark M)
with_deed {M} site v deed = plain (handed site v.me (sent_by deed)) ++ Ordered deed ∷ []

-- the view that was entered, if one was
abbrev pub entered_view : ℕ → ℕ → ℕ → List Sign
entered_view slot before after = if nat_lt before after then Viewed slot after ∷ [] else []

-- a deed by which the member may enter a view
abbrev pub moving : {M : Type 0} → Site M → View M → Deed M → List (Mark M)
moving {M} site v deed =
    plain (handed site v.me (sent_by deed)
    ++ entered_view (length (chosen_in v.member.deeds))
    (site.machine.view v.member) (site.machine.view (did deed v.member)))
    ++ Ordered deed ∷ []

abbrev pub admits_proposed : {M : Type 0} → Site M → View M → Proposed → Bool
admits_proposed {M} site v proposed = admits site.setup v.me.shard v.bench.pool (site.entry_in proposed)

-- Proposing: the due entry where the order is free, or else the first candidate that the node admits.
abbrev pub proposing : {M : Type 0} → Site M → View M → Proposed → List (Mark M)
proposing {M} site v proposed = with_deed site v (Proposing proposed (site.machine.proposing v.member proposed))

abbrev pub due_marks : {M : Type 0} → Site M → View M → Option Entry → Option (List (Mark M))
due_marks {M} site v None = None
due_marks {M} site v (Some entry) = Some (proposing site v (site.proposed_of entry))

abbrev pub candidate_marks : {M : Type 0} → Site M → View M → List Proposed → Option (List (Mark M))
candidate_marks {M} site v [] = None
candidate_marks {M} site v (proposed ∷ more) =
    if admits_proposed site v proposed then Some (proposing site v proposed) else candidate_marks site v more

abbrev pub propose_marks : {M : Type 0} → Site M → View M → May → Option (List (Mark M))
propose_marks {M} site v No = None
propose_marks {M} site v Free = due_marks site v (due site.setup v.bench.pool)
propose_marks {M} site v (Only candidates) = candidate_marks site v candidates

-- Echoing: the pending proposal, where the node admits it; else proposing.
abbrev pub echo_marks : {M : Type 0} → Site M → View M → Option Proposed → Option (List (Mark M))
echo_marks {M} site v None = propose_marks site v (site.machine.may_propose v.member)
echo_marks {M} site v (Some proposed) =
    if admits_proposed site v proposed
    then Some (with_deed site v (Echoed (site.machine.echoing v.member)))
    else propose_marks site v (site.machine.may_propose v.member)

-- After every 16th slot the order gives up the slots before the last 1,024.
abbrev pub cut_marks : {M : Type 0} → ℕ → List (Mark M)
cut_marks {M} slot = if (slot + 1) % COVERED == 0 then Ordered (Cut (slot + 1 - kept_slots)) ∷ [] else []

-- What is chosen is executed; else the order moves; else echoing.
abbrev pub step_marks : {M : Type 0} → Site M → View M → Step → Option (List (Mark M))
step_marks {M} site v (Chosen proposed) =
    let slot = length (chosen_in v.member.deeds) in
    Some (cut_marks slot
    ++ (plain (execution_signs site.setup v.me v.bench slot (site.entry_in proposed))
    ++ with_deed site v (Advanced (Chosen proposed) (site.machine.advancing v.member))))
step_marks {M} site v Moved = Some (moving site v (Advanced Moved (site.machine.advancing v.member)))
step_marks {M} site v Quiet = echo_marks site v (site.machine.pending v.member)

-- the marks of the first rule that applies
abbrev pub turn_marks : {M : Type 0} → Site M → View M → Option (List (Mark M))
turn_marks {M} site v = step_marks site v (site.machine.step v.member)

abbrev pub continued : {M : Type 0} → Site M → (View M → List (Mark M)) → View M
    → Option (List (Mark M)) → List (Mark M)
continued {M} site later v None = []
continued {M} site later v (Some fresh) = later (view_after site fresh v) ++ fresh

-- the rules one after the other, until none applies
unfoldable pub settled : {M : Type 0} → Site M → ℕ → View M → List (Mark M)
settled {M} site zero v = []
settled {M} site (suc turns) v = continued site (settled site turns) v (turn_marks site v)

-- ---- inputs

abbrev pub drops : {M : Type 0} → Cause → List (Mark M)
drops {M} cause = Plain (Dropped cause) ∷ []

-- the order takes a message of a member, or says why not
abbrev pub taking_marks : {M : Type 0} → ℕ → M → Took → List (Mark M)
taking_marks {M} from m Taken = Ordered (Took_in from m) ∷ []
taking_marks {M} from m TooOld = drops Old
taking_marks {M} from m TooFar = drops Far
taking_marks {M} from m NotLeader = drops Leader
taking_marks {M} from m Again = drops Repeat

-- another member says something for the order
abbrev pub member_marks : {M : Type 0} → Site M → View M → NodeId → Option M → List (Mark M)
member_marks {M} site v sender None = drops Role
member_marks {M} site v sender (Some m) =
    if is_other_member site.setup.f v.me sender
    then taking_marks sender.index m (site.machine.taking v.member sender.index m)
    else drops Role

abbrev pub reply_marks : {M : Type 0} → Site M → View M → ℕ → ℕ → Option (Outgoing M) → List (Mark M)
reply_marks {M} site v slot to None = drops Far
reply_marks {M} site v slot to (Some out) = with_deed site v (Replied slot to (out ∷ []))

-- another member wants to know what was chosen in a slot
abbrev pub want_marks : {M : Type 0} → Site M → View M → NodeId → ℕ → List (Mark M)
want_marks {M} site v sender slot =
    if is_other_member site.setup.f v.me sender
    then reply_marks site v slot sender.index (site.machine.replying v.member slot sender.index)
    else drops Role

-- what is said to a node, by its class: the order hears what is of it
abbrev pub class_marks : {M : Type 0} → Site M → View M → NodeId → Message → Class → List (Mark M)
class_marks {M} site v sender said OfOrder = member_marks site v sender (site.carrier.read said)
class_marks {M} site v sender said class = plain (said_signs site.setup v.me v.bench sender said)

abbrev pub message_marks : {M : Type 0} → Site M → View M → NodeId → Message → List (Mark M)
message_marks {M} site v sender (message.Want slot) = want_marks site v sender slot
message_marks {M} site v sender said = class_marks site v sender said (class_of said)

-- what a datagram says, or the first test that it fails
abbrev pub opened_marks : {M : Type 0} → Site M → View M → Opened → List (Mark M)
opened_marks {M} site v (Ok said) = message_marks site v said.0 said.1
opened_marks {M} site v (Err error) = drops (Unopened error)

-- the order's messages of this view again; then the votes of locked sessions are asked for; then the open slot
abbrev pub again_marks : {M : Type 0} → Site M → View M → List (Mark M)
again_marks {M} site v =
    plain (sends (others site.setup.f v.me (v.me.shard ∷ [])) (message.Want (length (chosen_in v.member.deeds)))
    ++ asked_again site.setup v.me v.bench.pool)
    ++ with_deed site v (Resent (site.machine.resending v.member))

-- then the order waits a tick longer
abbrev pub waiting_marks : {M : Type 0} → Site M → View M → Bool → List (Mark M)
waiting_marks {M} site v on = moving site v (Ticked on (site.machine.ticking v.member on))

abbrev pub tick_marks : {M : Type 0} → Site M → View M → List (Mark M)
tick_marks {M} site v =
    let again = again_marks site v in
    waiting_marks site (view_after site again v) (is_some (due site.setup v.bench.pool)) ++ again

abbrev pub input_marks : {M : Type 0} → Site M → View M → Input → List (Mark M)
input_marks {M} site v (Datagram bytes) = opened_marks site v (site.net.opened v.me bytes)
input_marks {M} site v Tick = tick_marks site v

-- all marks of one event
unfoldable pub event_marks : {M : Type 0} → Site M → View M → Input → List (Mark M)
event_marks {M} site v input =
    let first = input_marks site v input ++ In input ∷ [] in
    settled site (2 ^ 80) (view_after site first v) ++ first
