-- Four members of one shard, of which the last one lies, in the order among 3f+1 members, with short stand-ins for
-- digests: a world that is worked out by hand, from the submission of a session to the decision that its votes support.
use Rattle.std.proofs.Common.{◌≡◌, ℕ, zero, suc, ◌<◌, ◌≤◌, Bool, true, false, List, [], ◌∷◌, Option, Some, None, inl, refl, sym, replicate, lit<, lit≤, arith, if◌then◌else◌}
use Rattle.std.proofs.lemmas.Bool.{and_parts}
use Rattle.std.specs.Prelude.{◌==◌, ◌++◌, ◌&&◌, nat_lt, Ok, Err}
use Rattle.std.specs.List.{list_all}
use Rattle.cs_base.specs.Fields.{pair_at, many_at, some_at, tested_at, upto_at, within_at}
use Rattle.cs_base.specs.declared.node_id.NodeId.{NodeId}
use Rattle.cs_base.proofs.Forms.{some_is}
use Rattle.cs_tx_value.specs.Kinds.{kinds_at}
use Rattle.cs_tx_types.specs.declared.session.Session.{Session}
use Rattle.cs_tx_types.specs.declared.vote.Vote.TheVariants.{Commit, Abort}
use Rattle.cs_tx_types.specs.declared.action.Action.{Action}
use Rattle.cs_tx_types.specs.declared.action.Action.TheVariants.{Prepare, Decide}
use Rattle.cs_tx_types.specs.Entry.{entry_alone}
use Rattle.cs_tx_types.specs.Reading.{front_at, back_at, trace_at, tx_at, session_at}
use Rattle.cs_ledger.specs.Ledger.{Bytes, Item, Transaction}
use Rattle.cs_ledger.specs.Table as Shard
use Rattle.cs_wire_message.specs.declared.message.Message.{Message}
use Rattle.cs_wire_message.specs.declared.message.Message.TheVariants as message
use Rattle.cs_base.specs.declared.version.Version.TheVariants.{One}
use Rattle.cs_wire_message.specs.Body.{message_whole}
use Rattle.cs_wire_message.specs.Reading.{flag_at, propose_at, step_at, voted_at}
use Rattle.cs_wire.specs.Opened.{Opened, said_by}
use Rattle.cs_wire.specs.declared.opening.OpenError.TheVariants as error
use Rattle.cs_order.specs.Counts.{count_below, any_below, first_below, last_below, last_found}
use Rattle.cs_order.specs.Digests.{are_bytes}
use Rattle.cs_order.specs.laws.Digests.{bytes-are}
use Rattle.cs_order.specs.Deeds.{Deed, Took_in, Advanced, Echoed, Proposing, did, sent_by}
use Rattle.cs_order.specs.Runs.{FewLiars}
use Rattle.cs_order.specs.declared.answers.Step.TheVariants.{Chosen, Moved}
use Rattle.cs_order.specs.declared.proposed.Proposed.{Proposed}
use Rattle.cs_order_rules.specs.declared.message.OrderMessage.{OrderMessage}
use Rattle.cs_order_rules.specs.declared.message.OrderMessage.TheVariants as order
use Rattle.cs_order_rules.specs.Facts.{Sight, open_slot, echo_said, confirm_said}
use Rattle.cs_order_rules.specs.Rules.{own, seen_now, to_all}
use Rattle.cs_order_rules.specs.Slot.{votes}
use Rattle.cs_order_rules.specs.SlotMachine.{slot_machine, sight}
use Rattle.cs_node_rules.specs.Deployment.{no_session}
use Rattle.cs_node_rules.specs.Net.{Net, sealed_by_net}
use Rattle.cs_node_rules.specs.Members.{others}
use Rattle.cs_node_rules.specs.Signs.{Sign, Took, Entered, Did, sends}
use Rattle.cs_node_rules.specs.Site.{Input, Datagram, Tick, Mark, In, Ordered, Plain, Site, View, plain}
use Rattle.cs_node_rules.specs.Trail.{handed, admits_proposed, event_marks, settled}
use Rattle.cs_node_rules.specs.World.{Happening, view_of, sent_in, is_genuine_input, IsLife, NoForgery, AreHonest}
use Rattle.cs_node_law.specs.Given.{InputIsBytes, AreBytes}
use Rattle.cs_world_law.specs.Worlds.{is_honest, IsWorld}
use Rattle.cs_world_law.specs.Agreement.{MayBeEchoed, IsProposed}

-- ---- stand-ins

-- a session is told by its number alone
abbrev pub session : ℕ → Session
session number = record no_session { number = number }

abbrev coin : ℕ → ℕ → Item
coin name value = record { name = name ∷ []; object = value ∷ [] }

-- each splits the coin 1
abbrev split : Transaction
split = record {
  digest = 160 ∷ [];
  inputs = coin 1 5 ∷ [];
  references = [];
  outputs = coin 2 2 ∷ coin 3 3 ∷ [];
  sound = true;
  approved = true;
}

-- an entry of one action comes to two numbers, which are filled up to a digest
abbrev bytes_of : Action → Bytes
bytes_of (Prepare x) = 0 ∷ x.number ∷ []
bytes_of (Decide Commit x) = 1 ∷ x.number ∷ []
bytes_of (Decide Abort x) = 2 ∷ x.number ∷ []

abbrev pub proposed : Action → Proposed
proposed entry = record { digest = bytes_of entry ++ replicate 30 0; bytes = bytes_of entry }

abbrev entry_of_bytes : Bytes → Action
entry_of_bytes (zero ∷ number ∷ []) = Prepare (session number)
entry_of_bytes (suc zero ∷ number ∷ []) = Decide Commit (session number)
entry_of_bytes (suc (suc n) ∷ number ∷ []) = Decide Abort (session number)
entry_of_bytes _ = Prepare (session 0)

abbrev pub written : OrderMessage → Message
written (order.Propose slot view p) = message.Propose slot view (entry_alone (entry_of_bytes p.bytes))
written (order.Echo slot view digest) = message.Echo slot view digest
written (order.Confirm slot view digest) = message.Confirm slot view digest
written (order.Change slot view c) = message.Change slot view (record { prepared = c.prepared; echoed = c.echoed })
written (order.Done slot p) = message.Done slot (entry_alone (entry_of_bytes p.bytes))

-- the action of an entry of one
abbrev alone : List Action → Action
alone [] = Prepare (session 0)
alone (action ∷ more) = action

abbrev heard : Message → Option OrderMessage
heard (message.Propose slot view entry) = Some (order.Propose slot view (proposed (alone entry.actions)))
heard (message.Echo slot view digest) = Some (order.Echo slot view digest)
heard (message.Confirm slot view digest) = Some (order.Confirm slot view digest)
heard (message.Change slot view c) = Some (order.Change slot view (record { prepared = c.prepared; echoed = c.echoed }))
heard (message.Done slot entry) = Some (order.Done slot (proposed (alone entry.actions)))
heard said = None

abbrev pub member : ℕ → NodeId
member index = record { shard = 0; index = index }

abbrev pub client : NodeId
client = record { shard = 65535; index = 0 }

-- a member's index, or else the client's number
abbrev name_of : ℕ → NodeId
name_of code = if nat_lt code 4 then member code else client

abbrev code_of : NodeId → ℕ
code_of name = if name.shard == 0 then name.index else 4

-- the sender and the kind stand in front of the body, and no tag behind it
abbrev datagram : NodeId → NodeId → ℕ → Bytes → Bytes
datagram from to kind body = code_of from ∷ kind ∷ body

abbrev opened_as : Bytes → Opened
opened_as (from ∷ kind ∷ body) = said_by (name_of from) (message_whole One kind body)
opened_as _ = Err error.Short

abbrev pub site : Site OrderMessage
site = record {
  setup = record {
    version = One;
    shards = 1;
    f = 1;
    rules = record { shard_of = λ name. 0; genesis = coin 1 5 ∷ []; dummies = 0; dummy_object = [] };
    session_of = λ x. record { digest = x.number ∷ []; transaction = split; dummies = [] };
  };
  net = record {
    version = One;
    datagram = datagram;
    opened = λ name bytes. opened_as bytes;
    is_honest = λ name. (name.shard == 0) && nat_lt name.index 3;
  };
  machine = slot_machine;
  carrier = record { written = written; read = heard };
  proposed_of = λ entry. proposed (alone entry.actions);
  entry_in = λ p. entry_alone (entry_of_bytes p.bytes);
}

-- what a name says to a member
abbrev pub said : NodeId → ℕ → Message → Input
said from to m = Datagram (sealed_by_net site.net from (member to) m)

-- ---- what happens

abbrev pub Marks : Type 0
Marks = List (Mark OrderMessage)

abbrev pub Happenings : Type 0
Happenings = List (Happening OrderMessage)

-- a deed of a member's order, and what it sends by it
abbrev pub does : ℕ → Deed OrderMessage → Marks
does index deed = plain (handed site (member index) (sent_by deed)) ++ Ordered deed ∷ []

-- a member is given this, and does that, which has the newest first
abbrev pub event : ℕ → Input → Marks → Happening OrderMessage
event index input marks = record { node = member index; input = input; marks = marks ++ In input ∷ [] }

abbrev pub vote : Action
vote = Prepare (session 16)

abbrev decision : Action
decision = Decide Commit (session 16)

abbrev d : Bytes
d = (proposed vote).digest

abbrev e : Bytes
e = (proposed decision).digest

abbrev propose : Deed OrderMessage
propose = Proposing (proposed vote) (to_all (order.Propose 0 0 (proposed vote)))

abbrev echo : Deed OrderMessage
echo = Echoed (to_all (order.Echo 0 0 d))

abbrev confirm : Deed OrderMessage
confirm = Advanced Moved (to_all (order.Confirm 0 0 d))

abbrev pub takes : ℕ → OrderMessage → Marks
takes from m = Ordered (Took_in from m) ∷ []

-- the vote goes to the other members, and the member takes its own
abbrev votes_so : ℕ → List Sign → Marks
votes_so index entering =
    plain ((Took (member index) Commit (session 16) ∷ [])
    ++ (sends (others 1 (member index) (0 ∷ [])) (message.Voted Commit true (session 16))
    ++ (entering ++ Did 0 0 vote (Shard.Voted Shard.Commit) ∷ [])))
    ++ Ordered (Advanced (Chosen (proposed vote)) []) ∷ []

-- member 0 leads the first view of slot 0: it proposes what a client submits, and echoes it
abbrev submitted : Happenings
submitted = event 0 (said client 0 (message.Submit (session 16))) (does 0 echo ++ (does 0 propose ++ Plain (Entered (session 16)) ∷ [])) ∷ []

abbrev echoed_1 : Happenings
echoed_1 = event 1 (said (member 0) 1 (message.Propose 0 0 (entry_alone vote))) (does 1 echo ++ takes 0 (order.Propose 0 0 (proposed vote))) ∷ submitted

abbrev pub echoed_2 : Happenings
echoed_2 = event 2 (said (member 0) 2 (message.Propose 0 0 (entry_alone vote))) (does 2 echo ++ takes 0 (order.Propose 0 0 (proposed vote))) ∷ echoed_1

abbrev one_echo : Happenings
one_echo = event 0 (said (member 1) 0 (message.Echo 0 0 d)) (takes 1 (order.Echo 0 0 d)) ∷ echoed_2

-- with that of the liar these are three
abbrev confirmed_0 : Happenings
confirmed_0 = event 0 (said (member 3) 0 (message.Echo 0 0 d)) (does 0 confirm ++ takes 3 (order.Echo 0 0 d)) ∷ one_echo

abbrev other_echo : Happenings
other_echo = event 1 (said (member 0) 1 (message.Echo 0 0 d)) (takes 0 (order.Echo 0 0 d)) ∷ confirmed_0

abbrev confirmed_1 : Happenings
confirmed_1 = event 1 (said (member 2) 1 (message.Echo 0 0 d)) (does 1 confirm ++ takes 2 (order.Echo 0 0 d)) ∷ other_echo

abbrev one_confirm : Happenings
one_confirm = event 0 (said (member 1) 0 (message.Confirm 0 0 d)) (takes 1 (order.Confirm 0 0 d)) ∷ confirmed_1

-- it is chosen, and voted on
abbrev voted_0 : Happenings
voted_0 = event 0 (said (member 3) 0 (message.Confirm 0 0 d)) (votes_so 0 [] ++ takes 3 (order.Confirm 0 0 d)) ∷ one_confirm

abbrev other_confirm : Happenings
other_confirm = event 1 (said (member 0) 1 (message.Confirm 0 0 d)) (takes 0 (order.Confirm 0 0 d)) ∷ voted_0

-- nobody submitted it to member 1
abbrev pub voted_1 : Happenings
voted_1 = event 1 (said (member 3) 1 (message.Confirm 0 0 d)) (votes_so 1 (Entered (session 16) ∷ []) ++ takes 3 (order.Confirm 0 0 d)) ∷ other_confirm

-- two votes support the decision, and member 1 leads the first view of slot 1
abbrev decided : Happenings
decided =
    event 1 (said (member 0) 1 (message.Voted Commit true (session 16)))
    (does 1 (Echoed (to_all (order.Echo 1 0 e)))
    ++ (does 1 (Proposing (proposed decision) (to_all (order.Propose 1 0 (proposed decision))))
    ++ Plain (Took (member 0) Commit (session 16)) ∷ []))
    ∷ voted_1

-- ---- each member keeps the rules

-- the last event made the marks that the rules give
abbrev pub IsRuled : Happenings → Type 0
IsRuled [] = Unit {0}
IsRuled (h ∷ past) = h.marks ≡ event_marks site (view_of site past h.node) h.input

pub rules_submitted : IsRuled submitted
unfolding event_marks settled count_below any_below first_below last_below last_found upto_at many_at some_at pair_at tested_at within_at kinds_at front_at back_at trace_at tx_at session_at propose_at step_at voted_at flag_at
rules_submitted = refl

pub rules_echoed_1 : IsRuled echoed_1
unfolding event_marks settled count_below any_below first_below last_below last_found upto_at many_at some_at pair_at tested_at within_at kinds_at front_at back_at trace_at tx_at session_at propose_at step_at voted_at flag_at
rules_echoed_1 = refl

pub rules_echoed_2 : IsRuled echoed_2
unfolding event_marks settled count_below any_below first_below last_below last_found upto_at many_at some_at pair_at tested_at within_at kinds_at front_at back_at trace_at tx_at session_at propose_at step_at voted_at flag_at
rules_echoed_2 = refl

rules_one_echo : IsRuled one_echo
unfolding event_marks settled count_below any_below first_below last_below last_found upto_at many_at some_at pair_at tested_at within_at kinds_at front_at back_at trace_at tx_at session_at propose_at step_at voted_at flag_at
rules_one_echo = refl

rules_confirmed_0 : IsRuled confirmed_0
unfolding event_marks settled count_below any_below first_below last_below last_found upto_at many_at some_at pair_at tested_at within_at kinds_at front_at back_at trace_at tx_at session_at propose_at step_at voted_at flag_at
rules_confirmed_0 = refl

rules_other_echo : IsRuled other_echo
unfolding event_marks settled count_below any_below first_below last_below last_found upto_at many_at some_at pair_at tested_at within_at kinds_at front_at back_at trace_at tx_at session_at propose_at step_at voted_at flag_at
rules_other_echo = refl

rules_confirmed_1 : IsRuled confirmed_1
unfolding event_marks settled count_below any_below first_below last_below last_found upto_at many_at some_at pair_at tested_at within_at kinds_at front_at back_at trace_at tx_at session_at propose_at step_at voted_at flag_at
rules_confirmed_1 = refl

rules_one_confirm : IsRuled one_confirm
unfolding event_marks settled count_below any_below first_below last_below last_found upto_at many_at some_at pair_at tested_at within_at kinds_at front_at back_at trace_at tx_at session_at propose_at step_at voted_at flag_at
rules_one_confirm = refl

rules_voted_0 : IsRuled voted_0
unfolding event_marks settled count_below any_below first_below last_below last_found upto_at many_at some_at pair_at tested_at within_at kinds_at front_at back_at trace_at tx_at session_at propose_at step_at voted_at flag_at
rules_voted_0 = refl

rules_other_confirm : IsRuled other_confirm
unfolding event_marks settled count_below any_below first_below last_below last_found upto_at many_at some_at pair_at tested_at within_at kinds_at front_at back_at trace_at tx_at session_at propose_at step_at voted_at flag_at
rules_other_confirm = refl

rules_voted_1 : IsRuled voted_1
unfolding event_marks settled count_below any_below first_below last_below last_found upto_at many_at some_at pair_at tested_at within_at kinds_at front_at back_at trace_at tx_at session_at propose_at step_at voted_at flag_at
rules_voted_1 = refl

rules_decided : IsRuled decided
unfolding event_marks settled count_below any_below first_below last_below last_found upto_at many_at some_at pair_at tested_at within_at kinds_at front_at back_at trace_at tx_at session_at propose_at step_at voted_at flag_at
rules_decided = refl

life : IsLife site decided
life = (rules_decided, (rules_voted_1, (rules_other_confirm, (rules_voted_0, (rules_one_confirm, (rules_confirmed_1, (rules_other_echo, (rules_confirmed_0, (rules_one_echo, (rules_echoed_2, (rules_echoed_1, (rules_submitted, tt))))))))))))

-- ---- each part of the second phase has its premise met

abbrev pub view_at : ℕ → Happenings → View OrderMessage
view_at index world = view_of site world (member index)

abbrev sight_at : ℕ → Happenings → Sight
sight_at index world = sight (view_at index world).member

may_echo : MayBeEchoed (admits_proposed site (view_at 1 echoed_1)) (sight_at 1 echoed_1) (proposed vote)
unfolding count_below any_below first_below last_below last_found
may_echo = record {
  proposed = refl;
  admitted = refl;
  safe = inl refl;
  alone = λ digest is. sym (some_is d digest is);
  few = lit< tt;
}

has_echoed : own echo_said (sight_at 1 echoed_1) ≡ Some d
unfolding count_below any_below first_below last_below last_found
has_echoed = refl

may_confirm : 3 ≤ votes 1 ((seen_now (sight_at 1 confirmed_1)).echo 0) d
unfolding count_below any_below first_below last_below last_found
may_confirm = lit≤ tt

has_confirmed : own confirm_said (sight_at 1 confirmed_1) ≡ Some d
unfolding count_below any_below first_below last_below last_found
has_confirmed = refl

-- what member 1 sees as it has taken the last confirm, and has not yet chosen
abbrev amid : Sight
amid = sight (did (Took_in 3 (order.Confirm 0 0 d)) (view_at 1 other_confirm).member)

may_choose : 3 ≤ votes 1 ((seen_now amid).confirm 0) d
unfolding count_below any_below first_below last_below last_found
may_choose = lit≤ tt

is_proposed : IsProposed amid d
unfolding count_below any_below first_below last_below last_found
is_proposed = (0, lit< tt, (proposed vote, refl, refl))

has_chosen : open_slot amid ∷ open_slot (sight_at 1 voted_1) ∷ [] ≡ 0 ∷ 1 ∷ []
unfolding count_below any_below first_below last_below last_found
has_chosen = refl

-- ---- so it is a world

abbrev pub are_honest : Net → List (Happening OrderMessage) → Bool
are_honest net world = list_all (λ (h : Happening OrderMessage). net.is_honest h.node) world

pub honest-so : (net : Net) (world : List (Happening OrderMessage)) → are_honest net world ≡ true → AreHonest net world
honest-so net [] is = tt
honest-so net (h ∷ past) is = let parts = and_parts _ _ is in (parts.0, honest-so net past parts.1)

abbrev is_of_bytes : Input → Bool
is_of_bytes (Datagram bytes) = are_bytes bytes
is_of_bytes Tick = true

input-so : (input : Input) → is_of_bytes input ≡ true → InputIsBytes input
input-so (Datagram bytes) is = bytes-are bytes is
input-so Tick is = tt

abbrev pub are_of_bytes : List (Happening OrderMessage) → Bool
are_of_bytes world = list_all (λ (h : Happening OrderMessage). is_of_bytes h.input) world

pub bytes-so : (world : List (Happening OrderMessage)) → are_of_bytes world ≡ true → AreBytes world
bytes-so [] is = tt
bytes-so (h ∷ past) is = let parts = and_parts _ _ is in (input-so h.input parts.0, bytes-so past parts.1)

abbrev pub are_genuine : Net → List (Happening OrderMessage) → Bool
are_genuine net [] = true
are_genuine net (h ∷ past) = is_genuine_input net h.node h.input (sent_in net past) && are_genuine net past

pub genuine-so : (net : Net) (world : List (Happening OrderMessage)) → are_genuine net world ≡ true → NoForgery net world
genuine-so net [] is = tt
genuine-so net (h ∷ past) is = let parts = and_parts _ _ is in (parts.0, genuine-so net past parts.1)

-- one of four lies
pub few : (shard : ℕ) → shard < 1 → FewLiars 1 (λ index. is_honest site (record { shard = shard; index = index }))
unfolding count_below
few zero below = lit≤ tt
few (suc shard) below = absurd (omega arith)

all_honest : are_honest site.net decided ≡ true
all_honest = refl

all_bytes : are_of_bytes decided ≡ true
all_bytes = refl

all_genuine : are_genuine site.net decided ≡ true
unfolding event_marks settled count_below any_below first_below last_below last_found upto_at many_at some_at pair_at tested_at within_at kinds_at front_at back_at trace_at tx_at session_at propose_at step_at voted_at flag_at
all_genuine = refl

world : IsWorld site decided
world = record {
  serves = refl;
  few = few;
  honest = honest-so site.net decided all_honest;
  life = life;
  bytes = bytes-so decided all_bytes;
  genuine = genuine-so site.net decided all_genuine;
}
