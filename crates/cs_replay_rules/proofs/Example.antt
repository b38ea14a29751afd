-- One node of one shard, with short stand-ins for digests and encodings: what the definitions compute.
use Rattle.std.proofs.Common.{◌≡◌, ℕ, zero, suc, true, false, List, [], ◌∷◌, length, None, refl, if◌then◌else◌}
use Rattle.std.specs.Prelude.{codes, drop, ◌==◌, ◌++◌, Ok, Err}
use Rattle.std.specs.Fmt.{digits}
use Rattle.hex.specs.Hex.{encode_with}
use Rattle.cs_base.specs.declared.node_id.NodeId.{NodeId}
use Rattle.cs_tx_types.specs.declared.session.Session.{Session}
use Rattle.cs_tx_types.specs.declared.vote.Vote.TheVariants.{Commit, Abort}
use Rattle.cs_tx_types.specs.declared.action.Action.{Action}
use Rattle.cs_base.specs.declared.version.Version.TheVariants.{One}
use Rattle.cs_tx_types.specs.Entry.{entry_alone}
use Rattle.cs_tx_types.specs.declared.action.Action.TheVariants.{Prepare, Decide}
use Rattle.cs_order.specs.declared.solo.NoMessage.{NoMessage}
use Rattle.cs_order.specs.Counts.{count_below}
use Rattle.cs_order.specs.Solo.{solo}
use Rattle.cs_ledger.specs.Ledger.{Bytes, Item, Transaction}
use Rattle.cs_ledger.specs.Table as Shard
use Rattle.cs_sched.specs.declared.schedule.Event.{Event}
use Rattle.cs_sched.specs.declared.schedule.Event.TheVariants.{Say, Inject, Deliver, Tick, Drain}
use Rattle.cs_wire_message.specs.declared.message.Message.TheVariants as message
use Rattle.cs_wire.specs.Opened.{Opened}
use Rattle.cs_wire.specs.declared.opening.OpenError.TheVariants as error
use Rattle.cs_base.specs.NodeId.{same_name}
use Rattle.cs_node_rules.specs.Signs.{Sign, Did}
use Rattle.cs_node_rules.specs.Site.{Datagram, Mark, Site, start_view, signs_of}
use Rattle.cs_node_rules.specs.Trail.{event_marks, settled}
use Rattle.cs_replay_rules.specs.Play.{drained, lines}

-- a session is told by its number alone
abbrev session : ℕ → Session
session number = record { tx = record { traces = [] }; number = number; dummies = [] }

abbrev moving : ℕ → ℕ → ℕ → List Item → Transaction
moving digest old value new = record {
  digest = digest ∷ [];
  inputs = record { name = old ∷ []; object = value ∷ [] } ∷ [];
  references = [];
  outputs = new;
  sound = true;
  approved = true;
}

abbrev pub coin : ℕ → ℕ → Item
coin name value = record { name = name ∷ []; object = value ∷ [] }

-- number 16 splits the coin 1, 17 is the same transaction again, 18 moves the first half, 19 moves it again,
-- 20 carries another value, 21 is not approved
abbrev transaction : ℕ → Transaction
transaction number =
    if number == 16 then moving 160 1 5 (coin 2 2 ∷ coin 3 3 ∷ [])
    else if number == 17 then moving 160 1 5 (coin 2 2 ∷ coin 3 3 ∷ [])
    else if number == 18 then moving 161 2 2 (coin 4 2 ∷ [])
    else if number == 19 then moving 161 2 2 (coin 4 2 ∷ [])
    else if number == 20 then moving 162 1 6 (coin 5 6 ∷ [])
    else record { digest = 163 ∷ []; inputs = coin 1 5 ∷ []; references = []; outputs = []; sound = true; approved = false }

abbrev pub bytes_of : Action → Bytes
bytes_of (Prepare x) = 0 ∷ x.number ∷ []
bytes_of (Decide Commit x) = 1 ∷ x.number ∷ []
bytes_of (Decide Abort x) = 2 ∷ x.number ∷ []

-- the action of an entry of one
abbrev pub alone : List Action → Action
alone [] = Prepare (session 0)
alone (action ∷ more) = action

abbrev entry_at : Bytes → Action
entry_at (zero ∷ number ∷ []) = Prepare (session number)
entry_at (suc zero ∷ number ∷ []) = Decide Commit (session number)
entry_at (suc (suc n) ∷ number ∷ []) = Decide Abort (session number)
entry_at _ = Prepare (session 0)

abbrev me : NodeId
me = record { shard = 0; index = 0 }

abbrev client : NodeId
client = record { shard = 65535; index = 0 }

-- the magic and the kind stand in front of the body, and no tag behind it
abbrev datagram : NodeId → NodeId → ℕ → Bytes → Bytes
datagram from to kind body = codes "CSP1" ++ kind ∷ body

-- the client submits sessions, and all else is no body
abbrev opened_as : Bytes → Opened
opened_as (number ∷ []) = Ok (client, message.Submit (session number))
opened_as _ = Err error.Body

abbrev site : Site NoMessage
site = record {
  setup = record {
    version = One;
    shards = 1;
    f = 0;
    rules = record { shard_of = λ name. 0; genesis = coin 1 5 ∷ []; dummies = 0; dummy_object = [] };
    session_of = λ x. record { digest = x.number ∷ []; transaction = transaction x.number; dummies = [] };
  };
  net = record { version = One; datagram = datagram; opened = λ name bytes. opened_as (drop 5 bytes); is_honest = same_name me };
  machine = solo;
  carrier = record { written = λ m. message.Want 0; read = λ said. None };
  proposed_of = λ entry. record { digest = bytes_of (alone entry.actions); bytes = bytes_of (alone entry.actions) };
  entry_in = λ p. entry_alone (entry_at p.bytes);
}

abbrev say : Bytes → ℕ × Event
say body = (0, Say client me 1 body)

-- one session said: voted on in slot 0, accepted in slot 1
abbrev marks : List (Mark NoMessage)
marks = event_marks site (start_view site me) (Datagram (datagram client me 1 (16 ∷ [])))

abbrev effects : List Sign → List (ℕ × Shard.Effect)
effects [] = []
effects (Did slot place entry effect ∷ past) = (slot, effect) ∷ effects past
effects (sign ∷ past) = effects past

two_slots : effects (signs_of marks) ≡ (1, Shard.Accepted) ∷ (0, Shard.Voted Shard.Commit) ∷ []
unfolding event_marks settled count_below
two_slots = refl

nine_marks : length marks ≡ 9
unfolding event_marks settled count_below
nine_marks = refl

-- what a replay prints, digests in hex
split_coin : lines site false (say (16 ∷ []) ∷ []) ≡ codes "node 0.0 slot 0 prepare 10 commit\nnode 0.0 slot 1 decide 10 accepted\nhistory 1\ntx a0\n"
unfolding lines event_marks settled count_below digits encode_with
split_coin = refl

empty_schedule : lines site false [] ≡ codes "history 0\n"
unfolding lines event_marks settled count_below digits encode_with
empty_schedule = refl

-- a decided session, another number of its transaction, and what is no session leave no line
second_number : lines site false (say (16 ∷ []) ∷ say (16 ∷ []) ∷ say (17 ∷ []) ∷ say [] ∷ []) ≡ codes "node 0.0 slot 0 prepare 10 commit\nnode 0.0 slot 1 decide 10 accepted\nhistory 1\ntx a0\n"
unfolding lines event_marks settled count_below digits encode_with
second_number = refl

other_value : lines site false (say (20 ∷ []) ∷ []) ≡ codes "node 0.0 slot 0 prepare 14 abort\nhistory 0\n"
unfolding lines event_marks settled count_below digits encode_with
other_value = refl

denied : lines site false (say (21 ∷ []) ∷ []) ≡ codes "history 0\n"
unfolding lines event_marks settled count_below digits encode_with
denied = refl

-- a session that came before its coin was there stays aborted; another number of it is accepted
prepare_again_after_abort : lines site false (say (18 ∷ []) ∷ say (16 ∷ []) ∷ say (18 ∷ []) ∷ say (19 ∷ []) ∷ []) ≡ codes "node 0.0 slot 0 prepare 12 abort\nnode 0.0 slot 1 prepare 10 commit\nnode 0.0 slot 2 decide 10 accepted\nnode 0.0 slot 3 prepare 13 commit\nnode 0.0 slot 4 decide 13 accepted\nhistory 2\ntx a0\ntx a1\n"
unfolding lines event_marks settled count_below digits encode_with
prepare_again_after_abort = refl

-- ---- traces

-- one more: the session again, of which the client is told; that datagram delivered to it, twice; a tick; what is no body
abbrev told_again : List (ℕ × Event)
told_again =
    (7, Say client me 1 (16 ∷ [])) ∷ (8, Say client me 1 (16 ∷ [])) ∷ (9, Deliver 0) ∷ (10, Drain 5) ∷ (11, Deliver 1) ∷ (12, Tick me)
    ∷ (13, Inject me []) ∷ []

repeated_submit_traced : lines site true told_again ≡ codes "at 0 7\nnode 0.0 slot 0 prepare 10 commit\nnode 0.0 slot 1 decide 10 accepted\nat 1 8\nsent 0 0.0 c.0 7 43535031071001\nat 2 12\nat 3 13\ndrop 0.0 body\nhistory 1\ntx a0\n"
unfolding lines drained event_marks settled count_below digits encode_with
repeated_submit_traced = refl

-- without the trace the lines of executions alone
repeated_submit : lines site false told_again ≡ codes "node 0.0 slot 0 prepare 10 commit\nnode 0.0 slot 1 decide 10 accepted\nhistory 1\ntx a0\n"
unfolding lines drained event_marks settled count_below digits encode_with
repeated_submit = refl
