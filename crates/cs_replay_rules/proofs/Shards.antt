-- Two shards of one node each, with short stand-ins for digests and encodings: what the definitions compute.
use Rattle.std.proofs.Common.{◌≡◌, ℕ, zero, suc, true, false, Bool, List, [], ◌∷◌, None, refl, if◌then◌else◌}
use Rattle.std.specs.Prelude.{codes, drop, take, ◌==◌, ◌++◌, ◌||◌, bytes_eq, Ok, Err}
use Rattle.std.specs.Fmt.{digits}
use Rattle.hex.specs.Hex.{encode_with}
use Rattle.cs_base.specs.declared.node_id.NodeId.{NodeId}
use Rattle.cs_tx_types.specs.declared.trace.Trace.{Trace}
use Rattle.cs_tx_types.specs.declared.session.Session.{Session}
use Rattle.cs_tx_types.specs.declared.vote.Vote.{Vote}
use Rattle.cs_tx_types.specs.declared.vote.Vote.TheVariants.{Commit, Abort}
use Rattle.cs_tx_types.specs.declared.action.Action.{Action}
use Rattle.cs_base.specs.declared.version.Version.TheVariants.{One}
use Rattle.cs_tx_types.specs.Entry.{entry_alone}
use Rattle.cs_tx_types.specs.declared.action.Action.TheVariants.{Prepare, Decide}
use Rattle.cs_order.specs.declared.solo.NoMessage.{NoMessage}
use Rattle.cs_order.specs.Counts.{count_below}
use Rattle.cs_order.specs.Solo.{solo}
use Rattle.cs_ledger.specs.Ledger.{Bytes, Item, Transaction}
use Rattle.cs_sched.specs.declared.schedule.Event.{Event}
use Rattle.cs_sched.specs.declared.schedule.Event.TheVariants.{Say, Inject, Deliver, Tick, Drain}
use Rattle.cs_wire_message.specs.declared.message.Message.TheVariants as message
use Rattle.cs_wire.specs.Opened.{Opened}
use Rattle.cs_wire.specs.declared.opening.OpenError.TheVariants as error
use Rattle.cs_node_rules.specs.Site.{Site}
use Rattle.cs_node_rules.specs.Trail.{event_marks, settled}
use Rattle.cs_replay_rules.specs.Play.{drained, lines}
use Rattle.cs_replay_rules.proofs.Example.{coin, bytes_of, alone}

abbrev node : ℕ → NodeId
node shard = record { shard = shard; index = 0 }

abbrev client : NodeId
client = record { shard = 65535; index = 0 }

-- it splits a coin of shard 0, and one half goes to shard 1
abbrev splitting : Transaction
splitting = record {
  digest = 160 ∷ [];
  inputs = coin 1 5 ∷ [];
  references = [];
  outputs = coin 2 2 ∷ coin 3 3 ∷ [];
  sound = true;
  approved = true;
}

-- a session is told by the number of its traces, and has its number by it
abbrev trace : Trace
trace = record { contract = []; method = []; inputs = []; references = []; parameters = []; outputs = []; returns = []; deps = [] }

abbrev session : ℕ → Session
session zero = record { tx = record { traces = [] }; number = 16; dummies = [] }
session (suc n) = record { tx = record { traces = trace ∷ [] }; number = 17; dummies = [] }

abbrev entry_at : Bytes → Action
entry_at (zero ∷ number ∷ []) = Prepare (session (if number == 16 then 0 else 1))
entry_at (suc zero ∷ number ∷ []) = Decide Commit (session (if number == 16 then 0 else 1))
entry_at _ = Decide Abort (session 1)

-- the shard of the sender stands in front of the body, of which the first three bytes are left
abbrev datagram : NodeId → NodeId → ℕ → Bytes → Bytes
datagram from to kind body = codes "CSP1" ++ kind ∷ from.shard ∷ take 3 body

abbrev vote : ℕ → Vote
vote zero = Abort
vote (suc n) = Commit

-- the client submits sessions, nodes vote, and all else is no body
abbrev opened_as : Bytes → Opened
opened_as (shard ∷ n ∷ []) = Ok (client, message.Submit (session n))
opened_as (shard ∷ v ∷ asks ∷ n ∷ []) = Ok (node shard, message.Voted (vote v) (asks == 1) (session n))
opened_as _ = Err error.Body

-- the session of number 16 has the dummy 0 of shard 1, that of number 17 the dummy 1
abbrev site : Site NoMessage
site = record {
  setup = record {
    version = One;
    shards = 2;
    f = 0;
    rules = record { shard_of = λ name. if bytes_eq name (3 ∷ []) then 1 else 0; genesis = coin 1 5 ∷ []; dummies = 2; dummy_object = [] };
    session_of = λ x. record { digest = x.number ∷ []; transaction = splitting; dummies = record { shard = 1; serial = if x.number == 16 then 0 else 1 } ∷ [] };
  };
  net = record { version = One; datagram = datagram; opened = λ name bytes. opened_as (drop 5 bytes); is_honest = λ name. (name.shard == 0) || (name.shard == 1) };
  machine = solo;
  carrier = record { written = λ m. message.Want 0; read = λ said. None };
  proposed_of = λ entry. record { digest = bytes_of (alone entry.actions); bytes = bytes_of (alone entry.actions) };
  entry_in = λ p. entry_alone (entry_at p.bytes);
}

abbrev say : ℕ → ℕ → ℕ × Event
say n shard = (0, Say client (node shard) 1 (n ∷ []))

-- each shard votes, and decides once it has the vote of the other
two_shards_one_dummy : lines site false (say 0 0 ∷ say 0 1 ∷ (0, Drain 10) ∷ []) ≡ codes "node 0.0 slot 0 prepare 10 commit\nnode 1.0 slot 0 prepare 10 commit\nnode 1.0 slot 1 decide 10 accepted\nnode 0.0 slot 1 decide 10 accepted\nhistory 1\ntx a0\n"
unfolding lines drained event_marks settled count_below digits encode_with
two_shards_one_dummy = refl

-- an old vote is answered by the vote on record, which asks for nothing, and so is dropped
old_vote_at_output_shard : lines site false (say 0 0 ∷ say 0 1 ∷ (0, Drain 10) ∷ (0, Deliver 0) ∷ (0, Deliver 2) ∷ []) ≡ codes "node 0.0 slot 0 prepare 10 commit\nnode 1.0 slot 0 prepare 10 commit\nnode 1.0 slot 1 decide 10 accepted\nnode 0.0 slot 1 decide 10 accepted\nhistory 1\ntx a0\n"
unfolding lines drained event_marks settled count_below digits encode_with
old_vote_at_output_shard = refl

-- a vote on one session of a transaction doesn't count for the other
vote_of_another_session : lines site false (say 1 1 ∷ say 0 0 ∷ (0, Deliver 1) ∷ (0, Deliver 2) ∷ (0, Deliver 0) ∷ (0, Deliver 3) ∷ []) ≡ codes "node 1.0 slot 0 prepare 11 commit\nnode 0.0 slot 0 prepare 10 commit\nnode 1.0 slot 1 prepare 10 commit\nnode 1.0 slot 2 decide 10 accepted\nnode 0.0 slot 1 decide 10 accepted\nnode 0.0 slot 2 prepare 11 abort\nnode 1.0 slot 3 decide 11 aborted\nhistory 1\ntx a0\n"
unfolding lines drained event_marks settled count_below digits encode_with
vote_of_another_session = refl

-- a vote of a node that never gave it is forged
forged_vote : lines site false (say 0 0 ∷ (9, Inject (node 0) (datagram (node 1) (node 0) 6 (1 ∷ 1 ∷ 0 ∷ []))) ∷ []) ≡ codes "node 0.0 slot 0 prepare 10 commit\nforged 9\n"
unfolding lines drained event_marks settled count_below digits encode_with
forged_vote = refl
