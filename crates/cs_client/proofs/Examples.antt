-- What a client of four nodes a shard believes, what a session needs, and how the phases follow: worked out by hand.
use Rattle.std.proofs.Common.{◌≡◌, ℕ, true, false, List, [], ◌∷◌, ◌++◌, Option, Some, None, refl, replicate}
use Rattle.std.specs.Prelude.{codes, ◌+◌}
use Rattle.cs_base.specs.Config.{config_of}
use Rattle.cs_base.specs.declared.config.Config.{Config}
use Rattle.cs_base.specs.declared.key.Key.TheVariants as key
use Rattle.cs_base.specs.declared.node_id.NodeId.{NodeId}
use Rattle.cs_tx_value.specs.declared.object.Object.{Object}
use Rattle.cs_tx_types.specs.declared.trace.Trace.{Trace}
use Rattle.cs_tx_types.specs.declared.session.Session.{Session}
use Rattle.cs_tx_types.specs.declared.state.State.TheVariants as state
use Rattle.cs_tx.specs.Uses.{concerned_shards}
use Rattle.cs_wire_message.specs.declared.message.Message.TheVariants as message
use Rattle.cs_client.specs.declared.known.Known.TheVariants as known
use Rattle.cs_client.specs.Nodes.{nodes_of_shards}
use Rattle.cs_client.specs.Objects.{told_in, believed_in}
use Rattle.cs_dummies.specs.Named.{named_with, least_named}
use Rattle.cs_client.specs.Dummies.{dummy_word_in}
use Rattle.cs_client.specs.Sessions.{bare_shards, with_dummies}
use Rattle.cs_client.specs.Phases.{Wanting, Submitting, wanting}
use Rattle.cs_client.specs.Knowing.{is_decision, outcome}
use Rattle.cs_client.specs.Sayings.{asks_on}

-- ---- what is believed, where one of four nodes may lie

abbrev coin : ℕ → Object
coin worth = record { contract = worth ∷ []; type_name = codes "coin"; values = [] }

one_node_is_not_believed : believed_in 1 (None ∷ Some (coin 5) ∷ None ∷ None ∷ []) ≡ None
one_node_is_not_believed = refl

two_nodes_are : believed_in 1 (Some (coin 9) ∷ Some (coin 5) ∷ None ∷ Some (coin 5) ∷ []) ≡ Some (coin 5)
two_nodes_are = refl

of_two_objects_the_first_counts : believed_in 1 (Some (coin 9) ∷ Some (coin 5) ∷ Some (coin 5) ∷ Some (coin 9) ∷ []) ≡ Some (coin 9)
of_two_objects_the_first_counts = refl

of_two_dummies_the_least_counts : least_named 1 ((7 ∷ []) ∷ (3 ∷ []) ∷ (3 ∷ []) ∷ (7 ∷ []) ∷ []) ≡ Some 3
of_two_dummies_the_least_counts = refl

a_lesser_one_of_one_node_does_not : least_named 1 ((7 ∷ []) ∷ (3 ∷ []) ∷ [] ∷ (7 ∷ []) ∷ []) ≡ Some 7
a_lesser_one_of_one_node_does_not = refl

of_any_dummy_the_last_word_counts_alone : named_with None (4, true) (3 ∷ []) ≡ 4 ∷ []
of_any_dummy_the_last_word_counts_alone = refl

of_those_asked_for_each_counts : named_with (Some 3) (4, true) (3 ∷ []) ≡ 3 ∷ 4 ∷ []
of_those_asked_for_each_counts = refl

one_is_taken_back : named_with (Some 3) (3, false) (3 ∷ 4 ∷ []) ≡ 4 ∷ []
one_is_taken_back = refl

one_before_the_first_is_not_named : named_with (Some 3) (2, true) [] ≡ []
one_before_the_first_is_not_named = refl

-- ---- what a node says

what_is_locked_is_taken_back : told_in (1 ∷ []) (message.Told (key.Object (1 ∷ [])) (state.Locked (coin 5) [])) ≡ Some None
what_is_locked_is_taken_back = refl

what_is_shared_is_there : told_in (1 ∷ []) (message.Told (key.Object (1 ∷ [])) (state.Shared (coin 5) ([] ∷ []))) ≡ Some (Some (coin 5))
what_is_shared_is_there = refl

a_shared_dummy_is_not_active : dummy_word_in 0 (message.Told (key.Dummy 0 3) (state.Shared (coin 1) ([] ∷ []))) ≡ Some (3, false)
a_shared_dummy_is_not_active = refl

another_name_is_not_told_of : told_in (1 ∷ []) (message.Told (key.Object (2 ∷ [])) (state.Active (coin 5))) ≡ None
another_name_is_not_told_of = refl

a_dummy_of_another_shard_is_not_told_of : dummy_word_in 0 (message.Told (key.Dummy 1 3) (state.Active (coin 1))) ≡ None
a_dummy_of_another_shard_is_not_told_of = refl

an_abort_is_no_acceptance : is_decision (1 ∷ []) true (message.Decided (1 ∷ []) false) ≡ false
an_abort_is_no_acceptance = refl

another_session_is_not_decided : is_decision (1 ∷ []) true (message.Decided (2 ∷ []) true) ≡ false
another_session_is_not_decided = refl

-- ---- a session with an input in shard 0 and a reference in shard 1, of three shards with one node each

abbrev three : Config
three = config_of 3 0 0

abbrev name : ℕ → List ℕ
name shard = replicate 31 0 ++ shard ∷ []

abbrev node : ℕ → NodeId
node shard = record { shard = shard; index = 0 }

abbrev trace : Trace
trace = record {
  contract = [];
  method = codes "pay";
  inputs = (name 0, coin 5) ∷ [];
  references = (name 1, coin 1) ∷ [];
  parameters = [];
  outputs = [];
  returns = [];
  deps = [];
}

abbrev session : Session
session = record { tx = record { traces = trace ∷ [] }; number = 1; dummies = [] }

it_concerns_two_shards : concerned_shards three session ≡ 0 ∷ 1 ∷ []
it_concerns_two_shards = refl

one_of_them_needs_a_dummy : bare_shards three session ≡ 1 ∷ []
one_of_them_needs_a_dummy = refl

abbrev dummy : ℕ → Option ℕ
dummy shard = Some (4 + shard)

with_its_dummy_it_is_submitted : wanting three dummy session ≡ Submitting (with_dummies session ((1, 5) ∷ []))
with_its_dummy_it_is_submitted = refl

without_it_waits : wanting three (λ shard. None) session ≡ Wanting session
without_it_waits = refl

-- ---- who is asked

its_shard_is_asked : asks_on three (name 2) ≡ (node 2, message.Ask (Some (key.Object (name 2)))) ∷ []
its_shard_is_asked = refl

nodes_come_in_rising_order : nodes_of_shards 0 (0 ∷ 2 ∷ []) ≡ node 0 ∷ node 2 ∷ []
nodes_come_in_rising_order = refl

-- ---- what is known

accepted_comes_before_aborted : outcome (7 ∷ []) true true ≡ known.Accepted (7 ∷ [])
accepted_comes_before_aborted = refl

else_it_may_be_aborted : outcome (7 ∷ []) false true ≡ known.Aborted (7 ∷ [])
else_it_may_be_aborted = refl
