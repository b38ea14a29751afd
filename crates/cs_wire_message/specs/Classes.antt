-- The classes of messages: who says them to whom, and about what.
use Rattle.cs_wire_message.specs.declared.message.Message.{Message}
use Rattle.cs_wire_message.specs.declared.message.Message.TheVariants as message

-- of a client, which asks a node; of the order, in which the members of a shard agree; a vote of a node; of a member,
-- which tells how far it is: the slot that it lacks, the head of its checkpoint; for a client
pub data Class : Type 0 where
  OfClient : Class
  OfOrder : Class
  OfVoter : Class
  OfMember : Class
  ForClient : Class

abbrev pub class_of : Message → Class
class_of (message.Submit x) = OfClient
class_of (message.Ask key) = OfClient
class_of (message.AskProof slot place) = OfClient
class_of (message.Propose slot view entry) = OfOrder
class_of (message.Echo slot view digest) = OfOrder
class_of (message.Confirm slot view digest) = OfOrder
class_of (message.Change slot view change) = OfOrder
class_of (message.Done slot entry) = OfOrder
class_of (message.Voted vote asks x) = OfVoter
class_of (message.Want slot) = OfMember
class_of (message.Head checkpoint) = OfMember
class_of (message.Decided digest accepted) = ForClient
class_of (message.Told key state) = ForClient
class_of (message.Proof proof) = ForClient
