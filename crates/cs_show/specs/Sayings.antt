-- What is asked, and when.
use Rattle.std.specs.Prelude.{List, [], Some}
use Rattle.cs_io.specs.declared.link.MemInput.TheVariants as came
use Rattle.cs_wire_message.specs.declared.message.Message.TheVariants as message
use Rattle.cs_client.specs.Inputs.{ClientInput}
use Rattle.cs_client.specs.Sayings.{Saying, say_to_each}
use Rattle.cs_show.specs.declared.lookup.Lookup.{Lookup}
use Rattle.cs_show.specs.Words.{nodes_asked}

-- all nodes of the key's shard are asked for it, in their order
abbrev pub asks : Lookup → List Saying
asks l = say_to_each (nodes_asked l) (message.Ask (Some l.key))

-- at each tick, and at nothing else
abbrev pub asks_at : Lookup → ClientInput → List Saying
asks_at l (came.Datagram bytes) = []
asks_at l came.Tick = asks l
