-- The text of a schedule: its lines in the order of the format, each of a word and its fields.
use Rattle.std.specs.Prelude.{ℕ, List, [], ◌∷◌, ◌++◌, map, codes}
use Rattle.std.specs.Fmt.{decimal}
use Rattle.cs_base.specs.Codes.{bytes_text}
use Rattle.cs_base.specs.Fields.{each}
use Rattle.cs_base.specs.NodeId.{node_text}
use Rattle.cs_base.specs.declared.config.Config.{Config}
use Rattle.cs_base.specs.declared.node_id.NodeId.{NodeId}
use Rattle.cs_tx_value.specs.Object.{object_encoding}
use Rattle.cs_tx_value.specs.declared.object.Object.{Object}
use Rattle.cs_text.specs.Printed.{line_text, number_words, name_words, bytes_words}
use Rattle.cs_sched.specs.declared.schedule.Event.{Event}
use Rattle.cs_sched.specs.declared.schedule.Event.TheVariants.{Say, Inject, Deliver, Tick, Drain}
use Rattle.cs_sched.specs.declared.schedule.Schedule.{Schedule}

-- the words of a line: the one that names it, and its fields

abbrev pub liar_words : NodeId → List (List ℕ)
liar_words name = name_words (codes "liar") name

abbrev pub contract_words : List ℕ → List (List ℕ)
contract_words text = bytes_words (codes "contract") text

abbrev pub object_words : Object → List (List ℕ)
object_words object = bytes_words (codes "genesis") (object_encoding object)

abbrev pub event_words : Event → List (List ℕ)
event_words (Say from to kind body) =
    codes "say" ∷ node_text from ∷ node_text to ∷ decimal kind ∷ bytes_text body ∷ []
event_words (Inject to bytes) = codes "inject" ∷ node_text to ∷ bytes_text bytes ∷ []
event_words (Deliver number) = number_words (codes "deliver") number
event_words (Tick node) = name_words (codes "tick") node
event_words (Drain times) = number_words (codes "drain") times

-- the lines of a configuration and its master
abbrev pub head_lines : Config → List ℕ → List (List (List ℕ))
head_lines config master =
    number_words (codes "shards") config.shards
    ∷ number_words (codes "faulty") config.f
    ∷ number_words (codes "dummies") config.dummies
    ∷ bytes_words (codes "master") master
    ∷ []

abbrev pub liar_lines : List NodeId → List (List (List ℕ))
liar_lines liars = map liar_words liars

abbrev pub contract_lines : List (List ℕ) → List (List (List ℕ))
contract_lines contracts = map contract_words contracts

abbrev pub genesis_lines : List Object → List (List (List ℕ))
genesis_lines objects = map object_words objects

abbrev pub printed_events : List (ℕ × Event) → List (List (List ℕ))
printed_events events = map (λ numbered. event_words numbered.1) events

-- all lines of a schedule
abbrev pub schedule_lines : Schedule → List (List (List ℕ))
schedule_lines schedule =
    head_lines schedule.config schedule.master
    ++ (liar_lines schedule.liars
    ++ (contract_lines schedule.contracts
    ++ (genesis_lines schedule.genesis
    ++ ((codes "run" ∷ []) ∷ (printed_events schedule.events
    ++ (codes "end" ∷ []) ∷ [])))))

-- its text
abbrev pub schedule_text : Schedule → List ℕ
schedule_text schedule = each line_text (schedule_lines schedule)
