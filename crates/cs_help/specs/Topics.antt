-- The texts that tell how the program is used. Each is a constant of the code.
use Rattle.std.specs.Prelude.{◌≡◌, ◌≢◌, ℕ, List, codes, Option, Some, None, if◌then◌else◌}
use Rattle.std.specs.Io.KnownBytes.{Appends}
use Rattle.std.specs.Str.{bytes_eq}
use Rattle.cs_base.specs.Answers.{Answer}
use Rattle.cs_help.specs.declared.topic.Topic.{Topic}
use Rattle.cs_help.specs.declared.topic.Topic.TheVariants.{Commands, Replay, Contract, Try, Verify, Audit, Simulate, Node, Client, Show, Keys, Cluster, Wallet, Transaction, Help, Version}
use Rattle.cs_help.specs.declared.commands.TheConstants as text
use Rattle.cs_help.specs.declared.version.TheConstants as program

-- the command of this name
abbrev pub topic_of : List ℕ → Option Topic
topic_of word =
    if bytes_eq word (codes "replay") then Some Replay
    else if bytes_eq word (codes "contract") then Some Contract
    else if bytes_eq word (codes "try") then Some Try
    else if bytes_eq word (codes "verify") then Some Verify
    else if bytes_eq word (codes "audit") then Some Audit
    else if bytes_eq word (codes "simulate") then Some Simulate
    else if bytes_eq word (codes "node") then Some Node
    else if bytes_eq word (codes "client") then Some Client
    else if bytes_eq word (codes "show") then Some Show
    else if bytes_eq word (codes "keys") then Some Keys
    else if bytes_eq word (codes "cluster") then Some Cluster
    else if bytes_eq word (codes "wallet") then Some Wallet
    else if bytes_eq word (codes "transaction") then Some Transaction
    else if bytes_eq word (codes "help") then Some Help
    else if bytes_eq word (codes "version") then Some Version
    else None

abbrev pub help_text : Topic → List ℕ
help_text Commands = text.COMMANDS.now
help_text Replay = text.REPLAY.now
help_text Contract = text.CONTRACT.now
help_text Try = text.TRY.now
help_text Verify = text.VERIFY.now
help_text Audit = text.AUDIT.now
help_text Simulate = text.SIMULATE.now
help_text Node = text.NODE.now
help_text Client = text.CLIENT.now
help_text Show = text.SHOW.now
help_text Keys = text.KEYS.now
help_text Cluster = text.CLUSTER.now
help_text Wallet = text.WALLET.now
help_text Transaction = text.TRANSACTION.now
help_text Help = text.HELP.now
help_text Version = text.VERSION.now

-- the program's version, and the line of its logic
abbrev pub version_text : List ℕ
version_text = program.VERSION.now

abbrev pub fixed_answer : List ℕ → Answer
fixed_answer text = record { status = 0; printed = text }

abbrev pub help_answer : Topic → Answer
help_answer topic = fixed_answer (help_text topic)

abbrev pub version_answer : Answer
version_answer = fixed_answer version_text

-- all of it is printed, unless memory runs out
abbrev pub TellsWhole : List ℕ → Option (List ℕ) → Option (List ℕ) → ℕ → Type 0
TellsWhole text written written' status = status ≢ 8 → (status ≡ 0) × Appends written written' text
