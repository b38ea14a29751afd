-- The words of the command line.
use Rattle.std.specs.Prelude.{ℕ, true, false, not, ◌&&◌, List, [], ◌∷◌, Option, Some, None, codes, if◌then◌else◌, map, option_map, String, string_bytes}
use Rattle.std.specs.declared.alloc.Global.{Global}
use Rattle.std.specs.Str.{bytes_eq}
use Rattle.cs_replay.specs.declared.schedule.Mode.{Mode}
use Rattle.cs_help.specs.Topics.{topic_of}
use Rattle.cs_help.specs.declared.topic.Topic.{Topic}
use Rattle.cs_help.specs.declared.topic.Topic.TheVariants.{Commands}
use Rattle.cs_cli.specs.declared.report.ContractMode.{ContractMode}
use Rattle.cs_cli.specs.declared.words.Command.{Command}
use Rattle.cs_cli.specs.declared.words.Command.TheVariants.{Replay, Contract, Try, Verify, Audit, Simulate, Help, Version, Wallet, Transaction, ReadKeys, Deploy}
use Rattle.cs_cli.specs.Numbers.{simulated}
use Rattle.cs_cli.specs.Deployed.{is_file, reads_master, deployment_of_word}
use Rattle.cs_cli.specs.Wallets.{wallet_called}
use Rattle.cs_cli.specs.Transactions.{numbered_called}

-- what the words say, each as its bytes
abbrev pub texts_of : List (String Global) → List (List ℕ)
texts_of words = map string_bytes words

-- ---- a replay has two options, in any order, each at most once

abbrev pub plain_mode : Mode
plain_mode = record { traced = false; dumps = false }

-- one option more
abbrev pub with_option : Mode → List ℕ → Option Mode
with_option mode option =
    if bytes_eq option (codes "--trace") && not mode.traced then Some (record mode { traced = true })
    else if bytes_eq option (codes "--dumps") && not mode.dumps then Some (record mode { dumps = true })
    else None

abbrev pub then_options : Option Mode → (Mode → Option Mode) → Option Mode
then_options None next = None
then_options (Some mode) next = next mode

abbrev pub mode_from : Mode → List (List ℕ) → Option Mode
mode_from mode [] = Some mode
mode_from mode (option ∷ options) = then_options (with_option mode option) (λ m. mode_from m options)

-- ---- so has the command that judges a contract

abbrev pub plain_contract : ContractMode
plain_contract = record { printing = false; explaining = false }

-- one option more
abbrev pub with_contract_option : ContractMode → List ℕ → Option ContractMode
with_contract_option mode option =
    if bytes_eq option (codes "--print") && not mode.printing then Some (record mode { printing = true })
    else if bytes_eq option (codes "--explain") && not mode.explaining then Some (record mode { explaining = true })
    else None

abbrev pub then_contract_options : Option ContractMode → (ContractMode → Option ContractMode) → Option ContractMode
then_contract_options None next = None
then_contract_options (Some mode) next = next mode

abbrev pub contract_mode_from : ContractMode → List (List ℕ) → Option ContractMode
contract_mode_from mode [] = Some mode
contract_mode_from mode (option ∷ options) =
    then_contract_options (with_contract_option mode option) (λ m. contract_mode_from m options)

-- ---- other commands

-- a command without options
abbrev pub plain_command : Command → List (List ℕ) → Option Command
plain_command command [] = Some command
plain_command command (option ∷ options) = None

-- the place of the one file behind a command
abbrev pub file_called : List (List ℕ) → Option ℕ
file_called (a ∷ []) = if is_file a then Some 1 else None
file_called _ = None

-- `help` tells of all commands, or of one
abbrev pub topic_called : List (List ℕ) → Option Topic
topic_called [] = Some Commands
topic_called (word ∷ []) = topic_of word
topic_called (word ∷ other ∷ options) = None

-- the command of a word and the words behind it
abbrev pub command_of_word : List ℕ → List (List ℕ) → Option Command
command_of_word word options =
    if bytes_eq word (codes "replay") then option_map Replay (mode_from plain_mode options)
    else if bytes_eq word (codes "contract") then option_map Contract (contract_mode_from plain_contract options)
    else if bytes_eq word (codes "try") then option_map Try (file_called options)
    else if bytes_eq word (codes "verify") then plain_command Verify options
    else if bytes_eq word (codes "audit") then plain_command Audit options
    else if bytes_eq word (codes "simulate") then option_map (λ said. Simulate said.0 said.1) (simulated options)
    else if bytes_eq word (codes "help") then option_map Help (topic_called options)
    else if bytes_eq word (codes "version") then plain_command Version options
    else if bytes_eq word (codes "wallet") then option_map Wallet (wallet_called options)
    else if bytes_eq word (codes "transaction") then option_map Transaction (numbered_called options)
    else if bytes_eq word (codes "keys") && reads_master options then Some (ReadKeys 1)
    else option_map Deploy (deployment_of_word word options)

-- the command that the words call for, or none where they are outside the grammar
abbrev pub command_of : List (List ℕ) → Option Command
command_of [] = None
command_of (word ∷ options) = command_of_word word options
