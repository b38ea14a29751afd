-- The words of the commands of a deployment. Where `--turns N`, `--ticks N` or `--hosts FILE` stands among the files is
-- free.
use Rattle.std.specs.Prelude.{ℕ, ◌+◌, ◌-◌, ◌≤◌, Bool, false, not, ◌&&◌, ◌||◌, ◌==◌, nat_le, List, [], ◌∷◌, ◌++◌, take, drop, codes, slice_index_or, Option, Some, None, option_map, option_and_then, String, string_bytes, if◌then◌else◌}
use Rattle.std.specs.declared.alloc.Global.{Global}
use Rattle.std.specs.List.{position}
use Rattle.std.specs.Str.{bytes_eq}
use Rattle.cs_io.specs.Numbers.{short_number}
use Rattle.cs_show.specs.Keys.{key_in}
use Rattle.cs_deploy.specs.Master.{master_in}
use Rattle.cs_io.specs.declared.until.Until.{Until}
use Rattle.cs_io.specs.declared.until.Until.TheVariants.{Turns, Ticks}
use Rattle.cs_cli.specs.declared.deployments.Deployment.{Deployment}
use Rattle.cs_cli.specs.declared.deployments.Deployment.TheVariants.{Node, Client, ClientTries, ClientSession, Show, Keys, Cluster}
use Rattle.cs_cli.specs.Wished.{wished}

-- the word at a place; the command's own is at 0
abbrev pub word_at : List (List ℕ) → ℕ → List ℕ
word_at words place = slice_index_or words place []

-- the word at a place, where there is one
abbrev pub word_if : List (List ℕ) → Option ℕ → Option (List ℕ)
word_if words place = option_map (word_at words) place

-- a word that is no option
abbrev pub is_file : List ℕ → Bool
is_file [] = false
is_file (code ∷ more) = not (code == 45)

abbrev pub are_files : List ℕ → List ℕ → Bool
are_files a b = is_file a && is_file b

-- ---- `--turns N`, `--ticks N`

-- a word that says, with the number behind it, how long a node or a client runs
abbrev pub is_limit : List ℕ → Bool
is_limit word = bytes_eq word (codes "--turns") || bytes_eq word (codes "--ticks")

-- how long that is
abbrev pub until_in : List ℕ → List ℕ → Option Until
until_in word number =
    if bytes_eq word (codes "--turns") then option_map Turns (short_number number)
    else if bytes_eq word (codes "--ticks") then option_map Ticks (short_number number)
    else None

-- ---- `node FILE FILE`, with one of them once

-- the places of the site and the keys, and how long it runs
abbrev pub node_deployment : ℕ → ℕ → List ℕ → List ℕ → Option Deployment
node_deployment site keys limit number = option_map (Node site keys None) (until_in limit number)

abbrev pub node_called : List (List ℕ) → Option Deployment
node_called (a ∷ b ∷ c ∷ d ∷ []) =
    if is_limit c && are_files a b then node_deployment 1 2 c d
    else if is_limit b && are_files a d then node_deployment 1 4 b c
    else if is_limit a && are_files c d then node_deployment 3 4 a b
    else None
node_called _ = None

-- ---- `client FILE FILE FILE`, with one of them once

-- the places of the site, the keys and the call, and how long it runs
abbrev pub client_at : ℕ → ℕ → ℕ → List ℕ → List ℕ → Option Deployment
client_at site keys call limit number = option_map (Client site keys call None) (until_in limit number)

abbrev pub client_called : List (List ℕ) → Option Deployment
client_called (a ∷ b ∷ c ∷ d ∷ e ∷ []) =
    if (is_limit d && are_files a b) && is_file c then client_at 1 2 3 d e
    else if (is_limit c && are_files a b) && is_file e then client_at 1 2 5 c d
    else if (is_limit b && are_files a d) && is_file e then client_at 1 4 5 b c
    else if (is_limit a && are_files c d) && is_file e then client_at 3 4 5 a b
    else None
client_called _ = None

-- ---- `show FILE FILE KEY`, with one of them once

-- the places of the site and the keys, what is looked up, and for how long
abbrev pub show_at : ℕ → ℕ → List ℕ → List ℕ → List ℕ → Option Deployment
show_at site keys word limit number =
    option_and_then (λ key. option_map (Show site keys key None) (until_in limit number)) (key_in word)

abbrev pub show_called : List (List ℕ) → Option Deployment
show_called (a ∷ b ∷ c ∷ d ∷ e ∷ []) =
    if is_limit d && are_files a b then show_at 1 2 c d e
    else if is_limit c && are_files a b then show_at 1 2 e c d
    else if is_limit b && are_files a d then show_at 1 4 e b c
    else if is_limit a && are_files c d then show_at 3 4 e a b
    else None
show_called _ = None

-- the words behind the command of a node or a client, or of who looks a key up
abbrev pub run_called : List ℕ → List (List ℕ) → Option Deployment
run_called word words =
    if bytes_eq word (codes "node") then node_called words
    else if bytes_eq word (codes "client") then client_called words
    else if bytes_eq word (codes "show") then show_called words
    else None

-- ---- `--hosts FILE` among them, at most once

abbrev pub is_hosts : List ℕ → Bool
is_hosts word = bytes_eq word (codes "--hosts")

abbrev pub is_hosts_word : String Global → Bool
is_hosts_word word = bytes_eq (string_bytes word) (codes "--hosts")

-- the other words: all but two, of which the first stands behind so many
abbrev pub without_two : ℕ → List (List ℕ) → List (List ℕ)
without_two before words = take before words ++ drop (before + 2) words

-- where one of them stands among all, the command's own at 0
abbrev pub place_among : ℕ → ℕ → ℕ
place_among before place = if nat_le place before then place else place + 2

-- its files stand among the first words
abbrev pub StandsNear : Deployment → Type 0
StandsNear (Node site keys hosts until) = (site ≤ 5) × (keys ≤ 5)
StandsNear (Client site keys call hosts until) = (site ≤ 5) × (keys ≤ 5) × (call ≤ 5)
StandsNear (ClientTries site keys call hosts wishes until) = Unit {0}
StandsNear (ClientSession site keys call hosts details session until) = Unit {0}
StandsNear (Show site keys key hosts until) = (site ≤ 5) × (keys ≤ 5)
StandsNear (Keys site master) = Unit {0}
StandsNear (Cluster plan) = Unit {0}

-- the deployment that the other words call for, with the hosts file
abbrev pub with_hosts : ℕ → Deployment → Deployment
with_hosts before (Node site keys hosts until) =
    Node (place_among before site) (place_among before keys) (Some (before + 2)) until
with_hosts before (Client site keys call hosts until) =
    Client (place_among before site) (place_among before keys) (place_among before call) (Some (before + 2)) until
with_hosts before (ClientTries site keys call hosts wishes until) = ClientTries site keys call hosts wishes until
with_hosts before (ClientSession site keys call hosts details session until) =
    ClientSession site keys call hosts details session until
with_hosts before (Show site keys key hosts until) =
    Show (place_among before site) (place_among before keys) key (Some (before + 2)) until
with_hosts before (Keys site master) = Keys site master
with_hosts before (Cluster plan) = Cluster plan

-- behind so many words `--hosts` isn't the value of another option, and its own is a file
abbrev pub is_hosts_pair : List (List ℕ) → ℕ → Bool
is_hosts_pair words before = not (is_limit (word_at words (before - 1))) && is_file (word_at words (before + 1))

-- the words of a command, of which so many stand before `--hosts`, if it is there
abbrev pub hosted_at : (List (List ℕ) → Option Deployment) → List (List ℕ) → Option ℕ → Option Deployment
hosted_at called words None = called words
hosted_at called words (Some before) =
    if is_hosts_pair words before then option_map (with_hosts before) (called (without_two before words)) else None

abbrev pub hosted : (List (List ℕ) → Option Deployment) → List (List ℕ) → Option Deployment
hosted called words = hosted_at called words (position is_hosts words)

-- ---- `keys FILE HEX`, `keys FILE -`, `cluster FILE`

abbrev pub keys_called : List (List ℕ) → Option Deployment
keys_called (a ∷ b ∷ []) = if is_file a then option_map (Keys 1) (master_in b) else None
keys_called _ = None

-- the master key is what the source says
abbrev pub reads_master : List (List ℕ) → Bool
reads_master (a ∷ b ∷ []) = is_file a && bytes_eq b (codes "-")
reads_master _ = false

abbrev pub cluster_called : List (List ℕ) → Option Deployment
cluster_called (a ∷ []) = if is_file a then Some (Cluster 1) else None
cluster_called _ = None

-- the command of a deployment of this word, with the words behind it
abbrev pub deployment_of_word : List ℕ → List (List ℕ) → Option Deployment
deployment_of_word word options =
    if bytes_eq word (codes "keys") then keys_called options
    else if bytes_eq word (codes "cluster") then cluster_called options
    else wished (hosted (run_called word)) options
