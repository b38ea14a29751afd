-- What each command does, by what the objects of the outside told before and after.
use Rattle.std.specs.Prelude.{◌≡◌, ℕ, Bool, List, Option}
use Rattle.std.specs.Io.KnownBytes.{Keeps}
use Rattle.cs_base.specs.Answers.{Answers}
use Rattle.cs_base.specs.declared.key.Key.{Key}
use Rattle.cs_base.specs.declared.limits.TheConstants.{MOST_SCHEDULE}
use Rattle.cs_io.specs.Answers.{SourceGives, GivesWhole}
use Rattle.cs_io.specs.Told.{Stays}
use Rattle.cs_io.specs.Store.{Files}
use Rattle.cs_io.specs.Outside.{Outside, beside, faults_of, Faulty, Faultless}
use Rattle.cs_io.specs.declared.until.Until.{Until}
use Rattle.cs_replay.specs.Answers.{Replays, Completes}
use Rattle.cs_replay.specs.declared.schedule.Mode.{Mode}
use Rattle.cs_help.specs.Topics.{help_text, version_text, fixed_answer, TellsWhole as TellsText}
use Rattle.cs_cli.specs.Simulated.{simulate_answer}
use Rattle.cs_cli.specs.SimulatedReports.{AnswersWhole}
use Rattle.cs_deploy.specs.Taking.{FilesCome}
use Rattle.cs_deploy.specs.Files.{site_taken, cluster_taken}
use Rattle.cs_deploy.specs.Hosts.{NodeFilesCome, ClientFilesCome}
use Rattle.cs_deploy.specs.Untaken.{IsDecided}
use Rattle.cs_deploy.specs.Keys.{KeysRuns}
use Rattle.cs_deploy.specs.ReadKeys.{ReadKeysRuns, EndsAsRead}
use Rattle.cs_deploy.specs.Cluster.{ClusterRuns}
use Rattle.cs_deploy.specs.Node.{NodeRuns}
use Rattle.cs_deploy.specs.Client.{ClientRuns, IsToldOf}
use Rattle.cs_deploy.specs.declared.wishes.Wishes.{Wishes}
use Rattle.cs_deploy.specs.Tries.{TriesRun}
use Rattle.cs_deploy.specs.Session.{SessionRuns}
use Rattle.cs_deploy.specs.Show.{show_taken, ShowRuns}
use Rattle.cs_trial.specs.Command.{TryRuns, TryWhole}
use Rattle.cs_transact.specs.Command.{TransactionRuns, TransactionWhole}
use Rattle.cs_wallet.specs.Commands.{WalletRuns, WalletDecided}
use Rattle.cs_wallet.specs.declared.calls.WalletCall.{WalletCall}
use Rattle.cs_cli.specs.Answers.{TellsSource, TellsWhole}
use Rattle.cs_cli.specs.declared.report.ContractMode.{ContractMode}
use Rattle.cs_cli.specs.Examined.{most_in, examined_answer}
use Rattle.cs_cli.specs.Deployed.{word_at, word_if}
use Rattle.cs_cli.specs.declared.examining.Subject.{Subject}
use Rattle.cs_cli.specs.declared.examining.Subject.TheVariants.{Claim, Dump}
use Rattle.cs_cli.specs.declared.deployments.Deployment.{Deployment}
use Rattle.cs_cli.specs.declared.deployments.Deployment.TheVariants.{Node, Client, ClientTries, ClientSession, Show, Keys, Cluster}
use Rattle.cs_cli.specs.declared.words.Command.{Command}
use Rattle.cs_cli.specs.declared.words.Command.TheVariants.{Replay, Contract, Try, Verify, Audit, Simulate, Help, Version, Wallet, Transaction, ReadKeys, Deploy}

-- ---- what decides where no fault came about

abbrev pub NodeDecided : List ℕ → List ℕ → Option (List ℕ) → Option Files → ℕ → Type 0
NodeDecided site keys hosts = IsDecided (NodeFilesCome site keys hosts) (λ status. status ≡ 0)

abbrev pub ClientDecided : List ℕ → List ℕ → List ℕ → Option (List ℕ) → Option Files → ℕ → Type 0
ClientDecided site keys call hosts = IsDecided (ClientFilesCome site keys call hosts) IsToldOf

abbrev pub ShowDecided : List ℕ → List ℕ → Option (List ℕ) → Key → Option Files → ℕ → Type 0
ShowDecided site keys hosts key = IsDecided (FilesCome (show_taken site keys hosts key)) IsToldOf

abbrev pub KeysDecided : List ℕ → Option Files → ℕ → Type 0
KeysDecided site = IsDecided (FilesCome (site_taken site)) (λ status. status ≡ 0)

abbrev pub ClusterDecided : List ℕ → Option Files → ℕ → Type 0
ClusterDecided plan = IsDecided (FilesCome (cluster_taken plan)) (λ status. status ≡ 0)

abbrev pub ReadKeysDecided : List ℕ → Option (List ℕ) → Option Files → ℕ → Type 0
ReadKeysDecided site left = IsDecided (FilesCome (site_taken site)) (EndsAsRead left)

-- ---- commands of a text

-- `replay` answers what the schedule comes to that the source holds; where no fault came about all of it is printed
pub record ReplayDoes (mode : Mode) (old new : Outside) (status : ℕ) : Type 0 where
  pub replays : Replays MOST_SCHEDULE mode old.source.told new.source.told old.sink.told new.sink.told
      (Faulty faults_of old.source new.source) status
  pub complete : Faultless faults_of old.source new.source → Faultless faults_of old.sink new.sink
      → Completes MOST_SCHEDULE mode old.source.told old.sink.told new.sink.told status

-- `contract` tells of the contract that the source holds, or of its first fault
pub record ContractDoes (mode : ContractMode) (old new : Outside) (status : ℕ) : Type 0 where
  pub tells : TellsSource mode old.source.told new.source.told old.sink.told new.sink.told
      (Faulty faults_of old.source new.source) status
  pub whole : Faultless faults_of old.source new.source → Faultless faults_of old.sink new.sink
      → TellsWhole mode old.source.told old.sink.told new.sink.told status

-- `try` tells of the cases that the source holds, of the contract of its file
pub record TryDoes (file : List ℕ) (old new : Outside) (status : ℕ) : Type 0 where
  pub runs : TryRuns file (Faulty faults_of old.store new.store) (Faulty faults_of old.source new.source)
      old.store.told old.source.told new.source.told old.sink.told new.sink.told status
  pub kept : Stays old.store.told new.store.told
  pub whole : Faultless faults_of old.store new.store → Faultless faults_of old.source new.source
      → Faultless faults_of old.sink new.sink
      → TryWhole file old.store.told old.source.told old.sink.told new.sink.told status

-- `verify` and `audit` answer what the claim or the dump comes to that the source holds
pub record ExamineDoes (subject : Subject) (old new : Outside) (status : ℕ) : Type 0 where
  pub gives : SourceGives (most_in subject) (examined_answer subject) old.source.told new.source.told old.sink.told new.sink.told
      (Faulty faults_of old.source new.source) status
  pub whole : Faultless faults_of old.source new.source → Faultless faults_of old.sink new.sink
      → GivesWhole (most_in subject) (examined_answer subject) old.source.told old.sink.told new.sink.told status

-- `transaction` tells of the transaction that the source says, or of the first cause for which it says none
pub record TransactionDoes (number : Option ℕ) (old new : Outside) (status : ℕ) : Type 0 where
  pub runs : TransactionRuns number (Faulty faults_of old.source new.source)
      old.source.told new.source.told old.sink.told new.sink.told status
  pub whole : Faultless faults_of old.source new.source → Faultless faults_of old.sink new.sink
      → TransactionWhole number old.source.told old.sink.told new.sink.told status

-- `simulate` answers what the schedule of its number and size comes to, and nothing is read
pub record SimulateDoes (number size : ℕ) (old new : Outside) (status : ℕ) : Type 0 where
  pub answers : Answers (simulate_answer number size) old.sink.told new.sink.told status
  pub whole : Faultless faults_of old.sink new.sink
      → AnswersWhole (simulate_answer number size) old.sink.told new.sink.told status
  pub unread : Keeps old.source.told new.source.told

-- `help` and `version` print a text that is always the same, and nothing is read
pub record TextDoes (text : List ℕ) (old new : Outside) (status : ℕ) : Type 0 where
  pub answers : Answers (fixed_answer text) old.sink.told new.sink.told status
  pub whole : Faultless faults_of old.sink new.sink → TellsText text old.sink.told new.sink.told status
  pub unread : Keeps old.source.told new.source.told

-- ---- commands of a deployment, by the names of their files

-- `node` runs the node of its files, whose lines are printed
pub record NodeDoes (site keys : List ℕ) (hosts : Option (List ℕ)) (until : Until) (old new : Outside) (status : ℕ)
    : Type 0 where
  pub runs : NodeRuns site keys hosts until (Faulty faults_of old.store new.store) (Faulty faults_of old.link new.link)
      old.store.told (beside old.link.told old.sink.told) (beside new.link.told new.sink.told) status
  pub kept : Stays old.store.told new.store.told
  pub whole : Faultless faults_of old.store new.store → Faultless faults_of old.link new.link
      → Faultless faults_of old.sink new.sink → NodeDecided site keys hosts old.store.told status

-- `client` runs the client of its files, until it knows what has become of its call
pub record ClientDoes (site keys call : List ℕ) (hosts : Option (List ℕ)) (until : Until) (old new : Outside)
    (status : ℕ) : Type 0 where
  pub runs : ClientRuns site keys call hosts until
      (Faulty faults_of old.store new.store) (Faulty faults_of old.link new.link)
      old.store.told (beside old.link.told old.sink.told) (beside new.link.told new.sink.told) status
  pub kept : Stays old.store.told new.store.told
  pub whole : Faultless faults_of old.store new.store → Faultless faults_of old.link new.link
      → Faultless faults_of old.sink new.sink → ClientDecided site keys call hosts old.store.told status

-- where more is asked of it, it makes its call again after it was aborted, under the next number
pub record TriesDo (site keys call : List ℕ) (hosts : Option (List ℕ)) (wishes : Wishes) (until : Until)
    (old new : Outside) (status : ℕ) : Type 0 where
  pub runs : TriesRun site keys call hosts wishes until
      (Faulty faults_of old.store new.store) (Faulty faults_of old.link new.link)
      old.store.told (beside old.link.told old.sink.told) (beside new.link.told new.sink.told) status
  pub kept : Stays old.store.told new.store.told
  pub whole : Faultless faults_of old.store new.store → Faultless faults_of old.link new.link
      → Faultless faults_of old.sink new.sink → ClientDecided site keys call hosts old.store.told status

-- with `--session HEX` it submits that session of its call, which was made before
pub record SessionDoes (site keys call : List ℕ) (hosts : Option (List ℕ)) (session : List ℕ) (details : Bool)
    (until : Until) (old new : Outside) (status : ℕ) : Type 0 where
  pub runs : SessionRuns site keys call hosts session details until
      (Faulty faults_of old.store new.store) (Faulty faults_of old.link new.link)
      old.store.told (beside old.link.told old.sink.told) (beside new.link.told new.sink.told) status
  pub kept : Stays old.store.told new.store.told
  pub whole : Faultless faults_of old.store new.store → Faultless faults_of old.link new.link
      → Faultless faults_of old.sink new.sink → ClientDecided site keys call hosts old.store.told status

-- `show` looks a key up by its files, until f+1 nodes have told one state of it
pub record ShowDoes (site keys : List ℕ) (hosts : Option (List ℕ)) (key : Key) (until : Until) (old new : Outside)
    (status : ℕ) : Type 0 where
  pub runs : ShowRuns site keys hosts key until
      (Faulty faults_of old.store new.store) (Faulty faults_of old.link new.link)
      old.store.told (beside old.link.told old.sink.told) (beside new.link.told new.sink.told) status
  pub kept : Stays old.store.told new.store.told
  pub whole : Faultless faults_of old.store new.store → Faultless faults_of old.link new.link
      → Faultless faults_of old.sink new.sink → ShowDecided site keys hosts key old.store.told status

-- `keys` saves the key files that the master key gives the names of its site
pub record KeysDoes (site master : List ℕ) (old new : Outside) (status : ℕ) : Type 0 where
  pub runs : KeysRuns site master (Faulty faults_of old.store new.store) old.store.told new.store.told
      old.sink.told new.sink.told status
  pub whole : Faultless faults_of old.store new.store → Faultless faults_of old.sink new.sink
      → KeysDecided site old.store.told status

-- where the words have `-` in its place, the master key is what the source says
pub record ReadKeysDoes (site : List ℕ) (old new : Outside) (status : ℕ) : Type 0 where
  pub runs : ReadKeysRuns site (Faulty faults_of old.store new.store) (Faulty faults_of old.source new.source)
      old.source.told new.source.told (beside old.store.told old.sink.told) (beside new.store.told new.sink.told) status
  pub whole : Faultless faults_of old.store new.store → Faultless faults_of old.source new.source
      → Faultless faults_of old.sink new.sink → ReadKeysDecided site old.source.told old.store.told status

-- `wallet` makes a wallet, or tells a key, or signs, by its file
pub record WalletDoes (call : WalletCall) (name : List ℕ) (old new : Outside) (status : ℕ) : Type 0 where
  pub runs : WalletRuns call name (Faulty faults_of old.store new.store) old.store.told new.store.told
      old.sink.told new.sink.told status
  pub whole : Faultless faults_of old.store new.store → Faultless faults_of old.sink new.sink
      → WalletDecided call name old.store.told status

-- `cluster` saves the key files of its plan, and then runs the nodes of its plan and its calls
pub record ClusterDoes (plan : List ℕ) (old new : Outside) (status : ℕ) : Type 0 where
  pub runs : ClusterRuns plan (Faulty faults_of old.store new.store) (Faulty faults_of old.spawner new.spawner)
      old.store.told new.store.told
      (beside old.spawner.told old.sink.told) (beside new.spawner.told new.sink.told) status
  pub whole : Faultless faults_of old.store new.store → Faultless faults_of old.spawner new.spawner
      → Faultless faults_of old.sink new.sink → ClusterDecided plan old.store.told status

-- ---- all commands

abbrev pub DeploymentDoes : Deployment → List (List ℕ) → Outside → Outside → ℕ → Type 0
DeploymentDoes (Node site keys hosts until) words =
    NodeDoes (word_at words site) (word_at words keys) (word_if words hosts) until
DeploymentDoes (Client site keys call hosts until) words =
    ClientDoes (word_at words site) (word_at words keys) (word_at words call) (word_if words hosts) until
DeploymentDoes (ClientTries site keys call hosts wishes until) words =
    TriesDo (word_at words site) (word_at words keys) (word_at words call) (word_if words hosts) wishes until
DeploymentDoes (ClientSession site keys call hosts details session until) words =
    SessionDoes (word_at words site) (word_at words keys) (word_at words call) (word_if words hosts)
    (word_at words session) details until
DeploymentDoes (Show site keys key hosts until) words =
    ShowDoes (word_at words site) (word_at words keys) (word_if words hosts) key until
DeploymentDoes (Keys site master) words = KeysDoes (word_at words site) master
DeploymentDoes (Cluster plan) words = ClusterDoes (word_at words plan)

-- what a command does, whose files are among the words
abbrev pub CommandDoes : Command → List (List ℕ) → Outside → Outside → ℕ → Type 0
CommandDoes (Replay mode) words = ReplayDoes mode
CommandDoes (Contract mode) words = ContractDoes mode
CommandDoes (Try file) words = TryDoes (word_at words file)
CommandDoes Verify words = ExamineDoes Claim
CommandDoes Audit words = ExamineDoes Dump
CommandDoes (Simulate number size) words = SimulateDoes number size
CommandDoes (Help topic) words = TextDoes (help_text topic)
CommandDoes Version words = TextDoes version_text
CommandDoes (Wallet call) words = WalletDoes call (word_at words 2)
CommandDoes (Transaction number) words = TransactionDoes number
CommandDoes (ReadKeys site) words = ReadKeysDoes (word_at words site)
CommandDoes (Deploy deployment) words = DeploymentDoes deployment words
