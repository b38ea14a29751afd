-- What a command does, by what its words call for.
use Rattle.std.proofs.Common.{◌≡◌, ℕ, Bool, List, Option, Some, sym, subst}
use Rattle.cs_base.specs.declared.key.Key.{Key}
use Rattle.cs_io.specs.Outside.{Outside}
use Rattle.cs_io.specs.declared.until.Until.{Until}
use Rattle.cs_deploy.specs.declared.wishes.Wishes.{Wishes}
use Rattle.cs_wallet.specs.declared.calls.WalletCall.{WalletCall}
use Rattle.cs_cli.specs.declared.words.Command.{Command}
use Rattle.cs_cli.specs.declared.words.Command.TheVariants.{Try, ReadKeys, Wallet}
use Rattle.cs_cli.specs.declared.deployments.Deployment.{Deployment}
use Rattle.cs_cli.specs.declared.deployments.Deployment.TheVariants.{Node, Client, ClientTries, ClientSession, Show, Keys, Cluster}
use Rattle.cs_cli.specs.Deployed.{word_at, word_if}
use Rattle.cs_cli.specs.Done.{NodeDoes, ClientDoes, TriesDo, SessionDoes, ShowDoes, KeysDoes, ClusterDoes, DeploymentDoes, WalletDoes, ReadKeysDoes, TryDoes, CommandDoes}
use Rattle.cs_cli.proofs.Outcomes.{one-command}

module _ (words : List (List ℕ)) (a b : Outside) (status : ℕ) where
  pub does-as : (x y : Command) (command : Option Command) → Some x ≡ command → command ≡ Some y → CommandDoes x words a b status → CommandDoes y words a b status
  does-as x y command here there = subst (λ (z : Command). CommandDoes z words a b status) (one-command x y command here there)

  pub does-so : (x command : Command) → command ≡ x → CommandDoes x words a b status → CommandDoes command words a b status
  does-so x command is = subst (λ (z : Command). CommandDoes z words a b status) (sym is)

  pub wallet-does : (call : WalletCall) (s : List ℕ) (command : Command) → command ≡ Wallet call → s ≡ word_at words 2 → WalletDoes call s a b status → CommandDoes command words a b status
  wallet-does call s command is first does =
      does-so (Wallet call) command is (subst (λ (x : List ℕ). WalletDoes call x a b status) first does)

  pub read-keys-does : (site : ℕ) (s : List ℕ) (command : Command) → command ≡ ReadKeys site → s ≡ word_at words site → ReadKeysDoes s a b status → CommandDoes command words a b status
  read-keys-does site s command is first does =
      does-so (ReadKeys site) command is (subst (λ (x : List ℕ). ReadKeysDoes x a b status) first does)

  pub try-does : (file : ℕ) (s : List ℕ) (command : Command) → command ≡ Try file → s ≡ word_at words file → TryDoes s a b status → CommandDoes command words a b status
  try-does file s command is first does =
      does-so (Try file) command is (subst (λ (x : List ℕ). TryDoes x a b status) first does)

module _ (words : List (List ℕ)) (a b : Outside) (status : ℕ) where
  deploys-so : (x deployment : Deployment) → deployment ≡ x → DeploymentDoes x words a b status → DeploymentDoes deployment words a b status
  deploys-so x deployment is = subst (λ (z : Deployment). DeploymentDoes z words a b status) (sym is)

  pub node-does : (site keys : ℕ) (hosts : Option ℕ) (until : Until) (s k : List ℕ) (h : Option (List ℕ)) (deployment : Deployment) → deployment ≡ Node site keys hosts until → s ≡ word_at words site → k ≡ word_at words keys → h ≡ word_if words hosts
      → NodeDoes s k h until a b status → DeploymentDoes deployment words a b status
  node-does site keys hosts until s k h deployment is first second third does =
      deploys-so (Node site keys hosts until) deployment is
      (subst (λ (x : List ℕ). NodeDoes x (word_at words keys) (word_if words hosts) until a b status) first
      (subst (λ (x : List ℕ). NodeDoes s x (word_if words hosts) until a b status) second
      (subst (λ (x : Option (List ℕ)). NodeDoes s k x until a b status) third does)))

  pub client-does : (site keys call : ℕ) (hosts : Option ℕ) (until : Until) (s k c : List ℕ) (h : Option (List ℕ)) (deployment : Deployment) → deployment ≡ Client site keys call hosts until → s ≡ word_at words site → k ≡ word_at words keys → c ≡ word_at words call → h ≡ word_if words hosts
      → ClientDoes s k c h until a b status → DeploymentDoes deployment words a b status
  client-does site keys call hosts until s k c h deployment is first second third fourth does =
      deploys-so (Client site keys call hosts until) deployment is
      (subst (λ (x : List ℕ). ClientDoes x (word_at words keys) (word_at words call) (word_if words hosts) until a b status) first
      (subst (λ (x : List ℕ). ClientDoes s x (word_at words call) (word_if words hosts) until a b status) second
      (subst (λ (x : List ℕ). ClientDoes s k x (word_if words hosts) until a b status) third
      (subst (λ (x : Option (List ℕ)). ClientDoes s k c x until a b status) fourth does))))

  pub tries-do : (site keys call : ℕ) (hosts : Option ℕ) (wishes : Wishes) (until : Until) (s k c : List ℕ) (h : Option (List ℕ)) (deployment : Deployment) → deployment ≡ ClientTries site keys call hosts wishes until → s ≡ word_at words site → k ≡ word_at words keys → c ≡ word_at words call → h ≡ word_if words hosts
      → TriesDo s k c h wishes until a b status → DeploymentDoes deployment words a b status
  tries-do site keys call hosts wishes until s k c h deployment is first second third fourth does =
      deploys-so (ClientTries site keys call hosts wishes until) deployment is
      (subst (λ (x : List ℕ). TriesDo x (word_at words keys) (word_at words call) (word_if words hosts) wishes until a b status) first
      (subst (λ (x : List ℕ). TriesDo s x (word_at words call) (word_if words hosts) wishes until a b status) second
      (subst (λ (x : List ℕ). TriesDo s k x (word_if words hosts) wishes until a b status) third
      (subst (λ (x : Option (List ℕ)). TriesDo s k c x wishes until a b status) fourth does))))

  pub session-does : (site keys call : ℕ) (hosts : Option ℕ) (details : Bool) (session : ℕ) (until : Until) (s k c : List ℕ) (h : Option (List ℕ)) (m : List ℕ) (deployment : Deployment) → deployment ≡ ClientSession site keys call hosts details session until → s ≡ word_at words site → k ≡ word_at words keys → c ≡ word_at words call → h ≡ word_if words hosts → m ≡ word_at words session
      → SessionDoes s k c h m details until a b status → DeploymentDoes deployment words a b status
  session-does site keys call hosts details session until s k c h m deployment is first second third fourth fifth does =
      deploys-so (ClientSession site keys call hosts details session until) deployment is
      (subst (λ (x : List ℕ). SessionDoes x (word_at words keys) (word_at words call) (word_if words hosts) (word_at words session) details until a b status) first
      (subst (λ (x : List ℕ). SessionDoes s x (word_at words call) (word_if words hosts) (word_at words session) details until a b status) second
      (subst (λ (x : List ℕ). SessionDoes s k x (word_if words hosts) (word_at words session) details until a b status) third
      (subst (λ (x : Option (List ℕ)). SessionDoes s k c x (word_at words session) details until a b status) fourth
      (subst (λ (x : List ℕ). SessionDoes s k c h x details until a b status) fifth does)))))

  pub show-does : (site keys : ℕ) (key : Key) (hosts : Option ℕ) (until : Until) (s k : List ℕ) (h : Option (List ℕ)) (deployment : Deployment) → deployment ≡ Show site keys key hosts until → s ≡ word_at words site → k ≡ word_at words keys → h ≡ word_if words hosts
      → ShowDoes s k h key until a b status → DeploymentDoes deployment words a b status
  show-does site keys key hosts until s k h deployment is first second third does =
      deploys-so (Show site keys key hosts until) deployment is
      (subst (λ (x : List ℕ). ShowDoes x (word_at words keys) (word_if words hosts) key until a b status) first
      (subst (λ (x : List ℕ). ShowDoes s x (word_if words hosts) key until a b status) second
      (subst (λ (x : Option (List ℕ)). ShowDoes s k x key until a b status) third does)))

  pub keys-does : (site : ℕ) (master s : List ℕ) (deployment : Deployment) → deployment ≡ Keys site master → s ≡ word_at words site → KeysDoes s master a b status → DeploymentDoes deployment words a b status
  keys-does site master s deployment is first does =
      deploys-so (Keys site master) deployment is (subst (λ (x : List ℕ). KeysDoes x master a b status) first does)

  pub cluster-does : (plan : ℕ) (s : List ℕ) (deployment : Deployment) → deployment ≡ Cluster plan → s ≡ word_at words plan → ClusterDoes s a b status → DeploymentDoes deployment words a b status
  cluster-does plan s deployment is first does =
      deploys-so (Cluster plan) deployment is (subst (λ (x : List ℕ). ClusterDoes x a b status) first does)
