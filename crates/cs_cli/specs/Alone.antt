-- What a command leaves alone: an object that it isn't handed tells what it told, and counts no fault more.
use Rattle.std.specs.Prelude.{◌≡◌, Option, Some, None}
use Rattle.cs_io.specs.Outside.{Outside}
use Rattle.cs_cli.specs.declared.deployments.Deployment.{Deployment}
use Rattle.cs_cli.specs.declared.deployments.Deployment.TheVariants.{Node, Client, ClientTries, ClientSession, Show, Keys, Cluster}
use Rattle.cs_cli.specs.declared.words.Command.{Command}
use Rattle.cs_cli.specs.declared.words.Command.TheVariants.{Replay, Contract, Try, Verify, Audit, Simulate, Help, Version, Wallet, Transaction, ReadKeys, Deploy}

-- no link is handed on, and no spawner
abbrev pub NoLinkNoChild : Outside → Outside → Type 0
NoLinkNoChild old new = (new.link ≡ old.link) × (new.spawner ≡ old.spawner)

-- no file either: a text is read and answered
abbrev pub OnlyStreams : Outside → Outside → Type 0
OnlyStreams old new = (new.store ≡ old.store) × NoLinkNoChild old new

abbrev pub DeploymentLeaves : Deployment → Outside → Outside → Type 0
DeploymentLeaves (Node site keys hosts until) old new = (new.source ≡ old.source) × (new.spawner ≡ old.spawner)
DeploymentLeaves (Client site keys call hosts until) old new = (new.source ≡ old.source) × (new.spawner ≡ old.spawner)
DeploymentLeaves (ClientTries site keys call hosts wishes until) old new =
    (new.source ≡ old.source) × (new.spawner ≡ old.spawner)
DeploymentLeaves (ClientSession site keys call hosts details session until) old new =
    (new.source ≡ old.source) × (new.spawner ≡ old.spawner)
DeploymentLeaves (Show site keys key hosts until) old new = (new.source ≡ old.source) × (new.spawner ≡ old.spawner)
DeploymentLeaves (Keys site master) old new = (new.source ≡ old.source) × NoLinkNoChild old new
DeploymentLeaves (Cluster plan) old new = (new.source ≡ old.source) × (new.link ≡ old.link)

abbrev pub CommandLeaves : Command → Outside → Outside → Type 0
CommandLeaves (Replay mode) old new = OnlyStreams old new
CommandLeaves (Contract mode) old new = OnlyStreams old new
CommandLeaves (Try file) old new = NoLinkNoChild old new
CommandLeaves Verify old new = OnlyStreams old new
CommandLeaves Audit old new = OnlyStreams old new
CommandLeaves (Simulate number size) old new = (new.source ≡ old.source) × OnlyStreams old new
CommandLeaves (Help topic) old new = (new.source ≡ old.source) × OnlyStreams old new
CommandLeaves Version old new = (new.source ≡ old.source) × OnlyStreams old new
CommandLeaves (Wallet call) old new = (new.source ≡ old.source) × NoLinkNoChild old new
CommandLeaves (Transaction number) old new = OnlyStreams old new
CommandLeaves (ReadKeys site) old new = NoLinkNoChild old new
CommandLeaves (Deploy deployment) old new = DeploymentLeaves deployment old new

-- what the words call for leaves these alone; words outside the grammar leave all but the sink
abbrev pub LeavesAlone : Option Command → Outside → Outside → Type 0
LeavesAlone None old new = (new.source ≡ old.source) × OnlyStreams old new
LeavesAlone (Some command) old new = CommandLeaves command old new
