-- The command `node`.
use Rattle.std.specs.Prelude.{◌≡◌, ◌⊎◌, ℕ, List, Option, None}
use Rattle.std.specs.Io.KnownBytes.{Keeps}
use Rattle.cs_base.specs.Answers.{Answers}
use Rattle.cs_io.specs.Store.{Files}
use Rattle.cs_io.specs.Link.{Binds}
use Rattle.cs_io.specs.Outside.{LinkTold, Beside}
use Rattle.cs_io.specs.declared.link.Bound.TheVariants as bind
use Rattle.cs_io.specs.declared.until.Until.{Until}
use Rattle.cs_order_rules.specs.SlotMachine.{slot_machine}
use Rattle.cs_order_rules.specs.declared.message.OrderMessage.{OrderMessage}
use Rattle.cs_native.specs.Approval.{is_approved_with_rules}
use Rattle.cs_node_rules.specs.Net.{Net}
use Rattle.cs_node_rules.specs.Site.{Site, View, start_view}
use Rattle.cs_node_rules.specs.Deployment.{site_of}
use Rattle.cs_node_wire.specs.SlotCarried.{slot_carrier}
use Rattle.cs_node_pool.specs.Deployed.{deployed_setup}
use Rattle.cs_node.specs.Speaking.{Speaks}
use Rattle.cs_serve.specs.declared.ending.End.{End}
use Rattle.cs_serve.specs.declared.ending.End.TheVariants.{Done, Ended, LinkFault, WriteFault, Memory}
use Rattle.cs_serve.specs.Serving.{Serves}
use Rattle.cs_config.specs.declared.hosts.Hosts.{Hosts}
use Rattle.cs_deploy.specs.declared.setups.Setup.{Setup}
use Rattle.cs_deploy.specs.Hosts.{NodeFilesCome}
use Rattle.cs_deploy.specs.Untaken.{IsSilent}
use Rattle.cs_deploy.specs.Binding.{IsToldHosts, IsShort, IsUnbound, Runs, link_answer}

-- the site of a setup in a net: nodes in the order among 3f+1 members, which approve by the contracts and the rules
abbrev pub site_of_setup : Setup → Net → Site OrderMessage
site_of_setup setup net =
    site_of (deployed_setup setup.site.config setup.site.genesis (is_approved_with_rules setup.book)) net slot_machine slot_carrier

-- nothing is said of the node that is left
abbrev pub AnyNode : {M : Type 0} → Unit {0} → View M → Type 0
AnyNode {M} core view = Unit {0}

-- A node was served so: what it sends was offered and its lines were written, as its trail over the inputs that it took
-- has them.
abbrev pub ServesFrom : {M : Type 0} → Site M → View M → Until → Beside LinkTold → Beside LinkTold → End → Type 0
ServesFrom {M} site v until old new end = Serves (AnyNode {M = M}) site v until old new (end, None)

-- what is printed behind all that a node printed, and the status
abbrev pub TellsEnd : End → Option (List ℕ) → Option (List ℕ) → ℕ → Type 0
TellsEnd Done written written' status = (status ≡ 0) × Keeps written written'
TellsEnd Ended written written' status = (status ≡ 0) × Keeps written written'
TellsEnd LinkFault written written' status = Answers link_answer written written' status
TellsEnd WriteFault written written' status = (status ≡ 6) × Keeps written written'
TellsEnd Memory written written' status = IsSilent written written' status

-- The link is told where all are and bound as the node of these keys, and the node is served, in whatever net its keys
-- speak.
pub record IsServed (setup : Setup) (hosts : Option Hosts) (until : Until) (LinkFailed : Type 0)
    (old new : Beside LinkTold) (status : ℕ) : Type 0 where
  pub placed : IsToldHosts hosts old.told new.told
  pub bound : Binds old.told.bound new.told.bound setup.keys.me setup.site.base_port bind.Done
  pub end : End
  pub written : Option (List ℕ)
  pub serves : (net : Net) → Speaks setup.site.config net setup.keys →
      let site = site_of_setup setup net in
      ServesFrom site (start_view site setup.keys.me) until old (record new { written = written }) end
  pub failed : end ≡ LinkFault → LinkFailed
  pub told : TellsEnd end written new.written status

-- what becomes of a node whose files are taken
abbrev pub NodeGoes : Setup → Option Hosts → Until → Type 0 → Beside LinkTold → Beside LinkTold → ℕ → Type 0
NodeGoes setup hosts until LinkFailed old new status =
    IsShort old new status
    ⊎ (IsUnbound setup.keys.me setup.site.base_port hosts LinkFailed old new status
    ⊎ IsServed setup hosts until LinkFailed old new status)

-- what the command comes to
abbrev pub NodeRuns : List ℕ → List ℕ → Option (List ℕ) → Until → Type 0 → Type 0 → Option Files → Beside LinkTold
    → Beside LinkTold → ℕ → Type 0
NodeRuns site keys hosts until StoreFailed LinkFailed files old new status =
    Runs (NodeFilesCome site keys hosts) (λ taken. NodeGoes taken.0 taken.1 until LinkFailed)
    StoreFailed files old new status
