-- What a contract sees of a core: the view for which it stands, and the net in which it speaks.
use Rattle.std.specs.Prelude.{◌≡◌, true, Bool, List, Option, Result, IfOk, OnOk}
use Rattle.cs_base.specs.NodeId.{is_node}
use Rattle.cs_base.specs.Version.{version_of}
use Rattle.cs_base.specs.declared.version.Version.TheVariants.{One}
use Rattle.cs_tx_value.specs.declared.object.Object.{Object}
use Rattle.cs_tx_types.specs.declared.transaction.Tx.{Tx}
use Rattle.cs_check_rules.specs.Chain.{Log, kept_of}
use Rattle.cs_order.specs.Deeds.{Member, Machine}
use Rattle.cs_node_state.specs.Setup.{Setup}
use Rattle.cs_node_rules.specs.Net.{Net}
use Rattle.cs_node_rules.specs.Site.{Carriers, Mark, Site, View}
use Rattle.cs_node_rules.specs.Deployment.{site_of}
use Rattle.cs_node_rules.specs.Ready.{IsQuiet}
use Rattle.cs_node_pool.specs.Deployed.{deployed_setup}
use Rattle.cs_sbac.specs.Held.{Held, bench_of}
use Rattle.cs_node.specs.Drafts.{Draft}
use Rattle.cs_node.specs.declared.engine.Engine.{Engine}
use Rattle.cs_node.specs.declared.node_core.Core.{Core}
use Rattle.cs_node.specs.Speaking.{Speaks}
use Rattle.cs_node.specs.Steps.{node_view, MakesMarks, TurnDone}

abbrev pub site_at : {M : Type 0} → Machine M → Carriers M → Net → Held → List Object → (Tx → Bool) → Site M
site_at {M} rules carrier net held genesis approves = site_of (deployed_setup held.config genesis approves) net rules carrier

-- it holds at every site, of version 1, of a node that holds these, whatever the net, the genesis and the judge
abbrev pub AtEverySite : {M : Type 0} → Machine M → Carriers M → Held → (Site M → Type 0) → Type 0
AtEverySite {M} rules carrier held Holds =
    (net : Net) (genesis : List Object) (approves : Tx → Bool) → version_of held.config.version ≡ One →
    Holds (site_at rules carrier net held genesis approves)

-- the view, but for the log and the deeds of the order
abbrev pub core_view : {M : Type 0} → Log → Held → Member M → View M
core_view {M} log held h = node_view held.me (bench_of log held) h

-- The order stands for the member that the node is in its shard, what is to be kept of the log is kept, and the node is one
-- of the configuration, which is of version 1.
pub record IsSeated {O J M : Type 0} (stands : O → Member M → Type 0)
    (engine : Engine O J M) (log : Log) (h : Member M) : Type 0 where
  pub stood : stands engine.order h
  pub kept_is : engine.sbac.archived.kept ≡ kept_of log
  pub f_is : h.f ≡ engine.sbac.config.f
  pub index_is : h.me ≡ engine.sbac.me.index
  pub node : is_node engine.sbac.config engine.sbac.me ≡ true
  pub first : version_of engine.sbac.config.version ≡ One

-- An engine keeps a view under a setup: its order the member, its table and pool the rest.
pub record KeepsView {O J M : Type 0} (stands : O → Member M → Type 0) (approves : J → Tx → Bool)
    (setup : Setup) (engine : Engine O J M) (v : View M) : Type 0 where
  pub seated : IsSeated stands engine v.bench.log v.member
  pub view_is : core_view v.bench.log engine.sbac v.member ≡ v
  pub genesis : List Object
  pub setup_is : deployed_setup engine.sbac.config genesis (approves engine.judge) ≡ setup

-- A core between events stands for a view at a site: it keeps the view, its keys are those of the node there, and no
-- rule applies.
pub record CoreStandsFor {O J M : Type 0} (stands : O → Member M → Type 0) (approves : J → Tx → Bool)
    (site : Site M) (core : Core O J M) (v : View M) : Type 0 where
  pub keeps : KeepsView stands approves site.setup core.engine v
  pub me_is : core.own.keys.me ≡ v.me
  pub speaks : Speaks core.engine.sbac.config site.net core.own.keys
  pub quiet : IsQuiet site v

-- Where a call of an engine leads, as it keeps the view of its member and its log, at any genesis and in any net: what it
-- says of the site and the view, and of what the view is after.
abbrev pub Leads : {O J M : Type 0} → (O → Member M → Type 0) → (J → Tx → Bool) → Machine M → Carriers M
    → Engine O J M → Engine O J M → (Site M → View M → (View M → Type 0) → Type 0) → Type 0
Leads {O} {J} {M} stands approves rules carrier engine engine' Says =
    (net : Net) (genesis : List Object) (log : Log) (h : Member M) → IsSeated stands engine log h
    → Says (site_at rules carrier net engine.sbac genesis (approves engine.judge)) (core_view log engine.sbac h)
    (KeepsView stands approves (deployed_setup engine.sbac.config genesis (approves engine.judge)) engine')

-- Where a call with this outcome leads, unless memory ran out: it made these marks of the site and the view, and drafted
-- what they say.
abbrev pub LeadsBy : {O J M A E : Type 0} → (O → Member M → Type 0) → (J → Tx → Bool) → Machine M → Carriers M
    → Engine O J M → Engine O J M → Draft → Draft → Result A E → (Site M → View M → List (Mark M)) → Type 0
LeadsBy {O} {J} {M} {A} {E} stands approves rules carrier engine engine' draft draft' result marks =
    Leads stands approves rules carrier engine engine'
    (λ site v After. OnOk result (MakesMarks site (marks site v) v draft draft' After))

-- Where a turn with this outcome leads, unless memory ran out: it went on by these marks, or there are none.
abbrev pub TurnsBy : {O J M E : Type 0} → (O → Member M → Type 0) → (J → Tx → Bool) → Machine M → Carriers M
    → Engine O J M → Engine O J M → Draft → Draft → Result Bool E → (Site M → View M → Option (List (Mark M))) → Type 0
TurnsBy {O} {J} {M} {E} stands approves rules carrier engine engine' draft draft' result marks =
    Leads stands approves rules carrier engine engine'
    (λ site v After. IfOk result (λ went. TurnDone site (marks site v) v went draft draft' After))
