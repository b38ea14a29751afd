-- A world of a deployment is a story, of which the theorem on the shards together speaks.
use Rattle.std.proofs.Common.{◌≡◌, ◌⊎◌, ℕ, ◌<◌, ◌≤◌, Bool, true, length, List, [], ◌∷◌, ◌++◌, map, refl, sym, ap, ◌∙◌, subst, arith}
use Rattle.std.specs.Prelude.{nat_lt}
use Rattle.std.proofs.lemmas.Bool.{and_parts, ltb-true}
use Rattle.cs_base.specs.declared.config.Config.{Config}
use Rattle.cs_base.specs.declared.node_id.NodeId.{NodeId}
use Rattle.cs_base.specs.declared.version.Version.{Version}
use Rattle.cs_base.specs.declared.version.Version.TheVariants.{One}
use Rattle.cs_tx_types.specs.Entry.{EntryFits}
use Rattle.cs_order.specs.declared.proposed.Proposed.{Proposed}
use Rattle.cs_base.specs.NodeId.{is_node}
use Rattle.cs_tx_value.specs.declared.object.Object.{Object}
use Rattle.cs_tx_types.specs.declared.transaction.Tx.{Tx}
use Rattle.cs_tx_types.specs.declared.action.Action.{Action}
use Rattle.cs_order.specs.Deeds.{Machine}
use Rattle.cs_order.specs.Law.{Law, Holds}
use Rattle.cs_ledger.specs.Ledger.{Bytes}
use Rattle.cs_ledger.specs.Table.{Abort, Accepted, Aborted}
use Rattle.cs_ledger.specs.ShardWorld as World
use Rattle.cs_node_rules.specs.Signs.{Did}
use Rattle.cs_node_rules.specs.Site.{Carriers, Site, signs_of}
use Rattle.cs_node_rules.specs.World.{Happening, Execution, trail_of, AreHonest, firsts_of, steps_of, accepts_in, aborts_in}
use Rattle.cs_node_rules.specs.Ready.{Executed}
use Rattle.cs_node_rules.specs.Collisions.{known_sessions, known_entries, NoCollision}
use Rattle.cs_node_rules.specs.Carrying.{AllCarry}
use Rattle.cs_node_law.specs.Made.{EventIsMade, AllMade, IsLevel, ReadsProper}
use Rattle.cs_node_rules.specs.Net.{Net}
use Rattle.cs_world_law.specs.Worlds.{is_honest, IsWorld, IsNet, deployed_site, signs_at}
use Rattle.cs_world_law.specs.Steps.{AllComputed, StepsComputed, executions_of, executions_in, IsOlderPart, FollowsShard}
use Rattle.cs_world_law.specs.Chain.{moments, trail_at, Known, Story, IsSoundSite}
use Rattle.cs_world_law.proofs.Trails.{AllWithin, within-all}
use Rattle.cs_world_law.proofs.Local.{IsDone, did-done, local}
use Rattle.cs_world_law.proofs.Stories.{trail-same, firsts-same, IsSane, sane}
use Rattle.cs_world_law.proofs.Lawful.{AreLawful, lawful-apart, lawful-alone}
use Rattle.cs_world_law.proofs.Allowed.{AreFine, fine-earlier, are-fine}
use Rattle.cs_world_law.proofs.Told.{computed, computed-earlier}
use Rattle.cs_world_law.proofs.Decided.{accepts-decided, aborts-decided}
use Rattle.cs_world_law.proofs.Parts.{follows}
use Rattle.cs_world_law.proofs.Middle.{IsMiddle, middle}
use Rattle.cs_world_law.proofs.Readiness.{part}
use Rattle.cs_world_law.proofs.Deployed.{is-sound, opens-fit, are-apart, are-unique}

-- what an event does is at a node of a shard
pub shards-some : (config : Config) (name : NodeId) → is_node config name ≡ true → 0 < config.shards
shards-some config name e =
    let less = ltb-true name.shard config.shards (and_parts (nat_lt name.shard config.shards) _ e).0 in
    omega arith

-- a world of a deployment, with what is known of its order and of its nodes
pub record IsPlace {M : Type 0} (machine : Machine M) : Type 0 where
  pub law : Law machine
  pub holds : Holds machine
  pub event : (site : Site M) → EventIsMade site
  pub carrier : Carriers M
  pub carries : AllCarry machine carrier
  pub config : Config
  pub net : Net
  pub genesis : List Object
  pub approves : Tx → Bool
  pub world : List (Happening M)
  pub few : config.shards ≤ 16
  pub small : config.f ≤ 5
  pub is_net : IsNet config net
  pub is_world : IsWorld (deployed_site config net genesis approves machine carrier) world

-- the place of such a world
abbrev pub place : {M : Type 0} (machine : Machine M) (law : Law machine) (holds : Holds machine) (event : (site : Site M) → EventIsMade site)
    (carrier : Carriers M) (carries : AllCarry machine carrier)
    (config : Config) (net : Net) (genesis : List Object) (approves : Tx → Bool) (world : List (Happening M))
    (few : config.shards ≤ 16) (small : config.f ≤ 5) (is_net : IsNet config net) (is_world : IsWorld (deployed_site config net genesis approves machine carrier) world)
    → IsPlace machine
place {M} machine law holds event carrier carries config net genesis approves world few small is_net is_world = record {
  law = law;
  holds = holds;
  event = event;
  carrier = carrier;
  carries = carries;
  config = config;
  net = net;
  genesis = genesis;
  approves = approves;
  world = world;
  few = few;
  small = small;
  is_net = is_net;
  is_world = is_world;
}

module _ {M : Type 0} (machine : Machine M) (p : IsPlace machine) where
  abbrev pub At : Site M
  At = deployed_site p.config p.net p.genesis p.approves machine p.carrier

  -- what holds of no event, and of a deployment with a shard, holds
  pub by-world : (P : List (Happening M) → Type 0) → P [] → (0 < p.config.shards → P p.world) → P p.world
  by-world P none some = go p.world p.is_world.honest some
    where
      go : (z : List (Happening M)) → AreHonest (deployed_site p.config p.net p.genesis p.approves machine p.carrier).net z → (0 < p.config.shards → P z) → P z
      go [] honest some = none
      go (h ∷ past) honest some = some (shards-some p.config h.node (p.is_net.nodes h.node honest.0))

  pub by-node : (i : NodeId) → is_honest At i ≡ true → 0 < p.config.shards
  by-node i honest = shards-some p.config i (p.is_net.nodes i honest)

  abbrev pub Here : Known
  Here = record { sessions = known_sessions At p.world; entries = known_entries At p.world }

  module _ (some : 0 < p.config.shards) where
    pub sound : IsSoundSite At
    sound = is-sound p.config p.net p.is_net p.genesis p.approves machine p.carrier p.law p.holds p.carries p.world some p.few p.small p.is_world

    -- in version 1 each entry has one action
    pub alone-in : At.setup.version ≡ One → (q : Proposed) → length (At.entry_in q).actions ≡ 1
    alone-in first q = (let fits : EntryFits One (At.entry_in q) = subst (λ (v : Version). EntryFits v (At.entry_in q)) first (sound.read q) in fits.0)

    sane-here : IsSane At Here p.world
    sane-here =
        let w = p.is_world in
        let reads : ReadsProper At = record { messages = sound.carries.proper; entries = sound.read } in
        sane At Here p.world (p.event At) reads (opens-fit p.config p.net p.is_net p.genesis p.approves machine p.carrier) w.honest w.life w.bytes w.genuine (λ x i. i) (λ e i. i)

    pub story : Story At Here (moments p.world)
    story = sane-here.story

    pub made : (i : NodeId) → AllMade At i (trail_of i p.world)
    made i = (sane-here.level i).made

    pub level : (i : NodeId) → IsLevel At i (trail_of i p.world)
    level i = sane-here.level i

    pub within : (i : NodeId) → AllWithin At Here i (trail_of i p.world)
    within i = subst (λ t. AllWithin At Here i t) (trail-same i p.world) (within-all At Here i (moments p.world) story)

    -- what was executed is known
    pub executed : (i : NodeId) (entry : Action) → Executed (signs_at i p.world) entry → IsDone At sound Here i entry
    executed i entry e =
        let c = part At Here i (trail_of i p.world) e.later (Did e.slot e.place entry e.effect) e.earlier (made i) (within i) e.split in
        did-done At sound Here i c.before e.slot e.place entry e.effect c.made (local At sound Here i c.before c.made.1 c.within)

    -- ---- where the order of each shard keeps its law

    module _ (lawful : AreLawful At Here) where
      pub fine : AreFine At Here (firsts_of p.world)
      fine = subst (λ f. AreFine At Here f) (sym (firsts-same p.world)) (are-fine At sound Here lawful (moments p.world) story)

      pub came : StepsComputed At p.world
      came = subst (λ f. AllComputed At.setup f) (sym (firsts-same p.world)) (computed At sound Here lawful (moments p.world) story)

      pub follow : FollowsShard At p.world
      follow i honest =
          subst (λ t. IsOlderPart (executions_in i.shard (signs_of t)) (executions_of i.shard (firsts_of p.world))) (trail-same i p.world)
          (subst (λ f. IsOlderPart (executions_in i.shard (signs_of (trail_at i (moments p.world)))) (executions_of i.shard f)) (sym (firsts-same p.world))
          (follows At sound Here lawful (moments p.world) story i honest))

    -- so it does where no node may lie
    pub lawful-trusted : At.setup.f ≡ 0 → AreLawful At Here
    lawful-trusted trusted = lawful-alone At sound Here trusted

    -- ---- and where no two hashed strings collide

    module _ (apart : NoCollision At p.genesis p.world) where
      pub lawful-here : AreLawful At Here
      lawful-here = lawful-apart At sound Here (are-unique p.config p.net p.is_net p.genesis p.approves machine p.carrier p.world apart)

      pub names : World.AreNamedApart At.setup.rules.genesis (map At.setup.session_of Here.sessions)
      names = are-apart p.config p.net p.is_net p.genesis p.approves machine p.carrier p.world p.is_world.life p.is_world.bytes apart

      -- each beginning of the first executions is one of which the theorem on the shards together speaks
      pub until : (later earlier : List Execution) → firsts_of p.world ≡ later ++ earlier → IsMiddle At Here earlier
      until later earlier split =
          middle At sound Here names earlier
          (fine-earlier At Here later earlier (subst (λ f. AreFine At Here f) split (fine lawful-here)))
          (computed-earlier At.setup later earlier (subst (λ f. AllComputed At.setup f) split (came lawful-here)))

      pub whole : IsMiddle At Here (firsts_of p.world)
      whole = until [] (firsts_of p.world) refl

      -- what an honest node decided is decided in the log of its shard
      pub accepts-here : (i : NodeId) (d : Bytes) → is_honest At i ≡ true → accepts_in At.setup d (signs_at i p.world) ≡ true
          → World.decided_in At.setup.rules i.shard d Accepted (World.log i.shard (steps_of At.setup (firsts_of p.world))) ≡ true
      accepts-here i d honest accepts =
          ap (λ f. World.decided_in At.setup.rules i.shard d Accepted (World.log i.shard (steps_of At.setup f))) (firsts-same p.world)
          ∙ accepts-decided At sound Here lawful-here (moments p.world) story i honest d (subst (λ t. accepts_in At.setup d (signs_of t) ≡ true) (sym (trail-same i p.world)) accepts)

      abbrev pub HasAborted : NodeId → Bytes → List Execution → Type 0
      HasAborted i d firsts =
          (World.decided_in At.setup.rules i.shard d Aborted (World.log i.shard (steps_of At.setup firsts)) ≡ true)
          ⊎ (World.votes_in At.setup.rules i.shard d Abort (World.log i.shard (steps_of At.setup firsts)) ≡ true)

      pub aborts-here : (i : NodeId) (d : Bytes) → is_honest At i ≡ true → aborts_in At.setup d (signs_at i p.world) ≡ true → HasAborted i d (firsts_of p.world)
      aborts-here i d honest aborts =
          subst (λ f. HasAborted i d f) (sym (firsts-same p.world))
          (aborts-decided At sound Here lawful-here (moments p.world) story i honest d (subst (λ t. aborts_in At.setup d (signs_of t) ≡ true) (sym (trail-same i p.world)) aborts))
