-- The nodes of a schedule that can be played: those that don't lie.
use Rattle.std.proofs.Common.{◌≡◌, ℕ, zero, suc, ◌+◌, ◌*◌, ◌<◌, ◌≤◌, nat_lt, nat_le, ◌==◌, true, false, not, ◌&&◌, ◌||◌, List, [], ◌∷◌, ◌++◌, length, get_or, Some, None, refl, ap, sym, subst, ◌∙◌, arith}
use Rattle.std.specs.Prelude.{Bool, Option, if◌then◌else◌}
use Rattle.std.specs.List.{All, list_any}
use Rattle.std.proofs.lemmas.Bool.{eqb-true, ltb-true, leb-true, lt-ltb, le-leb}
use Rattle.std.proofs.lemmas.Bool.Decides.{nat_tests}
use Rattle.cs_base.specs.declared.config.Config.{Config}
use Rattle.cs_base.specs.declared.node_id.NodeId.{NodeId}
use Rattle.cs_tx_value.specs.declared.object.Object.{Object}
use Rattle.cs_tx_types.specs.declared.transaction.Tx.{Tx}
use Rattle.cs_tx_types.specs.declared.session.Session.{Session}
use Rattle.cs_tx.specs.Sessions.{ledger_session}
use Rattle.cs_tx.specs.Uses as Uses
use Rattle.cs_tx.proofs.ShardsSeen.{concerns-session_of}
use Rattle.cs_order.specs.Counts.{count_below}
use Rattle.cs_order.specs.Deeds.{Member}
use Rattle.cs_order.specs.Runs.{FewLiars}
use Rattle.cs_base.specs.NodeId.{is_node, is_client, same_name}
use Rattle.cs_ledger.specs.Ledger.{Bytes}
use Rattle.cs_sched.specs.declared.schedule.Schedule.{Schedule}
use Rattle.cs_sched.specs.declared.schedule.Event.{Event}
use Rattle.cs_sched.specs.declared.schedule.Event.TheVariants.{Say, Inject, Deliver, Tick, Drain}
use Rattle.cs_node_state.specs.Setup as Setup
use Rattle.cs_node_rules.specs.Net.{net_of}
use Rattle.cs_node_rules.specs.Site.{Site, View, start_view}
use Rattle.cs_node_state.specs.Deployed.{rules_of, setup_of}
use Rattle.cs_node.specs.declared.node_core.Core.{Core}
use Rattle.cs_node.specs.Cores.{CoreStandsFor}
use Rattle.cs_replay_rules.specs.PlayedWorlds as Given
use Rattle.cs_sched.specs.Naming.{is_name, is_liar}
use Rattle.cs_sched.specs.Playable.{IsHonest, IsSpeaker, IsPlayable, IsPlayableEvent}
use Rattle.cs_replay_play.specs.Kept.{Deploys}
use Rattle.cs_replay_play.specs.Voicing.{Voicing}
use Rattle.cs_replay_play.specs.Standing.{EachStands, AllStand, Rests, IsShortEvent, IsToAnother}
use Rattle.cs_replay.specs.Site.{net_of_schedule}
use Rattle.cs_replay.specs.Settings.{honest_nodes, name_at_place, setting_of}
use Rattle.cs_replay.proofs.Few.{count-same, count-listed}
use Rattle.cs_replay.proofs.Honest.{Has, has-below, is-below, apart-below, ranks-within, shards-within}

-- ---- the setup of a deployment

module _ (config : Config) (genesis : List Object) (approves : Tx → Bool) (x : Session) where
  below : (n : ℕ) → Setup.concerned_below (setup_of config genesis (ledger_session approves)) x n ≡ Uses.concerned_below config x n
  below zero = refl
  below (suc n) =
      ap (λ zs. zs ++ (if Setup.is_concerned_shard (setup_of config genesis (ledger_session approves)) x n then n ∷ [] else [])) (below n)
      ∙ ap (λ b. Uses.concerned_below config x n ++ (if b then n ∷ [] else [])) (concerns-session_of (rules_of config genesis) config (λ name. refl) approves x n)

pub deploys-setup : (config : Config) (genesis : List Object) (approves : Tx → Bool) → Deploys config (setup_of config genesis (ledger_session approves))
deploys-setup config genesis approves = record {
  shards = refl;
  session = λ x. refl;
  transaction = λ x. refl;
  concerns = λ x. below config genesis approves x config.shards;
}

-- ---- the nodes

module _ {O J M : Type 0} (stands : O → Member M → Type 0) (approves : J → Tx → Bool) (site : Site M) where
  each-push : (cores : List (Core O J M)) (core : Core O J M) (views : ℕ → View M) → EachStands stands approves site cores views → CoreStandsFor stands approves site core (views (length cores))
      → EachStands stands approves site (cores ++ core ∷ []) views
  each-push [] core views each is zero c h =
      let q : Some core ≡ Some c = h in
      let e : core ≡ c = cc in
      subst (λ (x : Core O J M). CoreStandsFor stands approves site x (views 0)) e is
  each-push [] core views each is (suc i) c h = let q : None ≡ Some c = h in absurd (cc)
  each-push (first ∷ cores) core views each is zero c h = each zero c h
  each-push (first ∷ cores) core views each is (suc i) c h = each-push cores core (λ j. views (suc j)) (λ j. each (suc j)) is i c h

  -- one core more
  pub each-more : (cores cores' : List (Core O J M)) (core : Core O J M) (views : ℕ → View M) (count : ℕ) → cores' ≡ cores ++ core ∷ [] → length cores ≡ count → EachStands stands approves site cores views
      → CoreStandsFor stands approves site core (views count) → EachStands stands approves site cores' views
  each-more cores cores' core views count is at each stood =
      subst (λ (cs : List (Core O J M)). EachStands stands approves site cs views) (sym is)
      (each-push cores core views each (subst (λ n. CoreStandsFor stands approves site core (views n)) (sym at) stood))

-- before the first input
pub all-begin : {O J M : Type 0} (stands : O → Member M → Type 0) (approves : J → Tx → Bool) (site : Site M) (cores : List (Core O J M)) (schedule : Schedule) → length cores ≡ length (honest_nodes schedule)
    → EachStands stands approves site cores (λ i. start_view site (name_at_place (honest_nodes schedule) i)) → AllStand stands approves site (name_at_place (honest_nodes schedule)) cores []
all-begin stands approves site cores schedule count each =
    let members = 3 * schedule.config.f + 1 in
    let some : 0 < members = omega arith in
    record {
      each = each;
      apart = λ i j first second same. apart-below members schedule.liars some (schedule.config.shards * members) i j (omega (arith, first, count)) (omega (arith, second, count)) same;
    }

both : (one other : Bool) → (one && other) ≡ true → (one ≡ true) × (other ≡ true)
both true other all = (refl, all)
both false other all = absurd (cc)

number-same : (a b : ℕ) → (a == b) ≡ (b == a)
number-same a b = grind (arith, nat_tests)

-- a name is told apart from the liars in one way, whichever of both names stands first
liars-same : (liars : List NodeId) (name : NodeId) → list_any (λ liar. same_name liar name) liars ≡ is_liar liars name
liars-same [] name = refl
liars-same (liar ∷ liars) name =
    ap (λ b. (b && (liar.index == name.index)) || list_any (λ other. same_name other name) liars) (number-same liar.shard name.shard)
    ∙ ap (λ b. ((name.shard == liar.shard) && b) || list_any (λ other. same_name other name) liars) (number-same liar.index name.index)
    ∙ ap (λ b. is_name name liar || b) (liars-same liars name)

same-names : (a b : NodeId) → same_name a b ≡ true → a ≡ b
same-names a b is =
    let (shard, index) = both (a.shard == b.shard) (a.index == b.index) is in
    let shards = eqb-true a.shard b.shard shard in
    let indexes = eqb-true a.index b.index index in
    λ i. record { shard = shards i; index = indexes i }

not-both : (b : Bool) → b ≡ true → b ≡ false → ⊥
not-both true is other = cc
not-both false is other = cc

module _ (schedule : Schedule) (playable : IsPlayable schedule) where
  abbrev config : Config
  config = schedule.config

  abbrev members : ℕ
  members = 3 * config.f + 1

  abbrev nodes : ℕ
  nodes = config.shards * members

  some : 0 < members
  some = omega arith

  is-node : (name : NodeId) → name.shard < config.shards → name.index < members → is_node config name ≡ true
  is-node name below member =
      let least : name.index ≤ 3 * config.f = omega arith in
      rw (lt-ltb name.shard config.shards below, le-leb name.index (3 * config.f) least) refl

  -- an honest node has its place
  pub has-place : (name : NodeId) → is_node config name ≡ true → is_liar schedule.liars name ≡ false → Has (honest_nodes schedule) name
  has-place name is honest =
      let (in_shard, in_range) = both (nat_lt name.shard config.shards) (nat_le name.index (3 * config.f)) is in
      let below : name.shard < config.shards = ltb-true name.shard config.shards in_shard in
      let within : name.index ≤ 3 * config.f = leb-true name.index (3 * config.f) in_range in
      let member : name.index < members = omega arith in
      has-below members schedule.liars some nodes name (record { ranked = ranks-within members config.shards name below member; member = member; honest = honest })

  named : (name : NodeId) → IsHonest config schedule.liars name → Has (honest_nodes schedule) name
  named name is = has-place name is.node is.honest

  -- what has a place is an honest node
  pub is-honest-node : (name : NodeId) → Has (honest_nodes schedule) name → IsHonest config schedule.liars name
  is-honest-node name has =
      let is = is-below members schedule.liars some nodes name has in
      let below : name.shard < config.shards = shards-within members config.shards name is.ranked in
      record { node = is-node name below is.member; honest = is.honest }

  pub honest-shard : (name : NodeId) → Has (honest_nodes schedule) name → name.shard < config.shards
  honest-shard name has = shards-within members config.shards name (is-below members schedule.liars some nodes name has).ranked

  -- the name at a place is an honest node
  pub node-at : (i : ℕ) → i < length (honest_nodes schedule) → is_node config (name_at_place (honest_nodes schedule) i) ≡ true
  node-at i within = (is-honest-node (name_at_place (honest_nodes schedule) i) (i, within, refl)).node

  -- who is honest
  honest : (name : NodeId) → is_node config name ≡ true → is_liar schedule.liars name ≡ false → (net_of_schedule schedule).is_honest name ≡ true
  honest name node is = rw (node, liars-same schedule.liars name, is) refl

  lies : (name : NodeId) → is_liar schedule.liars name ≡ true → (net_of_schedule schedule).is_honest name ≡ false
  lies name is = rw (liars-same schedule.liars name, is) (unless (is_node config name))
    where
      unless : (b : Bool) → (b && false) ≡ false
      unless true = refl
      unless false = refl

  honest-name : (name : NodeId) → (net_of_schedule schedule).is_honest name ≡ true → IsHonest config schedule.liars name
  honest-name name is =
      let (node, other) = both (is_node config name) (not (list_any (λ liar. same_name liar name) schedule.liars)) is in
      record { node = node; honest = sym (liars-same schedule.liars name) ∙ unnot (list_any (λ liar. same_name liar name) schedule.liars) other }
    where
      unnot : (b : Bool) → not b ≡ true → b ≡ false
      unnot true is = absurd (cc)
      unnot false is = refl

  -- no client is a node
  client-shard : (name : NodeId) → is_client name ≡ true → name.shard ≡ 65535
  client-shard name client =
      let (shard, index) = both (name.shard == 65535) (nat_lt name.index 16) client in
      eqb-true name.shard 65535 shard

  client-other : (name : NodeId) → is_client name ≡ true → (net_of_schedule schedule).is_honest name ≡ false
  client-other name client = by (nat_lt name.shard config.shards) refl
    where
      by : (p : Bool) → nat_lt name.shard config.shards ≡ p → (net_of_schedule schedule).is_honest name ≡ false
      by false other = ap (λ b. (b && nat_le name.index (3 * config.f)) && not (list_any (λ liar. same_name liar name) schedule.liars)) other
      by true below =
          let less : name.shard < config.shards = ltb-true name.shard config.shards below in
          absurd (omega (arith, client-shard name client, playable.few_shards))

  -- who speaks isn't honest
  speaker-other : (name : NodeId) → IsSpeaker config schedule.liars name → (net_of_schedule schedule).is_honest name ≡ false
  speaker-other name speaker = by (is_client name) refl speaker.speaks
    where
      by : (client : Bool) → is_client name ≡ client → (client || is_liar schedule.liars name) ≡ true → (net_of_schedule schedule).is_honest name ≡ false
      by true is speaks = client-other name is
      by false is speaks = lies name speaks

  pub honest-place : (name : NodeId) → Has (honest_nodes schedule) name → (net_of_schedule schedule).is_honest name ≡ true
  honest-place name has = let is = is-honest-node name has in honest name is.node is.honest

  -- what is said to a node is said by another
  apart : (from to : NodeId) → IsSpeaker config schedule.liars from → Has (honest_nodes schedule) to → same_name to from ≡ false
  apart from to speaker node = by (same_name to from) refl
    where
      by : (p : Bool) → same_name to from ≡ p → same_name to from ≡ false
      by false other = other
      by true same =
          let at : (net_of_schedule schedule).is_honest from ≡ true = subst (λ (name : NodeId). (net_of_schedule schedule).is_honest name ≡ true) (same-names to from same) (honest-place to node) in
          absurd (not-both ((net_of_schedule schedule).is_honest from) at (speaker-other from speaker))

  -- each shard has few liars
  pub few-liars : (shard : ℕ) → shard < config.shards → FewLiars config.f (λ index. (net_of_schedule schedule).is_honest (record { shard = shard; index = index }))
  few-liars shard below =
      let same : count_below members (λ i. not ((net_of_schedule schedule).is_honest (record { shard = shard; index = i }))) ≡ count_below members (λ i. list_any (λ liar. same_name liar (record { shard = shard; index = i })) schedule.liars) =
      count-same members (λ i. not ((net_of_schedule schedule).is_honest (record { shard = shard; index = i }))) (λ i. list_any (λ liar. same_name liar (record { shard = shard; index = i })) schedule.liars)
      (λ i within. rw (is-node (record { shard = shard; index = i }) below within) (twice-not (list_any (λ liar. same_name liar (record { shard = shard; index = i })) schedule.liars))) in
      omega (arith, same, count-listed members shard schedule.liars, playable.few_liars shard)
    where
      twice-not : (b : Bool) → not (not b) ≡ b
      twice-not true = refl
      twice-not false = refl

  module _ (approves : Tx → Bool) (traced : Bool) (before : Option Bytes) where
    for-setting : (event : Event) → IsPlayableEvent config schedule.liars event → IsToAnother (setting_of approves traced schedule before) event
    for-setting (Say from to kind body) is = let node = named to is.listener in (node, apart from to is.speaker node)
    for-setting (Inject to bytes) is = named to is.node
    for-setting (Deliver number) is = tt
    for-setting (Tick node) is = named node is
    for-setting (Drain times) is = tt

    -- each event is for one of the nodes
    pub are-for : All (λ numbered. IsToAnother (setting_of approves traced schedule before) numbered.1) schedule.events
    are-for = λ k d within. for-setting (get_or schedule.events k d).1 (playable.events k d within)

    -- the nodes are honest, and no other
    pub rests : (config' : Config) (voicing : Voicing) → config' ≡ config → voicing.config ≡ config → voicing.master ≡ schedule.master → Rests (setting_of approves traced schedule before) config'.shards voicing
    rests config' voicing same voiced master = record {
      honest = λ name. (λ is. let found = honest-name name is in has-place name found.node found.honest, λ has. honest-place name has);
      shards = λ i within. subst (λ n. (name_at_place (honest_nodes schedule) i).shard < n) (sym (ap (λ (c : Config). c.shards) same)) (honest-shard (name_at_place (honest_nodes schedule) i) (i, within, refl));
      liars = schedule.liars;
      first = ap (λ (c : Config). c.version) voiced ∙ playable.version;
      speaks = ap (λ (c : Config). net_of c schedule.master schedule.liars) (sym voiced) ∙ ap (λ (m : Bytes). net_of voicing.config m schedule.liars) (sym master);
    }

  short : (event : Event) → IsPlayableEvent config schedule.liars event → IsShortEvent event
  short (Say from to kind body) is = is.short
  short (Inject to bytes) is = tt
  short (Deliver number) is = tt
  short (Tick node) is = tt
  short (Drain times) is = tt

  pub are-short : All (λ numbered. IsShortEvent numbered.1) schedule.events
  are-short = λ k d within. short (get_or schedule.events k d).1 (playable.events k d within)

  -- what the event gives is made of bytes, and is for an honest node
  given : (event : Event) → IsPlayableEvent config schedule.liars event → Given.IsGivable config (net_of_schedule schedule) event
  given (Say from to kind body) is = record {
    speaker = is.speaker.named;
    lies = speaker-other from is.speaker;
    listener = honest to is.listener.node is.listener.honest;
    kind_fits = omega (arith, is.kind);
    short = is.short;
    is_bytes = is.in_bytes;
  }
  given (Inject to bytes) is = (honest to is.node.node is.node.honest, is.in_bytes)
  given (Deliver number) is = tt
  given (Tick node) is = honest node is.node is.honest
  given (Drain times) is = tt

  pub are-given : All (λ numbered. Given.IsGivable config (net_of_schedule schedule) numbered.1) schedule.events
  are-given = λ k d within. given (get_or schedule.events k d).1 (playable.events k d within)
