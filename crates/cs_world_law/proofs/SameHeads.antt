-- Of the heads that honest nodes of a shard noted, those of one number are one.
use Rattle.std.proofs.Common.{◌≡◌, ℕ, List, [], ◌∷◌, ◌++◌, length, map, refl, sym, ap, ◌∙◌, subst}
use Rattle.std.proofs.lemmas.List.{map-append}
use Rattle.cs_base.specs.Lists.{IsIn}
use Rattle.cs_base.specs.declared.node_id.NodeId.{NodeId}
use Rattle.cs_tx_types.specs.declared.action.Action.{Action}
use Rattle.cs_tx_types.specs.declared.leaf.Leaf.{Leaf}
use Rattle.cs_base.specs.declared.version.Version.TheVariants.{One}
use Rattle.cs_tx_types.specs.Log.{leaf_encoding}
use Rattle.cs_check_rules.specs.Chain.{Log, with_slot}
use Rattle.cs_check_rules.specs.Keys.{keys_after}
use Rattle.cs_check_rules.specs.Root.{root_under}
use Rattle.cs_ledger.specs.Ledger.{Bytes}
use Rattle.cs_ledger.specs.Session.{Key}
use Rattle.cs_ledger.specs.Table.{Table, exec}
use Rattle.cs_node_state.specs.Setup.{Setup, entry_of}
use Rattle.cs_node_state.specs.Bench.{Bench, start_bench, effect_from}
use Rattle.cs_node_rules.specs.Signs.{Dropped, Took, Entered, Viewed, Did, Headed, Kept, Sent}
use Rattle.cs_node_rules.specs.Site.{Mark, In, Ordered, Plain, Site, signs_of}
use Rattle.cs_node_rules.specs.World.{Execution}
use Rattle.cs_node_law.specs.Made.{view_at, log_in, AllMade}
use Rattle.cs_node_law.proofs.Heads.{root_hashed}
use Rattle.cs_node_law.proofs.Views.{me-same}
use Rattle.cs_world_law.specs.Steps.{executions_in, IsOlderPart}
use Rattle.cs_world_law.proofs.Logged.{entry_at, entries-in}
use Rattle.cs_world_law.proofs.Headed.{IsOf, of-start, of-next, IsHead, head-stays, heads-kept}

-- ---- what a node keeps is a function of its log

-- all but its pool and the heads of others
abbrev pub Core : Type 0
Core = Table × (List Key × Log)

abbrev pub core_of : Bench → Core
core_of b = (b.table, (b.keys, b.log))

abbrev pub core_after : Setup → ℕ → Core → Action → Core
core_after setup shard core entry =
    let out = exec setup.rules shard core.0 (entry_of setup entry) in
    let keys = keys_after setup.rules shard core.0 (entry_of setup entry) core.1.0 in
    let leaf : Leaf = record { slot = length core.1.1.leaves; place = 0; action = entry; result = effect_from out.effect } in
    (out.table, (keys, with_slot (leaf_encoding One leaf) (root_under keys out.table) core.1.1))

abbrev pub core_by : Setup → ℕ → List Action → Core
core_by setup shard [] = core_of (start_bench setup shard)
core_by setup shard (entry ∷ past) = core_after setup shard (core_by setup shard past) entry

core-is : {M : Type 0} (site : Site M) (me : NodeId) (t : List (Mark M)) → core_of (view_at site me t).bench ≡ core_by site.setup me.shard (log_in (signs_of t))
core-is {M} site me [] = refl
core-is {M} site me (In input ∷ t) = core-is site me t
core-is {M} site me (Ordered deed ∷ t) = core-is site me t
core-is {M} site me (Plain (Dropped cause) ∷ t) = core-is site me t
core-is {M} site me (Plain (Took sender vote x) ∷ t) = core-is site me t
core-is {M} site me (Plain (Entered x) ∷ t) = core-is site me t
core-is {M} site me (Plain (Viewed slot view) ∷ t) = core-is site me t
core-is {M} site me (Plain (Headed number head) ∷ t) = core-is site me t
core-is {M} site me (Plain (Kept index checkpoint) ∷ t) = core-is site me t
core-is {M} site me (Plain (Sent to message) ∷ t) = core-is site me t
core-is {M} site me (Plain (Did slot place entry effect) ∷ t) =
    ap (λ (k : Core). core_after site.setup (view_at site me t).me.shard k entry) (core-is site me t)
    ∙ ap (λ (n : NodeId). core_after site.setup n.shard (core_by site.setup me.shard (log_in (signs_of t))) entry) (me-same site me t)

-- ---- heads of a log are those of every longer one

module _ (setup : Setup) (shard : ℕ) where
  abbrev pub LogBy : List Action → Log
  LogBy entries = (core_by setup shard entries).1.1

  of-by : (entries : List Action) → IsOf shard (LogBy entries)
  of-by [] = of-start shard
  of-by (entry ∷ past) = of-next shard (LogBy past) _ _ (root_hashed _) (of-by past)

  stays-by : (newer entries : List Action) (number : ℕ) (head : Bytes) → IsHead (LogBy entries) number head → IsHead (LogBy (newer ++ entries)) number head
  stays-by [] entries number head h = h
  stays-by (entry ∷ newer) entries number head h =
      head-stays shard (LogBy (newer ++ entries)) _ _ number head (of-by (newer ++ entries)) (stays-by newer entries number head h)

-- the head that a node noted is that of its shard's log
pub head-by : {M : Type 0} (site : Site M) (me : NodeId) (t : List (Mark M)) (all : List Execution) → AllMade site me t
    → IsOlderPart (executions_in me.shard (signs_of t)) all → (number : ℕ) (head : Bytes) → IsIn (Headed number head) (signs_of t)
    → IsHead (LogBy site.setup me.shard (map entry_at all)) number head
head-by {M} site me t all made part number head noted =
    let own = executions_in me.shard (signs_of t) in
    let h = heads-kept site me t made number head noted in
    let here : IsHead (LogBy site.setup me.shard (log_in (signs_of t))) number head =
    subst (λ (k : Core). IsHead k.1.1 number head) (core-is site me t) h in
    let entries : map entry_at all ≡ map entry_at part.newer ++ log_in (signs_of t) =
    ap (map entry_at) part.is ∙ map-append entry_at part.newer own ∙ ap (λ (l : List Action). map entry_at part.newer ++ l) (entries-in me.shard (signs_of t)) in
    subst (λ (l : List Action). IsHead (LogBy site.setup me.shard l) number head) (sym entries)
    (stays-by site.setup me.shard (map entry_at part.newer) (log_in (signs_of t)) number head here)
