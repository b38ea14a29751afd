-- What is dumped of a world are the logs of its first executions.
use Rattle.std.proofs.Common.{◌≡◌, ℕ, ◌<◌, ◌-◌, true, List, [], length, refl, sym, ap, subst, ◌∙◌, arith, Some, ◌≤◌, ◌^◌}
use Rattle.cs_base.specs.declared.node_id.NodeId.{NodeId}
use Rattle.cs_tx_types.specs.declared.action.Action.{Action}
use Rattle.cs_order.specs.Deeds.{Machine}
use Rattle.cs_node_rules.specs.Collisions.{NoCollision}
use Rattle.cs_node_rules.specs.Site.{Mark, Site, signs_of}
use Rattle.cs_node_rules.specs.World.{firsts_of}
use Rattle.cs_node_law.specs.Made.{log_in}
use Rattle.cs_world_law.specs.Worlds.{is_honest, signs_at}
use Rattle.cs_world_law.specs.Chain.{moments, trail_at, story_firsts}
use Rattle.cs_world_law.specs.Chain as Chain
use Rattle.cs_world_law.proofs.Stories.{trail-same, firsts-same}
use Rattle.cs_world_law.proofs.Older.{IsOlder, at-some, at-below}
use Rattle.cs_world_law.proofs.Firsts.{own_log, are-first, counted-entries}
use Rattle.cs_world_law.proofs.SameHeads.{Core}
use Rattle.cs_world_law.proofs.Whole.{IsPlace, At, Here, sound, story, came, lawful-here}
use Rattle.cs_base.specs.declared.version.Version.TheVariants.{One}
use Rattle.cs_tx_types.specs.Log.{LeafFits}
use Rattle.cs_tx_types.specs.Session.{ActionFits}
use Rattle.cs_world_law.specs.Worlds.{ExecutesFit}
use Rattle.cs_world_law.proofs.Older.{at_slot}
use Rattle.std.specs.List.{All}
use Rattle.cs_audit_law.specs.Dumped.{dumped_leaves}
use Rattle.cs_audit_law.proofs.Fitting.{executed_at, leaves_fit}
use Rattle.cs_audit_law.specs.Passing.{DumpsFirsts, LeavesFit}
use Rattle.cs_audit_law.proofs.Unbroken.{leaves_count}
use Rattle.std.proofs.lemmas.List.Elements.{All-nil}
use Rattle.cs_audit_law.proofs.Longest.{stand_core, HasAll, longest_whole}

-- before the first event there is nothing in any log
pub no_first : {M : Type 0} (site : Site M) → DumpsFirsts site []
no_first {M} site shard =
    longest_whole site [] shard [] (λ i honest here. record { shorter = omega arith; is = refl }) (λ some. absurd (omega arith))

pub no_leaf : {M : Type 0} (site : Site M) → LeavesFit site []
no_leaf {M} site fit shard few = All-nil (LeafFits One)

module _ {M : Type 0} (machine : Machine M) (p : IsPlace machine) (some : 0 < p.config.shards) (apart : NoCollision (At machine p) p.genesis p.world) (first : (At machine p).setup.version ≡ One) where
  abbrev site : Site M
  site = At machine p

  abbrev all_of : ℕ → List Action
  all_of shard = Chain.shard_entries shard (firsts_of p.world)

  entries_same : (i : NodeId) → own_log i (moments p.world) ≡ log_in (signs_at i p.world)
  entries_same i = ap (λ (t : List (Mark M)). log_in (signs_of t)) (trail-same i p.world)

  all_same : (shard : ℕ) → all_of shard ≡ Chain.shard_entries shard (story_firsts (moments p.world))
  all_same shard = ap (Chain.shard_entries shard) (firsts-same p.world)

  parts : (shard : ℕ) (i : NodeId) → is_honest site i ≡ true → i.shard ≡ shard → IsOlder (log_in (signs_at i p.world)) (all_of shard)
  parts shard i honest here =
      let first = are-first site (sound machine p some) (Here machine p) (lawful-here machine p some apart) shard (moments p.world) (story machine p some) in
      subst (λ own. IsOlder own (all_of shard)) (entries_same i)
      (subst (λ all. IsOlder (own_log i (moments p.world)) all) (sym (all_same shard)) (first.older i honest here))

  source : (shard : ℕ) → 0 < length (all_of shard) → HasAll site p.world shard (all_of shard)
  source shard some_entry =
      let first = are-first site (sound machine p some) (Here machine p) (lawful-here machine p some apart) shard (moments p.world) (story machine p some) in
      let whole = Chain.shard_entries shard (story_firsts (moments p.world)) in
      let same : length (all_of shard) ≡ length whole = ap length (all_same shard) in
      let last = length whole - 1 in
      let found = at-some whole last (omega arith) in
      let from = first.from last found.0 found.1 in
      let own : last < length (own_log from.node (moments p.world)) = at-below (own_log from.node (moments p.world)) last found.0 from.has in
      let count : length (own_log from.node (moments p.world)) ≡ length (log_in (signs_at from.node p.world)) = ap length (entries_same from.node) in
      record {
        node = from.node;
        honest = from.honest;
        here = from.here;
        index = (sound machine p some).index from.node from.honest;
        enough = omega arith;
      }

  pub dumps_firsts : DumpsFirsts site p.world
  dumps_firsts shard =
      longest_whole site p.world shard (all_of shard) (parts shard) (source shard)
      ∙ sym (ap (λ (k : Core). k.1.1) (stand_core site.setup first shard (firsts_of p.world) (came machine p some (lawful-here machine p some apart))))

  -- each entry of a shard was executed by a node, so it has an encoding
  entry_fits : ExecutesFit site p.world → (shard slot : ℕ) (entry : Action) → at_slot (all_of shard) slot ≡ Some entry → ActionFits entry
  entry_fits fit shard slot entry is =
      let first = are-first site (sound machine p some) (Here machine p) (lawful-here machine p some apart) shard (moments p.world) (story machine p some) in
      let from = first.from slot entry (ap (λ all. at_slot all slot) (sym (all_same shard)) ∙ is) in
      let own = ap (λ log. at_slot log slot) (sym (entries_same from.node)) ∙ from.has in
      fit from.node entry (executed_at (signs_at from.node p.world) slot entry own)

  pub dumped_fit : LeavesFit site p.world
  dumped_fit fit shard few =
      let count : length (dumped_leaves shard (firsts_of p.world)) ≡ length (all_of shard) = leaves_count site.setup (firsts_of p.world) shard ∙ counted-entries shard (firsts_of p.world) in
      let small : length (all_of shard) ≤ 2 ^ 64 = omega arith in
      leaves_fit site.setup first shard (firsts_of p.world) (came machine p some (lawful-here machine p some apart)) (entry_fits fit shard) small
