-- The history by the recorded effects is that of the shards together.
use Rattle.std.proofs.Common.{◌≡◌, ℕ, ◌<◌, ◌≤◌, ◌==◌, Bool, true, false, not, ◌&&◌, ◌||◌, if◌then◌else◌, List, [], ◌∷◌, ◌++◌, length, arith, sym, ◌∙◌, ap, subst, refl}
use Rattle.std.proofs.lemmas.Bool.{cond_both, eqb-true}
use Rattle.cs_base.specs.declared.node_id.NodeId.{NodeId}
use Rattle.cs_tx_types.specs.declared.session.Session.{Session}
use Rattle.cs_tx_types.specs.declared.action.Action.{Action}
use Rattle.cs_tx_types.specs.declared.action.Action.TheVariants.{Prepare, Decide}
use Rattle.cs_ledger.specs.Ledger.{Bytes}
use Rattle.cs_ledger.specs.Session.{all_items}
use Rattle.cs_ledger.specs.Table.{Vote, Commit, exec, table_of}
use Rattle.cs_ledger.specs.ShardWorld.{log, shard_votes, votes_in, is_vote, is_listed, all_commit, IsAllowed, AllAllowed}
use Rattle.cs_ledger.specs.ShardWorld as World
use Rattle.cs_ledger.proofs.Votes.{all_at}
use Rattle.cs_node_state.specs.Setup.{Setup, digest_of, concerned, entry_of, prepares}
use Rattle.cs_node_rules.specs.Signs.{Dropped, Took, Entered, Viewed, Did, Headed, Kept, Sent}
use Rattle.cs_node_rules.specs.Site.{Mark, In, Ordered, Plain, Site, signs_of}
use Rattle.cs_node_rules.specs.World.{Execution, steps_of, newest_of, is_after, is_recorded, all_recorded, is_voted, told_transactions, told_after}
use Rattle.cs_node_law.proofs.Views.{me-same}
use Rattle.cs_node_rules.proofs.Entries.{some-action}
use Rattle.cs_node_law.proofs.Logs.{seen, seen_log, effect-is, prepares-seen}
use Rattle.cs_world_law.proofs.Counting.{all-in, all-from, in-concerned, concerned-in, among-item, item-among, votes-all}
use Rattle.cs_world_law.specs.Steps.{IsComputed, AllComputed}
use Rattle.cs_world_law.specs.Chain.{Moment, trail_at, Known, Story, IsSoundSite, firsts_at, story_firsts, shard_entries}
use Rattle.cs_world_law.proofs.Trails.{made-all}
use Rattle.cs_world_law.proofs.Lawful.{AreLawful}
use Rattle.cs_world_law.proofs.Older.{older-all}
use Rattle.cs_world_law.proofs.Agree.{runs-count}
use Rattle.cs_world_law.proofs.Firsts.{own_log, counted-entries, counted-runs, log-seen, are-first, are-runs, next-of-shard, follows-newest}
use Rattle.cs_world_law.proofs.Anchors.{prepare-votes}

pub bools-same : (a b : Bool) → (a ≡ true → b ≡ true) → (b ≡ true → a ≡ true) → a ≡ b
bools-same true b f g = sym (f refl)
bools-same false true f g = g refl
bools-same false false f g = refl

module _ (setup : Setup) (bound : (name : Bytes) → setup.rules.shard_of name < setup.shards) where
  pub recorded-is : (firsts : List Execution) (d : Bytes) (vote : Vote) (shard : ℕ) → AllComputed setup firsts → is_recorded setup firsts d vote shard ≡ votes_in setup.rules shard d vote (log shard (steps_of setup firsts))
  recorded-is [] d vote shard computed = refl
  recorded-is (e ∷ earlier) d vote shard computed = here (e.shard == shard) refl (recorded-is earlier d vote shard computed.1)
    where
      here : (b : Bool) → (e.shard == shard) ≡ b → is_recorded setup earlier d vote shard ≡ votes_in setup.rules shard d vote (log shard (steps_of setup earlier))
          → ((b && (prepares setup d e.entry && is_vote vote e.effect)) || is_recorded setup earlier d vote shard)
          ≡ votes_in setup.rules shard d vote (if b then entry_of setup e.entry ∷ log shard (steps_of setup earlier) else log shard (steps_of setup earlier))
      here false other before = before
      here true same before =
          let came : e.effect ≡ (exec setup.rules shard (table_of setup.rules shard (log shard (steps_of setup earlier))) (entry_of setup e.entry)).effect =
          computed.0.effect ∙ ap (λ k. (exec setup.rules k (table_of setup.rules k (log k (steps_of setup earlier))) (entry_of setup e.entry)).effect) (eqb-true e.shard shard same) in
          let now = prepares-seen setup d e.entry in
          λ i. (now i && is_vote vote (came i)) || before i

  pub all-recorded-is : (firsts : List Execution) (x : Session) → AllComputed setup firsts → all_recorded setup firsts x ≡ all_commit setup.rules (steps_of setup firsts) (setup.session_of x)
  all-recorded-is firsts x computed =
      let d = digest_of setup x in
      let items = all_items (setup.session_of x).transaction in
      bools-same _ _
      (λ h. votes-all setup.rules (steps_of setup firsts) (setup.session_of x) Commit items
      (λ item i.
      let shard = setup.rules.shard_of item.name in
      let c = in-concerned setup x setup.shards shard (bound item.name) (among-item setup.rules item items i) in
      sym (recorded-is firsts d Commit shard computed) ∙ all-in (is_recorded setup firsts d Commit) (concerned setup x) h shard c))
      (λ h. all-from (is_recorded setup firsts d Commit) (concerned setup x)
      (λ shard i.
      let c = concerned-in setup x setup.shards shard i in
      let item = item-among setup.rules shard items c.1 in
      let v = all_at setup.rules (steps_of setup firsts) (setup.session_of x) Commit items h item.0 item.1 in
      recorded-is firsts d Commit shard computed ∙ subst (λ k. shard_votes setup.rules (steps_of setup firsts) k (setup.session_of x) Commit ≡ true) item.2 v))

  -- what is allowed gives a vote, so an execution tells what a step of the shards together does
  pub told-is : (firsts : List Execution) → AllComputed setup firsts → AllAllowed setup.rules (steps_of setup firsts) → told_transactions setup firsts ≡ World.history setup.rules (steps_of setup firsts)
  told-is [] computed allowed = refl
  told-is (e ∷ earlier) computed allowed = after e.entry refl (told-is earlier computed.1 allowed.1)
    where
      all_are : (x : Session) → all_recorded setup (e ∷ earlier) x ≡ all_commit setup.rules (steps_of setup (e ∷ earlier)) (setup.session_of x)
      all_are x = all-recorded-is (e ∷ earlier) x computed

      after : (entry : Action) → e.entry ≡ entry → told_transactions setup earlier ≡ World.history setup.rules (steps_of setup earlier)
          → told_after setup (e ∷ earlier) entry e.effect (told_transactions setup earlier) ≡ World.history_after setup.rules (steps_of setup (e ∷ earlier)) (entry_of setup entry) (World.history setup.rules (steps_of setup earlier))
      after (Decide vote x) is before = before
      after (Prepare x) is before =
          let all = all_are x in
          let fine : IsAllowed setup.rules (steps_of setup earlier) e.shard (entry_of setup (Prepare x)) = subst (λ (z : Action). IsAllowed setup.rules (steps_of setup earlier) e.shard (entry_of setup z)) is allowed.0 in
          let table = table_of setup.rules e.shard (log e.shard (steps_of setup earlier)) in
          let came : e.effect ≡ (exec setup.rules e.shard table (entry_of setup (Prepare x))).effect = computed.0.effect ∙ ap (λ (z : Action). (exec setup.rules e.shard table (entry_of setup z)).effect) is in
          let shard_votes : is_voted e.effect ≡ true = ap is_voted came ∙ prepare-votes setup.rules e.shard table (setup.session_of x) fine.0 fine.1 in
          λ i. if shard_votes i && (all i && not (is_listed (setup.session_of x).transaction (before i))) then before i ++ (setup.session_of x).transaction ∷ [] else before i

-- the first executions are computed
module _ {M : Type 0} (site : Site M) (sound : IsSoundSite site) (known : Known) (lawful : AreLawful site known) where
  computed-step : (node : NodeId) (mark : Mark M) (past : List (Moment M)) → Story site known (record { node = node; mark = mark } ∷ past) → AllComputed site.setup (story_firsts past) → AllComputed site.setup (firsts_at node mark (story_firsts past))
  computed-step node (In input) past story c = c
  computed-step node (Ordered deed) past story c = c
  computed-step node (Plain (Dropped cause)) past story c = c
  computed-step node (Plain (Took sender vote x)) past story c = c
  computed-step node (Plain (Entered x)) past story c = c
  computed-step node (Plain (Viewed slot view)) past story c = c
  computed-step node (Plain (Headed number head)) past story c = c
  computed-step node (Plain (Kept index checkpoint)) past story c = c
  computed-step node (Plain (Sent to said)) past story c = c
  computed-step node (Plain (Did slot place entry effect)) past story c =
      let new : Execution = record { shard = node.shard; slot = slot; place = place; entry = entry; effect = effect } in
      cond_both (is_after slot place (newest_of node.shard (story_firsts past))) (new ∷ story_firsts past) (story_firsts past) (λ f. AllComputed site.setup f)
      (λ e. (first e, c))
      (λ e. c)
    where
      first : is_after slot place (newest_of node.shard (story_firsts past)) ≡ true → IsComputed site.setup (story_firsts past) (record { shard = node.shard; slot = slot; place = place; entry = entry; effect = effect })
      first after =
          let t = trail_at node past in
          let runs = are-runs site sound known lawful node.shard past story.1 in
          let last = next-of-shard site sound known lawful node slot place entry effect past story runs after in
          let l = shard_entries node.shard (story_firsts past) in
          let own = (are-first site sound known lawful node.shard past story.1).older node story.0.honest refl in
          let size : length l ≤ length (own_log node past) =
          omega (arith, last, runs-count (signs_of t), counted-entries node.shard (story_firsts past), counted-runs node.shard (story_firsts past)) in
          let same : own_log node past ≡ l = own.is ∙ older-all (length (own_log node past)) l size in
          let logs : seen_log site t ≡ log node.shard (steps_of site.setup (story_firsts past)) = ap (λ z. seen site.setup z) same ∙ sym (log-seen site.setup node.shard (story_firsts past)) in
          record {
            next = follows-newest site sound known lawful node slot place entry effect past story (λ n q there. some-action site.setup.version (site.entry_in q) (sound.read q)) runs last;
            whole = site.entry_in story.0.made.proposed;
            fits = sound.read story.0.made.proposed;
            within = story.0.made.within;
            effect = effect-is site node t slot place entry effect (story.0.made, made-all site known node past story.1)
                ∙ ap (λ (n : NodeId). (exec site.setup.rules n.shard (table_of site.setup.rules n.shard (seen_log site t)) (entry_of site.setup entry)).effect) (me-same site node t)
                ∙ ap (λ z. (exec site.setup.rules node.shard (table_of site.setup.rules node.shard z) (entry_of site.setup entry)).effect) logs;
          }

  pub computed : (story : List (Moment M)) → Story site known story → AllComputed site.setup (story_firsts story)
  computed [] story = tt
  computed (m ∷ past) story = computed-step m.node m.mark past story (computed past story.1)

pub computed-earlier : (setup : Setup) (later earlier : List Execution) → AllComputed setup (later ++ earlier) → AllComputed setup earlier
computed-earlier setup [] earlier c = c
computed-earlier setup (e ∷ later) earlier c = computed-earlier setup later earlier c.1
