-- What an honest node executed, with its results, is the older part of what its shard executed first.
use Rattle.std.proofs.Common.{◌≡◌, ℕ, ◌==◌, nat_le, Bool, true, false, if◌then◌else◌, List, [], ◌∷◌, ◌++◌, length, map, refl, sym, ap, ◌∙◌}
use Rattle.std.proofs.lemmas.Bool.{eqb-true}
use Rattle.cs_base.specs.declared.node_id.NodeId.{NodeId}
use Rattle.cs_tx_types.specs.declared.action.Action.{Action}
use Rattle.cs_ledger.specs.Table.{exec, table_of}
use Rattle.cs_node_state.specs.Setup.{Setup, entry_of}
use Rattle.cs_node_rules.specs.Signs.{Dropped, Took, Entered, Viewed, Did, Headed, Kept, Sent}
use Rattle.cs_node_rules.specs.Site.{Mark, In, Ordered, Plain, Site, signs_of}
use Rattle.cs_node_rules.specs.World.{Execution}
use Rattle.cs_node_law.specs.Made.{AllMade}
use Rattle.cs_node_law.proofs.Logs.{seen}
use Rattle.cs_world_law.specs.Worlds.{is_honest}
use Rattle.cs_world_law.specs.Steps.{effect_after, AllComputed, executions_of, executions_in, IsOlderPart, Run}
use Rattle.cs_world_law.specs.Chain.{Moment, trail_at, Known, Story, IsSoundSite, story_firsts, shard_runs, runs_in}
use Rattle.cs_world_law.proofs.Lawful.{AreLawful}
use Rattle.cs_world_law.proofs.Trails.{made-all}
use Rattle.cs_world_law.proofs.Older.{older}
use Rattle.cs_world_law.proofs.Firsts.{own_runs, run_of, action_in, own-actions, shard-actions, log-seen, are-runs}
use Rattle.cs_world_law.proofs.Told.{computed}
use Rattle.cs_world_law.proofs.Decided.{came}

-- ---- the executions that actions in their places make

module _ (setup : Setup) (shard : ℕ) where
  abbrev pub next_execution : Run → List Run → Execution
  next_execution run earlier = record {
    shard = shard;
    slot = run.slot;
    place = run.place;
    entry = run.action;
    effect = (exec setup.rules shard (table_of setup.rules shard (seen setup (map action_in earlier))) (entry_of setup run.action)).effect;
  }

  abbrev pub executions : List Run → List Execution
  executions [] = []
  executions (run ∷ earlier) = next_execution run earlier ∷ executions earlier

  -- an older part of the log makes an older part of them
  executions-older : (n : ℕ) (l : List Run) → IsOlderPart (executions (older n l)) (executions l)
  executions-older n [] = record { newer = []; is = refl }
  executions-older n (run ∷ earlier) = go (nat_le n (length earlier)) (executions-older n earlier)
    where
      go : (b : Bool) → IsOlderPart (executions (older n earlier)) (executions earlier) → IsOlderPart (executions (if b then older n earlier else run ∷ earlier)) (executions (run ∷ earlier))
      go true later = record { newer = next_execution run earlier ∷ later.newer; is = ap (λ l. next_execution run earlier ∷ l) later.is }
      go false later = record { newer = []; is = refl }

  -- those of a shard are made by its log
  firsts-made : (firsts : List Execution) → AllComputed setup firsts → executions_of shard firsts ≡ executions (shard_runs shard firsts)
  firsts-made [] computed = refl
  firsts-made (e ∷ earlier) computed = go (e.shard == shard) refl (firsts-made earlier computed.1)
    where
      same : e.shard ≡ shard → e ≡ next_execution (run_of e) (shard_runs shard earlier)
      same here =
          let effect : e.effect ≡ (next_execution (run_of e) (shard_runs shard earlier)).effect =
          computed.0.effect
          ∙ ap (λ k. effect_after setup earlier k e.entry) here
          ∙ ap (λ l. (exec setup.rules shard (table_of setup.rules shard l) (entry_of setup e.entry)).effect) (log-seen setup shard earlier ∙ ap (λ (l : List Action). seen setup l) (sym (shard-actions shard earlier))) in
          λ k. record { shard = here k; slot = e.slot; place = e.place; entry = e.entry; effect = effect k }

      go : (b : Bool) → (e.shard == shard) ≡ b → executions_of shard earlier ≡ executions (shard_runs shard earlier)
          → (if b then e ∷ executions_of shard earlier else executions_of shard earlier) ≡ executions (if b then run_of e ∷ shard_runs shard earlier else shard_runs shard earlier)
      go false other before = before
      go true here before = let first = same (eqb-true e.shard shard here) in λ k. first k ∷ before k

-- those of a node are made by its log
own-made : {M : Type 0} (site : Site M) (me : NodeId) (t : List (Mark M)) → AllMade site me t → executions_in me.shard (signs_of t) ≡ executions site.setup me.shard (runs_in (signs_of t))
own-made {M} site me [] made = refl
own-made {M} site me (In input ∷ t) made = own-made site me t made.1
own-made {M} site me (Ordered deed ∷ t) made = own-made site me t made.1
own-made {M} site me (Plain (Dropped cause) ∷ t) made = own-made site me t made.1
own-made {M} site me (Plain (Took sender vote x) ∷ t) made = own-made site me t made.1
own-made {M} site me (Plain (Entered x) ∷ t) made = own-made site me t made.1
own-made {M} site me (Plain (Viewed slot view) ∷ t) made = own-made site me t made.1
own-made {M} site me (Plain (Headed number head) ∷ t) made = own-made site me t made.1
own-made {M} site me (Plain (Kept index checkpoint) ∷ t) made = own-made site me t made.1
own-made {M} site me (Plain (Sent to said) ∷ t) made = own-made site me t made.1
own-made {M} site me (Plain (Did slot place entry effect) ∷ t) made =
    let result : effect ≡ (next_execution site.setup me.shard (record { slot = slot; place = place; action = entry }) (runs_in (signs_of t))).effect =
    came site me t slot place entry effect made
    ∙ ap (λ (l : List Action). (exec site.setup.rules me.shard (table_of site.setup.rules me.shard (seen site.setup l)) (entry_of site.setup entry)).effect) (sym (own-actions (signs_of t))) in
    let before = own-made site me t made.1 in
    λ k. record { shard = me.shard; slot = slot; place = place; entry = entry; effect = result k } ∷ before k

pub follows : {M : Type 0} (site : Site M) (sound : IsSoundSite site) (known : Known) (lawful : AreLawful site known) (story : List (Moment M)) → Story site known story → (i : NodeId) → is_honest site i ≡ true
    → IsOlderPart (executions_in i.shard (signs_of (trail_at i story))) (executions_of i.shard (story_firsts story))
follows {M} site sound known lawful story story_is i honest =
    let own = (are-runs site sound known lawful i.shard story story_is).older i honest refl in
    let all = shard_runs i.shard (story_firsts story) in
    let mine = own-made site i (trail_at i story) (made-all site known i story story_is) ∙ ap (λ l. executions site.setup i.shard l) own.is in
    let theirs = firsts-made site.setup i.shard (story_firsts story) (computed site sound known lawful story story_is) in
    let part = executions-older site.setup i.shard (length (own_runs i story)) all in
    record { newer = part.newer; is = theirs ∙ part.is ∙ ap (λ l. part.newer ++ l) (sym mine) }
