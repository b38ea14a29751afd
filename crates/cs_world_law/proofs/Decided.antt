-- What an honest node decided is decided in the log of its shard.
use Rattle.std.proofs.Common.{◌≡◌, ◌⊎◌, inl, inr, ℕ, true, ◌&&◌, List, [], ◌∷◌, length, ◌∙◌, ap, subst, refl}
use Rattle.std.proofs.lemmas.Bool.{and_from, or_cases, or_left, or_right}
use Rattle.cs_base.specs.declared.node_id.NodeId.{NodeId}
use Rattle.cs_tx_types.specs.declared.action.Action.{Action}
use Rattle.cs_tx_types.specs.declared.action.Action.TheVariants.{Prepare, Decide}
use Rattle.cs_ledger.specs.Ledger.{Bytes}
use Rattle.cs_ledger.specs.Table as Shard
use Rattle.cs_ledger.specs.Table.{Vote, Commit, Abort, Effect, Voted, Accepted, Aborted, Skipped, Void, exec, table_of}
use Rattle.cs_ledger.specs.ShardWorld.{log, votes_in, decided_in, is_vote, is_effect, is_prepare_of, is_decide_of}
use Rattle.cs_node_state.specs.Setup.{Setup, entry_of}
use Rattle.cs_node_rules.specs.Signs.{Dropped, Took, Entered, Viewed, Did, Headed, Kept, Sent}
use Rattle.cs_node_rules.specs.Site.{Mark, In, Ordered, Plain, Site, signs_of}
use Rattle.cs_node_rules.specs.World.{steps_of, accepts_by, aborts_by, accepts_in, aborts_in}
use Rattle.cs_node_law.specs.Made.{AllMade}
use Rattle.cs_node_law.proofs.Views.{me-same}
use Rattle.cs_node_law.proofs.Logs.{seen, seen_log, effect-is}
use Rattle.cs_world_law.specs.Worlds.{is_honest}
use Rattle.cs_world_law.specs.Chain.{Moment, trail_at, Known, Story, IsSoundSite, story_firsts, shard_entries}
use Rattle.cs_world_law.proofs.Trails.{made-all}
use Rattle.cs_world_law.proofs.Lawful.{AreLawful}
use Rattle.cs_world_law.proofs.Older.{older-votes, older-decided}
use Rattle.cs_world_law.proofs.Firsts.{own_log, log-seen, are-first}

accepted-by : (setup : Setup) (d : Bytes) (entry : Action) (effect : Effect) → accepts_by setup d entry effect ≡ true → (is_decide_of d (entry_of setup entry) && is_effect Accepted effect) ≡ true
accepted-by setup d (Decide vote x) Accepted h = and_from _ _ h refl
accepted-by setup d (Decide vote x) (Voted other) h = cc
accepted-by setup d (Decide vote x) Aborted h = cc
accepted-by setup d (Decide vote x) Skipped h = cc
accepted-by setup d (Decide vote x) Void h = cc
accepted-by setup d (Prepare x) effect h = cc

abbrev AbortedBy : Setup → Bytes → Action → Effect → Type 0
AbortedBy setup d entry effect = ((is_decide_of d (entry_of setup entry) && is_effect Aborted effect) ≡ true) ⊎ ((is_prepare_of d (entry_of setup entry) && is_vote Abort effect) ≡ true)

aborted-by : (setup : Setup) (d : Bytes) (entry : Action) (effect : Effect) → aborts_by setup d entry effect ≡ true → AbortedBy setup d entry effect
aborted-by setup d (Decide vote x) Aborted h = inl (and_from _ _ h refl)
aborted-by setup d (Decide vote x) Accepted h = cc
aborted-by setup d (Decide vote x) (Voted other) h = cc
aborted-by setup d (Decide vote x) Skipped h = cc
aborted-by setup d (Decide vote x) Void h = cc
aborted-by setup d (Prepare x) (Voted Abort) h = inr (and_from _ _ h refl)
aborted-by setup d (Prepare x) (Voted Commit) h = cc
aborted-by setup d (Prepare x) Accepted h = cc
aborted-by setup d (Prepare x) Aborted h = cc
aborted-by setup d (Prepare x) Skipped h = cc
aborted-by setup d (Prepare x) Void h = cc

-- what an execution on the table of the log came to
pub came : {M : Type 0} (site : Site M) (me : NodeId) (t : List (Mark M)) (slot place : ℕ) (entry : Action) (effect : Effect) → AllMade site me (Plain (Did slot place entry effect) ∷ t)
    → effect ≡ (exec site.setup.rules me.shard (table_of site.setup.rules me.shard (seen_log site t)) (entry_of site.setup entry)).effect
came {M} site me t slot place entry effect made =
    effect-is site me t slot place entry effect made
    ∙ ap (λ (n : NodeId). (exec site.setup.rules n.shard (table_of site.setup.rules n.shard (seen_log site t)) (entry_of site.setup entry)).effect) (me-same site me t)

module _ {M : Type 0} (site : Site M) (me : NodeId) (d : Bytes) where
  accepts-log : (t : List (Mark M)) → AllMade site me t → accepts_in site.setup d (signs_of t) ≡ true → decided_in site.setup.rules me.shard d Accepted (seen_log site t) ≡ true
  accepts-log [] made h = cc
  accepts-log (In input ∷ t) made h = accepts-log t made.1 h
  accepts-log (Ordered deed ∷ t) made h = accepts-log t made.1 h
  accepts-log (Plain (Dropped cause) ∷ t) made h = accepts-log t made.1 h
  accepts-log (Plain (Took sender vote x) ∷ t) made h = accepts-log t made.1 h
  accepts-log (Plain (Entered x) ∷ t) made h = accepts-log t made.1 h
  accepts-log (Plain (Viewed slot view) ∷ t) made h = accepts-log t made.1 h
  accepts-log (Plain (Headed number head) ∷ t) made h = accepts-log t made.1 h
  accepts-log (Plain (Kept index checkpoint) ∷ t) made h = accepts-log t made.1 h
  accepts-log (Plain (Sent to message) ∷ t) made h = accepts-log t made.1 h
  accepts-log (Plain (Did slot place entry effect) ∷ t) made h =
      elim (or_cases _ _ h) [
        | inl now ↦ or_left _ _ (subst (λ (e : Effect). (is_decide_of d (entry_of site.setup entry) && is_effect Accepted e) ≡ true) (came site me t slot place entry effect made) (accepted-by site.setup d entry effect now))
        | inr before ↦ or_right _ _ (accepts-log t made.1 before)
      ]

  aborts-log : (t : List (Mark M)) → AllMade site me t → aborts_in site.setup d (signs_of t) ≡ true
      → (decided_in site.setup.rules me.shard d Aborted (seen_log site t) ≡ true) ⊎ (votes_in site.setup.rules me.shard d Abort (seen_log site t) ≡ true)
  aborts-log [] made h = cc
  aborts-log (In input ∷ t) made h = aborts-log t made.1 h
  aborts-log (Ordered deed ∷ t) made h = aborts-log t made.1 h
  aborts-log (Plain (Dropped cause) ∷ t) made h = aborts-log t made.1 h
  aborts-log (Plain (Took sender vote x) ∷ t) made h = aborts-log t made.1 h
  aborts-log (Plain (Entered x) ∷ t) made h = aborts-log t made.1 h
  aborts-log (Plain (Viewed slot view) ∷ t) made h = aborts-log t made.1 h
  aborts-log (Plain (Headed number head) ∷ t) made h = aborts-log t made.1 h
  aborts-log (Plain (Kept index checkpoint) ∷ t) made h = aborts-log t made.1 h
  aborts-log (Plain (Sent to message) ∷ t) made h = aborts-log t made.1 h
  aborts-log (Plain (Did slot place entry effect) ∷ t) made h =
      elim (or_cases _ _ h) [
        | inl now ↦ elim (aborted-by site.setup d entry effect now) [
          | inl a ↦ inl (or_left _ _ (subst (λ (e : Effect). (is_decide_of d (entry_of site.setup entry) && is_effect Aborted e) ≡ true) (came site me t slot place entry effect made) a))
          | inr v ↦ inr (or_left _ _ (subst (λ (e : Effect). (is_prepare_of d (entry_of site.setup entry) && is_vote Abort e) ≡ true) (came site me t slot place entry effect made) v))
        ]
        | inr before ↦ elim (aborts-log t made.1 before) [ inl a ↦ inl (or_right _ _ a) | inr v ↦ inr (or_right _ _ v) ]
      ]

module _ {M : Type 0} (site : Site M) (sound : IsSoundSite site) (known : Known) (lawful : AreLawful site known) (story : List (Moment M)) (story_is : Story site known story) (i : NodeId) (honest : is_honest site i ≡ true) (d : Bytes) where
  abbrev Log : List Shard.Entry
  Log = log i.shard (steps_of site.setup (story_firsts story))

  decided-there : (effect : Effect) → decided_in site.setup.rules i.shard d effect (seen_log site (trail_at i story)) ≡ true → decided_in site.setup.rules i.shard d effect Log ≡ true
  decided-there effect h =
      let f = (are-first site sound known lawful i.shard story story_is).older i honest refl in
      let part = subst (λ l. decided_in site.setup.rules i.shard d effect (seen site.setup l) ≡ true) f.is h in
      ap (λ l. decided_in site.setup.rules i.shard d effect l) (log-seen site.setup i.shard (story_firsts story))
      ∙ older-decided site.setup site.setup.rules i.shard d effect (length (own_log i story)) (shard_entries i.shard (story_firsts story)) part

  voted-there : (vote : Vote) → votes_in site.setup.rules i.shard d vote (seen_log site (trail_at i story)) ≡ true → votes_in site.setup.rules i.shard d vote Log ≡ true
  voted-there vote h =
      let f = (are-first site sound known lawful i.shard story story_is).older i honest refl in
      let part = subst (λ l. votes_in site.setup.rules i.shard d vote (seen site.setup l) ≡ true) f.is h in
      ap (λ l. votes_in site.setup.rules i.shard d vote l) (log-seen site.setup i.shard (story_firsts story))
      ∙ older-votes site.setup site.setup.rules i.shard d vote (length (own_log i story)) (shard_entries i.shard (story_firsts story)) part

  pub accepts-decided : accepts_in site.setup d (signs_of (trail_at i story)) ≡ true → decided_in site.setup.rules i.shard d Accepted Log ≡ true
  accepts-decided h = decided-there Accepted (accepts-log site i d (trail_at i story) (made-all site known i story story_is) h)

  pub aborts-decided : aborts_in site.setup d (signs_of (trail_at i story)) ≡ true → (decided_in site.setup.rules i.shard d Aborted Log ≡ true) ⊎ (votes_in site.setup.rules i.shard d Abort Log ≡ true)
  aborts-decided h =
      elim (aborts-log site i d (trail_at i story) (made-all site known i story story_is) h) [
        | inl a ↦ inl (decided-there Aborted a)
        | inr v ↦ inr (voted-there Abort v)
      ]
