-- Everything that each allowed step keeps, and what follows from it.
use Rattle.std.proofs.Common.{◌≡◌, ℕ, List, [], ◌∷◌, ◌++◌, true, false, not, ◌&&◌, ◌⊎◌, inl, inr, Option, refl, sym, ap, ◌∙◌, subst}
use Rattle.std.specs.Prelude.{bytes_eq}
use Rattle.std.proofs.lemmas.Bool.{cases_Bool, cond_both, both_ways, and_parts, and_cases, not-true, not-false}
use Rattle.cs_base.specs.Lists.{IsIn, is_empty}
use Rattle.cs_ledger.specs.Ledger.{Bytes, Item, Transaction, Ledger, names, genesis_ledger, ledger_of}
use Rattle.cs_ledger.specs.Session.{Session, Rules, Object, all_items}
use Rattle.cs_ledger.specs.Table.{Vote, Commit, Abort, Locked, Table, Entry, Prepare, Decide, session_of, table_of, is_held_by, is_inactive, vote_in, has_room}
use Rattle.cs_ledger.specs.ShardWorld.{Step, all_vote, log, shard_votes, all_commit, IsAllowed, AllAllowed, sessions, is_listed, history, AreNamedApart}
use Rattle.cs_ledger.proofs.Basics.{same_bytes, in_left, in_right}
use Rattle.cs_ledger.proofs.Names.{piece_of, in_objects, at_some, item_named}
use Rattle.cs_ledger.proofs.States.{IsRead}
use Rattle.cs_ledger.proofs.Kept.{Holding}
use Rattle.cs_ledger.proofs.Covered.{Covered, covered_entry, covered_start}
use Rattle.cs_ledger.proofs.Votes.{Facts, among_some, commits_in, aborts_in, backed, log_at, all_at, all_same, all_more, one_more, facts_start, facts_step, kept_before, no_both}
use Rattle.cs_ledger.proofs.Serial.{Told, ledger_of-append, listed_is, is_listed_from, settle_commit, held_is, told_after, covered_after}

-- what is known of a history, with its ledger
pub record Story (rules : Rules) (known : List Session) (past : List Step) (txs : List Transaction) (ledger : Ledger) : Type 0 where
  pub told : Told rules known txs ledger
  pub covered : (shard : ℕ) → Covered rules known (commits_in rules past) ledger.active txs shard (table_of rules shard (log shard past))
  pub listed : (x : Session) → IsIn x known → commits_in rules past x → IsIn x.transaction txs

abbrev pub ledger_at : Rules → List Transaction → Ledger
ledger_at rules txs = ledger_of (genesis_ledger rules.genesis) txs

pub record World (rules : Rules) (known : List Session) (past : List Step) : Type 0 where
  pub facts : Facts rules known past
  pub story : Story rules known past (history rules past) (ledger_at rules (history rules past))

covered_mono : (rules : Rules) (known : List Session) (c c' : Session → Type 0) (active : Bytes → Option Bytes) (txs : List Transaction) (shard : ℕ) (t : Table) → ((x : Session) → c x → c' x) → Covered rules known c active txs shard t → Covered rules known c' active txs shard t
covered_mono rules known c c' active txs shard t up covered =
    record {
      active_is = covered.active_is;
      locked_is = λ name object d e.
          elim (covered.locked_is name object d e) [
            | inl there ↦ inl there
            | inr by ↦ inr (record { x = by.x; knows = by.knows; digest = by.digest; holds = record { all = up by.x by.holds.all; input = by.holds.input } })
          ];
      home = covered.home;
      unknown_is = covered.unknown_is;
    }

module _ (rules : Rules) (known : List Session) (apart : AreNamedApart rules.genesis known) where
  no_votes : (x : Session) (items : List Item) → all_vote rules [] x Commit items ≡ true → is_empty items ≡ false → ⊥
  no_votes x [] e some = cc
  no_votes x (item ∷ items) e some = both_ways false refl (and_parts (shard_votes rules [] (rules.shard_of item.name) x Commit) (all_vote rules [] x Commit items) e).0

  world_start : World rules known []
  world_start =
      record {
        facts = facts_start rules known apart.session;
        story = record {
          told = record {
            from = λ tx h. absurd h;
            created = λ name h. inl h;
            held = λ name object e.
                let i = at_some rules.genesis name object e in
                subst (λ n. IsIn n (names rules.genesis)) i.2 (item_named i.0 rules.genesis i.1);
            serial = tt;
          };
          covered = λ shard. covered_start rules known (commits_in rules []) shard;
          listed = λ x k h. no_votes x (all_items x.transaction) h.0 h.1;
        };
      }

  module _ (past : List Step) (world : World rules known past) (shard : ℕ) where
    -- the tables after the step against the ledger before it
    covered_before : (entry : Entry) → IsIn (session_of entry) known → IsAllowed rules past shard entry → (s : ℕ) → Covered rules known (commits_in rules past) (ledger_at rules (history rules past)).active (history rules past) s (table_of rules s (log s (record { shard = shard; entry = entry } ∷ past)))
    covered_before entry knows allowed s =
        log_at (λ l. Covered rules known (commits_in rules past) (ledger_at rules (history rules past)).active (history rules past) s (table_of rules s l)) s (record { shard = shard; entry = entry }) past
        (λ e. covered_entry rules known apart.session (commits_in rules past) (aborts_in rules past) (ledger_at rules (history rules past)).active (history rules past) world.story.listed
        (λ x k c. no_both rules known apart.session past world.facts x k c.0)
        s (table_of rules s (log s past)) (world.facts.kept s) (world.story.covered s) entry knows (backed rules past shard entry allowed))
        (world.story.covered s)

    decide_story : (x : Session) (vote : Vote) → IsIn x known → IsAllowed rules past shard (Decide x vote) → Story rules known (record { shard = shard; entry = Decide x vote } ∷ past) (history rules past) (ledger_at rules (history rules past))
    decide_story x vote knows allowed =
        let step : Step = record { shard = shard; entry = Decide x vote } in
        record {
          told = world.story.told;
          covered = λ s. covered_mono rules known _ _ _ _ s _ (λ z c. (all_more rules step past z Commit (all_items z.transaction) c.0, c.1)) (covered_before (Decide x vote) knows allowed s);
          listed = λ z k h. world.story.listed z k (all_same rules step past z Commit (all_items z.transaction) refl h.0, h.1);
        }

    module _ (y : Session) (knows : IsIn y known) (allowed : IsAllowed rules past shard (Prepare y)) where
      abbrev now : List Step
      now = record { shard = shard; entry = Prepare y } ∷ past

      facts_now : Facts rules known now
      facts_now = facts_step rules known apart.session (record { shard = shard; entry = Prepare y }) past world.facts knows allowed

      up : (x : Session) → commits_in rules past x → commits_in rules now x
      up x c = (all_more rules (record { shard = shard; entry = Prepare y }) past x Commit (all_items x.transaction) c.0, c.1)

      some : is_empty (all_items y.transaction) ≡ false
      some = among_some rules shard (all_items y.transaction) allowed.1

      -- a session other than y has the commit votes that it had
      new_commit : (x : Session) → IsIn x known → commits_in rules now x → commits_in rules past x ⊎ (x ≡ y)
      new_commit x k h =
          elim (cases_Bool (bytes_eq x.digest y.digest)) [
            | inl same ↦ inr (apart.session x y k knows (same_bytes _ _ same))
            | inr other ↦ inl (all_same rules (record { shard = shard; entry = Prepare y }) past x Commit (all_items x.transaction) other h.0, h.1)
          ]

      stays_story : (all_commit rules now y && not (is_listed y.transaction (history rules past))) ≡ false → Story rules known now (history rules past) (ledger_at rules (history rules past))
      stays_story e =
          record {
            told = world.story.told;
            covered = λ s. covered_mono rules known _ _ _ _ s _ up (covered_before (Prepare y) knows allowed s);
            listed = λ x k h.
                elim (new_commit x k h) [
                  | inl before ↦ world.story.listed x k before
                  | inr same ↦
                      let all : all_commit rules now y ≡ true = ap (all_commit rules now) (sym same) ∙ h.0 in
                      elim (and_cases _ _ e) [
                        | inl no_all ↦ absurd (both_ways _ no_all all)
                        | inr is ↦
                            let r = listed_is y.transaction (history rules past) (not-false _ is) in
                            let z = world.story.told.from r.0 r.1 in
                            let tx : y.transaction ≡ z.0.transaction = apart.transaction y z.0 knows z.1 (r.2 ∙ ap (λ (t : Transaction). t.digest) (sym z.2)) in
                            subst (λ t. IsIn t (history rules past)) (sym (ap (λ (s : Session). s.transaction) same ∙ tx ∙ z.2)) r.1
                      ]
                ];
          }

      not_yet : is_listed y.transaction (history rules past) ≡ false → commits_in rules past y → ⊥
      not_yet unlisted all =
          both_ways _ unlisted (is_listed_from y.transaction y.transaction (history rules past) (world.story.listed y knows all) refl)

      -- with its last commit vote, the session holds all its inputs and references
      holds : is_listed y.transaction (history rules past) ≡ false → all_commit rules now y ≡ true → (s : ℕ) → shard_votes rules now s y Commit ≡ true → Holding rules s (table_of rules s (log s now)) y
      holds unlisted all s vote =
          let kept = kept_before rules known apart.session (record { shard = shard; entry = Prepare y }) past world.facts knows allowed s in
          let f = facts_now.fixed y knows s Commit vote in
          let record_at = (table_of rules s (log s now)).at f.key in
          elim (settle_commit (is_held_by y.digest record_at.state) (vote_in record_at.book y.digest) (is_inactive record_at.state) (has_room record_at.book) f.fixed) [
            | inl held ↦
                elim (held_is y.digest record_at.state held) [
                  | inl l ↦
                      let by = kept.locked f.key l.0 y.digest l.1 in
                      subst (λ z. Holding rules s (table_of rules s (log s now)) z) (apart.session by.x y by.knows knows by.digest) by.holding
                  | inr i ↦
                      let by = kept.inactive f.key y.digest i in
                      absurd (not_yet unlisted (subst (commits_in rules past) (apart.session by.x y by.knows knows by.digest) by.holds))
                ]
            | inr noted ↦
                let by = kept.noted f.key y.digest noted in
                let one = subst (aborts_in rules past) (apart.session by.x y by.knows knows by.digest) by.holds in
                absurd (no_both rules known apart.session now facts_now y knows all (one_more rules (record { shard = shard; entry = Prepare y }) past y Abort (all_items y.transaction) one))
          ]

      locks : is_listed y.transaction (history rules past) ≡ false → all_commit rules now y ≡ true → (item : Item) → IsIn item y.transaction.inputs → ((table_of rules (rules.shard_of item.name) (log (rules.shard_of item.name) now)).at (Object item.name)).state ≡ Locked item.object y.digest
      locks unlisted all item h =
          let s = rules.shard_of item.name in
          let vote = all_at rules now y Commit (all_items y.transaction) all item (in_left _ _ _ h) in
          (holds unlisted all s vote).all (piece_of item) (in_left _ _ _ (in_objects rules s y.transaction.inputs item h refl))

      reads : is_listed y.transaction (history rules past) ≡ false → all_commit rules now y ≡ true → (item : Item) → IsIn item y.transaction.references → IsRead item.object y.digest ((table_of rules (rules.shard_of item.name) (log (rules.shard_of item.name) now)).at (Object item.name)).state
      reads unlisted all item h =
          let s = rules.shard_of item.name in
          let vote = all_at rules now y Commit (all_items y.transaction) all item (in_right _ y.transaction.inputs _ (in_left _ _ _ h)) in
          (holds unlisted all s vote).reads (piece_of item) (in_objects rules s y.transaction.references item h refl)

      grown_story : (all_commit rules now y && not (is_listed y.transaction (history rules past))) ≡ true → Story rules known now (history rules past ++ y.transaction ∷ []) (ledger_at rules (history rules past ++ y.transaction ∷ []))
      grown_story e =
          let p = and_parts _ _ e in
          let unlisted = not-true _ p.1 in
          let well = (and_parts _ _ allowed.0).0 in
          let txs = history rules past in
          let tables = λ (s : ℕ). table_of rules s (log s now) in
          let before = covered_before (Prepare y) knows allowed in
          let none = not_yet unlisted in
          subst (λ l. Story rules known now (txs ++ y.transaction ∷ []) l) (sym (ledger_of-append (genesis_ledger rules.genesis) txs y.transaction))
          (record {
            told = told_after rules known apart (commits_in rules past) txs (ledger_at rules txs) world.story.told refl y knows well allowed.2 unlisted tables before none (locks unlisted p.0) (reads unlisted p.0);
            covered = covered_after rules known apart (commits_in rules past) txs (ledger_at rules txs) world.story.told refl y knows well allowed.2 unlisted tables before none (locks unlisted p.0) (reads unlisted p.0) (commits_in rules now) up (p.0, some);
            listed = λ x k h.
                elim (new_commit x k h) [
                  | inl was ↦ in_left _ _ _ (world.story.listed x k was)
                  | inr same ↦ subst (λ t. IsIn t (txs ++ y.transaction ∷ [])) (ap (λ (s : Session). s.transaction) (sym same)) (in_right _ txs _ (inl refl))
                ];
          })

      prepare_story : Story rules known now (history rules now) (ledger_at rules (history rules now))
      prepare_story =
          cond_both (all_commit rules now y && not (is_listed y.transaction (history rules past))) _ _ (λ txs. Story rules known now txs (ledger_at rules txs)) grown_story stays_story

    story_step : (entry : Entry) → IsIn (session_of entry) known → IsAllowed rules past shard entry → Story rules known (record { shard = shard; entry = entry } ∷ past) (history rules (record { shard = shard; entry = entry } ∷ past)) (ledger_at rules (history rules (record { shard = shard; entry = entry } ∷ past)))
    story_step (Prepare y) knows allowed = prepare_story y knows allowed
    story_step (Decide x vote) knows allowed = decide_story x vote knows allowed

  pub world_of : (past : List Step) → AllAllowed rules past → ((x : Session) → IsIn x (sessions past) → IsIn x known) → World rules known past
  world_of [] allowed within = world_start
  world_of (step ∷ past) allowed within =
      let world = world_of past allowed.1 (λ x i. within x (inr i)) in
      let knows = within (session_of step.entry) (inl refl) in
      record {
        facts = facts_step rules known apart.session step past world.facts knows allowed.0;
        story = story_step past world step.shard step.entry knows allowed.0;
      }
