-- A session whose objects are free is voted commit, and one that holds its lock is accepted.
use Rattle.std.proofs.Common.{◌≡◌, inl, inr, ℕ, ◌==◌, Bool, true, false, List, [], ◌∷◌, ◌++◌, length, Option, Some, None, map, refl, sym, ap, ◌∙◌, subst, arith, if◌then◌else◌}
use Rattle.std.proofs.lemmas.Bool.{and_parts, and_from, eqb-true}
use Rattle.cs_base.specs.declared.node_id.NodeId.{NodeId}
use Rattle.cs_tx_types.specs.declared.session.Session.{Session}
use Rattle.cs_tx_types.specs.declared.vote.Vote.TheVariants as tx
use Rattle.cs_tx_types.specs.declared.action.Action.{Action}
use Rattle.cs_tx_types.specs.declared.action.Action.TheVariants.{Prepare, Decide}
use Rattle.cs_base.specs.Lists.{IsIn}
use Rattle.cs_ledger.specs.Session as Seen
use Rattle.cs_ledger.specs.Session.{Key, Piece, anchor, used_up, read_only, objects_in, all_items}
use Rattle.cs_ledger.specs.Table as Shard
use Rattle.cs_ledger.specs.Table.{Table, Outcome, State, Active, Inactive, exec, table_of, with_accepted}
use Rattle.cs_ledger.specs.ShardWorld.{Step, log, IsAllowed, sessions, AreNamedApart}
use Rattle.cs_ledger.proofs.Basics.{first_is}
use Rattle.cs_ledger.proofs.States.{ready_at}
use Rattle.cs_ledger.proofs.Votes.{among_some, commits_in}
use Rattle.cs_ledger.proofs.Decisions.{all_concerned}
use Rattle.cs_node_state.specs.Setup.{Setup, digest_of, entry_of, is_fit}
use Rattle.cs_node_state.specs.Bench.{Bench, start_bench, is_locked_at, executed}
use Rattle.cs_node_rules.specs.Signs.{Sign, Dropped, Took, Entered, Viewed, Did, Headed, Kept, Sent, bench_step, bench_after}
use Rattle.cs_node_rules.specs.Site.{Mark, In, Ordered, Plain, Site, signs_of}
use Rattle.cs_node_rules.specs.World.{Execution, steps_of}
use Rattle.cs_node_rules.specs.Ready.{IsDone, bench_at, Executed, AcceptsLocked}
use Rattle.cs_node_law.specs.Made.{view_at, log_in, AllMade}
use Rattle.cs_node_law.proofs.Views.{me-same}
use Rattle.cs_node_law.proofs.Logs.{seen}
use Rattle.cs_world_law.specs.Worlds.{is_honest}
use Rattle.cs_world_law.specs.Chain.{Moment, trail_at, Known, Story, IsSoundSite, story_firsts, shard_entries}
use Rattle.cs_world_law.proofs.Trails.{AllWithin, made-all, within-all}
use Rattle.cs_world_law.proofs.Lawful.{AreLawful}
use Rattle.cs_world_law.proofs.Older.{older, at_slot, IsOlder, older-drop, older-all, older-part, at-below}
use Rattle.cs_world_law.proofs.Firsts.{log-seen, are-first}
use Rattle.cs_world_law.proofs.Allowed.{AreFine, fine-earlier, are-fine}
use Rattle.cs_world_law.proofs.Acceptance.{voted-well, decides-so, used-gone, made-active}

-- ---- the marks up to a sign

pub record IsPart {M : Type 0} (site : Site M) (known : Known) (me : NodeId) (sign : Sign) (earlier : List Sign) : Type 0 where
  pub before : List (Mark M)
  pub made : AllMade site me (Plain sign ∷ before)
  pub within : AllWithin site known me before
  pub signs : signs_of before ≡ earlier

pub part : {M : Type 0} (site : Site M) (known : Known) (me : NodeId) (t : List (Mark M)) (later : List Sign) (sign : Sign) (earlier : List Sign) → AllMade site me t → AllWithin site known me t → signs_of t ≡ later ++ sign ∷ earlier → IsPart site known me sign earlier
part {M} site known me [] [] sign earlier made within e = absurd cc
part {M} site known me [] (other ∷ later) sign earlier made within e = absurd cc
part {M} site known me (In input ∷ t) later sign earlier made within e = part site known me t later sign earlier made.1 within.1 e
part {M} site known me (Ordered deed ∷ t) later sign earlier made within e = part site known me t later sign earlier made.1 within.1 e
part {M} site known me (Plain own ∷ t) [] sign earlier made within e =
    let same : own ≡ sign = cc in
    let rest : signs_of t ≡ earlier = cc in
    record { before = t; made = subst (λ s. AllMade site me (Plain s ∷ t)) same made; within = within.1; signs = rest }
part {M} site known me (Plain own ∷ t) (other ∷ later) sign earlier made within e =
    let rest : signs_of t ≡ later ++ sign ∷ earlier = cc in
    part site known me t later sign earlier made.1 within.1 rest

pub bench-is : {M : Type 0} (site : Site M) (me : NodeId) (t : List (Mark M)) → bench_after site.setup me.shard (signs_of t) (start_bench site.setup me.shard) ≡ (view_at site me t).bench
bench-is {M} site me [] = refl
bench-is {M} site me (In input ∷ t) = bench-is site me t
bench-is {M} site me (Ordered deed ∷ t) = bench-is site me t
bench-is {M} site me (Plain sign ∷ t) =
    ap (λ (b : Bench). bench_step site.setup me.shard sign b) (bench-is site me t)
    ∙ ap (λ (n : NodeId). bench_step site.setup n.shard sign (view_at site me t).bench) (sym (me-same site me t))

-- the table after these signs
table-signs : (setup : Setup) (shard : ℕ) (signs : List Sign) → (bench_at setup shard signs).table ≡ table_of setup.rules shard (seen setup (log_in signs))
table-signs setup shard [] = refl
table-signs setup shard (Dropped cause ∷ past) = table-signs setup shard past
table-signs setup shard (Took sender vote x ∷ past) = table-signs setup shard past
table-signs setup shard (Entered x ∷ past) = table-signs setup shard past
table-signs setup shard (Viewed slot view ∷ past) = table-signs setup shard past
table-signs setup shard (Headed number head ∷ past) = table-signs setup shard past
table-signs setup shard (Kept index checkpoint ∷ past) = table-signs setup shard past
table-signs setup shard (Sent to said ∷ past) = table-signs setup shard past
table-signs setup shard (Did slot place entry effect ∷ past) = ap (λ (u : Table). (exec setup.rules shard u (entry_of setup entry)).table) (table-signs setup shard past)

log-append : (a b : List Sign) → log_in (a ++ b) ≡ log_in a ++ log_in b
log-append [] b = refl
log-append (Dropped cause ∷ a) b = log-append a b
log-append (Took sender vote x ∷ a) b = log-append a b
log-append (Entered x ∷ a) b = log-append a b
log-append (Viewed slot view ∷ a) b = log-append a b
log-append (Headed number head ∷ a) b = log-append a b
log-append (Kept index checkpoint ∷ a) b = log-append a b
log-append (Sent to said ∷ a) b = log-append a b
log-append (Did slot place entry effect ∷ a) b = ap (λ l. entry ∷ l) (log-append a b)

-- ---- an execution among the first ones

pub record IsSplit (shard : ℕ) (own : List Action) (entry : Action) (firsts : List Execution) : Type 0 where
  pub later : List Execution
  pub first : Execution
  pub earlier : List Execution
  pub is : firsts ≡ later ++ first ∷ earlier
  pub here : first.shard ≡ shard
  pub entry_is : first.entry ≡ entry
  pub log : shard_entries shard earlier ≡ own

split-at : (shard : ℕ) (own : List Action) (entry : Action) (n : ℕ) (firsts : List Execution) → own ≡ older n (shard_entries shard firsts) → at_slot (shard_entries shard firsts) n ≡ Some entry → IsSplit shard own entry firsts
split-at shard own entry n [] is there = absurd cc
split-at shard own entry n (e ∷ earlier) is there = go (e.shard == shard) refl (split-at shard own entry n earlier) is there
  where
    more : IsSplit shard own entry earlier → IsSplit shard own entry (e ∷ earlier)
    more s = record { later = e ∷ s.later; first = s.first; earlier = s.earlier; is = ap (λ l. e ∷ l) s.is; here = s.here; entry_is = s.entry_is; log = s.log }

    last : (b : Bool) → (n == length (shard_entries shard earlier)) ≡ b → (e.shard == shard) ≡ true → (own ≡ older n (shard_entries shard earlier) → at_slot (shard_entries shard earlier) n ≡ Some entry → IsSplit shard own entry earlier)
        → own ≡ older n (e.entry ∷ shard_entries shard earlier) → (if b then Some e.entry else at_slot (shard_entries shard earlier) n) ≡ Some entry → IsSplit shard own entry (e ∷ earlier)
    last true same here again is there =
        let l = shard_entries shard earlier in
        let size = eqb-true n (length l) same in
        let entry_is : e.entry ≡ entry = cc in
        record {
          later = [];
          first = e;
          earlier = earlier;
          is = refl;
          here = eqb-true e.shard shard here;
          entry_is = entry_is;
          log = sym (is ∙ older-drop n e.entry l (omega (arith, size)) ∙ older-all n l (omega (arith, size)));
        }
    last false other here again is there =
        let l = shard_entries shard earlier in
        let below = at-below l n entry there in
        more (again (is ∙ older-drop n e.entry l (omega (arith, below))) there)

    go : (b : Bool) → (e.shard == shard) ≡ b → (own ≡ older n (shard_entries shard earlier) → at_slot (shard_entries shard earlier) n ≡ Some entry → IsSplit shard own entry earlier)
        → own ≡ older n (if b then e.entry ∷ shard_entries shard earlier else shard_entries shard earlier) → at_slot (if b then e.entry ∷ shard_entries shard earlier else shard_entries shard earlier) n ≡ Some entry → IsSplit shard own entry (e ∷ earlier)
    go true same again is there = last (n == length (shard_entries shard earlier)) refl same again is there
    go false other again is there = more (again is there)

-- a Prepare of a session whose objects are free locks them
pub free-commits : (rules : Seen.Rules) (shard : ℕ) (t : Table) (x : Seen.Session) (key : Key) → Seen.well_formed rules x ≡ true → Seen.concerns rules x shard ≡ true → anchor rules x shard ≡ Some key
    → Shard.is_ready t (used_up rules x shard) (read_only rules x shard) ≡ true → Shard.vote_in (t.at key).book x.digest ≡ None → Shard.has_room (t.at key).book ≡ true
    → exec rules shard t (Shard.Prepare x) ≡ Shard.voted (Shard.with_locks t x.digest (used_up rules x shard) (read_only rules x shard)) Shard.Commit
free-commits rules shard t x key well among is ready unvoted room =
    let used = used_up rules x shard in
    let read = read_only rules x shard in
    let d = x.digest in
    let piece = first_is used key is in
    let active : (t.at key).state ≡ Active piece.0.object = ap (λ k. (t.at k).state) piece.2 ∙ ready_at t used (and_parts _ _ ready).0 piece.0 piece.1 in
    ap (λ b. if b then Shard.act rules shard t (Shard.Prepare x) (anchor rules x shard) else record { table = t; effect = Shard.Void }) (and_from _ _ well among)
    ∙ ap (λ o. Shard.act rules shard t (Shard.Prepare x) o) is
    ∙ ap (λ s. if Shard.is_held_by d s then Shard.voted t Shard.Commit else Shard.prepare_unless t d key used read (Shard.vote_in (t.at key).book d)) active
    ∙ ap (λ v. Shard.prepare_unless t d key used read v) unvoted
    ∙ ap (λ s. if Shard.is_inactive s then Shard.voted t Shard.Abort else Shard.prepare_open t d key used read) active
    ∙ ap (λ b. if b then (if Shard.is_ready t used read then Shard.voted (Shard.with_locks t d used read) Shard.Commit else Shard.voted (Shard.with_vote t key d Shard.Abort) Shard.Abort) else Shard.voted t Shard.Abort) room
    ∙ ap (λ b. if b then Shard.voted (Shard.with_locks t d used read) Shard.Commit else Shard.voted (Shard.with_vote t key d Shard.Abort) Shard.Abort) ready

-- what an execution came to on the table before it
pub came : {M : Type 0} (site : Site M) (known : Known) (me : NodeId) (t : List (Mark M)) → AllMade site me t → AllWithin site known me t → (entry : Action) (e : Executed (signs_of t) entry)
    → e.effect ≡ (exec site.setup.rules me.shard (bench_at site.setup me.shard e.earlier).table (entry_of site.setup entry)).effect
came {M} site known me t made within entry e =
    let c = part site known me t e.later (Did e.slot e.place entry e.effect) e.earlier made within e.split in
    let table : (bench_at site.setup me.shard e.earlier).table ≡ (view_at site me c.before).bench.table = ap (λ s. (bench_at site.setup me.shard s).table) (sym c.signs) ∙ ap (λ (b : Bench). b.table) (bench-is site me c.before) in
    c.made.0.computed
    ∙ ap (λ (n : NodeId). (exec site.setup.rules n.shard (view_at site me c.before).bench.table (entry_of site.setup entry)).effect) (me-same site me c.before)
    ∙ ap (λ (u : Table). (exec site.setup.rules me.shard u (entry_of site.setup entry)).effect) (sym table)

module _ {M : Type 0} (site : Site M) (sound : IsSoundSite site) (known : Known) (lawful : AreLawful site known) (story : List (Moment M)) (story_is : Story site known story) (i : NodeId) (honest : is_honest site i ≡ true) where
  module _ (entry : Action) (e : Executed (signs_of (trail_at i story)) entry) where
    pub split : IsSplit i.shard (log_in e.earlier) entry (story_firsts story)
    split =
        let own = (are-first site sound known lawful i.shard story story_is).older i honest refl in
        let is : log_in (signs_of (trail_at i story)) ≡ log_in e.later ++ entry ∷ log_in e.earlier = ap log_in e.split ∙ log-append e.later (Did e.slot e.place entry e.effect ∷ e.earlier) in
        let next = older-part (log_in e.later) entry (log_in e.earlier) (shard_entries i.shard (story_firsts story)) (subst (λ l. IsOlder l (shard_entries i.shard (story_firsts story))) is own) in
        split-at i.shard (log_in e.earlier) entry (length (log_in e.earlier)) (story_firsts story) next.is next.there

    abbrev pub Before : List Step
    Before = steps_of site.setup split.earlier

    fine : AreFine site known (split.first ∷ split.earlier)
    fine = fine-earlier site known split.later (split.first ∷ split.earlier) (subst (λ f. AreFine site known f) split.is (are-fine site sound known lawful story story_is))

    pub allowed-at : IsAllowed site.setup.rules Before i.shard (entry_of site.setup entry)
    allowed-at =
        subst (λ s. IsAllowed site.setup.rules Before s (entry_of site.setup entry)) split.here
        (subst (λ z. IsAllowed site.setup.rules Before split.first.shard (entry_of site.setup z)) split.entry_is fine.allowed.0)

    table-at : (bench_at site.setup i.shard e.earlier).table ≡ table_of site.setup.rules i.shard (log i.shard Before)
    table-at =
        table-signs site.setup i.shard e.earlier
        ∙ ap (λ l. table_of site.setup.rules i.shard (seen site.setup l)) (sym split.log)
        ∙ ap (λ l. table_of site.setup.rules i.shard l) (sym (log-seen site.setup i.shard split.earlier))

  -- a Prepare that was executed is of a session that fits
  pub prepare-fit : (x : Session) → Executed (signs_of (trail_at i story)) (Prepare x) → is_fit site.setup i.shard x ≡ true
  prepare-fit x e = let a = allowed-at (Prepare x) e in and_from _ _ a.0 a.1

  module _ (apart : AreNamedApart site.setup.rules.genesis (map site.setup.session_of known.sessions)) where
    pub accepts-locked : AcceptsLocked site.setup i.shard (signs_of (trail_at i story))
    accepts-locked x e held = at_key (anchor site.setup.rules (site.setup.session_of x) i.shard) refl held
      where
        at_key : (o : Option Key) → anchor site.setup.rules (site.setup.session_of x) i.shard ≡ o → is_locked_at (bench_at site.setup i.shard e.earlier).table (digest_of site.setup x) o ≡ true
            → (e.effect ≡ Shard.Accepted) × IsDone site.setup i.shard (executed site.setup i.shard (bench_at site.setup i.shard e.earlier) (Decide tx.Commit x)).bench.table x
        at_key None is h = absurd cc
        at_key (Some key) is h =
            let entry = Decide tx.Commit x in
            let rules = site.setup.rules in
            let shard = i.shard in
            let f = fine entry e in
            let a = allowed-at entry e in
            let steps = Before entry e in
            let s = split entry e in
            let ok = f.allowed.1 in
            let within = λ (z : Seen.Session) (j : IsIn z (sessions steps)). f.within z (inr j) in
            let sessions_known = map site.setup.session_of known.sessions in
            let seen_x = site.setup.session_of x in
            let first_is_x : Shard.session_of (entry_of site.setup s.first.entry) ≡ seen_x = ap (λ z. Shard.session_of (entry_of site.setup z)) s.entry_is in
            let knows : IsIn seen_x sessions_known = subst (λ z. IsIn z sessions_known) first_is_x (f.within _ (inl refl)) in
            let table = table-at entry e in
            let commit = all_concerned rules steps seen_x Shard.Commit shard (all_items seen_x.transaction) a.1 a.0 in
            let well = voted-well rules sessions_known apart steps ok within seen_x knows Shard.Commit shard steps ok within commit in
            let all : commits_in rules steps seen_x = (a.1, among_some rules shard (all_items seen_x.transaction) a.0) in
            let locked = ap (λ (u : Table). Shard.is_locked_by seen_x.digest (u.at key).state) (sym table) ∙ h in
            let decided = decides-so rules sessions_known apart steps ok within seen_x knows shard key is well a.0 all locked in
            let out : exec rules shard (bench_at site.setup shard e.earlier).table (Shard.Decide seen_x Shard.Commit) ≡ record { table = with_accepted rules shard (table_of rules shard (log shard steps)) seen_x; effect = Shard.Accepted } =
            ap (λ (u : Table). exec rules shard u (Shard.Decide seen_x Shard.Commit)) table ∙ decided in (
              came site known i (trail_at i story) (made-all site known i story story_is) (within-all site known i story story_is) entry e ∙ ap (λ (o : Outcome). o.effect) out,
              record {
                used = λ piece j. ap (λ (o : Outcome). (o.table.at piece.key).state) out ∙ used-gone rules sessions_known apart steps ok within seen_x knows shard key is well a.0 all locked piece j;
                made = λ piece j. ap (λ (o : Outcome). (o.table.at piece.key).state) out ∙ made-active rules sessions_known apart steps ok within seen_x knows shard key is well a.0 all locked piece j;
              },
            )
