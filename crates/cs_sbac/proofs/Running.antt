-- What the table and the pool became is what the execution of the entry gives.
use Rattle.std.proofs.Common.{◌≡◌, ℕ, Bool, true, false, ◌&&◌, List, Option, Some, None, IsSome, is_some, option_map, refl, ap, sym, subst, ◌∙◌}
use Rattle.std.specs.Prelude.{if◌then◌else◌}
use Rattle.cs_tx.specs.Votes.{vote_of}
use Rattle.cs_tx_types.specs.Session.{session_in}
use Rattle.cs_base.specs.declared.config.Config.{Config}
use Rattle.cs_base.specs.declared.key.Key as ours
use Rattle.cs_base.specs.declared.node_id.NodeId.{NodeId}
use Rattle.cs_tx_value.specs.declared.object.Object.{Object}
use Rattle.cs_tx_types.specs.declared.transaction.Tx.{Tx}
use Rattle.cs_tx_types.specs.declared.session.Session.{Session}
use Rattle.cs_tx_types.specs.declared.vote.Vote.{Vote}
use Rattle.cs_tx_types.specs.declared.vote.Vote.TheVariants.{Commit, Abort}
use Rattle.cs_tx_types.specs.declared.action.Action.{Action}
use Rattle.cs_tx_types.specs.declared.action.Action.TheVariants.{Prepare, Decide}
use Rattle.cs_tx.specs.Uses.{anchor_of}
use Rattle.cs_tx.specs.Sessions.{ledger_session, key_seen}
use Rattle.cs_tx.proofs.AnchorSeen.{anchor-session_of}
use Rattle.cs_ledger.specs.Ledger.{Bytes}
use Rattle.cs_ledger.specs.Session as Seen
use Rattle.cs_ledger.specs.Table as Shard
use Rattle.cs_tx_types.specs.declared.effect.Effect.{Effect}
use Rattle.cs_tx_types.specs.declared.effect.Effect.TheVariants.{Voted, Accepted, Aborted, Skipped, Void}
use Rattle.cs_table.specs.Seen.{Stored, seen}
use Rattle.cs_table.specs.Pieces.{rules_in}
use Rattle.cs_table.specs.Changes.{Becomes, MarksTouched}
use Rattle.cs_table.specs.Effects.{ComesTo, effect_of}
use Rattle.cs_table.specs.declared.standing.Standing.TheVariants.{Accepted as Accepted', Aborted as Aborted', Open as Open'}
use Rattle.cs_ledger.specs.Standing.{stands_accepted, stands_aborted}
use Rattle.cs_table.specs.Calls.{anchor_in, prepare_outcome, decide_outcome, standing_at, recorded_at, locked_at as holds_at}
use Rattle.cs_node_state.specs.Setup as Setup
use Rattle.cs_node_state.specs.Pool.{Pool}
use Rattle.cs_node_state.specs.Bench.{told_by, own_pool, pool_after, is_locked, is_locked_at, decided_at, decision_on as standing, vote_read, noted_at, noted as on_record}
use Rattle.cs_node_state.specs.Deployed.{genesis_from}
use Rattle.cs_sbac.specs.declared.answers.Outcome.{Outcome}
use Rattle.cs_check_rules.specs.Chain.{Log}
use Rattle.cs_check_rules.specs.Keys.{AreKnown, keys_after}
use Rattle.cs_check_rules.proofs.Same.{one_list}
use Rattle.cs_check_rules.proofs.Known.{exec_known}
use Rattle.cs_check.specs.Root.{keys_in}
use Rattle.cs_check.specs.Archives.{Archived}
use Rattle.cs_sbac.specs.Held.{Held, IsOfNode}
use Rattle.cs_node_pool.specs.Deployed.{deployed_setup}
use Rattle.cs_sbac.specs.Calls.{placed, left, accepted_by, RunsSession, RunsEntry, Executes}
use Rattle.cs_sbac.proofs.RulesAlike.{acts, anchors}

vote-back : (v : Vote) → Setup.vote_from (vote_of v) ≡ v
vote-back Commit = refl
vote-back Abort = refl

-- ---- after a vote

pub voted-run : (me : NodeId) (x : Session) (y : Seen.Session) (told tnew : Stored) (pold pnew : Pool) (vote : Vote) (locked : Bool)
    → ComesTo (prepare_outcome told y) told tnew (Shard.Voted (vote_of vote)) → locked ≡ holds_at (seen tnew) y.digest (anchor_in tnew y)
    → pnew ≡ own_pool me y.digest (Some (vote, locked)) (placed locked y.digest x pold)
    → RunsSession me x y.digest (prepare_outcome told y) (anchor_in told y) told tnew pold pnew (record { effect = Voted vote; voted = Some (vote, locked) })
voted-run me x y told tnew pold pnew vote locked comes holds pool =
    let o : Shard.Outcome = prepare_outcome told y in
    let e : Shard.Voted (vote_of vote) ≡ o.effect = comes.effect_is in
    let l : locked ≡ is_locked_at o.table y.digest (anchor_in told y) =
    holds ∙ (λ i. holds_at (comes.table_is.shows i) y.digest (Seen.anchor (rules_in (comes.table_is.shards i)) y (comes.table_is.shard i))) in
    let t : Some (vote, locked) ≡ told_by o.effect (is_locked_at o.table y.digest (anchor_in told y)) =
    ap (λ v. Some (v, locked)) (sym (vote-back vote)) ∙ (λ i. told_by (e i) (l i)) in
    record {
      effect_is = e;
      voted_is = t;
      table_is = comes.table_is;
      pool_is = pool ∙ (λ i. own_pool me y.digest (t i) (pool_after (e i) (l i) y.digest x pold));
    }

-- ---- after a decision

no-vote : (b : Bool) (t u : Shard.Table) (effect : Shard.Effect) (v : Shard.Vote) → (Shard.Voted v ≡ effect → ⊥)
    → Shard.Voted v ≡ (if b then (let o : Shard.Outcome = record { table = t; effect = effect } in o) else record { table = u; effect = Shard.Skipped }).effect → ⊥
no-vote true t u effect v other e = other e
no-vote false t u effect v other e = let q : Shard.Voted v ≡ Shard.Skipped = e in cc

never-votes : (rules : Seen.Rules) (shard : ℕ) (t : Shard.Table) (y : Seen.Session) (vote : Shard.Vote) (key : Option Seen.Key) (v : Shard.Vote)
    → Shard.Voted v ≡ (Shard.act rules shard t (Shard.Decide y vote) key).effect → ⊥
never-votes rules shard t y vote None v e = let q : Shard.Voted v ≡ Shard.Void = e in cc
never-votes rules shard t y Shard.Commit (Some key) v e =
    no-vote (Shard.is_locked_by y.digest (t.at key).state) (Shard.with_accepted rules shard t y) t Shard.Accepted v (λ q. cc) e
never-votes rules shard t y Shard.Abort (Some key) v e =
    no-vote (Shard.is_locked_by y.digest (t.at key).state) (Shard.with_aborted t y.digest key (Seen.used_up rules y shard) (Seen.read_only rules y shard)) t Shard.Aborted v (λ q. cc) e

module _ (me : NodeId) (x : Session) (y : Seen.Session) (told tnew : Stored) (pold pnew : Pool) (vote : Vote) where
  abbrev o : Shard.Outcome
  o = decide_outcome told y (vote_of vote)

  abbrev l : Bool
  l = is_locked_at o.table y.digest (anchor_in told y)

  abbrev Ran : Effect → Type 0
  Ran effect = RunsSession me x y.digest o (anchor_in told y) told tnew pold pnew (record { effect = effect; voted = None })

  quiet : (effect : Effect) (is : Shard.Effect) → effect_of effect ≡ is → is ≡ o.effect → None ≡ told_by is l → pnew ≡ pool_after is l y.digest x pold → Becomes told tnew o.table → Ran effect
  quiet effect is e f none pool table = record {
    effect_is = e ∙ f;
    voted_is = none ∙ (λ i. told_by (f i) l);
    table_is = table;
    pool_is = pool ∙ (λ i. own_pool me y.digest (none i) (pool_after is l y.digest x pold)) ∙ (λ i. own_pool me y.digest (told_by (f i) l) (pool_after (f i) l y.digest x pold));
  }

  by : (effect : Effect) → effect_of effect ≡ o.effect → pnew ≡ left effect y.digest pold → Becomes told tnew o.table → Ran effect
  by Accepted e pool table = quiet Accepted Shard.Accepted refl e refl pool table
  by Aborted e pool table = quiet Aborted Shard.Aborted refl e refl pool table
  by Skipped e pool table = quiet Skipped Shard.Skipped refl e refl pool table
  by Void e pool table = quiet Void Shard.Void refl e refl pool table
  by (Voted v) e pool table = absurd (never-votes (rules_in told.shards) told.shard (seen told) y (vote_of vote) (anchor_in told y) (vote_of v) e)

  pub decided-run : (effect : Effect) → ComesTo (decide_outcome told y (vote_of vote)) told tnew (effect_of effect) → pnew ≡ left effect y.digest pold
      → RunsSession me x y.digest (decide_outcome told y (vote_of vote)) (anchor_in told y) told tnew pold pnew (record { effect = effect; voted = None })
  decided-run effect comes pool = by effect comes.effect_is pool comes.table_is

-- ---- the table stays that of the shard

pub marked : (approves : Tx → Bool) (me : NodeId) (entry : Action) (told tnew : Stored) (pold pnew : Pool) (answer : Outcome)
    → RunsEntry approves me entry told tnew pold pnew answer → MarksTouched told tnew
marked approves me (Prepare x) told tnew pold pnew answer r = r.table_is.marks
marked approves me (Decide vote x) told tnew pold pnew answer r = r.table_is.marks

pub stays : (approves : Tx → Bool) (config : Config) (me : NodeId) (entry : Action) (told tnew : Stored) (pold pnew : Pool) (answer : Outcome)
    → IsOfNode config me told → RunsEntry approves me entry told tnew pold pnew answer → IsOfNode config me tnew
stays approves config me (Prepare x) told tnew pold pnew answer of r =
    record { node = of.node; shards = r.table_is.shards ∙ of.shards; shard = r.table_is.shard ∙ of.shard }
stays approves config me (Decide vote x) told tnew pold pnew answer of r =
    record { node = of.node; shards = r.table_is.shards ∙ of.shards; shard = r.table_is.shard ∙ of.shard }

-- ---- the anchor is the same for all

some-still : (o : Option ours.Key) → is_some (option_map key_seen o) ≡ is_some o
some-still None = refl
some-still (Some k) = refl

module _ (config : Config) (me : NodeId) (told : Stored) (of : IsOfNode config me told) where
  pub anchored : (approves : Tx → Bool) (x : Session) → is_some (anchor_of config x me.shard) ≡ true → IsSome (anchor_in told (ledger_session approves x))
  anchored approves x has =
      let y : Seen.Session = ledger_session approves x in
      let e : anchor_in told y ≡ option_map key_seen (anchor_of config x me.shard) =
      (λ i. Seen.anchor (rules_in (of.shards i)) y (of.shard i)) ∙ anchor-session_of (rules_in config.shards) config (λ name. refl) approves x me.shard in
      ap (λ (o : Option Seen.Key). is_some o) e ∙ some-still (anchor_of config x me.shard) ∙ has

  module _ (genesis : List Object) (approves : Tx → Bool) where
    abbrev setup : Setup.Setup
    setup = deployed_setup config genesis approves

    same-anchor : (y : Seen.Session) → anchor_in told y ≡ Seen.anchor setup.rules y me.shard
    same-anchor y = (λ i. Seen.anchor (rules_in (of.shards i)) y (of.shard i)) ∙ anchors (rules_in config.shards) (genesis_from 0 genesis) config.dummies me.shard y

    same-outcome : (e : Shard.Entry) → (Seen.well_formed setup.rules (Shard.session_of e) && Seen.concerns setup.rules (Shard.session_of e) me.shard) ≡ true
        → Shard.act (rules_in told.shards) told.shard (seen told) e (anchor_in told (Shard.session_of e)) ≡ Shard.exec setup.rules me.shard (seen told) e
    same-outcome e fit =
        (λ i. Shard.act (rules_in (of.shards i)) (of.shard i) (seen told) e (Seen.anchor (rules_in (of.shards i)) (Shard.session_of e) (of.shard i)))
        ∙ acts (rules_in config.shards) (genesis_from 0 genesis) config.dummies me.shard (seen told) e
        ∙ ap (λ b. if b then Shard.act setup.rules me.shard (seen told) e (Seen.anchor setup.rules (Shard.session_of e) me.shard) else record { table = seen told; effect = Shard.Void }) (sym fit)

    moved : (x : Session) (o p : Shard.Outcome) (tnew : Stored) (pold pnew : Pool) (answer : Outcome) → o ≡ p
        → RunsSession me x (ledger_session approves x).digest o (anchor_in told (ledger_session approves x)) told tnew pold pnew answer
        → RunsSession me x (ledger_session approves x).digest p (Seen.anchor setup.rules (ledger_session approves x) me.shard) told tnew pold pnew answer
    moved x o p tnew pold pnew answer e r =
        let P : Shard.Outcome × Option Seen.Key → Type 0 = λ q. RunsSession me x (ledger_session approves x).digest q.0 q.1 told tnew pold pnew answer in
        subst P (λ i. (e i, same-anchor (ledger_session approves x) i)) r

    module _ (old_known : AreKnown (keys_in told.rows) (seen told)) where
      -- what is known after an entry is what the table knows then
      known-after : (e : Shard.Entry) (tnew : Stored) → AreKnown (keys_in tnew.rows) (seen tnew)
          → seen tnew ≡ (Shard.exec setup.rules me.shard (seen told) e).table
          → keys_in tnew.rows ≡ keys_after setup.rules me.shard (seen told) e (keys_in told.rows)
      known-after e tnew new_known shows =
          let after : List Seen.Key = keys_after setup.rules me.shard (seen told) e (keys_in told.rows) in
          one_list (seen tnew) (keys_in tnew.rows) after new_known
          (subst (λ (t : Shard.Table). AreKnown after t) (sym shows)
          (exec_known setup.rules me.shard (seen told) (keys_in told.rows) e old_known))

      module _ (archived : Archived) (log : Log) where
        abbrev held_with : Stored → Pool → Held
        held_with table pool = record { config = config; me = me; table = table; pool = pool; archived = archived }

        pub executes : (entry : Action) (tnew : Stored) (pold pnew : Pool) (answer : Outcome)
            → Setup.is_fit setup me.shard (session_in entry) ≡ true → AreKnown (keys_in tnew.rows) (seen tnew)
            → RunsEntry approves me entry told tnew pold pnew answer
            → Executes setup log entry (held_with told pold) (held_with tnew pnew) answer
        executes (Prepare x) tnew pold pnew answer fit known r =
            let y : Seen.Session = ledger_session approves x in
            let e : Shard.Entry = Shard.Prepare y in
            let s : RunsSession me x y.digest (Shard.exec setup.rules me.shard (seen told) e) (Seen.anchor setup.rules y me.shard) told tnew pold pnew answer =
            moved x (prepare_outcome told y) (Shard.exec setup.rules me.shard (seen told) e) tnew pold pnew answer (same-outcome e fit) r in
            let keys = known-after e tnew known s.table_is.shows in
            record {
              effect_is = s.effect_is;
              voted_is = s.voted_is;
              bench_is = λ i. record { table = s.table_is.shows i; keys = keys i; pool = s.pool_is i; log = log; heads = archived.heads };
              config_stays = refl;
              me_stays = refl;
              archived_stays = refl;
            }
        executes (Decide vote x) tnew pold pnew answer fit known r =
            let y : Seen.Session = ledger_session approves x in
            let e : Shard.Entry = Shard.Decide y (vote_of vote) in
            let s : RunsSession me x y.digest (Shard.exec setup.rules me.shard (seen told) e) (Seen.anchor setup.rules y me.shard) told tnew pold pnew answer =
            moved x (decide_outcome told y (vote_of vote)) (Shard.exec setup.rules me.shard (seen told) e) tnew pold pnew answer
            (same-outcome e fit) r in
            let keys = known-after e tnew known s.table_is.shows in
            record {
              effect_is = s.effect_is;
              voted_is = s.voted_is;
              bench_is = λ i. record { table = s.table_is.shows i; keys = keys i; pool = s.pool_is i; log = log; heads = archived.heads };
              config_stays = refl;
              me_stays = refl;
              archived_stays = refl;
            }

        -- an entry that isn't fit changes nothing
        abbrev Nothing : Action → Pool → Type 0
        Nothing entry pool = Executes setup log entry (held_with told pool) (held_with told pool) (record { effect = Void; voted = None })

        nothing-by : (entry : Action) (pool : Pool)
            → Shard.exec setup.rules me.shard (seen told) (Setup.entry_of setup entry) ≡ record { table = seen told; effect = Shard.Void }
            → Nothing entry pool
        nothing-by entry pool e =
            let x : Session = session_in entry in
            let d : Bytes = Setup.digest_of setup x in
            let o = sym e in
            let keys = known-after (Setup.entry_of setup entry) told old_known (ap (λ (out : Shard.Outcome). out.table) o) in
            record {
              effect_is = ap (λ (out : Shard.Outcome). out.effect) o;
              voted_is = ap (λ (out : Shard.Outcome). told_by out.effect (is_locked setup me.shard out.table x)) o;
              bench_is = λ i. record {
                table = (o i).table;
                keys = keys i;
                pool = own_pool me d (told_by (o i).effect (is_locked setup me.shard (o i).table x))
                    (pool_after (o i).effect (is_locked setup me.shard (o i).table x) d x pool);
                log = log;
                heads = archived.heads;
              };
              config_stays = refl;
              me_stays = refl;
              archived_stays = refl;
            }

        unfit : (t : Shard.Table) (b : Bool) (o : Shard.Outcome) → b ≡ false → (if b then o else record { table = t; effect = Shard.Void }) ≡ record { table = t; effect = Shard.Void }
        unfit t true o h = let q : true ≡ false = h in cc
        unfit t false o h = refl

        pub executes-nothing : (entry : Action) (pool : Pool) → Setup.is_fit setup me.shard (session_in entry) ≡ false → Nothing entry pool
        executes-nothing (Prepare x) pool misfit = nothing-by (Prepare x) pool (unfit (seen told) _ _ misfit)
        executes-nothing (Decide vote x) pool misfit = nothing-by (Decide vote x) pool (unfit (seen told) _ _ misfit)

    pub stands : (x : Session) → accepted_by (standing_at (seen told) (ledger_session approves x).digest (anchor_in told (ledger_session approves x))) ≡ standing setup me.shard (seen told) x
    stands x =
        let y : Seen.Session = ledger_session approves x in
        accepted-at (seen told) y.digest (anchor_in told y) ∙ ap (decided_at (seen told) y.digest) (same-anchor y)
      where
        accepted-by : (a b : Bool) → accepted_by (if a then Accepted' else if b then Aborted' else Open') ≡ (if a then Some true else if b then Some false else None)
        accepted-by true b = refl
        accepted-by false true = refl
        accepted-by false false = refl

        accepted-at : (t : Shard.Table) (d : Bytes) (o : Option Seen.Key) → accepted_by (standing_at t d o) ≡ decided_at t d o
        accepted-at t d None = refl
        accepted-at t d (Some key) = accepted-by (stands_accepted (t.at key) d) (stands_aborted (t.at key) d)

    pub records : (x : Session) (vote : Option Vote) → option_map vote_of vote ≡ recorded_at (seen told) (ledger_session approves x).digest (anchor_in told (ledger_session approves x)) → vote ≡ on_record setup me.shard (seen told) x
    records x vote is =
        let y : Seen.Session = ledger_session approves x in
        read-back vote ∙ ap vote_read is ∙ read-at (seen told) y.digest (anchor_in told y) ∙ ap (noted_at (seen told) y.digest) (same-anchor y)
      where
        read-back : (vote : Option Vote) → vote ≡ vote_read (option_map vote_of vote)
        read-back None = refl
        read-back (Some v) = ap (λ w. Some w) (sym (vote-back v))

        read-at : (t : Shard.Table) (d : Bytes) (o : Option Seen.Key) → vote_read (recorded_at t d o) ≡ noted_at t d o
        read-at t d None = refl
        read-at t d (Some key) = refl
