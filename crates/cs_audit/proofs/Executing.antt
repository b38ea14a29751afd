-- What the table became is what executing the entry gives, and what is stored then is what is known then.
use Rattle.std.proofs.Common.{◌≡◌, Bool, true, ◌&&◌, List, Option, Some, None, IsSome, is_some, option_map, refl, ap, sym, subst, ◌∙◌}
use Rattle.std.specs.Prelude.{if◌then◌else◌}
use Rattle.cs_tx.specs.Votes.{vote_of}
use Rattle.cs_tx_types.specs.Session.{session_in}
use Rattle.cs_tx_value.specs.declared.object.Object.{Object}
use Rattle.cs_tx_types.specs.declared.transaction.Tx.{Tx}
use Rattle.cs_tx_types.specs.declared.session.Session.{Session}
use Rattle.cs_tx_types.specs.declared.vote.Vote.{Vote}
use Rattle.cs_tx_types.specs.declared.effect.Effect.{Effect}
use Rattle.cs_tx_types.specs.declared.action.Action.{Action}
use Rattle.cs_tx_types.specs.declared.action.Action.TheVariants.{Prepare, Decide}
use Rattle.cs_base.specs.declared.key.Key as ours
use Rattle.cs_tx.specs.Sessions.{ledger_session, key_seen}
use Rattle.cs_tx.specs.Uses.{anchor_of}
use Rattle.cs_tx.proofs.AnchorSeen.{anchor-session_of}
use Rattle.cs_ledger.specs.Session as Seen
use Rattle.cs_ledger.specs.Table as Shard
use Rattle.cs_table.specs.Calls.{anchor_in, decide_outcome}
use Rattle.cs_table.specs.Effects.{ComesTo, effect_of}
use Rattle.cs_table.specs.Pieces.{rules_in}
use Rattle.cs_table.specs.Seen.{Stored, seen}
use Rattle.cs_check.specs.Root.{keys_in}
use Rattle.cs_check.proofs.Hashing.{leaves_stay}
use Rattle.cs_check_rules.specs.Keys.{AreKnown, keys_after}
use Rattle.cs_check_rules.proofs.Same.{one_list}
use Rattle.cs_check_rules.proofs.Known.{exec_known}
use Rattle.cs_node_state.specs.Setup as Setup
use Rattle.cs_node_state.specs.Deployed.{genesis_from}
use Rattle.cs_node_pool.specs.Deployed.{deployed_setup}
use Rattle.cs_sbac.proofs.RulesAlike.{acts}
use Rattle.cs_audit.specs.declared.stand.Stand.{Stand}
use Rattle.cs_audit.specs.Standing.{IsPlaced, entry_seen, acted, StandExecutes}

-- a decision, as the table has it and as the setup has it
pub decides : (told new : Stored) (y : Seen.Session) (vote : Vote) (effect : Shard.Effect)
    → ComesTo (decide_outcome told y (vote_of vote)) told new effect → ComesTo (acted told (Shard.Decide y (vote_of vote))) told new effect
decides told new y vote effect comes = comes

some-still : (o : Option ours.Key) → is_some (option_map key_seen o) ≡ is_some o
some-still None = refl
some-still (Some k) = refl

-- the session is held by a key of the shard
pub anchored : (s : Stand) → IsPlaced s → (approves : Tx → Bool) (x : Session) → is_some (anchor_of s.config x s.shard) ≡ true → IsSome (anchor_in s.table (ledger_session approves x))
anchored s placed approves x has =
    let y : Seen.Session = ledger_session approves x in
    let e : anchor_in s.table y ≡ option_map key_seen (anchor_of s.config x s.shard) =
    (λ i. Seen.anchor (rules_in (placed.shards i)) y (placed.shard i)) ∙ anchor-session_of (rules_in s.config.shards) s.config (λ name. refl) approves x s.shard in
    ap (λ (o : Option Seen.Key). is_some o) e ∙ some-still (anchor_of s.config x s.shard) ∙ has

module _ (s : Stand) (placed : IsPlaced s) (genesis : List Object) (approves : Tx → Bool) where
  abbrev setup : Setup.Setup
  setup = deployed_setup s.config genesis approves

  abbrev ran : Shard.Entry → Shard.Outcome
  ran e = Shard.exec setup.rules s.shard (seen s.table) e

  same-outcome : (e : Shard.Entry) → (Seen.well_formed setup.rules (Shard.session_of e) && Seen.concerns setup.rules (Shard.session_of e) s.shard) ≡ true
      → acted s.table e ≡ ran e
  same-outcome e fit =
      (λ i. Shard.act (rules_in (placed.shards i)) (placed.shard i) (seen s.table) e (Seen.anchor (rules_in (placed.shards i)) (Shard.session_of e) (placed.shard i)))
      ∙ acts (rules_in s.config.shards) (genesis_from 0 genesis) s.config.dummies s.shard (seen s.table) e
      ∙ ap (λ b. if b then Shard.act setup.rules s.shard (seen s.table) e (Seen.anchor setup.rules (Shard.session_of e) s.shard) else record { table = seen s.table; effect = Shard.Void }) (sym fit)

  known-after : (e : Shard.Entry) (new : Stored) → AreKnown (keys_in s.table.rows) (seen s.table) → AreKnown (keys_in new.rows) (seen new)
      → seen new ≡ (ran e).table → keys_in new.rows ≡ keys_after setup.rules s.shard (seen s.table) e (keys_in s.table.rows)
  known-after e new old_known new_known shows =
      let after : List Seen.Key = keys_after setup.rules s.shard (seen s.table) e (keys_in s.table.rows) in
      one_list (seen new) (keys_in new.rows) after new_known
      (subst (λ (t : Shard.Table). AreKnown after t) (sym shows)
      (exec_known setup.rules s.shard (seen s.table) (keys_in s.table.rows) e old_known))

  pub executes : (entry : Action) (new : Stored) (effect : Effect) → Setup.is_fit setup s.shard (session_in entry) ≡ true
      → AreKnown (keys_in s.table.rows) (seen s.table) → AreKnown (keys_in new.rows) (seen new)
      → ComesTo (acted s.table (entry_seen approves entry)) s.table new (effect_of effect)
      → StandExecutes setup entry s (record s { table = new }) effect
  executes (Prepare x) new effect fit old_known new_known comes =
      let e : Shard.Entry = Shard.Prepare (ledger_session approves x) in
      let same : acted s.table e ≡ ran e = same-outcome e fit in
      let shows : seen new ≡ (ran e).table = comes.table_is.shows ∙ ap (λ (o : Shard.Outcome). o.table) same in
      record {
        effect_is = comes.effect_is ∙ ap (λ (o : Shard.Outcome). o.effect) same;
        table_is = shows;
        keys_are = known-after e new old_known new_known shows;
        chain_stays = refl;
        config_stays = refl;
        shard_stays = refl;
        placed = record {
          shards = comes.table_is.shards ∙ placed.shards;
          shard = comes.table_is.shard ∙ placed.shard;
          leaves = leaves_stay s.table new s.chain.hashed comes.table_is.marks placed.leaves;
        };
      }
  executes (Decide vote x) new effect fit old_known new_known comes =
      let e : Shard.Entry = Shard.Decide (ledger_session approves x) (vote_of vote) in
      let same : acted s.table e ≡ ran e = same-outcome e fit in
      let shows : seen new ≡ (ran e).table = comes.table_is.shows ∙ ap (λ (o : Shard.Outcome). o.table) same in
      record {
        effect_is = comes.effect_is ∙ ap (λ (o : Shard.Outcome). o.effect) same;
        table_is = shows;
        keys_are = known-after e new old_known new_known shows;
        chain_stays = refl;
        config_stays = refl;
        shard_stays = refl;
        placed = record {
          shards = comes.table_is.shards ∙ placed.shards;
          shard = comes.table_is.shard ∙ placed.shard;
          leaves = leaves_stay s.table new s.chain.hashed comes.table_is.marks placed.leaves;
        };
      }
