-- The rules of a leaf, one after the other, and the shard behind it.
use Rattle.std.proofs.Common.{◌≡◌, Bool, true, false, not, ◌==◌, List, length, Option, Some, None, refl, ap, sym, subst, ◌∙◌}
use Rattle.std.specs.Prelude.{if◌then◌else◌}
use Rattle.cs_tx_types.specs.declared.checkpoint.Checkpoint.{Checkpoint}
use Rattle.cs_tx_types.specs.declared.effect.Effect.{Effect}
use Rattle.cs_tx_types.specs.declared.effect.Effect.TheVariants as effect
use Rattle.cs_tx_types.specs.declared.vote.Vote.TheVariants as vote
use Rattle.cs_tx_types.specs.declared.leaf.Leaf.{Leaf}
use Rattle.cs_ledger.specs.Ledger.{Bytes}
use Rattle.cs_check_rules.specs.Chain.{Log, made_last, kept_of}
use Rattle.cs_check.specs.Root.{keys_in}
use Rattle.cs_table.specs.Effects.{effect_of}
use Rattle.cs_table.specs.Seen.{Stored, seen, forgotten}
use Rattle.cs_check.specs.Leaves.{HasLeaves}
use Rattle.cs_check.proofs.Hashing.{leaves_but}
use Rattle.cs_node_state.specs.Setup.{Setup, is_fit}
use Rattle.cs_tx_types.specs.Session.{session_in}
use Rattle.cs_audit_rules.specs.declared.verdict.Rule.{Rule}
use Rattle.cs_audit_rules.specs.declared.verdict.Rule.TheVariants as rule
use Rattle.cs_audit_rules.specs.Slots.{is_judged, same_effect, is_result, is_head, broken_by}
use Rattle.cs_audit_rules.specs.Stands as rules
use Rattle.cs_audit.specs.declared.stand.Stand.{Stand}
use Rattle.cs_audit.specs.Standing.{stand_of, log_with, StandExecutes, StandFollows}

-- ---- effects

pub same : (a : Effect) → same_effect (effect_of a) (effect_of a) ≡ true
same (effect.Voted vote.Commit) = refl
same (effect.Voted vote.Abort) = refl
same effect.Accepted = refl
same effect.Aborted = refl
same effect.Skipped = refl
same effect.Void = refl

pub differ : (a b : Effect) → (a ≡ b → ⊥) → same_effect (effect_of a) (effect_of b) ≡ false
differ (effect.Voted vote.Commit) (effect.Voted vote.Commit) ne = absurd (ne refl)
differ (effect.Voted vote.Abort) (effect.Voted vote.Abort) ne = absurd (ne refl)
differ effect.Accepted effect.Accepted ne = absurd (ne refl)
differ effect.Aborted effect.Aborted ne = absurd (ne refl)
differ effect.Skipped effect.Skipped ne = absurd (ne refl)
differ effect.Void effect.Void ne = absurd (ne refl)
differ _ _ ne = refl

-- ---- the tests

abbrev first_of : (slot form judge result head : Bool) → Option Rule
first_of slot form judge result head =
    if not slot then Some rule.Slot
    else if not form then Some rule.Form
    else if not judge then Some rule.Judge
    else if not result then Some rule.Result
    else if not head then Some rule.Head
    else None

module _ (setup : Setup) (log : Log) (heads : List Bytes) (leaf : Leaf) (s : Stand) where
  abbrev slot : Bool
  slot = leaf.slot == length log.leaves

  abbrev form : Bool
  form = is_fit setup s.shard (session_in leaf.action)

  abbrev judge : Bool
  judge = is_judged setup leaf.action

  abbrev result : Bool
  result = is_result setup s.shard (stand_of log s) leaf

  abbrev head : Bool
  head = is_head heads (made_last (rules.after_leaf setup s.shard (stand_of log s) leaf).log)

  abbrev broken : Option Rule
  broken = broken_by setup s.shard heads (stand_of log s) leaf

  pub at_slot : slot ≡ false → broken ≡ Some rule.Slot
  at_slot a = ap (λ x. first_of x form judge result head) a

  pub at_form : slot ≡ true → form ≡ false → broken ≡ Some rule.Form
  at_form a b = λ i. first_of (a i) (b i) judge result head

  pub at_judge : slot ≡ true → form ≡ true → judge ≡ false → broken ≡ Some rule.Judge
  at_judge a b c = λ i. first_of (a i) (b i) (c i) result head

  pub at_result : slot ≡ true → form ≡ true → judge ≡ true → result ≡ false → broken ≡ Some rule.Result
  at_result a b c d = λ i. first_of (a i) (b i) (c i) (d i) head

  pub at_head : slot ≡ true → form ≡ true → judge ≡ true → result ≡ true → head ≡ false → broken ≡ Some rule.Head
  at_head a b c d e = λ i. first_of (a i) (b i) (c i) (d i) (e i)

  pub at_none : slot ≡ true → form ≡ true → judge ≡ true → result ≡ true → head ≡ true → broken ≡ None
  at_none a b c d e = λ i. first_of (a i) (b i) (c i) (d i) (e i)

  -- ---- what was executed

  module _ (mid : Stand) (effect : Effect) (ran : StandExecutes setup leaf.action s mid effect) where
    pub result_is : leaf.result ≡ effect → result ≡ true
    result_is e =
        ap (λ told. same_effect (effect_of told) (rules.outcome_of setup s.shard (stand_of log s).table leaf).effect) e
        ∙ ap (same_effect (effect_of effect)) (sym ran.effect_is) ∙ same effect

    pub result_differs : (leaf.result ≡ effect → ⊥) → result ≡ false
    result_differs ne =
        ap (same_effect (effect_of leaf.result)) (sym ran.effect_is) ∙ differ leaf.result effect ne

    module _ (new : Stand) (table : new.table ≡ forgotten mid.table) (config : new.config ≡ mid.config) (shard : new.shard ≡ mid.shard)
        (chain : new.chain.kept ≡ kept_of (rules.log_behind_leaf leaf (keys_in mid.table.rows) (seen mid.table) log)) (leaves : HasLeaves new.chain.hashed (seen mid.table)) where
      -- what is told is told of what is stored then
      same_log : rules.log_behind_leaf leaf (keys_in mid.table.rows) (seen mid.table) log ≡ log_with leaf log new
      same_log = λ i. rules.log_behind_leaf leaf (keys_in (sym table i).rows) (seen (sym table i)) log

      stand : stand_of (log_with leaf log new) new ≡ rules.after_leaf setup s.shard (stand_of log s) leaf
      stand =
          (λ i. record { table = seen (table i); keys = keys_in (table i).rows; log = sym same_log i })
          ∙ (λ i. record { table = ran.table_is i; keys = ran.keys_are i; log = rules.log_behind_leaf leaf (ran.keys_are i) (ran.table_is i) log })

      pub follows : StandFollows setup log leaf s new
      follows = record {
        stand_is = stand;
        kept_is = chain ∙ ap kept_of same_log;
        config_stays = config ∙ ran.config_stays;
        shard_stays = shard ∙ ran.shard_stays;
        placed = record {
          shards = ap (λ t. t.shards) table ∙ ran.placed.shards ∙ ap (λ c. c.shards) (sym config);
          shard = ap (λ t. t.shard) table ∙ ran.placed.shard ∙ sym shard;
          leaves = leaves_but new.table.touched new.chain.hashed (seen new.table)
              (subst (λ (t : Stored). HasLeaves new.chain.hashed (seen t)) (sym table) leaves);
        };
      }

      -- the checkpoint that the slot made
      pub head_is : (made : Option Checkpoint) → made ≡ made_last (rules.log_behind_leaf leaf (keys_in mid.table.rows) (seen mid.table) log) → head ≡ is_head heads made
      head_is made is =
          ap (λ (told : Log). is_head heads (made_last told)) (sym (ap (λ (x : rules.Stand). x.log) stand) ∙ sym same_log)
          ∙ ap (is_head heads) (sym is)
