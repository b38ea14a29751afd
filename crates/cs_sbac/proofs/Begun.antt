-- A shard before its first slot: its table and the keys that it knows are those of the setup.
use Rattle.std.proofs.Common.{◌≡◌, ℕ, ◌+◌, List, [], ◌∷◌, map, refl, ap, subst, ◌∙◌}
use Rattle.cs_base.specs.declared.config.Config.{Config}
use Rattle.cs_base.specs.declared.key.Key.{Key}
use Rattle.cs_tx_value.specs.declared.object.Object.{Object}
use Rattle.cs_tx_value.specs.Object.{object_encoding}
use Rattle.cs_tx.specs.Digest.{name_of_genesis}
use Rattle.cs_tx.specs.Sessions.{item_of}
use Rattle.cs_ledger.specs.Ledger.{Item}
use Rattle.cs_ledger.specs.Session.{Rules}
use Rattle.cs_ledger.specs.Table.{Table, start}
use Rattle.cs_table.specs.Genesis.{keyed_of, genesis_rules}
use Rattle.cs_table.specs.Seen.{Stored, seen}
use Rattle.cs_check.specs.Root.{keys_in}
use Rattle.cs_check_rules.specs.Keys.{AreKnown, start_keys}
use Rattle.cs_check_rules.proofs.Same.{one_list}
use Rattle.cs_check_rules.proofs.Known.{start_known}
use Rattle.cs_node_state.specs.Deployed.{genesis_from, rules_of}
use Rattle.cs_sbac.specs.Genesis.{keyed_from}

pub items-same : (number : ℕ) (objects : List Object) → map item_of (keyed_of (keyed_from number objects)) ≡ genesis_from number objects
items-same number [] = refl
items-same number (object ∷ objects) = ap (λ items. record { name = name_of_genesis number object; object = object_encoding object } ∷ items) (items-same (number + 1) objects)

-- the table knows the genesis by the keys
rules-same : (config : Config) (objects : List Object) → genesis_rules config (keyed_from 0 objects) ≡ rules_of config objects
rules-same config objects =
    let with_items : List Item → Rules = λ items. record { shard_of = (rules_of config objects).shard_of; genesis = items; dummies = config.dummies; dummy_object = (rules_of config objects).dummy_object } in
    ap with_items (items-same 0 objects)

pub record IsBegun (config : Config) (objects : List Object) (shard : ℕ) (table : Stored) : Type 0 where
  pub shows : seen table ≡ start (rules_of config objects) shard
  pub keys : keys_in table.rows ≡ start_keys (rules_of config objects) shard

pub begun : (config : Config) (objects : List Object) (items : List (Key × Object)) (shard : ℕ) (table : Stored) → items ≡ keyed_from 0 objects
    → seen table ≡ start (genesis_rules config items) shard → AreKnown (keys_in table.rows) (seen table) → IsBegun config objects shard table
begun config objects items shard table is shows known =
    let r : Rules = rules_of config objects in
    let shown : seen table ≡ start r shard =
    shows ∙ ap (λ given. start (genesis_rules config given) shard) is ∙ ap (λ (x : Rules). start x shard) (rules-same config objects) in
    record {
      shows = shown;
      keys = one_list (start r shard) (keys_in table.rows) (start_keys r shard)
          (subst (λ (t : Table). AreKnown (keys_in table.rows) t) shown known) (start_known r shard);
    }
