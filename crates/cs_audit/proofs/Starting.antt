-- A shard before its first slot stands for the start of the setup.
use Rattle.std.proofs.Common.{◌≡◌, ℕ, ◌+◌, Bool, List, [], ◌∷◌, refl, ap}
use Rattle.cs_base.specs.declared.config.Config.{Config}
use Rattle.cs_base.specs.declared.key.Key.{Key}
use Rattle.cs_tx_value.specs.declared.object.Object.{Object}
use Rattle.cs_tx_types.specs.declared.transaction.Tx.{Tx}
use Rattle.cs_tx.specs.Digest.{name_of_genesis}
use Rattle.cs_ledger.specs.Table.{start}
use Rattle.cs_check_rules.specs.Chain.{empty_log}
use Rattle.cs_table.specs.Genesis.{genesis_rules}
use Rattle.cs_table.specs.Seen.{seen}
use Rattle.cs_check.specs.Root.{keys_in}
use Rattle.cs_check_rules.specs.Keys.{AreKnown}
use Rattle.cs_node_pool.specs.Deployed.{deployed_setup}
use Rattle.cs_tx.specs.GenesisNames.{genesis_names}
use Rattle.cs_audit_rules.specs.Stands as rules
use Rattle.cs_audit.specs.declared.stand.Stand.{Stand}
use Rattle.cs_audit.specs.Standing.{stand_of}
use Rattle.cs_sbac.specs.Genesis.{keyed_from, names_in}
use Rattle.cs_sbac.proofs.Begun.{begun}

pub names-same : (number : ℕ) (objects : List Object) → genesis_names number objects ≡ names_in (keyed_from number objects)
names-same number [] = refl
names-same number (object ∷ objects) = ap (λ names. name_of_genesis number object ∷ names) (names-same (number + 1) objects)

pub started : (config : Config) (objects : List Object) (approves : Tx → Bool) (items : List (Key × Object)) (s : Stand) (shard : ℕ) → items ≡ keyed_from 0 objects
    → seen s.table ≡ start (genesis_rules config items) shard → AreKnown (keys_in s.table.rows) (seen s.table)
    → stand_of (empty_log shard) s ≡ rules.start_stand (deployed_setup config objects approves) shard
started config objects approves items s shard is shows known =
    let begins = begun config objects items shard s.table is shows known in
    λ i. record { table = begins.shows i; keys = begins.keys i; log = empty_log shard }
