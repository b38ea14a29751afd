-- What every dump meets that is read.
use Rattle.std.specs.Prelude.{◌≡◌, ◌≢◌, ◌≤◌, ◌/◌, length}
use Rattle.std.specs.List.{All, AllPairs}
use Rattle.cs_base.specs.declared.limits.TheConstants.{MOST_GENESIS}
use Rattle.cs_tx_value.specs.Object.{ObjectFits}
use Rattle.cs_tx_types.specs.declared.limits.TheConstants.{COVERED}
use Rattle.cs_base.specs.declared.version.Version.TheVariants.{One}
use Rattle.cs_tx_types.specs.Log.{LeafFits}
use Rattle.cs_sched.specs.declared.limits.TheConstants.{MOST_CONTRACTS}
use Rattle.cs_tx.specs.GenesisNames.{genesis_names}
use Rattle.cs_sched.specs.Playable.{IsContractText}
use Rattle.cs_audit_dump.specs.declared.dump.Dump.{Dump}
use Rattle.cs_audit_dump.specs.declared.dump.Log.{Log}

-- the leaves have encodings, and there is a head for every 16
pub record IsFormedLog (log : Log) : Type 0 where
  pub leaves : All (LeafFits One) log.leaves
  pub heads : length log.heads ≡ length log.leaves / COVERED

-- The version is 1. The contracts are accepted. The objects have encodings, and no two of them one key. Each shard has a log.
pub record IsFormed (dump : Dump) : Type 0 where
  pub version : dump.config.version ≡ 1
  pub contracts : All IsContractText dump.contracts
  pub few_contracts : length dump.contracts ≤ MOST_CONTRACTS
  pub objects : All ObjectFits dump.genesis
  pub few_objects : length dump.genesis ≤ MOST_GENESIS
  pub keys_differ : AllPairs (λ a b. a ≢ b) (genesis_names 0 dump.genesis)
  pub shards : length dump.logs ≡ dump.config.shards
  pub logs : All IsFormedLog dump.logs
