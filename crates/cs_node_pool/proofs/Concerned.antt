-- The shards that a session concerns, as the calls on it and as the setup have them.
use Rattle.std.proofs.Common.{◌≡◌, ℕ, zero, suc, Bool, List, [], ◌∷◌, ◌++◌, refl, ap, ◌∙◌}
use Rattle.std.specs.Prelude.{if◌then◌else◌}
use Rattle.cs_base.specs.declared.config.Config.{Config}
use Rattle.cs_tx_value.specs.declared.object.Object.{Object}
use Rattle.cs_tx_types.specs.declared.transaction.Tx.{Tx}
use Rattle.cs_tx_types.specs.declared.session.Session.{Session}
use Rattle.cs_tx.specs.Uses as Uses
use Rattle.cs_tx.proofs.ShardsSeen.{concerns-session_of}
use Rattle.cs_node_state.specs.Setup as Setup
use Rattle.cs_node_state.specs.Deployed.{rules_of}
use Rattle.cs_node_pool.specs.Deployed.{deployed_setup}

module _ (config : Config) (genesis : List Object) (approves : Tx → Bool) (x : Session) where
  abbrev setup : Setup.Setup
  setup = deployed_setup config genesis approves

  pub concerns-session : (shard : ℕ) → Setup.is_concerned_shard setup x shard ≡ Uses.concerns config x shard
  concerns-session = concerns-session_of (rules_of config genesis) config (λ name. refl) approves x

  below : (n : ℕ) → Setup.concerned_below setup x n ≡ Uses.concerned_below config x n
  below zero = refl
  below (suc n) =
      ap (λ zs. zs ++ (if Setup.is_concerned_shard setup x n then n ∷ [] else [])) (below n)
      ∙ ap (λ b. Uses.concerned_below config x n ++ (if b then n ∷ [] else [])) (concerns-session n)

  pub concerned-session : Setup.concerned setup x ≡ Uses.concerned_shards config x
  concerned-session = below config.shards
