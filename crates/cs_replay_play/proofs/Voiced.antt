-- The keys of those whose words are said.
use Rattle.std.proofs.Common.{◌≡◌, ℕ, zero, suc, ◌<◌, List, [], ◌∷◌, ◌++◌, length, get_or, sym, subst, arith}
use Rattle.cs_base.specs.declared.config.Config.{Config}
use Rattle.cs_base.specs.declared.node_id.NodeId.{NodeId}
use Rattle.cs_wire.specs.declared.keys.Keys.{Keys}
use Rattle.cs_wire.specs.Keys.{IsOfMaster}
use Rattle.cs_replay_play.specs.Voicing.{AreOfMaster, HoldsAt}

module _ (config : Config) (master : List ℕ) where
  at : (keys : List Keys) (k : ℕ) (d : Keys) → AreOfMaster config master keys → k < length keys → IsOfMaster config master (get_or keys k d).me (get_or keys k d)
  at [] k d all within = absurd (omega arith)
  at (first ∷ keys) zero d all within = all.0
  at (first ∷ keys) (suc k) d all within = at keys k d all.1 (omega arith)

  pub holds-at : (name : NodeId) (keys : List Keys) (k : ℕ) → AreOfMaster config master keys → k < length keys → ((d : Keys) → (get_or keys k d).me ≡ name) → HoldsAt config master name keys k
  holds-at name keys k all within named = record {
    within = within;
    of_master = λ d. subst (λ (holder : NodeId). IsOfMaster config master holder (get_or keys k d)) (named d) (at keys k d all within);
  }

  pub all-push : (keys : List Keys) (name : NodeId) (k : Keys) → AreOfMaster config master keys → IsOfMaster config master name k → AreOfMaster config master (keys ++ k ∷ [])
  all-push [] name k all of = (subst (λ (holder : NodeId). IsOfMaster config master holder k) (sym of.me) of, tt)
  all-push (first ∷ keys) name k all of = (all.0, all-push keys name k all.1 of)
