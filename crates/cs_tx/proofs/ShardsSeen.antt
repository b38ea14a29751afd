-- The shards that a session concerns are those that the ledger's session concerns.
use Rattle.std.proofs.Common.{◌≡◌, ℕ, ◌+◌, Bool, ◌||◌, List, [], ◌∷◌, ◌++◌, map, refl, ap, sym, ◌∙◌, ◌==◌}
use Rattle.cs_base.specs.declared.config.Config.{Config}
use Rattle.cs_tx_types.specs.declared.transaction.Tx.{Tx}
use Rattle.cs_tx_types.specs.declared.session.Session.{Session}
use Rattle.cs_tx_types.specs.Transaction.{Keyed}
use Rattle.cs_tx.specs.Uses as Uses
use Rattle.cs_tx.specs.Uses.{inputs_of, references_of, outputs_of, names, used_names}
use Rattle.cs_ledger.specs.Session as Seen
use Rattle.cs_base.specs.Key.{shard_of_key}
use Rattle.cs_base.specs.declared.key.Key.TheVariants as key
use Rattle.cs_tx.specs.Sessions.{item_of, ledger_session}
use Rattle.cs_tx.proofs.OutputsNamed.{map-append, named-from}

-- ---- all objects of a transaction

abbrev pub everything : Tx → List Keyed
everything tx = inputs_of tx ++ (references_of tx ++ outputs_of tx)

pub all-items : (approves : Tx → Bool) (x : Session) → Seen.all_items (ledger_session approves x).transaction ≡ map item_of (everything x.tx)
all-items approves x =
    let ins : List Keyed = inputs_of x.tx in
    let refs : List Keyed = references_of x.tx in
    ap (λ zs. map item_of ins ++ (map item_of refs ++ zs)) (named-from approves x.tx 0 x.tx.traces)
    ∙ ap (λ zs. map item_of ins ++ zs) (sym (map-append item_of refs (outputs_of x.tx)))
    ∙ sym (map-append item_of ins (refs ++ outputs_of x.tx))

pub names-everything : (tx : Tx) → names (everything tx) ≡ used_names tx
names-everything tx =
    let name : Keyed → List ℕ = λ item. item.0 in
    map-append name (inputs_of tx) (references_of tx ++ outputs_of tx)
    ∙ ap (λ zs. names (inputs_of tx) ++ zs) (map-append name (references_of tx) (outputs_of tx))

-- ---- the shards of objects, where the ledger's rules place them as the configuration does

abbrev pub IsPlaced : Seen.Rules → Config → Type 0
IsPlaced rules config = (name : List ℕ) → rules.shard_of name ≡ shard_of_key config.shards (key.Object name)

module _ (rules : Seen.Rules) (config : Config) (placed : IsPlaced rules config) where
  pub among : (shard : ℕ) (items : List Keyed) → Seen.is_among rules shard (map item_of items) ≡ Uses.is_among config shard (names items)
  among shard [] = refl
  among shard (item ∷ items) =
      ap (λ s. (s == shard) || Seen.is_among rules shard (map item_of items)) (placed item.0)
      ∙ ap (λ b. Uses.is_in config shard item.0 || b) (among shard items)

  module _ (approves : Tx → Bool) (x : Session) where
    pub concerns-session_of : (shard : ℕ) → Seen.concerns rules (ledger_session approves x) shard ≡ Uses.concerns config x shard
    concerns-session_of shard =
        ap (Seen.is_among rules shard) (all-items approves x)
        ∙ among shard (everything x.tx)
        ∙ ap (Uses.is_among config shard) (names-everything x.tx)
