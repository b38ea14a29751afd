-- The anchor of a session is that of the ledger's session.
use Rattle.std.proofs.Common.{◌≡◌, ℕ, Bool, true, false, ◌==◌, List, [], ◌∷◌, ◌++◌, map, Some, find, refl, ap, ◌∙◌}
use Rattle.std.specs.Prelude.{if◌then◌else◌}
use Rattle.std.specs.Option.{option_map}
use Rattle.cs_base.specs.declared.config.Config.{Config}
use Rattle.cs_base.specs.declared.key.Key.TheVariants as key
use Rattle.cs_tx_types.specs.declared.transaction.Tx.{Tx}
use Rattle.cs_tx_types.specs.declared.session.Session.{Session}
use Rattle.cs_tx_types.specs.Transaction.{Keyed}
use Rattle.cs_tx.specs.Uses.{inputs_of, names, is_in, dummy_in, anchor_among, anchor_of}
use Rattle.cs_tx.specs.Sessions.{item_of, dummy_name, key_seen, ledger_session}
use Rattle.cs_ledger.specs.Session as Seen
use Rattle.cs_tx.proofs.ShardsSeen.{IsPlaced}

module _ (rules : Seen.Rules) (config : Config) (placed : IsPlaced rules config) where
  dummies-first : (shard : ℕ) (dummies : List (ℕ × ℕ)) → Seen.first_key (Seen.dummies_in rules shard (map dummy_name dummies)) ≡ option_map key_seen (dummy_in shard dummies)
  dummies-first shard [] = refl
  dummies-first shard (dummy ∷ dummies) =
      elim (dummy.0 == shard) as (λ b.
      Seen.first_key (if b then record { key = Seen.Dummy dummy.0 dummy.1; object = rules.dummy_object } ∷ Seen.dummies_in rules shard (map dummy_name dummies) else Seen.dummies_in rules shard (map dummy_name dummies))
      ≡ option_map key_seen (if b then Some (key.Dummy dummy.0 dummy.1) else dummy_in shard dummies)) [
        | true ↦ refl
        | false ↦ dummies-first shard dummies
      ]

  inputs-first : (shard : ℕ) (items : List Keyed) (dummies : List (ℕ × ℕ))
      → Seen.first_key (Seen.objects_in rules shard (map item_of items) ++ Seen.dummies_in rules shard (map dummy_name dummies))
      ≡ option_map key_seen (anchor_among (find (is_in config shard) (names items)) (dummy_in shard dummies))
  inputs-first shard [] dummies = dummies-first shard dummies
  inputs-first shard (item ∷ items) dummies =
      ap (λ s. Seen.first_key ((if s == shard then record { key = Seen.Object item.0; object = (item_of item).object } ∷ Seen.objects_in rules shard (map item_of items) else Seen.objects_in rules shard (map item_of items)) ++ Seen.dummies_in rules shard (map dummy_name dummies))) (placed item.0)
      ∙ elim (is_in config shard item.0) as (λ b.
      Seen.first_key ((if b then record { key = Seen.Object item.0; object = (item_of item).object } ∷ Seen.objects_in rules shard (map item_of items) else Seen.objects_in rules shard (map item_of items)) ++ Seen.dummies_in rules shard (map dummy_name dummies))
      ≡ option_map key_seen (anchor_among (if b then Some item.0 else find (is_in config shard) (names items)) (dummy_in shard dummies))) [
        | true ↦ refl
        | false ↦ inputs-first shard items dummies
      ]

  pub anchor-session_of : (approves : Tx → Bool) (x : Session) (shard : ℕ) → Seen.anchor rules (ledger_session approves x) shard ≡ option_map key_seen (anchor_of config x shard)
  anchor-session_of approves x shard = inputs-first shard (inputs_of x.tx) x.dummies
