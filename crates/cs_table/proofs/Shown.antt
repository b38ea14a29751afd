-- What the ledger sees of a session's keys in a shard.
use Rattle.std.proofs.Common.{◌≡◌, ℕ, ◌==◌, Bool, true, false, if◌then◌else◌, List, [], ◌∷◌, ◌++◌, map, refl, ap, sym, ◌∙◌}
use Rattle.cs_base.specs.declared.key.Key.TheVariants as key
use Rattle.cs_base.specs.Key.{shard_of_key}
use Rattle.cs_tx_types.specs.declared.transaction.Tx.{Tx}
use Rattle.cs_tx_types.specs.declared.session.Session.{Session}
use Rattle.cs_tx_types.specs.Transaction.{Keyed}
use Rattle.cs_tx.specs.Uses.{inputs_of, references_of, outputs_of}
use Rattle.cs_tx.proofs.OutputsNamed.{map-append, named-from}
use Rattle.cs_ledger.specs.Session as ledger
use Rattle.cs_table.specs.declared.piece.Piece.{Piece}
use Rattle.cs_table.specs.Seen.{seen_piece}
use Rattle.cs_table.specs.Pieces.{rules_in, pieces_in, dummy_pieces, used_in, read_in, made_in}
use Rattle.cs_tx.specs.Sessions.{item_of, dummy_name, ledger_session}

-- ---- the keys in the shard

module _ (shards shard : ℕ) where
  if_seen : (b : Bool) (p : Piece) (ps : List Piece) → map seen_piece (if b then p ∷ ps else ps) ≡ (if b then seen_piece p ∷ map seen_piece ps else map seen_piece ps)
  if_seen true p ps = refl
  if_seen false p ps = refl

  pub items_seen : (items : List Keyed) → map seen_piece (pieces_in shards shard items) ≡ ledger.objects_in (rules_in shards) shard (map item_of items)
  items_seen [] = refl
  items_seen (item ∷ items) =
      if_seen (shard_of_key shards (key.Object item.0) == shard) _ (pieces_in shards shard items)
      ∙ ap (λ ps. if shard_of_key shards (key.Object item.0) == shard then seen_piece (record { key = key.Object item.0; object = item.1 }) ∷ ps else ps) (items_seen items)

  pub dummies_seen : (dummies : List (ℕ × ℕ)) → map seen_piece (dummy_pieces shard dummies) ≡ ledger.dummies_in (rules_in shards) shard (map dummy_name dummies)
  dummies_seen [] = refl
  dummies_seen (dummy ∷ dummies) =
      if_seen (dummy.0 == shard) _ (dummy_pieces shard dummies)
      ∙ ap (λ ps. if dummy.0 == shard then record { key = ledger.Dummy dummy.0 dummy.1; object = (rules_in shards).dummy_object } ∷ ps else ps) (dummies_seen dummies)

  module _ (approves : Tx → Bool) (x : Session) where
    pub used_seen : map seen_piece (used_in shards shard x) ≡ ledger.used_up (rules_in shards) (ledger_session approves x) shard
    used_seen =
        map-append seen_piece (pieces_in shards shard (inputs_of x.tx)) (dummy_pieces shard x.dummies)
        ∙ ap (λ ps. ps ++ map seen_piece (dummy_pieces shard x.dummies)) (items_seen (inputs_of x.tx))
        ∙ ap (λ ps. ledger.objects_in (rules_in shards) shard (map item_of (inputs_of x.tx)) ++ ps) (dummies_seen x.dummies)

    pub read_seen : map seen_piece (read_in shards shard x) ≡ ledger.read_only (rules_in shards) (ledger_session approves x) shard
    read_seen = items_seen (references_of x.tx)

    pub made_seen : map seen_piece (made_in shards shard x) ≡ ledger.objects_in (rules_in shards) shard (ledger_session approves x).transaction.outputs
    made_seen = items_seen (outputs_of x.tx) ∙ ap (ledger.objects_in (rules_in shards) shard) (sym (named-from approves x.tx 0 x.tx.traces))
