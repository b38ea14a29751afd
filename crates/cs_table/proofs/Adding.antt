-- Loops that append the pieces of one trace after another.
use Rattle.std.proofs.Common.{◌≡◌, ℕ, ◌+◌, ◌<◌, suc, ◌==◌, Bool, true, false, if◌then◌else◌, List, [], ◌∷◌, ◌++◌, append_assoc, length, get_or, drop, drop-cons, add-one, refl, sym, ap, ◌∙◌, subst}
use Rattle.std.specs.List.{flat_map}
use Rattle.cs_base.specs.declared.key.Key.TheVariants as key
use Rattle.cs_base.specs.Key.{shard_of_key}
use Rattle.cs_tx_types.specs.declared.trace.Trace.{Trace}
use Rattle.cs_tx_types.specs.Transaction.{Keyed}
use Rattle.cs_tx.specs.Digest.{outputs_at, outputs_from}
use Rattle.cs_table.specs.declared.piece.Piece.{Piece}
use Rattle.cs_table.specs.Pieces.{pieces_in}

next : {X : Type 0} (xs : List X) (i : ℕ) (x : X) → i < length xs → x ≡ get_or xs i x → drop i xs ≡ x ∷ drop (i + 1) xs
next xs i x lt is = rw add-one (drop-cons xs i x lt ∙ ap (λ y. y ∷ drop (suc i) xs) (sym is))

module _ (shards shard : ℕ) where
  if_append : (b : Bool) (p : Piece) (ps qs : List Piece) → (if b then p ∷ (ps ++ qs) else ps ++ qs) ≡ (if b then p ∷ ps else ps) ++ qs
  if_append true p ps qs = refl
  if_append false p ps qs = refl

  pieces_in-append : (xs ys : List Keyed) → pieces_in shards shard (xs ++ ys) ≡ pieces_in shards shard xs ++ pieces_in shards shard ys
  pieces_in-append [] ys = refl
  pieces_in-append (x ∷ xs) ys =
      ap (λ ps. if shard_of_key shards (key.Object x.0) == shard then record { key = key.Object x.0; object = x.1 } ∷ ps else ps) (pieces_in-append xs ys)
      ∙ if_append (shard_of_key shards (key.Object x.0) == shard) _ (pieces_in shards shard xs) (pieces_in shards shard ys)

  -- one more list of items behind the pieces so far
  joined : (now : List Piece) (items rest : List Keyed) → (now ++ pieces_in shards shard items) ++ pieces_in shards shard rest ≡ now ++ pieces_in shards shard (items ++ rest)
  joined now items rest = rw append_assoc (ap (λ ps. now ++ ps) (sym (pieces_in-append items rest)))

  pub trace_more : (part : Trace → List Keyed) (traces : List Trace) (i : ℕ) (trace : Trace) (now later total : List Piece) → i < length traces → trace ≡ get_or traces i trace
      → now ++ pieces_in shards shard (flat_map part (drop i traces)) ≡ total → later ≡ now ++ pieces_in shards shard (part trace)
      → later ++ pieces_in shards shard (flat_map part (drop (i + 1) traces)) ≡ total
  trace_more part traces i trace now later total lt is so_far more =
      ap (λ ps. ps ++ pieces_in shards shard (flat_map part (drop (i + 1) traces))) more
      ∙ joined now (part trace) (flat_map part (drop (i + 1) traces))
      ∙ subst (λ rest. now ++ pieces_in shards shard (flat_map part rest) ≡ total) (next traces i trace lt is) so_far

  pub outputs_more : (digest : List ℕ) (traces : List Trace) (i : ℕ) (trace : Trace) (now later total : List Piece) → i < length traces → trace ≡ get_or traces i trace
      → now ++ pieces_in shards shard (flat_map (λ outputs. outputs) (outputs_from digest i (drop i traces))) ≡ total → later ≡ now ++ pieces_in shards shard (outputs_at digest i 0 trace.outputs)
      → later ++ pieces_in shards shard (flat_map (λ outputs. outputs) (outputs_from digest (i + 1) (drop (i + 1) traces))) ≡ total
  outputs_more digest traces i trace now later total lt is so_far more =
      let rest : List Keyed = flat_map (λ outputs. outputs) (outputs_from digest (i + 1) (drop (i + 1) traces)) in
      ap (λ ps. ps ++ pieces_in shards shard rest) more
      ∙ joined now (outputs_at digest i 0 trace.outputs) rest
      ∙ subst (λ left. now ++ pieces_in shards shard (flat_map (λ outputs. outputs) (outputs_from digest i left)) ≡ total) (next traces i trace lt is) so_far
