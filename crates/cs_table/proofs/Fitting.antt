-- The objects of a session that fits are within all limits.
use Rattle.std.proofs.Common.{◌≡◌, ℕ, zero, suc, ◌+◌, ◌==◌, ◌<◌, nat_lt, ◌&&◌, get_or, Bool, true, false, if◌then◌else◌, List, [], ◌∷◌, ◌++◌, refl, arith}
use Rattle.std.specs.List.{All, list_all, AllByRecursion, flat_map}
use Rattle.std.proofs.lemmas.List.Elements.{All-nil, All-cons, All-append, All-same}
use Rattle.cs_base.specs.declared.key.Key.TheVariants as key
use Rattle.cs_base.specs.Key.{shard_of_key}
use Rattle.cs_tx_value.specs.declared.object.Object.{Object}
use Rattle.cs_tx_value.specs.Object.{ObjectFits}
use Rattle.cs_tx_types.specs.declared.trace.Trace.{Trace}
use Rattle.cs_tx_types.specs.declared.session.Session.{Session}
use Rattle.cs_tx_types.specs.Transaction.{Keyed, KeyedFits, TraceFits}
use Rattle.cs_tx_types.specs.Session.{SessionFits}
use Rattle.cs_tx.specs.Digest.{digest_of_tx, outputs_at, outputs_from}
use Rattle.cs_table.specs.declared.piece.Piece.{Piece}
use Rattle.cs_table.specs.Pieces.{pieces_in, dummy_pieces, used_in, read_in, made_in}
use Rattle.cs_tx.specs.Dummies.{dummy_object}

abbrev pub PieceFits : Piece → Type 0
PieceFits piece = ObjectFits piece.object

abbrev pub ItemFits : Keyed → Type 0
ItemFits item = ObjectFits item.1

both : (b c : Bool) → b && c ≡ true → (b ≡ true) × (c ≡ true)
both true c h = (refl, h)
both false c h = absurd (let no_way = h in cc)

below : (x n : ℕ) → nat_lt x n ≡ true → x < n
below x n h = grind arith

bytes_of : (xs : List ℕ) → list_all (λ x. nat_lt x 256) xs ≡ true → (i : ℕ) → get_or xs i 0 < 256
bytes_of [] h i = omega arith
bytes_of (x ∷ xs) h zero = below x 256 (both (nat_lt x 256) _ h).0
bytes_of (x ∷ xs) h (suc i) = bytes_of xs (both (nat_lt x 256) _ h).1 i

pub dummy_fits : ObjectFits dummy_object
dummy_fits = record {
  contract = (refl, bytes_of dummy_object.contract refl);
  type_name = ((omega arith, bytes_of dummy_object.type_name refl), refl);
  values = (omega arith, tt);
  small = omega arith;
}

module _ (shards shard : ℕ) where
  one_fits : (b : Bool) (p : Piece) (ps : List Piece) → PieceFits p → All PieceFits ps → All PieceFits (if b then p ∷ ps else ps)
  one_fits true p ps fits rest = All-cons PieceFits p ps fits rest
  one_fits false p ps fits rest = rest

  pub items_fit : (items : List Keyed) → AllByRecursion ItemFits items → All PieceFits (pieces_in shards shard items)
  items_fit [] fits = All-nil PieceFits
  items_fit (item ∷ items) fits = one_fits (shard_of_key shards (key.Object item.0) == shard) _ _ fits.0 (items_fit items fits.1)

  dummies_fit : (dummies : List (ℕ × ℕ)) → All PieceFits (dummy_pieces shard dummies)
  dummies_fit [] = All-nil PieceFits
  dummies_fit (dummy ∷ dummies) = one_fits (dummy.0 == shard) _ _ dummy_fits (dummies_fit dummies)

recursion-append : {X : Type 0} (P : X → Type 0) (xs ys : List X) → AllByRecursion P xs → AllByRecursion P ys → AllByRecursion P (xs ++ ys)
recursion-append P [] ys fits rest = rest
recursion-append P (x ∷ xs) ys fits rest = (fits.0, recursion-append P xs ys fits.1 rest)

keyed_fit : (items : List Keyed) → AllByRecursion KeyedFits items → AllByRecursion ItemFits items
keyed_fit [] fits = tt
keyed_fit (item ∷ items) fits = (fits.0.1, keyed_fit items fits.1)

inputs_fit : (traces : List Trace) → AllByRecursion TraceFits traces → AllByRecursion ItemFits (flat_map (λ trace. trace.inputs) traces)
inputs_fit [] fits = tt
inputs_fit (trace ∷ traces) fits = recursion-append ItemFits trace.inputs _ (keyed_fit trace.inputs fits.0.inputs.1) (inputs_fit traces fits.1)

references_fit : (traces : List Trace) → AllByRecursion TraceFits traces → AllByRecursion ItemFits (flat_map (λ trace. trace.references) traces)
references_fit [] fits = tt
references_fit (trace ∷ traces) fits = recursion-append ItemFits trace.references _ (keyed_fit trace.references fits.0.references.1) (references_fit traces fits.1)

outputs_fit_at : (digest : List ℕ) (trace place : ℕ) (outputs : List Object) → AllByRecursion ObjectFits outputs → AllByRecursion ItemFits (outputs_at digest trace place outputs)
outputs_fit_at digest trace place [] fits = tt
outputs_fit_at digest trace place (object ∷ objects) fits = (fits.0, outputs_fit_at digest trace (place + 1) objects fits.1)

outputs_fit : (digest : List ℕ) (number : ℕ) (traces : List Trace) → AllByRecursion TraceFits traces → AllByRecursion ItemFits (flat_map (λ outputs. outputs) (outputs_from digest number traces))
outputs_fit digest number [] fits = tt
outputs_fit digest number (trace ∷ traces) fits = recursion-append ItemFits (outputs_at digest number 0 trace.outputs) _ (outputs_fit_at digest number 0 trace.outputs fits.0.outputs.1) (outputs_fit digest (number + 1) traces fits.1)

pub used_fit : (shards shard : ℕ) (x : Session) → SessionFits x → All PieceFits (used_in shards shard x)
used_fit shards shard x fits = All-append PieceFits _ _ (items_fit shards shard _ (inputs_fit x.tx.traces fits.tx.traces.1)) (dummies_fit shards shard x.dummies)

pub read_fit : (shards shard : ℕ) (x : Session) → SessionFits x → All PieceFits (read_in shards shard x)
read_fit shards shard x fits = items_fit shards shard _ (references_fit x.tx.traces fits.tx.traces.1)

pub made_fit : (shards shard : ℕ) (x : Session) → SessionFits x → All PieceFits (made_in shards shard x)
made_fit shards shard x fits = items_fit shards shard _ (outputs_fit (digest_of_tx x.tx) 0 x.tx.traces fits.tx.traces.1)

pub same_fit : (ps qs : List Piece) → ps ≡ qs → All PieceFits qs → All PieceFits ps
same_fit ps qs is fits = All-same PieceFits ps qs is fits
