-- The outputs of a transaction have the names that its digest gives them.
use Rattle.std.proofs.Common.{◌≡◌, ℕ, ◌+◌, Bool, List, [], ◌∷◌, ◌++◌, map, refl, ap, sym, ◌∙◌}
use Rattle.std.specs.List.{flat_map}
use Rattle.sha2.specs.Sha256.{sha256}
use Rattle.cs_tx_value.specs.declared.object.Object.{Object}
use Rattle.cs_tx_types.specs.declared.trace.Trace.{Trace}
use Rattle.cs_tx_types.specs.declared.transaction.Tx.{Tx}
use Rattle.cs_tx_types.specs.Transaction.{Keyed}
use Rattle.cs_tx.specs.Digest.{digest_of_tx, name_of_output, outputs_at, outputs_from}
use Rattle.cs_ledger.specs.Ledger.{Item}
use Rattle.cs_ledger.specs.Strings as Strings
use Rattle.cs_tx.specs.Sessions.{item_of, outputs_written_at, outputs_written, written_tx}

pub map-append : {A B : Type 0} (f : A → B) (xs ys : List A) → map f (xs ++ ys) ≡ map f xs ++ map f ys
map-append f [] ys = refl
map-append f (x ∷ xs) ys = ap (λ zs. f x ∷ zs) (map-append f xs ys)

abbrev pub named : (Tx → Bool) → Tx → List Strings.Output → List Item
named approves tx outputs = Strings.written_outputs sha256 (written_tx approves tx) outputs

named-append : (approves : Tx → Bool) (tx : Tx) (xs ys : List Strings.Output) → named approves tx (xs ++ ys) ≡ named approves tx xs ++ named approves tx ys
named-append approves tx [] ys = refl
named-append approves tx (x ∷ xs) ys =
    ap (λ zs. record { name = sha256 (Strings.output_string sha256 (written_tx approves tx) x); object = x.object } ∷ zs) (named-append approves tx xs ys)

named-at : (approves : Tx → Bool) (tx : Tx) (number place : ℕ) (objects : List Object)
    → named approves tx (outputs_written_at number place objects) ≡ map item_of (outputs_at (digest_of_tx tx) number place objects)
named-at approves tx number place [] = refl
named-at approves tx number place (object ∷ objects) =
    ap (λ zs. item_of (name_of_output (digest_of_tx tx) number place, object) ∷ zs) (named-at approves tx number (place + 1) objects)

pub named-from : (approves : Tx → Bool) (tx : Tx) (number : ℕ) (traces : List Trace)
    → named approves tx (outputs_written number traces) ≡ map item_of (flat_map (λ outputs. outputs) (outputs_from (digest_of_tx tx) number traces))
named-from approves tx number [] = refl
named-from approves tx number (trace ∷ traces) =
    let d : List ℕ = digest_of_tx tx in
    let rest : List Keyed = flat_map (λ outputs. outputs) (outputs_from d (number + 1) traces) in
    named-append approves tx (outputs_written_at number 0 trace.outputs) (outputs_written (number + 1) traces)
    ∙ ap (λ zs. zs ++ named approves tx (outputs_written (number + 1) traces)) (named-at approves tx number 0 trace.outputs)
    ∙ ap (λ zs. map item_of (outputs_at d number 0 trace.outputs) ++ zs) (named-from approves tx (number + 1) traces)
    ∙ sym (map-append item_of (outputs_at d number 0 trace.outputs) rest)
