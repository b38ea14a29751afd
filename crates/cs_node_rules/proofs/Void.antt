-- The entry that stands for bytes that are no entry has an encoding.
use Rattle.std.proofs.Common.{ℕ, zero, suc, [], ◌∷◌, replicate, refl, arith}
use Rattle.cs_base.specs.Fields.{IsBytes}
use Rattle.cs_tx_types.specs.Transaction.{TraceFits}
use Rattle.cs_tx_types.specs.Session.{SessionFits}
use Rattle.cs_wire_message.proofs.Bytes.{bytes-nil, bytes-cons}
use Rattle.cs_node_rules.specs.Deployment.{bare_trace, no_session}

zeros : (n : ℕ) → IsBytes (replicate n 0)
zeros zero = bytes-nil
zeros (suc n) = bytes-cons 0 (replicate n 0) (omega arith) (zeros n)

name_bytes : IsBytes (118 ∷ 111 ∷ 105 ∷ 100 ∷ [])
name_bytes =
    bytes-cons 118 (111 ∷ 105 ∷ 100 ∷ []) (omega arith)
    (bytes-cons 111 (105 ∷ 100 ∷ []) (omega arith)
    (bytes-cons 105 (100 ∷ []) (omega arith) (bytes-cons 100 [] (omega arith) bytes-nil)))

bare_fits : TraceFits bare_trace
bare_fits = record {
  contract = (refl, zeros 32);
  method = ((omega arith, name_bytes), refl);
  inputs = (omega arith, tt);
  references = (omega arith, tt);
  parameters = (omega arith, tt);
  outputs = (omega arith, tt);
  returns = (omega arith, tt);
  deps = (omega arith, tt);
}

pub nothing_fits : SessionFits no_session
nothing_fits = record {
  tx = record { some = omega arith; traces = (omega arith, (bare_fits, tt)); small = omega arith };
  number = omega arith;
  dummies = (omega arith, tt);
}
