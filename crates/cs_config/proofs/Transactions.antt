-- Which transaction bytes encode, and that they encode none.
use Rattle.std.specs.Prelude.{◌≡◌, ◌≢◌, List, ℕ, Option, Some, None}
use Rattle.std.proofs.Common.{◌∙◌, ap, refl}
use Rattle.cs_base.specs.Fields.{IsBytes, whole_at}
use Rattle.cs_base.proofs.Forms.{whole-takes, whole-again}
use Rattle.cs_tx_types.specs.declared.transaction.Tx.{Tx}
use Rattle.cs_tx_types.specs.Transaction.{tx_encoding, TxFits}
use Rattle.cs_tx_types.specs.Reading.{tx_at}
use Rattle.cs_tx_types.specs.laws.Session.{tx_form}

pub tx_found : (bytes : List ℕ) (tx : Tx) → TxFits tx → bytes ≡ tx_encoding tx → whole_at tx_at bytes ≡ Some tx
tx_found bytes tx fits is = ap (λ text. whole_at tx_at text) is ∙ whole-again tx_encoding TxFits tx_at tx_form tx fits

pub tx_missing : (bytes : List ℕ) → IsBytes bytes → ((tx : Tx) → TxFits tx → bytes ≢ tx_encoding tx) → whole_at tx_at bytes ≡ None
tx_missing bytes fits none = by (whole_at tx_at bytes) refl
  where
    by : (found : Option Tx) → whole_at tx_at bytes ≡ found → whole_at tx_at bytes ≡ None
    by None is = is
    by (Some tx) is = let (tx_fits, same) = whole-takes tx_encoding TxFits tx_at tx_form bytes tx fits is in absurd (none tx tx_fits same)
