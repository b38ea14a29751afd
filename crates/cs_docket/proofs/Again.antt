-- The verdict on a transaction is that on the one of its encoding.
use Rattle.std.proofs.Common.{◌≡◌, Bool, List, ℕ, sym, ap, ◌∙◌}
use Rattle.cs_tx_types.specs.declared.transaction.Tx.{Tx}
use Rattle.cs_tx_types.specs.Transaction.{TxFits, tx_encoding}
use Rattle.cs_tx.proofs.Faithful.{tx-apart}
use Rattle.cs_docket.specs.Judging.{IsJudged}

pub judged_again : (approves : Tx → Bool) (verdict : Bool) (encoding : List ℕ) (tx : Tx) → IsJudged approves verdict encoding → TxFits tx
    → encoding ≡ tx_encoding tx → verdict ≡ approves tx
judged_again approves verdict encoding tx kept fits is =
    sym (ap approves (tx-apart tx kept.tx fits kept.fits (sym is ∙ kept.is)) ∙ kept.said)
