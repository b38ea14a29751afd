-- What is kept of transactions on which a judge gave his verdict.
use Rattle.std.specs.Prelude.{◌≡◌, ◌≤◌, ℕ, Bool, true, false, List, length}
use Rattle.std.specs.List.{All}
use Rattle.cs_tx_types.specs.declared.transaction.Tx.{Tx}
use Rattle.cs_tx_types.specs.Transaction.{TxFits, tx_encoding}
use Rattle.cs_docket.specs.declared.judged.Judged.{Judged}
use Rattle.cs_docket.specs.declared.limits.TheConstants.{MOST_DENIED, MOST_APPROVED}

-- the encoding of a transaction on which this is the verdict
pub record IsJudged (approves : Tx → Bool) (verdict : Bool) (encoding : List ℕ) : Type 0 where
  pub tx : Tx
  pub fits : TxFits tx
  pub is : encoding ≡ tx_encoding tx
  pub said : approves tx ≡ verdict

abbrev pub AllJudged : (Tx → Bool) → Bool → List Judged → Type 0
AllJudged approves verdict judged = All (λ j. IsJudged approves verdict j.encoding.items) judged

pub record IsDocket (approves : Tx → Bool) (denied approved : List Judged) : Type 0 where
  pub all_denied : AllJudged approves false denied
  pub all_approved : AllJudged approves true approved
  pub few_denied : length denied ≤ MOST_DENIED
  pub few_approved : length approved ≤ MOST_APPROVED
