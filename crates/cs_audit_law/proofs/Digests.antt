-- Heads and the names of transactions are digests.
use Rattle.std.proofs.Common.{ℕ, zero, suc, Bool, true, false, List, [], ◌∷◌, ◌++◌, map}
use Rattle.std.specs.Prelude.{if◌then◌else◌, not, ◌&&◌}
use Rattle.std.specs.List.{AllByRecursion}
use Rattle.cs_tx_value.specs.Object.{DigestFits}
use Rattle.cs_tx_types.specs.declared.action.Action.{Action}
use Rattle.cs_tx_types.specs.declared.action.Action.TheVariants.{Prepare, Decide}
use Rattle.cs_tx_types.specs.declared.session.Session.{Session}
use Rattle.cs_check_rules.specs.Chain.{Log}
use Rattle.cs_ledger.specs.Ledger.{Bytes, Transaction}
use Rattle.cs_ledger.specs.ShardWorld.{is_listed}
use Rattle.cs_ledger.specs.Table.{Effect}
use Rattle.cs_node_state.specs.Setup.{Setup}
use Rattle.cs_replay_rules.specs.Dumps.{heads_below}
use Rattle.cs_node_rules.specs.World.{Execution, told_transactions, told_after, is_voted, all_recorded}
use Rattle.cs_audit_law.specs.Passing.{told_digests}
use Rattle.cs_audit_law.proofs.Bytes.{hashed}

one_more : (ds : List Bytes) (d : Bytes) → AllByRecursion DigestFits ds → DigestFits d → AllByRecursion DigestFits (ds ++ d ∷ [])
one_more [] d all is = (is, tt)
one_more (first ∷ ds) d all is = (all.0, one_more ds d all.1 is)

pub heads_fit : (log : Log) (n : ℕ) → AllByRecursion DigestFits (heads_below log n)
heads_fit log zero = tt
heads_fit log (suc n) = one_more (heads_below log n) _ (heads_fit log n) (hashed _)

abbrev tx_digests : List Transaction → List Bytes
tx_digests txs = map (λ (tx : Transaction). tx.digest) txs

tx_more : (txs : List Transaction) (tx : Transaction) → AllByRecursion DigestFits (tx_digests txs) → DigestFits tx.digest → AllByRecursion DigestFits (tx_digests (txs ++ tx ∷ []))
tx_more [] tx all is = (is, tt)
tx_more (first ∷ txs) tx all is = (all.0, tx_more txs tx all.1 is)

module _ (setup : Setup) (named : (x : Session) → DigestFits (setup.session_of x).transaction.digest) where
  after_fit : (firsts : List Execution) (entry : Action) (effect : Effect) (earlier : List Transaction)
      → AllByRecursion DigestFits (tx_digests earlier) → AllByRecursion DigestFits (tx_digests (told_after setup firsts entry effect earlier))
  after_fit firsts (Decide vote x) effect earlier all = all
  after_fit firsts (Prepare x) effect earlier all = by (is_voted effect && (all_recorded setup firsts x && not (is_listed (setup.session_of x).transaction earlier)))
    where
      by : (b : Bool) → AllByRecursion DigestFits (tx_digests (if b then earlier ++ (setup.session_of x).transaction ∷ [] else earlier))
      by true = tx_more earlier (setup.session_of x).transaction all (named x)
      by false = all

  pub told_fit : (firsts : List Execution) → AllByRecursion DigestFits (told_digests setup firsts)
  told_fit [] = tt
  told_fit (e ∷ earlier) = after_fit (e ∷ earlier) e.entry e.effect (told_transactions setup earlier) (told_fit earlier)
