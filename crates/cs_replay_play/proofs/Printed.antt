-- The history is printed by its digests.
use Rattle.std.proofs.Common.{◌≡◌, suc, ◌++◌, List, [], ◌∷◌, length, refl, ap, ◌∙◌, append_assoc}
use Rattle.std.specs.Prelude.{codes}
use Rattle.std.specs.List.{flat_map}
use Rattle.std.specs.Fmt.{decimal}
use Rattle.cs_tx.specs.Lines.{tx_line}
use Rattle.cs_base.specs.Codes.{bytes_text}
use Rattle.cs_ledger.specs.Ledger.{Transaction}
use Rattle.cs_replay_rules.specs.Lines.{transaction_lines, history_text}
use Rattle.cs_node_rules.specs.Site.{Site}
use Rattle.cs_node_rules.specs.World.{Happening, told_transactions, firsts_of, recorded_history}
use Rattle.cs_replay_play.specs.Digests.{digests_of, history_lines}
use Rattle.cs_replay_play.specs.Kept.{KeptHistory, KeepsHistory}

transactions-printed : (txs : List Transaction) → flat_map tx_line (digests_of txs) ≡ transaction_lines txs
transactions-printed [] = refl
transactions-printed (tx ∷ txs) =
    append_assoc (codes "tx ") (bytes_text tx.digest ++ codes "\n") (flat_map tx_line (digests_of txs))
    ∙ ap (λ bytes. codes "tx " ++ bytes) (append_assoc (bytes_text tx.digest) (codes "\n") (flat_map tx_line (digests_of txs)) ∙ ap (λ more. bytes_text tx.digest ++ (codes "\n" ++ more)) (transactions-printed txs))

pub same-count : (txs : List Transaction) → length (digests_of txs) ≡ length txs
same-count [] = refl
same-count (tx ∷ txs) = ap (λ n. suc n) (same-count txs)

history-printed : (txs : List Transaction) → history_lines (digests_of txs) ≡ history_text txs
history-printed txs =
    ap (λ n. codes "history " ++ (decimal n ++ (codes "\n" ++ flat_map tx_line (digests_of txs)))) (same-count txs)
    ∙ ap (λ more. codes "history " ++ (decimal (length txs) ++ (codes "\n" ++ more))) (transactions-printed txs)

-- what is kept gives the lines of the history
pub history-kept : {M : Type 0} (site : Site M) (world : List (Happening M)) (kept : KeptHistory) → KeepsHistory site.setup (firsts_of world) kept → history_lines kept.told ≡ history_text (recorded_history site world)
history-kept site world kept k = ap history_lines k.told ∙ history-printed (told_transactions site.setup (firsts_of world))
