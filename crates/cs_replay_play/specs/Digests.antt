-- Lines by what the code has at hand: the history by its digests, a datagram by its parts.
use Rattle.std.specs.Prelude.{ℕ, List, ◌++◌, length, codes, map}
use Rattle.std.specs.List.{flat_map}
use Rattle.std.specs.Fmt.{decimal}
use Rattle.cs_base.specs.declared.node_id.NodeId.{NodeId}
use Rattle.cs_base.specs.NodeId.{node_text}
use Rattle.cs_ledger.specs.Ledger.{Bytes, Transaction}
use Rattle.cs_tx.specs.Lines.{tx_line}

abbrev pub digests_of : List Transaction → List Bytes
digests_of txs = map (λ tx. tx.digest) txs

abbrev pub history_lines : List Bytes → Bytes
history_lines digests = codes "history " ++ (decimal (length digests) ++ (codes "\n" ++ flat_map tx_line digests))

-- number, sender, receiver, kind, and the datagram in hex
abbrev pub sent_text : ℕ → NodeId → NodeId → ℕ → Bytes → Bytes
sent_text number from to kind hex =
    codes "sent " ++ (decimal number ++ (codes " " ++ (node_text from ++ (codes " " ++ (node_text to ++ (codes " "
    ++ (decimal kind ++ (codes " " ++ (hex ++ codes "\n")))))))))
