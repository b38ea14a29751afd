-- The lines that a replay prints of its events, and at its end.
use Rattle.std.specs.Prelude.{ℕ, suc, Bool, List, [], ◌∷◌, ◌++◌, length, Option, Some, None, codes, slice_get}
use Rattle.std.specs.Fmt.{decimal}
use Rattle.cs_base.specs.declared.node_id.NodeId.{NodeId}
use Rattle.cs_base.specs.NodeId.{node_text}
use Rattle.cs_base.specs.Codes.{bytes_text}
use Rattle.cs_ledger.specs.Ledger.{Bytes, Transaction}
use Rattle.cs_node_state.specs.Setup.{Setup}
use Rattle.cs_node_rules.specs.Signs.{Sign}
use Rattle.cs_node_rules.specs.Lines.{if_traced, sign_lines, Parcel}

-- the kind stands behind `CSP1`
abbrev pub kind_or_none : Option ℕ → ℕ
kind_or_none (Some kind) = kind
kind_or_none None = 0

abbrev pub datagram_kind : Bytes → ℕ
datagram_kind bytes = kind_or_none (slice_get bytes 4)

-- the datagram of this number, whole
abbrev pub sent_line : ℕ → Parcel → Bytes
sent_line number parcel =
    codes "sent " ++ (decimal number
    ++ (codes " " ++ (node_text parcel.from ++ (codes " " ++ (node_text parcel.to ++ (codes " "
    ++ (decimal (datagram_kind parcel.bytes) ++ (codes " " ++ (bytes_text parcel.bytes ++ codes "\n")))))))))

-- the first of which has this number
abbrev pub sent_lines : ℕ → List Parcel → Bytes
sent_lines number [] = []
sent_lines number (parcel ∷ parcels) = sent_line number parcel ++ sent_lines (suc number) parcels

-- ---- an event, and the end

-- the event of this number, by the line of this number
abbrev pub at_line : ℕ → ℕ → Bytes
at_line event line = codes "at " ++ (decimal event ++ (codes " " ++ (decimal line ++ codes "\n")))

-- the event at a node: that it came, what the node did, what it sent
abbrev pub event_lines : Setup → Bool → ℕ → ℕ → NodeId → List Sign → ℕ → List Parcel → Bytes
event_lines setup traced event line me signs number parcels =
    if_traced traced (at_line event line)
    ++ (sign_lines setup traced me signs ++ if_traced traced (sent_lines number parcels))

-- what this line injects is forged
abbrev pub forged_line : ℕ → Bytes
forged_line line = codes "forged " ++ (decimal line ++ codes "\n")

-- an event by this line would have passed a limit
abbrev pub limit_line : ℕ → Bytes
limit_line line = codes "limit " ++ (decimal line ++ codes "\n")

abbrev pub transaction_lines : List Transaction → Bytes
transaction_lines [] = []
transaction_lines (tx ∷ more) = codes "tx " ++ (bytes_text tx.digest ++ (codes "\n" ++ transaction_lines more))

-- the history after the last event
abbrev pub history_text : List Transaction → Bytes
history_text txs = codes "history " ++ (decimal (length txs) ++ (codes "\n" ++ transaction_lines txs))
