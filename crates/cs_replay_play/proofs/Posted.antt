-- What is sent, and its lines.
use Rattle.std.proofs.Common.{◌≡◌, ℕ, zero, suc, ◌+◌, ◌<◌, ◌≤◌, List, [], ◌∷◌, ◌++◌, length, take, get_or, ap, sym, ◌∙◌, append-nil, append_assoc, arith}
use Rattle.std.proofs.lemmas.List.{take_more, length-take}
use Rattle.cs_base.specs.declared.node_id.NodeId.{NodeId}
use Rattle.cs_wire.specs.declared.input.Out.{Out}
use Rattle.cs_node_rules.specs.Lines.{Parcel}
use Rattle.cs_replay_rules.specs.Lines.{sent_line, sent_lines}
use Rattle.cs_replay_rules.specs.Play.{size_of, most_sent}
use Rattle.cs_replay_play.specs.Ends.{parcels_from}

size-append : (xs ys : List Parcel) → size_of (xs ++ ys) ≡ size_of xs + size_of ys
size-append [] ys = omega arith
size-append (x ∷ xs) ys = omega (arith, size-append xs ys)

size-part : (from : NodeId) (k : ℕ) (outs : List Out) (out : Out) → k < length outs → out ≡ get_or outs k out → size_of (parcels_from from (take k outs)) + length out.bytes ≤ size_of (parcels_from from outs)
size-part from k [] out within is = absurd (omega arith)
size-part from zero (first ∷ outs) out within is = let same = ap (λ o. length o.bytes) is in omega (arith, same)
size-part from (suc k) (first ∷ outs) out within is = omega (arith, size-part from k outs out (omega arith) is)

-- all of them have more bytes than the first ones and the next
pub full-all : (from : NodeId) (old post : List Parcel) (outs : List Out) (k : ℕ) (out : Out) → post ≡ old ++ parcels_from from (take k outs) → k < length outs → out ≡ get_or outs k out → most_sent < size_of post + length out.bytes
    → most_sent < size_of (old ++ parcels_from from outs)
full-all from old post outs k out posted within is large =
    omega (arith, ap size_of posted, size-append old (parcels_from from (take k outs)), size-append old (parcels_from from outs), size-part from k outs out within is, large)

lines-push : (number : ℕ) (parcels : List Parcel) (parcel : Parcel) → sent_lines number (parcels ++ parcel ∷ []) ≡ sent_lines number parcels ++ sent_line (number + length parcels) parcel
lines-push number [] parcel =
    let same : number ≡ number + 0 = omega arith in
    append-nil (sent_line number parcel) ∙ ap (λ n. sent_line n parcel) same
lines-push number (first ∷ parcels) parcel =
    let same : suc number + length parcels ≡ number + suc (length parcels) = omega arith in
    ap (λ lines. sent_line number first ++ lines) (lines-push (suc number) parcels parcel ∙ ap (λ n. sent_lines (suc number) parcels ++ sent_line n parcel) same)
    ∙ sym (append_assoc (sent_line number first) (sent_lines (suc number) parcels) (sent_line (number + suc (length parcels)) parcel))

-- one line more
pub lines-more : (number : ℕ) (parcels : List Parcel) (k : ℕ) (parcel : Parcel) → k < length parcels → parcel ≡ get_or parcels k parcel → sent_lines number (take (k + 1) parcels) ≡ sent_lines number (take k parcels) ++ sent_line (number + k) parcel
lines-more number parcels k parcel within is =
    let count : length (take k parcels) ≡ k = omega (arith, length-take k parcels) in
    ap (sent_lines number) (take_more parcels k parcel within ∙ ap (λ p. take k parcels ++ p ∷ []) (sym is))
    ∙ lines-push number (take k parcels) parcel
    ∙ ap (λ n. sent_lines number (take k parcels) ++ sent_line (number + n) parcel) count
