use Rattle.std.proofs.Common.{◌≡◌, ℕ, ◌-◌, get_or, true, false, List, [], refl, sym, ap, ◌∙◌, arith}
use Rattle.std.specs.declared.cmp.Ordering.{Ordering}
use Rattle.std.specs.declared.cmp.Ordering.TheVariants.{Less, Equal, Greater}
use Rattle.std.specs.Ordering.{is_lt}
use Rattle.std.specs.Map.{keys_of}
use Rattle.std.proofs.lemmas.Bool.{false≢true}
use Rattle.std.proofs.lemmas.List.{length-map}
use Rattle.cs_merkle_kept.specs.Leaves.{leaf_entry, leaf_entries, byte_order}
use Rattle.cs_merkle_kept.proofs.Keys.{rising_more}
use Rattle.cs_merkle_kept.proofs.Front.{Entry, key_at, entry_at}
use Rattle.cs_merkle_kept.proofs.places.are_rising.Goals as goal

less_by : (o : Ordering) → is_lt o ≡ true → o ≡ Less
less_by Less is = refl
less_by Equal is = absurd (false≢true is)
less_by Greater is = absurd (false≢true is)

pub returns-then-not-is_lt : goal.returns-then-not-is_lt
returns-then-not-is_lt c = (
  λ bad. absurd (false≢true bad),
  λ rising.
      let leaves = c.args.leaves.now in
      let entries = leaf_entries leaves in
      let keys = keys_of entries in
      let i = c.loop-i.i in
      let long = length-map leaves leaf_entry in
      let all = length-map entries (λ (e : Entry). e.0) in
      let before = c.index-leaves-i.result in
      let here = c.index-leaves-i-in-loop-i.result in
      let one : get_or keys (i - 1) [] ≡ before.key.items =
      key_at entries (i - 1) (leaf_entry before) (omega (arith, long))
      (entry_at leaves (i - 1) before c.index-leaves-i.is) in
      let two : get_or keys i [] ≡ here.key.items =
      key_at entries i (leaf_entry here) (omega (arith, long))
      (entry_at leaves i here c.index-leaves-i-in-loop-i.is) in
      let compared : c.cmp.result ≡ byte_order (get_or keys (i - 1) []) (get_or keys i []) =
      c.cmp.ensures
      ∙ ap (λ (x : List ℕ). byte_order x c.key-in-loop-i.result.now) (c.key.ensures ∙ sym one)
      ∙ ap (byte_order (get_or keys (i - 1) [])) (c.key-in-loop-i.ensures ∙ sym two) in
      let less = rising (i - 1) i (omega arith) (omega (arith, long, all)) in
      let yes : is_lt c.cmp.result ≡ true = ap is_lt (compared ∙ less) in
      let bad : false ≡ true = cc in
      absurd (false≢true bad),
)

pub loop-i-preserved : goal.loop-i-preserved
loop-i-preserved c =
    let leaves = c.args.leaves.now in
    let entries = leaf_entries leaves in
    let keys = keys_of entries in
    let i = c.loop-i.i in
    let long = length-map leaves leaf_entry in
    let before = c.index-leaves-i.result in
    let here = c.index-leaves-i-in-loop-i.result in
    let one : get_or keys (i - 1) [] ≡ before.key.items =
    key_at entries (i - 1) (leaf_entry before) (omega (arith, long))
    (entry_at leaves (i - 1) before c.index-leaves-i.is) in
    let two : get_or keys i [] ≡ here.key.items =
    key_at entries i (leaf_entry here) (omega (arith, long))
    (entry_at leaves i here c.index-leaves-i-in-loop-i.is) in
    let compared : c.cmp.result ≡ byte_order (get_or keys (i - 1) []) (get_or keys i []) =
    c.cmp.ensures
    ∙ ap (λ (x : List ℕ). byte_order x c.key-in-loop-i.result.now) (c.key.ensures ∙ sym one)
    ∙ ap (byte_order (get_or keys (i - 1) [])) (c.key-in-loop-i.ensures ∙ sym two) in
    let yes : is_lt c.cmp.result ≡ true = cc in
    rising_more keys i (omega arith) c.loop-i.invariant (sym compared ∙ less_by c.cmp.result yes)
