-- Keys are in a total order, and stay in it as keys come among them.
use Rattle.std.proofs.Common.{◌≡◌, ℕ, zero, suc, Ordering, Less, Equal, Greater, List, [], ◌∷◌, refl, ap, ◌∙◌}
use Rattle.std.specs.Ordering.{nat_cmp, ordering_then, ordering_reverse}
use Rattle.std.specs.Cmp.{IsTotalOrder, nat_cmp_total, then_total, on_total}
use Rattle.std.specs.Cmp.Lexicographic.{nat_list_cmp_total}
use Rattle.std.specs.FinMap.{nat_cmp-IsAntisymmetric, slice_cmp-IsAntisymmetric}
use Rattle.std.specs.List.{AllByRecursion}
use Rattle.std.specs.List.Sorted.{IsStrictlySortedBy}
use Rattle.cs_ledger.specs.Session.{Rules, Session, Key, Object, Dummy, Piece, objects_in, used_up, read_only}
use Rattle.cs_ledger.specs.Table.{Table, new_pieces}
use Rattle.cs_check_rules.specs.Keys.{key_order, IsRising, put_by, with_key, with_keys_of, with_dummy_keys, first_keys, with_session_keys}

-- ---- the order

abbrev Numbers : Type 0
Numbers = ℕ × ℕ

abbrev number_order : Numbers → Numbers → Ordering
number_order a b = ordering_then (nat_cmp a.0 b.0) (nat_cmp a.1 b.1)

numbers_total : IsTotalOrder number_order
numbers_total =
    then_total (on_total (λ (p : Numbers). p.0) nat_cmp_total) (on_total (λ (p : Numbers). p.1) nat_cmp_total)

turned : (a b : Key) → key_order a b ≡ ordering_reverse (key_order b a)
turned (Object a) (Object b) = nat_list_cmp_total.antisymm a b
turned (Object a) (Dummy s n) = refl
turned (Dummy s n) (Object b) = refl
turned (Dummy s n) (Dummy t m) = numbers_total.antisymm (s, n) (t, m)

goes_on : (a b c : Key) → key_order a b ≡ Less → key_order b c ≡ Less → key_order a c ≡ Less
goes_on (Object a) (Object b) (Object c) p q = nat_list_cmp_total.trans a b c p q
goes_on (Object a) (Object b) (Dummy u k) p q = refl
goes_on (Object a) (Dummy t m) (Object c) p q = cc
goes_on (Object a) (Dummy t m) (Dummy u k) p q = refl
goes_on (Dummy s n) (Object b) c p q = cc
goes_on (Dummy s n) (Dummy t m) (Object c) p q = cc
goes_on (Dummy s n) (Dummy t m) (Dummy u k) p q = numbers_total.trans (s, n) (t, m) (u, k) p q

alike : (a b c : Key) → key_order a b ≡ Equal → key_order a c ≡ key_order b c
alike (Object a) (Object b) (Object c) p = nat_list_cmp_total.congr a b c p
alike (Object a) (Object b) (Dummy u k) p = refl
alike (Object a) (Dummy t m) c p = cc
alike (Dummy s n) (Object b) c p = cc
alike (Dummy s n) (Dummy t m) (Object c) p = refl
alike (Dummy s n) (Dummy t m) (Dummy u k) p = numbers_total.congr (s, n) (t, m) (u, k) p

pub key_order-total : IsTotalOrder key_order
key_order-total = record { antisymm = turned; trans = goes_on; congr = alike }

both_level : (a b : Ordering) → ordering_then a b ≡ Equal → (a ≡ Equal) × (b ≡ Equal)
both_level Less b e = cc
both_level Equal b e = (refl, e)
both_level Greater b e = cc

pub one_key : (a b : Key) → key_order a b ≡ Equal → a ≡ b
one_key (Object a) (Object b) e = ap Object (slice_cmp-IsAntisymmetric nat_cmp-IsAntisymmetric a b e)
one_key (Object a) (Dummy t m) e = cc
one_key (Dummy s n) (Object b) e = cc
one_key (Dummy s n) (Dummy t m) e =
    let parts = both_level (nat_cmp s t) (nat_cmp n m) e in
    let shards : s ≡ t = nat_cmp-IsAntisymmetric s t parts.0 in
    let serials : n ≡ m = nat_cmp-IsAntisymmetric n m parts.1 in
    cc

-- ---- a key among others

abbrev pub After : Key → List Key → Type 0
After a keys = AllByRecursion (λ b. key_order a b ≡ Less) keys

after_all : (a b : Key) (keys : List Key) → key_order a b ≡ Less → After b keys → After a keys
after_all a b [] less after = tt
after_all a b (c ∷ keys) less after = (goes_on a b c less after.0, after_all a b keys less after.1)

after_put : (a key first : Key) (o : Ordering) (keys with_others : List Key) → key_order a key ≡ Less →
    key_order a first ≡ Less → After a keys → After a with_others → After a (put_by o key first keys with_others)
after_put a key first Less keys with_others less least after more = (less, (least, after))
after_put a key first Equal keys with_others less least after more = (least, after)
after_put a key first Greater keys with_others less least after more = (least, more)

after_with : (a key : Key) (keys : List Key) → key_order a key ≡ Less → After a keys → After a (with_key key keys)
after_with a key [] less after = (less, tt)
after_with a key (first ∷ keys) less after =
    after_put a key first (key_order key first) keys (with_key key keys) less after.0 after.1
    (after_with a key keys less after.1)

rising_put : (key first : Key) (o : Ordering) (keys : List Key) → key_order key first ≡ o →
    After first keys → IsRising keys → IsRising (with_key key keys) →
    IsRising (put_by o key first keys (with_key key keys))
unfolding IsStrictlySortedBy
rising_put key first Less keys is after rising more = ((is, after_all key first keys is after), (after, rising))
rising_put key first Equal keys is after rising more = (after, rising)
rising_put key first Greater keys is after rising more =
    (after_with first key keys (turned first key ∙ ap ordering_reverse is) after, more)

rising_with : (key : Key) (keys : List Key) → IsRising keys → IsRising (with_key key keys)
unfolding IsStrictlySortedBy
rising_with key [] rising = (tt, tt)
rising_with key (first ∷ keys) rising =
    rising_put key first (key_order key first) keys refl rising.0 rising.1 (rising_with key keys rising.1)

rising_of : (pieces : List Piece) (keys : List Key) → IsRising keys → IsRising (with_keys_of pieces keys)
rising_of [] keys rising = rising
rising_of (piece ∷ pieces) keys rising = rising_of pieces (with_key piece.key keys) (rising_with piece.key keys rising)

rising_dummies : (shard n : ℕ) (keys : List Key) → IsRising keys → IsRising (with_dummy_keys shard n keys)
rising_dummies shard zero keys rising = rising
rising_dummies shard (suc n) keys rising = rising_with (Dummy shard n) (with_dummy_keys shard n keys) (rising_dummies shard n keys rising)

nothing_rises : IsRising []
unfolding IsStrictlySortedBy
nothing_rises = tt

pub first_rise : (rules : Rules) (shard : ℕ) → IsRising (first_keys rules shard)
first_rise rules shard =
    rising_dummies shard rules.dummies (with_keys_of (objects_in rules shard rules.genesis) [])
    (rising_of (objects_in rules shard rules.genesis) [] nothing_rises)

pub named_rise : (rules : Rules) (shard : ℕ) (t : Table) (x : Session) (keys : List Key) → IsRising keys → IsRising (with_session_keys rules shard t x keys)
named_rise rules shard t x keys rising =
    rising_of (used_up rules x shard) _
    (rising_of (read_only rules x shard) _ (rising_of (new_pieces rules shard t x) keys rising))
