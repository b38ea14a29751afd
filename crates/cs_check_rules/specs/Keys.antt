-- The keys of which a table knows something, in rising order. A table gives a record to every key, so they are told from
-- those that were named.
use Rattle.std.specs.Prelude.{◌≡◌, ℕ, zero, suc, Bool, true, not, ◌&&◌, List, [], ◌∷◌}
use Rattle.std.specs.Ordering.{nat_cmp, ordering_then}
use Rattle.std.specs.declared.cmp.Ordering.{Ordering}
use Rattle.std.specs.declared.cmp.Ordering.TheVariants.{Less, Equal, Greater}
use Rattle.std.specs.Cmp.Lexicographic.{slice_cmp}
use Rattle.std.specs.List.{filter}
use Rattle.std.specs.List.Sorted.{IsStrictlySortedBy}
use Rattle.cs_base.specs.Lists.{IsIn, is_empty}
use Rattle.cs_ledger.specs.Session.{Session, Rules, Key, Object, Dummy, Piece, objects_in, used_up, read_only}
use Rattle.cs_ledger.specs.Table.{Record, Table, Entry, new_pieces, session_of, exec, start, is_unknown}

-- ---- keys in order

-- Objects come before dummies; then the digest decides, or the shard and the serial. Keys in their widths are so in the
-- order of their encodings.
abbrev pub key_order : Key → Key → Ordering
key_order (Object a) (Object b) = slice_cmp nat_cmp a b
key_order (Object a) (Dummy shard serial) = Less
key_order (Dummy shard serial) (Object b) = Greater
key_order (Dummy shard serial) (Dummy shard' serial') = ordering_then (nat_cmp shard shard') (nat_cmp serial serial')

-- none stands twice
abbrev pub IsRising : List Key → Type 0
IsRising keys = IsStrictlySortedBy key_order keys

-- a key that comes before the first of these, or is it, or comes among the others
abbrev pub put_by : Ordering → Key → Key → List Key → List Key → List Key
put_by Less key first keys with_others = key ∷ first ∷ keys
put_by Equal key first keys with_others = first ∷ keys
put_by Greater key first keys with_others = first ∷ with_others

-- a key among others, where it may be already
abbrev pub with_key : Key → List Key → List Key
with_key key [] = key ∷ []
with_key key (first ∷ keys) = put_by (key_order key first) key first keys (with_key key keys)

abbrev pub with_keys_of : List Piece → List Key → List Key
with_keys_of [] keys = keys
with_keys_of (piece ∷ pieces) keys = with_keys_of pieces (with_key piece.key keys)

-- ---- what is known of a key

abbrev pub is_known_record : Record → Bool
is_known_record r = not (is_unknown r.state && is_empty r.book)

-- exactly those of which the table knows something, in order
pub record AreKnown (keys : List Key) (t : Table) : Type 0 where
  pub rising : IsRising keys
  pub known : (key : Key) → IsIn key keys → is_known_record (t.at key) ≡ true
  pub all : (key : Key) → is_known_record (t.at key) ≡ true → IsIn key keys

-- those of which it knows something, of these
abbrev pub known_among : Table → List Key → List Key
known_among t keys = filter (λ key. is_known_record (t.at key)) keys

-- ---- the known keys as entries come

abbrev pub with_dummy_keys : ℕ → ℕ → List Key → List Key
with_dummy_keys shard zero keys = keys
with_dummy_keys shard (suc n) keys = with_key (Dummy shard n) (with_dummy_keys shard n keys)

-- the keys of the shard's genesis objects and of its first dummies
abbrev pub first_keys : Rules → ℕ → List Key
first_keys rules shard = with_dummy_keys shard rules.dummies (with_keys_of (objects_in rules shard rules.genesis) [])

abbrev pub start_keys : Rules → ℕ → List Key
start_keys rules shard = known_among (start rules shard) (first_keys rules shard)

-- with those that a session names in a shard, or brings into being there
abbrev pub with_session_keys : Rules → ℕ → Table → Session → List Key → List Key
with_session_keys rules shard t x keys =
    with_keys_of (used_up rules x shard)
    (with_keys_of (read_only rules x shard) (with_keys_of (new_pieces rules shard t x) keys))

abbrev pub keys_after : Rules → ℕ → Table → Entry → List Key → List Key
keys_after rules shard t entry keys =
    known_among (exec rules shard t entry).table (with_session_keys rules shard t (session_of entry) keys)
