-- What is stored of a table is what it knows, and the root over it is the one over what it shows.
use Rattle.std.proofs.Common.{◌≡◌, ℕ, true, false, List, [], ◌∷◌, ◌++◌, inl, inr, map, Some, Less, Equal, refl, sym, ap, ◌∙◌}
use Rattle.std.specs.Map.{keys_of}
use Rattle.std.specs.List.{AllByRecursion}
use Rattle.std.specs.List.Sorted.{IsStrictlySortedBy}
use Rattle.std.specs.Cmp.{tied_itself}
use Rattle.std.proofs.lemmas.Bool.{cases_Bool, both_ways}
use Rattle.std.proofs.lemmas.List.{length-map}
use Rattle.cs_tx.specs.Votes.{vote_of}
use Rattle.cs_base.specs.Fields.{each}
use Rattle.cs_base.specs.declared.key.Key.{Key}
use Rattle.cs_base.specs.declared.key.Key.TheVariants as key
use Rattle.cs_tx_value.specs.Key.{key_encoding}
use Rattle.cs_tx_types.specs.declared.vote.Vote.{Vote}
use Rattle.cs_tx_types.specs.declared.vote.Vote.TheVariants as vote
use Rattle.cs_tx_types.specs.declared.state.State.{State}
use Rattle.cs_tx_types.specs.declared.state.State.TheVariants as state
use Rattle.cs_tx_types.specs.declared.record.Record.{Record}
use Rattle.cs_tx_types.specs.Session.{vote_encoding}
use Rattle.cs_tx_types.specs.State.{state_encoding}
use Rattle.cs_tx_types.specs.Record.{place_encoding, record_encoding}
use Rattle.cs_merkle.specs.Tree.{merkle_tree_hash}
use Rattle.cs_tx.specs.Sessions.{key_seen}
use Rattle.cs_base.specs.Lists.{IsIn}
use Rattle.cs_ledger.specs.Session as ledger
use Rattle.cs_ledger.specs.Table as table
use Rattle.cs_ledger.proofs.Basics.{same_key, key_refl}
use Rattle.cs_table.specs.Seen.{Stored, IsStored, AllStored, seen_state, seen_place, seen_record, seen_row, row_in, is_under, unknown_record, seen}
use Rattle.cs_table.proofs.Rows.{key_cmp}
use Rattle.cs_check_rules.specs.Keys.{key_order, IsRising, is_known_record, AreKnown}
use Rattle.cs_check_rules.specs.Root.{ledger_key_bytes, state_bytes, vote_bytes, place_bytes, record_bytes, leaf_under, root_under}
use Rattle.cs_check_rules.proofs.Ordered.{key_order-total}
use Rattle.cs_check.specs.Root.{record_leaves, keys_in, table_root}

abbrev Rows : Type 0
Rows = List (Key × Record)

-- ---- encodings of what is shown

pub key_shown : (k : Key) → ledger_key_bytes (key_seen k) ≡ key_encoding k
key_shown (key.Object name) = refl
key_shown (key.Dummy shard serial) = refl

state_shown : (s : State) → state_bytes (seen_state s) ≡ state_encoding s
state_shown state.Unknown = refl
state_shown (state.Active object) = refl
state_shown (state.Locked object by) = refl
state_shown (state.Inactive by) = refl
state_shown (state.Shared object readers) = refl

vote_shown : (v : Vote) → vote_bytes (vote_of v) ≡ vote_encoding v
vote_shown vote.Abort = refl
vote_shown vote.Commit = refl

places_shown : (book : List (List ℕ × Vote)) → each place_bytes (map seen_place book) ≡ each place_encoding book
places_shown [] = refl
places_shown (place ∷ book) = rw (vote_shown place.1, places_shown book) refl

pub record_shown : (r : Record) → record_bytes (seen_record r) ≡ record_encoding r
record_shown r = rw (state_shown r.state, length-map r.book seen_place, places_shown r.book) refl

-- ---- the keys of the rows

same_order : (a b : Key) → key_order (key_seen a) (key_seen b) ≡ key_cmp a b
same_order (key.Object a) (key.Object b) = refl
same_order (key.Object a) (key.Dummy t m) = refl
same_order (key.Dummy s n) (key.Object b) = refl
same_order (key.Dummy s n) (key.Dummy t m) = refl

after_seen : (k : Key) (rows : Rows) → AllByRecursion (λ other. key_cmp k other ≡ Less) (keys_of rows) → AllByRecursion (λ c. key_order (key_seen k) c ≡ Less) (keys_in rows)
after_seen k [] after = tt
after_seen k (row ∷ rows) after = (same_order k row.0 ∙ after.0, after_seen k rows after.1)

rising_seen : (rows : Rows) → IsStrictlySortedBy key_cmp (keys_of rows) → IsRising (keys_in rows)
unfolding IsStrictlySortedBy
rising_seen [] sorted = tt
rising_seen (row ∷ rows) sorted = (after_seen row.0 rows sorted.0, rising_seen rows sorted.1)

-- the row of a key whose record is known
known_in : (rows : Rows) (name : ledger.Key) → is_known_record (seen_row (row_in rows name)) ≡ true → IsIn name (keys_in rows)
known_in [] name known = absurd (both_ways _ refl known)
known_in (row ∷ rows) name known =
    elim (cases_Bool (is_under name row.0)) [
      | inl under ↦ inl (same_key name (key_seen row.0) under)
      | inr other ↦ inr (known_in rows name (rw other at known))
    ]

-- ---- each row is found under its key

not_under : (a b : Key) → key_cmp a b ≡ Less → is_under (key_seen b) a ≡ false
not_under a b less =
    elim (cases_Bool (is_under (key_seen b) a)) [
      | inl under ↦
          let same : key_seen b ≡ key_seen a = same_key (key_seen b) (key_seen a) under in
          let q : Equal ≡ Less =
          sym (tied_itself key_order-total (key_seen a)) ∙ ap (key_order (key_seen a)) (sym same) ∙ same_order a b ∙ less in
          cc
      | inr other ↦ other
    ]

-- each of these is found in the rows
abbrev AreFound : Rows → Rows → Type 0
AreFound rows some = AllByRecursion (λ row. row_in rows (key_seen row.0) ≡ Some row.1) some

still_found : (first : Key × Record) (rows some : Rows) → AllByRecursion (λ k. key_cmp first.0 k ≡ Less) (keys_of some) → AreFound rows some → AreFound (first ∷ rows) some
still_found first rows [] after found = tt
still_found first rows (row ∷ some) after found =
    (rw (not_under first.0 row.0 after.0) found.0, still_found first rows some after.1 found.1)

all_found : (rows : Rows) → IsStrictlySortedBy key_cmp (keys_of rows) → AreFound rows rows
unfolding IsStrictlySortedBy
all_found [] sorted = tt
all_found (row ∷ rows) sorted =
    (rw (key_refl (key_seen row.0)) refl, still_found row rows rows sorted.0 (all_found rows sorted.1))

unknown_is : (s : table.State) (book : table.Book) → is_known_record (record { state = s; book = book }) ≡ false → Path table.Record (record { state = s; book = book }) unknown_record
unknown_is table.Unknown [] e = refl
unknown_is table.Unknown (place ∷ book) e = absurd (both_ways _ e refl)
unknown_is (table.Active object) book e = absurd (both_ways _ e refl)
unknown_is (table.Locked object by) book e = absurd (both_ways _ e refl)
unknown_is (table.Inactive by) book e = absurd (both_ways _ e refl)
unknown_is (table.Shared object readers) book e = absurd (both_ways _ e refl)

pub stored_known : (r : Record) → IsStored r → is_known_record (seen_record r) ≡ true
stored_known r stored =
    elim (cases_Bool (is_known_record (seen_record r))) [
      | inl known ↦ known
      | inr unknown ↦ absurd (stored.known (unknown_is (seen_state r.state) (map seen_place r.book) unknown))
    ]

module _ (s : Stored) where
  known_found : (some : Rows) → AreFound s.rows some → AllStored some → (name : ledger.Key) → IsIn name (keys_in some) → is_known_record ((seen s).at name) ≡ true
  known_found [] found stored name among = absurd among
  known_found (row ∷ some) found stored name (inl same) =
      ap (λ (k : ledger.Key). is_known_record (seen_row (row_in s.rows k))) same
      ∙ ap (λ o. is_known_record (seen_row o)) found.0 ∙ stored_known row.1 stored.0
  known_found (row ∷ some) found stored name (inr later) = known_found some found.1 stored.1 name later

  -- the leaves of rows are those under their keys
  leaves_found : (some : Rows) → AreFound s.rows some → record_leaves some ≡ map (leaf_under (seen s)) (keys_in some)
  leaves_found [] found = refl
  leaves_found (row ∷ some) found =
      let here : key_encoding row.0 ++ record_encoding row.1 ≡ leaf_under (seen s) (key_seen row.0) =
      sym (rw (key_shown row.0, found.0, record_shown row.1) refl) in
      let others = leaves_found some found.1 in
      λ i. here i ∷ others i

  pub are_known : IsStrictlySortedBy key_cmp (keys_of s.rows) → AllStored s.rows → AreKnown (keys_in s.rows) (seen s)
  are_known sorted stored = record {
    rising = rising_seen s.rows sorted;
    known = known_found s.rows (all_found s.rows sorted) stored;
    all = known_in s.rows;
  }

  pub one_root : IsStrictlySortedBy key_cmp (keys_of s.rows) → table_root s.rows ≡ root_under (keys_in s.rows) (seen s)
  one_root sorted = ap merkle_tree_hash (leaves_found s.rows (all_found s.rows sorted))
