-- The leaves that are kept, as records are taken over and the tree is joined.
use Rattle.std.proofs.Common.{◌≡◌, Bool, true, false, not, ◌||◌, if◌then◌else◌, cond, List, [], ◌∷◌, map, Option, Some, None, is_some, option_map, Less, Equal, Greater, ◌⊎◌, refl, sym, ap, ◌∙◌, subst, inl, inr}
use Rattle.std.specs.Option.{option_or}
use Rattle.std.specs.List.{AllByRecursion}
use Rattle.std.specs.List.Sorted.{IsStrictlySortedBy}
use Rattle.std.specs.Map.{keys_of, values_of, lookup}
use Rattle.std.specs.BTreeMap.{is_at, insert_entry}
use Rattle.std.specs.Ordering.{is_eq, match_ordering}
use Rattle.std.specs.declared.cmp.Ordering.{Ordering}
use Rattle.std.proofs.lemmas.Bool.{both_ways, cases_Bool}
use Rattle.std.proofs.lemmas.Map.Made.{lookup-map_values}
use Rattle.cs_base.specs.Lists.{is_empty}
use Rattle.cs_base.specs.declared.key.Key.{Key}
use Rattle.cs_base.specs.declared.key.Key.TheVariants as key
use Rattle.cs_tx_value.specs.Key.{key_encoding, KeyFits}
use Rattle.cs_tx_types.specs.declared.record.Record.{Record}
use Rattle.cs_tx_types.specs.Record.{stored_encoding}
use Rattle.cs_merkle.specs.Tree.{leaf_hash}
use Rattle.cs_merkle_kept.specs.declared.leaf.Leaf.{Leaf}
use Rattle.cs_merkle_kept.specs.Leaves.{KeyedHashes, all_put, AreRising, leaf_entry, leaf_entries}
use Rattle.cs_tx.specs.Sessions.{key_seen}
use Rattle.cs_ledger.specs.Ledger.{Bytes}
use Rattle.cs_ledger.specs.Session as ledger
use Rattle.cs_ledger.specs.Table as table
use Rattle.cs_ledger.specs.Table.{Table, Unknown, Active, Locked, Inactive, Shared}
use Rattle.cs_ledger.proofs.Basics as basics
use Rattle.cs_table.specs.Seen.{Stored, IsStored, AllStored, has_key_named, is_under, row_in, seen, seen_row, seen_record, unknown_record, IsKeyInWidth, KeysInWidth}
use Rattle.cs_table.specs.Changes.{MarksTouched}
use Rattle.cs_table.proofs.Rows.{key_cmp, same_key, key_sym}
use Rattle.cs_check_rules.specs.Keys.{is_known_record}
use Rattle.cs_check_rules.specs.Root.{ledger_key_bytes}
use Rattle.cs_check.specs.Root.{stored_row, record_leaves}
use Rattle.cs_check.specs.Leaves.{Hashed, leaf_hash_in, leaf_hash_of, leaf_if, shown_leaf, HasLeaves, HasLeavesBut, leaves_taken, hashes_of, IsWaiting, AreWaiting, IsKey, AreKeys}
use Rattle.cs_check.proofs.Shown.{key_shown, record_shown, stored_known}
use Rattle.cs_check.proofs.Images.{image, image_sorted, image_found, image_keys, found_after_all, same_tree, rising_from, sorted_from}

abbrev Rows : Type 0
Rows = List (Key × Record)

-- ---- what a table shows of a row

leaf_of_row : (k : Key) (row : Record) → IsStored row → leaf_if (key_seen k) (seen_record row) ≡ Some (leaf_hash (stored_encoding (record { key = k; value = row })))
leaf_of_row k row stored = rw (stored_known row stored, key_shown k, record_shown row) refl

pub shown_row : (s : Stored) (k : Key) (row : Record) → row_in s.rows (key_seen k) ≡ Some row → IsStored row → shown_leaf (seen s) (key_seen k) ≡ Some (leaf_hash (stored_encoding (record { key = k; value = row })))
shown_row s k row found stored = ap (λ (o : Option Record). leaf_if (key_seen k) (seen_row o)) found ∙ leaf_of_row k row stored

pub shown_none : (s : Stored) (name : ledger.Key) → row_in s.rows name ≡ None → shown_leaf (seen s) name ≡ None
shown_none s name none = ap (λ (o : Option Record). leaf_if name (seen_row o)) none

-- ---- leaves after others, and after an execution

if_leaf : (b : Bool) (leaf : Bytes) (o : Option Bytes) → b ≡ false → o ≡ (if b then Some leaf else None) → o ≡ None
if_leaf b leaf o unknown is = is ∙ ap (λ (known : Bool). if known then Some leaf else None) unknown

pub leaves_but : (touched : List Key) (h : Hashed) (t : Table) → HasLeaves h t → HasLeavesBut touched h t
leaves_but touched h t has = record {
  same = λ name wide _. has name wide;
  none = λ name wide unknown. if_leaf (is_known_record (t.at name)) _ (leaf_hash_of h name) unknown (has name wide);
}

empty_is : {X : Type 0} (xs : List X) → is_empty xs ≡ true → xs ≡ []
empty_is [] h = refl
empty_is (x ∷ xs) h = absurd (both_ways false refl h)

not_false : (b : Bool) → not b ≡ false → b ≡ true
not_false true h = refl
not_false false h = absurd (both_ways true h refl)

unknown_is : (r : table.Record) → is_known_record r ≡ false → r ≡ unknown_record
unknown_is r = by_state r.state r.book
  where
    by_state : (state : table.State) (book : table.Book) → is_known_record (record { state = state; book = book }) ≡ false → Path table.Record (record { state = state; book = book }) unknown_record
    by_state Unknown book h = λ i. record { state = Unknown; book = empty_is book (not_false (is_empty book) h) i }
    by_state (Active o) book h = absurd (both_ways true h refl)
    by_state (Locked o by) book h = absurd (both_ways true h refl)
    by_state (Inactive by) book h = absurd (both_ways true h refl)
    by_state (Shared o readers) book h = absurd (both_ways true h refl)

pub leaves_stay : (old new : Stored) (h : Hashed) → MarksTouched old new → HasLeavesBut old.touched h (seen old) → HasLeavesBut new.touched h (seen new)
leaves_stay old new h marks has = record {
  same = λ name wide untouched.
      let before = marks.untouched name untouched in
      has.same name wide before.0 ∙ ap (leaf_if name) (sym before.1);
  none = λ name wide unknown.
      has.none name wide (ap is_known_record (marks.known name (unknown_is ((seen new).at name) unknown)));
}

-- ---- what is found under a name, after an entry was put

module _ {X : Type 0} where
  find_at : (es : List (Key × X)) (q : Key) → lookup (is_at (key_cmp q)) es ≡ lookup (is_under (key_seen q)) es
  find_at [] q = refl
  find_at (e ∷ es) q = rw (same_key q e.0) (ap (λ (found : Option X). cond (is_under (key_seen q) e.0) (Some e.1) found) (find_at es q))

  module _ (k : Key) (w : Option X) (es after : List (Key × X)) (updates : (q : Key) → lookup (is_at (key_cmp q)) after ≡ cond (is_at (key_cmp k) q) w (lookup (is_at (key_cmp q)) es)) where
    at_key : (q : Key) → lookup (is_under (key_seen q)) after ≡ cond (ledger.key_eq (key_seen q) (key_seen k)) w (lookup (is_under (key_seen q)) es)
    at_key q =
        sym (find_at after q) ∙ updates q
        ∙ ap (λ (test : Bool). cond test w (lookup (is_at (key_cmp q)) es)) (same_key k q ∙ key_sym (key_seen k) (key_seen q))
        ∙ ap (λ (found : Option X). cond (ledger.key_eq (key_seen q) (key_seen k)) w found) (find_at es q)

    pub found_at : (name : ledger.Key) → lookup (is_under name) after ≡ cond (ledger.key_eq name (key_seen k)) w (lookup (is_under name) es)
    found_at (ledger.Object d) = at_key (key.Object d)
    found_at (ledger.Dummy s n) = at_key (key.Dummy s n)

-- ---- one key is taken over

abbrev hash_of : Leaf → Bytes
hash_of leaf = (leaf_entry leaf).1

if_none : (b : Bool) (o : Option Bytes) (shown : Option Bytes) → (b ≡ true → shown ≡ None) → o ≡ (if b || false then option_or shown o else o)
if_none true o shown none = ap (λ (x : Option Bytes). option_or x o) (sym (none refl))
if_none false o shown none = refl

pub takes_none : (s : Stored) (k : Key) (waiting : List (Key × Leaf)) → row_in s.rows (key_seen k) ≡ None → (name : ledger.Key) → lookup (is_under name) (hashes_of waiting) ≡ leaves_taken (seen s) (k ∷ []) (hashes_of waiting) name
takes_none s k waiting none name =
    if_none (is_under name k) (lookup (is_under name) (hashes_of waiting)) (shown_leaf (seen s) name)
    (λ under. shown_none s name (subst (λ (z : ledger.Key). row_in s.rows z ≡ None) (sym (basics.same_key name (key_seen k) under)) none))

if_some : (b : Bool) (leaf : Leaf) (found : Option Leaf) (o shown : Option Bytes) → option_map hash_of found ≡ o → (b ≡ true → shown ≡ Some (hash_of leaf))
    → option_map hash_of (cond b (Some leaf) found) ≡ (if b || false then option_or shown o else o)
if_some true leaf found o shown is some = ap (λ (x : Option Bytes). option_or x o) (sym (some refl))
if_some false leaf found o shown is some = is

pub takes_some : (s : Stored) (k : Key) (row : Record) (leaf : Leaf) (old new : List (Key × Leaf)) → row_in s.rows (key_seen k) ≡ Some row → IsStored row
    → leaf_entry leaf ≡ (key_encoding k, leaf_hash (stored_encoding (record { key = k; value = row })))
    → ((q : Key) → lookup (is_at (key_cmp q)) new ≡ cond (is_at (key_cmp k) q) (Some leaf) (lookup (is_at (key_cmp q)) old))
    → (name : ledger.Key) → lookup (is_under name) (hashes_of new) ≡ leaves_taken (seen s) (k ∷ []) (hashes_of old) name
takes_some s k row leaf old new found stored is updates name =
    lookup-map_values hash_of (is_under name) new
    ∙ ap (option_map hash_of) (found_at k (Some leaf) old new updates name)
    ∙ if_some (is_under name k) leaf (lookup (is_under name) old) (lookup (is_under name) (hashes_of old)) (shown_leaf (seen s) name)
    (sym (lookup-map_values hash_of (is_under name) old))
    (λ under.
    subst (λ (z : ledger.Key). shown_leaf (seen s) z ≡ Some (hash_of leaf)) (sym (basics.same_key name (key_seen k) under))
    (shown_row s k row found stored ∙ ap (λ (e : Bytes × Bytes). Some e.1) (sym is)))

-- the leaves that wait still stand under their keys
at_order : (k : Key) (leaf : Leaf) (e : Key × Leaf) (es : List (Key × Leaf)) (o : Ordering) → key_cmp k e.0 ≡ o → IsWaiting (k, leaf) → IsWaiting e → AreWaiting es → AreWaiting (insert_entry key_cmp es k leaf)
    → AreWaiting (match_ordering o ((k, leaf) ∷ e ∷ es) ((e.0, leaf) ∷ es) (e ∷ insert_entry key_cmp es k leaf))
at_order k leaf e es Less is new here there later = (new, (here, there))
at_order k leaf e es Equal is new here there later =
    let same : key_seen k ≡ key_seen e.0 = basics.same_key (key_seen k) (key_seen e.0) (sym (same_key k e.0) ∙ ap is_eq is) in
    (record { width = subst IsKeyInWidth same new.width; key = new.key ∙ ap ledger_key_bytes same }, there)
at_order k leaf e es Greater is new here there later = (here, later)

pub waiting_more : (k : Key) (leaf : Leaf) (es : List (Key × Leaf)) → IsWaiting (k, leaf) → AreWaiting es → AreWaiting (insert_entry key_cmp es k leaf)
waiting_more k leaf [] new old = (new, tt)
waiting_more k leaf (e ∷ es) new old = at_order k leaf e es (key_cmp k e.0) refl new old.0 old.1 (waiting_more k leaf es new old.1)

pub waits : (k : Key) (leaf : Leaf) (hash : Bytes) → IsKeyInWidth (key_seen k) → leaf_entry leaf ≡ (key_encoding k, hash) → IsWaiting (k, leaf)
waits k leaf hash wide is = record { width = wide; key = ap (λ (e : Bytes × Bytes). e.0) is ∙ sym (key_shown k) }

pub fits_width : (k : Key) → KeyFits k → IsKeyInWidth (key_seen k)
fits_width (key.Object name) fits = tt
fits_width (key.Dummy shard serial) fits = fits

-- ---- keys are taken over one after the other

again : (shown o : Option Bytes) → option_or shown (option_or shown o) ≡ option_or shown o
again None o = refl
again (Some x) o = refl

one_more : (b later : Bool) (shown cur next : Option Bytes) → next ≡ (if b || false then option_or shown cur else cur)
    → (if later then option_or shown next else next) ≡ (if b || later then option_or shown cur else cur)
one_more true true shown cur next is = ap (option_or shown) is ∙ again shown cur
one_more true false shown cur next is = is
one_more false true shown cur next is = ap (option_or shown) is
one_more false false shown cur next is = is

-- what is left to take, after one key more
pub takes_more : (t : Table) (k : Key) (keys : List Key) (cur next : List (Key × Bytes)) → ((name : ledger.Key) → lookup (is_under name) next ≡ leaves_taken t (k ∷ []) cur name)
    → (name : ledger.Key) → leaves_taken t keys next name ≡ leaves_taken t (k ∷ keys) cur name
takes_more t k keys cur next is name =
    one_more (is_under name k) (has_key_named keys name) (shown_leaf t name) (lookup (is_under name) cur) (lookup (is_under name) next) (is name)

-- ---- the leaves of a table, once the touched ones are taken over

if_taken : (b : Bool) (shown waiting old : Option Bytes) → (b ≡ false → option_or waiting old ≡ shown) → (shown ≡ None → option_or waiting old ≡ None)
    → option_or (if b then option_or shown waiting else waiting) old ≡ shown
if_taken true None waiting old same none = none refl
if_taken true (Some x) waiting old same none = refl
if_taken false shown waiting old same none = same refl

if_unknown : (known : Bool) (leaf : Bytes) → (if known then Some leaf else None) ≡ None → known ≡ false
if_unknown true leaf h = absurd (let no_way = h in cc)
if_unknown false leaf h = refl

pub takes_touched : (touched : List Key) (h new : Hashed) (t : Table) → new.tree ≡ h.tree → ((name : ledger.Key) → lookup (is_under name) new.waiting ≡ leaves_taken t touched h.waiting name) → HasLeavesBut touched h t → HasLeaves new t
takes_touched touched h new t tree is has name wide =
    ap (λ (es : KeyedHashes). option_or (lookup (is_under name) new.waiting) (leaf_hash_in es (ledger_key_bytes name))) tree
    ∙ ap (λ (found : Option Bytes). option_or found (leaf_hash_in h.tree (ledger_key_bytes name))) (is name)
    ∙ if_taken (has_key_named touched name) (shown_leaf t name) (lookup (is_under name) h.waiting) (leaf_hash_in h.tree (ledger_key_bytes name))
    (has.same name wide)
    (λ none. has.none name wide (if_unknown (is_known_record (t.at name)) _ none))

-- a name that is no row's
no_row : (rows : Rows) (name : ledger.Key) → has_key_named (keys_of rows) name ≡ false → row_in rows name ≡ None
no_row [] name none = refl
no_row (row ∷ rows) name none = by_test (is_under name row.0) (no_row rows name) none
  where
    by_test : (b : Bool) → (has_key_named (keys_of rows) name ≡ false → row_in rows name ≡ None) → (b || has_key_named (keys_of rows) name) ≡ false → cond b (Some row.1) (row_in rows name) ≡ None
    by_test true later h = absurd (both_ways true h refl)
    by_test false later h = later h

pub takes_all : (s : Stored) (new : Hashed) → new.tree ≡ [] → ((name : ledger.Key) → lookup (is_under name) new.waiting ≡ leaves_taken (seen s) (keys_of s.rows) [] name) → HasLeaves new (seen s)
takes_all s new tree is =
    takes_touched (keys_of s.rows) (record { tree = []; waiting = [] }) new (seen s) tree is
    (record {
      same = λ name wide none. sym (shown_none s name (no_row s.rows name none));
      none = λ name wide unknown. refl;
    })

-- ---- the tree is joined

widths_of : (waiting : List (Key × Leaf)) → AreWaiting waiting → AllByRecursion (λ (e : Key × Leaf). IsKeyInWidth (key_seen e.0)) waiting
widths_of [] fits = tt
widths_of (e ∷ waiting) fits = (fits.0.width, widths_of waiting fits.1)

abbrev hash_under : Key × Leaf → Bytes
hash_under e = (leaf_entry e.1).1

-- the leaves that are put, as entries under encoded keys
put_is : (waiting : List (Key × Leaf)) → AreWaiting waiting → leaf_entries (values_of waiting) ≡ image hash_under waiting
put_is [] fits = refl
put_is (e ∷ waiting) fits =
    let rest = put_is waiting fits.1 in
    λ i. (fits.0.key i, (leaf_entry e.1).1) ∷ rest i

pub waiting_rise : (waiting : List (Key × Leaf)) → AreWaiting waiting → IsStrictlySortedBy key_cmp (keys_of waiting) → AreRising (keys_of (leaf_entries (values_of waiting)))
waiting_rise waiting fits sorted =
    subst (λ (es : KeyedHashes). AreRising (keys_of es)) (sym (put_is waiting fits))
    (rising_from (keys_of (image hash_under waiting)) (image_sorted hash_under waiting (widths_of waiting fits) sorted))

-- the rows of a table, as entries under encoded keys
abbrev row_hash : Key × Record → Bytes
row_hash row = leaf_hash (stored_encoding (stored_row row))

widths_in : (rows : Rows) → KeysInWidth rows → AllByRecursion (λ (row : Key × Record). IsKeyInWidth (key_seen row.0)) rows
widths_in [] wide = tt
widths_in (row ∷ rows) wide = (
  wide (key_seen row.0) (ap (λ (test : Bool). is_some (cond test (Some row.1) (row_in rows (key_seen row.0)))) (basics.key_refl (key_seen row.0))),
  widths_in rows (λ name some. wide name (some_later (is_under name row.0) row.1 (row_in rows name) some)),
)
  where
    some_later : (b : Bool) (r : Record) (o : Option Record) → is_some o ≡ true → is_some (cond b (Some r) o) ≡ true
    some_later true r o h = refl
    some_later false r o h = h

row_found : (rows : Rows) → AllStored rows → (name : ledger.Key) → lookup (is_under name) (map (λ row. (row.0, row_hash row)) rows) ≡ leaf_if name (seen_row (row_in rows name))
row_found [] stored name = refl
row_found (row ∷ rows) stored name = by_test (is_under name row.0) refl (row_found rows stored.1 name)
  where
    by_test : (b : Bool) → is_under name row.0 ≡ b → lookup (is_under name) (map (λ row. (row.0, row_hash row)) rows) ≡ leaf_if name (seen_row (row_in rows name)) → cond b (Some (row_hash row)) (lookup (is_under name) (map (λ row. (row.0, row_hash row)) rows)) ≡ leaf_if name (seen_row (cond b (Some row.1) (row_in rows name)))
    by_test true under later = sym (subst (λ (z : ledger.Key). leaf_if z (seen_record row.1) ≡ Some (row_hash row)) (sym (basics.same_key name (key_seen row.0) under)) (leaf_of_row row.0 row.1 stored.0))
    by_test false other later = later

values_are : (rows : Rows) → values_of (image row_hash rows) ≡ map leaf_hash (record_leaves rows)
values_are [] = refl
values_are (row ∷ rows) = ap (λ (hashes : List Bytes). row_hash row ∷ hashes) (values_are rows)

either_some : (a b : Option Bytes) → is_some (option_or a b) ≡ true → (is_some a ≡ true) ⊎ (is_some b ≡ true)
either_some None b some = inr some
either_some (Some x) b some = inl refl

none_same : (a b : Option Bytes) → is_some a ≡ false → is_some b ≡ false → a ≡ b
none_same None None h g = refl
none_same None (Some x) h g = absurd (both_ways true g refl)
none_same (Some x) b h g = absurd (both_ways true h refl)

module _ (tree new : KeyedHashes) (waiting : List (Key × Leaf)) (put : new ≡ all_put tree (leaf_entries (values_of waiting))) (fits : AreWaiting waiting) (keys : AreKeys tree)
    (rising : AreRising (keys_of (leaf_entries (values_of waiting)))) where
  abbrev ws : KeyedHashes
  ws = image hash_under waiting

  found_in : (q : Bytes) → leaf_hash_in new q ≡ option_or (leaf_hash_in ws q) (leaf_hash_in tree q)
  found_in q =
      ap (λ (es : KeyedHashes). leaf_hash_in es q) (put ∙ ap (all_put tree) (put_is waiting fits))
      ∙ found_after_all ws tree (sorted_from (keys_of ws) (subst (λ (es : KeyedHashes). AreRising (keys_of es)) (put_is waiting fits) rising)) q

  pub joined_leaf : (name : ledger.Key) → IsKeyInWidth name → leaf_hash_in new (ledger_key_bytes name) ≡ leaf_hash_of (record { tree = tree; waiting = hashes_of waiting }) name
  joined_leaf name wide =
      found_in (ledger_key_bytes name)
      ∙ ap (λ (found : Option Bytes). option_or found (leaf_hash_in tree (ledger_key_bytes name))) (image_found hash_under waiting (widths_of waiting fits) name wide)

  pub joined_keys : AreKeys new
  joined_keys bytes some =
      elim (either_some (leaf_hash_in ws bytes) (leaf_hash_in tree bytes) (sym (ap is_some (found_in bytes)) ∙ some)) [
        | inl here ↦ image_keys hash_under waiting (widths_of waiting fits) bytes here
        | inr there ↦ keys bytes there
      ]

  module _ (s : Stored) (has : HasLeaves (record { tree = tree; waiting = hashes_of waiting }) (seen s)) where
    pub joined_leaves : HasLeaves (record { tree = new; waiting = [] }) (seen s)
    joined_leaves name wide = joined_leaf name wide ∙ has name wide

    module _ (sorted : IsStrictlySortedBy key_cmp (keys_of s.rows)) (stored : AllStored s.rows) (widths : KeysInWidth s.rows) (new_rising : AreRising (keys_of new)) where
      abbrev rows_are : KeyedHashes
      rows_are = image row_hash s.rows

      by_name : (name : ledger.Key) → IsKeyInWidth name → leaf_hash_in new (ledger_key_bytes name) ≡ leaf_hash_in rows_are (ledger_key_bytes name)
      by_name name wide =
          joined_leaves name wide
          ∙ sym (image_found row_hash s.rows (widths_in s.rows widths) name wide ∙ row_found s.rows stored name)

      by_key : (bytes : Bytes) → IsKey bytes → leaf_hash_in new bytes ≡ leaf_hash_in rows_are bytes
      by_key bytes is = subst (λ (b : Bytes). leaf_hash_in new b ≡ leaf_hash_in rows_are b) (sym is.is) (by_name is.name is.width)

      everywhere : (bytes : Bytes) → leaf_hash_in new bytes ≡ leaf_hash_in rows_are bytes
      everywhere bytes =
          elim (cases_Bool (is_some (leaf_hash_in new bytes))) [
            | inl here ↦ by_key bytes (joined_keys bytes here)
            | inr none ↦ elim (cases_Bool (is_some (leaf_hash_in rows_are bytes))) [
              | inl there ↦ by_key bytes (image_keys row_hash s.rows (widths_in s.rows widths) bytes there)
              | inr neither ↦ none_same (leaf_hash_in new bytes) (leaf_hash_in rows_are bytes) none neither
            ]
          ]

      pub joined_values : values_of new ≡ map leaf_hash (record_leaves s.rows)
      joined_values =
          ap values_of (same_tree new rows_are (sorted_from (keys_of new) new_rising) (image_sorted row_hash s.rows (widths_in s.rows widths) sorted) everywhere)
          ∙ values_are s.rows
