-- The record that is found under a key, after one was put or taken out.
use Rattle.std.proofs.Common.{◌≡◌, ℕ, Bool, true, false, if◌then◌else◌, cond, List, [], ◌∷◌, Option, Some, None, is_some, refl, sym, ap, ◌∙◌, subst, inl, inr, Bor, IfSome, option_copied}
use Rattle.std.proofs.Math.Path.{fun_ext}
use Rattle.std.specs.declared.cmp.Ordering.{Ordering}
use Rattle.std.specs.Ordering.{nat_cmp}
use Rattle.std.specs.BTreeMap.{is_at}
use Rattle.std.specs.Map.{lookup}
use Rattle.std.specs.Cmp.{both_tied, unsigned_ties}
use Rattle.std.specs.Cmp.Lexicographic.{texts_ties}
use Rattle.std.proofs.lemmas.Bool.{cases_Bool}
use Rattle.cs_base.specs.declared.key.Key.{Key}
use Rattle.cs_base.specs.declared.key.Key.TheVariants as key
use Rattle.cs_base.specs.contracts.key.KeyOrd.TheImpl.{ghosts}
use Rattle.cs_ledger.specs.Session as ledger
use Rattle.cs_ledger.specs.Table.{Record as Seen, Table}
use Rattle.cs_ledger.proofs.Basics as basics
use Rattle.cs_tx_types.specs.declared.record.Record.{Record}
use Rattle.cs_table.specs.Seen.{Stored, is_under, row_in, seen_row, unknown_record, seen, RowFits, RowsFit, HoldsFit, IsStored, IsKeyInWidth, KeysInWidth, IsKeptTable}
use Rattle.cs_tx.specs.Sessions.{key_seen}
use Rattle.cs_table.specs.Changes.{changed, ShowsTable, MarksTouched, Becomes}

abbrev pub key_cmp : Key → Key → Ordering
key_cmp = ghosts.cmp

abbrev Rows : Type 0
Rows = List (Key × Record)

-- the order of keys finds the key of a name
pub same_key : (a b : Key) → is_at (key_cmp a) b ≡ is_under (key_seen a) b
same_key (key.Object a) (key.Object b) = sym (texts_ties a b)
same_key (key.Object a) (key.Dummy t m) = refl
same_key (key.Dummy s n) (key.Object b) = refl
same_key (key.Dummy s n) (key.Dummy t m) = sym (both_tied _ _ (nat_cmp s t) (nat_cmp n m) (unsigned_ties s t) (unsigned_ties n m))

pub same_tests : (x y : Bool) → (x ≡ true → y ≡ true) → (y ≡ true → x ≡ true) → x ≡ y
same_tests true true there back = refl
same_tests true false there back = sym (there refl)
same_tests false true there back = back refl
same_tests false false there back = refl

pub key_sym : (a b : ledger.Key) → ledger.key_eq a b ≡ ledger.key_eq b a
key_sym a b = same_tests _ _ (λ h. subst (λ z. ledger.key_eq z a ≡ true) (basics.same_key a b h) (basics.key_refl a)) (λ h. subst (λ z. ledger.key_eq z b ≡ true) (basics.same_key b a h) (basics.key_refl b))

pub find_row : (rows : Rows) (q : Key) → lookup (is_at (key_cmp q)) rows ≡ row_in rows (key_seen q)
find_row [] q = refl
find_row (e ∷ rows) q = rw (same_key q e.0) (ap (λ found. cond (is_under (key_seen q) e.0) (Some e.1) found) (find_row rows q))

-- a map after a value was put under a key, or taken out
abbrev pub UpdatesAt : Key → Option Record → Rows → Rows → Type 0
UpdatesAt k w rows after = (q : Key) → lookup (is_at (key_cmp q)) after ≡ cond (is_at (key_cmp k) q) w (lookup (is_at (key_cmp q)) rows)

at_key : (k : Key) (w : Option Record) (rows after : Rows) → UpdatesAt k w rows after → (q : Key) → row_in after (key_seen q) ≡ (if ledger.key_eq (key_seen q) (key_seen k) then w else row_in rows (key_seen q))
at_key k w rows after updates q =
    sym (find_row after q) ∙ updates q
    ∙ ap (λ test. cond test w (lookup (is_at (key_cmp q)) rows)) (same_key k q ∙ key_sym (key_seen k) (key_seen q))
    ∙ ap (λ found. cond (ledger.key_eq (key_seen q) (key_seen k)) w found) (find_row rows q)

pub row_after : (k : Key) (w : Option Record) (rows after : Rows) → UpdatesAt k w rows after → (name : ledger.Key) → row_in after name ≡ (if ledger.key_eq name (key_seen k) then w else row_in rows name)
row_after k w rows after updates (ledger.Object d) = at_key k w rows after updates (key.Object d)
row_after k w rows after updates (ledger.Dummy s n) = at_key k w rows after updates (key.Dummy s n)

-- two tables that agree at each key
pub same_table : (at then_at : ledger.Key → Seen) (next : ℕ) → ((name : ledger.Key) → at name ≡ then_at name) → Path Table (record { at = at; next = next }) (record { at = then_at; next = next })
same_table at then_at next h = λ i. record { at = fun_ext h i; next = next }

if_row : (b : Bool) (w row : Option Record) → seen_row (if b then w else row) ≡ (if b then seen_row w else seen_row row)
if_row true w row = refl
if_row false w row = refl

pub becomes : (s : Stored) (k : Key) (w : Option Record) (after : Rows) (touched : List Key) → UpdatesAt k w s.rows after → ShowsTable s (record { shards = s.shards; shard = s.shard; next = s.next; rows = after; touched = touched }) (changed (λ r. seen_row w) (key_seen k) (seen s))
becomes s k w after touched updates = record {
  shows = same_table _ _ s.next (λ name. ap seen_row (row_after k w s.rows after updates name) ∙ if_row (ledger.key_eq name (key_seen k)) w (row_in s.rows name));
  shards = refl;
  shard = refl;
}

if_fits : (b : Bool) (w row : Option Record) → RowFits w → RowFits row → RowFits (if b then w else row)
if_fits true w row new old = new
if_fits false w row new old = old

pub fits_after : (k : Key) (w : Option Record) (rows after : Rows) → UpdatesAt k w rows after → RowFits w → RowsFit rows → RowsFit after
fits_after k w rows after updates new old name = rw (row_after k w rows after updates name) (if_fits (ledger.key_eq name (key_seen k)) w (row_in rows name) new (old name))

widths_after : (k : Key) (w : Option Record) (rows after : Rows) → UpdatesAt k w rows after → (is_some w ≡ true → IsKeyInWidth (key_seen k)) → KeysInWidth rows → KeysInWidth after
widths_after k w rows after updates here old name some =
    let there : is_some (if ledger.key_eq name (key_seen k) then w else row_in rows name) ≡ true = sym (ap is_some (row_after k w rows after updates name)) ∙ some in
    elim (cases_Bool (ledger.key_eq name (key_seen k))) [
      | inl same ↦
          subst IsKeyInWidth (sym (basics.same_key name (key_seen k) same))
          (here (sym (ap (λ (b : Bool). is_some (if b then w else row_in rows name)) same) ∙ there))
      | inr other ↦ old name (sym (ap (λ (b : Bool). is_some (if b then w else row_in rows name)) other) ∙ there)
    ]

pub kept_after : (k : Key) (w : Option Record) (rows after : Rows) → UpdatesAt k w rows after → RowFits w → (is_some w ≡ true → IsKeyInWidth (key_seen k)) → IsKeptTable rows → IsKeptTable after
kept_after k w rows after updates fits here old = record {
  fit = fits_after k w rows after updates fits old.fit;
  widths = widths_after k w rows after updates here old.widths;
}

-- a record that was taken out, changed and put back
if_twice : (b : Bool) (r r' s t u : Seen) → (b ≡ true → r ≡ s) → (if b then r else (if b then u else t)) ≡ (if b then s else t)
if_twice true r r' s t u h = h refl
if_twice false r r' s t u h = refl

pub back_again : (change : Seen → Seen) (k : ledger.Key) (r : Seen) (t : Table) → r ≡ change (t.at k) → changed (λ old. r) k (changed (λ old. unknown_record) k t) ≡ changed change k t
back_again change k r t is = same_table _ _ t.next (λ name. if_twice (ledger.key_eq name k) r r (change (t.at name)) (t.at name) unknown_record (λ same. subst (λ z. r ≡ change (t.at z)) (sym (basics.same_key name k same)) is))

pub unknown_there : (k : ledger.Key) (t : Table) → (changed (λ old. unknown_record) k t).at k ≡ unknown_record
unknown_there k t = rw (basics.key_refl k) refl

-- what is unknown stays so
if_same : (b : Bool) (r t : Seen) → (b ≡ true → t ≡ r) → t ≡ (if b then r else t)
if_same true r t h = h refl
if_same false r t h = refl

pub unchanged : (k : ledger.Key) (r : Seen) (t : Table) → t.at k ≡ r → t ≡ changed (λ old. r) k t
unchanged k r t is = same_table _ _ t.next (λ name. if_same (ledger.key_eq name k) r (t.at name) (λ same. subst (λ z. t.at z ≡ r) (sym (basics.same_key name k same)) is))

pub becomes_again : (a b c : Stored) (change : Seen → Seen) (k : ledger.Key) (r : Seen) → ShowsTable a b (changed (λ old. unknown_record) k (seen a)) → ShowsTable b c (changed (λ old. r) k (seen b)) → r ≡ change ((seen a).at k) → ShowsTable a c (changed change k (seen a))
becomes_again a b c change k r left there is = record {
  shows = there.shows ∙ ap (λ t. changed (λ old. r) k t) left.shows ∙ back_again change k r (seen a) is;
  shards = there.shards ∙ left.shards;
  shard = there.shard ∙ left.shard;
}

pub gone : (a b : Stored) (k : ledger.Key) → ShowsTable a b (changed (λ old. unknown_record) k (seen a)) → (seen b).at k ≡ unknown_record
gone a b k left = ap (λ t. t.at k) left.shows ∙ unknown_there k (seen a)

pub with_marks : (a b : Stored) (t : Table) → ShowsTable a b t → MarksTouched a b → Becomes a b t
with_marks a b t shown marks = record { shows = shown.shows; shards = shown.shards; shard = shown.shard; marks = marks }

-- what is found fits
pub found_fits : (rows : Rows) (k : Key) → RowsFit rows → (found : Option (Bor Record)) → option_copied found ≡ lookup (is_at (key_cmp k)) rows → IfSome found (λ row. HoldsFit row.now.state)
found_fits rows k fits None is = tt
found_fits rows k fits (Some row) is =
    let stored : RowFits (Some row.now) = subst (λ found. RowFits found) (sym (is ∙ find_row rows k)) (fits (key_seen k)) in
    stored.kept.holds

pub found_stored : (rows : Rows) (k : Key) → RowsFit rows → (found : Option (Bor Record)) → option_copied found ≡ lookup (is_at (key_cmp k)) rows → IfSome found (λ row. IsStored row.now)
found_stored rows k fits None is = tt
found_stored rows k fits (Some row) is = subst (λ found. RowFits found) (sym (is ∙ find_row rows k)) (fits (key_seen k))
