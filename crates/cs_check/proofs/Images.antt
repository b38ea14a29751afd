-- Entries under keys as entries under encoded keys, and what is found there.
use Rattle.std.proofs.Common.{◌≡◌, ◌+◌, Bool, true, false, cond, List, [], ◌∷◌, map, Option, Some, None, is_some, Less, Equal, Greater, refl, sym, ap, ◌∙◌, arith}
use Rattle.std.specs.Option.{option_or}
use Rattle.std.specs.List.{AllByRecursion}
use Rattle.std.specs.List.Sorted.{IsStrictlySortedBy}
use Rattle.std.specs.Map.{keys_of, lookup}
use Rattle.std.specs.BTreeMap.{is_at, insert_entry}
use Rattle.std.specs.Ordering.{is_eq, match_ordering, ordering_reverse}
use Rattle.std.specs.declared.cmp.Ordering.{Ordering}
use Rattle.std.proofs.lemmas.Bool.{both_ways}
use Rattle.std.proofs.lemmas.Cmp.{nat_list_cmp_total, tied_itself}
use Rattle.std.proofs.lemmas.Map.Lookups.{exact_bytes}
use Rattle.std.proofs.lemmas.Map.Keys.{Less-from_sorted, sorted_from_all_adjacent}
use Rattle.cs_base.specs.declared.key.Key.{Key}
use Rattle.cs_base.specs.declared.key.Key.TheVariants as key
use Rattle.cs_base.proofs.KeyOrder.{dummies_cmp}
use Rattle.cs_ledger.specs.Ledger.{Bytes}
use Rattle.cs_ledger.specs.Session as ledger
use Rattle.cs_merkle_kept.specs.Leaves.{KeyedHashes, byte_order, all_put, AreRising}
use Rattle.cs_tx.specs.Sessions.{key_seen}
use Rattle.cs_table.specs.Seen.{is_under, IsKeyInWidth}
use Rattle.cs_table.proofs.Rows.{key_cmp, same_key}
use Rattle.cs_check_rules.specs.Root.{ledger_key_bytes}
use Rattle.cs_check.specs.Leaves.{leaf_hash_in, IsKey, AreKeys}

-- ---- encoded keys are in the order of the keys

pub bytes_order : (a b : Key) → IsKeyInWidth (key_seen a) → IsKeyInWidth (key_seen b) → byte_order (ledger_key_bytes (key_seen a)) (ledger_key_bytes (key_seen b)) ≡ key_cmp a b
bytes_order (key.Object a) (key.Object b) wide wide' = refl
bytes_order (key.Object a) (key.Dummy t m) wide wide' = refl
bytes_order (key.Dummy s n) (key.Object b) wide wide' = refl
bytes_order (key.Dummy s n) (key.Dummy t m) wide wide' = dummies_cmp s t n m wide.0 wide'.0 wide.1 wide'.1

same_test : (q k : Key) → IsKeyInWidth (key_seen q) → IsKeyInWidth (key_seen k) → is_at (byte_order (ledger_key_bytes (key_seen q))) (ledger_key_bytes (key_seen k)) ≡ is_under (key_seen q) k
same_test q k wide wide' = ap is_eq (bytes_order q k wide wide') ∙ same_key q k

bytes_test : (name : ledger.Key) (k : Key) → IsKeyInWidth name → IsKeyInWidth (key_seen k) → is_at (byte_order (ledger_key_bytes name)) (ledger_key_bytes (key_seen k)) ≡ is_under name k
bytes_test (ledger.Object d) k wide wide' = same_test (key.Object d) k wide wide'
bytes_test (ledger.Dummy s n) k wide wide' = same_test (key.Dummy s n) k wide wide'

-- ---- entries under encoded keys

module _ {X : Type 0} (h : Key × X → Bytes) where
  abbrev pub image : List (Key × X) → KeyedHashes
  image es = map (λ e. (ledger_key_bytes (key_seen e.0), h e)) es

  abbrev pub Wide : List (Key × X) → Type 0
  Wide es = AllByRecursion (λ e. IsKeyInWidth (key_seen e.0)) es

  image_after : (k : Key) (es : List (Key × X)) → IsKeyInWidth (key_seen k) → Wide es → AllByRecursion (λ other. key_cmp k other ≡ Less) (keys_of es) → AllByRecursion (λ other. byte_order (ledger_key_bytes (key_seen k)) other ≡ Less) (keys_of (image es))
  image_after k [] wide wides after = tt
  image_after k (e ∷ es) wide wides after = (bytes_order k e.0 wide wides.0 ∙ after.0, image_after k es wide wides.1 after.1)

  pub image_sorted : (es : List (Key × X)) → Wide es → IsStrictlySortedBy key_cmp (keys_of es) → IsStrictlySortedBy byte_order (keys_of (image es))
  unfolding IsStrictlySortedBy
  image_sorted [] wide sorted = tt
  image_sorted (e ∷ es) wide sorted = (image_after e.0 es wide.0 wide.1 sorted.0, image_sorted es wide.1 sorted.1)

  pub image_found : (es : List (Key × X)) → Wide es → (name : ledger.Key) → IsKeyInWidth name → leaf_hash_in (image es) (ledger_key_bytes name) ≡ lookup (is_under name) (map (λ e. (e.0, h e)) es)
  image_found [] wide name in_width = refl
  image_found (e ∷ es) wide name in_width =
      ap (λ (test : Bool). cond test (Some (h e)) (leaf_hash_in (image es) (ledger_key_bytes name))) (bytes_test name e.0 in_width wide.0)
      ∙ ap (λ (found : Option Bytes). cond (is_under name e.0) (Some (h e)) found) (image_found es wide.1 name in_width)

  by_test : (bytes : Bytes) (e : Key × X) (es : List (Key × X)) (o : Ordering) → byte_order bytes (ledger_key_bytes (key_seen e.0)) ≡ o → IsKeyInWidth (key_seen e.0)
      → (is_some (leaf_hash_in (image es) bytes) ≡ true → IsKey bytes) → is_some (cond (is_eq o) (Some (h e)) (leaf_hash_in (image es) bytes)) ≡ true → IsKey bytes
  by_test bytes e es Less is wide later some = later some
  by_test bytes e es Equal is wide later some = record { name = key_seen e.0; width = wide; is = exact_bytes bytes (ledger_key_bytes (key_seen e.0)) is }
  by_test bytes e es Greater is wide later some = later some

  pub image_keys : (es : List (Key × X)) → Wide es → AreKeys (image es)
  image_keys [] wide bytes some = absurd (both_ways false refl some)
  image_keys (e ∷ es) wide bytes some = by_test bytes e es (byte_order bytes (ledger_key_bytes (key_seen e.0))) refl wide.0 (image_keys es wide.1 bytes) some

-- ---- what is found after leaves are put

both_some : (t : Bool) (v v' : Bytes) (r : Option Bytes) → cond t (Some v) r ≡ cond t (Some v) (cond t (Some v') r)
both_some true v v' r = refl
both_some false v v' r = refl

apart : (k x q : Bytes) → byte_order k x ≡ Greater → (o p : Ordering) → byte_order q x ≡ o → byte_order q k ≡ p → (v w : Bytes) (r : Option Bytes)
    → cond (is_eq o) (Some w) (cond (is_eq p) (Some v) r) ≡ cond (is_eq p) (Some v) (cond (is_eq o) (Some w) r)
apart k x q greater Equal Equal at_x at_k v w r =
    let same : k ≡ x = sym (exact_bytes q k at_k) ∙ exact_bytes q x at_x in
    let no_way : Equal ≡ Greater = sym (tied_itself nat_list_cmp_total k) ∙ ap (byte_order k) same ∙ greater in
    absurd (let bad = no_way in cc)
apart k x q greater Equal Less at_x at_k v w r = refl
apart k x q greater Equal Greater at_x at_k v w r = refl
apart k x q greater Less p at_x at_k v w r = refl
apart k x q greater Greater p at_x at_k v w r = refl

module _ (k v q : Bytes) where
  by_order : (e : Bytes × Bytes) (es : KeyedHashes) (o : Ordering) → byte_order k e.0 ≡ o
      → leaf_hash_in (insert_entry byte_order es k v) q ≡ cond (is_at (byte_order q) k) (Some v) (leaf_hash_in es q)
      → leaf_hash_in (match_ordering o ((k, v) ∷ e ∷ es) ((e.0, v) ∷ es) (e ∷ insert_entry byte_order es k v)) q ≡ cond (is_at (byte_order q) k) (Some v) (leaf_hash_in (e ∷ es) q)
  by_order e es Less is later = refl
  by_order e es Equal is later =
      let same : k ≡ e.0 = exact_bytes k e.0 is in
      both_some (is_at (byte_order q) e.0) v e.1 (leaf_hash_in es q)
      ∙ ap (λ (z : Bytes). cond (is_at (byte_order q) z) (Some v) (leaf_hash_in (e ∷ es) q)) (sym same)
  by_order e es Greater is later =
      ap (λ (found : Option Bytes). cond (is_at (byte_order q) e.0) (Some e.1) found) later
      ∙ apart k e.0 q is (byte_order q e.0) (byte_order q k) refl refl v e.1 (leaf_hash_in es q)

  pub found_after : (es : KeyedHashes) → leaf_hash_in (insert_entry byte_order es k v) q ≡ cond (is_at (byte_order q) k) (Some v) (leaf_hash_in es q)
  found_after [] = refl
  found_after (e ∷ es) = by_order e es (byte_order k e.0) refl (found_after es)

-- a key before all of these isn't found among them
none_after : (q k : Bytes) (es : KeyedHashes) → byte_order q k ≡ Equal → AllByRecursion (λ other. byte_order k other ≡ Less) (keys_of es) → leaf_hash_in es q ≡ None
none_after q k [] same after = refl
none_after q k (e ∷ es) same after =
    let less : byte_order q e.0 ≡ Less = ap (λ (z : Bytes). byte_order z e.0) (exact_bytes q k same) ∙ after.0 in
    ap (λ (o : Ordering). cond (is_eq o) (Some e.1) (leaf_hash_in es q)) less ∙ none_after q k es same after.1

put_first : (w : Bytes × Bytes) (ws : KeyedHashes) (q : Bytes) (r : Option Bytes) (o : Ordering) → byte_order q w.0 ≡ o → (o ≡ Equal → leaf_hash_in ws q ≡ None)
    → option_or (leaf_hash_in ws q) (cond (is_eq o) (Some w.1) r) ≡ option_or (cond (is_eq o) (Some w.1) (leaf_hash_in ws q)) r
put_first w ws q r Less is none = refl
put_first w ws q r Equal is none = ap (λ (found : Option Bytes). option_or found (Some w.1)) (none refl)
put_first w ws q r Greater is none = refl

pub found_after_all : (ws es : KeyedHashes) → IsStrictlySortedBy byte_order (keys_of ws) → (q : Bytes) → leaf_hash_in (all_put es ws) q ≡ option_or (leaf_hash_in ws q) (leaf_hash_in es q)
unfolding IsStrictlySortedBy
found_after_all [] es sorted q = refl
found_after_all (w ∷ ws) es sorted q =
    found_after_all ws (insert_entry byte_order es w.0 w.1) sorted.1 q
    ∙ ap (λ (found : Option Bytes). option_or (leaf_hash_in ws q) found) (found_after w.0 w.1 q es)
    ∙ put_first w ws q (leaf_hash_in es q) (byte_order q w.0) refl (λ same. none_after q w.0 ws same sorted.0)

-- ---- lists in order in which the same is found

none_below : (q : Bytes) (es : KeyedHashes) → AllByRecursion (λ other. byte_order q other ≡ Less) (keys_of es) → leaf_hash_in es q ≡ None
none_below q [] after = refl
none_below q (e ∷ es) after = ap (λ (o : Ordering). cond (is_eq o) (Some e.1) (leaf_hash_in es q)) after.0 ∙ none_below q es after.1

less_all : (q k : Bytes) (es : KeyedHashes) → byte_order q k ≡ Less → AllByRecursion (λ other. byte_order k other ≡ Less) (keys_of es) → AllByRecursion (λ other. byte_order q other ≡ Less) (keys_of es)
less_all q k [] less after = tt
less_all q k (e ∷ es) less after = (nat_list_cmp_total.trans q k e.0 less after.0, less_all q k es less after.1)

at_head : (x : Bytes × Bytes) (xs : KeyedHashes) → leaf_hash_in (x ∷ xs) x.0 ≡ Some x.1
at_head x xs = ap (λ (o : Ordering). cond (is_eq o) (Some x.1) (leaf_hash_in xs x.0)) (tied_itself nat_list_cmp_total x.0)

some_none : (v : Bytes) → Some v ≡ None → ⊥
some_none v same = let no_way = same in cc

module _ (x y : Bytes × Bytes) (xs ys : KeyedHashes) (after : AllByRecursion (λ k. byte_order x.0 k ≡ Less) (keys_of xs)) (after' : AllByRecursion (λ k. byte_order y.0 k ≡ Less) (keys_of ys))
    (same : (q : Bytes) → leaf_hash_in (x ∷ xs) q ≡ leaf_hash_in (y ∷ ys) q) where
  by_heads : (r : Ordering) → byte_order x.0 y.0 ≡ r → x.0 ≡ y.0
  by_heads Less less = absurd (some_none x.1 (sym (at_head x xs) ∙ same x.0 ∙ none_below x.0 (y ∷ ys) (less, less_all x.0 y.0 ys less after')))
  by_heads Equal is = exact_bytes x.0 y.0 is
  by_heads Greater greater =
      let less : byte_order y.0 x.0 ≡ Less = nat_list_cmp_total.antisymm y.0 x.0 ∙ ap ordering_reverse greater in
      absurd (some_none y.1 (sym (at_head y ys) ∙ sym (same y.0) ∙ none_below y.0 (x ∷ xs) (less, less_all y.0 x.0 xs less after)))

  heads : x.0 ≡ y.0
  heads = by_heads (byte_order x.0 y.0) refl

  values : x.1 ≡ y.1
  values =
      let both : Some x.1 ≡ Some y.1 = sym (at_head x xs) ∙ same x.0 ∙ ap (leaf_hash_in (y ∷ ys)) heads ∙ at_head y ys in
      cc

  past_heads : (q : Bytes) (o : Ordering) → byte_order q x.0 ≡ o → is_eq o ≡ false → leaf_hash_in xs q ≡ leaf_hash_in ys q
  past_heads q o at_x other =
      sym (ap (λ (test : Bool). cond test (Some x.1) (leaf_hash_in xs q)) (ap is_eq at_x ∙ other))
      ∙ same q
      ∙ ap (λ (test : Bool). cond test (Some y.1) (leaf_hash_in ys q)) (ap is_eq (ap (byte_order q) (sym heads) ∙ at_x) ∙ other)

  in_tails : (q : Bytes) (o : Ordering) → byte_order q x.0 ≡ o → leaf_hash_in xs q ≡ leaf_hash_in ys q
  in_tails q Less at_x = past_heads q Less at_x refl
  in_tails q Equal at_x = none_after q x.0 xs at_x after ∙ sym (none_after q y.0 ys (ap (byte_order q) (sym heads) ∙ at_x) after')
  in_tails q Greater at_x = past_heads q Greater at_x refl

  tails : (q : Bytes) → leaf_hash_in xs q ≡ leaf_hash_in ys q
  tails q = in_tails q (byte_order q x.0) refl

pub same_tree : (es fs : KeyedHashes) → IsStrictlySortedBy byte_order (keys_of es) → IsStrictlySortedBy byte_order (keys_of fs) → ((q : Bytes) → leaf_hash_in es q ≡ leaf_hash_in fs q) → es ≡ fs
unfolding IsStrictlySortedBy
same_tree [] [] sorted sorted' same = refl
same_tree [] (y ∷ ys) sorted sorted' same = absurd (some_none y.1 (sym (at_head y ys) ∙ sym (same y.0)))
same_tree (x ∷ xs) [] sorted sorted' same = absurd (some_none x.1 (sym (at_head x xs) ∙ same x.0))
same_tree (x ∷ xs) (y ∷ ys) sorted sorted' same =
    let rest = same_tree xs ys sorted.1 sorted'.1 (tails x y xs ys sorted.0 sorted'.0 same) in
    λ i. (heads x y xs ys sorted.0 sorted'.0 same i, values x y xs ys sorted.0 sorted'.0 same i) ∷ rest i

-- ---- rising keys, in both forms

pub rising_from : (keys : List Bytes) → IsStrictlySortedBy byte_order keys → AreRising keys
rising_from keys sorted i j less within = Less-from_sorted byte_order keys i j [] sorted less within

pub sorted_from : (keys : List Bytes) → AreRising keys → IsStrictlySortedBy byte_order keys
sorted_from keys rising = sorted_from_all_adjacent nat_list_cmp_total keys [] (λ i within. rising i (i + 1) (omega arith) within)
