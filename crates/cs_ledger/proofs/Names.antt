-- Objects of a shard, as pieces and as items.
use Rattle.std.proofs.Common.{◌≡◌, ℕ, List, [], ◌∷◌, Bool, true, not, ◌&&◌, inl, inr, Some, None, refl, sym, ap, ◌∙◌}
use Rattle.std.specs.Prelude.{bytes_eq, ◌==◌, if◌then◌else◌, nat_lt}
use Rattle.std.proofs.lemmas.Bool.{cases_Bool, cond_both, both_ways, and_parts, or_cases, or_left, or_right, eqb-true, eqb-false, not-true}
use Rattle.cs_base.specs.Lists.{IsIn, is_empty}
use Rattle.cs_ledger.specs.Ledger.{Bytes, Item, names, has, object_named, all_differ}
use Rattle.cs_ledger.specs.Session.{Session, Rules, Key, Object, Dummy, Piece, DummyName, key_eq, has_key, object_under, objects_in, dummies_in, used_up, read_only}
use Rattle.cs_ledger.specs.Table.{Table, new_dummy, new_pieces}
use Rattle.cs_ledger.proofs.Basics.{same_bytes, bytes_from, same_key, in_left, in_either, has_piece, piece_has}

abbrev pub piece_of : Item → Piece
piece_of item = record { key = Object item.name; object = item.object }

-- an item of these, in the shard, of which the piece is
pub record ItemOf (rules : Rules) (shard : ℕ) (items : List Item) (piece : Piece) : Type 0 where
  pub item : Item
  pub within : IsIn item items
  pub is : piece ≡ piece_of item
  pub home : rules.shard_of item.name ≡ shard

pub object_piece : (rules : Rules) (shard : ℕ) (items : List Item) (piece : Piece) → IsIn piece (objects_in rules shard items) → ItemOf rules shard items piece
object_piece rules shard [] piece h = absurd h
object_piece rules shard (item ∷ items) piece h =
    cond_both (rules.shard_of item.name == shard) (piece_of item ∷ objects_in rules shard items) (objects_in rules shard items) (λ l. IsIn piece l → ItemOf rules shard (item ∷ items) piece)
    (λ e j. elim j [
      | inl is ↦ record { item = item; within = inl refl; is = is; home = eqb-true _ _ e }
      | inr i ↦ let r = object_piece rules shard items piece i in record { item = r.item; within = inr r.within; is = r.is; home = r.home }
    ])
    (λ e j. let r = object_piece rules shard items piece j in record { item = r.item; within = inr r.within; is = r.is; home = r.home })
    h

pub in_objects : (rules : Rules) (shard : ℕ) (items : List Item) (item : Item) → IsIn item items → rules.shard_of item.name ≡ shard → IsIn (piece_of item) (objects_in rules shard items)
in_objects rules shard [] item h home = absurd h
in_objects rules shard (other ∷ items) item h home =
    cond_both (rules.shard_of other.name == shard) (piece_of other ∷ objects_in rules shard items) (objects_in rules shard items) (λ l. IsIn (piece_of item) l)
    (λ e. elim h [ inl same ↦ inl (ap piece_of same) | inr i ↦ inr (in_objects rules shard items item i home) ])
    (λ e. elim h [
      | inl same ↦ absurd (eqb-false _ _ e (ap (λ (z : Item). rules.shard_of z.name) (sym same) ∙ home))
      | inr i ↦ in_objects rules shard items item i home
    ])

-- no dummy is an object
pub dummy_piece : (rules : Rules) (shard : ℕ) (dummies : List DummyName) (piece : Piece) → IsIn piece (dummies_in rules shard dummies) → (name : Bytes) → Object name ≡ piece.key → ⊥
dummy_piece rules shard [] piece h name e = h
dummy_piece rules shard (dummy ∷ dummies) piece h name e =
    cond_both (dummy.shard == shard) (record { key = Dummy dummy.shard dummy.serial; object = rules.dummy_object } ∷ dummies_in rules shard dummies) (dummies_in rules shard dummies) (λ l. IsIn piece l → ⊥)
    (λ t i. elim i [
      | inl is ↦ (let q : Object name ≡ Dummy dummy.shard dummy.serial = e ∙ ap (λ (p : Piece). p.key) is in cc)
      | inr j ↦ dummy_piece rules shard dummies piece j name e
    ])
    (λ t i. dummy_piece rules shard dummies piece i name e)
    h

same_object : (a b : Bytes) → Object a ≡ Object b → a ≡ b
same_object a b e = cc

-- an object that a session uses up in a shard is one of its inputs, and of that shard
pub used_object : (rules : Rules) (x : Session) (shard : ℕ) (name : Bytes) → has_key (Object name) (used_up rules x shard) ≡ true → (item : Item) × (IsIn item x.transaction.inputs) × (name ≡ item.name) × (rules.shard_of name ≡ shard)
used_object rules x shard name e =
    let p = has_piece (Object name) _ e in
    elim (in_either p.0 (objects_in rules shard x.transaction.inputs) (dummies_in rules shard x.dummies) p.1) [
      | inl a ↦
          let r = object_piece rules shard x.transaction.inputs p.0 a in
          let q = same_object name r.item.name (p.2 ∙ ap (λ (z : Piece). z.key) r.is) in
          (r.item, r.within, q, ap rules.shard_of q ∙ r.home)
      | inr b ↦ absurd (dummy_piece rules shard x.dummies p.0 b name p.2)
    ]

pub read_object : (rules : Rules) (x : Session) (shard : ℕ) (name : Bytes) → has_key (Object name) (read_only rules x shard) ≡ true → rules.shard_of name ≡ shard
read_object rules x shard name e =
    let p = has_piece (Object name) _ e in
    let r = object_piece rules shard x.transaction.references p.0 p.1 in
    let q = same_object name r.item.name (p.2 ∙ ap (λ (z : Piece). z.key) r.is) in
    ap rules.shard_of q ∙ r.home

pub input_used : (rules : Rules) (x : Session) (shard : ℕ) (item : Item) → IsIn item x.transaction.inputs → rules.shard_of item.name ≡ shard → has_key (Object item.name) (used_up rules x shard) ≡ true
input_used rules x shard item h home =
    piece_has (piece_of item) _ (in_left _ _ _ (in_objects rules shard x.transaction.inputs item h home))

pub under_piece : (pieces : List Piece) (key : Key) (object : Bytes) → object_under pieces key ≡ Some object → (piece : Piece) × (IsIn piece pieces) × (key ≡ piece.key) × (piece.object ≡ object)
under_piece [] key object e = cc
under_piece (piece ∷ pieces) key object e =
    elim (cases_Bool (key_eq key piece.key)) [
      | inl t ↦
          let q : Some piece.object ≡ Some object = ap (λ (b : Bool). if b then Some piece.object else object_under pieces key) (sym t) ∙ e in
          let o : piece.object ≡ object = cc in
          (piece, inl refl, same_key _ _ t, o)
      | inr t ↦
          let r = under_piece pieces key object (ap (λ (b : Bool). if b then Some piece.object else object_under pieces key) (sym t) ∙ e) in
          (r.0, inr r.1, r.2, r.3)
    ]

new_dummy_piece : (rules : Rules) (shard : ℕ) (t : Table) (used : List Piece) (piece : Piece) → IsIn piece (new_dummy rules shard t used) → (name : Bytes) → Object name ≡ piece.key → ⊥
new_dummy_piece rules shard t used piece h name e =
    cond_both (not (is_empty used) && nat_lt t.next 18446744073709551615) (record { key = Dummy shard t.next; object = rules.dummy_object } ∷ []) [] (λ l. IsIn piece l → ⊥)
    (λ b i. elim i [
      | inl is ↦ (let q : Object name ≡ Dummy shard t.next = e ∙ ap (λ (p : Piece). p.key) is in cc)
      | inr j ↦ j
    ])
    (λ b i. i)
    h

-- a new object is an output of the session, and of that shard
pub new_object : (rules : Rules) (x : Session) (shard : ℕ) (t : Table) (name object : Bytes) → object_under (new_pieces rules shard t x) (Object name) ≡ Some object → (item : Item) × (IsIn item x.transaction.outputs) × (item.name ≡ name) × (item.object ≡ object) × (rules.shard_of name ≡ shard)
new_object rules x shard t name object e =
    let p = under_piece _ _ _ e in
    elim (in_either p.0 (objects_in rules shard x.transaction.outputs) (new_dummy rules shard t (dummies_in rules shard x.dummies)) p.1) [
      | inl a ↦
          let r = object_piece rules shard x.transaction.outputs p.0 a in
          let q = same_object name r.item.name (p.2 ∙ ap (λ (z : Piece). z.key) r.is) in
          (r.item, r.within, sym q, sym (ap (λ (z : Piece). z.object) r.is) ∙ p.3, ap rules.shard_of q ∙ r.home)
      | inr b ↦ absurd (new_dummy_piece rules shard t _ p.0 b name p.2)
    ]

pub item_has : (item : Item) (items : List Item) → IsIn item items → has item.name (names items) ≡ true
item_has item [] h = absurd h
item_has item (other ∷ items) (inl e) = or_left _ _ (bytes_from _ _ (ap (λ (z : Item). z.name) e))
item_has item (other ∷ items) (inr i) = or_right _ _ (item_has item items i)

pub has_item : (name : Bytes) (items : List Item) → has name (names items) ≡ true → (item : Item) × (IsIn item items) × (name ≡ item.name)
has_item name [] e = absurd (both_ways _ refl e)
has_item name (item ∷ items) e =
    elim (or_cases _ _ e) [
      | inl t ↦ (item, inl refl, same_bytes _ _ t)
      | inr t ↦ let r = has_item name items t in (r.0, inr r.1, r.2)
    ]

pub item_named : (item : Item) (items : List Item) → IsIn item items → IsIn item.name (names items)
item_named item [] h = h
item_named item (other ∷ items) (inl e) = inl (ap (λ (z : Item). z.name) e)
item_named item (other ∷ items) (inr i) = inr (item_named item items i)

pub named_item : (name : Bytes) (items : List Item) → IsIn name (names items) → (item : Item) × (IsIn item items) × (item.name ≡ name)
named_item name [] h = absurd h
named_item name (item ∷ items) (inl e) = (item, inl refl, sym e)
named_item name (item ∷ items) (inr i) = let r = named_item name items i in (r.0, inr r.1, r.2)

pub at_none : (items : List Item) (name : Bytes) → (IsIn name (names items) → ⊥) → object_named items name ≡ None
at_none [] name h = refl
at_none (item ∷ items) name h =
    cond_both (bytes_eq name item.name) (Some item.object) (object_named items name) (λ o. o ≡ None)
    (λ e. absurd (h (inl (same_bytes _ _ e))))
    (λ e. at_none items name (λ i. h (inr i)))

pub at_some : (items : List Item) (name object : Bytes) → object_named items name ≡ Some object → (item : Item) × (IsIn item items) × (item.name ≡ name) × (item.object ≡ object)
at_some [] name object e = cc
at_some (item ∷ items) name object e =
    elim (cases_Bool (bytes_eq name item.name)) [
      | inl t ↦
          let q : Some item.object ≡ Some object = ap (λ (b : Bool). if b then Some item.object else object_named items name) (sym t) ∙ e in
          let o : item.object ≡ object = cc in
          (item, inl refl, sym (same_bytes _ _ t), o)
      | inr t ↦
          let r = at_some items name object (ap (λ (b : Bool). if b then Some item.object else object_named items name) (sym t) ∙ e) in
          (r.0, inr r.1, r.2, r.3)
    ]

pub at_item : (items : List Item) (item : Item) → all_differ (names items) ≡ true → IsIn item items → object_named items item.name ≡ Some item.object
at_item [] item d h = absurd h
at_item (other ∷ items) item d (inl e) =
    ap (λ (b : Bool). if b then Some other.object else object_named items item.name) (bytes_from _ _ (ap (λ (z : Item). z.name) e))
    ∙ ap (λ (z : Item). Some z.object) (sym e)
at_item (other ∷ items) item d (inr i) =
    let p = and_parts _ _ d in
    cond_both (bytes_eq item.name other.name) (Some other.object) (object_named items item.name) (λ o. o ≡ Some item.object)
    (λ t. absurd (both_ways _ (not-true _ p.0) (ap (λ z. has z (names items)) (sym (same_bytes _ _ t)) ∙ item_has item items i)))
    (λ t. at_item items item p.1 i)
