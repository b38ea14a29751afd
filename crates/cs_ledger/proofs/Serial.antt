-- The history is serial, and the tables' objects are the ledger's.
use Rattle.std.proofs.Common.{◌≡◌, ℕ, List, [], ◌∷◌, ◌++◌, Bool, true, false, ◌⊎◌, inl, inr, Option, Some, None, refl, sym, ap, ◌∙◌, subst}
use Rattle.std.specs.Prelude.{if◌then◌else◌}
use Rattle.std.proofs.lemmas.Bool.{cases_Bool, both_ways, or_cases, or_left, or_right}
use Rattle.cs_base.specs.Lists.{IsIn}
use Rattle.cs_ledger.specs.Ledger.{Bytes, Item, Transaction, Ledger, is_well_formed, names, has, object_named, genesis_ledger, ledger_after, ledger_of, Takes, Serial}
use Rattle.cs_base.specs.Options.{or_else}
use Rattle.cs_ledger.specs.Session.{Session, Rules, Object}
use Rattle.cs_ledger.specs.Table.{Vote, Commit, State, Unknown, Active, Locked, Inactive, Shared, Table, is_held_by}
use Rattle.cs_ledger.specs.ShardWorld.{is_listed, AreNamedApart}
use Rattle.cs_ledger.proofs.Basics.{same_bytes, bytes_from, in_left, in_right, in_either}
use Rattle.cs_ledger.proofs.Names.{item_has, has_item, item_named, named_item, at_none, at_item}
use Rattle.cs_ledger.proofs.Settled.{settle}
use Rattle.cs_ledger.proofs.States.{IsRead, IsReadable}
use Rattle.cs_ledger.proofs.Covered.{Covered}

pub ledger_of-append : (ledger : Ledger) (txs : List Transaction) (tx : Transaction) → ledger_of ledger (txs ++ tx ∷ []) ≡ ledger_after (ledger_of ledger txs) tx
ledger_of-append ledger [] tx = refl
ledger_of-append ledger (other ∷ txs) tx = ledger_of-append (ledger_after ledger other) txs tx

Serial-append : (ledger : Ledger) (txs : List Transaction) (tx : Transaction) → Serial ledger txs → Takes (ledger_of ledger txs) tx → Serial ledger (txs ++ tx ∷ [])
Serial-append ledger [] tx s t = (t, tt)
Serial-append ledger (other ∷ txs) tx s t = (s.0, Serial-append (ledger_after ledger other) txs tx s.1 t)

-- an output of one of these transactions has that name
pub record OutputOf (txs : List Transaction) (name : Bytes) : Type 0 where
  pub tx : Transaction
  pub within : IsIn tx txs
  pub item : Item
  pub output : IsIn item tx.outputs
  pub name_is : item.name ≡ name

output_later : (txs more : List Transaction) (name : Bytes) → OutputOf txs name → OutputOf (txs ++ more) name
output_later txs more name o = record { tx = o.tx; within = in_left _ _ _ o.within; item = o.item; output = o.output; name_is = o.name_is }

-- the ledger after a history, and what its names are
pub record Told (rules : Rules) (known : List Session) (txs : List Transaction) (ledger : Ledger) : Type 0 where
  pub from : (tx : Transaction) → IsIn tx txs → (x : Session) × (IsIn x known) × (x.transaction ≡ tx)
  pub created : (name : Bytes) → IsIn name ledger.created → IsIn name (names rules.genesis) ⊎ OutputOf txs name
  pub held : (name object : Bytes) → ledger.active name ≡ Some object → IsIn name ledger.created
  pub serial : Serial (genesis_ledger rules.genesis) txs

pub listed_is : (tx : Transaction) (txs : List Transaction) → is_listed tx txs ≡ true → (other : Transaction) × (IsIn other txs) × (tx.digest ≡ other.digest)
listed_is tx [] e = absurd (both_ways _ refl e)
listed_is tx (other ∷ txs) e =
    elim (or_cases _ _ e) [
      | inl t ↦ (other, inl refl, same_bytes _ _ t)
      | inr t ↦ let r = listed_is tx txs t in (r.0, inr r.1, r.2)
    ]

pub is_listed_from : (tx other : Transaction) (txs : List Transaction) → IsIn other txs → tx.digest ≡ other.digest → is_listed tx txs ≡ true
is_listed_from tx other [] h e = absurd h
is_listed_from tx other (first ∷ txs) (inl q) e = or_left _ _ (bytes_from _ _ (e ∙ ap (λ (z : Transaction). z.digest) q))
is_listed_from tx other (first ∷ txs) (inr h) e = or_right _ _ (is_listed_from tx other txs h e)

pub settle_commit : (held : Bool) (noted : Option Vote) (gone room : Bool) → settle held noted gone room ≡ Some Commit → (held ≡ true) ⊎ (noted ≡ Some Commit)
settle_commit true noted gone room e = inl refl
settle_commit false (Some v) gone room e = inr e
settle_commit false None true room e = cc
settle_commit false None false true e = cc
settle_commit false None false false e = cc

pub held_is : (d : Bytes) (state : State) → is_held_by d state ≡ true → ((object : Bytes) × (state ≡ Locked object d)) ⊎ (state ≡ Inactive d)
held_is d Unknown e = cc
held_is d (Active object) e = cc
held_is d (Locked object by) e = inl (object, ap (Locked object) (sym (same_bytes d by e)))
held_is d (Shared object readers) e = cc
held_is d (Inactive by) e = inr (ap Inactive (sym (same_bytes d by e)))

not_readable : (state : State) (held by object : Bytes) → state ≡ Locked held by → IsReadable object state → ⊥
not_readable state held by object l (inl e) = let q : Locked held by ≡ Active object = sym l ∙ e in cc
not_readable state held by object l (inr s) = let q : Locked held by ≡ Shared object s.0 = sym l ∙ s.1 in cc

no_object : (state : State) (object : Bytes) → state ≡ Unknown → IsReadable object state → ⊥
no_object state object u (inl e) = let q : Unknown ≡ Active object = sym u ∙ e in cc
no_object state object u (inr s) = let q : Unknown ≡ Shared object s.0 = sym u ∙ s.1 in cc

unless_none : (b : Bool) (o : Option Bytes) (object : Bytes) → (if b then None else o) ≡ Some object → o ≡ Some object
unless_none true o object e = cc
unless_none false o object e = e

-- a transaction goes to the end of the history
module _ (rules : Rules) (known : List Session) (apart : AreNamedApart rules.genesis known) (commits : Session → Type 0) (txs : List Transaction) (ledger : Ledger) (told : Told rules known txs ledger) (ledger_is : ledger ≡ ledger_of (genesis_ledger rules.genesis) txs) (y : Session) (knows : IsIn y known) (well : is_well_formed y.transaction ≡ true) (approved : y.transaction.approved ≡ true) (unlisted : is_listed y.transaction txs ≡ false)
    (tables : ℕ → Table) (covered : (shard : ℕ) → Covered rules known commits ledger.active txs shard (tables shard)) (none : commits y → ⊥)
    (locks : (item : Item) → IsIn item y.transaction.inputs → ((tables (rules.shard_of item.name)).at (Object item.name)).state ≡ Locked item.object y.digest)
    (reads : (item : Item) → IsIn item y.transaction.references → IsRead item.object y.digest ((tables (rules.shard_of item.name)).at (Object item.name)).state) where
  fresh : (item : Item) → IsIn item y.transaction.outputs → IsIn item.name ledger.created → ⊥
  fresh item h i =
      elim (told.created item.name i) [
        | inl g ↦ apart.genesis_names y item knows h g
        | inr o ↦
            let x = told.from o.tx o.within in
            let same = apart.outputs y x.0 item o.item knows x.1 h (subst (λ (z : Transaction). IsIn o.item z.outputs) (sym x.2) o.output) (sym o.name_is) in
            both_ways _ unlisted (is_listed_from y.transaction o.tx txs o.within (same ∙ ap (λ (z : Transaction). z.digest) x.2))
      ]

  in_ledger : (item : Item) → IsRead item.object y.digest ((tables (rules.shard_of item.name)).at (Object item.name)).state → ledger.active item.name ≡ Some item.object
  in_ledger item (inr s) = (covered (rules.shard_of item.name)).active_is item.name item.object (inr (s.0, s.1))
  in_ledger item (inl l) =
      elim ((covered (rules.shard_of item.name)).locked_is item.name item.object y.digest l) [
        | inl there ↦ there
        | inr by ↦
            let xy : by.x ≡ y = apart.session by.x y by.knows knows by.digest in
            absurd (none (subst commits xy by.holds.all))
      ]

  takes : Takes ledger y.transaction
  takes =
      record {
        well_formed = well;
        approved = approved;
        inputs = λ item h. in_ledger item (inl (locks item h));
        references = λ item h. in_ledger item (reads item h);
        fresh = fresh;
        differ = apart.places y knows;
      }

  -- a name that the ledger has and that is no input stays
  stays : (name object : Bytes) → ledger.active name ≡ Some object → has name (names y.transaction.inputs) ≡ false → (ledger_after ledger y.transaction).active name ≡ Some object
  stays name object e other =
      let new : object_named y.transaction.outputs name ≡ None = at_none _ _ (λ i.
      let o = named_item name y.transaction.outputs i in
      fresh o.0 o.1 (subst (λ n. IsIn n ledger.created) (sym o.2) (told.held name object e))) in
      (λ i. or_else (new i) (if other i then None else e i))

  pub told_after : Told rules known (txs ++ y.transaction ∷ []) (ledger_after ledger y.transaction)
  told_after =
      record {
        from = λ tx h. elim (in_either tx txs (y.transaction ∷ []) h) [
          | inl a ↦ told.from tx a
          | inr b ↦ elim b [ inl same ↦ (y, knows, sym same) | inr n ↦ absurd n ]
        ];
        created = λ name h. elim (in_either name ledger.created (names y.transaction.outputs) h) [
          | inl a ↦ elim (told.created name a) [ inl g ↦ inl g | inr o ↦ inr (output_later _ _ _ o) ]
          | inr b ↦
              let o = named_item name y.transaction.outputs b in
              inr (record { tx = y.transaction; within = in_right _ txs _ (inl refl); item = o.0; output = o.1; name_is = o.2 })
        ];
        held = λ name object e.
            elim (cases_Bool (has name (names y.transaction.outputs))) [
              | inl t ↦
                  let o = has_item name y.transaction.outputs t in
                  in_right _ ledger.created _ (subst (λ n. IsIn n (names y.transaction.outputs)) (sym o.2) (item_named o.0 _ o.1))
              | inr f ↦
                  let new : object_named y.transaction.outputs name ≡ None = at_none _ _ (λ i.
                  let o = named_item name y.transaction.outputs i in
                  both_ways _ f (ap (λ n. has n (names y.transaction.outputs)) (sym o.2) ∙ item_has o.0 _ o.1)) in
                  let q : (if has name (names y.transaction.inputs) then None else ledger.active name) ≡ Some object =
                  ap (λ o. or_else o (if has name (names y.transaction.inputs) then None else ledger.active name)) (sym new) ∙ e in
                  in_left _ _ _ (told.held name object (unless_none (has name (names y.transaction.inputs)) (ledger.active name) object q))
            ];
        serial = Serial-append (genesis_ledger rules.genesis) txs y.transaction told.serial (subst (λ l. Takes l y.transaction) ledger_is takes);
      }

  pub covered_after : (later : Session → Type 0) → ((x : Session) → commits x → later x) → later y → (shard : ℕ) → Covered rules known later (ledger_after ledger y.transaction).active (txs ++ y.transaction ∷ []) shard (tables shard)
  covered_after later up all shard =
      let old = covered shard in
      -- an input of the session is locked by it in this table, if it is at home here
      let locked_here : (name : Bytes) → has name (names y.transaction.inputs) ≡ true → rules.shard_of name ≡ shard → (object : Bytes) × (((tables shard).at (Object name)).state ≡ Locked object y.digest) =
      λ name t home.
      let i = has_item name y.transaction.inputs t in
      let l = locks i.0 i.1 in
      (i.0.object, (λ j. ((tables (sym (ap rules.shard_of (sym i.2) ∙ home) j)).at (Object (i.2 j))).state) ∙ l) in
      record {
        active_is = λ name object e.
            elim (cases_Bool (has name (names y.transaction.inputs))) [
              | inl t ↦
                  elim (old.home name) [
                    | inl u ↦ absurd (no_object _ object u e)
                    | inr home ↦ absurd (let l = locked_here name t home in not_readable _ l.0 y.digest object l.1 e)
                  ]
              | inr f ↦ stays name object (old.active_is name object e) f
            ];
        locked_is = λ name object d e.
            elim (old.locked_is name object d e) [
              | inl there ↦
                  elim (cases_Bool (has name (names y.transaction.inputs))) [
                    | inl t ↦
                        elim (old.home name) [
                          | inl u ↦ absurd (let q : Unknown ≡ Locked object d = sym u ∙ e in cc)
                          | inr home ↦
                              let l = locked_here name t home in
                              let q : Locked l.0 y.digest ≡ Locked object d = sym l.1 ∙ e in
                              let same : y.digest ≡ d = cc in
                              inr (record { x = y; knows = knows; digest = same; holds = record { all = all; input = t } })
                        ]
                    | inr f ↦ inl (stays name object there f)
                  ]
              | inr by ↦ inr (record { x = by.x; knows = by.knows; digest = by.digest; holds = record { all = up by.x by.holds.all; input = by.holds.input } })
            ];
        home = old.home;
        unknown_is = λ name e home tx h item i same.
            elim (in_either tx txs (y.transaction ∷ []) h) [
              | inl a ↦
                  elim (cases_Bool (has name (names y.transaction.inputs))) [
                    | inl t ↦ absurd (let l = locked_here name t home in let q : Locked l.0 y.digest ≡ Unknown = sym l.1 ∙ e in cc)
                    | inr f ↦ stays name item.object (old.unknown_is name e home tx a item i same) f
                  ]
              | inr b ↦
                  elim b [
                    | inl is ↦
                        let j = subst (λ (z : Transaction). IsIn item z.outputs) is i in
                        let at : object_named y.transaction.outputs name ≡ Some item.object = ap (object_named y.transaction.outputs) (sym same) ∙ at_item y.transaction.outputs item (apart.places y knows) j in
                        ap (λ o. or_else o (if has name (names y.transaction.inputs) then None else ledger.active name)) at
                    | inr n ↦ absurd n
                  ]
            ];
      }
