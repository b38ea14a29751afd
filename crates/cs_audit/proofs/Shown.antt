-- What the kept ledger shows, step by step.
use Rattle.std.proofs.Common.{◌≡◌, ℕ, zero, suc, ◌+◌, ◌<◌, Bool, true, false, ◌&&◌, ◌||◌, not, cond, List, [], ◌∷◌, ◌++◌, length, take, drop, get_or, map, option_map, Option, Some, None, IfSome, is_some, refl, ap, sym, subst, ◌∙◌, arith, add-one, append_assoc, append-nil}
use Rattle.std.specs.Prelude.{if◌then◌else◌, bytes_eq, IsTrue, ◌↔◌}
use Rattle.std.specs.List.{list_any, flat_map, AllByRecursion}
use Rattle.std.specs.Map.{lookup}
use Rattle.std.proofs.Math.Seq.{drop-cons}
use Rattle.std.proofs.lemmas.List.{map-append, take_more}
use Rattle.std.proofs.lemmas.Grind.{flat_map-append}
use Rattle.std.proofs.lemmas.Bool.{true≢false}
use Rattle.cs_base.specs.Options.{or_else}
use Rattle.cs_base.specs.declared.key.Key.{Key}
use Rattle.cs_base.specs.declared.key.Key.TheVariants as key
use Rattle.cs_table.specs.Genesis.{keyed_of, with_keyed}
use Rattle.cs_tx_value.specs.declared.object.Object.{Object}
use Rattle.cs_tx_value.specs.Object.{object_encoding, ObjectFits}
use Rattle.cs_tx_types.specs.Transaction.{Keyed, TraceFits}
use Rattle.cs_tx_types.specs.declared.trace.Trace.{Trace}
use Rattle.cs_tx.specs.Sessions.{item_of}
use Rattle.cs_tx.specs.Digest.{outputs_at, outputs_from}
use Rattle.cs_tx.specs.Uses.{names as names_in}
use Rattle.cs_table.proofs.Objects.{same_encoding}
use Rattle.cs_ledger.specs.Ledger.{Bytes, Item, Ledger as Plain, names, has, apart, all_differ, object_named, genesis_ledger}
use Rattle.cs_ledger.proofs.Basics.{same_bytes, bytes_from}
use Rattle.cs_audit_rules.specs.Slots.{is_just}
use Rattle.cs_audit_rules.specs.History.{holds_all}
use Rattle.cs_audit.specs.declared.ledger.Ledger.{Ledger}
use Rattle.cs_audit.specs.Ledgers.{ShowsLedger, without, with_created, with_objects, with_appeared}

-- ---- lists

pub recursion_at : {X : Type 0} (P : X → Type 0) (xs : List X) (k : ℕ) (d : X) → AllByRecursion P xs → k < length xs → P (get_or xs k d)
recursion_at P [] k d all less = absurd (omega arith)
recursion_at P (x ∷ xs) zero d all less = all.0
recursion_at P (x ∷ xs) (suc k) d all less = recursion_at P xs k d all.1 (omega arith)

pub has-append : (name : Bytes) (xs ys : List Bytes) → has name (xs ++ ys) ≡ (has name xs || has name ys)
has-append name [] ys = refl
has-append name (x ∷ xs) ys = ap (λ b. bytes_eq name x || b) (has-append name xs ys) ∙ assoc (bytes_eq name x) (has name xs) (has name ys)
  where
    assoc : (a b c : Bool) → (a || (b || c)) ≡ ((a || b) || c)
    assoc true b c = refl
    assoc false b c = refl

pub at-append : (name : Bytes) (xs ys : List Item) → object_named (xs ++ ys) name ≡ or_else (object_named xs name) (object_named ys name)
at-append name [] ys = refl
at-append name (x ∷ xs) ys = by (bytes_eq name x.name) (at-append name xs ys)
  where
    by : (test : Bool) → object_named (xs ++ ys) name ≡ or_else (object_named xs name) (object_named ys name) → (if test then Some x.object else object_named (xs ++ ys) name) ≡ or_else (if test then Some x.object else object_named xs name) (object_named ys name)
    by true rest = refl
    by false rest = rest

pub names-items : (items : List Keyed) → names (map item_of items) ≡ names_in items
names-items [] = refl
names-items (item ∷ items) = ap (λ xs. item.0 ∷ xs) (names-items items)

-- what is left at a place
pub left-at : {X : Type 0} (xs : List X) (k : ℕ) (d : X) → k < length xs → drop k xs ≡ get_or xs k d ∷ drop (k + 1) xs
left-at xs k d less = rw add-one (drop-cons xs k d less)

turned : (a b : Bytes) (test : Bool) → bytes_eq a b ≡ test → bytes_eq b a ≡ test
turned a b true is = bytes_from b a (sym (same_bytes a b is))
turned a b false is = by (bytes_eq b a) refl
  where
    by : (test : Bool) → bytes_eq b a ≡ test → bytes_eq b a ≡ false
    by true same = absurd (true≢false (sym (bytes_from a b (sym (same_bytes b a same))) ∙ is))
    by false other = other

-- ---- the ledger as it is shown

pub shows-same : (kept : Ledger) (ledger other : Plain) → ((name : Bytes) → ledger.active name ≡ other.active name) → ((name : Bytes) → has name ledger.created ≡ has name other.created)
    → ShowsLedger kept ledger → ShowsLedger kept other
shows-same kept ledger other active created shows = record {
  active = λ name. shows.active name ∙ active name;
  created = λ name. shows.created name ∙ created name;
  fits = shows.fits;
}

-- whether exactly an object is there
pub held : (kept : Ledger) (ledger : Plain) (item : Keyed) (found : Object) (same : Bool) → ShowsLedger kept ledger → Some found ≡ lookup (bytes_eq item.0) kept.active.entries → ObjectFits item.1 → IsTrue same ↔ (found ≡ item.1)
    → same ≡ is_just (object_encoding item.1) (ledger.active item.0)
held kept ledger item found same shows is fits test =
    let fit : ObjectFits found = subst (λ (o : Option Object). IfSome o ObjectFits) (sym is) (shows.fits item.0) in
    same_encoding found item.1 fit fits same test
    ∙ ap (λ (o : Option Object). is_just (object_encoding item.1) (option_map object_encoding o)) is
    ∙ ap (is_just (object_encoding item.1)) (shows.active item.0)

pub not-held : (kept : Ledger) (ledger : Plain) (item : Keyed) → ShowsLedger kept ledger → None ≡ lookup (bytes_eq item.0) kept.active.entries → false ≡ is_just (object_encoding item.1) (ledger.active item.0)
not-held kept ledger item shows is =
    ap (λ (o : Option Object). is_just (object_encoding item.1) (option_map object_encoding o)) is
    ∙ ap (is_just (object_encoding item.1)) (shows.active item.0)

-- ---- an object comes

abbrev put : Bytes → Object → Option Object → Bool → Option Object
put name object old same = cond same (Some object) old

-- an object under a name, where another object may have been
pub brings : (old new : Ledger) (ledger : Plain) (name : Bytes) (object : Object) → ShowsLedger old ledger → ObjectFits object → ((q : Bytes) → lookup (bytes_eq q) new.active.entries ≡ cond (bytes_eq name q) (Some object) (lookup (bytes_eq q) old.active.entries))
    → new.created.keys ≡ old.created.keys → ShowsLedger new (record ledger { active = λ q. if bytes_eq name q then Some (object_encoding object) else ledger.active q })
brings old new ledger name object shows fit updates same = record {
  active = λ q. ap (option_map object_encoding) (updates q) ∙ shown (bytes_eq name q) (lookup (bytes_eq q) old.active.entries) ∙ ap (λ o. if bytes_eq name q then Some (object_encoding object) else o) (shows.active q);
  created = λ q. ap (list_any (bytes_eq q)) same ∙ shows.created q;
  fits = λ q. subst (λ (o : Option Object). IfSome o ObjectFits) (sym (updates q)) (fitting (bytes_eq name q) (lookup (bytes_eq q) old.active.entries) (shows.fits q));
}
  where
    shown : (b : Bool) (o : Option Object) → option_map object_encoding (cond b (Some object) o) ≡ (if b then Some (object_encoding object) else option_map object_encoding o)
    shown true o = refl
    shown false o = refl

    fitting : (b : Bool) (o : Option Object) → IfSome o ObjectFits → IfSome (cond b (Some object) o) ObjectFits
    fitting true o h = fit
    fitting false o h = h

-- an object goes
pub goes : (old new : Ledger) (ledger : Plain) (name : Bytes) → ShowsLedger old ledger → ((q : Bytes) → lookup (bytes_eq q) new.active.entries ≡ cond (bytes_eq name q) None (lookup (bytes_eq q) old.active.entries))
    → new.created.keys ≡ old.created.keys → ShowsLedger new (record ledger { active = λ q. if bytes_eq name q then None else ledger.active q })
goes old new ledger name shows updates same = record {
  active = λ q. ap (option_map object_encoding) (updates q) ∙ shown (bytes_eq name q) (lookup (bytes_eq q) old.active.entries) ∙ ap (λ o. if bytes_eq name q then None else o) (shows.active q);
  created = λ q. ap (list_any (bytes_eq q)) same ∙ shows.created q;
  fits = λ q. subst (λ (o : Option Object). IfSome o ObjectFits) (sym (updates q)) (fitting (bytes_eq name q) (lookup (bytes_eq q) old.active.entries) (shows.fits q));
}
  where
    shown : (b : Bool) (o : Option Object) → option_map object_encoding (cond b None o) ≡ (if b then None else option_map object_encoding o)
    shown true o = refl
    shown false o = refl

    fitting : (b : Bool) (o : Option Object) → IfSome o ObjectFits → IfSome (cond b None o) ObjectFits
    fitting true o h = tt
    fitting false o h = h

any-append : (q : Bytes) (xs ys : List Bytes) → list_any (bytes_eq q) (xs ++ ys) ≡ (list_any (bytes_eq q) xs || list_any (bytes_eq q) ys)
any-append q [] ys = refl
any-append q (x ∷ xs) ys = ap (λ b. bytes_eq q x || b) (any-append q xs ys) ∙ assoc (bytes_eq q x) (list_any (bytes_eq q) xs) (list_any (bytes_eq q) ys)
  where
    assoc : (a b c : Bool) → (a || (b || c)) ≡ ((a || b) || c)
    assoc true b c = refl
    assoc false b c = refl

-- a name is created
pub creates : (old new : Ledger) (ledger : Plain) (name : Bytes) → ShowsLedger old ledger → new.created.keys ≡ (if list_any (bytes_eq name) old.created.keys then old.created.keys else old.created.keys ++ name ∷ [])
    → new.active.entries ≡ old.active.entries → ShowsLedger new (with_created (name ∷ []) ledger)
creates old new ledger name shows keys same = record {
  active = λ q. ap (λ es. option_map object_encoding (lookup (bytes_eq q) es)) same ∙ shows.active q;
  created = λ q. ap (list_any (bytes_eq q)) keys ∙ more q (list_any (bytes_eq name) old.created.keys) refl ∙ ap (λ b. b || has q (name ∷ [])) (shows.created q) ∙ sym (has-append q ledger.created (name ∷ []));
  fits = λ q. subst (λ es. IfSome (lookup (bytes_eq q) es) ObjectFits) (sym same) (shows.fits q);
}
  where
    -- a name that is there already adds nothing
    there : (q : Bytes) (xs : List Bytes) (test : Bool) → list_any (bytes_eq name) xs ≡ true → bytes_eq q name ≡ test → list_any (bytes_eq q) xs ≡ (list_any (bytes_eq q) xs || (test || false))
    there q xs true among is = subst (λ n. list_any (bytes_eq n) xs ≡ (list_any (bytes_eq n) xs || (true || false))) (sym (same_bytes q name is)) (among ∙ sym (ap (λ b. b || (true || false)) among))
    there q xs false among is = plain (list_any (bytes_eq q) xs)
      where
        plain : (b : Bool) → b ≡ (b || (false || false))
        plain true = refl
        plain false = refl

    more : (q : Bytes) (b : Bool) → list_any (bytes_eq name) old.created.keys ≡ b → list_any (bytes_eq q) (if b then old.created.keys else old.created.keys ++ name ∷ []) ≡ (list_any (bytes_eq q) old.created.keys || has q (name ∷ []))
    more q true among = there q old.created.keys (bytes_eq q name) among refl
    more q false among = any-append q old.created.keys (name ∷ [])

-- ---- the genesis

pub appears : (old new : Ledger) (ledger : Plain) (name : Bytes) (object : Object) → ShowsLedger old ledger → ObjectFits object → is_some (lookup (bytes_eq name) old.active.entries) ≡ false
    → ((q : Bytes) → lookup (bytes_eq q) new.active.entries ≡ cond (bytes_eq name q) (Some object) (lookup (bytes_eq q) old.active.entries)) → new.created.keys ≡ old.created.keys
    → ShowsLedger new (with_appeared name (object_encoding object) ledger)
appears old new ledger name object shows fit none updates same =
    shows-same new (record ledger { active = λ q. if bytes_eq name q then Some (object_encoding object) else ledger.active q }) (with_appeared name (object_encoding object) ledger)
    (λ q. at q (bytes_eq name q) refl) (λ q. refl) (brings old new ledger name object shows fit updates same)
  where
    missing : (o : Option Object) → is_some o ≡ false → None ≡ option_map object_encoding o
    missing None is = refl
    missing (Some found) is = absurd (true≢false is)

    none-there : None ≡ ledger.active name
    none-there = missing (lookup (bytes_eq name) old.active.entries) none ∙ shows.active name

    at : (q : Bytes) (test : Bool) → bytes_eq name q ≡ test → (if bytes_eq name q then Some (object_encoding object) else ledger.active q) ≡ or_else (ledger.active q) (if bytes_eq q name then Some (object_encoding object) else None)
    at q true is =
        ap (λ b. if b then Some (object_encoding object) else ledger.active q) is
        ∙ ap (λ (o : Option Bytes). or_else o (Some (object_encoding object))) (subst (λ z. None ≡ ledger.active z) (same_bytes name q is) none-there)
        ∙ sym (ap (λ (b : Bool). or_else (ledger.active q) (if b then Some (object_encoding object) else None)) (turned name q true is))
    at q false is =
        ap (λ b. if b then Some (object_encoding object) else ledger.active q) is
        ∙ more (ledger.active q) ∙ sym (ap (λ (b : Bool). or_else (ledger.active q) (if b then Some (object_encoding object) else None)) (turned name q false is))
      where
        more : (o : Option Bytes) → o ≡ or_else o None
        more None = refl
        more (Some bytes) = refl

-- one that is there already stays
pub there_stays : (old : Ledger) (ledger : Plain) (name object : Bytes) → ShowsLedger old ledger → is_some (lookup (bytes_eq name) old.active.entries) ≡ true → ShowsLedger old (with_appeared name object ledger)
there_stays old ledger name object shows some =
    shows-same old ledger (with_appeared name object ledger) (λ q. at q (bytes_eq q name) refl) (λ q. refl) shows
  where
    found : (o : Option Object) (more : Option Bytes) → is_some o ≡ true → option_map object_encoding o ≡ or_else (option_map object_encoding o) more
    found None more is = absurd (true≢false (sym is))
    found (Some x) more is = refl

    there : (q : Bytes) → q ≡ name → (more : Option Bytes) → ledger.active q ≡ or_else (ledger.active q) more
    there q is more =
        let at_q : is_some (lookup (bytes_eq q) old.active.entries) ≡ true = ap (λ z. is_some (lookup (bytes_eq z) old.active.entries)) is ∙ some in
        subst (λ (o : Option Bytes). o ≡ or_else o more) (shows.active q) (found (lookup (bytes_eq q) old.active.entries) more at_q)

    at : (q : Bytes) (test : Bool) → bytes_eq q name ≡ test → ledger.active q ≡ or_else (ledger.active q) (if bytes_eq q name then Some object else None)
    at q true is = there q (same_bytes q name is) (if bytes_eq q name then Some object else None)
    at q false is = more (ledger.active q) ∙ sym (ap (λ (b : Bool). or_else (ledger.active q) (if b then Some object else None)) is)
      where
        more : (o : Option Bytes) → o ≡ or_else o None
        more None = refl
        more (Some bytes) = refl

names-append : (xs ys : List Item) → names (xs ++ ys) ≡ names xs ++ names ys
names-append [] ys = refl
names-append (x ∷ xs) ys = ap (λ zs. x.name ∷ zs) (names-append xs ys)

pub begins : (mid new : Ledger) (items : List Keyed) (name : Bytes) (object : Object) → ShowsLedger mid (with_appeared name (object_encoding object) (genesis_ledger (map item_of items)))
    → new.created.keys ≡ (if list_any (bytes_eq name) mid.created.keys then mid.created.keys else mid.created.keys ++ name ∷ []) → new.active.entries ≡ mid.active.entries
    → ShowsLedger new (genesis_ledger (map item_of (items ++ (name, object) ∷ [])))
begins mid new items name object shows keys same =
    let all : map item_of (items ++ (name, object) ∷ []) ≡ map item_of items ++ item_of (name, object) ∷ [] = map-append item_of items ((name, object) ∷ []) in
    shows-same new (with_created (name ∷ []) (with_appeared name (object_encoding object) (genesis_ledger (map item_of items)))) (genesis_ledger (map item_of (items ++ (name, object) ∷ [])))
    (λ q. sym (ap (λ xs. object_named xs q) all ∙ at-append q (map item_of items) (item_of (name, object) ∷ [])))
    (λ q. sym (ap (λ xs. has q (names xs)) all ∙ ap (has q) (names-append (map item_of items) (item_of (name, object) ∷ []))))
    (creates mid new (with_appeared name (object_encoding object) (genesis_ledger (map item_of items))) name shows keys same)

keyed-append : (xs : List (Key × Object)) (x : Key × Object) → keyed_of (xs ++ x ∷ []) ≡ keyed_of xs ++ with_keyed x.0 x.1 []
keyed-append [] x = refl
keyed-append (y ∷ xs) x = ap (with_keyed y.0 y.1) (keyed-append xs x) ∙ by y.0 (keyed_of xs) (with_keyed x.0 x.1 [])
  where
    by : (key : Key) (more last : List Keyed) → with_keyed key y.1 (more ++ last) ≡ with_keyed key y.1 more ++ last
    by (key.Object name) more last = refl
    by (key.Dummy shard serial) more last = refl

pub one-begun : (new : Ledger) (items : List (Key × Object)) (k : ℕ) (item : Key × Object) → k < length items → item ≡ get_or items k item
    → ShowsLedger new (genesis_ledger (map item_of (keyed_of (take k items) ++ with_keyed item.0 item.1 []))) → ShowsLedger new (genesis_ledger (map item_of (keyed_of (take (k + 1) items))))
one-begun new items k item less is shows =
    let more : take (k + 1) items ≡ take k items ++ item ∷ [] = take_more items k item less ∙ ap (λ x. take k items ++ x ∷ []) (sym is) in
    subst (λ xs. ShowsLedger new (genesis_ledger (map item_of xs))) (sym (ap keyed_of more ∙ keyed-append (take k items) item)) shows

-- ---- what a transaction uses

pub all-held : (ledger : Plain) (items : List Keyed) (k : ℕ) (item : Keyed) → k < length items → item ≡ get_or items k item → is_just (item_of item).object (ledger.active (item_of item).name) ≡ true
    → holds_all ledger (map item_of (drop k items)) ≡ holds_all ledger (map item_of (drop (k + 1) items))
all-held ledger items k item less is one =
    ap (λ xs. holds_all ledger (map item_of xs)) (left-at items k item less ∙ ap (λ x. x ∷ drop (k + 1) items) (sym is))
    ∙ ap (λ b. b && holds_all ledger (map item_of (drop (k + 1) items))) one

pub one-missing : (ledger : Plain) (items : List Keyed) (k : ℕ) (item : Keyed) → k < length items → item ≡ get_or items k item → is_just (item_of item).object (ledger.active (item_of item).name) ≡ false
    → holds_all ledger (map item_of (drop k items)) ≡ false
one-missing ledger items k item less is one =
    ap (λ xs. holds_all ledger (map item_of xs)) (left-at items k item less ∙ ap (λ x. x ∷ drop (k + 1) items) (sym is))
    ∙ ap (λ b. b && holds_all ledger (map item_of (drop (k + 1) items))) one

holds-append : (ledger : Plain) (xs ys : List Keyed) → holds_all ledger (map item_of (xs ++ ys)) ≡ (holds_all ledger (map item_of xs) && holds_all ledger (map item_of ys))
holds-append ledger [] ys = refl
holds-append ledger (x ∷ xs) ys =
    ap (λ b. is_just (item_of x).object (ledger.active (item_of x).name) && b) (holds-append ledger xs ys)
    ∙ assoc (is_just (item_of x).object (ledger.active (item_of x).name)) (holds_all ledger (map item_of xs)) (holds_all ledger (map item_of ys))
  where
    assoc : (a b c : Bool) → (a && (b && c)) ≡ ((a && b) && c)
    assoc true b c = refl
    assoc false b c = refl

-- what traces use is there
abbrev pub uses_held : Plain → List Trace → Bool
uses_held ledger traces =
    holds_all ledger (map item_of (flat_map (λ trace. trace.inputs) traces)) && holds_all ledger (map item_of (flat_map (λ trace. trace.references) traces))

module _ (ledger : Plain) (traces : List Trace) (k : ℕ) (trace : Trace) (less : k < length traces) (is : trace ≡ get_or traces k trace) where
  traces-left : drop k traces ≡ trace ∷ drop (k + 1) traces
  traces-left = left-at traces k trace less ∙ ap (λ x. x ∷ drop (k + 1) traces) (sym is)

  traces-split : uses_held ledger (drop k traces)
      ≡ ((holds_all ledger (map item_of trace.inputs) && holds_all ledger (map item_of (flat_map (λ trace. trace.inputs) (drop (k + 1) traces))))
      && (holds_all ledger (map item_of trace.references) && holds_all ledger (map item_of (flat_map (λ trace. trace.references) (drop (k + 1) traces)))))
  traces-split =
      ap (uses_held ledger) traces-left
      ∙ (λ i. holds-append ledger trace.inputs (flat_map (λ trace. trace.inputs) (drop (k + 1) traces)) i && holds-append ledger trace.references (flat_map (λ trace. trace.references) (drop (k + 1) traces)) i)

  pub uses-go-on : holds_all ledger (map item_of trace.inputs) ≡ true → holds_all ledger (map item_of trace.references) ≡ true → uses_held ledger (drop k traces) ≡ uses_held ledger (drop (k + 1) traces)
  uses-go-on a b =
      traces-split ∙ (λ i. (a i && holds_all ledger (map item_of (flat_map (λ trace. trace.inputs) (drop (k + 1) traces)))) && (b i && holds_all ledger (map item_of (flat_map (λ trace. trace.references) (drop (k + 1) traces)))))

  pub no-inputs : holds_all ledger (map item_of trace.inputs) ≡ false → uses_held ledger (drop k traces) ≡ false
  no-inputs a = traces-split ∙ ap (λ b. (b && holds_all ledger (map item_of (flat_map (λ trace. trace.inputs) (drop (k + 1) traces)))) && (holds_all ledger (map item_of trace.references) && holds_all ledger (map item_of (flat_map (λ trace. trace.references) (drop (k + 1) traces))))) a

  pub no-references : holds_all ledger (map item_of trace.references) ≡ false → uses_held ledger (drop k traces) ≡ false
  no-references b =
      traces-split ∙ ap (λ z. (holds_all ledger (map item_of trace.inputs) && holds_all ledger (map item_of (flat_map (λ trace. trace.inputs) (drop (k + 1) traces)))) && (z && holds_all ledger (map item_of (flat_map (λ trace. trace.references) (drop (k + 1) traces))))) b
      ∙ none (holds_all ledger (map item_of trace.inputs) && holds_all ledger (map item_of (flat_map (λ trace. trace.inputs) (drop (k + 1) traces))))
    where
      none : (b : Bool) → (b && false) ≡ false
      none true = refl
      none false = refl

-- ---- names that are created one after the other

abbrev pub all_new : List Bytes → List Bytes → Bool
all_new created [] = true
all_new created (name ∷ more) = not (has name created) && all_new (created ++ name ∷ []) more

-- a name more apart from the others
apart-more : (some others : List Bytes) (name : Bytes) → apart some (others ++ name ∷ []) ≡ (apart some others && not (has name some))
apart-more [] others name = refl
apart-more (x ∷ some) others name =
    (λ i. not (has-append x others (name ∷ []) i) && apart-more some others name i)
    ∙ by (has x others) (apart some others) (has name some) (bytes_eq x name) (bytes_eq name x) (swapped x name)
  where
    swapped : (a b : Bytes) → bytes_eq a b ≡ bytes_eq b a
    swapped a b = both (bytes_eq a b) (bytes_eq b a) refl refl
      where
        both : (p q : Bool) → bytes_eq a b ≡ p → bytes_eq b a ≡ q → p ≡ q
        both true true h k = refl
        both false false h k = refl
        both true false h k = sym (bytes_from b a (sym (same_bytes a b h))) ∙ k
        both false true h k = sym h ∙ bytes_from a b (sym (same_bytes b a k))

    by : (a b c d e : Bool) → d ≡ e → (not (a || (d || false)) && (b && not c)) ≡ ((not a && b) && not (e || c))
    by true b c d e same = refl
    by false b c true true same = sym (zeros b)
      where
        zeros : (b : Bool) → (b && false) ≡ false
        zeros true = refl
        zeros false = refl
    by false b c false false same = refl
    by false b c true false same = cc
    by false b c false true same = cc

pub all-new : (created new : List Bytes) → all_new created new ≡ (apart new created && all_differ new)
all-new created [] = refl
all-new created (name ∷ more) =
    ap (λ b. not (has name created) && b) (all-new (created ++ name ∷ []) more ∙ ap (λ b. b && all_differ more) (apart-more more created name))
    ∙ by (not (has name created)) (apart more created) (not (has name more)) (all_differ more)
  where
    by : (a b c d : Bool) → (a && ((b && c) && d)) ≡ ((a && b) && (c && d))
    by true true c d = refl
    by true false c d = refl
    by false b c d = refl

-- ---- what a transaction does

pub is-new : (b : Bool) → not b ≡ true → b ≡ false
is-new true is = absurd (true≢false (sym is))
is-new false is = refl

pub is-old : (b : Bool) → not b ≡ false → b ≡ true
is-old true is = refl
is-old false is = absurd (true≢false is)

pub one-created : (ledger : Plain) (new : Ledger) (outputs : List Keyed) (k : ℕ) (item : Keyed) → k < length outputs → item ≡ get_or outputs k item
    → ShowsLedger new (with_created (item.0 ∷ []) (with_created (names_in (take k outputs)) ledger)) → ShowsLedger new (with_created (names_in (take (k + 1) outputs)) ledger)
one-created ledger new outputs k item less is shows =
    let more : names_in (take (k + 1) outputs) ≡ names_in (take k outputs) ++ item.0 ∷ [] =
    ap names_in (take_more outputs k item less ∙ ap (λ x. take k outputs ++ x ∷ []) (sym is)) ∙ map-append (λ (x : Keyed). x.0) (take k outputs) (item ∷ []) in
    shows-same new _ (with_created (names_in (take (k + 1) outputs)) ledger) (λ q. refl)
    (λ q. ap (has q) (append_assoc ledger.created (names_in (take k outputs)) (item.0 ∷ []) ∙ ap (λ xs. ledger.created ++ xs) (sym more))) shows

-- whether the rest is new
pub rest-new : (created : List Bytes) (outputs : List Keyed) (k : ℕ) (item : Keyed) → k < length outputs → item ≡ get_or outputs k item → has item.0 (created ++ names_in (take k outputs)) ≡ false
    → all_new (created ++ names_in (take k outputs)) (names_in (drop k outputs)) ≡ all_new (created ++ names_in (take (k + 1) outputs)) (names_in (drop (k + 1) outputs))
rest-new created outputs k item less is new =
    let more : names_in (take (k + 1) outputs) ≡ names_in (take k outputs) ++ item.0 ∷ [] =
    ap names_in (take_more outputs k item less ∙ ap (λ x. take k outputs ++ x ∷ []) (sym is)) ∙ map-append (λ (x : Keyed). x.0) (take k outputs) (item ∷ []) in
    ap (λ xs. all_new (created ++ names_in (take k outputs)) (names_in xs)) (left-at outputs k item less ∙ ap (λ x. x ∷ drop (k + 1) outputs) (sym is))
    ∙ ap (λ b. not b && all_new ((created ++ names_in (take k outputs)) ++ item.0 ∷ []) (names_in (drop (k + 1) outputs))) new
    ∙ ap (λ xs. all_new xs (names_in (drop (k + 1) outputs))) (append_assoc created (names_in (take k outputs)) (item.0 ∷ []) ∙ ap (λ xs. created ++ xs) (sym more))

pub rest-old : (created : List Bytes) (outputs : List Keyed) (k : ℕ) (item : Keyed) → k < length outputs → item ≡ get_or outputs k item → has item.0 (created ++ names_in (take k outputs)) ≡ true
    → all_new (created ++ names_in (take k outputs)) (names_in (drop k outputs)) ≡ false
rest-old created outputs k item less is old =
    ap (λ xs. all_new (created ++ names_in (take k outputs)) (names_in xs)) (left-at outputs k item less ∙ ap (λ x. x ∷ drop (k + 1) outputs) (sym is))
    ∙ ap (λ b. not b && all_new ((created ++ names_in (take k outputs)) ++ item.0 ∷ []) (names_in (drop (k + 1) outputs))) old

-- objects that are used up
pub one-gone : (ledger : Plain) (new : Ledger) (items : List Keyed) (k : ℕ) (item : Keyed) → k < length items → item ≡ get_or items k item
    → ShowsLedger new (record ledger { active = λ q. if bytes_eq item.0 q then None else (if has q (names_in (take k items)) then None else ledger.active q) }) → ShowsLedger new (without (names_in (take (k + 1) items)) ledger)
one-gone ledger new items k item less is shows =
    let more : names_in (take (k + 1) items) ≡ names_in (take k items) ++ item.0 ∷ [] =
    ap names_in (take_more items k item less ∙ ap (λ x. take k items ++ x ∷ []) (sym is)) ∙ map-append (λ (x : Keyed). x.0) (take k items) (item ∷ []) in
    shows-same new _ (without (names_in (take (k + 1) items)) ledger)
    (λ q. by (bytes_eq item.0 q) (has q (names_in (take k items))) (ledger.active q)
    ∙ sym (ap (λ (b : Bool). if b then None else ledger.active q) (ap (has q) more ∙ has-append q (names_in (take k items)) (item.0 ∷ []) ∙ ap (λ b. has q (names_in (take k items)) || (b || false)) (turned item.0 q (bytes_eq item.0 q) refl))))
    (λ q. refl) shows
  where
    by : (b c : Bool) (o : Option Bytes) → (if b then None else (if c then None else o)) ≡ (if c || (b || false) then None else o)
    by true true o = refl
    by true false o = refl
    by false true o = refl
    by false false o = refl

pub trace-gone : (ledger : Plain) (new : Ledger) (traces : List Trace) (k : ℕ) (trace : Trace) → k < length traces → trace ≡ get_or traces k trace
    → ShowsLedger new (without (names_in trace.inputs) (without (names_in (flat_map (λ trace. trace.inputs) (take k traces))) ledger))
    → ShowsLedger new (without (names_in (flat_map (λ trace. trace.inputs) (take (k + 1) traces))) ledger)
trace-gone ledger new traces k trace less is shows =
    let before : List Keyed = flat_map (λ trace. trace.inputs) (take k traces) in
    let more : names_in (flat_map (λ trace. trace.inputs) (take (k + 1) traces)) ≡ names_in before ++ names_in trace.inputs =
    ap (λ xs. names_in (flat_map (λ (t : Trace). t.inputs) xs)) (take_more traces k trace less ∙ ap (λ x. take k traces ++ x ∷ []) (sym is))
    ∙ ap names_in (flat_map-append (λ (t : Trace). t.inputs) (take k traces) (trace ∷ []) ∙ ap (λ xs. before ++ xs) (append-nil trace.inputs))
    ∙ map-append (λ (x : Keyed). x.0) before trace.inputs in
    shows-same new _ (without (names_in (flat_map (λ trace. trace.inputs) (take (k + 1) traces))) ledger)
    (λ q. by (has q (names_in trace.inputs)) (has q (names_in before)) (ledger.active q)
    ∙ sym (ap (λ (b : Bool). if b then None else ledger.active q) (ap (has q) more ∙ has-append q (names_in before) (names_in trace.inputs))))
    (λ q. refl) shows
  where
    by : (b c : Bool) (o : Option Bytes) → (if b then None else (if c then None else o)) ≡ (if c || b then None else o)
    by true true o = refl
    by true false o = refl
    by false true o = refl
    by false false o = refl

-- objects that are brought, the last of them first
pub one-brought : (ledger : Plain) (new : Ledger) (left done : List Keyed) (item : Keyed)
    → ShowsLedger new (record ledger { active = λ q. if bytes_eq item.0 q then Some (object_encoding item.1) else or_else (object_named (map item_of done) q) (ledger.active q) }) → ShowsLedger new (with_objects (map item_of (item ∷ done)) ledger)
one-brought ledger new left done item shows =
    shows-same new _ (with_objects (map item_of (item ∷ done)) ledger)
    (λ q. by (bytes_eq item.0 q) (object_named (map item_of done) q) (ledger.active q)
    ∙ sym (ap (λ (b : Bool). or_else (if b then Some (object_encoding item.1) else object_named (map item_of done) q) (ledger.active q)) (turned item.0 q (bytes_eq item.0 q) refl)))
    (λ q. refl) shows
  where
    by : (b : Bool) (found old : Option Bytes) → (if b then Some (object_encoding item.1) else or_else found old) ≡ or_else (if b then Some (object_encoding item.1) else found) old
    by true found old = refl
    by false found old = refl

-- what is taken from the end, and what was taken before
pub popped : (left shorter whole : List Keyed) (item : Keyed) → left ≡ shorter ++ item ∷ [] → left ++ drop (length left) whole ≡ whole
    → drop (length shorter) whole ≡ item ∷ drop (length left) whole
popped left shorter whole item is all =
    let parts : shorter ++ (item ∷ drop (length left) whole) ≡ whole = sym (append_assoc shorter (item ∷ []) (drop (length left) whole)) ∙ ap (λ xs. xs ++ drop (length left) whole) (sym is) ∙ all in
    ap (drop (length shorter)) (sym parts) ∙ drop-front shorter (item ∷ drop (length left) whole)
  where
    drop-front : (xs ys : List Keyed) → drop (length xs) (xs ++ ys) ≡ ys
    drop-front [] ys = refl
    drop-front (x ∷ xs) ys = drop-front xs ys

recursion-append : {X : Type 0} (P : X → Type 0) (xs ys : List X) → AllByRecursion P xs → AllByRecursion P ys → AllByRecursion P (xs ++ ys)
recursion-append P [] ys here later = later
recursion-append P (x ∷ xs) ys here later = (here.0, recursion-append P xs ys here.1 later)

pub recursion-front : {X : Type 0} (P : X → Type 0) (xs ys : List X) → AllByRecursion P (xs ++ ys) → AllByRecursion P xs
recursion-front P [] ys all = tt
recursion-front P (x ∷ xs) ys all = (all.0, recursion-front P xs ys all.1)

pub recursion-last : {X : Type 0} (P : X → Type 0) (xs : List X) (x : X) → AllByRecursion P (xs ++ x ∷ []) → P x
recursion-last P [] x all = all.0
recursion-last P (y ∷ xs) x all = recursion-last P xs x all.1

outputs-fit-at : (digest : List ℕ) (trace place : ℕ) (outputs : List Object) → AllByRecursion ObjectFits outputs → AllByRecursion (λ (item : Keyed). ObjectFits item.1) (outputs_at digest trace place outputs)
outputs-fit-at digest trace place [] fits = tt
outputs-fit-at digest trace place (object ∷ objects) fits = (fits.0, outputs-fit-at digest trace (place + 1) objects fits.1)

pub outputs-fit : (digest : List ℕ) (number : ℕ) (traces : List Trace) → AllByRecursion TraceFits traces → AllByRecursion (λ (item : Keyed). ObjectFits item.1) (flat_map (λ items. items) (outputs_from digest number traces))
outputs-fit digest number [] fits = tt
outputs-fit digest number (trace ∷ traces) fits =
    recursion-append (λ (item : Keyed). ObjectFits item.1) (outputs_at digest number 0 trace.outputs) _ (outputs-fit-at digest number 0 trace.outputs fits.0.outputs.1) (outputs-fit digest (number + 1) traces fits.1)
