-- A session is well formed where the ledger's session is.
use Rattle.std.proofs.Common.{◌≡◌, ℕ, nat_lt, nat_eq, Bool, true, false, not, ◌||◌, ◌&&◌, List, [], ◌∷◌, ◌++◌, map, length, Option, Some, None, is_none, bytes_eq, refl, ap, sym, ◌∙◌, if◌then◌else◌, arith}
use Rattle.std.specs.List.{list_any, list_all}
use Rattle.cs_base.specs.Lists.{is_empty}
use Rattle.cs_base.specs.Options.{or_else}
use Rattle.cs_base.specs.Key.{shard_of_key}
use Rattle.cs_base.specs.declared.config.Config.{Config}
use Rattle.cs_base.specs.declared.key.Key.TheVariants as key
use Rattle.cs_tx_types.specs.declared.transaction.Tx.{Tx}
use Rattle.cs_tx_types.specs.declared.session.Session.{Session}
use Rattle.cs_tx.specs.declared.malformed.Malformed.{Malformed}
use Rattle.cs_tx.specs.declared.malformed.Malformed.TheVariants.{NoInput}
use Rattle.cs_tx_types.specs.Transaction.{Keyed}
use Rattle.cs_tx.specs.Uses as Uses
use Rattle.cs_tx.specs.Uses.{inputs_of, references_of, names, used_names}
use Rattle.cs_tx.specs.WellFormed as Tests
use Rattle.cs_ledger.specs.Ledger as Ledger
use Rattle.cs_ledger.specs.Session as Seen
use Rattle.cs_tx.specs.Sessions.{item_of, dummy_name, ledger_session}
use Rattle.cs_tx.proofs.ShardsSeen.{everything, all-items, names-everything, IsPlaced, among, concerns-session_of}

-- ---- each test, as the ledger says it

names-items : (items : List Keyed) → Ledger.names (map item_of items) ≡ names items
names-items [] = refl
names-items (item ∷ items) = ap (λ zs. item.0 ∷ zs) (names-items items)

has-last : (name last : List ℕ) (others : List (List ℕ)) → Ledger.has name (others ++ last ∷ []) ≡ (Ledger.has name others || bytes_eq name last)
has-last name last [] = elim (bytes_eq name last) as (λ b. (b || false) ≡ (false || b)) [ true ↦ refl | false ↦ refl ]
has-last name last (other ∷ others) =
    ap (λ b. bytes_eq name other || b) (has-last name last others)
    ∙ or-assoc (bytes_eq name other) (Ledger.has name others) (bytes_eq name last)
  where
    or-assoc : (a b c : Bool) → (a || (b || c)) ≡ ((a || b) || c)
    or-assoc true b c = refl
    or-assoc false b c = refl

same-turned : (a b : List ℕ) → bytes_eq a b ≡ bytes_eq b a
same-turned [] [] = refl
same-turned [] (y ∷ b) = refl
same-turned (x ∷ a) [] = refl
same-turned (x ∷ a) (y ∷ b) =
    let first : nat_eq x y ≡ nat_eq y x = grind arith in
    ap (λ c. c && bytes_eq a b) first ∙ ap (λ c. nat_eq y x && c) (same-turned a b)

has-any : (name : List ℕ) (others : List (List ℕ)) → Tests.has name others ≡ Ledger.has name others
has-any name [] = refl
has-any name (other ∷ others) =
    ap (λ b. b || Tests.has name others) (same-turned other name) ∙ ap (λ b. bytes_eq name other || b) (has-any name others)

-- none of the later names is the one that joins the earlier ones
apart-last : (last : List ℕ) (later earlier : List (List ℕ)) → Ledger.apart later (earlier ++ last ∷ []) ≡ (Ledger.apart later earlier && not (Ledger.has last later))
apart-last last [] earlier = refl
apart-last last (name ∷ later) earlier =
    ap (λ b. not b && Ledger.apart later (earlier ++ last ∷ [])) (has-last name last earlier)
    ∙ ap (λ b. not (Ledger.has name earlier || bytes_eq name last) && b) (apart-last last later earlier)
    ∙ mixed (Ledger.has name earlier) (bytes_eq name last) (Ledger.apart later earlier) (Ledger.has last later)
    ∙ ap (λ b. (not (Ledger.has name earlier) && Ledger.apart later earlier) && not (b || Ledger.has last later)) (same-turned name last)
  where
    mixed : (h e a l : Bool) → (not (h || e) && (a && not l)) ≡ ((not h && a) && not (e || l))
    mixed true e a l = refl
    mixed false true true l = refl
    mixed false true false l = refl
    mixed false false a l = refl

first-twice : (references earlier later : List (List ℕ)) →
    is_none (Tests.first_twice references earlier later) ≡ (Ledger.apart later earlier && (Ledger.all_differ later && Ledger.apart later references))
first-twice references earlier [] = refl
first-twice references earlier (name ∷ later) =
    let rest : Option (List ℕ) = Tests.first_twice references (earlier ++ name ∷ []) later in
    let differ : Bool = Ledger.all_differ later in
    let apart : Bool = Ledger.apart later references in
    ap (λ b. is_none (if b || Tests.has name references then Some name else rest)) (has-any name earlier)
    ∙ ap (λ b. is_none (if Ledger.has name earlier || b then Some name else rest)) (has-any name references)
    ∙ picked (Ledger.has name earlier || Ledger.has name references) rest
    ∙ ap (λ b. not (Ledger.has name earlier || Ledger.has name references) && b) (first-twice references (earlier ++ name ∷ []) later)
    ∙ ap (λ b. not (Ledger.has name earlier || Ledger.has name references) && (b && (differ && apart))) (apart-last name later earlier)
    ∙ sorted (Ledger.has name earlier) (Ledger.has name references) (Ledger.apart later earlier) (Ledger.has name later) differ apart
  where
    picked : (b : Bool) (rest : Option (List ℕ)) → is_none (if b then Some name else rest) ≡ (not b && is_none rest)
    picked true rest = refl
    picked false rest = refl

    sorted : (e r a l d p : Bool) → (not (e || r) && ((a && not l) && (d && p))) ≡ ((not e && a) && ((not l && d) && (not r && p)))
    sorted true r a l d p = refl
    sorted false true false l d p = refl
    sorted false true true true d p = refl
    sorted false true true false true p = refl
    sorted false true true false false p = refl
    sorted false false false l d p = refl
    sorted false false true true d p = refl
    sorted false false true false d p = refl

apart-none : (names : List (List ℕ)) → Ledger.apart names [] ≡ true
apart-none [] = refl
apart-none (name ∷ names) = apart-none names

some-input : (items : List Keyed) → not (is_empty (map item_of items)) ≡ is_none (Tests.no_input (names items))
some-input [] = refl
some-input (item ∷ items) =
    let some : nat_eq (length (names (item ∷ items))) 0 ≡ false = grind arith in
    ap (λ b. is_none (if b then Some NoInput else None)) (sym some)

rising-from : (dummy : ℕ × ℕ) (dummies : List (ℕ × ℕ)) → Seen.are_rising (map dummy_name (dummy ∷ dummies)) ≡ Tests.rising_from dummy.0 dummies
rising-from dummy [] = refl
rising-from dummy (next ∷ dummies) = ap (λ b. nat_lt dummy.0 next.0 && b) (rising-from next dummies)

are-rising : (dummies : List (ℕ × ℕ)) → Seen.are_rising (map dummy_name dummies) ≡ Tests.are_rising dummies
are-rising [] = refl
are-rising (dummy ∷ dummies) = rising-from dummy dummies

has-dummy : (shard : ℕ) (dummies : List (ℕ × ℕ)) → Seen.has_dummy shard (map dummy_name dummies) ≡ list_any (λ dummy. nat_eq dummy.0 shard) dummies
has-dummy shard [] = refl
has-dummy shard (dummy ∷ dummies) = ap (λ b. nat_eq dummy.0 shard || b) (has-dummy shard dummies)

module _ (rules : Seen.Rules) (config : Config) (placed : IsPlaced rules config) (approves : Tx → Bool) (x : Session) where
  abbrev seen : Seen.Session
  seen = ledger_session approves x

  abbrev inputs : List (List ℕ)
  inputs = names (inputs_of x.tx)

  abbrev wanted : ℕ × ℕ → Bool
  wanted dummy = Tests.wants_dummy config inputs (used_names x.tx) dummy.0

  abbrev served : List ℕ → Bool
  served name = Tests.is_served config inputs x.dummies name

  wants-dummy : (shard : ℕ) → Seen.wants_dummy rules seen.transaction shard ≡ Tests.wants_dummy config inputs (used_names x.tx) shard
  wants-dummy shard =
      ap (λ b. b && not (Seen.is_among rules shard seen.transaction.inputs)) (concerns-session_of rules config placed approves x shard)
      ∙ ap (λ b. Uses.is_among config shard (used_names x.tx) && not b) (among rules config placed shard (inputs_of x.tx))

  each-wanted : (dummies : List (ℕ × ℕ)) → Seen.each_is_wanted rules seen.transaction (map dummy_name dummies) ≡ list_all wanted dummies
  each-wanted [] = refl
  each-wanted (dummy ∷ dummies) =
      ap (λ b. b && Seen.each_is_wanted rules seen.transaction (map dummy_name dummies)) (wants-dummy dummy.0)
      ∙ ap (λ b. wanted dummy && b) (each-wanted dummies)

  is-served : (name : List ℕ) → (Seen.is_among rules (rules.shard_of name) seen.transaction.inputs || Seen.has_dummy (rules.shard_of name) seen.dummies) ≡ served name
  is-served name =
      ap (λ s. Seen.is_among rules s seen.transaction.inputs || Seen.has_dummy s seen.dummies) (placed name)
      ∙ ap (λ b. b || Seen.has_dummy (shard_of_key config.shards (key.Object name)) seen.dummies) (among rules config placed (shard_of_key config.shards (key.Object name)) (inputs_of x.tx))
      ∙ ap (λ b. Uses.is_among config (shard_of_key config.shards (key.Object name)) inputs || b) (has-dummy (shard_of_key config.shards (key.Object name)) x.dummies)

  each-served : (items : List Keyed) → Seen.each_is_served rules seen (map item_of items) ≡ list_all served (names items)
  each-served [] = refl
  each-served (item ∷ items) =
      ap (λ b. b && Seen.each_is_served rules seen (map item_of items)) (is-served item.0)
      ∙ ap (λ b. served item.0 && b) (each-served items)

  abbrev right : Bool
  right = Tests.are_right config inputs (used_names x.tx) x.dummies

  has-its-dummies : Seen.has_its_dummies rules seen ≡ right
  has-its-dummies =
      ap (λ b. b && (Seen.each_is_wanted rules seen.transaction seen.dummies && Seen.each_is_served rules seen (Seen.all_items seen.transaction))) (are-rising x.dummies)
      ∙ ap (λ b. Tests.are_rising x.dummies && (b && Seen.each_is_served rules seen (Seen.all_items seen.transaction))) (each-wanted x.dummies)
      ∙ ap (λ b. Tests.are_rising x.dummies && (list_all wanted x.dummies && b))
      (ap (Seen.each_is_served rules seen) (all-items approves x) ∙ each-served (everything x.tx) ∙ ap (list_all served) (names-everything x.tx))

  uses-once : Ledger.uses_once seen.transaction ≡ is_none (Tests.used_twice (Tests.first_twice (names (references_of x.tx)) [] (names (inputs_of x.tx))))
  uses-once =
      let ins : List (List ℕ) = names (inputs_of x.tx) in
      let refs : List (List ℕ) = names (references_of x.tx) in
      ap (λ zs. Ledger.all_differ zs && Ledger.apart zs (Ledger.names seen.transaction.references)) (names-items (inputs_of x.tx))
      ∙ ap (λ zs. Ledger.all_differ ins && Ledger.apart ins zs) (names-items (references_of x.tx))
      ∙ ap (λ b. b && (Ledger.all_differ ins && Ledger.apart ins refs)) (sym (apart-none ins))
      ∙ sym (first-twice refs [] ins)
      ∙ no-name (Tests.first_twice refs [] ins)
    where
      no-name : (o : Option (List ℕ)) → is_none o ≡ is_none (Tests.used_twice o)
      no-name (Some name) = refl
      no-name None = refl

  -- the tests one after the other
  in-order : is_none (Tests.fault_of config x) ≡
      (is_none (Tests.no_input (names (inputs_of x.tx)))
      && (is_none (Tests.used_twice (Tests.first_twice (names (references_of x.tx)) [] (names (inputs_of x.tx))))
      && (is_none (Tests.first_failing Tests.has_own_objects 0 x.tx.traces)
      && (is_none (Tests.first_failing Tests.has_earlier_deps 0 x.tx.traces) && right))))
  in-order =
      five (Tests.no_input (names (inputs_of x.tx))) (Tests.used_twice (Tests.first_twice (names (references_of x.tx)) [] (names (inputs_of x.tx))))
      (Tests.first_failing Tests.has_own_objects 0 x.tx.traces) (Tests.first_failing Tests.has_earlier_deps 0 x.tx.traces) right
    where
      last : (b : Bool) → is_none (Tests.wrong_dummies b) ≡ b
      last true = refl
      last false = refl

      two : (l : Option ℕ) (h : Bool) → is_none (or_else (Tests.late_dep l) (Tests.wrong_dummies h)) ≡ (is_none l && h)
      two (Some n) h = refl
      two None h = last h

      three : (f l : Option ℕ) (h : Bool) → is_none (or_else (Tests.foreign f) (or_else (Tests.late_dep l) (Tests.wrong_dummies h))) ≡ (is_none f && (is_none l && h))
      three (Some n) l h = refl
      three None l h = two l h

      four : (u : Option Malformed) (f l : Option ℕ) (h : Bool)
          → is_none (or_else u (or_else (Tests.foreign f) (or_else (Tests.late_dep l) (Tests.wrong_dummies h)))) ≡ (is_none u && (is_none f && (is_none l && h)))
      four (Some m) f l h = refl
      four None f l h = three f l h

      five : (n u : Option Malformed) (f l : Option ℕ) (h : Bool)
          → is_none (or_else n (or_else u (or_else (Tests.foreign f) (or_else (Tests.late_dep l) (Tests.wrong_dummies h))))) ≡ (is_none n && (is_none u && (is_none f && (is_none l && h))))
      five (Some m) u f l h = refl
      five None u f l h = four u f l h

  pub well_formed-session_of : Seen.well_formed rules seen ≡ is_none (Tests.fault_of config x)
  well_formed-session_of =
      let f : Bool = is_none (Tests.first_failing Tests.has_own_objects 0 x.tx.traces) in
      let l : Bool = is_none (Tests.first_failing Tests.has_earlier_deps 0 x.tx.traces) in
      let n : Bool = is_none (Tests.no_input (names (inputs_of x.tx))) in
      let u : Bool = is_none (Tests.used_twice (Tests.first_twice (names (references_of x.tx)) [] (names (inputs_of x.tx)))) in
      ap (λ b. (b && (Ledger.uses_once seen.transaction && (f && l))) && Seen.has_its_dummies rules seen) (some-input (inputs_of x.tx))
      ∙ ap (λ b. (n && (b && (f && l))) && Seen.has_its_dummies rules seen) uses-once
      ∙ ap (λ b. (n && (u && (f && l))) && b) has-its-dummies
      ∙ turned n u f l right
      ∙ sym in-order
    where
      turned : (n u f l h : Bool) → ((n && (u && (f && l))) && h) ≡ (n && (u && (f && (l && h))))
      turned false u f l h = refl
      turned true false f l h = refl
      turned true true false l h = refl
      turned true true true l h = refl
