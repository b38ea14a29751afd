-- The history that is told, digest by digest, against the committed transactions that are left.
use Rattle.std.proofs.Common.{◌≡◌, ℕ, Bool, true, false, not, ◌&&◌, ◌||◌, cond, List, [], ◌∷◌, ◌++◌, option_map, Option, Some, None, IfSome, IsSome, is_some, refl, ap, sym, subst, ◌∙◌, inl, inr}
use Rattle.std.specs.Prelude.{if◌then◌else◌, bytes_eq, find}
use Rattle.std.specs.Map.{lookup}
use Rattle.std.specs.Option.{option_and_then}
use Rattle.std.proofs.lemmas.Bool.{true≢false}
use Rattle.cs_base.specs.Lists.{IsIn}
use Rattle.cs_base.specs.Options.{or_else}
use Rattle.cs_tx_types.specs.declared.session.Session.{Session}
use Rattle.cs_tx_types.specs.declared.transaction.Tx.{Tx}
use Rattle.cs_tx.specs.Digest.{digest_of_tx}
use Rattle.cs_ledger.specs.Ledger.{Bytes, Ledger as Plain, has, ledger_after}
use Rattle.cs_ledger.proofs.Basics.{same_bytes, bytes_refl, bytes_from}
use Rattle.cs_audit_dump.specs.declared.dump.Log.{Log}
use Rattle.cs_audit.specs.declared.ledger.Ledger.{Ledger}
use Rattle.cs_audit.specs.Ledgers.{ShowsLedger, has_room_for, seen_tx}
use Rattle.cs_audit.specs.Committed.{Places, tx_in_logs, tx_found, first_tx, FindsTransactions, is_told, GoesOn, LedgerGoesOn}
use Rattle.cs_audit.proofs.Shown.{has-append}

abbrev pub is_of : Bytes → Session → Bool
is_of d x = bytes_eq d (digest_of_tx x.tx)

-- ---- the first transaction of a digest

first-append : (d : Bytes) (xs : List Session) (x : Session) → first_tx d (xs ++ x ∷ []) ≡ or_else (first_tx d xs) (if is_of d x then Some x.tx else None)
first-append d [] x = by (is_of d x)
  where
    by : (test : Bool) → option_map (λ (y : Session). y.tx) (if test then Some x else None) ≡ (if test then Some x.tx else None)
    by true = refl
    by false = refl
first-append d (y ∷ xs) x = by (is_of d y) (first-append d xs x)
  where
    by : (test : Bool) → first_tx d (xs ++ x ∷ []) ≡ or_else (first_tx d xs) (if is_of d x then Some x.tx else None)
        → option_map (λ (y : Session). y.tx) (if test then Some y else find (is_of d) (xs ++ x ∷ []))
        ≡ or_else (option_map (λ (y : Session). y.tx) (if test then Some y else find (is_of d) xs)) (if is_of d x then Some x.tx else None)
    by true rest = refl
    by false rest = rest

pub first-is : (d : Bytes) (xs : List Session) (tx : Tx) → first_tx d xs ≡ Some tx → (x : Session) × (IsIn x xs) × (x.tx ≡ tx) × (d ≡ digest_of_tx tx)
first-is d [] tx is = let q : None ≡ Some tx = is in cc
first-is d (y ∷ xs) tx is = by (is_of d y) refl (first-is d xs tx) is
  where
    by : (test : Bool) → is_of d y ≡ test → (first_tx d xs ≡ Some tx → (x : Session) × (IsIn x xs) × (x.tx ≡ tx) × (d ≡ digest_of_tx tx))
        → option_map (λ (y : Session). y.tx) (if test then Some y else find (is_of d) xs) ≡ Some tx → (x : Session) × (IsIn x (y ∷ xs)) × (x.tx ≡ tx) × (d ≡ digest_of_tx tx)
    by true same later found = let f : Some y.tx ≡ Some tx = found in let e : y.tx ≡ tx = cc in (y, inl refl, e, same_bytes d (digest_of_tx y.tx) same ∙ ap digest_of_tx e)
    by false other later found = let rest = later found in (rest.0, inr rest.1, rest.2, rest.3)

first-there : (x : Session) (xs : List Session) → IsIn x xs → is_some (first_tx (digest_of_tx x.tx) xs) ≡ true
first-there x [] among = absurd among
first-there x (y ∷ xs) among = by (is_of (digest_of_tx x.tx) y) refl (first-there x xs) among
  where
    by : (test : Bool) → is_of (digest_of_tx x.tx) y ≡ test → (IsIn x xs → is_some (first_tx (digest_of_tx x.tx) xs) ≡ true) → IsIn x (y ∷ xs) → is_some (option_map (λ (y : Session). y.tx) (if test then Some y else find (is_of (digest_of_tx x.tx)) xs)) ≡ true
    by true same rest among = refl
    by false other rest (inl same) = absurd (true≢false (sym (bytes_refl (digest_of_tx x.tx)) ∙ ap (λ (z : Session). is_of (digest_of_tx x.tx) z) same ∙ other))
    by false other rest (inr later) = rest later

swapped : (a b : Bytes) (test : Bool) → bytes_eq a b ≡ test → bytes_eq b a ≡ test
swapped a b true is = bytes_from b a (sym (same_bytes a b is))
swapped a b false is = by (bytes_eq b a) refl
  where
    by : (test : Bool) → bytes_eq b a ≡ test → bytes_eq b a ≡ false
    by true same = absurd (true≢false (sym (bytes_from a b (sym (same_bytes b a same))) ∙ is))
    by false other = other

none-more : (o : Option Tx) → o ≡ or_else o None
none-more None = refl
none-more (Some tx) = refl

some-first : (o more : Option Tx) → is_some o ≡ true → o ≡ or_else o more
some-first None more is = absurd (true≢false (sym is))
some-first (Some tx) more is = refl

pub missing : {X : Type 0} (found : Option X) → is_some found ≡ false → found ≡ None
missing None is = refl
missing (Some x) is = absurd (true≢false is)

-- ---- a transaction is added

module _ (logs : List Log) where
  pub added : (places new : Places) (sessions : List Session) (x : Session) (place : ℕ × ℕ) → tx_in_logs logs place ≡ Some x.tx → lookup (bytes_eq (digest_of_tx x.tx)) places ≡ None
      → ((q : Bytes) → lookup (bytes_eq q) new ≡ cond (bytes_eq (digest_of_tx x.tx) q) (Some place) (lookup (bytes_eq q) places)) → FindsTransactions logs places sessions [] → FindsTransactions logs new (sessions ++ x ∷ []) []
  added places new sessions x place at none updates finds = record { found = λ q. found q (bytes_eq d q) refl; there = λ q. there q (bytes_eq d q) refl }
    where
      d : Bytes
      d = digest_of_tx x.tx

      found : (q : Bytes) (test : Bool) → bytes_eq d q ≡ test → tx_found logs new q ≡ first_tx q (sessions ++ x ∷ [])
      found q true same =
          let missing : None ≡ first_tx q sessions = sym (ap (λ (o : Option (ℕ × ℕ)). option_and_then (tx_in_logs logs) o) (subst (λ z. lookup (bytes_eq z) places ≡ None) (same_bytes d q same) none)) ∙ finds.found q in
          ap (λ (o : Option (ℕ × ℕ)). option_and_then (tx_in_logs logs) o) (updates q ∙ ap (λ b. cond b (Some place) (lookup (bytes_eq q) places)) same) ∙ at
          ∙ ap (λ (o : Option Tx). or_else o (Some x.tx)) missing
          ∙ sym (ap (λ (b : Bool). or_else (first_tx q sessions) (if b then Some x.tx else None)) (swapped d q true same)) ∙ sym (first-append q sessions x)
      found q false other =
          ap (λ (o : Option (ℕ × ℕ)). option_and_then (tx_in_logs logs) o) (updates q ∙ ap (λ b. cond b (Some place) (lookup (bytes_eq q) places)) other) ∙ finds.found q
          ∙ none-more (first_tx q sessions) ∙ sym (ap (λ (b : Bool). or_else (first_tx q sessions) (if b then Some x.tx else None)) (swapped d q false other)) ∙ sym (first-append q sessions x)

      there : (q : Bytes) (test : Bool) → bytes_eq d q ≡ test → IfSome (lookup (bytes_eq q) new) (λ place. IsSome (tx_in_logs logs place))
      there q true same = subst (λ (o : Option (ℕ × ℕ)). IfSome o (λ place. IsSome (tx_in_logs logs place))) (sym (updates q ∙ ap (λ b. cond b (Some place) (lookup (bytes_eq q) places)) same)) (ap (λ (o : Option Tx). is_some o) at)
      there q false other = subst (λ (o : Option (ℕ × ℕ)). IfSome o (λ place. IsSome (tx_in_logs logs place))) (sym (updates q ∙ ap (λ b. cond b (Some place) (lookup (bytes_eq q) places)) other)) (finds.there q)

  -- a place that leads to a transaction
  leads : (o : Option (ℕ × ℕ)) → is_some o ≡ true → IfSome o (λ place. IsSome (tx_in_logs logs place)) → is_some (option_and_then (tx_in_logs logs) o) ≡ true
  leads None is there = absurd (true≢false (sym is))
  leads (Some place) is there = there

  pub stays : (places : Places) (sessions : List Session) (x : Session) → is_some (lookup (bytes_eq (digest_of_tx x.tx)) places) ≡ true → FindsTransactions logs places sessions [] → FindsTransactions logs places (sessions ++ x ∷ []) []
  stays places sessions x some finds = record { found = λ q. found q (bytes_eq d q) refl; there = finds.there }
    where
      d : Bytes
      d = digest_of_tx x.tx

      found : (q : Bytes) (test : Bool) → bytes_eq d q ≡ test → tx_found logs places q ≡ first_tx q (sessions ++ x ∷ [])
      found q true same =
          let has_it : is_some (lookup (bytes_eq q) places) ≡ true = subst (λ z. is_some (lookup (bytes_eq z) places) ≡ true) (same_bytes d q same) some in
          let first : is_some (first_tx q sessions) ≡ true = sym (ap (λ (o : Option Tx). is_some o) (finds.found q)) ∙ leads (lookup (bytes_eq q) places) has_it (finds.there q) in
          finds.found q ∙ some-first (first_tx q sessions) (if is_of q x then Some x.tx else None) first ∙ sym (first-append q sessions x)
      found q false other =
          finds.found q ∙ none-more (first_tx q sessions) ∙ sym (ap (λ (b : Bool). or_else (first_tx q sessions) (if b then Some x.tx else None)) (swapped d q false other)) ∙ sym (first-append q sessions x)

  -- ---- a digest is told

  module _ (approves : Tx → Bool) (sessions : List Session) (plain : Plain) (earlier : List Bytes) (d : Bytes) (places : Places) (finds : FindsTransactions logs places sessions earlier) where
    pub not-found : lookup (bytes_eq d) places ≡ None → is_told approves plain earlier d (first_tx d sessions) ≡ false
    not-found none = by (has d earlier) refl (first_tx d sessions) (sym (ap (λ (o : Option (ℕ × ℕ)). option_and_then (tx_in_logs logs) o) none) ∙ finds.found d)
      where
        by : (told : Bool) → has d earlier ≡ told → (o : Option Tx) → None ≡ (if has d earlier then None else o) → is_told approves plain earlier d o ≡ false
        by told is None e = refl
        by true is (Some tx) e = ap (λ b. not b && has_room_for plain (seen_tx approves tx)) is
        by false is (Some tx) e = let q : None ≡ Some tx = e ∙ ap (λ b. if b then None else Some tx) is in cc

    found-is : (place : ℕ × ℕ) (tx : Tx) → lookup (bytes_eq d) places ≡ Some place → tx_in_logs logs place ≡ Some tx → Some tx ≡ (if has d earlier then None else first_tx d sessions)
    found-is place tx at is = sym (ap (λ (o : Option (ℕ × ℕ)). option_and_then (tx_in_logs logs) o) at ∙ is) ∙ finds.found d

    chosen : (told : Bool) (tx : Tx) (o : Option Tx) → Some tx ≡ (if told then None else o) → (told ≡ false) × (o ≡ Some tx)
    chosen true tx o e = let q : Some tx ≡ None = e in cc
    chosen false tx o e = (refl, sym e)

    module _ (place : ℕ × ℕ) (tx : Tx) (at : lookup (bytes_eq d) places ≡ Some place) (is : tx_in_logs logs place ≡ Some tx) where
      pub is_new : has d earlier ≡ false
      is_new = (chosen (has d earlier) tx (first_tx d sessions) (found-is place tx at is)).0

      pub is_first : first_tx d sessions ≡ Some tx
      is_first = (chosen (has d earlier) tx (first_tx d sessions) (found-is place tx at is)).1

      pub is_named : d ≡ digest_of_tx tx
      is_named = (first-is d sessions tx is_first).3

      pub refused : has_room_for plain (seen_tx approves tx) ≡ false → is_told approves plain earlier d (first_tx d sessions) ≡ false
      refused room = ap (is_told approves plain earlier d) is_first ∙ ap (λ b. not (has d earlier) && b) room ∙ none (not (has d earlier))
        where
          none : (b : Bool) → (b && false) ≡ false
          none true = refl
          none false = refl

      pub goes_on : (new : Places) (ledger : Ledger) → has_room_for plain (seen_tx approves tx) ≡ true → ((q : Bytes) → lookup (bytes_eq q) new ≡ cond (bytes_eq d q) None (lookup (bytes_eq q) places))
          → ShowsLedger ledger (ledger_after plain (seen_tx approves tx)) → GoesOn logs approves sessions plain earlier d new ledger
      goes_on new ledger room updates shows = record {
        tx = tx;
        first = is_first;
        told = λ i. not (is_new i) && room i;
        finds = record { found = λ q. found q (bytes_eq d q) refl; there = λ q. there q (bytes_eq d q) refl };
        shows = shows;
      }
        where
          told_more : (q : Bytes) (test : Bool) → bytes_eq d q ≡ test → has q (earlier ++ d ∷ []) ≡ (has q earlier || test)
          told_more q test is = has-append q earlier (d ∷ []) ∙ ap (λ b. has q earlier || (b || false)) (swapped d q test is) ∙ ap (λ b. has q earlier || b) (plain_or test)
            where
              plain_or : (b : Bool) → (b || false) ≡ b
              plain_or true = refl
              plain_or false = refl

          or-true : (b : Bool) → (b || true) ≡ true
          or-true true = refl
          or-true false = refl

          or-false : (b : Bool) → (b || false) ≡ b
          or-false true = refl
          or-false false = refl

          found : (q : Bytes) (test : Bool) → bytes_eq d q ≡ test → tx_found logs new q ≡ (if has q (earlier ++ d ∷ []) then None else first_tx q sessions)
          found q true same =
              ap (λ (o : Option (ℕ × ℕ)). option_and_then (tx_in_logs logs) o) (updates q ∙ ap (λ b. cond b None (lookup (bytes_eq q) places)) same)
              ∙ sym (ap (λ b. if b then None else first_tx q sessions) (told_more q true same ∙ or-true (has q earlier)))
          found q false other =
              ap (λ (o : Option (ℕ × ℕ)). option_and_then (tx_in_logs logs) o) (updates q ∙ ap (λ b. cond b None (lookup (bytes_eq q) places)) other) ∙ finds.found q
              ∙ sym (ap (λ b. if b then None else first_tx q sessions) (told_more q false other ∙ or-false (has q earlier)))

          there : (q : Bytes) (test : Bool) → bytes_eq d q ≡ test → IfSome (lookup (bytes_eq q) new) (λ place. IsSome (tx_in_logs logs place))
          there q true same = subst (λ (o : Option (ℕ × ℕ)). IfSome o (λ place. IsSome (tx_in_logs logs place))) (sym (updates q ∙ ap (λ b. cond b None (lookup (bytes_eq q) places)) same)) tt
          there q false other = subst (λ (o : Option (ℕ × ℕ)). IfSome o (λ place. IsSome (tx_in_logs logs place))) (sym (updates q ∙ ap (λ b. cond b None (lookup (bytes_eq q) places)) other)) (finds.there q)

      pub told-so : (new : Places) (ledger : Ledger) (taken : Bool) → taken ≡ has_room_for plain (seen_tx approves tx) → (taken ≡ true → ShowsLedger ledger (ledger_after plain (seen_tx approves tx)))
          → ((q : Bytes) → lookup (bytes_eq q) new ≡ cond (bytes_eq d q) None (lookup (bytes_eq q) places)) → LedgerGoesOn logs approves sessions plain earlier d new ledger taken
      told-so new ledger true room shows updates = goes_on new ledger (sym room) updates (shows refl)
      told-so new ledger false room shows updates = refused (sym room)

    -- a place that is kept leads to a transaction
    pub leads-on : (place : ℕ × ℕ) → lookup (bytes_eq d) places ≡ Some place → tx_in_logs logs place ≡ None → ⊥
    leads-on place at none =
        let some : IsSome (tx_in_logs logs place) = subst (λ (o : Option (ℕ × ℕ)). IfSome o (λ place. IsSome (tx_in_logs logs place))) at (finds.there d) in
        true≢false (sym some ∙ ap (λ (o : Option Tx). is_some o) none)

  -- ---- what is left when all is told

  module _ (sessions : List Session) (told : List Bytes) (places : Places) (finds : FindsTransactions logs places sessions told) where
    pub all-told : places ≡ [] → (x : Session) → IsIn x sessions → has (digest_of_tx x.tx) told ≡ true
    all-told empty x among =
        by (has (digest_of_tx x.tx) told) refl (first_tx (digest_of_tx x.tx) sessions) (first-there x sessions among)
        (sym (ap (λ (es : Places). tx_found logs es (digest_of_tx x.tx)) empty) ∙ finds.found (digest_of_tx x.tx))
      where
        by : (b : Bool) → has (digest_of_tx x.tx) told ≡ b → (o : Option Tx) → is_some o ≡ true → None ≡ (if has (digest_of_tx x.tx) told then None else o) → has (digest_of_tx x.tx) told ≡ true
        by true is o some e = is
        by false is None some e = absurd (true≢false (sym some))
        by false is (Some tx) some e = let q : None ≡ Some tx = e ∙ ap (λ b. if b then None else Some tx) is in cc

    pub one-untold : (first : Bytes × (ℕ × ℕ)) (more : Places) → places ≡ first ∷ more → (x : Session) × (IsIn x sessions) × (has (digest_of_tx x.tx) told ≡ false)
    one-untold first more is = by (tx_in_logs logs first.1) refl
      where
        d : Bytes
        d = first.0

        at : lookup (bytes_eq d) places ≡ Some first.1
        at = ap (lookup (bytes_eq d)) is ∙ ap (λ b. cond b (Some first.1) (lookup (bytes_eq d) more)) (bytes_refl d)

        by : (o : Option Tx) → tx_in_logs logs first.1 ≡ o → (x : Session) × (IsIn x sessions) × (has (digest_of_tx x.tx) told ≡ false)
        by None leads_to =
            let some : IsSome (tx_in_logs logs first.1) = subst (λ (o : Option (ℕ × ℕ)). IfSome o (λ place. IsSome (tx_in_logs logs place))) at (finds.there d) in
            absurd (true≢false (sym some ∙ ap (λ (o : Option Tx). is_some o) leads_to))
        by (Some tx) leads_to =
            let new : has d told ≡ false = is_new (λ x. true) sessions (record { active = λ name. None; created = [] }) told d places finds first.1 tx at leads_to in
            let one = first-is d sessions tx (is_first (λ x. true) sessions (record { active = λ name. None; created = [] }) told d places finds first.1 tx at leads_to) in
            (one.0, one.1, subst (λ z. has z told ≡ false) (one.3 ∙ sym (ap digest_of_tx one.2)) new)
