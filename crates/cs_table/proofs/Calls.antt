-- How the calls on a session come to what the definitions give.
use Rattle.std.proofs.Common.{◌≡◌, ℕ, ◌+◌, ◌-◌, ◌^◌, ◌==◌, nat_lt, Bool, true, false, not, ◌&&◌, ◌||◌, if◌then◌else◌, List, [], ◌∷◌, ◌++◌, append-nil, add-zero, length, map, Option, Some, None, IsSome, is_some, option_map, refl, sym, ap, ◌∙◌, subst}
use Rattle.std.specs.List.{list_any}
use Rattle.cs_base.specs.declared.key.Key.{Key}
use Rattle.cs_base.specs.declared.key.Key.TheVariants as key
use Rattle.cs_tx_value.specs.declared.object.Object.{Object}
use Rattle.cs_tx_types.specs.declared.transaction.Tx.{Tx}
use Rattle.cs_tx_types.specs.declared.session.Session.{Session}
use Rattle.cs_tx.specs.Digest.{digest_of_session}
use Rattle.cs_base.specs.Lists.{is_empty}
use Rattle.cs_ledger.specs.Session as ledger
use Rattle.cs_ledger.specs.Table as table
use Rattle.cs_ledger.specs.Table.{Outcome, Vote, Table}
use Rattle.cs_table.specs.declared.piece.Piece.{Piece}
use Rattle.cs_table.specs.Seen.{Stored, seen, seen_piece}
use Rattle.cs_table.specs.Changes.{Becomes, with_next}
use Rattle.cs_table.specs.Effects.{ComesTo, accepted}
use Rattle.cs_table.specs.Pieces.{rules_in, used_in, read_in, made_in}
use Rattle.cs_tx.specs.Dummies.{dummy_object}
use Rattle.cs_tx.specs.Sessions.{ledger_session, dummy_name, key_seen}
use Rattle.cs_table.specs.Calls.{anchor_in, prepare_outcome, decide_outcome, makes_dummy, new_in, accepted_with}
use Rattle.cs_table.proofs.Shown.{used_seen, read_seen, made_seen}
use Rattle.cs_table.proofs.Executions.{becomes_same, becomes_self}
use Rattle.cs_table.proofs.Marked.{marks_same}

module _ (s : Stored) (x : Session) (used : List Piece) (used_is : used ≡ used_in s.shards s.shard x) (approves : Tx → Bool) where
  pub used_up : map seen_piece used ≡ ledger.used_up (rules_in s.shards) (ledger_session approves x) s.shard
  used_up = ap (map seen_piece) used_is ∙ used_seen s.shards s.shard approves x

  pub anchor_is : (key : Option Key) → option_map key_seen key ≡ ledger.first_key (map seen_piece used) → anchor_in s (ledger_session approves x) ≡ option_map key_seen key
  anchor_is key first = ap ledger.first_key (sym used_up) ∙ sym first

  -- what is read off the table at the anchor
  pub at_anchor : {A : Type 0} (what : Table → List ℕ → Option ledger.Key → A) (d : List ℕ) (key : Option Key) → d ≡ digest_of_session x → option_map key_seen key ≡ ledger.first_key (map seen_piece used) → what (seen s) d (option_map key_seen key) ≡ what (seen s) (ledger_session approves x).digest (anchor_in s (ledger_session approves x))
  at_anchor what d key is first =
      ap (λ e. what (seen s) e (option_map key_seen key)) is ∙ ap (what (seen s) (digest_of_session x)) (sym (anchor_is key first))

  pub decided_is : (key : Key) (vote : Vote) → option_map key_seen (Some key) ≡ ledger.first_key (map seen_piece used) → decide_outcome s (ledger_session approves x) vote ≡ table.decide (rules_in s.shards) s.shard (seen s) (ledger_session approves x) (key_seen key) vote
  decided_is key vote first = ap (table.act (rules_in s.shards) s.shard (seen s) (table.Decide (ledger_session approves x) vote)) (anchor_is (Some key) first)

  pub no_anchor : {P : Type 0} → option_map key_seen None ≡ ledger.first_key (map seen_piece used) → IsSome (anchor_in s (ledger_session approves x)) → P
  no_anchor first some = absurd (let none = subst (λ o. IsSome o) (anchor_is None first) some in cc)

  module _ (read : List Piece) (read_is : read ≡ read_in s.shards s.shard x) where
    pub read_only : map seen_piece read ≡ ledger.read_only (rules_in s.shards) (ledger_session approves x) s.shard
    read_only = ap (map seen_piece) read_is ∙ read_seen s.shards s.shard approves x

    pub prepared_is : (d : List ℕ) (key : Key) → d ≡ digest_of_session x → option_map key_seen (Some key) ≡ ledger.first_key (map seen_piece used) → prepare_outcome s (ledger_session approves x) ≡ table.prepare (seen s) d (key_seen key) (map seen_piece used) (map seen_piece read)
    prepared_is d key is first =
        ap (table.act (rules_in s.shards) s.shard (seen s) (table.Prepare (ledger_session approves x))) (anchor_is (Some key) first)
        ∙ ap (λ e. table.prepare (seen s) e (key_seen key) (ledger.used_up (rules_in s.shards) (ledger_session approves x) s.shard) (ledger.read_only (rules_in s.shards) (ledger_session approves x) s.shard)) (sym is)
        ∙ ap (λ ps. table.prepare (seen s) d (key_seen key) ps (ledger.read_only (rules_in s.shards) (ledger_session approves x) s.shard)) (sym used_up)
        ∙ ap (table.prepare (seen s) d (key_seen key) (map seen_piece used)) (sym read_only)

pub comes_as : (a b : Stored) (e : table.Effect) (o p : Outcome) → o ≡ p → ComesTo p a b e → ComesTo o a b e
comes_as a b e o p is h = subst (λ z. ComesTo z a b e) (sym is) h

-- ---- the dummy that is new

any_or : (b : Bool) (p : ledger.Piece) (ps : List ledger.Piece) → (b || not (is_empty ps)) ≡ not (is_empty (if b then p ∷ ps else ps))
any_or true p ps = refl
any_or false p ps = refl

pub any_dummy : (shards shard : ℕ) (dummies : List (ℕ × ℕ)) → list_any (λ dummy. dummy.0 == shard) dummies ≡ not (is_empty (ledger.dummies_in (rules_in shards) shard (map dummy_name dummies)))
any_dummy shards shard [] = refl
any_dummy shards shard (dummy ∷ dummies) = ap (λ b. (dummy.0 == shard) || b) (any_dummy shards shard dummies) ∙ any_or (dummy.0 == shard) _ _

module _ (s : Stored) (dummies : List (ℕ × ℕ)) where
  abbrev pub one_new : List ledger.Piece
  one_new = record { key = ledger.Dummy s.shard s.next; object = (rules_in s.shards).dummy_object } ∷ []

  new_is : new_in s (map dummy_name dummies) ≡ (if makes_dummy s dummies then one_new else [])
  new_is = ap (λ b. if b && nat_lt s.next (2 ^ 64 - 1) then one_new else []) (sym (any_dummy s.shards s.shard dummies))

  pub new_when : makes_dummy s dummies ≡ true → new_in s (map dummy_name dummies) ≡ one_new
  new_when made = new_is ∙ ap (λ b. if b then one_new else []) made

  pub new_unless : makes_dummy s dummies ≡ false → new_in s (map dummy_name dummies) ≡ []
  new_unless unmade = new_is ∙ ap (λ b. if b then one_new else []) unmade

  pub stays : makes_dummy s dummies ≡ false → Becomes s s (with_next (s.next + length (new_in s (map dummy_name dummies))) (seen s))
  stays unmade = becomes_same s s _ _ (ap (λ n. with_next n (seen s)) (sym (add-zero s.next) ∙ ap (λ ps. s.next + length ps) (sym (new_unless unmade)))) (becomes_self s)

  pub one_more : (t : Stored) → makes_dummy s dummies ≡ true → Becomes s t (with_next (s.next + 1) (seen s)) → Becomes s t (with_next (s.next + length (new_in s (map dummy_name dummies))) (seen s))
  one_more t made did = becomes_same s t _ _ (ap (λ ps. with_next (s.next + length ps) (seen s)) (sym (new_when made))) did

pub with_new : (made : List Piece) (p : Piece) (new : List ledger.Piece) → new ≡ seen_piece p ∷ [] → map seen_piece (made ++ p ∷ []) ≡ map seen_piece made ++ new
with_new [] p new is = sym is
with_new (q ∷ made) p new is = ap (λ ps. seen_piece q ∷ ps) (with_new made p new is)

pub without_new : (made : List Piece) (new : List ledger.Piece) → new ≡ [] → map seen_piece made ≡ map seen_piece made ++ new
without_new made new is = rw is (sym (append-nil (map seen_piece made)))

pub new_piece : (s : Stored) (shard serial : ℕ) (o : Object) → shard ≡ s.shard → serial ≡ s.next → o ≡ dummy_object → one_new s [] ≡ seen_piece (record { key = key.Dummy shard serial; object = o }) ∷ []
new_piece s shard serial o a b c = rw (a, b, c) refl

-- what an accepted session comes to
pub accepted_so : (a b e : Stored) (x : Session) (approves : Tx → Bool) (d : List ℕ) (used read : List ledger.Piece) (made now : List Piece) → made ≡ made_in a.shards a.shard x → map seen_piece now ≡ map seen_piece made ++ new_in a (map dummy_name x.dummies)
    → Becomes a b (with_next (a.next + length (new_in a (map dummy_name x.dummies))) (seen a)) → Becomes b e (accepted d used read (map seen_piece now) (seen b).next (seen b)) → Becomes a e (accepted_with a (ledger_session approves x) d used read)
accepted_so a b e x approves d used read made now made_is now_is one two =
    let n : ℕ = a.next + length (new_in a (map dummy_name x.dummies)) in
    let pieces = now_is ∙ ap (λ ps. ps ++ new_in a (map dummy_name x.dummies)) (ap (map seen_piece) made_is ∙ made_seen a.shards a.shard approves x) in
    record {
      shows = two.shows ∙ ap (λ (t : Table). accepted d used read (map seen_piece now) t.next t) one.shows ∙ ap (λ ps. accepted d used read ps n (seen a)) pieces;
      shards = two.shards ∙ one.shards;
      shard = two.shard ∙ one.shard;
      marks = marks_same a b e (λ name. ap (λ (t : Table). t.at name) one.shows) one.marks two.marks;
    }

by_true : (b : Bool) (o p : Outcome) → b ≡ true → (if b then o else p) ≡ o
by_true b o p is = rw is refl

by_false : (b : Bool) (o p : Outcome) → b ≡ false → (if b then o else p) ≡ p
by_false b o p is = rw is refl

-- ---- the effects of a decision

abbrev skips : Table → Outcome
skips t = record { table = t; effect = table.Skipped }

skips_both : (rules : ledger.Rules) (shard : ℕ) (t : Table) (x : ledger.Session) (k : ledger.Key) (vote : Vote) → table.is_locked_by x.digest (t.at k).state ≡ false → table.decide rules shard t x k vote ≡ skips t
skips_both rules shard t x k table.Commit free = by_false _ _ _ free
skips_both rules shard t x k table.Abort free = by_false _ _ _ free

module _ (s : Stored) (x : Session) (used : List Piece) (used_is : used ≡ used_in s.shards s.shard x) (read : List Piece) (read_is : read ≡ read_in s.shards s.shard x) (d : List ℕ) (is : d ≡ digest_of_session x) (k : Key) (first : option_map key_seen (Some k) ≡ ledger.first_key (map seen_piece used)) (approves : Tx → Bool) where
  abbrev xs : ledger.Session
  xs = ledger_session approves x

  abbrev lock : Bool
  lock = table.is_locked_by d ((seen s).at (key_seen k)).state

  lock_is : (b : Bool) → lock ≡ b → table.is_locked_by xs.digest ((seen s).at (key_seen k)).state ≡ b
  lock_is b h = ap (λ e. table.is_locked_by e ((seen s).at (key_seen k)).state) (sym is) ∙ h

  pub decide_skips : (vote : Vote) → lock ≡ false → ComesTo (decide_outcome s xs vote) s s table.Skipped
  decide_skips vote free =
      comes_as s s table.Skipped (decide_outcome s xs vote) (skips (seen s))
      (decided_is s x used used_is approves k vote first ∙ skips_both (rules_in s.shards) s.shard (seen s) xs (key_seen k) vote (lock_is false free))
      (record { effect_is = refl; table_is = becomes_self s })

  pub decide_accepts : (t : Stored) → lock ≡ true → Becomes s t (accepted_with s xs d (map seen_piece used) (map seen_piece read)) → ComesTo (decide_outcome s xs table.Commit) s t table.Accepted
  decide_accepts t held did =
      comes_as s t table.Accepted (decide_outcome s xs table.Commit) (record { table = accepted_with s xs d (map seen_piece used) (map seen_piece read); effect = table.Accepted })
      (decided_is s x used used_is approves k table.Commit first ∙ by_true _ _ _ (lock_is true held)
      ∙ ap (λ e. record { table = accepted_with s xs e (ledger.used_up (rules_in s.shards) xs s.shard) (ledger.read_only (rules_in s.shards) xs s.shard); effect = table.Accepted }) (sym is)
      ∙ ap (λ ps. record { table = accepted_with s xs d ps (ledger.read_only (rules_in s.shards) xs s.shard); effect = table.Accepted }) (sym (used_up s x used used_is approves))
      ∙ ap (λ ps. record { table = accepted_with s xs d (map seen_piece used) ps; effect = table.Accepted }) (sym (read_only s x used used_is approves read read_is)))
      (record { effect_is = refl; table_is = did })

  pub decide_aborts : (t : Stored) → lock ≡ true → Becomes s t (table.with_aborted (seen s) d (key_seen k) (map seen_piece used) (map seen_piece read)) → ComesTo (decide_outcome s xs table.Abort) s t table.Aborted
  decide_aborts t held did =
      comes_as s t table.Aborted (decide_outcome s xs table.Abort) (record { table = table.with_aborted (seen s) d (key_seen k) (map seen_piece used) (map seen_piece read); effect = table.Aborted })
      (decided_is s x used used_is approves k table.Abort first ∙ by_true _ _ _ (lock_is true held)
      ∙ ap (λ e. record { table = table.with_aborted (seen s) e (key_seen k) (ledger.used_up (rules_in s.shards) xs s.shard) (ledger.read_only (rules_in s.shards) xs s.shard); effect = table.Aborted }) (sym is)
      ∙ ap (λ ps. record { table = table.with_aborted (seen s) d (key_seen k) ps (ledger.read_only (rules_in s.shards) xs s.shard); effect = table.Aborted }) (sym (used_up s x used used_is approves))
      ∙ ap (λ ps. record { table = table.with_aborted (seen s) d (key_seen k) (map seen_piece used) ps; effect = table.Aborted }) (sym (read_only s x used used_is approves read read_is)))
      (record { effect_is = refl; table_is = did })

-- ---- the same of equal arguments

pub made_at : (x : Session) (shards shards' shard shard' : ℕ) → shards ≡ shards' → shard ≡ shard' → made_in shards shard x ≡ made_in shards' shard' x
made_at x shards shards' shard shard' a b = ap (λ n. made_in n shard x) a ∙ ap (λ n. made_in shards' n x) b

pub new_at : (s : Stored) (ds es : List (ℕ × ℕ)) → ds ≡ es → (ps : List ledger.Piece) → ps ++ new_in s (map dummy_name ds) ≡ ps ++ new_in s (map dummy_name es)
new_at s ds es is ps = ap (λ zs. ps ++ new_in s (map dummy_name zs)) is

pub next_at : (s t : Stored) (ds es : List (ℕ × ℕ)) → ds ≡ es → Becomes s t (with_next (s.next + length (new_in s (map dummy_name ds))) (seen s)) → Becomes s t (with_next (s.next + length (new_in s (map dummy_name es))) (seen s))
next_at s t ds es is h = subst (λ zs. Becomes s t (with_next (s.next + length (new_in s (map dummy_name zs))) (seen s))) is h

pub carried_at : (s t : Stored) (d : List ℕ) (used read : List ledger.Piece) (ps qs : List Piece) → ps ≡ qs → Becomes s t (accepted d used read (map seen_piece ps) (seen s).next (seen s)) → Becomes s t (accepted d used read (map seen_piece qs) (seen s).next (seen s))
carried_at s t d used read ps qs is h = subst (λ zs. Becomes s t (accepted d used read (map seen_piece zs) (seen s).next (seen s))) is h

pub at_vote : (s t : Stored) (xs : ledger.Session) (vote other : Vote) (e : table.Effect) → vote ≡ other → ComesTo (decide_outcome s xs other) s t e → ComesTo (decide_outcome s xs vote) s t e
at_vote s t xs vote other e is h = subst (λ v. ComesTo (decide_outcome s xs v) s t e) (sym is) h

pub still_some : (o : Option Key) → is_some (option_map key_seen o) ≡ is_some o
still_some None = refl
still_some (Some k) = refl
