-- What is among the keys as keys come among them.
use Rattle.std.proofs.Common.{◌≡◌, ℕ, zero, suc, ◌<◌, Ordering, Less, Equal, Greater, List, [], ◌∷◌, inl, inr, true, refl, sym, subst, arith}
use Rattle.std.proofs.lemmas.Bool.{or_cases, both_ways, cases_lt}
use Rattle.cs_base.specs.Lists.{IsIn}
use Rattle.cs_ledger.specs.Session.{Rules, Session, Key, Dummy, Piece, key_eq, has_key, used_up, read_only}
use Rattle.cs_ledger.specs.Table.{Table, new_pieces}
use Rattle.cs_ledger.proofs.Basics.{same_key}
use Rattle.cs_check_rules.specs.Keys.{key_order, put_by, with_key, with_keys_of, with_dummy_keys, with_session_keys}
use Rattle.cs_check_rules.proofs.Ordered.{one_key}

put_itself : (key first : Key) (o : Ordering) (keys with_others : List Key) → key_order key first ≡ o →
    IsIn key with_others → IsIn key (put_by o key first keys with_others)
put_itself key first Less keys with_others is more = inl refl
put_itself key first Equal keys with_others is more = inl (one_key key first is)
put_itself key first Greater keys with_others is more = inr more

pub with_itself : (key : Key) (keys : List Key) → IsIn key (with_key key keys)
with_itself key [] = inl refl
with_itself key (first ∷ keys) = put_itself key first (key_order key first) keys (with_key key keys) refl (with_itself key keys)

put_others : (a key first : Key) (o : Ordering) (keys with_others : List Key) → IsIn a (first ∷ keys) →
    (IsIn a keys → IsIn a with_others) → IsIn a (put_by o key first keys with_others)
put_others a key first Less keys with_others among more = inr among
put_others a key first Equal keys with_others among more = among
put_others a key first Greater keys with_others (inl same) more = inl same
put_others a key first Greater keys with_others (inr later) more = inr (more later)

pub with_others : (a key : Key) (keys : List Key) → IsIn a keys → IsIn a (with_key key keys)
with_others a key [] among = absurd among
with_others a key (first ∷ keys) among =
    put_others a key first (key_order key first) keys (with_key key keys) among (with_others a key keys)

pub stays : (a : Key) (pieces : List Piece) (keys : List Key) → IsIn a keys → IsIn a (with_keys_of pieces keys)
stays a [] keys among = among
stays a (piece ∷ pieces) keys among = stays a pieces (with_key piece.key keys) (with_others a piece.key keys among)

pub comes : (a : Key) (pieces : List Piece) (keys : List Key) → has_key a pieces ≡ true → IsIn a (with_keys_of pieces keys)
comes a [] keys has = absurd (both_ways _ refl has)
comes a (piece ∷ pieces) keys has =
    elim (or_cases (key_eq a piece.key) (has_key a pieces) has) [
      | inl same ↦
          stays a pieces (with_key piece.key keys)
          (subst (λ (k : Key). IsIn k (with_key piece.key keys)) (sym (same_key a piece.key same)) (with_itself piece.key keys))
      | inr later ↦ comes a pieces (with_key piece.key keys) later
    ]

pub dummies_stay : (a : Key) (shard n : ℕ) (keys : List Key) → IsIn a keys → IsIn a (with_dummy_keys shard n keys)
dummies_stay a shard zero keys among = among
dummies_stay a shard (suc n) keys among = with_others a (Dummy shard n) (with_dummy_keys shard n keys) (dummies_stay a shard n keys among)

pub dummy_comes : (shard serial n : ℕ) (keys : List Key) → serial < n → IsIn (Dummy shard serial) (with_dummy_keys shard n keys)
dummy_comes shard serial zero keys less = absurd (omega arith)
dummy_comes shard serial (suc n) keys less =
    elim (cases_lt serial n) [
      | inl below ↦ with_others (Dummy shard serial) (Dummy shard n) (with_dummy_keys shard n keys) (dummy_comes shard serial n keys below)
      | inr last ↦
          let at : n ≡ serial = omega arith in
          subst (λ (k : ℕ). IsIn (Dummy shard k) (with_key (Dummy shard n) (with_dummy_keys shard n keys))) at (with_itself (Dummy shard n) (with_dummy_keys shard n keys))
    ]

-- ---- the keys that a session names

module _ (rules : Rules) (shard : ℕ) (t : Table) (x : Session) (keys : List Key) (a : Key) where
  pub named_before : IsIn a keys → IsIn a (with_session_keys rules shard t x keys)
  named_before among =
      stays a (used_up rules x shard) _ (stays a (read_only rules x shard) _ (stays a (new_pieces rules shard t x) keys among))

  pub named_used : has_key a (used_up rules x shard) ≡ true → IsIn a (with_session_keys rules shard t x keys)
  named_used used = comes a (used_up rules x shard) _ used

  pub named_read : has_key a (read_only rules x shard) ≡ true → IsIn a (with_session_keys rules shard t x keys)
  named_read read = stays a (used_up rules x shard) _ (comes a (read_only rules x shard) _ read)

  pub named_made : has_key a (new_pieces rules shard t x) ≡ true → IsIn a (with_session_keys rules shard t x keys)
  named_made new =
      stays a (used_up rules x shard) _ (stays a (read_only rules x shard) _ (comes a (new_pieces rules shard t x) keys new))
