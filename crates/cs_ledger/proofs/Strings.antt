-- Hashes that do not collide keep names, digests and sessions apart.
use Rattle.std.proofs.Common.{◌≡◌, ℕ, List, [], ◌∷◌, ◌++◌, length, true, false, ◌||◌, inl, inr, refl, sym, ap, ◌∙◌, subst, arith}
use Rattle.std.specs.Prelude.{bytes_eq}
use Rattle.std.proofs.lemmas.Bool.{cases_Bool, both_ways, and_parts, and_from, not-true, not_from_false, false_from_ne_true}
use Rattle.cs_base.specs.Lists.{IsIn}
use Rattle.cs_ledger.specs.Ledger.{Bytes, Item, names, has, all_differ}
use Rattle.cs_ledger.specs.Session.{Session}
use Rattle.cs_ledger.specs.ShardWorld.{AreNamedApart}
use Rattle.cs_ledger.specs.Strings.{Output, Written, WrittenSession, Origin, transaction_string, output_string, genesis_string, written_outputs, transaction_of, session_from, sessions_from, genesis_of_origins, places_of, Genesis, OfSession, OfTransaction, OfOutput, NoHashCollision, IsFaithful}
use Rattle.cs_ledger.proofs.Basics.{bytes_from}
use Rattle.cs_ledger.proofs.Names.{has_item}

tail_is : (a b : ℕ) (xs ys : Bytes) → a ∷ xs ≡ b ∷ ys → xs ≡ ys
tail_is a b xs ys e = cc

head_is : (a b : ℕ) (xs ys : Bytes) → a ∷ xs ≡ b ∷ ys → a ≡ b
head_is a b xs ys e = cc

fronts : (xs ys cs ds : Bytes) → length xs ≡ length ys → xs ++ cs ≡ ys ++ ds → (xs ≡ ys) × (cs ≡ ds)
fronts [] [] cs ds l e = (refl, e)
fronts [] (y ∷ ys) cs ds l e = absurd (omega arith)
fronts (x ∷ xs) [] cs ds l e = absurd (omega arith)
fronts (x ∷ xs) (y ∷ ys) cs ds l e =
    let r = fronts xs ys cs ds (omega arith) (tail_is x y _ _ e) in
    let h : x ≡ y = head_is x y _ _ e in
    let t : xs ≡ ys = r.0 in
    (cc, r.1)

from_written : (hash : Bytes → Bytes) (written : List WrittenSession) (x : Session) → IsIn x (sessions_from hash written) → (w : WrittenSession) × (IsIn w written) × (x ≡ session_from hash w)
from_written hash [] x h = absurd h
from_written hash (w ∷ written) x (inl e) = (w, inl refl, e)
from_written hash (w ∷ written) x (inr h) = let r = from_written hash written x h in (r.0, inr r.1, r.2)

from_output : (hash : Bytes → Bytes) (tx : Written) (outputs : List Output) (item : Item) → IsIn item (written_outputs hash tx outputs) → (o : Output) × (IsIn o outputs) × (item.name ≡ hash (output_string hash tx o))
from_output hash tx [] item h = absurd h
from_output hash tx (o ∷ outputs) item (inl e) = (o, inl refl, ap (λ (z : Item). z.name) e)
from_output hash tx (o ∷ outputs) item (inr h) = let r = from_output hash tx outputs item h in (r.0, inr r.1, r.2)

from_origin : (hash : Bytes → Bytes) (origins : List Origin) (name : Bytes) → IsIn name (names (genesis_of_origins hash origins)) → (o : Origin) × (IsIn o origins) × (name ≡ hash (genesis_string o))
from_origin hash [] name h = absurd h
from_origin hash (o ∷ origins) name (inl e) = (o, inl refl, e)
from_origin hash (o ∷ origins) name (inr h) = let r = from_origin hash origins name h in (r.0, inr r.1, r.2)

place_has : (o : Output) (outputs : List Output) → IsIn o outputs → has o.place (places_of outputs) ≡ true
place_has o [] h = absurd h
place_has o (p ∷ outputs) (inl e) = ap (λ b. b || has o.place (places_of outputs)) (bytes_from _ _ (ap (λ (z : Output). z.place) e))
place_has o (p ∷ outputs) (inr h) =
    elim (cases_Bool (bytes_eq o.place p.place)) as (λ _. (bytes_eq o.place p.place || has o.place (places_of outputs)) ≡ true) [
      | inl t ↦ ap (λ b. b || has o.place (places_of outputs)) t
      | inr f ↦ ap (λ b. b || has o.place (places_of outputs)) f ∙ place_has o outputs h
    ]

module _ (hash : Bytes → Bytes) (size : (a b : Bytes) → length (hash a) ≡ length (hash b)) (origins : List Origin) (written : List WrittenSession) (faithful : IsFaithful written) (apart : NoHashCollision hash origins written) where
  one_place : (x : WrittenSession) → IsIn x written → (a b : Output) → IsIn a x.transaction.outputs → IsIn b x.transaction.outputs → hash (output_string hash x.transaction a) ≡ hash (output_string hash x.transaction b) → a.place ≡ b.place
  one_place x k a b ia ib e =
      let s = apart _ _ (OfOutput x a k ia) (OfOutput x b k ib) e in
      (fronts _ _ _ _ refl (tail_is _ _ _ _ s)).1

  places_differ : (x : WrittenSession) → IsIn x written → (outputs : List Output) → ((o : Output) → IsIn o outputs → IsIn o x.transaction.outputs) → all_differ (places_of outputs) ≡ true → all_differ (names (written_outputs hash x.transaction outputs)) ≡ true
  places_differ x k [] within d = refl
  places_differ x k (o ∷ outputs) within d =
      let p = and_parts _ _ d in
      let other : has (hash (output_string hash x.transaction o)) (names (written_outputs hash x.transaction outputs)) ≡ false =
      false_from_ne_true _ (λ t.
      let i = has_item (hash (output_string hash x.transaction o)) (written_outputs hash x.transaction outputs) t in
      let r = from_output hash x.transaction outputs i.0 i.1 in
      let same = one_place x k o r.0 (within o (inl refl)) (within r.0 (inr r.1)) (i.2 ∙ r.2) in
      both_ways _ (not-true _ p.0) (ap (λ z. has z (places_of outputs)) same ∙ place_has r.0 outputs r.1)) in
      and_from _ _ (not_from_false _ other) (places_differ x k outputs (λ q h. within q (inr h)) p.1)

  pub no_collision : AreNamedApart (genesis_of_origins hash origins) (sessions_from hash written)
  no_collision =
      record {
        session = λ x y kx ky e.
            let a = from_written hash written x kx in
            let b = from_written hash written y ky in
            let s = apart _ _ (OfSession a.0 a.1) (OfSession b.0 b.1) (sym (ap (λ (z : Session). z.digest) a.2) ∙ e ∙ ap (λ (z : Session). z.digest) b.2) in
            let w = faithful.sessions a.0 b.0 a.1 b.1 (tail_is _ _ _ _ s) in
            a.2 ∙ ap (session_from hash) w ∙ sym b.2;
        transaction = λ x y kx ky e.
            let a = from_written hash written x kx in
            let b = from_written hash written y ky in
            let s = apart _ _ (OfTransaction a.0 a.1) (OfTransaction b.0 b.1) (sym (ap (λ (z : Session). z.transaction.digest) a.2) ∙ e ∙ ap (λ (z : Session). z.transaction.digest) b.2) in
            let w = faithful.transactions a.0 b.0 a.1 b.1 (tail_is _ _ _ _ s) in
            ap (λ (z : Session). z.transaction) a.2 ∙ ap (transaction_of hash) w ∙ sym (ap (λ (z : Session). z.transaction) b.2);
        outputs = λ x y p q kx ky ip iq e.
            let a = from_written hash written x kx in
            let b = from_written hash written y ky in
            let o = from_output hash a.0.transaction a.0.transaction.outputs p (subst (λ (z : Session). IsIn p z.transaction.outputs) a.2 ip) in
            let r = from_output hash b.0.transaction b.0.transaction.outputs q (subst (λ (z : Session). IsIn q z.transaction.outputs) b.2 iq) in
            let s = apart _ _ (OfOutput a.0 o.0 a.1 o.1) (OfOutput b.0 r.0 b.1 r.1) (sym o.2 ∙ e ∙ r.2) in
            ap (λ (z : Session). z.transaction.digest) a.2
            ∙ (fronts _ _ _ _ (size (transaction_string a.0.transaction) (transaction_string b.0.transaction)) (tail_is _ _ _ _ s)).0
            ∙ sym (ap (λ (z : Session). z.transaction.digest) b.2);
        places = λ x k.
            let a = from_written hash written x k in
            ap (λ (z : Session). all_differ (names z.transaction.outputs)) a.2
            ∙ places_differ a.0 a.1 a.0.transaction.outputs (λ o h. h) (faithful.places a.0 a.1);
        genesis_names = λ x p k ip ig.
            let a = from_written hash written x k in
            let o = from_output hash a.0.transaction a.0.transaction.outputs p (subst (λ (z : Session). IsIn p z.transaction.outputs) a.2 ip) in
            let g = from_origin hash origins p.name ig in
            let s = apart _ _ (OfOutput a.0 o.0 a.1 o.1) (Genesis g.0 g.1) (sym o.2 ∙ g.2) in
            let letters : 79 ≡ 71 = head_is _ _ _ _ s in
            omega arith;
      }

-- fewer sessions collide no more
pub no_collision_within : (genesis : List Item) (known fewer : List Session) → ((x : Session) → IsIn x fewer → IsIn x known) → AreNamedApart genesis known → AreNamedApart genesis fewer
no_collision_within genesis known fewer within apart =
    record {
      session = λ x y kx ky. apart.session x y (within x kx) (within y ky);
      transaction = λ x y kx ky. apart.transaction x y (within x kx) (within y ky);
      outputs = λ x y a b kx ky. apart.outputs x y a b (within x kx) (within y ky);
      places = λ x k. apart.places x (within x k);
      genesis_names = λ x a k. apart.genesis_names x a (within x k);
    }
