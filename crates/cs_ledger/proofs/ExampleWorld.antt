-- One world with two shards: a coin of shard 0 becomes a coin of shard 1.
use Rattle.std.proofs.Common.{◌≡◌, ℕ, List, [], ◌∷◌, true, inl, inr, refl, sym, ap, ◌∙◌, subst, arith}
use Rattle.std.specs.Prelude.{slice_index}
use Rattle.cs_base.specs.Lists.{IsIn}
use Rattle.cs_ledger.specs.Ledger.{Bytes, Item, Transaction, names, all_differ}
use Rattle.cs_ledger.specs.Session.{Session, Rules, Object, Dummy}
use Rattle.cs_ledger.specs.Table.{Commit, Active, Inactive, Prepare, Decide, Accepted, table_of}
use Rattle.cs_ledger.specs.ShardWorld.{Step, log, decides, AllAllowed, history, sessions, AreNamedApart, IsShardWorld}

abbrev rules_2 : Rules
rules_2 = record {
  shard_of = λ name. slice_index name 0;
  genesis = record { name = 0 ∷ 1 ∷ []; object = 7 ∷ [] } ∷ [];
  dummies = 1;
  dummy_object = [];
}

abbrev coin : Transaction
coin = record {
  digest = 100 ∷ [];
  inputs = record { name = 0 ∷ 1 ∷ []; object = 7 ∷ [] } ∷ [];
  references = [];
  outputs = record { name = 1 ∷ 2 ∷ []; object = 8 ∷ [] } ∷ [];
  sound = true;
  approved = true;
}

abbrev x : Session
x = record { digest = 200 ∷ []; transaction = coin; dummies = record { shard = 1; serial = 0 } ∷ [] }

abbrev prepared : List Step
prepared = record { shard = 1; entry = Prepare x } ∷ record { shard = 0; entry = Prepare x } ∷ []

abbrev past : List Step
past = record { shard = 1; entry = Decide x Commit } ∷ record { shard = 0; entry = Decide x Commit } ∷ prepared

allowed : AllAllowed rules_2 past
allowed = ((refl, refl), ((refl, refl), ((refl, refl, refl), ((refl, refl, refl), tt))))

listed_once : history rules_2 prepared ≡ coin ∷ []
listed_once = refl

not_before : history rules_2 (record { shard = 0; entry = Prepare x } ∷ []) ≡ []
not_before = refl

accepted_here : decides rules_2 past 1 x Accepted ≡ true
accepted_here = refl

new_coin : ((table_of rules_2 1 (log 1 past)).at (Object (1 ∷ 2 ∷ []))).state ≡ Active (8 ∷ [])
new_coin = refl

next_dummy : ((table_of rules_2 1 (log 1 past)).at (Dummy 1 1)).state ≡ Active []
next_dummy = refl

old_coin : ((table_of rules_2 0 (log 0 past)).at (Object (0 ∷ 1 ∷ []))).state ≡ Inactive (200 ∷ [])
old_coin = refl

only : (z : Session) → IsIn z (sessions past) → z ≡ x
only z (inl e) = e
only z (inr (inl e)) = e
only z (inr (inr (inl e))) = e
only z (inr (inr (inr (inl e)))) = e
only z (inr (inr (inr (inr h)))) = absurd h

heads : (let new : Bytes = 1 ∷ 2 ∷ [] in let old : Bytes = 0 ∷ 1 ∷ [] in new ≡ old) → ⊥
heads e = let h : ℕ = 1 in let q = ap (λ (b : Bytes). slice_index b 0) e in omega (arith, q)

apart : AreNamedApart rules_2.genesis (sessions past)
apart =
    record {
      session = λ y z ky kz e. only y ky ∙ sym (only z kz);
      transaction = λ y z ky kz e. ap (λ (s : Session). s.transaction) (only y ky ∙ sym (only z kz));
      outputs = λ y z a b ky kz ia ib e. ap (λ (s : Session). s.transaction.digest) (only y ky ∙ sym (only z kz));
      places = λ y k. ap (λ (s : Session). all_differ (names s.transaction.outputs)) (only y k);
      genesis_names = λ y a k ia ig.
          elim (subst (λ (s : Session). IsIn a s.transaction.outputs) (only y k) ia) [
            | inl e ↦ elim ig [
              | inl f ↦ heads (sym (ap (λ (i : Item). i.name) e) ∙ f)
              | inr h ↦ h
            ]
            | inr h ↦ h
          ];
    }

pub is_world : IsShardWorld rules_2 past
is_world = (allowed, apart)
