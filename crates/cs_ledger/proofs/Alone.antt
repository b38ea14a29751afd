-- One shard by itself, over every list of entries.
use Rattle.std.proofs.Common.{◌≡◌, ℕ, List, [], ◌∷◌, ◌++◌, true, false, ◌&&◌, inl, inr, Some, refl, sym, ap, ◌∙◌, subst}
use Rattle.std.proofs.lemmas.Bool.{both_ways, and_parts, or_cases}
use Rattle.cs_base.specs.Lists.{IsIn}
use Rattle.cs_ledger.specs.Session.{AreToldApart, Session, Rules, Key, anchor}
use Rattle.cs_ledger.specs.Table.{Vote, Commit, Abort, Entry, Prepare, Decide, Voted, session_of, exec, table_of}
use Rattle.cs_ledger.specs.ShardWorld.{is_vote, is_prepare_of, votes_in, sessions_of}
use Rattle.cs_ledger.proofs.Changes.{settled_at}
use Rattle.cs_ledger.proofs.Kept.{Kept}
use Rattle.cs_ledger.proofs.Entries.{IsBacked, Fixed, kept_entry, fixed_entry, fixed_vote}
use Rattle.cs_ledger.proofs.Lost.{lost_at, lost_entry}
use Rattle.cs_ledger.proofs.Votes.{kept_start, prepares_is, voted_is}

abbrev Anything : Session → Type 0
Anything x = Unit {0}

anything : (entry : Entry) → IsBacked Anything Anything entry
anything (Prepare x) = tt
anything (Decide x Commit) = tt
anything (Decide x Abort) = tt

module _ (rules : Rules) (shard : ℕ) (known : List Session) (unique : AreToldApart known) where
  pub kept_alone : (entries : List Entry) → ((x : Session) → IsIn x (sessions_of entries) → IsIn x known) → Kept rules known Anything Anything shard (table_of rules shard entries)
  kept_alone [] within = kept_start rules known Anything Anything shard
  kept_alone (entry ∷ earlier) within =
      kept_entry rules known unique shard (table_of rules shard earlier) Anything Anything (kept_alone earlier (λ x i. within x (inr i))) entry (within _ (inl refl)) (anything entry)

  pub fixed_alone : (x : Session) → IsIn x known → (vote : Vote) (entries : List Entry) → ((z : Session) → IsIn z (sessions_of entries) → IsIn z known) → votes_in rules shard x.digest vote entries ≡ true → Fixed rules shard (table_of rules shard entries) x vote
  fixed_alone x k vote [] within h = absurd (both_ways false refl h)
  fixed_alone x k vote (entry ∷ earlier) within h =
      let t = table_of rules shard earlier in
      let knows = within (session_of entry) (inl refl) in
      elim (or_cases (is_prepare_of x.digest entry && is_vote vote (exec rules shard t entry).effect) _ h) [
        | inl now ↦
            let p = and_parts (is_prepare_of x.digest entry) _ now in
            let y = prepares_is x.digest entry p.0 in
            let same : x ≡ y.x = unique x y.x k (subst (λ e. IsIn (session_of e) known) y.entry_is knows) y.digest in
            let is : entry ≡ Prepare x = y.entry_is ∙ ap Prepare (sym same) in
            subst (λ e. Fixed rules shard (exec rules shard t e).table x vote) (sym is)
            (fixed_vote rules known unique shard t x vote (subst (λ e. (exec rules shard t e).effect ≡ Voted vote) is (voted_is vote _ p.1)))
        | inr before ↦
            fixed_entry rules known unique shard t Anything Anything (kept_alone earlier (λ z i. within z (inr i))) entry knows (anything entry) x k vote
            (fixed_alone x k vote earlier (λ z i. within z (inr i)) before)
      ]

  pub one_alone : (x : Session) → IsIn x known → (v w : Vote) (entries : List Entry) → ((z : Session) → IsIn z (sessions_of entries) → IsIn z known) → votes_in rules shard x.digest v entries ≡ true → votes_in rules shard x.digest w entries ≡ true → v ≡ w
  one_alone x k v w entries within e f =
      let a = fixed_alone x k v entries within e in
      let b = fixed_alone x k w entries within f in
      let key : Some a.key ≡ Some b.key = sym a.is ∙ b.is in
      let at : a.key ≡ b.key = cc in
      let q : Some v ≡ Some w = sym a.fixed ∙ ap (λ z. settled_at (table_of rules shard entries) z x.digest) at ∙ b.fixed in
      cc

sessions_right : (later earlier : List Entry) (x : Session) → IsIn x (sessions_of earlier) → IsIn x (sessions_of (later ++ earlier))
sessions_right [] earlier x h = h
sessions_right (entry ∷ later) earlier x h = inr (sessions_right later earlier x h)

pub lost_alone : (rules : Rules) (shard : ℕ) (known : List Session) → AreToldApart known → (x : Session) → IsIn x known → (key : Key) → anchor rules x shard ≡ Some key → (later earlier : List Entry) → ((z : Session) → IsIn z (sessions_of (later ++ earlier)) → IsIn z known) → lost_at (table_of rules shard earlier) key x.digest ≡ true → lost_at (table_of rules shard (later ++ earlier)) key x.digest ≡ true
lost_alone rules shard known unique x k key is [] earlier within h = h
lost_alone rules shard known unique x k key is (entry ∷ later) earlier within h =
    let below = λ (z : Session) (i : IsIn z (sessions_of (later ++ earlier))). within z (inr i) in
    lost_entry rules known unique shard (table_of rules shard (later ++ earlier)) Anything Anything (kept_alone rules shard known unique (later ++ earlier) below) x k key is
    (lost_alone rules shard known unique x k key is later earlier below h) entry (within _ (inl refl))
