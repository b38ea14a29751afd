-- A vote that an honest node took of an honest node is one that it gave, and f + 1 ballots hold one of an honest node.
use Rattle.std.proofs.Common.{◌≡◌, inl, inr, ℕ, zero, suc, ◌+◌, ◌*◌, ◌<◌, Bool, true, false, not, ◌&&◌, if◌then◌else◌, List, [], ◌∷◌, arith, sym, ◌∙◌, ap, subst, refl}
use Rattle.std.proofs.lemmas.Bool.{and_parts, both_ways, ltb-true}
use Rattle.cs_tx.specs.Votes.{vote_of}
use Rattle.cs_base.specs.declared.node_id.NodeId.{NodeId}
use Rattle.cs_tx_types.specs.declared.session.Session.{Session}
use Rattle.cs_tx_types.specs.declared.vote.Vote as Tx
use Rattle.cs_tx_types.specs.declared.vote.Vote.TheVariants as tx
use Rattle.cs_wire_message.specs.declared.message.Message.TheVariants as message
use Rattle.cs_order.specs.Counts.{count_below}
use Rattle.cs_ledger.specs.Ledger.{Bytes}
use Rattle.cs_ledger.specs.Table.{Vote}
use Rattle.cs_node_state.specs.declared.ballot.Ballot.{Ballot}
use Rattle.cs_node_state.specs.Setup.{Setup, digest_of}
use Rattle.cs_node_state.specs.Evidence.{same_vote, has_ballot, has_support}
use Rattle.cs_base.specs.NodeId.{same_name}
use Rattle.cs_node_rules.specs.Signs.{Dropped, Took, Entered, Viewed, Did, Headed, Kept, Sent}
use Rattle.cs_node_rules.specs.Site.{Mark, In, Ordered, Plain, Site, signs_of}
use Rattle.cs_node_law.specs.Made.{view_at, has_given, IsVoted, IsMade}
use Rattle.cs_node_law.proofs.Views.{me-same}
use Rattle.cs_node_law.proofs.Silent.{given-more}
use Rattle.cs_node_law.proofs.Pools.{Place, HasTaken, IsSourced}
use Rattle.cs_world_law.specs.Worlds.{is_honest}
use Rattle.cs_world_law.specs.Chain.{Moment, trail_at, Known, IsBacked, Story, IsSoundSite}
use Rattle.cs_world_law.proofs.Trails.{at, same-name, trail-both}
use Rattle.cs_world_law.proofs.Local.{heard-reads}
use Rattle.cs_world_law.proofs.Runs.{told-by}
use Rattle.cs_world_law.proofs.Counting.{any-in}

-- what was given stays given
pub given-later : {M : Type 0} (setup : Setup) (d : Bytes) (vote : Vote) (i : NodeId) (m : Moment M) (past : List (Moment M)) → has_given setup d vote (signs_of (trail_at i past)) ≡ true → has_given setup d vote (signs_of (trail_at i (m ∷ past))) ≡ true
given-later {M} setup d vote i m past h = trail-both (λ t. has_given setup d vote (signs_of t) ≡ true) i m past (λ own. given-more setup d vote m.mark (trail_at i past) h) h

-- ---- votes that were taken

module _ {M : Type 0} (site : Site M) (sound : IsSoundSite site) (known : Known) where
  -- a vote that was heard of an honest node is one that it gave
  heard-given : (j sender : NodeId) (vote : Tx.Vote) (x : Session) (past : List (Moment M)) → Story site known past → IsBacked site j (trail_at j past) past → is_honest site j ≡ true → is_honest site sender ≡ true
      → IsVoted site (view_at site j (trail_at j past)) (trail_at j past) sender vote x → has_given site.setup (digest_of site.setup x) (vote_of vote) (signs_of (trail_at sender past)) ≡ true
  heard-given j sender vote x past story backed here there v =
      let said = message.Voted vote v.asks x in
      let reads = heard-reads site sound known j (trail_at j past) sender said v.heard in
      let seal = backed v.heard.bytes sender said v.heard.is_current reads there in
      elim (told-by site sound known j sender v.heard.bytes said past story here there seal reads) as (λ z. has_given site.setup (digest_of site.setup x) (vote_of vote) (signs_of (trail_at sender past)) ≡ true) [
        | inl o ↦ absurd (both_ways false refl o.1.ordering)
        | inr w ↦ elim w as (λ z. has_given site.setup (digest_of site.setup x) (vote_of vote) (signs_of (trail_at sender past)) ≡ true) [
          | inl c ↦
              let vote_is : vote ≡ c.vote = (let e = c.is in cc) in
              let same : x ≡ c.x = (let e = c.is in cc) in
              ap (λ z. has_given site.setup (digest_of site.setup z) (vote_of vote) (signs_of (trail_at sender past))) same
              ∙ ap (λ z. has_given site.setup (digest_of site.setup c.x) (vote_of z) (signs_of (trail_at sender past))) vote_is
              ∙ c.given
          | inr other ↦ elim other as (λ z. has_given site.setup (digest_of site.setup x) (vote_of vote) (signs_of (trail_at sender past)) ≡ true) [
            | inl want ↦ absurd (let e = want.1 in cc)
            | inr head ↦ absurd (let e = head.1 in cc)
          ]
        ]
      ]

  mark-given : (j who : NodeId) (d : Bytes) (vote : Tx.Vote) (mark : Mark M) (past : List (Moment M)) → Story site known past → IsBacked site j (trail_at j past) past → is_honest site j ≡ true → is_honest site who ≡ true → IsMade site j (trail_at j past) mark
      → (HasTaken site.setup d who vote (signs_of (trail_at j past)) → has_given site.setup d (vote_of vote) (signs_of (trail_at who past)) ≡ true)
      → HasTaken site.setup d who vote (signs_of (mark ∷ trail_at j past)) → has_given site.setup d (vote_of vote) (signs_of (trail_at who past)) ≡ true
  mark-given j who d vote (In input) past story backed here there made later h = later h
  mark-given j who d vote (Ordered deed) past story backed here there made later h = later h
  mark-given j who d vote (Plain (Dropped cause)) past story backed here there made later h = later h
  mark-given j who d vote (Plain (Entered x)) past story backed here there made later h = later h
  mark-given j who d vote (Plain (Viewed slot view)) past story backed here there made later h = later h
  mark-given j who d vote (Plain (Headed number head)) past story backed here there made later h = later h
  mark-given j who d vote (Plain (Kept index checkpoint)) past story backed here there made later h = later h
  mark-given j who d vote (Plain (Did slot place entry effect)) past story backed here there made later h = later h
  mark-given j who d vote (Plain (Sent to said)) past story backed here there made later h = later h
  mark-given j who d vote (Plain (Took sender other x)) past story backed here there made later (inr before) = later before
  mark-given j who d vote (Plain (Took sender other x)) past story backed here there made later (inl now) =
      let t = trail_at j past in
      let given : has_given site.setup (digest_of site.setup x) (vote_of other) (signs_of (trail_at sender past)) ≡ true =
      elim made as (λ z. has_given site.setup (digest_of site.setup x) (vote_of other) (signs_of (trail_at sender past)) ≡ true) [
        | inl own ↦ subst (λ (n : NodeId). has_given site.setup (digest_of site.setup x) (vote_of other) (signs_of (trail_at n past)) ≡ true) (sym (own.0 ∙ me-same site j t)) own.1
        | inr heard ↦ heard-given j sender other x past story backed here (subst (λ n. is_honest site n ≡ true) (sym now.1) there) heard
      ] in
      ap (λ k. has_given site.setup k (vote_of vote) (signs_of (trail_at who past))) now.0
      ∙ ap (λ v. has_given site.setup (digest_of site.setup x) (vote_of v) (signs_of (trail_at who past))) (sym now.2)
      ∙ subst (λ n. has_given site.setup (digest_of site.setup x) (vote_of other) (signs_of (trail_at n past)) ≡ true) now.1 given

  pub taken-given : (j who : NodeId) (d : Bytes) (vote : Tx.Vote) (story : List (Moment M)) → Story site known story → is_honest site who ≡ true → HasTaken site.setup d who vote (signs_of (trail_at j story))
      → has_given site.setup d (vote_of vote) (signs_of (trail_at who story)) ≡ true
  taken-given j who d vote [] story there h = absurd h
  taken-given j who d vote (m ∷ past) story there h =
      given-later site.setup d (vote_of vote) who m past
      (trail-both (λ t. HasTaken site.setup d who vote (signs_of t) → has_given site.setup d (vote_of vote) (signs_of (trail_at who past)) ≡ true) j m past
      (λ own taken.
      mark-given j who d vote m.mark past story.1
      (subst (λ n. IsBacked site n (trail_at n past) past) own story.0.backed) (subst (λ n. is_honest site n ≡ true) own story.0.honest) there
      (subst (λ n. IsMade site n (trail_at n past) m.mark) own story.0.made)
      (taken-given j who d vote past story.1 there) taken)
      (taken-given j who d vote past story.1 there) h)

-- ---- support

record IsPicked (n : ℕ) (p q : ℕ → Bool) : Type 0 where
  pub k : ℕ
  pub below : k < n
  pub is : p k ≡ true
  pub not_other : q k ≡ false

widen : (n : ℕ) (p q : ℕ → Bool) → IsPicked n p q → IsPicked (suc n) p q
widen n p q x = record { k = x.k; below = (let h = x.below in omega arith); is = x.is; not_other = x.not_other }

-- where more pass the one test than the other, one passes it alone
pick : (n : ℕ) (p q : ℕ → Bool) → count_below n q < count_below n p → IsPicked n p q
unfolding count_below
pick zero p q h = absurd (omega arith)
pick (suc n) p q h = step (p n) (q n) refl refl (pick n p q) h
  where
    step : (a b : Bool) → p n ≡ a → q n ≡ b → (count_below n q < count_below n p → IsPicked n p q)
        → (if b then 1 else 0) + count_below n q < (if a then 1 else 0) + count_below n p → IsPicked (suc n) p q
    step true false x y later h = record { k = n; below = omega arith; is = x; not_other = y }
    step true true x y later h = widen n p q (later (omega arith))
    step false true x y later h = widen n p q (later (omega arith))
    step false false x y later h = widen n p q (later (omega arith))

not-false : (b : Bool) → not b ≡ false → b ≡ true
not-false true e = refl
not-false false e = cc

votes-same : (a b : Tx.Vote) → same_vote a b ≡ true → a ≡ b
votes-same tx.Commit tx.Commit e = refl
votes-same tx.Abort tx.Abort e = refl
votes-same tx.Commit tx.Abort e = cc
votes-same tx.Abort tx.Commit e = cc

module _ {M : Type 0} (site : Site M) (sound : IsSoundSite site) (known : Known) where
  -- an honest node of a shard gave the vote
  pub record IsGiver (story : List (Moment M)) (d : Bytes) (vote : Vote) (shard : ℕ) : Type 0 where
    pub index : ℕ
    pub honest : is_honest site (at shard index) ≡ true
    pub given : has_given site.setup d vote (signs_of (trail_at (at shard index) story)) ≡ true

  pub giver-later : (m : Moment M) (past : List (Moment M)) (d : Bytes) (vote : Vote) (shard : ℕ) → IsGiver past d vote shard → IsGiver (m ∷ past) d vote shard
  giver-later m past d vote shard g = record { index = g.index; honest = g.honest; given = given-later site.setup d vote (at shard g.index) m past g.given }

  -- behind the support for a vote stands an honest node that gave it
  pub giver : (story : List (Moment M)) (j : NodeId) (e : Place) (vote : Tx.Vote) (shard : ℕ) → Story site known story → IsSourced site j (trail_at j story) e → shard < site.setup.shards
      → has_support site.setup.f e.1.ballots vote shard ≡ true → IsGiver story e.0 (vote_of vote) shard
  giver story j e vote shard story_is s fits support =
      let n = 3 * site.setup.f + 1 in
      let few = sound.few shard fits in
      let many = ltb-true site.setup.f (count_below n (λ index. has_ballot shard index vote e.1.ballots)) support in
      let x = pick n (λ index. has_ballot shard index vote e.1.ballots) (λ index. not (is_honest site (at shard index))) (omega arith) in
      let honest = not-false (is_honest site (at shard x.k)) x.not_other in
      let b = any-in (λ (b : Ballot). same_name b.sender (at shard x.k) && same_vote b.vote vote) e.1.ballots x.is in
      let parts = and_parts (same_name b.0.sender (at shard x.k)) (same_vote b.0.vote vote) b.2 in
      let who = same-name b.0.sender (at shard x.k) parts.0 in
      let taken = s.ballots b.0 b.1 in
      let own : HasTaken site.setup e.0 (at shard x.k) vote (signs_of (trail_at j story)) =
      subst (λ (n : NodeId). HasTaken site.setup e.0 n vote (signs_of (trail_at j story))) who
      (subst (λ v. HasTaken site.setup e.0 b.0.sender v (signs_of (trail_at j story))) (votes-same b.0.vote vote parts.1) taken) in
      record { index = x.k; honest = honest; given = taken-given site sound known j (at shard x.k) e.0 vote story story_is honest own }
