-- Where the sessions, the votes and the locks of a pool come from.
use Rattle.std.proofs.Common.{◌≡◌, ◌⊎◌, inl, inr, ℕ, Bool, true, false, ◌&&◌, if◌then◌else◌, List, [], ◌∷◌, Option, Some, None, sym, ◌∙◌, ap, subst, refl}
use Rattle.std.specs.Prelude.{Ok, bytes_eq}
use Rattle.std.specs.Map.{lookup, remove_entry, set_value}
use Rattle.std.proofs.lemmas.Bool.{cases_Bool, cond_both}
use Rattle.cs_tx.specs.Votes.{vote_of}
use Rattle.cs_base.specs.Lists.{IsIn}
use Rattle.cs_base.specs.declared.node_id.NodeId.{NodeId}
use Rattle.cs_tx_types.specs.declared.session.Session.{Session}
use Rattle.cs_tx_types.specs.declared.vote.Vote.{Vote}
use Rattle.cs_tx_types.specs.declared.action.Action.{Action}
use Rattle.cs_tx_types.specs.declared.action.Action.TheVariants.{Prepare, Decide}
use Rattle.cs_wire_message.specs.declared.message.Message.{Message}
use Rattle.cs_wire.specs.Opened.{Opened}
use Rattle.cs_ledger.specs.Ledger.{Bytes}
use Rattle.cs_ledger.specs.Session as Seen
use Rattle.cs_ledger.specs.Table as Shard
use Rattle.cs_ledger.specs.Table.{Commit, Effect, Voted, Accepted, Aborted, Skipped, Void, Table}
use Rattle.cs_ledger.proofs.Basics.{in_left, in_either, same_bytes}
use Rattle.cs_node_state.specs.declared.ballot.Ballot.{Ballot}
use Rattle.cs_node_state.specs.declared.pooled.Pooled.{Pooled}
use Rattle.cs_node_state.specs.Setup.{Setup, digest_of, is_fit, is_session_approved, entry_of}
use Rattle.cs_tx_types.specs.Session.{session_in}
use Rattle.cs_node_state.specs.Evidence.{has_voted}
use Rattle.cs_node_state.specs.Pool.{Pool, found, is_pooled, without_session, changed_at, pool_changed, with_ballot, as_locked, entering, pushed}
use Rattle.cs_node_state.specs.Bench.{is_locked, pool_after, told_by}
use Rattle.cs_node_rules.specs.Signs.{Sign, Dropped, Took, Entered, Viewed, Did, Headed, Kept, Sent}
use Rattle.cs_node_rules.specs.Site.{Datagram, Tick, Mark, In, Ordered, Plain, Site, signs_of}
use Rattle.cs_node_rules.specs.Collisions.{sessions_in, in_opened, given}
use Rattle.cs_node_law.specs.Made.{view_at, HasVotedOn, has_given, current, IsHeard, AllMade}
use Rattle.cs_node_law.proofs.Views.{sessions_given}
use Rattle.cs_node_law.proofs.Silent.{given-more, voted-more, session-more}
use Rattle.cs_node_law.proofs.Turns.{untold}
use Rattle.cs_node_law.proofs.Locks.{locks-given}

abbrev pub Place : Type 0
Place = Bytes × Pooled

-- ---- what stands in a changed pool

pub found-in : (d : Bytes) (pool : Pool) (p : Pooled) → found d pool ≡ Some p → (e : Place) × (IsIn e pool) × (d ≡ e.0) × (e.1 ≡ p)
found-in d [] p h = cc
found-in d (e ∷ pool) p h = here (bytes_eq d e.0) refl (found-in d pool p) h
  where
    here : (b : Bool) → bytes_eq d e.0 ≡ b → (found d pool ≡ Some p → (q : Place) × (IsIn q pool) × (d ≡ q.0) × (q.1 ≡ p)) → (if b then Some e.1 else lookup (bytes_eq d) pool) ≡ Some p → (q : Place) × (IsIn q (e ∷ pool)) × (d ≡ q.0) × (q.1 ≡ p)
    here true same later h = let is : e.1 ≡ p = cc in (e, inl refl, same_bytes d e.0 same, is)
    here false other later h = let r = later h in (r.0, inr r.1, r.2, r.3)

-- an element of the pool, or what the change made of one
abbrev pub IsOld : Bytes → (Pooled → Pooled) → Pool → Place → Type 0
IsOld d change pool e = IsIn e pool ⊎ ((old : Place) × (IsIn old pool) × (d ≡ old.0) × (e ≡ (old.0, change old.1)))

set-in : (d : Bytes) (change : Pooled → Pooled) (pool : Pool) (p : Pooled) (e : Place) → found d pool ≡ Some p → IsIn e (set_value (bytes_eq d) pool (change p)) → IsOld d change pool e
set-in d change [] p e f h = absurd h
set-in d change (o ∷ pool) p e f h = here (bytes_eq d o.0) refl (set-in d change pool p e) f h
  where
    later : IsOld d change pool e → IsOld d change (o ∷ pool) e
    later (inl i) = inl (inr i)
    later (inr r) = inr (r.0, inr r.1, r.2, r.3)

    here : (b : Bool) → bytes_eq d o.0 ≡ b → (found d pool ≡ Some p → IsIn e (set_value (bytes_eq d) pool (change p)) → IsOld d change pool e) → (if b then Some o.1 else lookup (bytes_eq d) pool) ≡ Some p
        → IsIn e (if b then (o.0, change p) ∷ pool else o ∷ set_value (bytes_eq d) pool (change p)) → IsOld d change (o ∷ pool) e
    here true same again f (inl is) =
        let was : p ≡ o.1 = cc in
        inr (o, inl refl, same_bytes d o.0 same, is ∙ ap (λ (q : Pooled). let r : Place = (o.0, change q) in r) was)
    here true same again f (inr i) = inl (inr i)
    here false other again f (inl is) = inl (inl is)
    here false other again f (inr i) = later (again f i)

pub changed-in : (d : Bytes) (change : Pooled → Pooled) (pool : Pool) (e : Place) → IsIn e (pool_changed d change pool) → IsOld d change pool e
changed-in d change pool e h = go (found d pool) refl h
  where
    go : (o : Option Pooled) → found d pool ≡ o → IsIn e (changed_at d change pool o) → IsOld d change pool e
    go None f h = inl h
    go (Some p) f h = set-in d change pool p e f h

pub without-in : (d : Bytes) (pool : Pool) (e : Place) → IsIn e (without_session d pool) → IsIn e pool
without-in d [] e h = h
without-in d (o ∷ pool) e h = here (bytes_eq d o.0) (without-in d pool e) h
  where
    here : (b : Bool) → (IsIn e (without_session d pool) → IsIn e pool) → IsIn e (if b then pool else o ∷ remove_entry (bytes_eq d) pool) → IsIn e (o ∷ pool)
    here true again h = inr h
    here false again (inl is) = inl is
    here false again (inr i) = inr (again i)

ballot-in : (ballot b : Ballot) (p : Pooled) → IsIn b (with_ballot ballot p).ballots → IsIn b p.ballots ⊎ (b ≡ ballot)
ballot-in ballot b p =
    cond_both (has_voted ballot.sender p.ballots) _ _ (λ (q : Pooled). IsIn b q.ballots → IsIn b p.ballots ⊎ (b ≡ ballot))
    (λ t i. inl i)
    (λ t i. elim (in_either b p.ballots (ballot ∷ []) i) [ inl old ↦ inl old | inr new ↦ elim new [ inl is ↦ inr is | inr none ↦ absurd none ] ])

ballot-locked : (ballot : Ballot) (p : Pooled) → (with_ballot ballot p).locked ≡ p.locked
ballot-locked ballot p = cond_both (has_voted ballot.sender p.ballots) _ _ (λ (q : Pooled). q.locked ≡ p.locked) (λ t. refl) (λ t. refl)

ballot-session : (ballot : Ballot) (p : Pooled) → (with_ballot ballot p).session ≡ p.session
ballot-session ballot p = cond_both (has_voted ballot.sender p.ballots) _ _ (λ (q : Pooled). q.session ≡ p.session) (λ t. refl) (λ t. refl)

-- ---- where they come from

-- this vote of this node on a session of this digest was taken
abbrev pub HasTaken : Setup → Bytes → NodeId → Vote → List Sign → Type 0
HasTaken setup d who vote [] = ⊥
HasTaken setup d who vote (Took sender other x ∷ past) = ((d ≡ digest_of setup x) × (sender ≡ who) × (other ≡ vote)) ⊎ HasTaken setup d who vote past
HasTaken setup d who vote (Did slot place entry effect ∷ past) = HasTaken setup d who vote past
HasTaken setup d who vote (Dropped cause ∷ past) = HasTaken setup d who vote past
HasTaken setup d who vote (Entered x ∷ past) = HasTaken setup d who vote past
HasTaken setup d who vote (Viewed slot view ∷ past) = HasTaken setup d who vote past
HasTaken setup d who vote (Headed number head ∷ past) = HasTaken setup d who vote past
HasTaken setup d who vote (Kept index checkpoint ∷ past) = HasTaken setup d who vote past
HasTaken setup d who vote (Sent to message ∷ past) = HasTaken setup d who vote past

-- a place of the pool: the session stood in an input and is approved, or was voted on; each vote was taken; what is locked was voted commit
pub record IsSourced {M : Type 0} (site : Site M) (me : NodeId) (t : List (Mark M)) (e : Place) : Type 0 where
  pub digest : e.0 ≡ digest_of site.setup e.1.session
  pub fit : is_fit site.setup me.shard e.1.session ≡ true
  pub source : ((is_session_approved site.setup e.1.session ≡ true) × IsIn e.1.session (sessions_given site me t)) ⊎ HasVotedOn e.1.session (signs_of t)
  pub ballots : (b : Ballot) → IsIn b e.1.ballots → HasTaken site.setup e.0 b.sender b.vote (signs_of t)
  pub locked : e.1.locked ≡ true → has_given site.setup e.0 Commit (signs_of t) ≡ true

taken-more : {M : Type 0} (setup : Setup) (d : Bytes) (who : NodeId) (vote : Vote) (mark : Mark M) (t : List (Mark M)) → HasTaken setup d who vote (signs_of t) → HasTaken setup d who vote (signs_of (mark ∷ t))
taken-more {M} setup d who vote (In input) t h = h
taken-more {M} setup d who vote (Ordered deed) t h = h
taken-more {M} setup d who vote (Plain (Dropped cause)) t h = h
taken-more {M} setup d who vote (Plain (Took sender other x)) t h = inr h
taken-more {M} setup d who vote (Plain (Entered x)) t h = h
taken-more {M} setup d who vote (Plain (Viewed slot view)) t h = h
taken-more {M} setup d who vote (Plain (Headed number head)) t h = h
taken-more {M} setup d who vote (Plain (Kept index checkpoint)) t h = h
taken-more {M} setup d who vote (Plain (Sent to message)) t h = h
taken-more {M} setup d who vote (Plain (Did slot place entry effect)) t h = h

sourced-more : {M : Type 0} (site : Site M) (me : NodeId) (mark : Mark M) (t : List (Mark M)) (e : Place) → IsSourced site me t e → IsSourced site me (mark ∷ t) e
sourced-more {M} site me mark t e s =
    record {
      digest = s.digest;
      fit = s.fit;
      source = elim s.source [ inl a ↦ inl (a.0, session-more site me e.1.session mark t a.1) | inr v ↦ inr (voted-more e.1.session mark t v) ];
      ballots = λ b i. taken-more site.setup e.0 b.sender b.vote mark t (s.ballots b i);
      locked = λ h. given-more site.setup e.0 Commit mark t (s.locked h);
    }

-- what stands in the input at work was given
current-given : {A M : Type 0} (site : Site M) (those : Message → List A) (me : NodeId) (t : List (Mark M)) (bytes : Bytes) (sender : NodeId) (said : Message) (a : A) → current t ≡ Some (Datagram bytes) → site.net.opened me bytes ≡ Ok (sender, said) → IsIn a (those said) → IsIn a (given site those me t)
current-given {A} {M} site those me [] bytes sender said a c e i = cc
current-given {A} {M} site those me (In (Datagram other) ∷ t) bytes sender said a c e i =
    let same : other ≡ bytes = cc in
    in_left a (in_opened those (site.net.opened me other)) _ (subst (λ (o : Opened). IsIn a (in_opened those o)) (sym (ap (site.net.opened me) same ∙ e)) i)
current-given {A} {M} site those me (In Tick ∷ t) bytes sender said a c e i = cc
current-given {A} {M} site those me (Ordered deed ∷ t) bytes sender said a c e i = current-given site those me t bytes sender said a c e i
current-given {A} {M} site those me (Plain sign ∷ t) bytes sender said a c e i = current-given site those me t bytes sender said a c e i

pub heard-given : {A M : Type 0} (site : Site M) (those : Message → List A) (me : NodeId) (t : List (Mark M)) (sender : NodeId) (said : Message) (a : A) → IsHeard site (view_at site me t) t sender said → IsIn a (those said) → IsIn a (given site those (view_at site me t).me t)
heard-given {A} {M} site those me t sender said a heard i = current-given site those (view_at site me t).me t heard.bytes sender said a heard.is_current heard.reads i

-- what gave a vote is well formed, and concerns the shard
exec-fit : (rules : Seen.Rules) (shard : ℕ) (t : Table) (entry : Shard.Entry) (vote : Shard.Vote) → (Shard.exec rules shard t entry).effect ≡ Voted vote
    → (Seen.well_formed rules (Shard.session_of entry) && Seen.concerns rules (Shard.session_of entry) shard) ≡ true
exec-fit rules shard t entry vote e =
    elim (cases_Bool (Seen.well_formed rules (Shard.session_of entry) && Seen.concerns rules (Shard.session_of entry) shard)) [
      | inl fit ↦ fit
      | inr not ↦
          let void : (Shard.exec rules shard t entry).effect ≡ Void = ap (λ b. (if b then Shard.act rules shard t entry (Seen.anchor rules (Shard.session_of entry) shard) else record { table = t; effect = Void }).effect) not in
          let q : Void ≡ Voted vote = sym void ∙ e in
          cc
    ]

pub voted-fit : {M : Type 0} (site : Site M) (me : NodeId) (x : Session) (t : List (Mark M)) → AllMade site me t → HasVotedOn x (signs_of t) → is_fit site.setup (view_at site me t).me.shard x ≡ true
voted-fit {M} site me x [] made h = absurd h
voted-fit {M} site me x (In input ∷ t) made h = voted-fit site me x t made.1 h
voted-fit {M} site me x (Ordered deed ∷ t) made h = voted-fit site me x t made.1 h
voted-fit {M} site me x (Plain (Dropped cause) ∷ t) made h = voted-fit site me x t made.1 h
voted-fit {M} site me x (Plain (Took sender vote y) ∷ t) made h = voted-fit site me x t made.1 h
voted-fit {M} site me x (Plain (Entered y) ∷ t) made h = voted-fit site me x t made.1 h
voted-fit {M} site me x (Plain (Viewed slot view) ∷ t) made h = voted-fit site me x t made.1 h
voted-fit {M} site me x (Plain (Headed number head) ∷ t) made h = voted-fit site me x t made.1 h
voted-fit {M} site me x (Plain (Kept index checkpoint) ∷ t) made h = voted-fit site me x t made.1 h
voted-fit {M} site me x (Plain (Sent to message) ∷ t) made h = voted-fit site me x t made.1 h
voted-fit {M} site me x (Plain (Did slot place entry effect) ∷ t) made (inr h) = voted-fit site me x t made.1 h
voted-fit {M} site me x (Plain (Did slot place entry effect) ∷ t) made (inl now) =
    let v = view_at site me t in
    let came = sym made.0.computed ∙ now.1.1 in
    exec-fit site.setup.rules v.me.shard v.bench.table (Shard.Prepare (site.setup.session_of x)) now.1.0
    (subst (λ (e : Action). (Shard.exec site.setup.rules v.me.shard v.bench.table (entry_of site.setup e)).effect ≡ Voted now.1.0) now.0 came)

-- what votes is a Prepare
voted-prepare : (setup : Setup) (shard : ℕ) (t : Table) (entry : Action) (vote : Shard.Vote) → (Shard.exec setup.rules shard t (entry_of setup entry)).effect ≡ Voted vote → entry ≡ Prepare (session_in entry)
voted-prepare setup shard t (Prepare x) vote e = refl
voted-prepare setup shard t (Decide v x) vote e =
    let none = untold setup.rules shard t (setup.session_of x) (vote_of v) (λ o. false) in
    let q : told_by (Voted vote) false ≡ None = subst (λ (eff : Effect). told_by eff false ≡ None) e none in
    cc

-- ---- all places of a pool

module _ {M : Type 0} (site : Site M) (me : NodeId) (t : List (Mark M)) where
  abbrev pub AllSourced : Pool → Type 0
  AllSourced pool = (e : Place) → IsIn e pool → IsSourced site me t e

  -- a change that keeps the session, the votes but for taken ones, and the lock but where commit was voted
  pub sourced-changed : (d : Bytes) (change : Pooled → Pooled) (pool : Pool) → AllSourced pool → ((p : Pooled) → (change p).session ≡ p.session)
      → ((p : Pooled) (b : Ballot) → IsIn b (change p).ballots → IsIn b p.ballots ⊎ HasTaken site.setup d b.sender b.vote (signs_of t))
      → ((p : Pooled) → (change p).locked ≡ true → (p.locked ≡ true) ⊎ (has_given site.setup d Commit (signs_of t) ≡ true)) → AllSourced (pool_changed d change pool)
  sourced-changed d change pool all session ballots locked e i =
      elim (changed-in d change pool e i) [
        | inl old ↦ all e old
        | inr new ↦
            let o = new.0 in
            let s = all o new.1 in
            let moved : IsSourced site me t (o.0, change o.1) = record {
              digest = s.digest ∙ ap (digest_of site.setup) (sym (session o.1));
              fit = ap (λ x. is_fit site.setup me.shard x) (session o.1) ∙ s.fit;
              source = subst (λ x. ((is_session_approved site.setup x ≡ true) × IsIn x (sessions_given site me t)) ⊎ HasVotedOn x (signs_of t)) (sym (session o.1)) s.source;
              ballots = λ b j. elim (ballots o.1 b j) [ inl old ↦ s.ballots b old | inr taken ↦ subst (λ k. HasTaken site.setup k b.sender b.vote (signs_of t)) new.2 taken ];
              locked = λ h. elim (locked o.1 h) [ inl old ↦ s.locked old | inr given ↦ subst (λ k. has_given site.setup k Commit (signs_of t) ≡ true) new.2 given ];
            } in
            subst (λ z. IsSourced site me t z) (sym new.3) moved
      ]

  pub sourced-pushed : (x : Session) (locked : Bool) (pool : Pool) → AllSourced pool → is_fit site.setup me.shard x ≡ true
      → ((is_session_approved site.setup x ≡ true) × IsIn x (sessions_given site me t)) ⊎ HasVotedOn x (signs_of t) → (locked ≡ true → has_given site.setup (digest_of site.setup x) Commit (signs_of t) ≡ true)
      → AllSourced (pushed (digest_of site.setup x) x locked pool)
  sourced-pushed x locked pool all fit source given e i =
      elim (in_either e pool ((digest_of site.setup x, entering x locked) ∷ []) i) [
        | inl old ↦ all e old
        | inr new ↦ elim new [
          | inl is ↦ subst (λ z. IsSourced site me t z) (sym is) (record { digest = refl; fit = fit; source = source; ballots = λ b j. absurd j; locked = given })
          | inr none ↦ absurd none
        ]
      ]

  pub sourced-after : (x : Session) (effect : Effect) (locked : Bool) (pool : Pool) → AllSourced pool
      → ((vote : Shard.Vote) → effect ≡ Voted vote → (is_fit site.setup me.shard x ≡ true) × HasVotedOn x (signs_of t))
      → (locked ≡ true → has_given site.setup (digest_of site.setup x) Commit (signs_of t) ≡ true) → AllSourced (pool_after effect locked (digest_of site.setup x) x pool)
  sourced-after x (Voted vote) true pool all voted given =
      cond_both (is_pooled (digest_of site.setup x) pool) _ _ AllSourced
      (λ e. sourced-changed (digest_of site.setup x) as_locked pool all (λ p. refl) (λ p b i. inl i) (λ p h. inr (given refl)))
      (λ e. sourced-pushed x true pool all (voted vote refl).0 (inr (voted vote refl).1) given)
  sourced-after x (Voted vote) false pool all voted given = λ e i. all e (without-in (digest_of site.setup x) pool e i)
  sourced-after x Accepted locked pool all voted given = λ e i. all e (without-in (digest_of site.setup x) pool e i)
  sourced-after x Aborted locked pool all voted given = λ e i. all e (without-in (digest_of site.setup x) pool e i)
  sourced-after x Skipped locked pool all voted given = all
  sourced-after x Void locked pool all voted given = all

pub pool-sourced : {M : Type 0} (site : Site M) (me : NodeId) (t : List (Mark M)) → AllMade site me t → AllSourced site (view_at site me t).me t (view_at site me t).bench.pool
pool-sourced {M} site me [] made = λ e i. absurd i
pool-sourced {M} site me (In input ∷ t) made = λ e i. sourced-more site _ (In input) t e (pool-sourced site me t made.1 e i)
pool-sourced {M} site me (Ordered deed ∷ t) made = λ e i. sourced-more site _ (Ordered deed) t e (pool-sourced site me t made.1 e i)
pool-sourced {M} site me (Plain (Dropped cause) ∷ t) made = λ e i. sourced-more site _ (Plain (Dropped cause)) t e (pool-sourced site me t made.1 e i)
pool-sourced {M} site me (Plain (Viewed slot view) ∷ t) made = λ e i. sourced-more site _ (Plain (Viewed slot view)) t e (pool-sourced site me t made.1 e i)
pool-sourced {M} site me (Plain (Headed number head) ∷ t) made = λ e i. sourced-more site _ (Plain (Headed number head)) t e (pool-sourced site me t made.1 e i)
pool-sourced {M} site me (Plain (Kept index checkpoint) ∷ t) made = λ e i. sourced-more site _ (Plain (Kept index checkpoint)) t e (pool-sourced site me t made.1 e i)
pool-sourced {M} site me (Plain (Sent to message) ∷ t) made = λ e i. sourced-more site _ (Plain (Sent to message)) t e (pool-sourced site me t made.1 e i)
pool-sourced {M} site me (Plain (Took sender vote x) ∷ t) made =
    let v = view_at site me t in
    let mark : Mark M = Plain (Took sender vote x) in
    let ballot : Ballot = record { sender = sender; vote = vote } in
    sourced-changed site v.me (mark ∷ t) (digest_of site.setup x) (with_ballot ballot) v.bench.pool
    (λ e i. sourced-more site _ mark t e (pool-sourced site me t made.1 e i)) (ballot-session ballot)
    (λ p b i. elim (ballot-in ballot b p i) [ inl old ↦ inl old | inr is ↦ inr (inl (refl, ap (λ (c : Ballot). c.sender) (sym is), ap (λ (c : Ballot). c.vote) (sym is))) ])
    (λ p h. inl (sym (ballot-locked ballot p) ∙ h))
pool-sourced {M} site me (Plain (Entered x) ∷ t) made =
    let v = view_at site me t in
    let mark : Mark M = Plain (Entered x) in
    let all : AllSourced site v.me (mark ∷ t) v.bench.pool = λ e i. sourced-more site _ mark t e (pool-sourced site me t made.1 e i) in
    cond_both (is_pooled (digest_of site.setup x) v.bench.pool) _ _ (AllSourced site v.me (mark ∷ t))
    (λ e. all)
    (λ e. elim made.0 [
      | inl new ↦ sourced-pushed site v.me (mark ∷ t) x false v.bench.pool all new.fit (inl (new.approved, heard-given site sessions_in me t new.sender new.said x new.heard new.about)) (λ h. cc)
      | inr voted ↦ sourced-pushed site v.me (mark ∷ t) x false v.bench.pool all (voted-fit site me x t made.1 voted) (inr voted) (λ h. cc)
    ])
pool-sourced {M} site me (Plain (Did slot place entry effect) ∷ t) made =
    let v = view_at site me t in
    let mark : Mark M = Plain (Did slot place entry effect) in
    let out = Shard.exec site.setup.rules v.me.shard v.bench.table (entry_of site.setup entry) in
    sourced-after site v.me (mark ∷ t) (session_in entry) out.effect (is_locked site.setup v.me.shard out.table (session_in entry)) v.bench.pool
    (λ e i. sourced-more site _ mark t e (pool-sourced site me t made.1 e i))
    (λ vote is.
    let prepare = voted-prepare site.setup v.me.shard v.bench.table entry vote is in
    let fit = exec-fit site.setup.rules v.me.shard v.bench.table (Shard.Prepare (site.setup.session_of (session_in entry))) vote (subst (λ (e : Action). (Shard.exec site.setup.rules v.me.shard v.bench.table (entry_of site.setup e)).effect ≡ Voted vote) prepare is) in
    (fit, inl (prepare, (vote, made.0.computed ∙ is))))
    (λ held. locks-given site me (mark ∷ t) (session_in entry) made held)
