-- What the tests on the vote of another node come to.
use Rattle.std.proofs.Common.{◌≡◌, ℕ, Bool, true, false, not, cond, List, [], ◌∷◌, ◌++◌, Option, Some, None, bytes_eq, is_some, refl, ap, sym, subst, ◌∙◌}
use Rattle.std.specs.Map.{lookup, set_value}
use Rattle.cs_base.specs.declared.node_id.NodeId.{NodeId}
use Rattle.cs_base.specs.NodeId.{is_client}
use Rattle.cs_tx_types.specs.declared.session.Session.{Session}
use Rattle.cs_tx_types.specs.declared.vote.Vote.{Vote}
use Rattle.cs_tx.specs.Digest.{digest_of_session}
use Rattle.cs_wire_message.specs.declared.message.Message.TheVariants as message
use Rattle.cs_ledger.specs.Ledger.{Bytes}
use Rattle.cs_node_state.specs.declared.ballot.Ballot.{Ballot}
use Rattle.cs_node_rules.specs.declared.cause.Cause.TheVariants.{Role, Malformed, Repeat, Unasked, Denied, Full}
use Rattle.cs_node_state.specs.declared.pooled.Pooled.{Pooled}
use Rattle.cs_check_rules.specs.Chain.{Log, kept_of}
use Rattle.cs_node_state.specs.Setup.{Setup, digest_of, is_concerned_shard, is_fit, is_session_approved}
use Rattle.cs_node_state.specs.Evidence.{has_voted}
use Rattle.cs_node_state.specs.Pool.{Pool, found, pool_changed, changed_at, with_ballot, pushed, entered, pool_has_room}
use Rattle.cs_node_state.specs.Bench.{Bench}
use Rattle.cs_node_rules.specs.Signs.{Sign, Dropped, Took, Entered, Sent, guarded, asking_signs, ballot_signs, voted_signs}
use Rattle.cs_node_pool.specs.declared.answers.Counted.{Counted}
use Rattle.cs_node_pool.specs.declared.answers.Counted.TheVariants as count
use Rattle.cs_sbac.specs.declared.answers.Entered.{Entered as Answer}
use Rattle.cs_sbac.specs.declared.answers.Entered.TheVariants as enter
use Rattle.cs_sbac.specs.Held.{Held, bench_of, with_pool}
use Rattle.cs_node_pool.specs.Calls.{counted_in}
use Rattle.cs_sbac.specs.Calls.{entered_in, pool_entered_with}
use Rattle.cs_node.specs.Drafts.{Draft}
use Rattle.cs_node.specs.Notes.{TellsSigns}
use Rattle.cs_node.specs.Signing.{Leaves}
use Rattle.cs_node.specs.Steps.{Makes}
use Rattle.cs_node.proofs.Sums.{tells-nothing}
use Rattle.cs_node.proofs.Submitting.{room-new, room-full, dropped-makes, stays}

-- ---- what counting a vote answers

-- the session stands in the pool, and the node has voted on it, or not
pub record IsThere (from : NodeId) (voted : Bool) (o : Option Pooled) : Type 0 where
  pub p : Pooled
  pub is : o ≡ Some p
  pub has : has_voted from p.ballots ≡ voted

there : (from : NodeId) (p : Pooled) (voted : Bool) → has_voted from p.ballots ≡ voted → IsThere from voted (Some p)
there from p voted e = record { p = p; is = refl; has = e }

pub counted-first : (from : NodeId) (o : Option Pooled) → counted_in from o ≡ count.Counted → IsThere from false o
counted-first from None h = let q : count.NotPooled ≡ count.Counted = h in cc
counted-first from (Some p) h = by_voted (has_voted from p.ballots) refl h
  where
    by_voted : (voted : Bool) → has_voted from p.ballots ≡ voted → cond voted count.Repeat count.Counted ≡ count.Counted → IsThere from false (Some p)
    by_voted true e k = let q : count.Repeat ≡ count.Counted = k in cc
    by_voted false e k = there from p false e

pub counted-again : (from : NodeId) (o : Option Pooled) → counted_in from o ≡ count.Repeat → IsThere from true o
counted-again from None h = let q : count.NotPooled ≡ count.Repeat = h in cc
counted-again from (Some p) h = by_voted (has_voted from p.ballots) refl h
  where
    by_voted : (voted : Bool) → has_voted from p.ballots ≡ voted → cond voted count.Repeat count.Counted ≡ count.Repeat → IsThere from true (Some p)
    by_voted true e k = there from p true e
    by_voted false e k = let q : count.Counted ≡ count.Repeat = k in cc

counted-absent : (from : NodeId) (o : Option Pooled) → counted_in from o ≡ count.NotPooled → o ≡ None
counted-absent from None h = refl
counted-absent from (Some p) h = by_voted (has_voted from p.ballots) h
  where
    by_voted : (voted : Bool) → cond voted count.Repeat count.Counted ≡ count.NotPooled → Some p ≡ None
    by_voted true k = let q : count.Repeat ≡ count.NotPooled = k in cc
    by_voted false k = let q : count.Counted ≡ count.NotPooled = k in cc

-- ---- what it leaves

set-same : (test : Bytes → Bool) (pool : Pool) (p : Pooled) → lookup test pool ≡ Some p → set_value test pool p ≡ pool
set-same test [] p h = refl
set-same test (e ∷ pool) p h = by_test (set-same test pool p) (test e.0) h
  where
    by_test : (lookup test pool ≡ Some p → set_value test pool p ≡ pool) → (b : Bool) → cond b (Some e.1) (lookup test pool) ≡ Some p → cond b ((e.0, p) ∷ pool) (e ∷ set_value test pool p) ≡ e ∷ pool
    by_test later true k = let q : e.1 ≡ p = cc in ap (λ (w : Pooled). (e.0, w) ∷ pool) (sym q)
    by_test later false k = ap (λ (rest : Pool). e ∷ rest) (later k)

changed-absent : (d : Bytes) (change : Pooled → Pooled) (pool : Pool) → found d pool ≡ None → pool_changed d change pool ≡ pool
changed-absent d change pool none = ap (changed_at d change pool) none

-- a second vote leaves the pool as it is
pub changed-again : (d : Bytes) (ballot : Ballot) (pool : Pool) → IsThere ballot.sender true (found d pool) → pool_changed d (with_ballot ballot) pool ≡ pool
changed-again d ballot pool t =
    ap (changed_at d (with_ballot ballot) pool) t.is
    ∙ ap (λ b. set_value (bytes_eq d) pool (cond b t.p (record { session = t.p.session; locked = t.p.locked; ballots = t.p.ballots ++ ballot ∷ [] }))) t.has
    ∙ set-same (bytes_eq d) pool t.p t.is

-- a vote on a session was counted: what the pool answered, and what it left
pub record IsCounted (held held' : Held) (ballot : Ballot) (x : Session) (answer : Counted) : Type 0 where
  pub answered : answer ≡ counted_in ballot.sender (found (digest_of_session x) held.pool)
  pub left : held' ≡ with_pool held (pool_changed (digest_of_session x) (with_ballot ballot) held.pool)

pub is-counted : (held held' : Held) (ballot : Ballot) (x : Session) (answer : Counted) (d : Bytes) → d ≡ digest_of_session x → answer ≡ counted_in ballot.sender (found d held.pool)
    → held' ≡ with_pool held (pool_changed d (with_ballot ballot) held.pool) → IsCounted held held' ballot x answer
is-counted held held' ballot x answer d named answered left = record {
  answered = answered ∙ ap (λ name. counted_in ballot.sender (found name held.pool)) named;
  left = left ∙ ap (λ name. with_pool held (pool_changed name (with_ballot ballot) held.pool)) named;
}

-- a session that is not there is left alone
pub record IsAbsent (held held' : Held) (x : Session) : Type 0 where
  pub none : found (digest_of_session x) held.pool ≡ None
  pub same : held' ≡ held

pub absent : (held held' : Held) (ballot : Ballot) (x : Session) (answer : Counted) → IsCounted held held' ballot x answer → answer ≡ count.NotPooled → IsAbsent held held' x
absent held held' ballot x answer counted is =
    let d : Bytes = digest_of_session x in
    let none = counted-absent ballot.sender (found d held.pool) (sym counted.answered ∙ is) in
    record { none = none; same = counted.left ∙ ap (with_pool held) (changed-absent d (with_ballot ballot) held.pool none) }

-- ---- what is said of it

module _ (setup : Setup) (shard : ℕ) (b : Bench) (sender : NodeId) (vote : Vote) (asks : Bool) (x : Session) where
  abbrev all : List Sign
  all = voted_signs setup shard b sender vote asks x

  pub by-client : is_client sender ≡ true → all ≡ Dropped Role ∷ []
  by-client client = rw client refl

  pub on-malformed : is_client sender ≡ false → is_fit setup shard x ≡ false → all ≡ Dropped Malformed ∷ []
  on-malformed client fit = rw (client, fit) refl

  pub by-stranger : is_client sender ≡ false → is_fit setup shard x ≡ true → is_concerned_shard setup x sender.shard ≡ false → all ≡ Dropped Role ∷ []
  by-stranger client fit concerned = rw (client, fit, concerned) refl

  module _ (client : is_client sender ≡ false) (fit : is_fit setup shard x ≡ true) (concerned : is_concerned_shard setup x sender.shard ≡ true) where
    pub on-found : (o : Option Pooled) → found (digest_of setup x) b.pool ≡ o → all ≡ ballot_signs setup shard b sender vote asks x o
    on-found o is = rw (client, fit, concerned, is) refl

    pub on-first : IsThere sender false (found (digest_of setup x) b.pool) → all ≡ Took sender vote x ∷ []
    on-first t = on-found (Some t.p) t.is ∙ ap (λ v. guarded (not v) Repeat (Took sender vote x ∷ [])) t.has

    pub on-second : IsThere sender true (found (digest_of setup x) b.pool) → all ≡ Dropped Repeat ∷ []
    on-second t = on-found (Some t.p) t.is ∙ ap (λ v. guarded (not v) Repeat (Took sender vote x ∷ [])) t.has

  -- a vote on a session that isn't in the pool
  pub unasked : (known : Option Vote) → asks ≡ false → asking_signs setup b sender vote asks x known ≡ Dropped Unasked ∷ []
  unasked None ask = rw ask refl
  unasked (Some known) ask = rw ask refl

  pub asked-known : (known : Option Vote) (given : Vote) → asks ≡ true → known ≡ Some given → asking_signs setup b sender vote asks x known ≡ Sent sender (message.Voted given false x) ∷ []
  asked-known known given ask is = ap (asking_signs setup b sender vote asks x) is ∙ ap (λ a. guarded a Unasked (Sent sender (message.Voted given false x) ∷ [])) ask

  abbrev enters : List Sign
  enters = guarded (is_session_approved setup x) Denied (guarded (pool_has_room b.pool) Full (Took sender vote x ∷ Entered x ∷ []))

  pub asked-new : (known : Option Vote) → asks ≡ true → known ≡ None → asking_signs setup b sender vote asks x known ≡ enters
  asked-new known ask is = ap (asking_signs setup b sender vote asks x) is ∙ ap (λ a. guarded a Unasked enters) ask

-- the first vote of a node on a pooled session is taken
pub first-makes : (setup : Setup) (held held' : Held) (log : Log) (kept_is : held.archived.kept ≡ kept_of log) (sender : NodeId) (vote : Vote) (x : Session) (signs : List Sign) (draft : Draft) → signs ≡ Took sender vote x ∷ []
    → held' ≡ with_pool held (pool_changed (digest_of setup x) (with_ballot (record { sender = sender; vote = vote })) held.pool) → Leaves setup held signs (bench_of log held) held' draft draft
first-makes setup held held' log kept_is sender vote x signs draft is left =
    let P : List Sign → Type 0 = λ made. Leaves setup held made (bench_of log held) held' draft draft in
    subst P (sym is) (record {
      log = log;
      kept_is = ap (λ (h : Held). h.archived.kept) left ∙ kept_is;
      config_is = ap (λ (h : Held). h.config) left;
      me_is = ap (λ (h : Held). h.me) left;
      makes = record {
        tells = record { notes = (tells-nothing draft).notes; said = (tells-nothing draft).said };
        bench_is = ap (bench_of log) left;
      };
    })

-- the second one is dropped
pub second-makes : (setup : Setup) (held held' : Held) (log : Log) (kept_is : held.archived.kept ≡ kept_of log) (ballot : Ballot) (x : Session) (signs : List Sign) (old new : Draft) → signs ≡ Dropped Repeat ∷ []
    → held' ≡ with_pool held (pool_changed (digest_of setup x) (with_ballot ballot) held.pool) → IsThere ballot.sender true (found (digest_of setup x) held.pool) → TellsSigns (Dropped Repeat ∷ []) old new → Leaves setup held signs (bench_of log held) held' old new
second-makes setup held held' log kept_is ballot x signs old new is left t tells =
    let same : held' ≡ held = left ∙ ap (with_pool held) (changed-again (digest_of setup x) ballot held.pool t) in
    let P : Held → Type 0 = λ h. Leaves setup held signs (bench_of log held) h old new in
    subst P (sym same) (stays setup signs held log old new kept_is (dropped-makes setup held.me (bench_of log held) signs Repeat old new is tells))

-- a session enters with a vote
module _ (setup : Setup) (held held' : Held) (log : Log) (kept_is : held.archived.kept ≡ kept_of log) (ballot : Ballot) (x : Session) (answer : Answer)
    (none : found (digest_of setup x) held.pool ≡ None) (approved : is_session_approved setup x ≡ true) (answered : answer ≡ entered_in held.pool) (left : held' ≡ with_pool held (pool_entered_with (digest_of setup x) x ballot held.pool)) where
  abbrev signs : List Sign
  signs = guarded (is_session_approved setup x) Denied (guarded (pool_has_room held.pool) Full (Took ballot.sender ballot.vote x ∷ Entered x ∷ []))

  pub new-voted : (draft : Draft) → answer ≡ enter.New → Leaves setup held signs (bench_of log held) held' draft draft
  new-voted draft new =
      let room : pool_has_room held.pool ≡ true = room-new held.pool (sym answered ∙ new) in
      let d : Bytes = digest_of setup x in
      let grown : pool_entered_with d x ballot held.pool ≡ pool_changed d (with_ballot ballot) (pushed d x false held.pool) = rw room refl in
      let there : entered d x held.pool ≡ pushed d x false held.pool = ap (λ (o : Option Pooled). cond (is_some o) held.pool (pushed d x false held.pool)) none in
      let P : List Sign → Type 0 = λ made. Leaves setup held made (bench_of log held) held' draft draft in
      let takes : signs ≡ Took ballot.sender ballot.vote x ∷ Entered x ∷ [] = rw (approved, room) refl in
      subst P (sym takes) (record {
        log = log;
        kept_is = ap (λ (h : Held). h.archived.kept) left ∙ kept_is;
        config_is = ap (λ (h : Held). h.config) left;
        me_is = ap (λ (h : Held). h.me) left;
        makes = record {
          tells = record { notes = (tells-nothing draft).notes; said = (tells-nothing draft).said };
          bench_is = ap (bench_of log) left ∙ ap (λ (p : Pool). record (bench_of log held) { pool = p }) (grown ∙ ap (pool_changed d (with_ballot ballot)) (sym there));
        };
      })

  pub full-voted : (old new : Draft) → answer ≡ enter.Full → TellsSigns (Dropped Full ∷ []) old new → Leaves setup held signs (bench_of log held) held' old new
  full-voted old new is tells =
      let room : pool_has_room held.pool ≡ false = room-full held.pool (sym answered ∙ is) in
      let same : held' ≡ held = left ∙ ap (λ b. with_pool held (cond b (pool_changed (digest_of setup x) (with_ballot ballot) (pushed (digest_of setup x) x false held.pool)) held.pool)) room in
      let full : signs ≡ Dropped Full ∷ [] = rw (approved, room) refl in
      let P : Held → Type 0 = λ h. Leaves setup held signs (bench_of log held) h old new in
      subst P (sym same) (stays setup signs held log old new kept_is (dropped-makes setup held.me (bench_of log held) signs Full old new full tells))

pub denied-voted : (setup : Setup) (me : NodeId) (b : Bench) (ballot : Ballot) (x : Session) (old new : Draft) → is_session_approved setup x ≡ false → TellsSigns (Dropped Denied ∷ []) old new
    → Makes setup me (guarded (is_session_approved setup x) Denied (guarded (pool_has_room b.pool) Full (Took ballot.sender ballot.vote x ∷ Entered x ∷ []))) b b old new
denied-voted setup me b ballot x old new approved tells =
    dropped-makes setup me b (guarded (is_session_approved setup x) Denied (guarded (pool_has_room b.pool) Full (Took ballot.sender ballot.vote x ∷ Entered x ∷ []))) Denied old new (rw approved refl) tells
