-- What the tests on what a client says come to.
use Rattle.std.proofs.Common.{◌≡◌, ℕ, Bool, true, false, List, [], ◌∷◌, Option, refl, ap, sym, ◌∙◌, subst, if◌then◌else◌}
use Rattle.std.specs.Prelude.{◌==◌}
use Rattle.cs_base.specs.declared.key.Key.{Key}
use Rattle.cs_base.specs.Key.{shard_of_key}
use Rattle.cs_base.specs.declared.node_id.NodeId.{NodeId}
use Rattle.cs_base.specs.NodeId.{is_client}
use Rattle.cs_tx_types.specs.declared.session.Session.{Session}
use Rattle.cs_wire_message.specs.declared.message.Message.TheVariants as message
use Rattle.cs_node_rules.specs.declared.cause.Cause.{Cause}
use Rattle.cs_node_rules.specs.declared.cause.Cause.TheVariants.{Mine, Role, Malformed, Repeat, Denied, Full}
use Rattle.cs_check_rules.specs.Chain.{Log, kept_of}
use Rattle.cs_node_state.specs.Setup.{Setup, digest_of, is_fit, is_session_approved}
use Rattle.cs_node_state.specs.Pool.{Pool, is_pooled, pool_has_room, pushed, entered}
use Rattle.cs_node_state.specs.Bench.{Bench, decision_on}
use Rattle.cs_node_state.specs.Asked.{told_at, key_asked}
use Rattle.cs_node_rules.specs.Signs.{Sign, Dropped, Entered as Enters, Sent, bench_step, bench_after, entering_signs, submitted_signs, submit_signs, ask_signs}
use Rattle.cs_sbac.specs.declared.answers.Entered.{Entered}
use Rattle.cs_sbac.specs.declared.answers.Entered.TheVariants.{New}
use Rattle.cs_sbac.specs.declared.answers.Entered.TheVariants as Entering
use Rattle.cs_sbac.specs.Held.{Held, bench_of, with_pool}
use Rattle.cs_sbac.specs.Calls.{entered_in, pool_entered}
use Rattle.cs_node.specs.Drafts.{Draft}
use Rattle.cs_node.specs.Notes.{TellsSigns}
use Rattle.cs_node.specs.Signing.{Leaves}
use Rattle.cs_node.specs.Steps.{Makes}
use Rattle.cs_node.proofs.Sums.{tells-nothing}

-- one sign that leaves table and pool as they are
pub one-makes : (setup : Setup) (me : NodeId) (b : Bench) (signs : List Sign) (sign : Sign) (old new : Draft) → signs ≡ sign ∷ [] → bench_step setup me.shard sign b ≡ b → TellsSigns (sign ∷ []) old new → Makes setup me signs b b old new
one-makes setup me b signs sign old new is same tells =
    let P : List Sign → Type 0 = λ made. Makes setup me made b b old new in
    subst P (sym is) (record { tells = tells; bench_is = sym same })

pub dropped-makes : (setup : Setup) (me : NodeId) (b : Bench) (signs : List Sign) (cause : Cause) (old new : Draft) → signs ≡ Dropped cause ∷ [] → TellsSigns (Dropped cause ∷ []) old new → Makes setup me signs b b old new
dropped-makes setup me b signs cause old new is tells = one-makes setup me b signs (Dropped cause) old new is refl tells

-- signs of which nothing but what is told and said is known yet, and which leave table and pool as they are
pub told-makes : (setup : Setup) (me : NodeId) (b : Bench) (signs : List Sign) (old new : Draft) → bench_after setup me.shard signs b ≡ b → TellsSigns signs old new → Makes setup me signs b b old new
told-makes setup me b signs old new same tells = record { tells = tells; bench_is = sym same }

-- ---- a session that is undecided

pub room-new : (pool : Pool) → entered_in pool ≡ New → pool_has_room pool ≡ true
room-new pool is = by_room (pool_has_room pool) is
  where
    by_room : (room : Bool) → (if room then New else Entering.Full) ≡ New → room ≡ true
    by_room true h = refl
    by_room false h = let q : Entering.Full ≡ New = h in cc

pub room-full : (pool : Pool) → entered_in pool ≡ Entering.Full → pool_has_room pool ≡ false
room-full pool is = by_room (pool_has_room pool) is
  where
    by_room : (room : Bool) → (if room then New else Entering.Full) ≡ Entering.Full → room ≡ false
    by_room true h = let q : New ≡ Entering.Full = h in cc
    by_room false h = refl

module _ (setup : Setup) (me : NodeId) (b : Bench) (x : Session) where
  abbrev signs : List Sign
  signs = entering_signs setup b x

  pub repeated : is_pooled (digest_of setup x) b.pool ≡ true → signs ≡ Dropped Repeat ∷ []
  repeated pooled = rw pooled refl

  pub denied : is_pooled (digest_of setup x) b.pool ≡ false → is_session_approved setup x ≡ false → signs ≡ Dropped Denied ∷ []
  denied pooled approved = rw (pooled, approved) refl

  pub full : is_pooled (digest_of setup x) b.pool ≡ false → is_session_approved setup x ≡ true → pool_has_room b.pool ≡ false → signs ≡ Dropped Full ∷ []
  full pooled approved room = rw (pooled, approved, room) refl

  pub entered-makes : (pool : Pool) (old : Draft) → is_pooled (digest_of setup x) b.pool ≡ false → is_session_approved setup x ≡ true → pool_has_room b.pool ≡ true → pool ≡ pushed (digest_of setup x) x false b.pool
      → Makes setup me signs b (record b { pool = pool }) old old
  entered-makes pool old pooled approved room is =
      let P : List Sign → Type 0 = λ made. Makes setup me made b (record b { pool = pool }) old old in
      let enters : signs ≡ Enters x ∷ [] = rw (pooled, approved, room) refl in
      let there : entered (digest_of setup x) x b.pool ≡ pushed (digest_of setup x) x false b.pool = rw pooled refl in
      let silent : TellsSigns (Enters x ∷ []) old old = record { notes = (tells-nothing old).notes; said = (tells-nothing old).said } in
      subst P (sym enters) (record {
        tells = silent;
        bench_is = ap (λ (p : Pool). record b { pool = p }) (is ∙ sym there);
      })

-- what is held stays
pub stays : (setup : Setup) (signs : List Sign) (held : Held) (log : Log) (old new : Draft) → held.archived.kept ≡ kept_of log
    → Makes setup held.me signs (bench_of log held) (bench_of log held) old new → Leaves setup held signs (bench_of log held) held old new
stays setup made held log old new kept_is makes = record { log = log; kept_is = kept_is; config_is = refl; me_is = refl; makes = makes }

-- the last test is that of the pool itself
module _ (setup : Setup) (held held' : Held) (log : Log) (kept_is : held.archived.kept ≡ kept_of log) (x : Session) (answer : Entered)
    (pooled : is_pooled (digest_of setup x) held.pool ≡ false) (approved : is_session_approved setup x ≡ true) (answered : answer ≡ entered_in held.pool) (left : held' ≡ with_pool held (pool_entered (digest_of setup x) x held.pool)) where
  abbrev made_signs : List Sign
  made_signs = entering_signs setup (bench_of log held) x

  pub new-makes : (old : Draft) → answer ≡ New → Leaves setup held made_signs (bench_of log held) held' old old
  new-makes old new =
      let room : pool_has_room held.pool ≡ true = room-new held.pool (sym answered ∙ new) in
      let grown : pool_entered (digest_of setup x) x held.pool ≡ pushed (digest_of setup x) x false held.pool = rw room refl in
      let P : Held → Type 0 = λ h. Leaves setup held made_signs (bench_of log held) h old old in
      subst P (sym left) (record {
        log = log;
        kept_is = kept_is;
        config_is = refl;
        me_is = refl;
        makes = entered-makes setup held.me (bench_of log held) x (pool_entered (digest_of setup x) x held.pool) old pooled approved room grown;
      })

  pub full-makes : (old new : Draft) → answer ≡ Entering.Full → TellsSigns (Dropped Full ∷ []) old new → Leaves setup held made_signs (bench_of log held) held' old new
  full-makes old new is tells =
      let room : pool_has_room held.pool ≡ false = room-full held.pool (sym answered ∙ is) in
      let same : pool_entered (digest_of setup x) x held.pool ≡ held.pool = rw room refl in
      let P : Held → Type 0 = λ h. Leaves setup held made_signs (bench_of log held) h old new in
      let Q : Pool → Type 0 = λ pool. Leaves setup held made_signs (bench_of log held) (with_pool held pool) old new in
      subst P (sym left) (subst Q (sym same) (stays setup made_signs held log old new kept_is (dropped-makes setup held.me (bench_of log held) made_signs Full old new (full setup held.me (bench_of log held) x pooled approved room) tells)))

-- ---- a session that a client submits

module _ (setup : Setup) (shard : ℕ) (b : Bench) (sender : NodeId) (x : Session) where
  abbrev all : List Sign
  all = submit_signs setup shard b sender x

  pub no-client : is_client sender ≡ false → all ≡ Dropped Role ∷ []
  no-client client = rw client refl

  pub malformed : is_client sender ≡ true → is_fit setup shard x ≡ false → all ≡ Dropped Malformed ∷ []
  malformed client fit = rw (client, fit) refl

  pub standing : (stands : Option Bool) → is_client sender ≡ true → is_fit setup shard x ≡ true → decision_on setup shard b.table x ≡ stands → all ≡ submitted_signs setup b sender x stands
  standing stands client fit is = rw (client, fit, is) refl

-- ---- what a client asks

module _ (setup : Setup) (shard : ℕ) (b : Bench) (sender : NodeId) (asked : Option Key) where
  abbrev key : Key
  key = key_asked b.table shard asked

  abbrev answers : List Sign
  answers = ask_signs setup shard b sender asked

  pub asks-none : is_client sender ≡ false → answers ≡ Dropped Role ∷ []
  asks-none client = rw client refl

  pub elsewhere : is_client sender ≡ true → (shard_of_key setup.shards key == shard) ≡ false → answers ≡ Dropped Mine ∷ []
  elsewhere client here = rw (client, here) refl

  pub answered-so : is_client sender ≡ true → (shard_of_key setup.shards key == shard) ≡ true → answers ≡ Sent sender (message.Told key (told_at b.table key)) ∷ []
  answered-so client here = rw (client, here) refl
