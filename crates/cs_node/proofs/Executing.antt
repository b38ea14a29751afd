-- An execution with the node's own vote is what its signs say.
use Rattle.std.proofs.Common.{◌≡◌, ℕ, zero, suc, ◌+◌, ◌-◌, ◌==◌, ◌<◌, get_or, length, Bool, true, false, cond, List, [], ◌∷◌, ◌++◌, Option, Some, None, bytes_eq, IsSome, is_some, refl, ap, sym, subst, ◌∙◌, arith, append_assoc, append-nil}
use Rattle.cs_tx.specs.Votes.{vote_of}
use Rattle.cs_base.specs.declared.node_id.NodeId.{NodeId}
use Rattle.cs_tx_types.specs.declared.session.Session.{Session}
use Rattle.cs_tx_types.specs.declared.vote.Vote.{Vote}
use Rattle.cs_base.specs.declared.config.Config.{Config}
use Rattle.cs_tx_value.specs.declared.object.Object.{Object}
use Rattle.cs_tx_types.specs.declared.transaction.Tx.{Tx}
use Rattle.cs_tx_types.specs.declared.action.Action.{Action}
use Rattle.cs_tx_types.specs.declared.entry.Entry.{Entry}
use Rattle.cs_tx_types.specs.declared.action.Action.TheVariants.{Prepare, Decide}
use Rattle.cs_ledger.specs.Ledger.{Bytes}
use Rattle.cs_ledger.specs.Session.{anchor}
use Rattle.cs_ledger.specs.Table as Chosen
use Rattle.cs_ledger.specs.Table.{Effect, Voted, Accepted, Aborted, Skipped, Void, Outcome, act}
use Rattle.cs_node_state.specs.declared.pooled.Pooled.{Pooled}
use Rattle.cs_wire_message.specs.declared.message.Message.TheVariants as message
use Rattle.cs_node_state.specs.Setup.{Setup, digest_of, concerned, is_fit, vote_from}
use Rattle.std.specs.List.{AllByRecursion}
use Rattle.cs_tx_types.specs.Session.{ActionFits, session_in}
use Rattle.cs_node_rules.specs.Members.{others}
use Rattle.cs_node_state.specs.Pool.{Pool, found, is_pooled, pool_changed, with_ballot, as_locked, entering, pushed, entered, entered_locked}
use Rattle.cs_tx_types.specs.declared.checkpoint.Checkpoint.{Checkpoint}
use Rattle.cs_check_rules.specs.Chain.{Log, kept_of, head_of, made_last}
use Rattle.cs_node_pool.specs.Deployed.{deployed_setup}
use Rattle.cs_sbac.specs.Held.{Held, bench_of}
use Rattle.cs_node.specs.Signing.{Leaves}
use Rattle.cs_node.specs.Executions.{RanOne, RanSome}
use Rattle.cs_node_state.specs.Bench.{Bench, Ran, is_locked, pool_after, executed, effect_from, next_leaf, with_leaf, action_executed, told_by, vote_told, own_pool, bench_executed}
use Rattle.cs_node_rules.specs.Signs.{Sign, Did, Headed, bench_after, sends, own_signs, vote_signs, entered_signs, ran_signs, headed_signs, actions_signs, execution_signs}
use Rattle.cs_node.specs.declared.draft.Note.TheVariants.{Executed}
use Rattle.cs_node.specs.Drafts.{Draft}
use Rattle.cs_node.specs.Notes.{notes_of, said_of, spoken, TellsSigns}
use Rattle.cs_node.specs.Steps.{Makes}
use Rattle.cs_node.proofs.Sums.{notes-append, said-append, notes-sends, bench-append, bench-sends, tells-nothing, tells-more}
use Rattle.cs_node.proofs.Ticked.{bench-voted}

same-bytes : (d : Bytes) → bytes_eq d d ≡ true
same-bytes [] = refl
same-bytes (x ∷ d) = grind (arith, same-bytes d)

-- a choice whose first branch is something, and which is nothing
second : (b : Bool) (p : Pooled) (rest : Option Pooled) → cond b (Some p) rest ≡ None → b ≡ false
second true p rest h = let q : Some p ≡ None = h in cc
second false p rest h = refl

found-pushed : (d : Bytes) (p : Pooled) (pool : Pool) → found d pool ≡ None → found d (pool ++ (d, p) ∷ []) ≡ Some p
found-pushed d p [] none = ap (λ b. cond b (Some p) None) (same-bytes d)
found-pushed d p (e ∷ pool) none =
    let h : bytes_eq d e.0 ≡ false = second (bytes_eq d e.0) e.1 (found d pool) none in
    ap (λ b. cond b (Some e.1) (found d (pool ++ (d, p) ∷ []))) h ∙ found-pushed d p pool (sym (ap (λ b. cond b (Some e.1) (found d pool)) h) ∙ none)

none-of : (o : Option Pooled) → is_some o ≡ false → o ≡ None
none-of None h = refl
none-of (Some p) h = let q : true ≡ false = h in cc

-- a session that an execution brought in is there already
entered-again : (d : Bytes) (x : Session) (pool : Pool) → is_pooled d pool ≡ false → entered d x (entered_locked d x pool) ≡ entered_locked d x pool
entered-again d x pool e =
    let none : found d pool ≡ None = none-of (found d pool) e in
    let is : entered_locked d x pool ≡ pushed d x true pool = ap (λ b. cond b (pool_changed d as_locked pool) (pushed d x true pool)) e in
    let there : found d (pushed d x true pool) ≡ Some (entering x true) = found-pushed d (entering x true) pool none in
    ap (entered d x) is ∙ ap (λ o. cond (is_some o) (pushed d x true pool) (pushed d x false (pushed d x true pool))) there ∙ sym is

module _ (setup : Setup) (me : NodeId) (x : Session) where
  abbrev d : Bytes
  d = digest_of setup x

  abbrev after : Bool → Option (Vote × Bool) → List Sign
  after pooled told = own_signs me x told ++ (vote_signs setup me x told ++ entered_signs x pooled told)

  -- what is said changes neither table nor pool
  without-vote : (pooled : Bool) (told : Option (Vote × Bool)) (b : Bench) → bench_after setup me.shard (after pooled told) b ≡ bench_after setup me.shard (own_signs me x told) (bench_after setup me.shard (entered_signs x pooled told) b)
  without-vote pooled told b =
      bench-append setup me.shard (own_signs me x told) (vote_signs setup me x told ++ entered_signs x pooled told) b
      ∙ ap (bench_after setup me.shard (own_signs me x told))
      (bench-append setup me.shard (vote_signs setup me x told) (entered_signs x pooled told) b
      ∙ bench-voted setup me.shard me x told (bench_after setup me.shard (entered_signs x pooled told) b))

  -- the own vote on a session that is locked
  locked-bench : (vote : Vote) (b : Bench) (pool : Pool) (pooled : Bool) → is_pooled d pool ≡ pooled
      → bench_after setup me.shard (own_signs me x (Some (vote, true))) (bench_after setup me.shard (entered_signs x pooled (Some (vote, true))) (record b { pool = entered_locked d x pool }))
      ≡ record b { pool = own_pool me d (Some (vote, true)) (entered_locked d x pool) }
  locked-bench vote b pool true e = refl
  locked-bench vote b pool false e =
      ap (λ (p : Pool). record b { pool = pool_changed d (with_ballot (record { sender = me; vote = vote })) p }) (entered-again d x pool e)

  -- what the own vote leaves of what an execution left
  told-bench : (effect : Effect) (locked : Bool) (b : Bench) (pool : Pool) (pooled : Bool) → is_pooled d pool ≡ pooled
      → bench_after setup me.shard (own_signs me x (told_by effect locked)) (bench_after setup me.shard (entered_signs x pooled (told_by effect locked)) (record b { pool = pool_after effect locked d x pool }))
      ≡ record b { pool = own_pool me d (told_by effect locked) (pool_after effect locked d x pool) }
  told-bench (Voted vote) true b pool pooled e = locked-bench (vote_from vote) b pool pooled e
  told-bench (Voted vote) false b pool pooled e = refl
  told-bench Accepted locked b pool pooled e = refl
  told-bench Aborted locked b pool pooled e = refl
  told-bench Skipped locked b pool pooled e = refl
  told-bench Void locked b pool pooled e = refl

  -- entering and the own vote tell nothing, and say nothing
  own-notes : (told : Option (Vote × Bool)) → notes_of (own_signs me x told) ≡ []
  own-notes None = refl
  own-notes (Some (vote, true)) = refl
  own-notes (Some (vote, false)) = refl

  own-said : (told : Option (Vote × Bool)) → said_of (own_signs me x told) ≡ []
  own-said None = refl
  own-said (Some (vote, true)) = refl
  own-said (Some (vote, false)) = refl

  entered-notes : (pooled : Bool) (told : Option (Vote × Bool)) → notes_of (entered_signs x pooled told) ≡ []
  entered-notes pooled None = refl
  entered-notes pooled (Some (vote, false)) = refl
  entered-notes true (Some (vote, true)) = refl
  entered-notes false (Some (vote, true)) = refl

  entered-said : (pooled : Bool) (told : Option (Vote × Bool)) → said_of (entered_signs x pooled told) ≡ []
  entered-said pooled None = refl
  entered-said pooled (Some (vote, false)) = refl
  entered-said true (Some (vote, true)) = refl
  entered-said false (Some (vote, true)) = refl

  -- so the vote alone is told and said
  after-notes : (pooled : Bool) (told : Option (Vote × Bool)) → notes_of (after pooled told) ≡ notes_of (vote_signs setup me x told)
  after-notes pooled told =
      notes-append (own_signs me x told) (vote_signs setup me x told ++ entered_signs x pooled told)
      ∙ (λ i. notes-append (vote_signs setup me x told) (entered_signs x pooled told) i ++ own-notes told i)
      ∙ append-nil (notes_of (entered_signs x pooled told) ++ notes_of (vote_signs setup me x told))
      ∙ ap (λ xs. xs ++ notes_of (vote_signs setup me x told)) (entered-notes pooled told)

  after-said : (pooled : Bool) (told : Option (Vote × Bool)) → said_of (after pooled told) ≡ said_of (vote_signs setup me x told)
  after-said pooled told =
      said-append (own_signs me x told) (vote_signs setup me x told ++ entered_signs x pooled told)
      ∙ (λ i. said-append (vote_signs setup me x told) (entered_signs x pooled told) i ++ own-said told i)
      ∙ append-nil (said_of (entered_signs x pooled told) ++ said_of (vote_signs setup me x told))
      ∙ ap (λ xs. xs ++ said_of (vote_signs setup me x told)) (entered-said pooled told)

  voted-notes : (told : Option (Vote × Bool)) → notes_of (vote_signs setup me x told) ≡ []
  voted-notes None = refl
  voted-notes (Some told) = notes-sends (others setup.f me (concerned setup x)) (message.Voted told.0 told.1 x)

-- what is kept of a slot, with the node's own vote
abbrev pub bench_closed : Setup → NodeId → Bench → Action → Bench
bench_closed setup me b entry =
    with_leaf (next_leaf b entry (executed setup me.shard b entry).effect) (bench_executed setup me b entry)

pub ran-makes : (setup : Setup) (me : NodeId) (b b' : Bench) (slot place : ℕ) (entry : Action) (made mid made' : Draft) → b' ≡ bench_closed setup me b entry
    → TellsSigns (vote_signs setup me (session_in entry) (vote_told setup me.shard (session_in entry) (executed setup me.shard b entry))) made mid
    → made'.notes ≡ mid.notes ++ Executed slot place entry (effect_from (executed setup me.shard b entry).effect) ∷ [] → made'.said ≡ mid.said
    → Makes setup me (ran_signs setup me b slot place entry (session_in entry) (executed setup me.shard b entry)) b b' made made'
ran-makes setup me b b' slot place entry made mid made' is tells noted silent =
    let x : Session = session_in entry in
    let ran : Ran = executed setup me.shard b entry in
    let told : Option (Vote × Bool) = vote_told setup me.shard x ran in
    let pooled : Bool = is_pooled (digest_of setup x) b.pool in
    let did : List Sign = Did slot place entry ran.effect ∷ [] in
    let own : List Sign = own_signs me x told in
    let vote : List Sign = vote_signs setup me x told in
    let enters : List Sign = entered_signs x pooled told in
    let signs : List Sign = own ++ (vote ++ enters) in
    let all : List Sign = ran_signs setup me b slot place entry x ran in
    let left : Bench = action_executed setup me.shard b entry in
    let whole : all ≡ signs ++ did = ap (λ xs. own ++ xs) (sym (append_assoc vote enters did)) ∙ sym (append_assoc own (vote ++ enters) did) in
    let quiet : notes_of vote ≡ [] = voted-notes setup me x told in
    let told-is : notes_of all ≡ notes_of did = ap notes_of whole ∙ notes-append signs did ∙ ap (λ xs. notes_of did ++ xs) (after-notes setup me x pooled told ∙ quiet) in
    let said-is : said_of all ≡ said_of vote = ap said_of whole ∙ said-append signs did ∙ after-said setup me x pooled told in
    let unchanged : mid.notes ≡ made.notes = tells.notes ∙ ap (λ xs. made.notes ++ xs) quiet ∙ append-nil made.notes in
    record {
      tells = record {
        notes = noted ∙ ap (λ xs. xs ++ notes_of did) unchanged ∙ ap (λ xs. made.notes ++ xs) (sym told-is);
        said = ap spoken silent ∙ tells.said ∙ ap (λ xs. spoken made.said ++ xs) (sym said-is);
      };
      bench_is = is ∙ sym (ap (λ every. bench_after setup me.shard every b) whole ∙ bench-append setup me.shard signs did b ∙ without-vote setup me x pooled told left
          ∙ told-bench setup me x ran.effect (is_locked setup me.shard ran.bench.table x) left b.pool pooled refl);
    }

-- what is told of a checkpoint changes nothing
bench-headed : (setup : Setup) (me : NodeId) (made : Option Checkpoint) (b : Bench) → bench_after setup me.shard (headed_signs setup me made) b ≡ b
bench-headed setup me None b = refl
bench-headed setup me (Some c) b =
    let names = others setup.f me (me.shard ∷ []) in
    bench-append setup me.shard (sends names (message.Head c)) (Headed c.number (head_of c) ∷ []) b
    ∙ bench-sends setup me.shard names (message.Head c) b

-- the checkpoint that a slot made is told
closed-makes : (setup : Setup) (me : NodeId) (b b' : Bench) (slot : ℕ) (entry : Entry) (made made' made'' : Draft)
    → Makes setup me (actions_signs setup me b slot 0 entry.actions) b b' made made'
    → TellsSigns (headed_signs setup me (made_last b'.log)) made' made'' → Makes setup me (execution_signs setup me b slot entry) b b' made made''
closed-makes setup me b b' slot entry made made' made'' first headed =
    let ran : List Sign = actions_signs setup me b slot 0 entry.actions in
    let last : Option Checkpoint = made_last (bench_after setup me.shard ran b).log in
    let log_is : made_last b'.log ≡ last = ap (λ (c : Bench). made_last c.log) first.bench_is in
    let heads : List Sign = headed_signs setup me last in
    let P : Option Checkpoint → Type 0 = λ o. TellsSigns (headed_signs setup me o) made' made'' in
    record {
      tells = tells-more ran heads made made' made'' first.tells (subst P log_is headed);
      bench_is = first.bench_is
          ∙ sym (bench-append setup me.shard heads ran b ∙ bench-headed setup me last (bench_after setup me.shard ran b));
    }

-- ---- the actions of a slot, one after the other

module _ (setup : Setup) (me : NodeId) (slot : ℕ) where
  abbrev OneActed : Bench → ℕ → Action → List Sign
  OneActed b place action = ran_signs setup me b slot place action (session_in action) (executed setup me.shard b action)

  abbrev Acted : Bench → ℕ → List Action → List Sign
  Acted b place actions = actions_signs setup me b slot place actions

  signs-push : (b : Bench) (place : ℕ) (xs : List Action) (x : Action)
      → Acted b place (xs ++ x ∷ []) ≡ OneActed (bench_after setup me.shard (Acted b place xs) b) (place + length xs) x ++ Acted b place xs
  signs-push b place [] x =
      let same : place ≡ place + 0 = omega arith in
      ap (λ (n : ℕ). OneActed b n x) same ∙ sym (append-nil (OneActed b (place + 0) x))
  signs-push b place (y ∷ ys) x =
      let first = OneActed b place y in
      let b' = bench_after setup me.shard first b in
      let rest = Acted b' (suc place) ys in
      let same : suc place + length ys ≡ place + length (y ∷ ys) = omega arith in
      ap (λ (s : List Sign). s ++ first) (signs-push b' (suc place) ys x)
      ∙ append_assoc (OneActed (bench_after setup me.shard rest b') (suc place + length ys) x) rest first
      ∙ ap (λ (c : Bench). OneActed c (suc place + length ys) x ++ (rest ++ first)) (sym (bench-append setup me.shard rest first b))
      ∙ ap (λ (n : ℕ). OneActed (bench_after setup me.shard (rest ++ first) b) n x ++ (rest ++ first)) same

module _ (genesis : List Object) (approves : Tx → Bool) (held : Held) (log : Log) (slot : ℕ) where
  abbrev At : Config → Setup
  At config = deployed_setup config genesis approves

  abbrev b : Bench
  b = bench_of log held

  -- before the first action
  pub ran-none : (draft : Draft) (made : Option Checkpoint) → held.archived.kept ≡ kept_of log → RanSome (At held.config) held b held draft draft slot [] made
  ran-none draft made kept_is = record {
    leaves = record {
      log = log;
      kept_is = kept_is;
      config_is = refl;
      me_is = refl;
      makes = record { tells = tells-nothing draft; bench_is = refl };
    };
    made_is = λ some. absurd (omega (arith, some));
  }

  module _ (draft draft' draft'' : Draft) (held' held'' : Held) (xs : List Action) (x : Action) (before made : Option Checkpoint)
      (some : RanSome (At held.config) held b held' draft draft' slot xs before) (place : ℕ) (place_is : place ≡ length xs)
      (one : RanOne (At held'.config) held' (bench_of some.leaves.log held') held'' draft' draft'' slot place x made) where
    abbrev Before : List Sign
    Before = actions_signs (At held.config) held.me b slot 0 xs

    abbrev w : Bench
    w = bench_after (At held.config) held.me.shard Before b

    abbrev Now : ℕ → List Sign
    Now n = OneActed (At held.config) held.me slot w n x

    next : Makes (At held.config) held.me (Now place) w (bench_of one.leaves.log held'') draft' draft''
    next =
        let P : Config × (NodeId × Bench) → Type 0 = λ p.
        Makes (At p.0) p.1.0 (OneActed (At p.0) p.1.0 slot p.1.1 place x) p.1.1 (bench_of one.leaves.log held'') draft' draft'' in
        subst P (λ i. (some.leaves.config_is i, (some.leaves.me_is i, some.leaves.makes.bench_is i))) one.leaves.makes

    both : Makes (At held.config) held.me (Now place ++ Before) b (bench_of one.leaves.log held'') draft draft''
    both = record {
      tells = tells-more Before (Now place) draft draft' draft'' some.leaves.makes.tells next.tells;
      bench_is = next.bench_is ∙ sym (bench-append (At held.config) held.me.shard (Now place) Before b);
    }

    -- and one more
    pub ran-more : RanSome (At held.config) held b held'' draft draft'' slot (xs ++ x ∷ []) made
    ran-more =
        let at : place ≡ 0 + length xs = omega (arith, place_is) in
        let signs : Now place ++ Before ≡ actions_signs (At held.config) held.me b slot 0 (xs ++ x ∷ []) =
        ap (λ (n : ℕ). Now n ++ Before) at ∙ sym (signs-push (At held.config) held.me slot b 0 xs x) in
        let Q : List Sign → Type 0 = λ all. Makes (At held.config) held.me all b (bench_of one.leaves.log held'') draft draft'' in
        record {
          leaves = record {
            log = one.leaves.log;
            kept_is = one.leaves.kept_is;
            config_is = one.leaves.config_is ∙ some.leaves.config_is;
            me_is = one.leaves.me_is ∙ some.leaves.me_is;
            makes = subst Q signs both;
          };
          made_is = λ more. one.made_is;
        }

  -- after the last one
  pub ran-all : (entry : Entry) (draft draft' draft'' : Draft) (held' : Held) (made : Option Checkpoint) → 0 < length entry.actions
      → RanSome (At held.config) held b held' draft draft' slot entry.actions made → TellsSigns (headed_signs (At held'.config) held'.me made) draft' draft''
      → Leaves (At held.config) held (execution_signs (At held.config) held.me b slot entry) b held' draft draft''
  ran-all entry draft draft' draft'' held' made some ran told =
      let leaves = ran.leaves in
      let P : Config × (NodeId × Option Checkpoint) → Type 0 = λ p. TellsSigns (headed_signs (At p.0) p.1.0 p.1.1) draft' draft'' in
      let headed : TellsSigns (headed_signs (At held.config) held.me (made_last leaves.log)) draft' draft'' =
      subst P (λ i. (leaves.config_is i, (leaves.me_is i, ran.made_is some i))) told in
      record {
        log = leaves.log;
        kept_is = leaves.kept_is;
        config_is = leaves.config_is;
        me_is = leaves.me_is;
        makes = closed-makes (At held.config) held.me b (bench_of leaves.log held') slot entry draft draft' draft'' leaves.makes headed;
      }

-- an action that stands among those that have encodings has one
some-fits : (actions : List Action) (n : ℕ) (d : Action) → n < length actions → AllByRecursion ActionFits actions → ActionFits (get_or actions n d)
some-fits [] n d less all = absurd (omega (arith, less))
some-fits (action ∷ more) zero d less all = all.0
some-fits (action ∷ more) (suc n) d less all = some-fits more n d (omega (arith, less)) all.1

pub fit-at : (actions : List Action) (n : ℕ) (action : Action) → n < length actions → action ≡ get_or actions n action → AllByRecursion ActionFits actions → ActionFits action
fit-at actions n action less is all = subst ActionFits (sym is) (some-fits actions n action less all)

-- ---- a vote is given only on a fit session

-- what is void gives none
given : (f : Bool) (o void : Outcome) → void.effect ≡ Void → (asks : Outcome → Bool) → IsSome (told_by (cond f o void).effect (asks (cond f o void))) → f ≡ true
given true o void is asks some = refl
given false o void is asks some = let none : false ≡ true = sym (ap (λ effect. is_some (told_by effect (asks void))) is) ∙ some in absurd (let q : false ≡ true = none in cc)

pub voted-fit : (setup : Setup) (shard : ℕ) (b : Bench) (entry : Action) → IsSome (vote_told setup shard (session_in entry) (executed setup shard b entry)) → is_fit setup shard (session_in entry) ≡ true
voted-fit setup shard b (Prepare x) some =
    given (is_fit setup shard x) (act setup.rules shard b.table (Chosen.Prepare (setup.session_of x)) (anchor setup.rules (setup.session_of x) shard))
    (record { table = b.table; effect = Void }) refl (λ o. is_locked setup shard o.table x) some
voted-fit setup shard b (Decide vote x) some =
    given (is_fit setup shard x) (act setup.rules shard b.table (Chosen.Decide (setup.session_of x) (vote_of vote)) (anchor setup.rules (setup.session_of x) shard))
    (record { table = b.table; effect = Void }) refl (λ o. is_locked setup shard o.table x) some
