-- The rules, one turn after the other, make only marks that are made.
use Rattle.std.proofs.Common.{◌≡◌, inl, inr, ℕ, zero, suc, ◌+◌, ◌-◌, ◌%◌, ◌<◌, ◌≤◌, ◌==◌, Bool, true, false, ◌&&◌, List, [], ◌∷◌, ◌++◌, length, Option, Some, None, arith, sym, ◌∙◌, ap, subst, refl, append_assoc, append-nil}
use Rattle.std.specs.Prelude.{slice_get, take, IsSome}
use Rattle.std.proofs.lemmas.Bool.{cond_both, and_from, or_left}
use Rattle.std.proofs.lemmas.List.{length-append}
use Rattle.cs_tx.specs.Votes.{vote_of}
use Rattle.cs_base.specs.declared.node_id.NodeId.{NodeId}
use Rattle.cs_tx_types.specs.declared.session.Session.{Session}
use Rattle.cs_tx_types.specs.declared.vote.Vote as Tx
use Rattle.cs_tx_types.specs.declared.action.Action.{Action}
use Rattle.cs_tx_types.specs.declared.entry.Entry.{Entry}
use Rattle.cs_tx_types.specs.declared.action.Action.TheVariants.{Prepare, Decide}
use Rattle.cs_wire_message.specs.declared.message.Message.TheVariants as message
use Rattle.cs_order.specs.declared.proposed.Proposed.{Proposed}
use Rattle.cs_order.specs.declared.answers.Step.{Step}
use Rattle.cs_order.specs.declared.answers.Step.TheVariants.{Chosen, Moved, Quiet}
use Rattle.cs_order.specs.declared.answers.May.{May}
use Rattle.cs_order.specs.declared.answers.May.TheVariants.{No, Free, Only}
use Rattle.cs_base.specs.Lists.{IsIn}
use Rattle.cs_order.specs.Deeds.{Deed, Advanced, Echoed, Proposing, Cut, Member, chosen_in}
use Rattle.cs_order.specs.Calls.{Proposable}
use Rattle.cs_ledger.specs.Session as Seen
use Rattle.cs_ledger.specs.Table.{Vote, Commit, Abort, Effect, Voted, Accepted, Aborted, Skipped, Void, Outcome, Table, exec}
use Rattle.cs_ledger.specs.Table as Shard
use Rattle.cs_ledger.specs.ShardWorld.{is_vote}
use Rattle.cs_ledger.proofs.Basics.{bytes_refl}
use Rattle.cs_node_state.specs.Setup.{Setup, digest_of, concerned, vote_from}
use Rattle.cs_tx_types.specs.Session.{session_in}
use Rattle.cs_node_state.specs.Admission.{due}
use Rattle.cs_node_rules.specs.Members.{others}
use Rattle.cs_node_state.specs.Pool.{is_pooled}
use Rattle.cs_node_state.specs.Bench.{Bench, is_locked, executed, told_by, next_leaf}
use Rattle.cs_node_rules.specs.Signs.{Sign, Took, Entered, Did, Headed, bench_after, sends, vote_signs, own_signs, entered_signs, ran_signs, headed_signs, actions_signs, execution_signs}
use Rattle.cs_node_rules.specs.Site.{Mark, Ordered, Plain, Site, View, start_view, view_after, plain, signs_of}
use Rattle.cs_node_rules.specs.Trail.{with_deed, admits_proposed, due_marks, candidate_marks, propose_marks, echo_marks, cut_marks, step_marks, turn_marks, continued, settled}
use Rattle.cs_tx_types.specs.declared.checkpoint.Checkpoint.{Checkpoint}
use Rattle.cs_tx_value.specs.Object.{DigestFits}
use Rattle.cs_base.specs.declared.version.Version.TheVariants.{One}
use Rattle.cs_tx_types.specs.Log.{leaf_encoding}
use Rattle.cs_check_rules.specs.Chain.{Log, with_slot, head_of, chain_head, made_last, kept_slots}
use Rattle.cs_check_rules.specs.Root.{root_under}
use Rattle.cs_node_rules.proofs.Entries.{some-action}
use Rattle.cs_node_law.proofs.Heads.{root_hashed, last_is}
use Rattle.cs_node_law.specs.Made.{HasDigests, view_at, log_in, actions_in, HasVotedOn, has_given, IsMade, NodeExecutes, AllMade, IsLevel, ReadsProper}
use Rattle.cs_node_law.proofs.Views.{view_after-append, me-same, member-said, view-said}
use Rattle.cs_node_law.proofs.Silent.{given-over, voted-over, said-append, said-sends, Adds, said-adds, said-level, IsAfter, said-after, plain-onto, Handed, all-handed, done-level, deed-level, moving-level}
use Rattle.cs_node_law.proofs.Keeping.{ran-log}
use Rattle.cs_node_law.proofs.Actions.{get-seam, take-seam, actions-append}

-- a sign that executes nothing
abbrev pub IsIdle : Sign → Type 0
IsIdle sign = (past : List Sign) → log_in (sign ∷ past) ≡ log_in past

sign-after : {M : Type 0} (site : Site M) (me : NodeId) (n : ℕ) (t : List (Mark M)) (sign : Sign) → IsIdle sign → IsAfter site me n t → IsMade site me t (Plain sign) → IsAfter site me n (Plain sign ∷ t)
sign-after {M} site me n t sign idle l made = record { made = (made, l.made); count = ap length (idle (signs_of t)) ∙ l.count }

pub sign-level : {M : Type 0} (site : Site M) (me : NodeId) (t : List (Mark M)) (sign : Sign) → IsIdle sign → IsLevel site me t → IsMade site me t (Plain sign) → IsLevel site me (Plain sign ∷ t)
sign-level {M} site me t sign idle l made = record { made = (made, l.made); executed = l.executed ∙ sym (ap length (idle (signs_of t))) }

-- a Decide gives no vote
pub untold : (rules : Seen.Rules) (shard : ℕ) (t : Table) (x : Seen.Session) (vote : Vote) (asks : Outcome → Bool) → told_by (exec rules shard t (Shard.Decide x vote)).effect (asks (exec rules shard t (Shard.Decide x vote))) ≡ None
untold rules shard t x vote asks =
    let P : Outcome → Type 0 = λ o. told_by o.effect (asks o) ≡ None in
    cond_both (Seen.well_formed rules x && Seen.concerns rules x shard) _ _ P (λ a. acts vote (Seen.anchor rules x shard)) (λ a. refl)
  where
    acts : (vote : Vote) (o : Option Seen.Key) → told_by (Shard.act rules shard t (Shard.Decide x vote) o).effect (asks (Shard.act rules shard t (Shard.Decide x vote) o)) ≡ None
    acts vote None = refl
    acts Commit (Some key) =
        let P : Outcome → Type 0 = λ o. told_by o.effect (asks o) ≡ None in
        cond_both (Shard.is_locked_by x.digest (t.at key).state) _ _ P (λ a. refl) (λ a. refl)
    acts Abort (Some key) =
        let P : Outcome → Type 0 = λ o. told_by o.effect (asks o) ≡ None in
        cond_both (Shard.is_locked_by x.digest (t.at key).state) _ _ P (λ a. refl) (λ a. refl)

pub given-now : (setup : Setup) (x : Session) (vote : Vote) (signs : List Sign) (slot place : ℕ) → has_given setup (digest_of setup x) vote (Did slot place (Prepare x) (Voted vote) ∷ signs) ≡ true
given-now setup x vote signs slot place = or_left _ _ (and_from _ _ (bytes_refl (digest_of setup x)) (vote-refl vote))
  where
    vote-refl : (v : Vote) → is_vote v (Voted v) ≡ true
    vote-refl Commit = refl
    vote-refl Abort = refl

pub same-vote : (vote : Vote) → vote_of (vote_from vote) ≡ vote
same-vote Commit = refl
same-vote Abort = refl

-- after an execution: the session that it brings into the pool, the votes that are sent, and the node's own vote
module _ {M : Type 0} (site : Site M) (me : NodeId) (n : ℕ) where
  moved : (a b : List Sign) (t : List (Mark M)) → IsAfter site me n (plain a ++ (plain b ++ t)) → IsAfter site me n (plain (a ++ b) ++ t)
  moved a b t l = subst (λ z. IsAfter site me n z) (sym (plain-onto a b t)) l

  module _ (t : List (Mark M)) (slot place : ℕ) (x : Session) (vote : Vote) where
    abbrev Base : List (Mark M)
    Base = Plain (Did slot place (Prepare x) (Voted vote)) ∷ t

    gives : has_given site.setup (digest_of site.setup x) (vote_of (vote_from vote)) (signs_of Base) ≡ true
    gives = subst (λ v. has_given site.setup (digest_of site.setup x) v (signs_of Base) ≡ true) (sym (same-vote vote)) (given-now site.setup x vote (signs_of t) slot place)

    votes : HasVotedOn x (signs_of Base)
    votes = inl (refl, (vote, refl))

    enters : (pooled asks : Bool) → IsAfter site me n Base → IsAfter site me n (plain (entered_signs x pooled (Some (vote_from vote, asks))) ++ Base)
    enters true true l = l
    enters false true l = sign-after site me n Base (Entered x) (λ past. refl) l (inr votes)
    enters pooled false l = l

    tells : (who : NodeId) (told : Tx.Vote × Bool) (before : List Sign) → told.0 ≡ vote_from vote → IsAfter site me n (plain before ++ Base) → IsAfter site me n (plain (vote_signs site.setup who x (Some told)) ++ (plain before ++ Base))
    tells who told before is l =
        let u = plain before ++ Base in
        let given : has_given site.setup (digest_of site.setup x) (vote_of told.0) (signs_of u) ≡ true =
        subst (λ v. has_given site.setup (digest_of site.setup x) (vote_of v) (signs_of u) ≡ true) (sym is) (given-over site me (digest_of site.setup x) (vote_of (vote_from vote)) before Base gives) in
        said-after site me n (vote_signs site.setup who x (Some told)) u l
        (said-sends site me u (others site.setup.f who (concerned site.setup x)) (message.Voted told.0 told.1 x) (λ to i. inr (given, inr (voted-over site me x before Base votes))))

    takes : (who : NodeId) (asks : Bool) (before : List Sign) → who ≡ me → IsAfter site me n (plain before ++ Base) → IsAfter site me n (plain (own_signs who x (Some (vote_from vote, asks))) ++ (plain before ++ Base))
    takes who false before is l = l
    takes who true before is l =
        let u = plain before ++ Base in
        sign-after site me n u (Took who (vote_from vote) x) (λ past. refl) l
        (inl (is ∙ sym (me-same site me u), given-over site me (digest_of site.setup x) (vote_of (vote_from vote)) before Base gives))

    follows : (who : NodeId) (pooled asks : Bool) → who ≡ me → IsAfter site me n Base
        → IsAfter site me n (plain (own_signs who x (Some (vote_from vote, asks)) ++ (vote_signs site.setup who x (Some (vote_from vote, asks)) ++ (entered_signs x pooled (Some (vote_from vote, asks)) ++ Did slot place (Prepare x) (Voted vote) ∷ []))) ++ t)
    follows who pooled asks is l =
        let told : Option (Tx.Vote × Bool) = Some (vote_from vote, asks) in
        let did : List Sign = Did slot place (Prepare x) (Voted vote) ∷ [] in
        let entering = entered_signs x pooled told in
        let voting = vote_signs site.setup who x told in
        let own = own_signs who x told in
        let entered = enters pooled asks l in
        let voted = tells who (vote_from vote, asks) entering refl entered in
        let joined : IsAfter site me n (plain (voting ++ entering) ++ Base) = moved voting entering Base voted in
        let taken = takes who asks (voting ++ entering) is joined in
        let P : List (Mark M) → Type 0 = λ z. IsAfter site me n (plain own ++ z) in
        moved own (voting ++ (entering ++ did)) t
        (subst P (plain-onto voting entering Base ∙ ap (λ (z : List (Mark M)). plain voting ++ z) (sym (plain-onto entering did t)) ∙ sym (plain-onto voting (entering ++ did) t)) taken)

  module _ (t : List (Mark M)) (slot place : ℕ) where
    abbrev Followed : NodeId → Action → Effect → Bool → Option (Tx.Vote × Bool) → List (Mark M)
    Followed who entry effect pooled told = plain (own_signs who (session_in entry) told ++ (vote_signs site.setup who (session_in entry) told ++ (entered_signs (session_in entry) pooled told ++ Did slot place entry effect ∷ []))) ++ t

    prepared : (x : Session) (effect : Effect) (pooled asks : Bool) → IsAfter site me n (Plain (Did slot place (Prepare x) effect) ∷ t) → IsAfter site me n (Followed (view_at site me t).me (Prepare x) effect pooled (told_by effect asks))
    prepared x (Voted vote) pooled asks l = follows t slot place x vote (view_at site me t).me pooled asks (me-same site me t) l
    prepared x Accepted pooled asks l = l
    prepared x Aborted pooled asks l = l
    prepared x Skipped pooled asks l = l
    prepared x Void pooled asks l = l

    ran-after : (entry : Action) → let v = view_at site me t in
        IsAfter site me n (Plain (Did slot place entry (executed site.setup v.me.shard v.bench entry).effect) ∷ t)
        → IsAfter site me n (plain (ran_signs site.setup v.me v.bench slot place entry (session_in entry) (executed site.setup v.me.shard v.bench entry)) ++ t)
    ran-after (Prepare x) l = prepared x _ _ _ l
    ran-after (Decide vote x) l =
        let v = view_at site me t in
        let ran = executed site.setup v.me.shard v.bench (Decide vote x) in
        let none = untold site.setup.rules v.me.shard v.bench.table (site.setup.session_of x) (vote_of vote) (λ o. is_locked site.setup v.me.shard o.table x) in
        subst (λ told. IsAfter site me n (Followed v.me (Decide vote x) ran.effect (is_pooled (digest_of site.setup x) v.bench.pool) told)) (sym none) l

-- the actions of an entry that was chosen, one after the other
module _ {M : Type 0} (site : Site M) (me : NodeId) (slot : ℕ) where
  abbrev Acted : ℕ → List Action → List (Mark M) → List (Mark M)
  Acted place actions t = plain (actions_signs site.setup (view_at site me t).me (view_at site me t).bench slot place actions) ++ t

  abbrev Ran : ℕ → Action → List (Mark M) → List (Mark M)
  Ran place action t =
      let v = view_at site me t in
      plain (ran_signs site.setup v.me v.bench slot place action (session_in action) (executed site.setup v.me.shard v.bench action)) ++ t

  -- the later actions are executed on what the first one left
  acted-next : (place : ℕ) (action : Action) (more : List Action) (t : List (Mark M)) → Acted place (action ∷ more) t ≡ Acted (suc place) more (Ran place action t)
  acted-next place action more t =
      let v = view_at site me t in
      let signs = ran_signs site.setup v.me v.bench slot place action (session_in action) (executed site.setup v.me.shard v.bench action) in
      plain-onto (actions_signs site.setup v.me (bench_after site.setup v.me.shard signs v.bench) slot (suc place) more) signs t
      ∙ ap (λ (w : View M). plain (actions_signs site.setup w.me w.bench slot (suc place) more) ++ (plain signs ++ t)) (sym (view-said site signs t (start_view site me)))

  -- each puts a leaf behind the log, and a root that is hashed
  record IsSlotted (log : Log) : Type 0 where
    pub leaf : List ℕ
    pub root : List ℕ
    pub before : Log
    pub fits : DigestFits root
    pub is : log ≡ with_slot leaf root before

  acted-log : (place : ℕ) (action : Action) (more : List Action) (t : List (Mark M)) → IsSlotted (view_at site me (Acted place (action ∷ more) t)).bench.log
  acted-log place action [] t =
      let v = view_at site me t in
      let ran = executed site.setup v.me.shard v.bench action in
      record {
        leaf = leaf_encoding One (next_leaf v.bench action ran.effect);
        root = root_under ran.bench.keys ran.bench.table;
        before = v.bench.log;
        fits = root_hashed _;
        is = ran-log site t (start_view site me) v.me v.bench slot place action (session_in action) ran;
      }
  acted-log place action (next ∷ more) t =
      subst (λ (u : List (Mark M)). IsSlotted (view_at site me u).bench.log) (sym (acted-next place action (next ∷ more) t)) (acted-log (suc place) next more (Ran place action t))

  -- so it is where there is one
  some-log : (actions : List Action) (t : List (Mark M)) → 0 < length actions → IsSlotted (view_at site me (Acted 0 actions t)).bench.log
  some-log [] t some = absurd (omega (arith, some))
  some-log (action ∷ more) t some = acted-log 0 action more t

  module _ (p : Proposed) (chosen : List Proposed) (there : slice_get chosen slot ≡ Some p) where
    abbrev each : List Action
    each = (site.entry_in p).actions

    abbrev before : ℕ
    before = length (actions_in site (take slot chosen))

    -- those behind the first ones
    acted : (place : ℕ) (done actions : List Action) (t : List (Mark M)) → place ≡ length done → each ≡ done ++ actions → chosen_in (view_at site me t).member.deeds ≡ chosen
        → IsAfter site me (before + place) t → IsAfter site me (before + length each) (Acted place actions t)
    acted place done [] t size is at l = record { made = l.made; count = l.count ∙ ap (λ (k : ℕ). before + k) (size ∙ ap (λ (actions : List Action). length actions) (sym (is ∙ append-nil done))) }
    acted place done (action ∷ more) t size is at l =
        let v = view_at site me t in
        let ran = executed site.setup v.me.shard v.bench action in
        let signs = ran_signs site.setup v.me v.bench slot place action (session_in action) ran in
        let executes : NodeExecutes site v (signs_of t) slot place action ran.effect = record {
          computed = refl;
          proposed = p;
          chosen = ap (λ (c : List Proposed). slice_get c slot) at ∙ there;
          within = ap (λ (actions : List Action). slice_get actions place) is ∙ ap (λ (k : ℕ). slice_get (done ++ action ∷ more) k) size ∙ get-seam done action more;
          next = l.count ∙ ap (λ (c : List Proposed). length (actions_in site (take slot c)) + place) (sym at);
        } in
        let one_more : suc (before + place) ≡ before + suc place = omega arith in
        let larger : suc place ≡ length (done ++ action ∷ []) = omega (arith, size, length-append done (action ∷ [])) in
        let now : IsAfter site me (before + suc place) (Plain (Did slot place action ran.effect) ∷ t) = record {
          made = (executes, l.made);
          count = ap suc l.count ∙ one_more;
        } in
        let after : IsAfter site me (before + suc place) (Ran place action t) = ran-after site me (before + suc place) t slot place action now in
        let stays : chosen_in (view_at site me (Ran place action t)).member.deeds ≡ chosen = ap (λ (h : Member M). chosen_in h.deeds) (member-said site signs t (start_view site me)) ∙ at in
        subst (λ (u : List (Mark M)). IsAfter site me (before + length each) u) (sym (acted-next place action more t))
        (acted (suc place) (done ++ action ∷ []) more (Ran place action t) larger (is ∙ sym (append_assoc done (action ∷ []) more)) stays after)

  -- a checkpoint is told
  abbrev LogAt : List (Mark M) → Log
  LogAt u = (view_at site me u).bench.log

  headed-level : (u : List (Mark M)) (who : NodeId) (made : Option Checkpoint)
      → ((c : Checkpoint) → made ≡ Some c → HasDigests c × (chain_head (LogAt u) c.number ≡ Some (head_of c)))
      → IsLevel site me u → IsLevel site me (plain (headed_signs site.setup who made) ++ u)
  headed-level u who None own l = l
  headed-level u who (Some c) own l =
      let names = others site.setup.f who (who.shard ∷ []) in
      said-level site me (headed_signs site.setup who (Some c)) u l
      (said-append site me u (sends names (message.Head c)) (Headed c.number (head_of c) ∷ [])
      (said-sends site me u names (message.Head c) (λ to i. inr (own c refl).0)) ((own c refl).1, tt))

  -- the checkpoint that a slot made is told
  pub closed-level : (entry : Entry) → 0 < length entry.actions → (t : List (Mark M)) → IsLevel site me (Acted 0 entry.actions t)
      → IsLevel site me (plain (execution_signs site.setup (view_at site me t).me (view_at site me t).bench slot entry) ++ t)
  closed-level entry some t l =
      let v = view_at site me t in
      let signs = actions_signs site.setup v.me v.bench slot 0 entry.actions in
      let left : Bench = bench_after site.setup v.me.shard signs v.bench in
      let log_is : LogAt (plain signs ++ t) ≡ left.log = ap (λ (w : View M). w.bench.log) (view-said site signs t (start_view site me)) in
      let last = some-log entry.actions t some in
      let new = last_is last.before last.leaf last.root last.fits in
      let is : with_slot last.leaf last.root last.before ≡ left.log = sym last.is ∙ log_is in
      let own : (c : Checkpoint) → made_last left.log ≡ Some c → HasDigests c × (chain_head (LogAt (plain signs ++ t)) c.number ≡ Some (head_of c)) =
      (λ c made.
      let n = new c (ap made_last is ∙ made) in
      (n.digests, subst (λ (log : Log). chain_head log c.number ≡ Some (head_of c)) (sym last.is) n.chained)) in
      subst (λ z. IsLevel site me z) (sym (plain-onto (headed_signs site.setup v.me (made_last left.log)) signs t))
      (headed-level (plain signs ++ t) v.me (made_last left.log) own l)

module _ {M : Type 0} (site : Site M) (me : NodeId) where
  -- where a turn has marks, they keep the level
  abbrev pub TurnLevel : List (Mark M) → Option (List (Mark M)) → Type 0
  TurnLevel t None = Unit {0}
  TurnLevel t (Some fresh) = IsLevel site me (fresh ++ t)

  -- slots that were executed may be given up
  cut-level : (slot : ℕ) (u : List (Mark M)) → slot + 1 ≤ length (chosen_in (view_at site me u).member.deeds) → IsLevel site me u → IsLevel site me (cut_marks slot ++ u)
  cut-level slot u within l =
      let cut : ℕ = slot + 1 - kept_slots in
      cond_both ((slot + 1) % 16 == 0) (Ordered (Cut cut) ∷ []) [] (λ marks. IsLevel site me (marks ++ u))
      (λ e. done-level site me u (Cut cut) l (omega (arith, within), tt) refl)
      (λ e. l)

  -- what was chosen is executed
  chosen-level : ReadsProper site → (t : List (Mark M)) (p : Proposed) → IsLevel site me t → site.machine.step (view_at site me t).member ≡ Chosen p → TurnLevel t (step_marks site (view_at site me t) (Chosen p))
  chosen-level proper t p l e =
      let v = view_at site me t in
      let deed : Deed M = Advanced (Chosen p) (site.machine.advancing v.member) in
      let done : List (Mark M) = Ordered deed ∷ t in
      let front = chosen_in v.member.deeds in
      let chosen = front ++ p ∷ [] in
      let slot = length front in
      let all = (site.entry_in p).actions in
      let differ : Chosen p ≡ Quiet → ⊥ = (λ q. cc) in
      let made : AllMade site me done = (((e, differ, refl), tt), l.made) in
      let a : Adds site me done (plain (Handed site me t deed) ++ done) = said-adds site me (Handed site me t deed) done made (all-handed site me t deed) in
      let u : List (Mark M) = plain (Handed site me t deed) ++ done in
      let at : chosen_in (view_at site me u).member.deeds ≡ chosen = ap (λ (z : View M). chosen_in z.member.deeds) a.view in
      let before : length (actions_in site (take slot chosen)) ≡ length (actions_in site front) = ap (λ (c : List Proposed). length (actions_in site c)) (take-seam front (p ∷ [])) in
      let count : length (log_in (signs_of u)) ≡ length (actions_in site (take slot chosen)) + 0 =
      (let q = ap length a.log in let r = l.executed in omega (arith, q, r, before)) in
      let after = acted site me slot p chosen (get-seam front p []) 0 [] all u refl refl at (record { made = a.made; count = count }) in
      let signs = actions_signs site.setup (view_at site me u).me (view_at site me u).bench slot 0 all in
      let stays : chosen_in (view_at site me (plain signs ++ u)).member.deeds ≡ chosen = ap (λ (h : Member M). chosen_in h.deeds) (member-said site signs u (start_view site me)) ∙ at in
      let total : length (actions_in site chosen) ≡ length (actions_in site front) + length all =
      omega (arith, ap length (actions-append site front (p ∷ [])), length-append (actions_in site front) (all ++ []), length-append all []) in
      let level : IsLevel site me (plain signs ++ u) = record {
        made = after.made;
        executed = ap (λ (c : List Proposed). length (actions_in site c)) stays ∙ total ∙ sym (after.count ∙ ap (λ (k : ℕ). k + length all) before);
      } in
      let closed = closed-level site me slot (site.entry_in p) (some-action site.setup.version (site.entry_in p) (proper.entries p)) u level in
      let moved_here = subst (λ (z : View M). IsLevel site me (plain (execution_signs site.setup z.me z.bench slot (site.entry_in p)) ++ u)) a.view closed in
      let told = execution_signs site.setup v.me v.bench slot (site.entry_in p) in
      let cut : List (Mark M) = cut_marks slot in
      let marks : List (Mark M) = plain told ++ with_deed site v deed in
      let enough : slot + 1 ≤ length (chosen_in (view_at site me (plain told ++ u)).member.deeds) =
      (let same = ap (λ (h : Member M). length (chosen_in h.deeds)) (member-said site told u (start_view site me)) in
      omega (arith, same, ap length at, length-append front (p ∷ []))) in
      let onto : plain told ++ u ≡ marks ++ t =
      ap (λ (z : List (Mark M)). plain told ++ z) (sym (append_assoc (plain (Handed site me t deed)) (Ordered deed ∷ []) t)) ∙ sym (append_assoc (plain told) (with_deed site v deed) t) in
      subst (λ z. IsLevel site me z)
      (ap (λ (z : List (Mark M)). cut ++ z) onto ∙ sym (append_assoc cut marks t))
      (cut-level slot (plain told ++ u) enough moved_here)

  due-level : (t : List (Mark M)) (o : Option Entry) → IsLevel site me t → site.machine.may_propose (view_at site me t).member ≡ Free → due site.setup (view_at site me t).bench.pool ≡ o → TurnLevel t (due_marks site (view_at site me t) o)
  due-level t None l e d = tt
  due-level t (Some entry) l e d =
      let p = site.proposed_of entry in
      let may : Proposable (site.machine.may_propose (view_at site me t).member) p = subst (λ m. Proposable m p) (sym e) tt in
      deed-level site me t (Proposing p (site.machine.proposing (view_at site me t).member p)) l ((may, refl), inl (record { entry = entry; is = refl; due = d })) refl

  candidate-level : (t : List (Mark M)) (all candidates : List Proposed) → IsLevel site me t → site.machine.may_propose (view_at site me t).member ≡ Only all → ((p : Proposed) → IsIn p candidates → IsIn p all) → TurnLevel t (candidate_marks site (view_at site me t) candidates)
  candidate-level t all [] l e within = tt
  candidate-level t all (p ∷ more) l e within =
      cond_both (admits_proposed site (view_at site me t) p) _ _ (λ o. TurnLevel t o)
      (λ a.
      let may : Proposable (site.machine.may_propose (view_at site me t).member) p = subst (λ m. Proposable m p) (sym e) (within p (inl refl)) in
      deed-level site me t (Proposing p (site.machine.proposing (view_at site me t).member p)) l ((may, refl), inr (record { candidates = all; may = e; within = within p (inl refl); admitted = a })) refl)
      (λ a. candidate-level t all more l e (λ q i. within q (inr i)))

  propose-level : (t : List (Mark M)) (may : May) → IsLevel site me t → site.machine.may_propose (view_at site me t).member ≡ may → TurnLevel t (propose_marks site (view_at site me t) may)
  propose-level t No l e = tt
  propose-level t Free l e = due-level t _ l e refl
  propose-level t (Only candidates) l e = candidate-level t candidates candidates l e (λ p i. i)

  some-is : {A : Type 0} (o : Option A) (x : A) → o ≡ Some x → IsSome o
  some-is {A} o x e = subst (λ (y : Option A). IsSome y) (sym e) refl

  echo-level : (t : List (Mark M)) (o : Option Proposed) → IsLevel site me t → site.machine.pending (view_at site me t).member ≡ o → TurnLevel t (echo_marks site (view_at site me t) o)
  echo-level t None l e = propose-level t _ l refl
  echo-level t (Some p) l e =
      cond_both (admits_proposed site (view_at site me t) p) _ _ (λ o. TurnLevel t o)
      (λ a. deed-level site me t (Echoed (site.machine.echoing (view_at site me t).member)) l ((some-is _ p e, refl), record { proposed = p; pending = e; admitted = a }) refl)
      (λ a. propose-level t _ l refl)

  step-level : ReadsProper site → (t : List (Mark M)) (s : Step) → IsLevel site me t → site.machine.step (view_at site me t).member ≡ s → TurnLevel t (step_marks site (view_at site me t) s)
  step-level proper t (Chosen p) l e = chosen-level proper t p l e
  step-level proper t Moved l e =
      let differ : Moved ≡ Quiet → ⊥ = (λ q. cc) in
      moving-level site me t (Advanced Moved (site.machine.advancing (view_at site me t).member)) l ((e, differ, refl), tt) refl
  step-level proper t Quiet l e = echo-level t _ l refl

  pub settled-level : ReadsProper site → (turns : ℕ) (t : List (Mark M)) → IsLevel site me t → IsLevel site me (settled site turns (view_at site me t) ++ t)
  unfolding settled
  settled-level proper zero t l = l
  settled-level proper (suc turns) t l = go (turn_marks site (view_at site me t)) (step-level proper t _ l refl) (λ u k. settled-level proper turns u k)
    where
      go : (o : Option (List (Mark M))) → TurnLevel t o → ((u : List (Mark M)) → IsLevel site me u → IsLevel site me (settled site turns (view_at site me u) ++ u)) → IsLevel site me (continued site (settled site turns) (view_at site me t) o ++ t)
      go None h later = l
      go (Some fresh) h later =
          subst (λ z. IsLevel site me z) (sym (append_assoc (settled site turns (view_after site fresh (view_at site me t))) fresh t))
          (subst (λ w. IsLevel site me (settled site turns w ++ (fresh ++ t))) (view_after-append site fresh t _) (later (fresh ++ t) h))
