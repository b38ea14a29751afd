-- Over an event the log of a node grows by just the leaves and heads that the event's signs tell.
use Rattle.std.proofs.Common.{◌≡◌, ℕ, zero, suc, ◌+◌, ◌-◌, ◌*◌, ◌%◌, ◌≤◌, ◌==◌, ◌^◌, ◌&&◌, Bool, true, false, not, List, [], ◌∷◌, ◌++◌, length, Option, Some, None, is_some, refl, sym, ap, subst, ◌∙◌, append-nil, append_assoc, arith}
use Rattle.std.specs.Prelude.{if◌then◌else◌, nat_lt, Ok, Err}
use Rattle.std.proofs.lemmas.Bool.{cond_both, eqb-true}
use Rattle.std.proofs.lemmas.List.{length_push}
use Rattle.cs_base.specs.declared.node_id.NodeId.{NodeId}
use Rattle.cs_tx_types.specs.declared.session.Session.{Session}
use Rattle.cs_tx_types.specs.declared.vote.Vote.{Vote}
use Rattle.cs_tx_types.specs.declared.vote.Vote.TheVariants.{Commit}
use Rattle.cs_tx_types.specs.declared.action.Action.{Action}
use Rattle.cs_tx_types.specs.declared.entry.Entry.{Entry}
use Rattle.cs_tx_types.specs.declared.checkpoint.Checkpoint.{Checkpoint}
use Rattle.cs_base.specs.declared.version.Version.TheVariants.{One}
use Rattle.cs_tx_types.specs.Log.{leaf_encoding}
use Rattle.cs_wire_message.specs.declared.message.Message.{Message}
use Rattle.cs_wire_message.specs.declared.message.Message.TheVariants as message
use Rattle.cs_wire_message.specs.Classes.{Class, OfOrder, class_of}
use Rattle.cs_order.specs.declared.proposed.Proposed.{Proposed}
use Rattle.cs_order.specs.declared.answers.Outgoing.{Outgoing}
use Rattle.cs_order.specs.declared.answers.Took.{Took as Answer}
use Rattle.cs_order.specs.declared.answers.Took.TheVariants as took
use Rattle.cs_order.specs.declared.answers.Step.{Step}
use Rattle.cs_order.specs.declared.answers.Step.TheVariants.{Chosen, Moved, Quiet}
use Rattle.cs_order.specs.declared.answers.May.{May}
use Rattle.cs_order.specs.declared.answers.May.TheVariants.{No, Free, Only}
use Rattle.cs_order.specs.Deeds.{Deed, Took_in, Advanced, Echoed, Proposing, Ticked, Resent, Replied, Cut, Member, did, sent_by, chosen_in}
use Rattle.cs_wire.specs.Opened.{Opened}
use Rattle.cs_check_rules.specs.Chain.{Log, with_slot, head_of, checkpoint_of, made_last, kept_slots}
use Rattle.cs_check.proofs.Chains.{checkpoint_stays}
use Rattle.cs_check_rules.specs.Root.{root_under}
use Rattle.cs_ledger.specs.Ledger.{Bytes}
use Rattle.cs_node_rules.specs.declared.cause.Cause.{Cause}
use Rattle.cs_node_rules.specs.declared.cause.Cause.TheVariants.{Role, Old, Far, Leader, Repeat, Unopened}
use Rattle.cs_node_state.specs.Setup.{Setup, digest_of, concerned}
use Rattle.cs_node_rules.proofs.Entries.{alone-signs}
use Rattle.cs_tx_types.specs.Session.{session_in}
use Rattle.cs_node_state.specs.Admission.{due}
use Rattle.cs_node_state.specs.Pool.{Pool, is_pooled}
use Rattle.cs_node_state.specs.Bench.{Bench, Ran, noted, executed, action_executed, effect_from, next_leaf, vote_told}
use Rattle.cs_replay_rules.specs.Dumps.{heads_below}
use Rattle.cs_node_rules.proofs.Heard.{AllHeard, heard}
use Rattle.cs_node_rules.specs.Members.{is_other_member, others}
use Rattle.cs_node_rules.specs.Signs.{Sign, Dropped, Took, Entered, Viewed, Did, Headed, Kept, Sent, bench_step, bench_after, sends, vote_signs, own_signs, entered_signs, ran_signs, headed_signs, execution_signs, asked_again, said_signs}
use Rattle.cs_node_rules.specs.Site.{Input, Datagram, Tick, Mark, In, Ordered, Plain, Site, View, mark_step, view_after, plain, signs_of}
use Rattle.cs_node_rules.specs.Trail.{out_signs, handed, with_deed, entered_view, admits_proposed, due_marks, candidate_marks, propose_marks, echo_marks, cut_marks, step_marks, turn_marks, continued, settled, taking_marks, member_marks, reply_marks, want_marks, class_marks, message_marks, opened_marks, again_marks, waiting_marks, input_marks, event_marks}
use Rattle.cs_replay_play.specs.Logged.{Logged, logged_with_leaf, logged_with_head, logged_of}
use Rattle.cs_replay_play.proofs.Views.{after-append}

-- what signs tell of a log
abbrev pub sign_logged : Sign → Logged → Logged
sign_logged (Dropped cause) kept = kept
sign_logged (Took sender vote x) kept = kept
sign_logged (Entered x) kept = kept
sign_logged (Viewed slot view) kept = kept
sign_logged (Did slot place entry effect) kept =
    logged_with_leaf (leaf_encoding One (record { slot = slot; place = 0; action = entry; result = effect_from effect })) kept
sign_logged (Headed number head) kept = logged_with_head head kept
sign_logged (Kept index checkpoint) kept = kept
sign_logged (Sent to message) kept = kept

abbrev pub signs_logged : List Sign → Logged → Logged
signs_logged [] kept = kept
signs_logged (sign ∷ past) kept = sign_logged sign (signs_logged past kept)

-- ---- a slot more

-- each checkpoint has its leaves
abbrev pub HasLeaves : Log → Type 0
HasLeaves log = 16 * length log.table_roots ≤ length log.leaves

-- with the head of a checkpoint that was made
abbrev with_made : Option Checkpoint → Logged → Logged
with_made None kept = kept
with_made (Some c) kept = logged_with_head (head_of c) kept

module _ (log : Log) (leaf root : Bytes) where
  -- after a slot that made a checkpoint, or made none
  abbrev after : Bool → Log
  after made = record {
    shard = log.shard;
    leaves = log.leaves ++ leaf ∷ [];
    table_roots = if made then log.table_roots ++ root ∷ [] else log.table_roots;
  }

  abbrev more : Bool → List Bytes
  more made = if made then root ∷ [] else []

  roots_are : (made : Bool) → (after made).table_roots ≡ log.table_roots ++ more made
  roots_are true = refl
  roots_are false = sym (append-nil log.table_roots)

  heads_stay : (made : Bool) (n : ℕ) → 16 * n ≤ length log.leaves → n ≤ length log.table_roots → heads_below (after made) n ≡ heads_below log n
  heads_stay made zero enough there = refl
  heads_stay made (suc n) enough there =
      ap (λ heads. heads ++ head_of (checkpoint_of (after made) n) ∷ []) (heads_stay made n (omega (arith, enough)) (omega (arith, there)))
      ∙ ap (λ c. heads_below log n ++ head_of c ∷ []) (checkpoint_stays log (after made) (leaf ∷ []) (more made) refl refl (roots_are made) n (omega (arith, enough)) (omega (arith, there)))

  abbrev longer : Logged
  longer = logged_with_leaf leaf (logged_of log)

  logged_by : (made : Bool) → HasLeaves log → with_made (if made then Some (checkpoint_of (after made) (length (after made).table_roots - 1)) else None) longer ≡ logged_of (after made)
  logged_by true enough =
      let n = length log.table_roots in
      let new = after true in
      let count : length (log.table_roots ++ root ∷ []) ≡ suc n = omega (arith, length_push log.table_roots root) in
      let last : length (log.table_roots ++ root ∷ []) - 1 ≡ n = omega (arith, count) in
      let stay : heads_below new n ≡ heads_below log n = heads_stay true n enough (omega arith) in
      ap (λ (heads : List Bytes). record { leaves = log.leaves ++ leaf ∷ []; heads = heads })
      (ap (λ k. heads_below log n ++ head_of (checkpoint_of new k) ∷ []) last
      ∙ ap (λ heads. heads ++ head_of (checkpoint_of new n) ∷ []) (sym stay)
      ∙ ap (heads_below new) (sym count))
  logged_by false enough =
      ap (λ (heads : List Bytes). record { leaves = log.leaves ++ leaf ∷ []; heads = heads })
      (sym (heads_stay false (length log.table_roots) enough (omega arith)))

  slot_logged : HasLeaves log → with_made (made_last (with_slot leaf root log)) longer ≡ logged_of (with_slot leaf root log)
  slot_logged enough =
      let new = with_slot leaf root log in
      ap (λ k. with_made (if k % 16 == 0 then Some (checkpoint_of new (length new.table_roots - 1)) else None) longer) (length_push log.leaves leaf)
      ∙ logged_by ((length log.leaves + 1) % 16 == 0) enough

  slot_enough : HasLeaves log → HasLeaves (with_slot leaf root log)
  slot_enough enough = by ((length log.leaves + 1) % 16 == 0) refl
    where
      by : (made : Bool) → ((length log.leaves + 1) % 16 == 0) ≡ made → HasLeaves (after made)
      by true whole =
          let divides : (length log.leaves + 1) % 16 ≡ 0 = eqb-true ((length log.leaves + 1) % 16) 0 whole in
          omega (arith, divides, enough, length_push log.leaves leaf, length_push log.table_roots root)
      by false part = omega (arith, enough, length_push log.leaves leaf)

-- ---- signs that tell nothing of the log

-- the sign tells nothing of it, and leaves it as it is
pub record IsIdle (sign : Sign) : Type 0 where
  pub tells : (kept : Logged) → sign_logged sign kept ≡ kept
  pub leaves : (setup : Setup) (shard : ℕ) (b : Bench) → (bench_step setup shard sign b).log ≡ b.log

abbrev AllIdle : List Sign → Type 0
AllIdle [] = Unit {0}
AllIdle (sign ∷ signs) = IsIdle sign × AllIdle signs

-- the sign tells nothing of it, and changes nothing of the node
pub record IsSent (sign : Sign) : Type 0 where
  pub tells : (kept : Logged) → sign_logged sign kept ≡ kept
  pub leaves : (setup : Setup) (shard : ℕ) (b : Bench) → bench_step setup shard sign b ≡ b

abbrev AllSent : List Sign → Type 0
AllSent [] = Unit {0}
AllSent (sign ∷ signs) = IsSent sign × AllSent signs

drop-idle : (cause : Cause) → AllIdle (Dropped cause ∷ [])
drop-idle cause = (record { tells = λ kept. refl; leaves = λ setup shard b. refl }, tt)

take-idle : (sender : NodeId) (vote : Vote) (x : Session) → AllIdle (Took sender vote x ∷ [])
take-idle sender vote x = (record { tells = λ kept. refl; leaves = λ setup shard b. refl }, tt)

enter-idle : (x : Session) → AllIdle (Entered x ∷ [])
enter-idle x = (record { tells = λ kept. refl; leaves = λ setup shard b. refl }, tt)

say-sent : (to : NodeId) (said : Message) → AllSent (Sent to said ∷ [])
say-sent to said = (record { tells = λ kept. refl; leaves = λ setup shard b. refl }, tt)

sent-idle : (signs : List Sign) → AllSent signs → AllIdle signs
sent-idle [] all = tt
sent-idle (sign ∷ signs) all = (record { tells = all.0.tells; leaves = λ setup shard b. ap (λ (c : Bench). c.log) (all.0.leaves setup shard b) }, sent-idle signs all.1)

sent-append : (a b : List Sign) → AllSent a → AllSent b → AllSent (a ++ b)
sent-append [] b first later = later
sent-append (sign ∷ a) b first later = (first.0, sent-append a b first.1 later)

all-sent : (names : List NodeId) (said : Message) → AllSent (sends names said)
all-sent [] said = tt
all-sent (to ∷ names) said = sent-append (sends names said) (Sent to said ∷ []) (all-sent names said) (say-sent to said)

votes-sent : (setup : Setup) (me : NodeId) (x : Session) (o : Option (Vote × Bool)) → AllSent (vote_signs setup me x o)
votes-sent setup me x None = tt
votes-sent setup me x (Some told) = all-sent (others setup.f me (concerned setup x)) (message.Voted told.0 told.1 x)

again-sent : (setup : Setup) (me : NodeId) (pool : Pool) → AllSent (asked_again setup me pool)
again-sent setup me [] = tt
again-sent setup me (e ∷ pool) =
    sent-append (asked_again setup me pool) _ (again-sent setup me pool)
    (cond_both e.1.locked (vote_signs setup me e.1.session (Some (Commit, true))) [] AllSent (λ locked. votes-sent setup me e.1.session (Some (Commit, true))) (λ waits. tt))

view-sent : (slot before now : ℕ) → AllSent (entered_view slot before now)
view-sent slot before now = cond_both (nat_lt before now) (Viewed slot now ∷ []) [] AllSent (λ later. (record { tells = λ kept. refl; leaves = λ setup shard b. refl }, tt)) (λ same. tt)

own-idle : (me : NodeId) (x : Session) (o : Option (Vote × Bool)) → AllIdle (own_signs me x o)
own-idle me x None = tt
own-idle me x (Some told) = cond_both told.1 (Took me told.0 x ∷ []) [] AllIdle (λ asks. take-idle me told.0 x) (λ not. tt)

entered-idle : (x : Session) (pooled : Bool) (o : Option (Vote × Bool)) → AllIdle (entered_signs x pooled o)
entered-idle x pooled None = tt
entered-idle x pooled (Some told) = cond_both (told.1 && not pooled) (Entered x ∷ []) [] AllIdle (λ new. enter-idle x) (λ not. tt)

-- what is said to a node, but for its order
heard-idle : (sender : NodeId) (signs : List Sign) → AllHeard sender signs → AllIdle signs
heard-idle sender [] all = tt
heard-idle sender (Dropped cause ∷ signs) all = (record { tells = λ kept. refl; leaves = λ setup shard b. refl }, heard-idle sender signs all)
heard-idle sender (Took from vote x ∷ signs) all = (record { tells = λ kept. refl; leaves = λ setup shard b. refl }, heard-idle sender signs all)
heard-idle sender (Entered x ∷ signs) all = (record { tells = λ kept. refl; leaves = λ setup shard b. refl }, heard-idle sender signs all)
heard-idle sender (Viewed slot view ∷ signs) all = absurd all
heard-idle sender (Did slot place entry effect ∷ signs) all = absurd all
heard-idle sender (Headed number head ∷ signs) all = absurd all
heard-idle sender (Kept index checkpoint ∷ signs) all = (record { tells = λ kept. refl; leaves = λ setup shard b. refl }, heard-idle sender signs all)
heard-idle sender (Sent to said ∷ signs) all = (record { tells = λ kept. refl; leaves = λ setup shard b. refl }, heard-idle sender signs all.1)

-- ---- a node, and what is kept of its log

-- what is kept is that of the node's log
pub record Fits {M : Type 0} (v : View M) (kept : Logged) : Type 0 where
  pub is : kept ≡ logged_of v.bench.log
  pub slots : length (chosen_in v.member.deeds) ≡ length v.bench.log.leaves
  pub enough : HasLeaves v.bench.log

told-append : {M : Type 0} (a b : List (Mark M)) (kept : Logged) → signs_logged (signs_of (a ++ b)) kept ≡ signs_logged (signs_of a) (signs_logged (signs_of b) kept)
told-append [] b kept = refl
told-append (In input ∷ a) b kept = told-append a b kept
told-append (Ordered deed ∷ a) b kept = told-append a b kept
told-append (Plain sign ∷ a) b kept = ap (sign_logged sign) (told-append a b kept)

sent-told : {M : Type 0} (signs : List Sign) (past : List (Mark M)) (kept : Logged) → AllSent signs → signs_logged (signs_of (plain signs ++ past)) kept ≡ signs_logged (signs_of past) kept
sent-told [] past kept all = refl
sent-told (sign ∷ signs) past kept all = all.0.tells (signs_logged (signs_of (plain signs ++ past)) kept) ∙ sent-told signs past kept all.1

-- each entry of a site has one action
abbrev pub EntriesAreAlone : {M : Type 0} → Site M → Type 0
EntriesAreAlone {M} site = (p : Proposed) → (action : Action) × ((site.entry_in p).actions ≡ action ∷ [])

module _ {M : Type 0} (site : Site M) (alone : EntriesAreAlone site) where
  -- the node after signs
  abbrev At : View M → List Sign → View M
  At v signs = view_after site (plain signs) v

  abbrev told : List Sign → Logged → Logged
  told signs kept = signs_logged (signs_of (plain {M = M} signs)) kept

  at-bench : (signs : List Sign) (v : View M) → At v signs ≡ record { me = v.me; bench = bench_after site.setup v.me.shard signs v.bench; member = v.member }
  at-bench [] v = refl
  at-bench (sign ∷ signs) v = ap (λ (w : View M). mark_step site (Plain sign) w) (at-bench signs v)

  sent-view : (signs : List Sign) (past : List (Mark M)) (v : View M) → AllSent signs → view_after site (plain signs ++ past) v ≡ view_after site past v
  sent-view [] past v all = refl
  sent-view (sign ∷ signs) past v all =
      let w = view_after site (plain signs ++ past) v in
      ap (λ (b : Bench). record { me = w.me; bench = b; member = w.member }) (all.0.leaves site.setup w.me.shard w.bench) ∙ sent-view signs past v all.1

  -- the first signs tell of the log what the second do
  pub record Same (v : View M) (a b : List Sign) : Type 0 where
    pub log : (At v a).bench.log ≡ (At v b).bench.log
    pub member : (At v a).member ≡ (At v b).member
    pub told_is : (kept : Logged) → told a kept ≡ told b kept

  idle-same : (v : View M) (a b : List Sign) → AllIdle a → Same v (a ++ b) b
  idle-same v [] b idle = record { log = refl; member = refl; told_is = λ kept. refl }
  idle-same v (sign ∷ a) b idle =
      let w = At v (a ++ b) in
      let s = idle-same v a b idle.1 in
      record { log = idle.0.leaves site.setup w.me.shard w.bench ∙ s.log; member = s.member; told_is = λ kept. idle.0.tells (told (a ++ b) kept) ∙ s.told_is kept }

  -- what is kept, with what the log makes of it
  fits-same : (f : Log → Logged → Logged) (v : View M) (a b : List Sign) (kept : Logged) → Same v a b → Fits (At v b) (f (At v b).bench.log (told b kept)) → Fits (At v a) (f (At v a).bench.log (told a kept))
  fits-same f v a b kept same fits = record {
    is = ap (λ log. f log (told a kept)) same.log ∙ ap (f (At v b).bench.log) (same.told_is kept) ∙ fits.is ∙ ap logged_of (sym same.log);
    slots = ap (λ (h : Member M). length (chosen_in h.deeds)) same.member ∙ fits.slots ∙ ap (λ (log : Log). length log.leaves) (sym same.log);
    enough = subst HasLeaves (sym same.log) fits.enough;
  }

  -- what is kept goes on as marks are made
  abbrev pub Leads : View M → List (Mark M) → Type 0
  Leads v marks = (kept : Logged) → Fits v kept → Fits (view_after site marks v) (signs_logged (signs_of marks) kept)

  leads-append : (v : View M) (a b : List (Mark M)) → Leads (view_after site b v) a → Leads v b → Leads v (a ++ b)
  leads-append v a b later first kept fits =
      let whole = signs_logged (signs_of (a ++ b)) kept in
      subst (λ (w : View M). Fits w whole) (sym (after-append site a b v))
      (subst (λ (k : Logged). Fits (view_after site a (view_after site b v)) k) (sym (told-append a b kept))
      (later (signs_logged (signs_of b) kept) (first kept fits)))

  idle-leads : (v : View M) (signs : List Sign) → AllIdle signs → Leads v (plain signs)
  idle-leads v signs idle kept fits =
      fits-same (λ log k. k) v signs [] kept (subst (λ s. Same v s []) (append-nil signs) (idle-same v signs [] idle)) fits

  -- a deed that chooses nothing
  deed-leads : (v : View M) (deed : Deed M) (signs : List Sign) → AllSent signs → chosen_in (deed ∷ v.member.deeds) ≡ chosen_in v.member.deeds → Leads v (plain signs ++ Ordered deed ∷ [])
  deed-leads v deed signs sent chooses kept fits =
      let done : List (Mark M) = Ordered deed ∷ [] in
      let whole = signs_logged (signs_of (plain signs ++ done)) kept in
      subst (λ (w : View M). Fits w whole) (sym (sent-view signs done v sent))
      (subst (λ (k : Logged). Fits (view_after site done v) k) (sym (sent-told signs done kept sent))
      (record { is = fits.is; slots = ap length chooses ∙ fits.slots; enough = fits.enough }))

  out-sent : (me : NodeId) (o : Option ℕ) (m : M) → AllSent (out_signs site me o m)
  out-sent me None m = all-sent (others site.setup.f me (me.shard ∷ [])) (site.carrier.written m)
  out-sent me (Some to) m =
      let name : NodeId = record { shard = me.shard; index = to } in
      cond_both (is_other_member site.setup.f me name) (Sent name (site.carrier.written m) ∷ []) [] AllSent (λ other. say-sent name (site.carrier.written m)) (λ not. tt)

  handed-sent : (me : NodeId) (outs : List (Outgoing M)) → AllSent (handed site me outs)
  handed-sent me [] = tt
  handed-sent me (out ∷ outs) = sent-append (handed site me outs) (out_signs site me out.to out.message) (handed-sent me outs) (out-sent me out.to out.message)

  -- ---- executions

  -- the head of the checkpoint that the last slot made is still to be told
  abbrev HeadLeft : View M → Logged → Type 0
  HeadLeft v kept = Fits v (with_made (made_last v.bench.log) kept)

  abbrev with_last : Log → Logged → Logged
  with_last log kept = with_made (made_last log) kept

  -- the only action of the entry that was chosen for the next slot is executed
  module _ (w : View M) (slot : ℕ) (entry : Action) (kept : Logged) (is : kept ≡ logged_of w.bench.log) (enough : HasLeaves w.bench.log)
      (next : slot ≡ length w.bench.log.leaves) (chosen : length (chosen_in w.member.deeds) ≡ suc slot) where
    abbrev ran : Ran
    ran = executed site.setup w.me.shard w.bench entry

    abbrev left : Bench
    left = action_executed site.setup w.me.shard w.bench entry

    abbrev the_did : List Sign
    the_did = Did slot 0 entry ran.effect ∷ []

    abbrev leaf_at : ℕ → Bytes
    leaf_at n = leaf_encoding One (record { slot = n; place = 0; action = entry; result = effect_from ran.effect })

    did-left : HeadLeft (At w the_did) (told the_did kept)
    did-left =
        let log = w.bench.log in
        let root = root_under ran.bench.keys ran.bench.table in
        let count = length_push log.leaves (leaf_at (length log.leaves)) in
        record {
          is =
              ap (λ k. with_last left.log (logged_with_leaf (leaf_at slot) k)) is
              ∙ ap (λ n. with_last left.log (logged_with_leaf (leaf_at n) (logged_of log))) next
              ∙ slot_logged log (leaf_at (length log.leaves)) root enough;
          slots = omega (arith, chosen, next, count);
          enough = slot_enough log (leaf_at (length log.leaves)) root enough;
        }

    abbrev own_vote : Option (Vote × Bool)
    own_vote = vote_told site.setup w.me.shard (session_in entry) ran

    abbrev entering : List Sign
    entering = entered_signs (session_in entry) (is_pooled (digest_of site.setup (session_in entry)) w.bench.pool) own_vote ++ the_did

    abbrev telling : List Sign
    telling = vote_signs site.setup w.me (session_in entry) own_vote

    abbrev voting : List Sign
    voting = telling ++ entering

    abbrev all_ran : List Sign
    all_ran = ran_signs site.setup w.me w.bench slot 0 entry (session_in entry) ran

    entering-same : Same w entering the_did
    entering-same = idle-same w (entered_signs (session_in entry) (is_pooled (digest_of site.setup (session_in entry)) w.bench.pool) own_vote) the_did (entered-idle (session_in entry) _ own_vote)

    voting-same : Same w voting entering
    voting-same = idle-same w telling entering (sent-idle telling (votes-sent site.setup w.me (session_in entry) own_vote))

    ran-same : Same w all_ran voting
    ran-same = idle-same w (own_signs w.me (session_in entry) own_vote) voting (own-idle w.me (session_in entry) own_vote)

    ran-log : (At w all_ran).bench.log ≡ left.log
    ran-log = ran-same.log ∙ voting-same.log ∙ entering-same.log

    ran-left : HeadLeft (At w all_ran) (told all_ran kept)
    ran-left =
        fits-same with_last w all_ran voting kept ran-same
        (fits-same with_last w voting entering kept voting-same
        (fits-same with_last w entering the_did kept entering-same did-left))

    headed-fits : (o : Option Checkpoint) → made_last left.log ≡ o → Fits (At w (headed_signs site.setup w.me o ++ all_ran)) (told (headed_signs site.setup w.me o ++ all_ran) kept)
    headed-fits None made =
        subst (λ (c : Option Checkpoint). Fits (At w all_ran) (with_made c (told all_ran kept))) (ap made_last ran-log ∙ made) ran-left
    headed-fits (Some c) made =
        let said = sends (others site.setup.f w.me (w.me.shard ∷ [])) (message.Head c) in
        let noted : List Sign = Headed c.number (head_of c) ∷ all_ran in
        let all : Fits (At w noted) (told noted kept) =
        subst (λ (d : Option Checkpoint). Fits (At w all_ran) (with_made d (told all_ran kept))) (ap made_last ran-log ∙ made) ran-left in
        let after_all : Fits (At w (said ++ noted)) (told (said ++ noted) kept) =
        fits-same (λ log k. k) w (said ++ noted) noted kept (idle-same w said noted (sent-idle said (all-sent (others site.setup.f w.me (w.me.shard ∷ [])) (message.Head c)))) all in
        subst (λ signs. Fits (At w signs) (told signs kept)) (sym (append_assoc said (Headed c.number (head_of c) ∷ []) all_ran)) after_all

    executed-fits : (whole : Entry) → whole.actions ≡ entry ∷ [] → Fits (At w (execution_signs site.setup w.me w.bench slot whole)) (told (execution_signs site.setup w.me w.bench slot whole) kept)
    executed-fits whole only =
        let log_is : left.log ≡ (bench_after site.setup w.me.shard all_ran w.bench).log = sym ran-log ∙ ap (λ (v : View M). v.bench.log) (at-bench all_ran w) in
        subst (λ (signs : List Sign). let all = headed_signs site.setup w.me (made_last (bench_after site.setup w.me.shard signs w.bench).log) ++ signs in Fits (At w all) (told all kept))
        (sym (alone-signs site.setup w.me w.bench slot whole.actions entry only))
        (headed-fits (made_last (bench_after site.setup w.me.shard all_ran w.bench).log) (ap made_last log_is))

  -- what is chosen is executed
  chosen-leads : (v : View M) (p : Proposed) → Leads v (plain (execution_signs site.setup v.me v.bench (length (chosen_in v.member.deeds)) (site.entry_in p)) ++ with_deed site v (Advanced (Chosen p) (site.machine.advancing v.member)))
  chosen-leads v p kept fits =
      let deed : Deed M = Advanced (Chosen p) (site.machine.advancing v.member) in
      let done : List (Mark M) = Ordered deed ∷ [] in
      let outs = handed site v.me (site.machine.advancing v.member) in
      let first : List (Mark M) = with_deed site v deed in
      let slot = length (chosen_in v.member.deeds) in
      let signs = execution_signs site.setup v.me v.bench slot (site.entry_in p) in
      let w : View M = record { me = v.me; bench = v.bench; member = did deed v.member } in
      let sent = handed-sent v.me (site.machine.advancing v.member) in
      let chosen : length (chosen_in w.member.deeds) ≡ suc slot = omega (arith, length_push (chosen_in v.member.deeds) p) in
      let found = alone p in
      let all = executed-fits w slot found.0 kept fits.is fits.enough fits.slots chosen (site.entry_in p) found.1 in
      let view : view_after site (plain signs ++ first) v ≡ view_after site (plain signs) w =
      after-append site (plain signs) first v ∙ ap (view_after site (plain signs)) (sent-view outs done v sent) in
      let tells : signs_logged (signs_of (plain signs ++ first)) kept ≡ told signs kept =
      told-append (plain signs) first kept ∙ ap (told signs) (sent-told outs done kept sent) in
      subst (λ (z : View M). Fits z (signs_logged (signs_of (plain signs ++ first)) kept)) (sym view)
      (subst (λ (k : Logged). Fits (view_after site (plain signs) w) k) (sym tells) all)

  -- what an order gives up changes nothing of the log
  cut-leads : (v : View M) (slot : ℕ) → Leads v (cut_marks slot)
  cut-leads v slot =
      let deed : Deed M = Cut (slot + 1 - kept_slots) in
      let none : List (Mark M) = [] in
      cond_both ((slot + 1) % 16 == 0) (Ordered deed ∷ []) none (λ marks. Leads v marks) (λ whole. deed-leads v deed [] tt refl) (λ part kept fits. fits)

  -- ---- turns

  abbrev TurnLeads : View M → Option (List (Mark M)) → Type 0
  TurnLeads v None = Unit {0}
  TurnLeads v (Some fresh) = Leads v fresh

  with-leads : (v : View M) (deed : Deed M) → chosen_in (deed ∷ v.member.deeds) ≡ chosen_in v.member.deeds → Leads v (with_deed site v deed)
  with-leads v deed chooses = deed-leads v deed (handed site v.me (sent_by deed)) (handed-sent v.me (sent_by deed)) chooses

  -- what a deed hands out by which a view may be entered, and that view
  abbrev moved : View M → Deed M → List Sign
  moved v deed = handed site v.me (sent_by deed) ++ entered_view (length (chosen_in v.member.deeds)) (site.machine.view v.member) (site.machine.view (did deed v.member))

  moving-sent : (v : View M) (deed : Deed M) → AllSent (moved v deed)
  moving-sent v deed = sent-append (handed site v.me (sent_by deed)) _ (handed-sent v.me (sent_by deed)) (view-sent (length (chosen_in v.member.deeds)) (site.machine.view v.member) (site.machine.view (did deed v.member)))

  due-leads : (v : View M) (o : Option Entry) → TurnLeads v (due_marks site v o)
  due-leads v None = tt
  due-leads v (Some entry) = with-leads v (Proposing (site.proposed_of entry) (site.machine.proposing v.member (site.proposed_of entry))) refl

  candidate-leads : (v : View M) (candidates : List Proposed) → TurnLeads v (candidate_marks site v candidates)
  candidate-leads v [] = tt
  candidate-leads v (p ∷ more) =
      cond_both (admits_proposed site v p) _ _ (λ o. TurnLeads v o)
      (λ admitted. with-leads v (Proposing p (site.machine.proposing v.member p)) refl)
      (λ not. candidate-leads v more)

  propose-leads : (v : View M) (may : May) → TurnLeads v (propose_marks site v may)
  propose-leads v No = tt
  propose-leads v Free = due-leads v (due site.setup v.bench.pool)
  propose-leads v (Only candidates) = candidate-leads v candidates

  echo-leads : (v : View M) (o : Option Proposed) → TurnLeads v (echo_marks site v o)
  echo-leads v None = propose-leads v (site.machine.may_propose v.member)
  echo-leads v (Some p) =
      cond_both (admits_proposed site v p) _ _ (λ o. TurnLeads v o)
      (λ admitted. with-leads v (Echoed (site.machine.echoing v.member)) refl)
      (λ not. propose-leads v (site.machine.may_propose v.member))

  step-leads : (v : View M) (x : Step) → TurnLeads v (step_marks site v x)
  step-leads v (Chosen p) =
      let slot = length (chosen_in v.member.deeds) in
      let ran : List (Mark M) = plain (execution_signs site.setup v.me v.bench slot (site.entry_in p)) ++ with_deed site v (Advanced (Chosen p) (site.machine.advancing v.member)) in
      leads-append v (cut_marks slot) ran (cut-leads (view_after site ran v) slot) (chosen-leads v p)
  step-leads v Moved =
      let deed : Deed M = Advanced Moved (site.machine.advancing v.member) in
      deed-leads v deed (moved v deed) (moving-sent v deed) refl
  step-leads v Quiet = echo-leads v (site.machine.pending v.member)

  settled-leads : (turns : ℕ) (v : View M) → Leads v (settled site turns v)
  unfolding settled
  settled-leads zero v = λ kept fits. fits
  settled-leads (suc turns) v = go (turn_marks site v) (step-leads v (site.machine.step v.member)) (λ w. settled-leads turns w)
    where
      go : (o : Option (List (Mark M))) → TurnLeads v o → ((w : View M) → Leads w (settled site turns w)) → Leads v (continued site (settled site turns) v o)
      go None leads later = λ kept fits. fits
      go (Some fresh) leads later = leads-append v (settled site turns (view_after site fresh v)) fresh (later (view_after site fresh v)) leads

  -- ---- inputs

  not-leads : (v : View M) (cause : Cause) → Leads v (Plain (Dropped cause) ∷ [])
  not-leads v cause = idle-leads v (Dropped cause ∷ []) (drop-idle cause)

  taking-leads : (v : View M) (from : ℕ) (m : M) (answer : Answer) → Leads v (taking_marks from m answer)
  taking-leads v from m took.Taken = deed-leads v (Took_in from m) [] tt refl
  taking-leads v from m took.Old = not-leads v Old
  taking-leads v from m took.Far = not-leads v Far
  taking-leads v from m took.Leader = not-leads v Leader
  taking-leads v from m took.Repeat = not-leads v Repeat

  member-leads : (v : View M) (sender : NodeId) (o : Option M) → Leads v (member_marks site v sender o)
  member-leads v sender None = not-leads v Role
  member-leads v sender (Some m) =
      cond_both (is_other_member site.setup.f v.me sender) _ _ (λ marks. Leads v marks)
      (λ other. taking-leads v sender.index m (site.machine.taking v.member sender.index m))
      (λ not. not-leads v Role)

  reply-leads : (v : View M) (slot to : ℕ) (o : Option (Outgoing M)) → Leads v (reply_marks site v slot to o)
  reply-leads v slot to None = not-leads v Far
  reply-leads v slot to (Some out) = with-leads v (Replied slot to (out ∷ [])) refl

  want-leads : (v : View M) (sender : NodeId) (slot : ℕ) → Leads v (want_marks site v sender slot)
  want-leads v sender slot =
      cond_both (is_other_member site.setup.f v.me sender) _ _ (λ marks. Leads v marks)
      (λ other. reply-leads v slot sender.index (site.machine.replying v.member slot sender.index))
      (λ not. not-leads v Role)

  class-leads : (v : View M) (sender : NodeId) (said : Message) (class : Class) → Leads v (class_marks site v sender said class)
  class-leads v sender said OfOrder = member-leads v sender (site.carrier.read said)
  class-leads v sender said class =
      let signs = said_signs site.setup v.me v.bench sender said in
      idle-leads v signs (heard-idle sender signs (heard site.setup v.me v.bench sender said))

  message-leads : (v : View M) (sender : NodeId) (said : Message) → Leads v (message_marks site v sender said)
  message-leads v sender (message.Want slot) = want-leads v sender slot
  message-leads v sender said = class-leads v sender said (class_of said)

  opened-leads : (v : View M) (o : Opened) → Leads v (opened_marks site v o)
  opened-leads v (Ok said) = message-leads v said.0 said.1
  opened-leads v (Err error) = not-leads v (Unopened error)

  again-leads : (v : View M) → Leads v (again_marks site v)
  again-leads v =
      let deed : Deed M = Resent (site.machine.resending v.member) in
      let wants = sends (others site.setup.f v.me (v.me.shard ∷ [])) (message.Want (length (chosen_in v.member.deeds))) in
      let asks = asked_again site.setup v.me v.bench.pool in
      leads-append v (plain (wants ++ asks)) (with_deed site v deed)
      (idle-leads (view_after site (with_deed site v deed) v) (wants ++ asks) (sent-idle (wants ++ asks) (sent-append wants asks (all-sent (others site.setup.f v.me (v.me.shard ∷ [])) (message.Want (length (chosen_in v.member.deeds)))) (again-sent site.setup v.me v.bench.pool))))
      (with-leads v deed refl)

  waiting-leads : (v : View M) (on : Bool) → Leads v (waiting_marks site v on)
  waiting-leads v on =
      let deed : Deed M = Ticked on (site.machine.ticking v.member on) in
      deed-leads v deed (moved v deed) (moving-sent v deed) refl

  input-leads : (v : View M) (input : Input) → Leads v (input_marks site v input)
  input-leads v (Datagram bytes) = opened-leads v (site.net.opened v.me bytes)
  input-leads v Tick =
      let again = again_marks site v in
      leads-append v (waiting_marks site (view_after site again v) (is_some (due site.setup v.bench.pool))) again
      (waiting-leads (view_after site again v) (is_some (due site.setup v.bench.pool)))
      (again-leads v)

  -- an event
  pub event-leads : (v : View M) (input : Input) → Leads v (event_marks site v input)
  unfolding event_marks
  event-leads v input =
      let given : List (Mark M) = In input ∷ [] in
      let first : List (Mark M) = input_marks site v input ++ given in
      leads-append v (settled site (2 ^ 80) (view_after site first v)) first
      (settled-leads (2 ^ 80) (view_after site first v))
      (leads-append v (input_marks site v input) given (input-leads v input) (λ kept fits. record { is = fits.is; slots = fits.slots; enough = fits.enough }))

  -- whatever marks a node made, each of its checkpoints has its leaves
  pub after-enough : (marks : List (Mark M)) (v : View M) → HasLeaves v.bench.log → HasLeaves (view_after site marks v).bench.log
  after-enough [] v enough = enough
  after-enough (In input ∷ past) v enough = after-enough past v enough
  after-enough (Ordered deed ∷ past) v enough = after-enough past v enough
  after-enough (Plain (Dropped cause) ∷ past) v enough = after-enough past v enough
  after-enough (Plain (Took sender vote x) ∷ past) v enough = after-enough past v enough
  after-enough (Plain (Entered x) ∷ past) v enough = after-enough past v enough
  after-enough (Plain (Viewed slot view) ∷ past) v enough = after-enough past v enough
  after-enough (Plain (Headed number head) ∷ past) v enough = after-enough past v enough
  after-enough (Plain (Kept index checkpoint) ∷ past) v enough = after-enough past v enough
  after-enough (Plain (Sent to message) ∷ past) v enough = after-enough past v enough
  after-enough (Plain (Did slot place entry effect) ∷ past) v enough =
      let w = view_after site past v in
      let ran : Ran = executed site.setup w.me.shard w.bench entry in
      slot_enough w.bench.log (leaf_encoding One (next_leaf w.bench entry ran.effect)) (root_under ran.bench.keys ran.bench.table) (after-enough past v enough)
