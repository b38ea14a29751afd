-- The order of a node and its chain give up the same slots.
use Rattle.std.specs.Prelude.{Ok, Err, max, if◌then◌else◌}
use Rattle.std.proofs.Common.{◌≡◌, ℕ, zero, suc, ◌+◌, ◌-◌, ◌*◌, ◌/◌, ◌%◌, ◌^◌, ◌≤◌, ◌==◌, nat_lt, Bool, true, false, List, [], ◌∷◌, ◌++◌, length, Option, Some, None, is_some, arith, refl, ap, sym, subst, ◌∙◌}
use Rattle.std.proofs.lemmas.Bool.{cond_both, eqb-true, eqb-false}
use Rattle.std.proofs.Math.Nat.{max-eq_left}
use Rattle.std.proofs.lemmas.List.{length_push}
use Rattle.cs_base.specs.declared.node_id.NodeId.{NodeId}
use Rattle.cs_base.specs.NodeId.{same_name}
use Rattle.cs_tx_types.specs.declared.action.Action.{Action}
use Rattle.cs_tx_types.specs.declared.entry.Entry.{Entry}
use Rattle.cs_base.specs.declared.version.Version.TheVariants.{One}
use Rattle.cs_tx_types.specs.Log.{leaf_encoding}
use Rattle.cs_wire_message.specs.declared.message.Message.{Message}
use Rattle.cs_wire_message.specs.declared.message.Message.TheVariants as message
use Rattle.cs_wire_message.specs.Classes.{Class, OfOrder, class_of}
use Rattle.cs_order.specs.declared.proposed.Proposed.{Proposed}
use Rattle.cs_order.specs.declared.answers.Outgoing.{Outgoing}
use Rattle.cs_order.specs.declared.answers.Took.{Took as Answer}
use Rattle.cs_order.specs.declared.answers.Took.TheVariants as took
use Rattle.cs_order.specs.declared.answers.Step.{Step}
use Rattle.cs_order.specs.declared.answers.Step.TheVariants.{Chosen, Moved, Quiet}
use Rattle.cs_order.specs.declared.answers.May.{May}
use Rattle.cs_order.specs.declared.answers.May.TheVariants.{No, Free, Only}
use Rattle.cs_order.specs.Deeds.{Member, Deed, Advanced, Echoed, Proposing, Ticked, Resent, Replied, Cut, did, sent_by, chosen_in, kept_from}
use Rattle.cs_wire.specs.Opened.{Opened}
use Rattle.cs_check_rules.specs.Chain.{Log, with_slot, cut_slot, kept_slots, made_last}
use Rattle.cs_check_rules.specs.Root.{root_under}
use Rattle.cs_node_rules.specs.declared.cause.Cause.{Cause}
use Rattle.cs_node_rules.specs.declared.cause.Cause.TheVariants as cause
use Rattle.cs_tx_types.specs.Session.{session_in}
use Rattle.cs_node_rules.proofs.Heard.{heard}
use Rattle.cs_node_rules.proofs.Entries.{only-action, alone-signs}
use Rattle.cs_node_state.specs.Admission.{due}
use Rattle.cs_node_state.specs.Bench.{executed, action_executed, next_leaf}
use Rattle.cs_node_rules.specs.Members.{is_other_member, others}
use Rattle.cs_node_rules.specs.Signs.{Sign, Dropped, Viewed, bench_step, bench_after, sends, headed_signs, actions_signs, execution_signs, asked_again, said_signs}
use Rattle.cs_node_rules.specs.Site.{Input, Datagram, Tick, Mark, In, Ordered, Plain, Site, View, start_view, view_after, plain}
use Rattle.cs_node_rules.specs.Trail.{handed, with_deed, entered_view, moving, cut_marks, admits_proposed, due_marks, candidate_marks, propose_marks, echo_marks, step_marks, turn_marks, continued, settled, taking_marks, member_marks, reply_marks, want_marks, class_marks, message_marks, opened_marks, again_marks, waiting_marks, tick_marks, input_marks, event_marks}
use Rattle.cs_node_rules.specs.World.{Happening, IsLife, trail_of, view_of}
use Rattle.cs_node_law.specs.Made.{CutsAreAlike}
use Rattle.cs_node_law.proofs.Views.{view_after-append, member-said}
use Rattle.cs_node_law.proofs.Keeping.{KeepsLog, AllKeepLog, keep-append, keep-sends, keep-headed, keep-again, keep-handed, log-said, log-ahead, ran-log, keep-heard}
use Rattle.cs_node_law.proofs.Names.{name-same}

-- ---- marks that neither choose nor cut nor execute

-- the deed leaves what is chosen, and what is kept of it
abbrev IsCalm : {M : Type 0} → Deed M → Type 0
IsCalm {M} deed =
    (past : List (Deed M)) → (length (chosen_in (deed ∷ past)) ≡ length (chosen_in past)) × (kept_from (deed ∷ past) ≡ kept_from past)

abbrev Stays : {M : Type 0} → Mark M → Type 0
Stays {M} (In input) = Unit {0}
Stays {M} (Ordered deed) = IsCalm deed
Stays {M} (Plain sign) = KeepsLog sign

abbrev AllStay : {M : Type 0} → List (Mark M) → Type 0
AllStay {M} [] = Unit {0}
AllStay {M} (mark ∷ past) = Stays mark × AllStay past

stay-append : {M : Type 0} (a b : List (Mark M)) → AllStay a → AllStay b → AllStay (a ++ b)
stay-append {M} [] b of_a of_b = of_b
stay-append {M} (mark ∷ a) b of_a of_b = (of_a.0, stay-append a b of_a.1 of_b)

stay-plain : (M : Type 0) (signs : List Sign) → AllKeepLog signs → AllStay {M = M} (plain signs)
stay-plain M [] kept = tt
stay-plain M (sign ∷ signs) kept = (kept.0, stay-plain M signs kept.1)

-- ---- what a node's log is, and what its order keeps

-- Each chosen slot is executed, each 16th makes a checkpoint, and the order keeps the slots that the chain keeps.
pub record IsAlike {M : Type 0} (v : View M) : Type 0 where
  pub executed : length v.bench.log.leaves ≡ length (chosen_in v.member.deeds)
  pub covered : length v.bench.log.table_roots ≡ length v.bench.log.leaves / 16
  pub kept : kept_from v.member.deeds ≡ cut_slot v.bench.log

-- a log with one slot more has a root for every 16 slots
next-roots : (leaf root : List ℕ) (log : Log) → length log.table_roots ≡ length log.leaves / 16 → length (with_slot leaf root log).table_roots ≡ (length log.leaves + 1) / 16
next-roots leaf root log is = by ((length log.leaves + 1) % 16 == 0) refl
  where
    by : (b : Bool) → ((length log.leaves + 1) % 16 == 0) ≡ b → length (if b then log.table_roots ++ root ∷ [] else log.table_roots) ≡ (length log.leaves + 1) / 16
    by true whole =
        let longer = length_push log.table_roots root in
        let divides : (length log.leaves + 1) % 16 ≡ 0 = eqb-true ((length log.leaves + 1) % 16) 0 whole in
        omega arith
    by false part =
        let other : (length log.leaves + 1) % 16 ≡ 0 → ⊥ = eqb-false ((length log.leaves + 1) % 16) 0 part in
        omega arith

-- the slot from which on a member keeps its log, where it has chosen one slot more
module _ (slot roots later : ℕ) (before : roots ≡ slot / 16) (after : later ≡ (slot + 1) / 16) where
  cut-kept : ((slot + 1) % 16 == 0) ≡ true → max (slot + 1 - kept_slots) (16 * roots - kept_slots) ≡ 16 * later - kept_slots
  cut-kept whole =
      let divides : (slot + 1) % 16 ≡ 0 = eqb-true ((slot + 1) % 16) 0 whole in
      let less : 16 * roots - 1024 ≤ slot + 1 - 1024 = omega arith in
      let same : slot + 1 - 1024 ≡ 16 * later - 1024 = omega arith in
      max-eq_left less ∙ same

  uncut-kept : ((slot + 1) % 16 == 0) ≡ false → 16 * roots - kept_slots ≡ 16 * later - kept_slots
  uncut-kept part =
      let other : (slot + 1) % 16 ≡ 0 → ⊥ = eqb-false ((slot + 1) % 16) 0 part in
      let same : 16 * roots - 1024 ≡ 16 * later - 1024 = omega arith in
      same

module _ {M : Type 0} (site : Site M) (one : (p : Proposed) → length (site.entry_in p).actions ≡ 1) where
  -- marks that leave all three leave them together
  stay-alike : (marks : List (Mark M)) (v : View M) → AllStay marks → IsAlike v → IsAlike (view_after site marks v)
  stay-alike [] v stay alike = alike
  stay-alike (In input ∷ past) v stay alike = stay-alike past v stay.1 alike
  stay-alike (Ordered deed ∷ past) v stay alike =
      let before = stay-alike past v stay.1 alike in
      let calm = stay.0 (view_after site past v).member.deeds in
      record { executed = before.executed ∙ sym calm.0; covered = before.covered; kept = calm.1 ∙ before.kept }
  stay-alike (Plain sign ∷ past) v stay alike =
      let before = stay-alike past v stay.1 alike in
      let w = view_after site past v in
      let same : (bench_step site.setup w.me.shard sign w.bench).log ≡ w.bench.log = stay.0 site.setup w.me.shard w.bench in
      record {
        executed = ap (λ (l : Log). length l.leaves) same ∙ before.executed;
        covered = ap (λ (l : Log). length l.table_roots) same ∙ before.covered ∙ sym (ap (λ (l : Log). length l.leaves / 16) same);
        kept = before.kept ∙ sym (ap cut_slot same);
      }

  -- ---- deeds

  stay-deed : (v : View M) (deed : Deed M) → IsCalm deed → AllStay (with_deed site v deed)
  stay-deed v deed calm = let signs = handed site v.me (sent_by deed) in stay-append (plain signs) (Ordered deed ∷ []) (stay-plain M signs (keep-handed site v.me (sent_by deed))) (calm, tt)

  stay-moving : (v : View M) (deed : Deed M) → IsCalm deed → AllStay (moving site v deed)
  stay-moving v deed calm =
      let said = handed site v.me (sent_by deed) in
      let slot = length (chosen_in v.member.deeds) in
      let before = site.machine.view v.member in
      let after = site.machine.view (did deed v.member) in
      let entered : AllKeepLog (entered_view slot before after) = cond_both (nat_lt before after) (Viewed slot after ∷ []) [] AllKeepLog (λ e. (λ setup shard b. refl, tt)) (λ e. tt) in
      let signs = said ++ entered_view slot before after in
      stay-append (plain signs) (Ordered deed ∷ []) (stay-plain M signs (keep-append said (entered_view slot before after) (keep-handed site v.me (sent_by deed)) entered)) (calm, tt)

  -- ---- rules

  -- what is chosen is executed, and the order is cut where a checkpoint is made
  module _ (v : View M) (alike : IsAlike v) (p : Proposed) where
    abbrev slot : ℕ
    slot = length (chosen_in v.member.deeds)

    abbrev deed : Deed M
    deed = Advanced (Chosen p) (site.machine.advancing v.member)

    only : (action : Action) × ((site.entry_in p).actions ≡ action ∷ [])
    only = only-action (site.entry_in p).actions (one p)

    abbrev entry : Action
    entry = only.0

    -- the deed, and what it handed out
    abbrev first : List (Mark M)
    first = with_deed site v deed

    abbrev w : View M
    w = view_after site first v

    -- and the execution
    abbrev done : List (Mark M)
    done = plain (execution_signs site.setup v.me v.bench slot (site.entry_in p)) ++ first

    abbrev u : View M
    u = view_after site done v

    member-is : u.member ≡ did deed v.member
    member-is = member-said site (execution_signs site.setup v.me v.bench slot (site.entry_in p)) first v ∙ member-said site (handed site v.me (site.machine.advancing v.member)) (Ordered deed ∷ []) v

    log-before : w.bench.log ≡ v.bench.log
    log-before = log-said site (handed site v.me (site.machine.advancing v.member)) (Ordered deed ∷ []) v (keep-handed site v.me (site.machine.advancing v.member))

    log-after : u.bench.log ≡ (action_executed site.setup w.me.shard w.bench entry).log
    log-after =
        let x = session_in entry in
        let ran = executed site.setup v.me.shard v.bench entry in
        let signs = actions_signs site.setup v.me v.bench slot 0 (site.entry_in p).actions in
        let made = made_last (bench_after site.setup v.me.shard signs v.bench).log in
        log-ahead site (headed_signs site.setup v.me made) signs first v (keep-headed site.setup v.me made)
        ∙ ap (λ (ran : List Sign). (view_after site (plain ran ++ first) v).bench.log) (alone-signs site.setup v.me v.bench slot (site.entry_in p).actions entry only.1)
        ∙ ran-log site first v v.me v.bench slot 0 entry x ran

    abbrev leaf : List ℕ
    leaf = leaf_encoding One (next_leaf w.bench entry (executed site.setup w.me.shard w.bench entry).effect)

    abbrev root : List ℕ
    root = root_under (executed site.setup w.me.shard w.bench entry).bench.keys (executed site.setup w.me.shard w.bench entry).bench.table

    log-is : u.bench.log ≡ with_slot leaf root v.bench.log
    log-is = log-after ∙ ap (with_slot leaf root) log-before

    chose : length (chosen_in u.member.deeds) ≡ slot + 1
    chose = ap (λ (h : Member M). length (chosen_in h.deeds)) member-is ∙ length_push (chosen_in v.member.deeds) p

    executes : length u.bench.log.leaves ≡ slot + 1
    executes = ap (λ (l : Log). length l.leaves) log-is ∙ length_push v.bench.log.leaves leaf ∙ ap (λ (n : ℕ). n + 1) alike.executed

    covers : length u.bench.log.table_roots ≡ (slot + 1) / 16
    covers = ap (λ (l : Log). length l.table_roots) log-is ∙ next-roots leaf root v.bench.log alike.covered ∙ ap (λ (n : ℕ). (n + 1) / 16) alike.executed

    covered-before : length v.bench.log.table_roots ≡ slot / 16
    covered-before = alike.covered ∙ ap (λ (n : ℕ). n / 16) alike.executed

    keeps : kept_from u.member.deeds ≡ 16 * length v.bench.log.table_roots - kept_slots
    keeps = ap (λ (h : Member M). kept_from h.deeds) member-is ∙ alike.kept

    chosen-alike : IsAlike (view_after site (cut_marks slot ++ done) v)
    chosen-alike =
        let covering : length u.bench.log.table_roots ≡ length u.bench.log.leaves / 16 = covers ∙ sym (ap (λ (n : ℕ). n / 16) executes) in
        cond_both ((slot + 1) % 16 == 0) (Ordered (Cut (slot + 1 - kept_slots)) ∷ []) [] (λ cuts. IsAlike (view_after site (cuts ++ done) v))
        (λ whole. record {
          executed = executes ∙ sym chose;
          covered = covering;
          kept = ap (max (slot + 1 - kept_slots)) keeps ∙ cut-kept slot (length v.bench.log.table_roots) (length u.bench.log.table_roots) covered-before covers whole;
        })
        (λ part. record {
          executed = executes ∙ sym chose;
          covered = covering;
          kept = keeps ∙ uncut-kept slot (length v.bench.log.table_roots) (length u.bench.log.table_roots) covered-before covers part;
        })

  abbrev TurnAlike : View M → Option (List (Mark M)) → Type 0
  TurnAlike v None = Unit {0}
  TurnAlike v (Some fresh) = IsAlike (view_after site fresh v)

  module _ (v : View M) (alike : IsAlike v) where
    stay-due : (o : Option Entry) → TurnAlike v (due_marks site v o)
    stay-due None = tt
    stay-due (Some entry) =
        let deed : Deed M = Proposing (site.proposed_of entry) (site.machine.proposing v.member (site.proposed_of entry)) in
        stay-alike (with_deed site v deed) v (stay-deed v deed (λ past. (refl, refl))) alike

    stay-candidate : (candidates : List Proposed) → TurnAlike v (candidate_marks site v candidates)
    stay-candidate [] = tt
    stay-candidate (p ∷ more) =
        let deed : Deed M = Proposing p (site.machine.proposing v.member p) in
        cond_both (admits_proposed site v p) _ _ (λ o. TurnAlike v o) (λ e. stay-alike (with_deed site v deed) v (stay-deed v deed (λ past. (refl, refl))) alike) (λ e. stay-candidate more)

    stay-propose : (may : May) → TurnAlike v (propose_marks site v may)
    stay-propose No = tt
    stay-propose Free = stay-due (due site.setup v.bench.pool)
    stay-propose (Only candidates) = stay-candidate candidates

    stay-echo : (o : Option Proposed) → TurnAlike v (echo_marks site v o)
    stay-echo None = stay-propose (site.machine.may_propose v.member)
    stay-echo (Some p) =
        let deed : Deed M = Echoed (site.machine.echoing v.member) in
        cond_both (admits_proposed site v p) _ _ (λ o. TurnAlike v o) (λ e. stay-alike (with_deed site v deed) v (stay-deed v deed (λ past. (refl, refl))) alike) (λ e. stay-propose (site.machine.may_propose v.member))

    stay-step : (step : Step) → TurnAlike v (step_marks site v step)
    stay-step (Chosen p) = chosen-alike v alike p
    stay-step Moved =
        let deed : Deed M = Advanced Moved (site.machine.advancing v.member) in
        stay-alike (moving site v deed) v (stay-moving v deed (λ past. (refl, refl))) alike
    stay-step Quiet = stay-echo (site.machine.pending v.member)

  -- ---- inputs

  module _ (v : View M) where
    stay-drop : (c : Cause) → AllStay {M = M} (Plain (Dropped c) ∷ [])
    stay-drop c = (λ setup shard b. refl, tt)

    stay-taking : (from : ℕ) (m : M) (answer : Answer) → AllStay (taking_marks from m answer)
    stay-taking from m took.Taken = (λ past. (refl, refl), tt)
    stay-taking from m took.Old = stay-drop cause.Old
    stay-taking from m took.Far = stay-drop cause.Far
    stay-taking from m took.Leader = stay-drop cause.Leader
    stay-taking from m took.Repeat = stay-drop cause.Repeat

    stay-member : (sender : NodeId) (o : Option M) → AllStay (member_marks site v sender o)
    stay-member sender None = stay-drop cause.Role
    stay-member sender (Some m) =
        cond_both (is_other_member site.setup.f v.me sender) _ _ (λ marks. AllStay marks) (λ e. stay-taking sender.index m (site.machine.taking v.member sender.index m)) (λ e. stay-drop cause.Role)

    stay-reply : (asked to : ℕ) (o : Option (Outgoing M)) → AllStay (reply_marks site v asked to o)
    stay-reply asked to None = stay-drop cause.Far
    stay-reply asked to (Some out) = stay-deed v (Replied asked to (out ∷ [])) (λ past. (refl, refl))

    stay-want : (sender : NodeId) (slot : ℕ) → AllStay (want_marks site v sender slot)
    stay-want sender slot =
        cond_both (is_other_member site.setup.f v.me sender) _ _ (λ marks. AllStay marks) (λ e. stay-reply slot sender.index (site.machine.replying v.member slot sender.index)) (λ e. stay-drop cause.Role)

    stay-class : (sender : NodeId) (said : Message) (class : Class) → AllStay (class_marks site v sender said class)
    stay-class sender said OfOrder = stay-member sender (site.carrier.read said)
    stay-class sender said class =
        let signs = said_signs site.setup v.me v.bench sender said in
        stay-plain M signs (keep-heard sender signs (heard site.setup v.me v.bench sender said))

    stay-message : (sender : NodeId) (said : Message) → AllStay (message_marks site v sender said)
    stay-message sender (message.Want slot) = stay-want sender slot
    stay-message sender said = stay-class sender said (class_of said)

    stay-opened : (o : Opened) → AllStay (opened_marks site v o)
    stay-opened (Ok said) = stay-message said.0 said.1
    stay-opened (Err error) = stay-drop (cause.Unopened error)

    stay-tick : AllStay (tick_marks site v)
    stay-tick =
        let again = again_marks site v in
        let next = view_after site again v in
        let on = is_some (due site.setup v.bench.pool) in
        let wants = sends (others site.setup.f v.me (v.me.shard ∷ [])) (message.Want (length (chosen_in v.member.deeds))) in
        let asked = asked_again site.setup v.me v.bench.pool in
        let resent : Deed M = Resent (site.machine.resending v.member) in
        stay-append (waiting_marks site next on) again (stay-moving next (Ticked on (site.machine.ticking next.member on)) (λ past. (refl, refl)))
        (stay-append (plain (wants ++ asked)) (with_deed site v resent)
        (stay-plain M (wants ++ asked) (keep-append wants asked (keep-sends (others site.setup.f v.me (v.me.shard ∷ [])) (message.Want (length (chosen_in v.member.deeds)))) (keep-again site.setup v.me v.bench.pool)))
        (stay-deed v resent (λ past. (refl, refl))))

    stay-input : (input : Input) → AllStay (input_marks site v input)
    stay-input (Datagram bytes) = stay-opened (site.net.opened v.me bytes)
    stay-input Tick = stay-tick

  -- ---- events

  settled-alike : (turns : ℕ) (v : View M) → IsAlike v → IsAlike (view_after site (settled site turns v) v)
  unfolding settled
  settled-alike zero v alike = alike
  settled-alike (suc turns) v alike = go (turn_marks site v) (stay-step v alike (site.machine.step v.member)) (λ w so. settled-alike turns w so)
    where
      go : (o : Option (List (Mark M))) → TurnAlike v o → ((w : View M) → IsAlike w → IsAlike (view_after site (settled site turns w) w)) → IsAlike (view_after site (continued site (settled site turns) v o) v)
      go None turn later = alike
      go (Some fresh) turn later =
          let next : View M = view_after site fresh v in
          subst IsAlike (sym (view_after-append site (settled site turns next) fresh v)) (later next turn)

  event-alike : (v : View M) (input : Input) → IsAlike v → IsAlike (view_after site (event_marks site v input) v)
  unfolding event_marks
  event-alike v input alike =
      let first : List (Mark M) = input_marks site v input ++ In input ∷ [] in
      let next : View M = view_after site first v in
      let given : IsAlike next = stay-alike first v (stay-append (input_marks site v input) (In input ∷ []) (stay-input v input) (tt, tt)) alike in
      subst IsAlike (sym (view_after-append site (settled site (2 ^ 80) next) first v)) (settled-alike (2 ^ 80) next given)

  lives-alike : (world : List (Happening M)) → IsLife site world → (i : NodeId) → IsAlike (view_of site world i)
  lives-alike [] life i = record { executed = refl; covered = refl; kept = refl }
  lives-alike (h ∷ past) life i = at (same_name h.node i) refl (lives-alike past life.1 i)
    where
      at : (b : Bool) → same_name h.node i ≡ b → IsAlike (view_of site past i) → IsAlike (view_after site (if b then h.marks ++ trail_of i past else trail_of i past) (start_view site i))
      at false other before = before
      at true same before =
          let Q : List (Mark M) → Type 0 = λ marks. IsAlike (view_after site marks (view_of site past i)) in
          let R : NodeId → Type 0 = λ n. h.marks ≡ event_marks site (view_of site past n) h.input in
          let made : h.marks ≡ event_marks site (view_of site past i) h.input = subst R (name-same h.node i same) life.0 in
          subst IsAlike (sym (view_after-append site h.marks (trail_of i past) (start_view site i))) (subst Q (sym made) (event-alike (view_of site past i) h.input before))

pub cuts-alike : {M : Type 0} (site : Site M) → CutsAreAlike site
cuts-alike {M} site one world life i = (lives-alike site one world life i).kept
