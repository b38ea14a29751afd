-- Whatever a node executed, the votes that came of it were sent afterwards.
use Rattle.std.proofs.Common.{◌≡◌, ◌⊎◌, inl, inr, ℕ, zero, suc, ◌+◌, ◌-◌, ◌%◌, ◌^◌, Bool, true, not, ◌&&◌, if◌then◌else◌, List, [], ◌∷◌, ◌++◌, length, Option, Some, None, refl, sym, ap, ◌∙◌, subst, append_assoc}
use Rattle.std.specs.Prelude.{Ok, Err, ◌==◌, is_some, nat_lt}
use Rattle.std.proofs.lemmas.Bool.{cond_both}
use Rattle.cs_base.specs.declared.node_id.NodeId.{NodeId}
use Rattle.cs_base.specs.NodeId.{same_name}
use Rattle.cs_tx_types.specs.declared.session.Session.{Session}
use Rattle.cs_tx_types.specs.declared.vote.Vote.{Vote}
use Rattle.cs_tx_types.specs.declared.vote.Vote.TheVariants.{Commit}
use Rattle.cs_tx_types.specs.declared.checkpoint.Checkpoint.{Checkpoint}
use Rattle.cs_tx_types.specs.declared.action.Action.{Action}
use Rattle.cs_tx_types.specs.declared.entry.Entry.{Entry}
use Rattle.cs_tx_types.specs.declared.entry.Entry.{Entry}
use Rattle.cs_wire_message.specs.declared.message.Message.{Message}
use Rattle.cs_wire_message.specs.declared.message.Message.TheVariants as message
use Rattle.cs_wire_message.specs.Classes.{Class, OfOrder, class_of}
use Rattle.cs_order.specs.declared.proposed.Proposed.{Proposed}
use Rattle.cs_order.specs.declared.answers.Outgoing.{Outgoing}
use Rattle.cs_order.specs.declared.answers.Took.{Took as Answer}
use Rattle.cs_order.specs.declared.answers.Took.TheVariants as took
use Rattle.cs_order.specs.declared.answers.Step.{Step}
use Rattle.cs_order.specs.declared.answers.Step.TheVariants.{Chosen, Moved, Quiet}
use Rattle.cs_order.specs.declared.answers.May.{May}
use Rattle.cs_order.specs.declared.answers.May.TheVariants.{No, Free, Only}
use Rattle.cs_order.specs.Deeds.{Deed, Advanced, Echoed, Proposing, Ticked, Resent, Replied, Cut, chosen_in, did, sent_by}
use Rattle.cs_wire.specs.Opened.{Opened}
use Rattle.cs_base.specs.Lists.{IsIn}
use Rattle.cs_ledger.specs.Table.{Effect}
use Rattle.cs_ledger.proofs.Basics.{in_left, in_right}
use Rattle.cs_node_rules.proofs.Heard.{AllHeard, heard}
use Rattle.cs_check_rules.specs.Chain.{head_of, made_last, kept_slots}
use Rattle.cs_node_state.specs.Setup.{Setup, digest_of, concerned}
use Rattle.cs_tx_types.specs.Session.{session_in}
use Rattle.cs_node_state.specs.Admission.{due}
use Rattle.cs_node_rules.specs.Members.{is_other_member, others}
use Rattle.cs_node_state.specs.Pool.{Pool, is_pooled}
use Rattle.cs_node_state.specs.Bench.{Bench, start_bench, executed, vote_told}
use Rattle.cs_node_rules.specs.Signs.{Sign, Dropped, Took, Entered, Viewed, Did, Headed, Kept, Sent, sends, vote_signs, own_signs, entered_signs, ran_signs, headed_signs, actions_signs, execution_signs, bench_after, asked_again, said_signs}
use Rattle.cs_node_rules.specs.Site.{Input, Datagram, Tick, Mark, In, Ordered, Site, View, view_after, plain, signs_of}
use Rattle.cs_node_rules.specs.Trail.{out_signs, handed, with_deed, moving, entered_view, admits_proposed, due_marks, candidate_marks, propose_marks, echo_marks, cut_marks, step_marks, turn_marks, continued, settled, taking_marks, member_marks, reply_marks, class_marks, message_marks, opened_marks, again_marks, waiting_marks, input_marks, event_marks}
use Rattle.cs_node_rules.specs.World.{Happening, trail_of, view_of, IsLife}
use Rattle.cs_node_rules.specs.Ready.{bench_at}
use Rattle.cs_node_law.specs.Made.{view_at}
use Rattle.cs_node_law.proofs.Views.{view_after-append, bench_after-append, signs_of-append, me-same}
use Rattle.cs_world_law.proofs.Trails.{same-name}
use Rattle.cs_world_law.proofs.Readiness.{bench-is}

-- the votes that an execution of the entry sends
abbrev pub votes_by : Setup → NodeId → Bench → Action → List Sign
votes_by setup me b entry = vote_signs setup me (session_in entry) (vote_told setup me.shard (session_in entry) (executed setup me.shard b entry))

-- whatever was executed, its votes were sent afterwards
abbrev pub IsTelling : Setup → NodeId → List Sign → Type 0
IsTelling setup me signs =
    (later : List Sign) (slot place : ℕ) (entry : Action) (effect : Effect) (earlier : List Sign) → signs ≡ later ++ Did slot place entry effect ∷ earlier →
    (sign : Sign) → IsIn sign (votes_by setup me (bench_at setup me.shard earlier) entry) → IsIn sign later

-- ---- signs without executions

abbrev NoDid : List Sign → Type 0
NoDid [] = Unit {0}
NoDid (Dropped cause ∷ signs) = NoDid signs
NoDid (Took sender vote x ∷ signs) = NoDid signs
NoDid (Entered x ∷ signs) = NoDid signs
NoDid (Viewed slot view ∷ signs) = NoDid signs
NoDid (Headed number head ∷ signs) = NoDid signs
NoDid (Kept index checkpoint ∷ signs) = NoDid signs
NoDid (Did slot place entry effect ∷ signs) = ⊥
NoDid (Sent to said ∷ signs) = NoDid signs

no-tail : (sign : Sign) (signs : List Sign) → NoDid (sign ∷ signs) → NoDid signs
no-tail (Dropped cause) signs h = h
no-tail (Took sender vote x) signs h = h
no-tail (Entered x) signs h = h
no-tail (Viewed slot view) signs h = h
no-tail (Headed number head) signs h = h
no-tail (Kept index checkpoint) signs h = h
no-tail (Did slot place entry effect) signs h = absurd h
no-tail (Sent to said) signs h = h

no-append : (a b : List Sign) → NoDid a → NoDid b → NoDid (a ++ b)
no-append [] b p q = q
no-append (Dropped cause ∷ a) b p q = no-append a b p q
no-append (Took sender vote x ∷ a) b p q = no-append a b p q
no-append (Entered x ∷ a) b p q = no-append a b p q
no-append (Viewed slot view ∷ a) b p q = no-append a b p q
no-append (Headed number head ∷ a) b p q = no-append a b p q
no-append (Kept index checkpoint ∷ a) b p q = no-append a b p q
no-append (Did slot place entry effect ∷ a) b p q = absurd p
no-append (Sent to said ∷ a) b p q = no-append a b p q

no-sends : (names : List NodeId) (said : Message) → NoDid (sends names said)
no-sends [] said = tt
no-sends (to ∷ names) said = no-append (sends names said) (Sent to said ∷ []) (no-sends names said) tt

no-own : (me : NodeId) (x : Session) (told : Option (Vote × Bool)) → NoDid (own_signs me x told)
no-own me x None = tt
no-own me x (Some told) = cond_both told.1 (Took me told.0 x ∷ []) [] NoDid (λ e. tt) (λ e. tt)

no-votes : (setup : Setup) (me : NodeId) (x : Session) (told : Option (Vote × Bool)) → NoDid (vote_signs setup me x told)
no-votes setup me x None = tt
no-votes setup me x (Some told) = no-sends (others setup.f me (concerned setup x)) (message.Voted told.0 told.1 x)

no-entered : (x : Session) (pooled : Bool) (told : Option (Vote × Bool)) → NoDid (entered_signs x pooled told)
no-entered x pooled None = tt
no-entered x pooled (Some told) = cond_both (told.1 && not pooled) (Entered x ∷ []) [] NoDid (λ e. tt) (λ e. tt)

no-asked : (setup : Setup) (me : NodeId) (pool : Pool) → NoDid (asked_again setup me pool)
no-asked setup me [] = tt
no-asked setup me (e ∷ pool) =
    no-append (asked_again setup me pool) (if e.1.locked then vote_signs setup me e.1.session (Some (Commit, true)) else []) (no-asked setup me pool)
    (cond_both e.1.locked (vote_signs setup me e.1.session (Some (Commit, true))) [] NoDid (λ h. no-votes setup me e.1.session (Some (Commit, true))) (λ h. tt))

no-view : (slot before after : ℕ) → NoDid (entered_view slot before after)
no-view slot before after = cond_both (nat_lt before after) (Viewed slot after ∷ []) [] NoDid (λ e. tt) (λ e. tt)

no-headed : (setup : Setup) (me : NodeId) (made : Option Checkpoint) → NoDid (headed_signs setup me made)
no-headed setup me None = tt
no-headed setup me (Some c) =
    let names = others setup.f me (me.shard ∷ []) in
    no-append (sends names (message.Head c)) (Headed c.number (head_of c) ∷ []) (no-sends names (message.Head c)) tt

-- what is said to a node, but for its order
no-heard : (sender : NodeId) (signs : List Sign) → AllHeard sender signs → NoDid signs
no-heard sender [] all = tt
no-heard sender (Dropped cause ∷ signs) all = no-heard sender signs all
no-heard sender (Took from vote x ∷ signs) all = no-heard sender signs all
no-heard sender (Entered x ∷ signs) all = no-heard sender signs all
no-heard sender (Viewed slot view ∷ signs) all = absurd all
no-heard sender (Did slot place entry effect ∷ signs) all = absurd all
no-heard sender (Headed number head ∷ signs) all = absurd all
no-heard sender (Kept index checkpoint ∷ signs) all = no-heard sender signs all
no-heard sender (Sent to said ∷ signs) all = no-heard sender signs all.1

-- ---- what the order hands out

-- datagrams alone: table and pool stay
abbrev OnlySends : List Sign → Type 0
OnlySends [] = Unit {0}
OnlySends (Sent to said ∷ signs) = OnlySends signs
OnlySends (Dropped cause ∷ signs) = ⊥
OnlySends (Took sender vote x ∷ signs) = ⊥
OnlySends (Entered x ∷ signs) = ⊥
OnlySends (Viewed slot view ∷ signs) = ⊥
OnlySends (Headed number head ∷ signs) = ⊥
OnlySends (Kept index checkpoint ∷ signs) = ⊥
OnlySends (Did slot place entry effect ∷ signs) = ⊥

only-append : (a b : List Sign) → OnlySends a → OnlySends b → OnlySends (a ++ b)
only-append [] b p q = q
only-append (Sent to said ∷ a) b p q = only-append a b p q
only-append (Dropped cause ∷ a) b p q = absurd p
only-append (Took sender vote x ∷ a) b p q = absurd p
only-append (Entered x ∷ a) b p q = absurd p
only-append (Viewed slot view ∷ a) b p q = absurd p
only-append (Headed number head ∷ a) b p q = absurd p
only-append (Kept index checkpoint ∷ a) b p q = absurd p
only-append (Did slot place entry effect ∷ a) b p q = absurd p

only-no : (a : List Sign) → OnlySends a → NoDid a
only-no [] p = tt
only-no (Sent to said ∷ a) p = only-no a p
only-no (Dropped cause ∷ a) p = absurd p
only-no (Took sender vote x ∷ a) p = absurd p
only-no (Entered x ∷ a) p = absurd p
only-no (Viewed slot view ∷ a) p = absurd p
only-no (Headed number head ∷ a) p = absurd p
only-no (Kept index checkpoint ∷ a) p = absurd p
only-no (Did slot place entry effect ∷ a) p = absurd p

only-sends : (names : List NodeId) (said : Message) → OnlySends (sends names said)
only-sends [] said = tt
only-sends (to ∷ names) said = only-append (sends names said) (Sent to said ∷ []) (only-sends names said) tt

only-bench : (setup : Setup) (shard : ℕ) (a past : List Sign) → OnlySends a → bench_at setup shard (a ++ past) ≡ bench_at setup shard past
only-bench setup shard [] past p = refl
only-bench setup shard (Sent to said ∷ a) past p = only-bench setup shard a past p
only-bench setup shard (Dropped cause ∷ a) past p = absurd p
only-bench setup shard (Took sender vote x ∷ a) past p = absurd p
only-bench setup shard (Entered x ∷ a) past p = absurd p
only-bench setup shard (Viewed slot view ∷ a) past p = absurd p
only-bench setup shard (Headed number head ∷ a) past p = absurd p
only-bench setup shard (Kept index checkpoint ∷ a) past p = absurd p
only-bench setup shard (Did slot place entry effect ∷ a) past p = absurd p

only-out : {M : Type 0} (site : Site M) (me : NodeId) (to : Option ℕ) (m : M) → OnlySends (out_signs site me to m)
only-out {M} site me None m = only-sends (others site.setup.f me (me.shard ∷ [])) (site.carrier.written m)
only-out {M} site me (Some to) m = cond_both (is_other_member site.setup.f me (record { shard = me.shard; index = to })) (Sent (record { shard = me.shard; index = to }) (site.carrier.written m) ∷ []) [] OnlySends (λ e. tt) (λ e. tt)

only-handed : {M : Type 0} (site : Site M) (me : NodeId) (outs : List (Outgoing M)) → OnlySends (handed site me outs)
only-handed {M} site me [] = tt
only-handed {M} site me (out ∷ outs) = only-append (handed site me outs) (out_signs site me out.to out.message) (only-handed site me outs) (only-out site me out.to out.message)

-- ---- telling

tell-over : (setup : Setup) (me : NodeId) (a b : List Sign) → NoDid a → IsTelling setup me b → IsTelling setup me (a ++ b)
tell-over setup me [] b none tells later slot place entry effect earlier e s i = tells later slot place entry effect earlier e s i
tell-over setup me (sign ∷ a) b none tells [] slot place entry effect earlier e s i =
    let same : sign ≡ Did slot place entry effect = cc in
    absurd (subst (λ z. NoDid (z ∷ a)) same none)
tell-over setup me (sign ∷ a) b none tells (other ∷ later) slot place entry effect earlier e s i =
    let rest : a ++ b ≡ later ++ Did slot place entry effect ∷ earlier = cc in
    inr (tell-over setup me a b (no-tail sign a none) tells later slot place entry effect earlier rest s i)

-- an execution after signs that have none is this one, or an earlier one
abbrev IsThere : List Sign → List Sign → Sign → Action → List Sign → Sign → Action → List Sign → Type 0
IsThere front past this entry later that entry2 earlier =
    ((later ≡ front) × (entry ≡ entry2) × (past ≡ earlier)) ⊎ ((rest : List Sign) × (past ≡ rest ++ that ∷ earlier) × (later ≡ front ++ this ∷ rest))

first-did : (front past : List Sign) (slot place : ℕ) (entry : Action) (effect : Effect) (later : List Sign) (slot2 place2 : ℕ) (entry2 : Action) (effect2 : Effect) (earlier : List Sign) → NoDid front
    → front ++ Did slot place entry effect ∷ past ≡ later ++ Did slot2 place2 entry2 effect2 ∷ earlier → IsThere front past (Did slot place entry effect) entry later (Did slot2 place2 entry2 effect2) entry2 earlier
first-did [] past slot place entry effect [] slot2 place2 entry2 effect2 earlier none e =
    let entries : entry ≡ entry2 = cc in
    let rest : past ≡ earlier = cc in
    inl (refl, entries, rest)
first-did [] past slot place entry effect (other ∷ later) slot2 place2 entry2 effect2 earlier none e =
    let same : Did slot place entry effect ≡ other = cc in
    let rest : past ≡ later ++ Did slot2 place2 entry2 effect2 ∷ earlier = cc in
    inr (later, rest, ap (λ z. z ∷ later) (sym same))
first-did (sign ∷ front) past slot place entry effect [] slot2 place2 entry2 effect2 earlier none e =
    let same : sign ≡ Did slot2 place2 entry2 effect2 = cc in
    absurd (subst (λ z. NoDid (z ∷ front)) same none)
first-did (sign ∷ front) past slot place entry effect (other ∷ later) slot2 place2 entry2 effect2 earlier none e =
    let same : sign ≡ other = cc in
    let rest : front ++ Did slot place entry effect ∷ past ≡ later ++ Did slot2 place2 entry2 effect2 ∷ earlier = cc in
    elim (first-did front past slot place entry effect later slot2 place2 entry2 effect2 earlier (no-tail sign front none) rest) [
      | inl r ↦ inl (ap (λ l. other ∷ l) r.0 ∙ ap (λ z. z ∷ front) (sym same), r.1, r.2)
      | inr r ↦ inr (r.0, r.1, ap (λ l. other ∷ l) r.2 ∙ ap (λ z. z ∷ (front ++ Did slot place entry effect ∷ r.0)) (sym same))
    ]

tell-front : (setup : Setup) (me : NodeId) (front past : List Sign) (slot place : ℕ) (entry : Action) (effect : Effect) → NoDid front → IsTelling setup me past
    → ((s : Sign) → IsIn s (votes_by setup me (bench_at setup me.shard past) entry) → IsIn s front) → IsTelling setup me (front ++ Did slot place entry effect ∷ past)
tell-front setup me front past slot place entry effect none tells here later slot2 place2 entry2 effect2 earlier e s i =
    elim (first-did front past slot place entry effect later slot2 place2 entry2 effect2 earlier none e) [
      | inl r ↦ subst (λ l. IsIn s l) (sym r.0) (here s (subst (λ z. IsIn s (votes_by setup me (bench_at setup me.shard past) z)) (sym r.1) (subst (λ l. IsIn s (votes_by setup me (bench_at setup me.shard l) entry2)) (sym r.2) i)))
      | inr r ↦ subst (λ l. IsIn s l) (sym r.2) (in_right s front (Did slot place entry effect ∷ r.0) (inr (tells r.0 slot2 place2 entry2 effect2 earlier r.1 s i)))
    ]

rejoin : (a b c : List Sign) (d : Sign) (past : List Sign) → (a ++ (b ++ (c ++ d ∷ []))) ++ past ≡ (a ++ (b ++ c)) ++ d ∷ past
rejoin a b c d past =
    append_assoc a (b ++ (c ++ d ∷ [])) past ∙ ap (λ l. a ++ l) (append_assoc b (c ++ d ∷ []) past ∙ ap (λ l. b ++ l) (append_assoc c (d ∷ []) past))
    ∙ sym (append_assoc a (b ++ c) (d ∷ past) ∙ ap (λ l. a ++ l) (append_assoc b c (d ∷ past)))

-- an execution tells
tell-ran : (setup : Setup) (me : NodeId) (b : Bench) (slot place : ℕ) (entry : Action) (past : List Sign) → bench_at setup me.shard past ≡ b → IsTelling setup me past
    → IsTelling setup me (ran_signs setup me b slot place entry (session_in entry) (executed setup me.shard b entry) ++ past)
tell-ran setup me b slot place entry past is tells =
    let x = session_in entry in
    let ran = executed setup me.shard b entry in
    let told = vote_told setup me.shard x ran in
    let own = own_signs me x told in
    let votes = vote_signs setup me x told in
    let enters = entered_signs x (is_pooled (digest_of setup x) b.pool) told in
    let front = own ++ (votes ++ enters) in
    let none = no-append own (votes ++ enters) (no-own me x told) (no-append votes enters (no-votes setup me x told) (no-entered x (is_pooled (digest_of setup x) b.pool) told)) in
    subst (λ l. IsTelling setup me l) (sym (rejoin own votes enters (Did slot place entry ran.effect) past))
    (tell-front setup me front past slot place entry ran.effect none tells
    (λ s i. in_right s own (votes ++ enters) (in_left s votes enters (subst (λ z. IsIn s (votes_by setup me z entry)) is i))))

-- so do executions one after the other
tell-actions : (setup : Setup) (me : NodeId) (b : Bench) (slot place : ℕ) (actions : List Action) (past : List Sign) → bench_at setup me.shard past ≡ b → IsTelling setup me past → IsTelling setup me (actions_signs setup me b slot place actions ++ past)
tell-actions setup me b slot place [] past is tells = tells
tell-actions setup me b slot place (action ∷ more) past is tells =
    let signs = ran_signs setup me b slot place action (session_in action) (executed setup me.shard b action) in
    let left = bench_after setup me.shard signs b in
    let here : bench_at setup me.shard (signs ++ past) ≡ left = bench_after-append setup me.shard signs past (start_bench setup me.shard) ∙ ap (bench_after setup me.shard signs) is in
    subst (λ l. IsTelling setup me l) (sym (append_assoc (actions_signs setup me left slot (suc place) more) signs past))
    (tell-actions setup me left slot (suc place) more (signs ++ past) here (tell-ran setup me b slot place action past is tells))

-- with the checkpoint that it makes
tell-execution : (setup : Setup) (me : NodeId) (b : Bench) (slot : ℕ) (entry : Entry) (past : List Sign) → bench_at setup me.shard past ≡ b → IsTelling setup me past → IsTelling setup me (execution_signs setup me b slot entry ++ past)
tell-execution setup me b slot entry past is tells =
    let ran = actions_signs setup me b slot 0 entry.actions in
    let made = made_last (bench_after setup me.shard ran b).log in
    let headed = headed_signs setup me made in
    subst (λ l. IsTelling setup me l) (sym (append_assoc headed ran past))
    (tell-over setup me headed (ran ++ past) (no-headed setup me made) (tell-actions setup me b slot 0 entry.actions past is tells))

-- ---- the rules of a node

module _ {M : Type 0} (site : Site M) (me : NodeId) where
  abbrev pub Tells : List (Mark M) → Type 0
  Tells t = IsTelling site.setup me (signs_of t)

  plain-signs : (signs : List Sign) (t : List (Mark M)) → signs_of (plain signs ++ t) ≡ signs ++ signs_of t
  plain-signs [] t = refl
  plain-signs (sign ∷ signs) t = ap (λ l. sign ∷ l) (plain-signs signs t)

  cut-signs : (slot : ℕ) (t : List (Mark M)) → signs_of (cut_marks slot ++ t) ≡ signs_of t
  cut-signs slot t =
      cond_both ((slot + 1) % 16 == 0) (Ordered (Cut (slot + 1 - kept_slots)) ∷ []) [] (λ (marks : List (Mark M)). signs_of (marks ++ t) ≡ signs_of t)
      (λ e. refl) (λ e. refl)

  -- a deed, and signs that execute nothing
  tell-deed : (signs : List Sign) (deed : Deed M) (t : List (Mark M)) → NoDid signs → Tells t → Tells ((plain signs ++ Ordered deed ∷ []) ++ t)
  tell-deed signs deed t none tells =
      subst (λ l. IsTelling site.setup me l) (sym (ap signs_of (append_assoc (plain signs) (Ordered deed ∷ []) t) ∙ plain-signs signs (Ordered deed ∷ t)))
      (tell-over site.setup me signs (signs_of t) none tells)

  module _ (v : View M) (t : List (Mark M)) (tells : Tells t) where
    with-deed : (deed : Deed M) → Tells (with_deed site v deed ++ t)
    with-deed deed = tell-deed (handed site v.me (sent_by deed)) deed t (only-no (handed site v.me (sent_by deed)) (only-handed site v.me (sent_by deed))) tells

    while-moving : (deed : Deed M) → Tells (moving site v deed ++ t)
    while-moving deed =
        let out = handed site v.me (sent_by deed) in
        let seen = entered_view (length (chosen_in v.member.deeds)) (site.machine.view v.member) (site.machine.view (did deed v.member)) in
        tell-deed (out ++ seen) deed t (no-append out seen (only-no out (only-handed site v.me (sent_by deed))) (no-view (length (chosen_in v.member.deeds)) (site.machine.view v.member) (site.machine.view (did deed v.member)))) tells

    abbrev TurnTells : Option (List (Mark M)) → Type 0
    TurnTells None = Unit {0}
    TurnTells (Some fresh) = Tells (fresh ++ t)

    turn-due : (o : Option Entry) → TurnTells (due_marks site v o)
    turn-due None = tt
    turn-due (Some entry) = with-deed (Proposing (site.proposed_of entry) (site.machine.proposing v.member (site.proposed_of entry)))

    turn-candidate : (candidates : List Proposed) → TurnTells (candidate_marks site v candidates)
    turn-candidate [] = tt
    turn-candidate (p ∷ more) = cond_both (admits_proposed site v p) _ _ TurnTells (λ e. with-deed (Proposing p (site.machine.proposing v.member p))) (λ e. turn-candidate more)

    turn-propose : (may : May) → TurnTells (propose_marks site v may)
    turn-propose No = tt
    turn-propose Free = turn-due (due site.setup v.bench.pool)
    turn-propose (Only candidates) = turn-candidate candidates

    turn-echo : (o : Option Proposed) → TurnTells (echo_marks site v o)
    turn-echo None = turn-propose (site.machine.may_propose v.member)
    turn-echo (Some p) = cond_both (admits_proposed site v p) _ _ TurnTells (λ e. with-deed (Echoed (site.machine.echoing v.member))) (λ e. turn-propose (site.machine.may_propose v.member))

    turn-step : v.me ≡ me → v.bench ≡ bench_at site.setup me.shard (signs_of t) → (step : Step) → TurnTells (step_marks site v step)
    turn-step here bench Moved = while-moving (Advanced Moved (site.machine.advancing v.member))
    turn-step here bench Quiet = turn-echo (site.machine.pending v.member)
    turn-step here bench (Chosen p) =
        let deed : Deed M = Advanced (Chosen p) (site.machine.advancing v.member) in
        let out = handed site v.me (sent_by deed) in
        let only = only-handed site v.me (sent_by deed) in
        let slot = length (chosen_in v.member.deeds) in
        let entry = site.entry_in p in
        let before = out ++ signs_of t in
        let is : bench_at site.setup me.shard before ≡ v.bench = only-bench site.setup me.shard out (signs_of t) only ∙ sym bench in
        let told = tell-execution site.setup me v.bench slot entry before is (tell-over site.setup me out (signs_of t) (only-no out only) tells) in
        let own = subst (λ (n : NodeId). IsTelling site.setup me (execution_signs site.setup n v.bench slot entry ++ before)) (sym here) told in
        let signs = execution_signs site.setup v.me v.bench slot entry in
        let cut : List (Mark M) = cut_marks slot in
        let all : List (Mark M) = plain signs ++ with_deed site v deed in
        let same : signs_of ((cut ++ all) ++ t) ≡ signs ++ before =
        ap signs_of (append_assoc cut all t)
        ∙ cut-signs slot (all ++ t)
        ∙ ap signs_of (append_assoc (plain signs) (with_deed site v deed) t)
        ∙ plain-signs signs (with_deed site v deed ++ t)
        ∙ ap (λ l. signs ++ l) (ap signs_of (append_assoc (plain out) (Ordered deed ∷ []) t) ∙ plain-signs out (Ordered deed ∷ t)) in
        subst (λ l. IsTelling site.setup me l) (sym same) own

  settled-tells : (turns : ℕ) (t : List (Mark M)) → Tells t → Tells (settled site turns (view_at site me t) ++ t)
  unfolding settled
  settled-tells zero t tells = tells
  settled-tells (suc turns) t tells =
      let v = view_at site me t in
      go (turn_marks site v) (turn-step v t tells (me-same site me t) (sym (bench-is site me t)) (site.machine.step v.member)) (λ u k. settled-tells turns u k)
    where
      go : (o : Option (List (Mark M))) → TurnTells (view_at site me t) t tells o → ((u : List (Mark M)) → Tells u → Tells (settled site turns (view_at site me u) ++ u)) → Tells (continued site (settled site turns) (view_at site me t) o ++ t)
      go None h later = tells
      go (Some fresh) h later =
          subst (λ z. Tells z) (sym (append_assoc (settled site turns (view_after site fresh (view_at site me t))) fresh t))
          (subst (λ w. Tells (settled site turns w ++ (fresh ++ t))) (view_after-append site fresh t _) (later (fresh ++ t) h))

-- ---- inputs

module _ {M : Type 0} (site : Site M) (v : View M) where
  -- marks that execute nothing
  abbrev Idle : List (Mark M) → Type 0
  Idle marks = NoDid (signs_of marks)

  idle-plain : (signs : List Sign) → NoDid signs → Idle (plain signs)
  idle-plain signs none = subst NoDid (sym (only signs)) none
    where
      only : (l : List Sign) → signs_of {M = M} (plain l) ≡ l
      only [] = refl
      only (sign ∷ l) = ap (λ z. sign ∷ z) (only l)

  idle-append : (a b : List (Mark M)) → Idle a → Idle b → Idle (a ++ b)
  idle-append a b p q = subst NoDid (sym (signs_of-append a b)) (no-append (signs_of a) (signs_of b) p q)

  idle-deed : (deed : Deed M) → Idle (with_deed site v deed)
  idle-deed deed =
      let out = handed site v.me (sent_by deed) in
      idle-append (plain out) (Ordered deed ∷ []) (idle-plain out (only-no out (only-handed site v.me (sent_by deed)))) tt

  idle-moving : (deed : Deed M) → Idle (moving site v deed)
  idle-moving deed =
      let out = handed site v.me (sent_by deed) in
      let seen = entered_view (length (chosen_in v.member.deeds)) (site.machine.view v.member) (site.machine.view (did deed v.member)) in
      idle-append (plain (out ++ seen)) (Ordered deed ∷ [])
      (idle-plain (out ++ seen) (no-append out seen (only-no out (only-handed site v.me (sent_by deed))) (no-view (length (chosen_in v.member.deeds)) (site.machine.view v.member) (site.machine.view (did deed v.member))))) tt

  idle-taking : (from : ℕ) (m : M) (answer : Answer) → Idle (taking_marks from m answer)
  idle-taking from m took.Taken = tt
  idle-taking from m took.Old = tt
  idle-taking from m took.Far = tt
  idle-taking from m took.Leader = tt
  idle-taking from m took.Repeat = tt

  idle-member : (sender : NodeId) (o : Option M) → Idle (member_marks site v sender o)
  idle-member sender None = tt
  idle-member sender (Some m) =
      cond_both (is_other_member site.setup.f v.me sender) _ _ Idle
      (λ e. idle-taking sender.index m (site.machine.taking v.member sender.index m)) (λ e. tt)

  idle-reply : (slot to : ℕ) (o : Option (Outgoing M)) → Idle (reply_marks site v slot to o)
  idle-reply slot to None = tt
  idle-reply slot to (Some out) = idle-deed (Replied slot to (out ∷ []))

  idle-class : (sender : NodeId) (said : Message) (class : Class) → Idle (class_marks site v sender said class)
  idle-class sender said OfOrder = idle-member sender (site.carrier.read said)
  idle-class sender said class =
      let signs = said_signs site.setup v.me v.bench sender said in
      idle-plain signs (no-heard sender signs (heard site.setup v.me v.bench sender said))

  idle-message : (sender : NodeId) (said : Message) → Idle (message_marks site v sender said)
  idle-message sender (message.Want slot) =
      cond_both (is_other_member site.setup.f v.me sender) _ _ Idle
      (λ e. idle-reply slot sender.index (site.machine.replying v.member slot sender.index)) (λ e. tt)
  idle-message sender said = idle-class sender said (class_of said)

  idle-opened : (o : Opened) → Idle (opened_marks site v o)
  idle-opened (Ok said) = idle-message said.0 said.1
  idle-opened (Err error) = tt

  idle-again : Idle (again_marks site v)
  idle-again =
      let wants = sends (others site.setup.f v.me (v.me.shard ∷ [])) (message.Want (length (chosen_in v.member.deeds))) in
      let asks = asked_again site.setup v.me v.bench.pool in
      let deed : Deed M = Resent (site.machine.resending v.member) in
      idle-append (plain (wants ++ asks)) (with_deed site v deed)
      (idle-plain (wants ++ asks) (no-append wants asks (no-sends (others site.setup.f v.me (v.me.shard ∷ [])) (message.Want (length (chosen_in v.member.deeds)))) (no-asked site.setup v.me v.bench.pool)))
      (idle-deed deed)

idle-input : {M : Type 0} (site : Site M) (v : View M) (input : Input) → NoDid (signs_of (input_marks site v input))
idle-input {M} site v (Datagram bytes) = idle-opened site v (site.net.opened v.me bytes)
idle-input {M} site v Tick =
    let again = again_marks site v in
    let w = view_after site again v in
    let on = is_some (due site.setup v.bench.pool) in
    idle-append site v (waiting_marks site w on) again (idle-moving site w (Ticked on (site.machine.ticking w.member on))) (idle-again site v)

-- ---- events

event-tells : {M : Type 0} (site : Site M) (me : NodeId) (t : List (Mark M)) (input : Input) → Tells site me t → Tells site me (event_marks site (view_at site me t) input ++ t)
unfolding event_marks
event-tells {M} site me t input tells =
    let v = view_at site me t in
    let own = input_marks site v input in
    let first = own ++ In input ∷ [] in
    let heard : Tells site me (first ++ t) =
    subst (λ l. IsTelling site.setup me l) (sym (ap signs_of (append_assoc own (In input ∷ []) t) ∙ signs_of-append own (In input ∷ t)))
    (tell-over site.setup me (signs_of own) (signs_of t) (idle-input site v input) tells) in
    subst (λ z. Tells site me z) (sym (append_assoc (settled site (2 ^ 80) (view_after site first v)) first t))
    (subst (λ w. Tells site me (settled site (2 ^ 80) w ++ (first ++ t))) (view_after-append site first t _) (settled-tells site me (2 ^ 80) (first ++ t) heard))

-- each node tells
pub world-tells : {M : Type 0} (site : Site M) (world : List (Happening M)) → IsLife site world → (i : NodeId) → Tells site i (trail_of i world)
world-tells {M} site [] life i = λ later slot place entry effect earlier e s j. none later (Did slot place entry effect) earlier e
  where
    none : {A : Type 0} (l : List Sign) (sign : Sign) (earlier : List Sign) → [] ≡ l ++ sign ∷ earlier → A
    none {A} [] sign earlier e = absurd cc
    none {A} (other ∷ l) sign earlier e = absurd cc
world-tells {M} site (h ∷ past) life i =
    cond_both (same_name h.node i) (h.marks ++ trail_of i past) (trail_of i past) (λ t. Tells site i t)
    (λ e.
    let is = same-name h.node i e in
    let made = life.0 ∙ ap (λ n. event_marks site (view_of site past n) h.input) is in
    subst (λ z. Tells site i (z ++ trail_of i past)) (sym made) (event-tells site i (trail_of i past) h.input (world-tells site past life.1 i)))
    (λ e. world-tells site past life.1 i)
