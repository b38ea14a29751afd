-- What an event sends is for those to whom the node has keys.
use Rattle.std.proofs.Common.{◌≡◌, ℕ, zero, suc, ◌+◌, ◌-◌, ◌%◌, ◌<◌, ◌^◌, ◌==◌, nat_lt, Bool, true, false, cond, List, [], ◌∷◌, ◌++◌, length, Option, Some, None, Ok, Err, IsSome, refl, ap, sym, subst, ◌∙◌, arith}
use Rattle.std.proofs.lemmas.Bool.Decides.{nat_tests}
use Rattle.std.specs.Prelude.{is_some}
use Rattle.cs_base.specs.declared.config.Config.{Config}
use Rattle.cs_base.specs.declared.node_id.NodeId.{NodeId}
use Rattle.cs_base.specs.NodeId.{is_node, same_name}
use Rattle.cs_tx_types.specs.declared.transaction.Tx.{Tx}
use Rattle.cs_tx_types.specs.declared.entry.Entry.{Entry}
use Rattle.cs_wire_message.specs.declared.message.Message.{Message}
use Rattle.cs_wire_message.specs.declared.message.Message.TheVariants as message
use Rattle.cs_wire_message.specs.Classes.{Class, OfOrder, class_of}
use Rattle.cs_order.specs.declared.proposed.Proposed.{Proposed}
use Rattle.cs_order.specs.declared.answers.Outgoing.{Outgoing}
use Rattle.cs_order.specs.declared.answers.Took.{Took}
use Rattle.cs_order.specs.declared.answers.Took.TheVariants as took
use Rattle.cs_order.specs.declared.answers.Step.{Step}
use Rattle.cs_order.specs.declared.answers.Step.TheVariants as step
use Rattle.cs_order.specs.declared.answers.May.{May}
use Rattle.cs_order.specs.declared.answers.May.TheVariants as may
use Rattle.cs_order.specs.Deeds.{Deed, Advanced, Echoed, Proposing, Resent, Ticked, Replied, Cut, Member, did, sent_by, chosen_in}
use Rattle.cs_wire.specs.declared.keys.Keys.{Keys}
use Rattle.cs_wire.specs.Keys.{row_of}
use Rattle.cs_wire.specs.Opened.{Opened}
use Rattle.cs_check_rules.specs.Chain.{kept_slots}
use Rattle.cs_node_state.specs.Setup.{Setup}
use Rattle.cs_node_rules.specs.Members.{is_other_member, others}
use Rattle.cs_node_rules.proofs.Heard.{heard}
use Rattle.cs_node_state.specs.Admission.{due}
use Rattle.cs_node_rules.specs.Signs.{Sign, Dropped, Took as Took_vote, Entered, Viewed, Did, Headed, Kept, Sent, sends, execution_signs, asked_again, said_signs}
use Rattle.cs_node_rules.specs.Site.{Input, Datagram, Tick, Mark, In, Ordered, Site, View, view_after, plain, signs_of}
use Rattle.cs_node_rules.specs.Trail.{out_signs, handed, with_deed, entered_view, moving, admits_proposed, proposing, due_marks, candidate_marks, propose_marks, echo_marks, cut_marks, step_marks, turn_marks, continued, settled, taking_marks, member_marks, reply_marks, want_marks, class_marks, message_marks, opened_marks, again_marks, waiting_marks, input_marks, event_marks}
use Rattle.cs_node.specs.declared.node_core.Core.{Core}
use Rattle.cs_node.specs.Notes.{said_of, AllReached}
use Rattle.cs_node.specs.Cores.{CoreStandsFor}
use Rattle.cs_node.proofs.Names.{me-after}
use Rattle.cs_node.proofs.Sums.{signs-append, signs-plain}
use Rattle.cs_node.proofs.Openers.{opener-held}
use Rattle.cs_node.proofs.Receivers.{AllTo, to-append, to-all, to-heard, to-execution, to-asked}

module _ {M : Type 0} (Peer : NodeId → Type 0) (config : Config) (site : Site M) (same_f : site.setup.f ≡ config.f) (same_shards : site.setup.shards ≡ config.shards) where
  -- a node of the deployment, whose peers are all others
  pub record IsHome (me : NodeId) : Type 0 where
    pub node : is_node config me ≡ true
    pub others_too : (to : NodeId) → is_node config to ≡ true → same_name to me ≡ false → Peer to

  abbrev pub Goes : List (Mark M) → Type 0
  Goes marks = AllTo Peer (signs_of marks)

  abbrev GoesIf : Option (List (Mark M)) → Type 0
  GoesIf None = Unit {0}
  GoesIf (Some marks) = Goes marks

  goes-append : (new old : List (Mark M)) → Goes new → Goes old → Goes (new ++ old)
  goes-append new old a b = subst (AllTo Peer) (sym (signs-append new old)) (to-append Peer (signs_of new) (signs_of old) a b)

  goes-plain : (signs : List Sign) (marks : List (Mark M)) → AllTo Peer signs → Goes marks → Goes (plain signs ++ marks)
  goes-plain signs marks a b = subst (AllTo Peer) (sym (signs-plain signs marks)) (to-append Peer signs (signs_of marks) a b)

  goes-alone : (signs : List Sign) → AllTo Peer signs → Goes (plain signs)
  goes-alone [] all = tt
  goes-alone (Dropped cause ∷ past) all = goes-alone past all
  goes-alone (Took_vote sender vote x ∷ past) all = goes-alone past all
  goes-alone (Entered x ∷ past) all = goes-alone past all
  goes-alone (Viewed slot view ∷ past) all = goes-alone past all
  goes-alone (Headed number head ∷ past) all = goes-alone past all
  goes-alone (Kept index checkpoint ∷ past) all = goes-alone past all
  goes-alone (Did slot place entry effect ∷ past) all = goes-alone past all
  goes-alone (Sent to message ∷ past) all = (all.0, goes-alone past all.1)

  module _ (v : View M) (home : IsHome v.me) where
    in-range : v.me.shard < config.shards
    in-range = let h : is_node config v.me ≡ true = home.node in grind (arith, nat_tests)

    to-shard : (m : Message) → AllTo Peer (sends (others site.setup.f v.me (v.me.shard ∷ [])) m)
    to-shard m = to-all Peer config v.me home.others_too site.setup same_f same_shards (v.me.shard ∷ []) m (in-range, tt)

    other-peer : (to : NodeId) → is_other_member config.f v.me to ≡ true → Peer to
    other-peer to other =
        let low : v.me.shard < config.shards = in-range in
        let node : is_node config to ≡ true = grind (arith, nat_tests) in
        let apart : same_name to v.me ≡ false = grind (arith, nat_tests) in
        home.others_too to node apart

    to-out : (to : Option ℕ) (m : M) → AllTo Peer (out_signs site v.me to m)
    to-out None m = to-shard (site.carrier.written m)
    to-out (Some index) m = by_test (is_other_member site.setup.f v.me to) refl
      where
        to : NodeId
        to = record { shard = v.me.shard; index = index }

        by_test : (other : Bool) → is_other_member site.setup.f v.me to ≡ other → AllTo Peer (cond other (Sent to (site.carrier.written m) ∷ []) [])
        by_test true is = (other-peer to (subst (λ n. is_other_member n v.me to ≡ true) same_f is), tt)
        by_test false is = tt

    to-handed : (outs : List (Outgoing M)) → AllTo Peer (handed site v.me outs)
    to-handed [] = tt
    to-handed (out ∷ outs) = to-append Peer (handed site v.me outs) (out_signs site v.me out.to out.message) (to-handed outs) (to-out out.to out.message)

    goes-deed : (deed : Deed M) → Goes (with_deed site v deed)
    goes-deed deed = goes-plain (handed site v.me (sent_by deed)) (Ordered deed ∷ []) (to-handed (sent_by deed)) tt

    goes-moving : (deed : Deed M) → Goes (moving site v deed)
    goes-moving deed =
        goes-plain (handed site v.me (sent_by deed) ++ view_signs) (Ordered deed ∷ []) (to-append Peer (handed site v.me (sent_by deed)) view_signs (to-handed (sent_by deed)) (by_test (nat_lt before after))) tt
      where
        before : ℕ
        before = site.machine.view v.member

        after : ℕ
        after = site.machine.view (did deed v.member)

        view_signs : List Sign
        view_signs = entered_view (length (chosen_in v.member.deeds)) before after

        by_test : (moved : Bool) → AllTo Peer (cond moved (Viewed (length (chosen_in v.member.deeds)) after ∷ []) [])
        by_test true = tt
        by_test false = tt

    -- ---- rules

    goes-due : (found : Option Entry) → GoesIf (due_marks site v found)
    goes-due None = tt
    goes-due (Some entry) = goes-deed (Proposing (site.proposed_of entry) (site.machine.proposing v.member (site.proposed_of entry)))

    goes-candidates : (candidates : List Proposed) → GoesIf (candidate_marks site v candidates)
    goes-candidates [] = tt
    goes-candidates (proposed ∷ more) = by_test (goes-candidates more) (admits_proposed site v proposed)
      where
        by_test : GoesIf (candidate_marks site v more) → (admitted : Bool) → GoesIf (cond admitted (Some (proposing site v proposed)) (candidate_marks site v more))
        by_test later true = goes-deed (Proposing proposed (site.machine.proposing v.member proposed))
        by_test later false = later

    goes-propose : (allowed : May) → GoesIf (propose_marks site v allowed)
    goes-propose may.No = tt
    goes-propose may.Free = goes-due (due site.setup v.bench.pool)
    goes-propose (may.Only candidates) = goes-candidates candidates

    goes-echo : (pending : Option Proposed) → GoesIf (echo_marks site v pending)
    goes-echo None = goes-propose (site.machine.may_propose v.member)
    goes-echo (Some proposed) = by_test (admits_proposed site v proposed)
      where
        by_test : (admitted : Bool) → GoesIf (cond admitted (Some (with_deed site v (Echoed (site.machine.echoing v.member)))) (propose_marks site v (site.machine.may_propose v.member)))
        by_test true = goes-deed (Echoed (site.machine.echoing v.member))
        by_test false = goes-propose (site.machine.may_propose v.member)

    goes-cut : (slot : ℕ) (marks : List (Mark M)) → Goes marks → Goes (cut_marks slot ++ marks)
    goes-cut slot marks goes = by_test ((slot + 1) % 16 == 0)
      where
        by_test : (due : Bool) → Goes (cond due (Ordered (Cut (slot + 1 - kept_slots)) ∷ []) [] ++ marks)
        by_test true = goes
        by_test false = goes

    goes-step : (taken : Step) → GoesIf (step_marks site v taken)
    goes-step (step.Chosen proposed) =
        let slot : ℕ = length (chosen_in v.member.deeds) in
        let signs : List Sign = execution_signs site.setup v.me v.bench slot (site.entry_in proposed) in
        let deed : Deed M = Advanced (step.Chosen proposed) (site.machine.advancing v.member) in
        goes-cut slot (plain signs ++ with_deed site v deed)
        (goes-plain signs (with_deed site v deed) (to-execution Peer config v.me home.others_too site.setup same_f same_shards in-range v.bench slot (site.entry_in proposed)) (goes-deed deed))
    goes-step step.Moved = goes-moving (Advanced step.Moved (site.machine.advancing v.member))
    goes-step step.Quiet = goes-echo (site.machine.pending v.member)

    -- ---- inputs

    goes-taking : (from : ℕ) (m : M) (answer : Took) → Goes (taking_marks from m answer)
    goes-taking from m took.Taken = tt
    goes-taking from m took.Old = tt
    goes-taking from m took.Far = tt
    goes-taking from m took.Leader = tt
    goes-taking from m took.Repeat = tt

    goes-member : (sender : NodeId) (read : Option M) → Goes (member_marks site v sender read)
    goes-member sender None = tt
    goes-member sender (Some m) = by_test (is_other_member site.setup.f v.me sender)
      where
        by_test : (other : Bool) → Goes (cond other (taking_marks sender.index m (site.machine.taking v.member sender.index m)) (member_marks site v sender None))
        by_test true = goes-taking sender.index m (site.machine.taking v.member sender.index m)
        by_test false = tt

    goes-reply : (slot to : ℕ) (found : Option (Outgoing M)) → Goes (reply_marks site v slot to found)
    goes-reply slot to None = tt
    goes-reply slot to (Some out) = goes-deed (Replied slot to (out ∷ []))

    goes-want : (sender : NodeId) (slot : ℕ) → Goes (want_marks site v sender slot)
    goes-want sender slot = by_test (is_other_member site.setup.f v.me sender)
      where
        by_test : (other : Bool) → Goes (cond other (reply_marks site v slot sender.index (site.machine.replying v.member slot sender.index)) (member_marks site v sender None))
        by_test true = goes-reply slot sender.index (site.machine.replying v.member slot sender.index)
        by_test false = tt

    goes-class : (sender : NodeId) (said : Message) (class : Class) → Peer sender → Goes (class_marks site v sender said class)
    goes-class sender said OfOrder peer = goes-member sender (site.carrier.read said)
    goes-class sender said class peer =
        let signs = said_signs site.setup v.me v.bench sender said in
        goes-alone signs (to-heard Peer sender signs (heard site.setup v.me v.bench sender said) peer)

    goes-message : (sender : NodeId) (said : Message) → Peer sender → Goes (message_marks site v sender said)
    goes-message sender (message.Want slot) peer = goes-want sender slot
    goes-message sender said peer = goes-class sender said (class_of said) peer

    goes-opened : (said : Opened) → ((sender : NodeId) (m : Message) → said ≡ Ok (sender, m) → Peer sender) → Goes (opened_marks site v said)
    goes-opened (Ok said) peer = goes-message said.0 said.1 (peer said.0 said.1 refl)
    goes-opened (Err error) peer = tt

    goes-again : Goes (again_marks site v)
    goes-again =
        let wants : List Sign = sends (others site.setup.f v.me (v.me.shard ∷ [])) (message.Want (length (chosen_in v.member.deeds))) in
        goes-plain (wants ++ asked_again site.setup v.me v.bench.pool) (with_deed site v (Resent (site.machine.resending v.member)))
        (to-append Peer wants (asked_again site.setup v.me v.bench.pool) (to-shard (message.Want (length (chosen_in v.member.deeds)))) (to-asked Peer config v.me home.others_too site.setup same_f same_shards v.bench.pool))
        (goes-deed (Resent (site.machine.resending v.member)))

  abbrev home-after : (marks : List (Mark M)) (v : View M) → IsHome v.me → IsHome (view_after site marks v).me
  home-after marks v home = subst IsHome (sym (me-after site marks v)) home

  goes-input : (v : View M) (home : IsHome v.me) (input : Input) → ((bytes : List ℕ) (sender : NodeId) (m : Message) → site.net.opened v.me bytes ≡ Ok (sender, m) → Peer sender) → Goes (input_marks site v input)
  goes-input v home (Datagram bytes) peer = goes-opened v home (site.net.opened v.me bytes) (peer bytes)
  goes-input v home Tick peer =
      let again : List (Mark M) = again_marks site v in
      let w : View M = view_after site again v in
      let on : Bool = is_some (due site.setup v.bench.pool) in
      goes-append (waiting_marks site w on) again (goes-moving w (home-after again v home) (Ticked on (site.machine.ticking w.member on))) (goes-again v home)

  goes-settled : (turns : ℕ) (v : View M) → IsHome v.me → Goes (settled site turns v)
  unfolding settled
  goes-settled zero v home = tt
  goes-settled (suc turns) v home = by_found (goes-settled turns) (turn_marks site v) (goes-step v home (site.machine.step v.member))
    where
      by_found : ((w : View M) → IsHome w.me → Goes (settled site turns w)) → (found : Option (List (Mark M))) → GoesIf found → Goes (continued site (settled site turns) v found)
      by_found later None goes = tt
      by_found later (Some fresh) goes = goes-append (settled site turns (view_after site fresh v)) fresh (later (view_after site fresh v) (home-after fresh v home)) goes

  pub goes-event : (v : View M) (home : IsHome v.me) (input : Input) → ((bytes : List ℕ) (sender : NodeId) (m : Message) → site.net.opened v.me bytes ≡ Ok (sender, m) → Peer sender) → Goes (event_marks site v input)
  unfolding event_marks
  goes-event v home input peer =
      let first : List (Mark M) = input_marks site v input ++ In input ∷ [] in
      goes-append (settled site (2 ^ 80) (view_after site first v)) first
      (goes-settled (2 ^ 80) (view_after site first v) (home-after first v home))
      (goes-append (input_marks site v input) (In input ∷ []) (goes-input v home input peer) tt)

reached-append : (keys : Keys) (xs ys : List (NodeId × Message)) → AllReached keys xs → AllReached keys ys → AllReached keys (xs ++ ys)
reached-append keys [] ys a b = b
reached-append keys (x ∷ xs) ys a b = (a.0, reached-append keys xs ys a.1 b)

-- what is sent to those with a key reaches them
reached-of : (keys : Keys) (signs : List Sign) → AllTo (λ to. IsSome (row_of to keys)) signs → AllReached keys (said_of signs)
reached-of keys [] all = tt
reached-of keys (Dropped cause ∷ past) all = reached-of keys past all
reached-of keys (Took_vote sender vote x ∷ past) all = reached-of keys past all
reached-of keys (Entered x ∷ past) all = reached-of keys past all
reached-of keys (Viewed slot view ∷ past) all = reached-of keys past all
reached-of keys (Headed number head ∷ past) all = reached-of keys past all
reached-of keys (Kept index checkpoint ∷ past) all = reached-of keys past all
reached-of keys (Did slot place entry effect ∷ past) all = reached-of keys past all
reached-of keys (Sent to message ∷ past) all = reached-append keys (said_of past) ((to, message) ∷ []) (reached-of keys past all.1) (all.0, tt)

pub event-reached : {O J M : Type 0} (stands : O → Member M → Type 0) (approves : J → Tx → Bool) (site : Site M) (core : Core O J M) (v : View M) (input : Input) → CoreStandsFor stands approves site core v
    → AllReached core.own.keys (said_of (signs_of (event_marks site v input)))
event-reached {O} {J} {M} stands approves site core v input is =
    let config : Config = core.engine.sbac.config in
    let Peer : NodeId → Type 0 = λ to. IsSome (row_of to core.own.keys) in
    let names : core.engine.sbac.me ≡ v.me = ap (λ (u : View M). u.me) is.keeps.view_is in
    let node : is_node config v.me ≡ true = subst (λ (n : NodeId). is_node config n ≡ true) names is.keeps.seated.node in
    let reaches : (to : NodeId) → is_node config to ≡ true → same_name to v.me ≡ false → Peer to = λ to is_one other. is.speaks.reaches to is_one (ap (same_name to) is.me_is ∙ other) in
    reached-of core.own.keys (signs_of (event_marks site v input))
    (goes-event Peer config site (ap (λ (s : Setup). s.f) (sym is.keeps.setup_is)) (ap (λ (s : Setup). s.shards) (sym is.keeps.setup_is))
    v (record { node = node; others_too = reaches }) input
    (λ bytes sender m opens. opener-held core.own.keys bytes sender m (is.speaks.opens bytes ∙ ap (λ (n : NodeId). site.net.opened n bytes) is.me_is ∙ opens)))
