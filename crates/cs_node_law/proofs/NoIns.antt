-- The rules make no inputs: of each event one input is given.
use Rattle.std.proofs.Common.{◌≡◌, ℕ, zero, suc, ◌+◌, ◌%◌, ◌^◌, ◌==◌, List, [], ◌∷◌, ◌++◌, length, Option, Some, None, is_some, refl, ap, ◌∙◌, append_assoc, sym}
use Rattle.std.specs.Prelude.{Ok, Err}
use Rattle.std.proofs.lemmas.Bool.{cond_both}
use Rattle.cs_base.specs.declared.node_id.NodeId.{NodeId}
use Rattle.cs_tx_types.specs.declared.entry.Entry.{Entry}
use Rattle.cs_wire_message.specs.declared.message.Message.{Message}
use Rattle.cs_wire_message.specs.declared.message.Message.TheVariants as message
use Rattle.cs_wire_message.specs.Classes.{Class, OfOrder, class_of}
use Rattle.cs_order.specs.declared.proposed.Proposed.{Proposed}
use Rattle.cs_order.specs.declared.answers.Outgoing.{Outgoing}
use Rattle.cs_order.specs.declared.answers.Took.{Took as Answer}
use Rattle.cs_order.specs.declared.answers.Took.TheVariants as took
use Rattle.cs_order.specs.declared.answers.Step.{Step}
use Rattle.cs_order.specs.declared.answers.Step.TheVariants.{Chosen, Moved, Quiet}
use Rattle.cs_order.specs.declared.answers.May.{May}
use Rattle.cs_order.specs.declared.answers.May.TheVariants.{No, Free, Only}
use Rattle.cs_order.specs.Deeds.{Deed, Advanced, Echoed, Proposing, Ticked, Resent, Replied, did, sent_by, chosen_in}
use Rattle.cs_wire.specs.Opened.{Opened}
use Rattle.cs_node_state.specs.Admission.{due}
use Rattle.cs_node_rules.specs.Members.{is_other_member, others}
use Rattle.cs_node_rules.specs.Signs.{Sign, sends, execution_signs, asked_again, said_signs}
use Rattle.cs_node_rules.specs.Site.{Input, Datagram, Tick, Mark, In, Ordered, Plain, Site, View, view_after, plain}
use Rattle.cs_node_rules.specs.Trail.{handed, with_deed, entered_view, moving, cut_marks, admits_proposed, due_marks, candidate_marks, propose_marks, echo_marks, step_marks, turn_marks, continued, settled, taking_marks, member_marks, reply_marks, want_marks, class_marks, message_marks, opened_marks, again_marks, waiting_marks, tick_marks, input_marks, event_marks}

-- what the node was given, the newest first
abbrev pub inputs_in : {M : Type 0} → List (Mark M) → List Input
inputs_in {M} [] = []
inputs_in {M} (In input ∷ past) = input ∷ inputs_in past
inputs_in {M} (Ordered deed ∷ past) = inputs_in past
inputs_in {M} (Plain sign ∷ past) = inputs_in past

-- no input is among these marks
abbrev pub NoIn : {M : Type 0} → List (Mark M) → Type 0
NoIn {M} [] = Unit {0}
NoIn {M} (In input ∷ past) = ⊥
NoIn {M} (Ordered deed ∷ past) = NoIn past
NoIn {M} (Plain sign ∷ past) = NoIn past

pub inputs-kept : {M : Type 0} (a t : List (Mark M)) → NoIn a → inputs_in (a ++ t) ≡ inputs_in t
inputs-kept {M} [] t none = refl
inputs-kept {M} (In input ∷ a) t none = absurd none
inputs-kept {M} (Ordered deed ∷ a) t none = inputs-kept a t none
inputs-kept {M} (Plain sign ∷ a) t none = inputs-kept a t none

no-append : {M : Type 0} (a b : List (Mark M)) → NoIn a → NoIn b → NoIn (a ++ b)
no-append {M} [] b of_a of_b = of_b
no-append {M} (In input ∷ a) b of_a of_b = absurd of_a
no-append {M} (Ordered deed ∷ a) b of_a of_b = no-append a b of_a of_b
no-append {M} (Plain sign ∷ a) b of_a of_b = no-append a b of_a of_b

abbrev NoneIn : {M : Type 0} → Option (List (Mark M)) → Type 0
NoneIn {M} None = Unit {0}
NoneIn {M} (Some marks) = NoIn marks

module _ {M : Type 0} (site : Site M) where
  no-plain : (signs : List Sign) → NoIn {M = M} (plain signs)
  no-plain [] = tt
  no-plain (sign ∷ signs) = no-plain signs

  no-deed : (v : View M) (deed : Deed M) → NoIn (with_deed site v deed)
  no-deed v deed = let signs = handed site v.me (sent_by deed) in no-append (plain signs) (Ordered deed ∷ []) (no-plain signs) tt

  no-moving : (v : View M) (deed : Deed M) → NoIn (moving site v deed)
  no-moving v deed =
      let signs = handed site v.me (sent_by deed) ++ entered_view (length (chosen_in v.member.deeds)) (site.machine.view v.member) (site.machine.view (did deed v.member)) in
      no-append (plain signs) (Ordered deed ∷ []) (no-plain signs) tt

  module _ (v : View M) where
    no-due : (o : Option Entry) → NoneIn (due_marks site v o)
    no-due None = tt
    no-due (Some entry) = no-deed v (Proposing (site.proposed_of entry) (site.machine.proposing v.member (site.proposed_of entry)))

    no-candidate : (candidates : List Proposed) → NoneIn (candidate_marks site v candidates)
    no-candidate [] = tt
    no-candidate (p ∷ more) = cond_both (admits_proposed site v p) _ _ (λ o. NoneIn o) (λ e. no-deed v (Proposing p (site.machine.proposing v.member p))) (λ e. no-candidate more)

    no-propose : (may : May) → NoneIn (propose_marks site v may)
    no-propose No = tt
    no-propose Free = no-due (due site.setup v.bench.pool)
    no-propose (Only candidates) = no-candidate candidates

    no-echo : (o : Option Proposed) → NoneIn (echo_marks site v o)
    no-echo None = no-propose (site.machine.may_propose v.member)
    no-echo (Some p) = cond_both (admits_proposed site v p) _ _ (λ o. NoneIn o) (λ e. no-deed v (Echoed (site.machine.echoing v.member))) (λ e. no-propose (site.machine.may_propose v.member))

    no-cut : (slot : ℕ) → NoIn {M = M} (cut_marks slot)
    no-cut slot = cond_both ((slot + 1) % 16 == 0) _ _ (λ marks. NoIn marks) (λ e. tt) (λ e. tt)

    no-step : (step : Step) → NoneIn (step_marks site v step)
    no-step (Chosen p) =
        let slot = length (chosen_in v.member.deeds) in
        let signs = execution_signs site.setup v.me v.bench slot (site.entry_in p) in
        let deed : Deed M = Advanced (Chosen p) (site.machine.advancing v.member) in
        no-append (cut_marks slot) (plain signs ++ with_deed site v deed) (no-cut slot)
        (no-append (plain signs) (with_deed site v deed) (no-plain signs) (no-deed v deed))
    no-step Moved = no-moving v (Advanced Moved (site.machine.advancing v.member))
    no-step Quiet = no-echo (site.machine.pending v.member)

    -- ---- inputs

    no-taking : (from : ℕ) (m : M) (answer : Answer) → NoIn (taking_marks from m answer)
    no-taking from m took.Taken = tt
    no-taking from m took.Old = tt
    no-taking from m took.Far = tt
    no-taking from m took.Leader = tt
    no-taking from m took.Repeat = tt

    no-member : (sender : NodeId) (o : Option M) → NoIn (member_marks site v sender o)
    no-member sender None = tt
    no-member sender (Some m) = cond_both (is_other_member site.setup.f v.me sender) _ _ (λ marks. NoIn marks) (λ e. no-taking sender.index m (site.machine.taking v.member sender.index m)) (λ e. tt)

    no-reply : (slot to : ℕ) (o : Option (Outgoing M)) → NoIn (reply_marks site v slot to o)
    no-reply slot to None = tt
    no-reply slot to (Some out) = no-deed v (Replied slot to (out ∷ []))

    no-want : (sender : NodeId) (slot : ℕ) → NoIn (want_marks site v sender slot)
    no-want sender slot = cond_both (is_other_member site.setup.f v.me sender) _ _ (λ marks. NoIn marks) (λ e. no-reply slot sender.index (site.machine.replying v.member slot sender.index)) (λ e. tt)

    no-class : (sender : NodeId) (said : Message) (class : Class) → NoIn (class_marks site v sender said class)
    no-class sender said OfOrder = no-member sender (site.carrier.read said)
    no-class sender said class = no-plain (said_signs site.setup v.me v.bench sender said)

    no-message : (sender : NodeId) (said : Message) → NoIn (message_marks site v sender said)
    no-message sender (message.Want slot) = no-want sender slot
    no-message sender said = no-class sender said (class_of said)

    no-opened : (o : Opened) → NoIn (opened_marks site v o)
    no-opened (Ok said) = no-message said.0 said.1
    no-opened (Err error) = tt

    no-tick : NoIn (tick_marks site v)
    no-tick =
        let again = again_marks site v in
        let w = view_after site again v in
        let on = is_some (due site.setup v.bench.pool) in
        let signs = sends (others site.setup.f v.me (v.me.shard ∷ [])) (message.Want (length (chosen_in v.member.deeds))) ++ asked_again site.setup v.me v.bench.pool in
        let resent : Deed M = Resent (site.machine.resending v.member) in
        no-append (waiting_marks site w on) again (no-moving w (Ticked on (site.machine.ticking w.member on)))
        (no-append (plain signs) (with_deed site v resent) (no-plain signs) (no-deed v resent))

    no-input : (input : Input) → NoIn (input_marks site v input)
    no-input (Datagram bytes) = no-opened (site.net.opened v.me bytes)
    no-input Tick = no-tick

  no-settled : (turns : ℕ) (v : View M) → NoIn (settled site turns v)
  unfolding settled
  no-settled zero v = tt
  no-settled (suc turns) v = go (turn_marks site v) (no-step v (site.machine.step v.member)) (no-settled turns)
    where
      go : (o : Option (List (Mark M))) → NoneIn o → ((w : View M) → NoIn (settled site turns w)) → NoIn (continued site (settled site turns) v o)
      go None none again = tt
      go (Some fresh) none again = no-append (settled site turns (view_after site fresh v)) fresh (again (view_after site fresh v)) none

-- an event gives its input to the node, and no other
pub event-inputs : {M : Type 0} (site : Site M) (v : View M) (input : Input) (t : List (Mark M)) → inputs_in (event_marks site v input ++ t) ≡ input ∷ inputs_in t
unfolding event_marks
event-inputs {M} site v input t =
    let first = input_marks site v input ++ In input ∷ [] in
    let later = settled site (2 ^ 80) (view_after site first v) in
    ap (λ (l : List (Mark M)). inputs_in l) (append_assoc later first t)
    ∙ inputs-kept later (first ++ t) (no-settled site (2 ^ 80) (view_after site first v))
    ∙ ap (λ (l : List (Mark M)). inputs_in l) (append_assoc (input_marks site v input) (In input ∷ []) t)
    ∙ inputs-kept (input_marks site v input) (In input ∷ t) (no-input site v input)

-- the marks of an event are its input, the oldest, and others that are no inputs
pub record IsShaped {M : Type 0} (input : Input) (marks : List (Mark M)) : Type 0 where
  pub fresh : List (Mark M)
  pub none : NoIn fresh
  pub is : marks ≡ fresh ++ In input ∷ []

pub event-shape : {M : Type 0} (site : Site M) (v : View M) (input : Input) → IsShaped input (event_marks site v input)
unfolding event_marks
event-shape {M} site v input =
    let own = input_marks site v input in
    let first = own ++ In input ∷ [] in
    let later = settled site (2 ^ 80) (view_after site first v) in
    record {
      fresh = later ++ own;
      none = no-append later own (no-settled site (2 ^ 80) (view_after site first v)) (no-input site v input);
      is = sym (append_assoc later own (In input ∷ []));
    }
