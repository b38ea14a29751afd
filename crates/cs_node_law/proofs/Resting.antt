-- Where what an order has to do comes to an end, the rules of a node do, and none applies after an event.
use Rattle.std.proofs.Common.{◌≡◌, ℕ, zero, suc, ◌+◌, ◌-◌, ◌%◌, ◌<◌, ◌^◌, ◌==◌, Bool, true, false, if◌then◌else◌, List, [], ◌∷◌, ◌++◌, length, Option, Some, None, IsSome, inl, inr, arith, refl, sym, subst, ◌∙◌}
use Rattle.std.proofs.lemmas.Bool.{cond_both}
use Rattle.cs_base.specs.declared.node_id.NodeId.{NodeId}
use Rattle.cs_base.specs.NodeId.{same_name}
use Rattle.cs_tx_types.specs.declared.entry.Entry.{Entry}
use Rattle.cs_order.specs.declared.proposed.Proposed.{Proposed}
use Rattle.cs_order.specs.declared.answers.Step.{Step}
use Rattle.cs_order.specs.declared.answers.Step.TheVariants.{Chosen, Moved, Quiet}
use Rattle.cs_order.specs.declared.answers.May.{May}
use Rattle.cs_order.specs.declared.answers.May.TheVariants.{No, Free, Only}
use Rattle.cs_base.specs.Lists.{IsIn}
use Rattle.cs_order.specs.Deeds.{Advanced, Echoed, Proposing, Cut, Member, did, chosen_in}
use Rattle.cs_order.specs.Calls.{Proposable}
use Rattle.cs_order.specs.Law.{ComesToRest, Holds}
use Rattle.cs_check_rules.specs.Chain.{kept_slots}
use Rattle.cs_node_state.specs.Admission.{due}
use Rattle.cs_node_rules.specs.Signs.{Sign, execution_signs}
use Rattle.cs_node_rules.specs.Site.{Input, Mark, In, Ordered, Site, View, start_view, view_after, plain}
use Rattle.cs_node_rules.specs.Trail.{handed, entered_view, with_deed, admits_proposed, due_marks, candidate_marks, propose_marks, echo_marks, cut_marks, step_marks, turn_marks, continued, settled, input_marks, event_marks}
use Rattle.cs_node_rules.specs.World.{trail_of, view_of}
use Rattle.cs_node_rules.specs.Ready.{IsQuiet}
use Rattle.cs_node_rules.proofs.Starting.{start-quiet}
use Rattle.cs_node_law.specs.Made.{LivesAreQuiet}
use Rattle.cs_node_law.proofs.Views.{view_after-append, member-said}
use Rattle.cs_node_law.proofs.Names.{name-same}

module _ {M : Type 0} (site : Site M) where
  module _ (left : Member M → ℕ) (rests : ComesToRest site.machine left) where
    abbrev Falls : View M → List (Mark M) → Type 0
    Falls v fresh = left (view_after site fresh v).member < left v.member

    abbrev TurnFalls : View M → Option (List (Mark M)) → Type 0
    TurnFalls v None = Unit {0}
    TurnFalls v (Some fresh) = Falls v fresh

    said-falls : (signs : List Sign) (past : List (Mark M)) (v : View M) → Falls v past → Falls v (plain signs ++ past)
    said-falls signs past v less =
        let P : Member M → Type 0 = λ h. left h < left v.member in
        subst P (sym (member-said site signs past v)) less

    -- what is given up raises nothing
    cut-falls : (slot : ℕ) (past : List (Mark M)) (v : View M) → Falls v past → Falls v (cut_marks slot ++ past)
    cut-falls slot past v less =
        cond_both ((slot + 1) % 16 == 0) (Ordered (Cut (slot + 1 - kept_slots)) ∷ []) [] (λ marks. Falls v (marks ++ past))
        (λ e. omega (arith, less, rests.cut (view_after site past v).member (slot + 1 - kept_slots)))
        (λ e. less)

    moves-falls : (v : View M) (x : Step) → site.machine.step v.member ≡ x → (x ≡ Quiet → ⊥) → Falls v (Ordered (Advanced x (site.machine.advancing v.member)) ∷ [])
    moves-falls v x is moves =
        let P : Step → Type 0 = λ y. left (did (Advanced y (site.machine.advancing v.member)) v.member) < left v.member in
        subst P is (rests.advanced v.member (λ quiet. moves (sym is ∙ quiet)))

    proposing-falls : (v : View M) (p : Proposed) → Proposable (site.machine.may_propose v.member) p → Falls v (with_deed site v (Proposing p (site.machine.proposing v.member p)))
    proposing-falls v p may = said-falls (handed site v.me (site.machine.proposing v.member p)) (Ordered (Proposing p (site.machine.proposing v.member p)) ∷ []) v (rests.proposed v.member p may)

    due-falls : (v : View M) (o : Option Entry) → site.machine.may_propose v.member ≡ Free → TurnFalls v (due_marks site v o)
    due-falls v None is = tt
    due-falls v (Some entry) is =
        let P : May → Type 0 = λ may. Proposable may (site.proposed_of entry) in
        proposing-falls v (site.proposed_of entry) (subst P (sym is) tt)

    candidate-falls : (v : View M) (all candidates : List Proposed) → site.machine.may_propose v.member ≡ Only all → ((p : Proposed) → IsIn p candidates → IsIn p all) → TurnFalls v (candidate_marks site v candidates)
    candidate-falls v all [] is within = tt
    candidate-falls v all (p ∷ more) is within =
        let P : May → Type 0 = λ may. Proposable may p in
        cond_both (admits_proposed site v p) _ _ (λ o. TurnFalls v o)
        (λ a. proposing-falls v p (subst P (sym is) (within p (inl refl))))
        (λ a. candidate-falls v all more is (λ q i. within q (inr i)))

    propose-falls : (v : View M) (may : May) → site.machine.may_propose v.member ≡ may → TurnFalls v (propose_marks site v may)
    propose-falls v No is = tt
    propose-falls v Free is = due-falls v (due site.setup v.bench.pool) is
    propose-falls v (Only candidates) is = candidate-falls v candidates candidates is (λ p i. i)

    echo-falls : (v : View M) (o : Option Proposed) → site.machine.pending v.member ≡ o → TurnFalls v (echo_marks site v o)
    echo-falls v None is = propose-falls v (site.machine.may_propose v.member) refl
    echo-falls v (Some p) is =
        let P : Option Proposed → Type 0 = λ o. IsSome o in
        cond_both (admits_proposed site v p) _ _ (λ o. TurnFalls v o)
        (λ a. said-falls (handed site v.me (site.machine.echoing v.member)) (Ordered (Echoed (site.machine.echoing v.member)) ∷ []) v (rests.echoed v.member (subst P (sym is) refl)))
        (λ a. propose-falls v (site.machine.may_propose v.member) refl)

    step-falls : (v : View M) (x : Step) → site.machine.step v.member ≡ x → TurnFalls v (step_marks site v x)
    step-falls v (Chosen p) is =
        let sent = site.machine.advancing v.member in
        let slot = length (chosen_in v.member.deeds) in
        let signs = execution_signs site.setup v.me v.bench slot (site.entry_in p) in
        let first = with_deed site v (Advanced (Chosen p) sent) in
        cut-falls slot (plain signs ++ first) v
        (said-falls signs first v
        (said-falls (handed site v.me sent) (Ordered (Advanced (Chosen p) sent) ∷ []) v (moves-falls v (Chosen p) is (λ q. cc))))
    step-falls v Moved is =
        said-falls (handed site v.me (site.machine.advancing v.member) ++ entered_view _ _ _) (Ordered (Advanced Moved (site.machine.advancing v.member)) ∷ []) v
        (moves-falls v Moved is (λ q. cc))
    step-falls v Quiet is = echo-falls v (site.machine.pending v.member) refl

    -- after more turns than are left no rule applies
    settled-quiet : (turns : ℕ) (v : View M) → left v.member < turns → IsQuiet site (view_after site (settled site turns v) v)
    unfolding settled
    settled-quiet zero v less = absurd (omega (arith, less))
    settled-quiet (suc turns) v less = go (turn_marks site v) refl (step-falls v (site.machine.step v.member) refl) (λ w fewer. settled-quiet turns w fewer)
      where
        go : (o : Option (List (Mark M))) → turn_marks site v ≡ o → TurnFalls v o → ((w : View M) → left w.member < turns → IsQuiet site (view_after site (settled site turns w) w))
            → IsQuiet site (view_after site (continued site (settled site turns) v o) v)
        go None quiet falls later = quiet
        go (Some fresh) is falls later =
            let P : View M → Type 0 = λ w. IsQuiet site w in
            let next : View M = view_after site fresh v in
            subst P (sym (view_after-append site (settled site turns next) fresh v)) (later next (omega (arith, less, falls)))

    pub event-quiet : (v : View M) (input : Input) → IsQuiet site (view_after site (event_marks site v input) v)
    unfolding event_marks
    event-quiet v input =
        let P : View M → Type 0 = λ w. IsQuiet site w in
        let first : List (Mark M) = input_marks site v input ++ In input ∷ [] in
        let next : View M = view_after site first v in
        subst P (sym (view_after-append site (settled site (2 ^ 80) next) first v)) (settled-quiet (2 ^ 80) next (rests.bounded next.member))

    pub lives-quiet : Holds site.machine → LivesAreQuiet site
    lives-quiet holds [] life i = start-quiet site i holds left rests
    lives-quiet holds (h ∷ past) life i = at (same_name h.node i) refl (lives-quiet holds past life.1 i)
      where
        at : (b : Bool) → same_name h.node i ≡ b → IsQuiet site (view_of site past i)
            → IsQuiet site (view_after site (if b then h.marks ++ trail_of i past else trail_of i past) (start_view site i))
        at false other before = before
        at true same before =
            let P : View M → Type 0 = λ w. IsQuiet site w in
            let Q : List (Mark M) → Type 0 = λ marks. P (view_after site marks (view_of site past i)) in
            let R : NodeId → Type 0 = λ n. h.marks ≡ event_marks site (view_of site past n) h.input in
            let made : h.marks ≡ event_marks site (view_of site past i) h.input = subst R (name-same h.node i same) life.0 in
            subst P (sym (view_after-append site h.marks (trail_of i past) (start_view site i))) (subst Q (sym made) (event-quiet (view_of site past i) h.input))
