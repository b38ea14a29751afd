-- What a core did in a turn, at the view for which it stood.
use Rattle.std.proofs.Common.{◌≡◌, ℕ, ◌+◌, ◌-◌, ◌%◌, ◌==◌, Bool, true, false, List, [], ◌∷◌, ◌++◌, length, Option, Some, None, refl, ap, sym, subst, ◌∙◌, arith}
use Rattle.std.proofs.lemmas.Bool.{cond_both}
use Rattle.std.proofs.lemmas.List.{length-append}
use Rattle.cs_tx_value.specs.declared.object.Object.{Object}
use Rattle.cs_tx_types.specs.declared.transaction.Tx.{Tx}
use Rattle.cs_check_rules.specs.Chain.{Log, kept_slots}
use Rattle.cs_order.specs.declared.proposed.Proposed.{Proposed}
use Rattle.cs_order.specs.declared.answers.Outgoing.{Outgoing}
use Rattle.cs_order.specs.declared.answers.Step.{Step}
use Rattle.cs_order.specs.declared.answers.Step.TheVariants.{Chosen, Moved}
use Rattle.cs_order.specs.Deeds.{Deed, Advanced, Echoed, Proposing, Cut, Member, Machine, did, chosen_in}
use Rattle.cs_order.specs.Calls.{Advances, Echoes, Proposes, advanced, sent_at}
use Rattle.cs_node_state.specs.Setup.{Setup}
use Rattle.cs_node_rules.specs.Net.{Net}
use Rattle.cs_node_rules.specs.Signs.{Sign, execution_signs}
use Rattle.cs_node_rules.specs.Site.{Carriers, Mark, Site, View}
use Rattle.cs_node_rules.specs.Trail.{handed, with_deed, entered_view, proposing, echo_marks, turn_marks}
use Rattle.cs_node_rules.specs.Deployment.{site_of}
use Rattle.cs_node_pool.specs.Deployed.{deployed_setup}
use Rattle.cs_sbac.specs.Held.{Held, bench_of}
use Rattle.cs_node.specs.declared.engine.Engine.{Engine}
use Rattle.cs_node.specs.Drafts.{Draft}
use Rattle.cs_node.specs.Notes.{TellsSigns}
use Rattle.cs_node.specs.Proposals.{admits_pending}
use Rattle.cs_node_rules.specs.Deployment.{entry_in}
use Rattle.cs_node.specs.Signing.{Leaves}
use Rattle.cs_node.specs.Steps.{TurnDone, log_cut_at}
use Rattle.cs_node.specs.Cores.{IsSeated, KeepsView, core_view}
use Rattle.cs_node.proofs.Sums.{turn-some}
use Rattle.cs_node.proofs.Turns.{deed-done, proposed-done, turn-none, moved-done, chosen-done}
use Rattle.cs_node.proofs.Candidates.{echo-some}
use Rattle.cs_node.proofs.Standing.{keeps-on, keeps-still}

-- what a call hands out where nothing was handed out before
pub from-nothing : {A : Type 0} (old new outs : List A) → old ≡ [] → new ≡ old ++ outs → new ≡ outs
from-nothing {A} old new outs none is = is ∙ ap (λ xs. xs ++ outs) none

module _ {O J M : Type 0} (stands : O → Member M → Type 0) (approves : J → Tx → Bool) (rules : Machine M) (carried : Carriers M) (net : Net) (core : Engine O J M) (genesis : List Object) (log : Log) (h : Member M) (made made' : Draft) (seated : IsSeated stands core log h) where
  abbrev setup : Setup
  setup = deployed_setup core.sbac.config genesis (approves core.judge)

  abbrev site : Site M
  site = site_of setup net rules carried

  abbrev v : View M
  v = core_view log core.sbac h

  abbrev with_order : O → Engine O J M
  with_order order = record { order = order; judge = core.judge; sbac = core.sbac }

  abbrev After : Engine O J M → View M → Type 0
  After next = KeepsView stands approves setup next

  -- what was handed out is said
  abbrev Says : List (Outgoing M) → Type 0
  Says outs = TellsSigns (handed site core.sbac.me outs) made made'

  pub nothing-here : (found : Option (List (Mark M))) → found ≡ None → TurnDone site found v false made made (After core)
  nothing-here found none = turn-none site v made (After core) found none (keeps-still stands approves genesis core log h seated)

  module _ (order : O) (empty outs : List (Outgoing M)) (none : empty ≡ []) (says : Says outs) where
    after-deed : (deed : Deed M) → stands order (did deed h) → After (with_order order) (core_view log core.sbac (did deed h))
    after-deed deed is = keeps-on stands approves genesis core log h order core.sbac log (did deed h) seated is refl refl refl refl seated.kept_is

    pub proposed-here : (found : Option (List (Mark M))) (proposed : Proposed) → found ≡ Some (proposing site v proposed) → Proposes rules h proposed empty outs (stands order)
        → TurnDone site found v true made made' (After (with_order order))
    proposed-here found proposed e called =
        proposed-done site v made made' (After (with_order order)) found proposed e (subst Says (from-nothing empty outs (rules.proposing h proposed) none called.0) says)
        (after-deed (Proposing proposed (rules.proposing h proposed)) called.1)

    pub echoed-here : (o : Option Proposed) → admits_pending setup core.sbac.me.shard core.sbac.pool o ≡ true → Echoes rules h empty outs (stands order)
        → TurnDone site (echo_marks site v o) v true made made' (After (with_order order))
    echoed-here o admitted called =
        let deed : Deed M = Echoed (rules.echoing h) in
        turn-some site (echo_marks site v o) (with_deed site v deed) v true made made' (After (with_order order)) (echo-some setup net rules carried v o deed refl admitted) refl
        (deed-done site v made made' (After (with_order order)) deed (subst Says (from-nothing empty outs (rules.echoing h) none called.0) says) (after-deed deed called.1))

  -- the order moved, and may have entered a view
  pub moved-here : (order : O) (empty outs : List (Outgoing M)) (slot before : ℕ) → empty ≡ [] → slot ≡ length (chosen_in h.deeds) → before ≡ rules.view h → Advances rules h Moved empty outs (stands order)
      → ((h' : Member M) → stands order h' → TellsSigns (handed site core.sbac.me outs ++ entered_view slot before (rules.view h')) made made') → TurnDone site (turn_marks site v) v true made made' (After (with_order order))
  moved-here order empty outs slot before none at seen called says =
      let deed : Deed M = Advanced Moved (rules.advancing h) in
      let C : Step → Type 0 = λ s. (outs ≡ empty ++ sent_at s (rules.advancing h)) × stands order (advanced s (rules.advancing h) h) in
      let now : (outs ≡ empty ++ rules.advancing h) × stands order (did deed h) = subst C (sym called.0) (called.1, called.2) in
      let sent : outs ≡ rules.advancing h = from-nothing empty outs (rules.advancing h) none now.0 in
      moved-done site v made made' (After (with_order order)) (sym called.0)
      (subst (λ (signs : List Sign). TellsSigns signs made made') (λ i. handed site core.sbac.me (sent i) ++ entered_view (at i) (seen i) (rules.view (did deed h))) (says (did deed h) now.1))
      (keeps-on stands approves genesis core log h order core.sbac log (did deed h) seated now.1 refl refl refl refl seated.kept_is)

  cut-f : (n : ℕ) (h' : Member M) → (log_cut_at n h').f ≡ h'.f
  cut-f n h' = cond_both (n % 16 == 0) (did (Cut (n - kept_slots)) h') h' (λ (k : Member M). k.f ≡ h'.f) (λ e. refl) (λ e. refl)

  cut-me : (n : ℕ) (h' : Member M) → (log_cut_at n h').me ≡ h'.me
  cut-me n h' = cond_both (n % 16 == 0) (did (Cut (n - kept_slots)) h') h' (λ (k : Member M). k.me ≡ h'.me) (λ e. refl) (λ e. refl)

  -- the order chose, what it chose was executed, and it was cut
  pub chosen-here : (order cut : O) (empty outs : List (Outgoing M)) (held : Held) (made'' : Draft) (proposed : Proposed) (slot : ℕ) → empty ≡ [] → Says outs → slot ≡ length (chosen_in h.deeds) → Advances rules h (Chosen proposed) empty outs (stands order)
      → ((h' : Member M) → stands order h' → stands cut (log_cut_at (length (chosen_in h'.deeds)) h'))
      → Leaves setup core.sbac (execution_signs setup core.sbac.me (bench_of log core.sbac) slot (entry_in setup.version proposed)) (bench_of log core.sbac) held made' made''
      → TurnDone site (turn_marks site v) v true made made'' (After (record { order = cut; judge = core.judge; sbac = held }))
  chosen-here order cut empty outs held made'' proposed slot none says at called cuts leaves =
      let deed : Deed M = Advanced (Chosen proposed) (rules.advancing h) in
      let C : Step → Type 0 = λ s. (outs ≡ empty ++ sent_at s (rules.advancing h)) × stands order (advanced s (rules.advancing h) h) in
      let now : (outs ≡ empty ++ rules.advancing h) × stands order (did deed h) = subst C (sym called.0) (called.1, called.2) in
      let more : length (chosen_in h.deeds ++ proposed ∷ []) ≡ slot + 1 = omega (arith, at, length-append (chosen_in h.deeds) (proposed ∷ [])) in
      let N : ℕ → Type 0 = λ n. stands cut (log_cut_at n (did deed h)) in
      let stood : stands cut (log_cut_at (slot + 1) (did deed h)) = subst N more (cuts (did deed h) now.1) in
      chosen-done site v made made' made'' (After (record { order = cut; judge = core.judge; sbac = held })) proposed slot (bench_of leaves.log held) (sym called.0) at
      (subst Says (from-nothing empty outs (rules.advancing h) none now.0) says) leaves.makes
      (keeps-on stands approves genesis core log h cut held leaves.log (log_cut_at (slot + 1) (did deed h)) seated stood (cut-f (slot + 1) (did deed h)) (cut-me (slot + 1) (did deed h)) leaves.config_is leaves.me_is leaves.kept_is)
