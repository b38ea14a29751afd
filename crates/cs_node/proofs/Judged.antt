-- A judge is as he was, but for what is kept of his verdicts.
use Rattle.std.proofs.Common.{◌≡◌, Bool, List, Option, Result, sym, subst}
use Rattle.cs_tx_types.specs.declared.transaction.Tx.{Tx}
use Rattle.cs_order.specs.Deeds.{Member, Machine}
use Rattle.cs_node_state.specs.Setup.{Setup}
use Rattle.cs_node_rules.specs.Site.{Carriers, Mark, Site, View}
use Rattle.cs_node.specs.declared.engine.Engine.{Engine}
use Rattle.cs_node.specs.Drafts.{Draft}
use Rattle.cs_node.specs.Steps.{TurnDone}
use Rattle.cs_node.specs.Cores.{KeepsView, LeadsBy, TurnsBy}

module _ {O J M : Type 0} (stands : O → Member M → Type 0) (approves : J → Tx → Bool) where
  abbrev pub judged_by : Engine O J M → J → Engine O J M
  judged_by engine judge = record { order = engine.order; judge = judge; sbac = engine.sbac }

  -- the view that it kept
  pub keeps-judged : (setup : Setup) (engine : Engine O J M) (judge : J) (v : View M) → judge ≡ engine.judge → KeepsView stands approves setup engine v → KeepsView stands approves setup (judged_by engine judge) v
  keeps-judged setup engine judge v same keeps =
      let P : J → Type 0 = λ j. KeepsView stands approves setup (judged_by engine j) v in
      subst P (sym same) keeps

  -- where a turn led
  pub done-judged : (site : Site M) (found : Option (List (Mark M))) (v : View M) (went : Bool) (made made' : Draft) (setup : Setup) (engine : Engine O J M) (judge : J) → judge ≡ engine.judge
      → TurnDone site found v went made made' (KeepsView stands approves setup engine) → TurnDone site found v went made made' (KeepsView stands approves setup (judged_by engine judge))
  done-judged site found v went made made' setup engine judge same done =
      let P : J → Type 0 = λ j. TurnDone site found v went made made' (KeepsView stands approves setup (judged_by engine j)) in
      subst P (sym same) done

  module _ (rules : Machine M) (carrier : Carriers M) where
    -- where a call led
    pub led-judged : {A E : Type 0} (engine engine' : Engine O J M) (judge : J) (draft draft' : Draft) (result : Result A E) (marks : Site M → View M → List (Mark M)) → judge ≡ engine'.judge
        → LeadsBy stands approves rules carrier engine engine' draft draft' result marks → LeadsBy stands approves rules carrier engine (judged_by engine' judge) draft draft' result marks
    led-judged {A} {E} engine engine' judge draft draft' result marks same led =
        let P : J → Type 0 = λ j. LeadsBy stands approves rules carrier engine (judged_by engine' j) draft draft' result marks in
        subst P (sym same) led

    -- where a turn leads that begins with him
    pub turns-judged : {E : Type 0} (engine engine' : Engine O J M) (judge : J) (draft draft' : Draft) (result : Result Bool E) (marks : Site M → View M → Option (List (Mark M))) → judge ≡ engine.judge
        → TurnsBy stands approves rules carrier (judged_by engine judge) engine' draft draft' result marks → TurnsBy stands approves rules carrier engine engine' draft draft' result marks
    turns-judged {E} engine engine' judge draft draft' result marks same turns =
        let P : J → Type 0 = λ j. TurnsBy stands approves rules carrier (judged_by engine j) engine' draft draft' result marks in
        subst P same turns
