-- Before its first input no rule applies at a node.
use Rattle.std.proofs.Common.{◌≡◌, ℕ, List, [], ◌∷◌, Option, Some, None, inl, refl, sym, ap, subst}
use Rattle.cs_base.specs.declared.node_id.NodeId.{NodeId}
use Rattle.cs_base.specs.declared.version.Version.{Version}
use Rattle.cs_base.specs.declared.version.Version.TheVariants.{One, Two}
use Rattle.cs_tx_types.specs.declared.action.Action.{Action}
use Rattle.cs_order.specs.declared.proposed.Proposed.{Proposed}
use Rattle.cs_order.specs.declared.answers.Step.{Step}
use Rattle.cs_order.specs.declared.answers.May.{May}
use Rattle.cs_order.specs.declared.answers.May.TheVariants.{No, Free, Only}
use Rattle.cs_order.specs.Deeds.{Member}
use Rattle.cs_order.specs.Law.{ComesToRest, Holds}
use Rattle.cs_node_state.specs.Admission.{batched, some_entry}
use Rattle.cs_node_rules.specs.Site.{Site, View, start_view}
use Rattle.cs_node_rules.specs.Trail.{due_marks, propose_marks, echo_marks, step_marks}
use Rattle.cs_node_rules.specs.Ready.{IsQuiet}

nothing-batched : (version : Version) → batched version [] ≡ []
nothing-batched One = refl
nothing-batched Two = refl

module _ {M : Type 0} (site : Site M) (me : NodeId) (holds : Holds site.machine) where
  abbrev v : View M
  v = start_view site me

  -- nothing is due of an empty pool, and no candidate was handed in
  none-proposed : (may : May) → site.machine.may_propose v.member ≡ may → propose_marks site v may ≡ None
  none-proposed No is = refl
  none-proposed Free is = ap (λ (actions : List Action). due_marks site v (some_entry actions)) (nothing-batched site.setup.version)
  none-proposed (Only []) is = refl
  none-proposed (Only (proposed ∷ more)) is =
      absurd (holds.offered site.setup.f me.index [] tt (proposed ∷ more) proposed is (inl refl))

  none-echoed : (pending : Option Proposed) → site.machine.pending v.member ≡ pending → echo_marks site v pending ≡ None
  none-echoed None is = none-proposed (site.machine.may_propose v.member) refl
  none-echoed (Some proposed) is = absurd (holds.pending site.setup.f me.index [] tt proposed is)

  pub start-quiet : (left : Member M → ℕ) → ComesToRest site.machine left → IsQuiet site (start_view site me)
  start-quiet left rests =
      let P : Step → Type 0 = λ x. step_marks site v x ≡ None in
      subst P (sym (rests.start site.setup.f me.index)) (none-echoed (site.machine.pending v.member) refl)
