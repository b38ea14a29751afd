-- An input that is dropped leaves no other trace.
use Rattle.std.proofs.Common.{◌≡◌, ◌^◌, List, [], ◌∷◌, ◌++◌, ap, subst, ◌∙◌}
use Rattle.cs_node_rules.specs.declared.cause.Cause.{Cause}
use Rattle.cs_node_rules.specs.Site.{Input, Mark, In, Site, View, view_after, signs_of}
use Rattle.cs_node_rules.specs.Trail.{settled, drops, input_marks, event_marks}
use Rattle.cs_node_rules.specs.Ready.{IsQuiet}
use Rattle.cs_node.specs.declared.outs.Made.{Made}
use Rattle.cs_node.specs.Notes.{notes_of, outs_of}
use Rattle.cs_node.specs.Steps.{Event, IsDropped}
use Rattle.cs_node.proofs.Settling.{settled-end}

module _ {M : Type 0} (site : Site M) (v : View M) (input : Input) (cause : Cause) where
  abbrev Left : List (Mark M)
  Left = drops cause ++ In input ∷ []

  dropped-marks : IsQuiet site v → input_marks site v input ≡ drops cause → event_marks site v input ≡ Left
  unfolding event_marks
  dropped-marks quiet drop =
      let all : List (Mark M) → List (Mark M) = λ first. settled site (2 ^ 80) (view_after site first v) ++ first in
      ap (λ (marks : List (Mark M)). all (marks ++ In input ∷ [])) drop
      ∙ ap (λ (later : List (Mark M)). later ++ Left) (settled-end site (2 ^ 80) v quiet)

  pub event-dropped : (made : Made) (After : View M → Type 0) → IsQuiet site v → input_marks site v input ≡ drops cause → Event site v input made After → IsDropped site v input cause made After
  event-dropped made After quiet drop event =
      let is : event_marks site v input ≡ Left = dropped-marks quiet drop in
      let P : List (Mark M) → Type 0 = λ marks. After (view_after site marks v) in
      record {
        marks = is;
        notes = event.notes ∙ ap (λ (marks : List (Mark M)). notes_of (signs_of marks)) is;
        outs = event.outs ∙ ap (λ (marks : List (Mark M)). outs_of site.net v.me (signs_of marks)) is;
        after = subst P is event.after;
      }
