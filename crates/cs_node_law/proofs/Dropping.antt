-- Where no rule applies, a datagram that is dropped leaves its mark alone.
use Rattle.std.proofs.Common.{◌≡◌, ℕ, zero, suc, ◌^◌, List, [], ◌∷◌, ◌++◌, Option, refl, ap, ◌∙◌}
use Rattle.cs_ledger.specs.Ledger.{Bytes}
use Rattle.cs_node_rules.specs.declared.cause.Cause.{Cause}
use Rattle.cs_node_rules.specs.Signs.{Dropped}
use Rattle.cs_node_rules.specs.Site.{Datagram, Mark, In, Plain, Site, View, view_after}
use Rattle.cs_node_rules.specs.Trail.{continued, opened_marks, settled, event_marks}
use Rattle.cs_node_rules.specs.Ready.{IsQuiet}
use Rattle.cs_node_law.specs.Made.{DropChangesNothing}

none-settled : {M : Type 0} (site : Site M) (turns : ℕ) (v : View M) → IsQuiet site v → settled site turns v ≡ []
unfolding settled
none-settled {M} site zero v quiet = refl
none-settled {M} site (suc turns) v quiet = ap (λ (o : Option (List (Mark M))). continued site (settled site turns) v o) quiet

module _ {M : Type 0} (site : Site M) (v : View M) (bytes : Bytes) (cause : Cause) where
  abbrev Left : List (Mark M)
  Left = Plain (Dropped cause) ∷ In (Datagram bytes) ∷ []

  dropped-marks : IsQuiet site v → opened_marks site v (site.net.opened v.me bytes) ≡ Plain (Dropped cause) ∷ [] → event_marks site v (Datagram bytes) ≡ Left
  unfolding event_marks
  dropped-marks quiet drops =
      let P : List (Mark M) → List (Mark M) = λ first. settled site (2 ^ 80) (view_after site first v) ++ first in
      ap (λ (marks : List (Mark M)). P (marks ++ In (Datagram bytes) ∷ [])) drops
      ∙ ap (λ (later : List (Mark M)). later ++ Left) (none-settled site (2 ^ 80) v quiet)

pub drop-changes-nothing : {M : Type 0} (site : Site M) → DropChangesNothing site
drop-changes-nothing {M} site v bytes cause quiet drops =
    let is = dropped-marks site v bytes cause quiet drops in
    (is, ap (λ (t : List (Mark M)). view_after site t v) is)
