-- The name of a node stays.
use Rattle.std.proofs.Common.{◌≡◌, List, [], ◌∷◌, refl}
use Rattle.cs_node_rules.specs.Site.{Mark, In, Ordered, Plain, Site, View, view_after}

pub me-after : {M : Type 0} (site : Site M) (marks : List (Mark M)) (v : View M) → (view_after site marks v).me ≡ v.me
me-after {M} site [] v = refl
me-after {M} site (In input ∷ past) v = me-after site past v
me-after {M} site (Ordered deed ∷ past) v = me-after site past v
me-after {M} site (Plain sign ∷ past) v = me-after site past v
