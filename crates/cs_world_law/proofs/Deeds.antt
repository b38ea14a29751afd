-- What the order of a node has done, by the marks of the node.
use Rattle.std.proofs.Common.{◌≡◌, List, [], ◌∷◌, refl, ap}
use Rattle.cs_base.specs.declared.node_id.NodeId.{NodeId}
use Rattle.cs_order.specs.Deeds.{Deed, Member, did}
use Rattle.cs_node_rules.specs.Site.{Mark, In, Ordered, Plain, Site}
use Rattle.cs_node_law.specs.Made.{view_at}

abbrev pub deeds_in : {M : Type 0} → List (Mark M) → List (Deed M)
deeds_in {M} [] = []
deeds_in {M} (In input ∷ t) = deeds_in t
deeds_in {M} (Ordered deed ∷ t) = deed ∷ deeds_in t
deeds_in {M} (Plain sign ∷ t) = deeds_in t

-- the member of the order by its deeds
pub member-is : {M : Type 0} (site : Site M) (me : NodeId) (t : List (Mark M)) → (view_at site me t).member ≡ record { f = site.setup.f; me = me.index; deeds = deeds_in t }
member-is {M} site me [] = refl
member-is {M} site me (In input ∷ t) = member-is site me t
member-is {M} site me (Ordered deed ∷ t) = ap (λ (h : Member M). did deed h) (member-is site me t)
member-is {M} site me (Plain sign ∷ t) = member-is site me t
