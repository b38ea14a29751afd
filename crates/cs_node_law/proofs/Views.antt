-- A node after its marks: what it is by the marks of each kind.
use Rattle.std.proofs.Common.{◌≡◌, ℕ, List, [], ◌∷◌, ◌++◌, refl, ap}
use Rattle.cs_base.specs.declared.node_id.NodeId.{NodeId}
use Rattle.cs_tx_types.specs.declared.session.Session.{Session}
use Rattle.cs_order.specs.Deeds.{Member}
use Rattle.cs_node_state.specs.Setup.{Setup}
use Rattle.cs_node_state.specs.Bench.{Bench}
use Rattle.cs_node_rules.specs.Signs.{Sign, bench_step, bench_after}
use Rattle.cs_node_rules.specs.Site.{Mark, In, Ordered, Plain, Site, View, mark_step, view_after, plain, signs_of}
use Rattle.cs_node_rules.specs.Collisions.{sessions_in, given}
use Rattle.cs_node_law.specs.Made.{view_at}

-- the sessions that stood in what the node was given
abbrev pub sessions_given : {M : Type 0} → Site M → NodeId → List (Mark M) → List Session
sessions_given {M} site me t = given site sessions_in me t

pub view_after-append : {M : Type 0} (site : Site M) (a b : List (Mark M)) (v : View M) → view_after site (a ++ b) v ≡ view_after site a (view_after site b v)
view_after-append {M} site [] b v = refl
view_after-append {M} site (mark ∷ a) b v = ap (λ w. mark_step site mark w) (view_after-append site a b v)

pub signs_of-append : {M : Type 0} (a b : List (Mark M)) → signs_of (a ++ b) ≡ signs_of a ++ signs_of b
signs_of-append {M} [] b = refl
signs_of-append {M} (In input ∷ a) b = signs_of-append a b
signs_of-append {M} (Ordered deed ∷ a) b = signs_of-append a b
signs_of-append {M} (Plain sign ∷ a) b = ap (λ l. sign ∷ l) (signs_of-append a b)

-- a node stays the node that it is
pub me-same : {M : Type 0} (site : Site M) (me : NodeId) (t : List (Mark M)) → (view_at site me t).me ≡ me
me-same {M} site me [] = refl
me-same {M} site me (In input ∷ t) = me-same site me t
me-same {M} site me (Ordered deed ∷ t) = me-same site me t
me-same {M} site me (Plain sign ∷ t) = me-same site me t

-- the member of the order by its deeds
pub member-is : {M : Type 0} (site : Site M) (me : NodeId) (t : List (Mark M)) → (view_at site me t).member ≡ record { f = site.setup.f; me = me.index; deeds = (view_at site me t).member.deeds }
member-is {M} site me [] = refl
member-is {M} site me (In input ∷ t) = member-is site me t
member-is {M} site me (Ordered deed ∷ t) = ap (λ (h : Member M). record { f = h.f; me = h.me; deeds = deed ∷ (view_at site me t).member.deeds }) (member-is site me t)
member-is {M} site me (Plain sign ∷ t) = member-is site me t

-- what is said changes nothing of the order
pub member-said : {M : Type 0} (site : Site M) (signs : List Sign) (past : List (Mark M)) (v : View M) → (view_after site (plain signs ++ past) v).member ≡ (view_after site past v).member
member-said {M} site [] past v = refl
member-said {M} site (sign ∷ signs) past v = member-said site signs past v

pub bench_after-append : (setup : Setup) (shard : ℕ) (a b : List Sign) (bench : Bench) → bench_after setup shard (a ++ b) bench ≡ bench_after setup shard a (bench_after setup shard b bench)
bench_after-append setup shard [] b bench = refl
bench_after-append setup shard (sign ∷ a) b bench = ap (bench_step setup shard sign) (bench_after-append setup shard a b bench)

-- signs change what the node works on, and nothing else
pub view-said : {M : Type 0} (site : Site M) (signs : List Sign) (past : List (Mark M)) (v : View M) → let u = view_after site past v in
    view_after site (plain signs ++ past) v ≡ record { me = u.me; bench = bench_after site.setup u.me.shard signs u.bench; member = u.member }
view-said {M} site [] past v = refl
view-said {M} site (sign ∷ signs) past v = ap (λ w. mark_step site (Plain sign) w) (view-said site signs past v)
