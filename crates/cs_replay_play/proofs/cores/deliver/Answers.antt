use Rattle.std.proofs.Common.{ℕ, ◌≡◌, ◌<◌, List, length, ◌∙◌, ap, sym, subst, arith}
use Rattle.std.specs.List.{insert}
use Rattle.cs_node.specs.declared.node_core.Core.{Core}
use Rattle.cs_node.specs.Speaking.{input_of}
use Rattle.cs_node_rules.specs.World.{view_of}
use Rattle.cs_node_rules.specs.Deployment.{site_of}
use Rattle.cs_replay_play.specs.Standing.{EachStands}
use Rattle.cs_replay_play.proofs.Views.{get-read, put-back, stepped, named, view-me}
use Rattle.cs_replay_play.proofs.cores.deliver.Goals as goal

pub remove-core-requires : goal.remove-core-requires
remove-core-requires g c =
    let within : c.in-Some.place < length c.args.cores.now.items = subst (λ (cores : List (Core g.row.O.Denot g.row.J.Denot g.row.O-Message.Denot)). c.in-Some.place < length cores) c.deref.ensures.value c.in-Some.ensures.within in
    omega (arith, c.args.cores.now.ok.0)

pub returns-in_ok-insert-in-Some-clause-delivered : goal.returns-in_ok-insert-in-Some-clause-delivered
returns-in_ok-insert-in-Some-clause-delivered g c = λ setup net names world all has.
    let site = site_of setup net g.O.Order.rules g.O.Carried.carrier in
    let cores = c.args.cores.now.items in
    let within : c.in-Some.place < length cores = subst (λ (cores : List (Core g.row.O.Denot g.row.J.Denot g.row.O-Message.Denot)). c.in-Some.place < length cores) c.deref.ensures.value c.in-Some.ensures.within in
    let each = subst (λ (cores : List (Core g.row.O.Denot g.row.J.Denot g.row.O-Message.Denot)). EachStands g.O.Order.stands g.J.Judge.is_approved site cores (λ i. view_of site world (names i))) (sym c.deref.ensures.value) all.each in
    stepped g.O.Order.stands g.J.Judge.is_approved site names world cores c.insert.new.self.items c.in-Some.place c.remove-core.result c.in_ok-core-in-Some.core c.args.to (input_of c.args.input) c.in_ok-core-in-Some.made all
    (get-read cores c.in-Some.place c.remove-core.result within c.remove-core.ensures.value)
    (sym (view-me site world (names c.in-Some.place)) ∙ c.in-Some.ensures.named site (λ i. view_of site world (names i)) each)
    (c.in_ok-insert-in-Some.ensures.items ∙ ap (λ rest. insert rest c.in-Some.place c.in_ok-core-in-Some.core) c.remove-core.ensures.items ∙ put-back cores c.in-Some.place c.in_ok-core-in-Some.core within)
    (λ v is. c.in_ok-core-in-Some.ensures.event setup net v is)

pub returns-in-None-clause-delivered : goal.returns-in-None-clause-delivered
returns-in-None-clause-delivered g c = λ setup net names world all has.
    let site = site_of setup net g.O.Order.rules g.O.Carried.carrier in
    let each = subst (λ (cores : List (Core g.row.O.Denot g.row.J.Denot g.row.O-Message.Denot)). EachStands g.O.Order.stands g.J.Judge.is_approved site cores (λ i. view_of site world (names i))) (sym c.deref.ensures.value) all.each in
    let none = subst (λ (cores : List (Core g.row.O.Denot g.row.J.Denot g.row.O-Message.Denot)). (i : ℕ) → i < length cores → (view_of site world (names i)).me ≡ c.args.to → ⊥) c.deref.ensures.value (c.in-None.ensures.none site (λ i. view_of site world (names i)) each) in
    absurd (named site world names (length c.args.cores.now.items) c.args.to has none)
