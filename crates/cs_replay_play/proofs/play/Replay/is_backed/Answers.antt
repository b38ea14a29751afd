use Rattle.std.proofs.Common.{◌≡◌, ℕ, ◌<◌, List, length, sym, ap, subst, ◌∙◌}
use Rattle.cs_node.specs.declared.node_core.Core.{Core}
use Rattle.cs_node_rules.specs.World.{view_of, was_sent}
use Rattle.cs_replay_play.specs.Standing.{site_in, EachStands}
use Rattle.cs_replay_play.proofs.Taken.{no-node, a-node}
use Rattle.cs_replay_play.proofs.Forgeries.{others-backed, honest-backed}
use Rattle.cs_replay_play.proofs.play.Replay.is_backed.Goals as goal

pub returns-in-Some : goal.returns-in-Some
returns-in-Some g c = λ s p st.
    let r = c.args.self.now in
    let site = site_in g.O.Order.rules g.O.Carried.carrier s in
    let each = subst (λ (cores : List (Core g.row.O.Denot g.row.J.Denot g.row.O-Message.Denot)). EachStands g.O.Order.stands g.J.Judge.is_approved site cores (λ i. view_of site p.world (s.names i))) (sym c.as_slice.ensures.value) st.all.each in
    let within = subst (λ (cores : List (Core g.row.O.Denot g.row.J.Denot g.row.O-Message.Denot)). c.in-Some.field-0 < length cores) c.as_slice.ensures.value c.in-Some.ensures.within in
    let has = a-node g.O.Order.stands g.J.Judge.is_approved g.O.Order.rules g.O.Carried.carrier s r p c.args.from c.in-Some.field-0 st within (c.in-Some.ensures.named site (λ i. view_of site p.world (s.names i)) each) in
    c.was_sent.ensures
    ∙ ap (λ parcels. was_sent c.args.from c.args.to c.args.bytes.now parcels) st.parcels
    ∙ honest-backed s.net c.args.to c.args.bytes.now p.parcels c.args.from ((st.rests.honest c.args.from).1 has)

pub returns-in-None : goal.returns-in-None
returns-in-None g c = λ s p st.
    let r = c.args.self.now in
    let site = site_in g.O.Order.rules g.O.Carried.carrier s in
    let each = subst (λ (cores : List (Core g.row.O.Denot g.row.J.Denot g.row.O-Message.Denot)). EachStands g.O.Order.stands g.J.Judge.is_approved site cores (λ i. view_of site p.world (s.names i))) (sym c.as_slice.ensures.value) st.all.each in
    let none = subst (λ (cores : List (Core g.row.O.Denot g.row.J.Denot g.row.O-Message.Denot)). (i : ℕ) → i < length cores → (view_of site p.world (s.names i)).me ≡ c.args.from → ⊥) c.as_slice.ensures.value (c.in-None.ensures.none site (λ i. view_of site p.world (s.names i)) each) in
    others-backed s.net c.args.to c.args.bytes.now p.parcels c.args.from (no-node g.O.Order.stands g.J.Judge.is_approved g.O.Order.rules g.O.Carried.carrier s r p c.args.from st none)
