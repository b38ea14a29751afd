use Rattle.std.proofs.Common.{◌≡◌, ℕ, ◌<◌, true, false, List, Some, None, cond, length, slice_get, sym, ap, subst, ◌∙◌}
use Rattle.cs_node.specs.declared.node_core.Core.{Core}
use Rattle.cs_node_rules.specs.World.{view_of}
use Rattle.cs_replay_play.specs.Logged.{logged_of}
use Rattle.cs_replay_play.specs.Standing.{site_in, EachStands}
use Rattle.cs_replay_play.proofs.Places.{copied-at}
use Rattle.cs_replay_play.proofs.Taken.{no-node, a-node}
use Rattle.cs_replay_play.proofs.Views.{view-me, some-at}
use Rattle.cs_replay_play.proofs.play.Replay.node_log.Goals as goal

pub returns-in-Some : goal.returns-in-Some
returns-in-Some g c = λ s p st.
    let r = c.args.self.now in
    let site = site_in g.O.Order.rules g.O.Carried.carrier s in
    let place = c.in-Some.place in
    let each = subst (λ (cores : List (Core g.row.O.Denot g.row.J.Denot g.row.O-Message.Denot)). EachStands g.O.Order.stands g.J.Judge.is_approved site cores (λ i. view_of site p.world (s.names i))) (sym c.as_slice.ensures.value) st.all.each in
    let within : place < length r.cores.items = subst (λ (cores : List (Core g.row.O.Denot g.row.J.Denot g.row.O-Message.Denot)). place < length cores) c.as_slice.ensures.value c.in-Some.ensures.within in
    let named : (view_of site p.world (s.names place)).me ≡ c.args.name = c.in-Some.ensures.named site (λ i. view_of site p.world (s.names i)) each in
    let has = a-node g.O.Order.stands g.J.Judge.is_approved g.O.Order.rules g.O.Carried.carrier s r p c.args.name place st within named in
    let name : s.names place ≡ c.args.name = sym (view-me site p.world (s.names place)) ∙ named in
    let honest : s.net.is_honest c.args.name ≡ true = (st.rests.honest c.args.name).1 has in
    let kept = some-at r.logs.items place (subst (λ n. place < n) (st.count ∙ sym st.logs.count) within) in
    let log = (st.logs.each place kept.0 kept.1).is in
    copied-at c.get.result c.deref.result.now place kept.0 c.get.ensures.lookup.0 c.get.ensures.lookup.1 (ap (λ logs. slice_get logs place) c.deref.ensures.value ∙ kept.1)
    ∙ ap Some (log ∙ ap (λ n. logged_of (view_of site p.world n).bench.log) name)
    ∙ sym (ap (λ b. cond b (Some (logged_of (view_of site p.world c.args.name).bench.log)) None) honest)

pub returns-in-None : goal.returns-in-None
returns-in-None g c = λ s p st.
    let r = c.args.self.now in
    let site = site_in g.O.Order.rules g.O.Carried.carrier s in
    let each = subst (λ (cores : List (Core g.row.O.Denot g.row.J.Denot g.row.O-Message.Denot)). EachStands g.O.Order.stands g.J.Judge.is_approved site cores (λ i. view_of site p.world (s.names i))) (sym c.as_slice.ensures.value) st.all.each in
    let none = subst (λ (cores : List (Core g.row.O.Denot g.row.J.Denot g.row.O-Message.Denot)). (i : ℕ) → i < length cores → (view_of site p.world (s.names i)).me ≡ c.args.name → ⊥) c.as_slice.ensures.value (c.in-None.ensures.none site (λ i. view_of site p.world (s.names i)) each) in
    let other : s.net.is_honest c.args.name ≡ false = no-node g.O.Order.stands g.J.Judge.is_approved g.O.Order.rules g.O.Carried.carrier s r p c.args.name st none in
    sym (ap (λ b. cond b (Some (logged_of (view_of site p.world c.args.name).bench.log)) None) other)
