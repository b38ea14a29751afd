use Rattle.std.proofs.Common.{◌≡◌, ℕ, ◌<◌, false, List, length, sym, subst, ◌∙◌, rules}
use Rattle.std.proofs.lemmas.Result.{err_from_is_err_and}
use Rattle.cs_node.specs.declared.node_core.Core.{Core}
use Rattle.cs_node_rules.specs.World.{view_of}
use Rattle.cs_base.specs.declared.node_id.NodeId.{NodeId}
use Rattle.cs_replay_rules.specs.Play.{Course, with_arrived}
use Rattle.cs_replay_play.specs.Standing.{site_in, EachStands}
use Rattle.cs_replay_play.specs.Ends.{ReplayEnds}
use Rattle.cs_replay_play.proofs.Courses.{delivers-grows}
use Rattle.cs_replay_play.proofs.Taken.{no-node, a-node}
use Rattle.cs_replay_play.proofs.Deliveries.{arrived-standing, not-given, given}
use Rattle.cs_replay_play.proofs.play.Replay.deliver.Goals as goal

pub returns-in_err-bytes-clause-ends : goal.returns-in_err-bytes-clause-ends
returns-in_err-bytes-clause-ends g c = λ s p st any.
    let (rest, grown) = delivers-grows (site_in g.O.Order.rules g.O.Carried.carrier s) s.traced c.args.line c.args.number _ p in
    let e = err_from_is_err_and c.from_residual.result c.from_residual.ensures.1 in
    rw (e.1, e.2) (p.text, rest, grown, st.printed)

pub returns-in-None-clause-ends : goal.returns-in-None-clause-ends
returns-in-None-clause-ends g c = λ s p st any.
    let r = c.args.self.now in
    let site = site_in g.O.Order.rules g.O.Carried.carrier s in
    let parcel = c.in-Some.parcel.now in
    let each = subst (λ (cores : List (Core g.row.O.Denot g.row.J.Denot g.row.O-Message.Denot)). EachStands g.O.Order.stands g.J.Judge.is_approved site cores (λ i. view_of site p.world (s.names i))) (sym c.as_slice.ensures.value) st.holds.all.each in
    let none = subst (λ (cores : List (Core g.row.O.Denot g.row.J.Denot g.row.O-Message.Denot)). (i : ℕ) → i < length cores → (view_of site p.world (s.names i)).me ≡ c.to-to.result → ⊥) c.as_slice.ensures.value (c.in-None.ensures.none site (λ i. view_of site p.world (s.names i)) each) in
    let other = no-node g.O.Order.stands g.J.Judge.is_approved g.O.Order.rules g.O.Carried.carrier s r p c.to-to.result st.holds none in (
      with_arrived c.args.number parcel p,
      not-given g.O.Order.stands g.J.Judge.is_approved g.O.Order.rules g.O.Carried.carrier s r _ p c.args.line c.args.number parcel c.arrive.new.self st c.in-Some.ensures c.arrive.ensures (subst (λ (n : NodeId). s.net.is_honest n ≡ false) c.to-to.ensures other),
      arrived-standing g.O.Order.stands g.J.Judge.is_approved g.O.Order.rules g.O.Carried.carrier s r _ p c.args.line c.args.number parcel c.arrive.new.self st c.in-Some.ensures c.arrive.ensures,
    )

pub returns-clause-ends : goal.returns-clause-ends
returns-clause-ends g c = λ s p st any.
    let r = c.args.self.now in
    let site = site_in g.O.Order.rules g.O.Carried.carrier s in
    let parcel = c.in-Some.parcel.now in
    let each = subst (λ (cores : List (Core g.row.O.Denot g.row.J.Denot g.row.O-Message.Denot)). EachStands g.O.Order.stands g.J.Judge.is_approved site cores (λ i. view_of site p.world (s.names i))) (sym c.as_slice.ensures.value) st.holds.all.each in
    let within = subst (λ (cores : List (Core g.row.O.Denot g.row.J.Denot g.row.O-Message.Denot)). c.in-Some-place_of.field-0 < length cores) c.as_slice.ensures.value c.in-Some-place_of.ensures.within in
    let has = a-node g.O.Order.stands g.J.Judge.is_approved g.O.Order.rules g.O.Carried.carrier s r p c.to-to.result c.in-Some-place_of.field-0 st.holds within (c.in-Some-place_of.ensures.named site (λ i. view_of site p.world (s.names i)) each) in
    let copied : c.in_ok-bytes.bytes.items ≡ c.bytes.result.now = search rules in
    let standing = arrived-standing g.O.Order.stands g.J.Judge.is_approved g.O.Order.rules g.O.Carried.carrier s r _ p c.args.line c.args.number parcel c.arrive.new.self st c.in-Some.ensures c.arrive.ensures in
    subst (λ (course : Course g.row.O-Message.Denot). ReplayEnds g.O.Order.stands g.J.Judge.is_approved g.O.Order.rules g.O.Carried.carrier s course c.occur.new.self (g.K.Sink.written c.occur.new.output) c.occur.result)
    (sym (given g.O.Order.stands g.J.Judge.is_approved g.O.Order.rules g.O.Carried.carrier s r _ p c.args.line c.args.number parcel c.arrive.new.self st c.in-Some.ensures c.arrive.ensures c.to-to.result c.deref.result.now c.to-to.ensures (c.deref.ensures.value ∙ copied ∙ c.bytes.ensures) ((st.holds.rests.honest c.to-to.result).1 has)))
    (c.occur.ensures.ends s (with_arrived c.args.number parcel p) standing has)
