use Rattle.std.proofs.Common.{List, length, sym, subst, ◌∙◌}
use Rattle.cs_node.specs.declared.node_core.Core.{Core}
use Rattle.cs_node_rules.specs.World.{view_of}
use Rattle.cs_replay_play.specs.Standing.{site_in, EachStands, HasNode}
use Rattle.cs_replay_play.proofs.Views.{view-me}
use Rattle.cs_replay_play.proofs.Forgeries.{some-genuine, none-genuine}
use Rattle.cs_replay_play.proofs.play.Replay.is_genuine.Goals as goal

pub returns-in-Some : goal.returns-in-Some
returns-in-Some g c = λ s p st has.
    let site = site_in g.O.Order.rules g.O.Carried.carrier s in
    let each = subst (λ (cores : List (Core g.row.O.Denot g.row.J.Denot g.row.O-Message.Denot)). EachStands g.O.Order.stands g.J.Judge.is_approved site cores (λ i. view_of site p.world (s.names i))) (sym c.as_slice.ensures.value) st.all.each in
    let node = subst (λ (cores : List (Core g.row.O.Denot g.row.J.Denot g.row.O-Message.Denot)). HasNode s.names (length cores) c.args.to) (sym c.as_slice.ensures.value) (subst (λ n. HasNode s.names n c.args.to) (sym st.count) has) in
    let opened = c.sender_at-sender.ensures site s.names (λ i. view_of site p.world (s.names i)) each (λ i. view-me site p.world (s.names i)) node in
    c.is_backed.ensures s p st ∙ some-genuine s.net c.args.to c.args.bytes.now p.parcels c.in-Some.from (sym c.in-Some.is ∙ opened)

pub returns-in-None : goal.returns-in-None
returns-in-None g c = λ s p st has.
    let site = site_in g.O.Order.rules g.O.Carried.carrier s in
    let each = subst (λ (cores : List (Core g.row.O.Denot g.row.J.Denot g.row.O-Message.Denot)). EachStands g.O.Order.stands g.J.Judge.is_approved site cores (λ i. view_of site p.world (s.names i))) (sym c.as_slice.ensures.value) st.all.each in
    let node = subst (λ (cores : List (Core g.row.O.Denot g.row.J.Denot g.row.O-Message.Denot)). HasNode s.names (length cores) c.args.to) (sym c.as_slice.ensures.value) (subst (λ n. HasNode s.names n c.args.to) (sym st.count) has) in
    let opened = c.sender_at-sender.ensures site s.names (λ i. view_of site p.world (s.names i)) each (λ i. view-me site p.world (s.names i)) node in
    none-genuine s.net c.args.to c.args.bytes.now p.parcels (sym c.in-None.is ∙ opened)
