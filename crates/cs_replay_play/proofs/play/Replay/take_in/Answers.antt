use Rattle.std.proofs.Common.{◌+◌, ◌<◌, ◌++◌, List, length, refl, sym, ap, subst, ◌∙◌, arith}
use Rattle.std.proofs.lemmas.Result.{err_from_is_err_and}
use Rattle.cs_replay_rules.specs.Play.{occurs, size_of, most_sent, most_events}
use Rattle.cs_node_rules.specs.Lines.{Parcel}
use Rattle.cs_node_rules.specs.World.{happens}
use Rattle.cs_node.specs.declared.node_core.Core.{Core}
use Rattle.cs_node.specs.Speaking.{input_of}
use Rattle.cs_replay_play.specs.declared.play.Replay.{Replay}
use Rattle.cs_replay_play.specs.Logged.{AllLogged}
use Rattle.cs_replay_play.specs.Standing.{site_in, HasNode, Delivered}
use Rattle.cs_replay_play.specs.Ends.{parcels_from}
use Rattle.cs_replay_play.proofs.Courses.{takes-sent}
use Rattle.cs_replay_play.proofs.Taken.{too-much, sent-is, taken-by}
use Rattle.cs_replay_play.proofs.play.Replay.take_in.Goals as goal

pub returns-in_err-send_all-clause-takes : goal.returns-in_err-send_all-clause-takes
returns-in_err-send_all-clause-takes g c = λ s p st has.
    let r = c.args.self.now in
    let input = input_of c.args.input in
    let node : HasNode s.names (length r.cores.items) c.args.to = subst (λ n. HasNode s.names n c.args.to) (sym st.count) has in
    let d = c.in_ok-made.ensures.delivered s.setup s.net s.names p.world st.all node in
    let few : length p.world < most_events = omega (arith, c.if-self-ge-MOST_EVENTS.false, st.events) in
    let whole = ap (λ os. r.post ++ parcels_from c.args.to os) c.as_slice.ensures ∙ sent-is g.O.Order.stands g.J.Judge.is_approved g.O.Order.rules g.O.Carried.carrier s r p c.args.line c.args.to input st has c.in_ok-made.made c.deliver.new.cores.items d in
    let e = err_from_is_err_and c.from_residual-in_err-send_all.result c.from_residual-in_err-send_all.ensures.1 in
    rw (e.1, e.2)
    (takes-sent g.O.Order.stands g.J.Judge.is_approved g.O.Order.rules g.O.Carried.carrier s (occurs (site_in g.O.Order.rules g.O.Carried.carrier s) s.traced c.args.line c.args.to input p) p (record { cores = c.deliver.new.cores; logs = r.logs; history = r.history; post = c.send_all.new.post; voices = r.voices; events = r.events; traced = r.traced }) c.args.line c.args.to c.as_slice.result.now r.post c.send_all.new.post c.in_err-send_all.field-0.0 c.in_err-send_all.ensures
    (λ large. too-much (site_in g.O.Order.rules g.O.Carried.carrier s) s.traced c.args.line c.args.to input p few (subst (λ (parcels : List Parcel). most_sent < size_of parcels) whole large)))

pub returns-clause-takes : goal.returns-clause-takes
returns-clause-takes g c = λ s p st has.
    let r = c.args.self.now in
    let site = site_in g.O.Order.rules g.O.Carried.carrier s in
    let input = input_of c.args.input in
    let told = c.tell.new.self in
    let made = c.in_ok-made.made in
    let node : HasNode s.names (length r.cores.items) c.args.to = subst (λ n. HasNode s.names n c.args.to) (sym st.count) has in
    let d = c.in_ok-made.ensures.delivered s.setup s.net s.names p.world st.all node in
    let slice = c.as_slice-2.ensures.value ∙ ap (λ (x : Replay g.row.O.Denot g.row.J.Denot g.row.O-Message.Denot). x.cores.items) c.in_ok-text.ensures.rest in
    let count = ap length slice ∙ c.in_ok-made.ensures.count ∙ st.count in
    let before : AllLogged site s.names s.count told.logs.items p.world = subst (λ (x : Replay g.row.O.Denot g.row.J.Denot g.row.O-Message.Denot). AllLogged site s.names s.count x.logs.items p.world) (sym c.in_ok-text.ensures.rest) st.logs in
    let kept = c.in_ok-keep_told.ensures s.setup s.net s.names p.world input made
    (subst (λ (cores : List (Core g.row.O.Denot g.row.J.Denot g.row.O-Message.Denot)). Delivered g.O.Order.stands g.J.Judge.is_approved site s.names cores p.world c.args.to input made) (sym slice) d)
    refl
    (subst (λ n. HasNode s.names n c.args.to) (sym count) has)
    (subst (λ n. AllLogged site s.names n told.logs.items p.world) (sym count) before) in
    taken-by g.O.Order.stands g.J.Judge.is_approved g.O.Order.rules g.O.Carried.carrier s r p c.args.line c.args.to input st has
    told (record { cores = told.cores; logs = c.keep_told.new.logs; history = told.history; post = told.post; voices = told.voices; events = told.events + 1; traced = told.traced })
    c.deliver.new.cores r.logs c.send_all.new.post made _ c.len-number.result c.as_slice.result.now
    c.in_ok-text.ensures.rest
    refl
    d
    c.in_ok-made.ensures.count
    (subst (λ n. AllLogged site s.names n c.keep_told.new.logs.items (happens site c.args.to input p.world)) count kept)
    c.as_slice.ensures
    c.in_ok-send_all.ensures
    c.in_ok-text.ensures.kept
    c.len-number.ensures
    c.in_ok-text.ensures.text
    (omega (arith, c.if-self-ge-MOST_EVENTS.false))
