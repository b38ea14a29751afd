use Rattle.std.proofs.Common.{sym, ap, ◌∙◌}
use Rattle.std.proofs.lemmas.Result.{on_ok_weaker}
use Rattle.cs_node_rules.specs.World.{view_of, happens}
use Rattle.cs_node_rules.specs.Deployment.{site_of}
use Rattle.cs_replay_play.specs.Logged.{logged_at}
use Rattle.cs_replay_play.proofs.Alone.{entries-alone}
use Rattle.cs_replay_play.proofs.Places.{logs-told}
use Rattle.cs_replay_play.proofs.Views.{named, view-me}
use Rattle.cs_replay_play.proofs.logs.keep_told.Goals as goal

pub returns-in-Some : goal.returns-in-Some
returns-in-Some g c = λ setup net names world input made d are has all.
    let site = site_of setup net g.O.Order.rules g.O.Carried.carrier in
    let after = happens site c.args.me input world in
    let place = c.in-Some.place in
    let logs = c.args.logs.now.items in
    let alone = entries-alone g.O.Order.stands g.J.Judge.is_approved setup net g.O.Order.rules g.O.Carried.carrier names c.args.cores.now after place c.in-Some.ensures.within d.all in
    let name = sym (view-me site after (names place)) ∙ c.in-Some.ensures.named site (λ i. view_of site after (names i)) d.all.each in
    on_ok_weaker c.take_at.result
    (λ took. logs-told site alone g.O.Order.stands g.J.Judge.is_approved names c.args.cores.now world c.args.me input made c.args.notes logs c.take_at.new.logs.items place d are name c.in-Some.ensures.within all (took ∙ ap (λ notes. logged_at place notes logs) c.into_vec.ensures))
    c.take_at.ensures

pub returns-in-None : goal.returns-in-None
returns-in-None g c = λ setup net names world input made d are has all.
    let site = site_of setup net g.O.Order.rules g.O.Carried.carrier in
    let after = happens site c.args.me input world in
    absurd (named site after names _ c.args.me has (c.in-None.ensures.none site (λ i. view_of site after (names i)) d.all.each))
