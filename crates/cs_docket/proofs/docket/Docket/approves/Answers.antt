use Rattle.cs_docket.proofs.Again.{judged_again}
use Rattle.cs_docket.proofs.docket.Docket.approves.Goals as goal

pub returns-in-Some-clause-says : goal.returns-in-Some-clause-says
returns-in-Some-clause-says g c =
    judged_again (g.J.Judge.is_approved c.args.self.now) c.in-Some.verdict c.in_ok-asked.asked.encoding.items c.args.tx.now c.in-Some.ensures c.requires c.in_ok-asked.ensures
