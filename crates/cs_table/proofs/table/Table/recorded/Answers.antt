use Rattle.std.proofs.Common.{◌∙◌, Some, None}
use Rattle.cs_table.specs.Calls.{recorded_at}
use Rattle.cs_table.proofs.Calls.{at_anchor}
use Rattle.cs_table.proofs.table.Table.recorded.Goals as goal

pub returns-in-Some : goal.returns-in-Some
returns-in-Some c = λ approves. c.recorded_under.ensures ∙ at_anchor c.args.self.now c.args.session.now c.as_slice.result.now (c.as_slice.ensures.value ∙ c.in_ok-uses.ensures.used) approves recorded_at c.args.digest.now (Some c.in-Some.anchor) c.requires.named c.in-Some.ensures

pub returns : goal.returns
returns c = λ approves. at_anchor c.args.self.now c.args.session.now c.as_slice.result.now (c.as_slice.ensures.value ∙ c.in_ok-uses.ensures.used) approves recorded_at c.args.digest.now None c.requires.named c.in-None.ensures
