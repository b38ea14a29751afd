use Rattle.std.proofs.Common.{◌∙◌, Some, sym, true}
use Rattle.cs_table.specs.Calls.{locked_at}
use Rattle.cs_table.specs.Pieces.{used_in}
use Rattle.cs_table.proofs.Calls.{at_anchor, prepared_is, no_anchor, comes_as}
use Rattle.cs_table.proofs.table.Table.prepare.Goals as goal

pub returns-in-Some-clause-vote : goal.returns-in-Some-clause-vote
returns-in-Some-clause-vote c = λ approves. comes_as c.args.self.now c.vote_on.new.self _ _ _
    (prepared_is c.args.self.now c.args.session.now c.as_slice-used.result.now (c.as_slice-used.ensures.value ∙ c.in_ok-uses.ensures.used) approves c.as_slice-read.result.now (c.as_slice-read.ensures.value ∙ c.in_ok-uses.ensures.read) c.args.digest.now c.in-Some.anchor c.requires.named c.in-Some.ensures)
    c.in_ok-vote-in-Some.ensures

pub returns-in-Some-clause-locks : goal.returns-in-Some-clause-locks
returns-in-Some-clause-locks c = λ approves.
    let same = c.in_ok-vote-in-Some.ensures.table_is in
    let used = c.as_slice-used.ensures.value ∙ c.in_ok-uses.ensures.used ∙ (λ i. used_in (sym same.shards i) (sym same.shard i) c.args.session.now) in
    c.is_locked-locked.ensures ∙ at_anchor c.vote_on.new.self c.args.session.now c.as_slice-used.result.now used approves locked_at c.args.digest.now (Some c.in-Some.anchor) c.requires.named c.in-Some.ensures

pub returns-clause-vote : goal.returns-clause-vote
returns-clause-vote c = no_anchor c.args.self.now c.args.session.now c.as_slice-used.result.now (c.as_slice-used.ensures.value ∙ c.in_ok-uses.ensures.used) (λ tx. true) c.in-None.ensures c.requires.anchored

pub returns-clause-locks : goal.returns-clause-locks
returns-clause-locks c = no_anchor c.args.self.now c.args.session.now c.as_slice-used.result.now (c.as_slice-used.ensures.value ∙ c.in_ok-uses.ensures.used) (λ tx. true) c.in-None.ensures c.requires.anchored
