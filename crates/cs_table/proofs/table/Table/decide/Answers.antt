use Rattle.std.proofs.Common.{◌∙◌, sym, ap, true}
use Rattle.cs_tx.specs.Votes.{vote_of}
use Rattle.cs_tx_types.specs.declared.vote.Vote.{Vote}
use Rattle.cs_tx.specs.Sessions.{ledger_session}
use Rattle.cs_table.proofs.Calls.{decide_skips, decide_accepts, decide_aborts, no_anchor, at_vote}
use Rattle.cs_table.proofs.table.Table.decide.Goals as goal

pub returns-in-None : goal.returns-in-None
returns-in-None c = no_anchor c.args.self.now c.args.session.now c.as_slice-used.result.now (c.as_slice-used.ensures.value ∙ c.in_ok-uses.ensures.used) (λ tx. true) c.in-None.ensures c.requires.anchored

pub returns-then-not-is_locked : goal.returns-then-not-is_locked
returns-then-not-is_locked c = λ approves. decide_skips c.args.self.now c.args.session.now c.as_slice-used.result.now (c.as_slice-used.ensures.value ∙ c.in_ok-uses.ensures.used) c.as_slice-read.result.now (c.as_slice-read.ensures.value ∙ c.in_ok-uses.ensures.read) c.args.digest.now c.requires.named c.in-Some.anchor c.in-Some.ensures approves (vote_of c.args.vote) (sym c.is_locked.ensures ∙ c.if-not-is_locked.true)

pub returns-in-Commit : goal.returns-in-Commit
returns-in-Commit c = λ approves. at_vote c.args.self.now _ (ledger_session approves c.args.session.now) _ _ _ (ap (λ (v : Vote). vote_of v) c.in-Commit.is) (decide_accepts c.args.self.now c.args.session.now c.as_slice-used.result.now (c.as_slice-used.ensures.value ∙ c.in_ok-uses.ensures.used) c.as_slice-read.result.now (c.as_slice-read.ensures.value ∙ c.in_ok-uses.ensures.read) c.args.digest.now c.requires.named c.in-Some.anchor c.in-Some.ensures approves c.accept.new.self (sym c.is_locked.ensures ∙ c.if-not-is_locked.false) (c.in_ok-accept-in-Commit.ensures approves))

pub returns : goal.returns
returns c = λ approves. at_vote c.args.self.now _ (ledger_session approves c.args.session.now) _ _ _ (ap (λ (v : Vote). vote_of v) c.in-Abort.is) (decide_aborts c.args.self.now c.args.session.now c.as_slice-used.result.now (c.as_slice-used.ensures.value ∙ c.in_ok-uses.ensures.used) c.as_slice-read.result.now (c.as_slice-read.ensures.value ∙ c.in_ok-uses.ensures.read) c.args.digest.now c.requires.named c.in-Some.anchor c.in-Some.ensures approves c.undo.new.self (sym c.is_locked.ensures ∙ c.if-not-is_locked.false) c.in_ok-undo-in-Abort.ensures)
