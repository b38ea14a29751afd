use Rattle.std.proofs.Common.{◌≡◌, Bool, ap, subst, ◌∙◌}
use Rattle.std.specs.Prelude.{IfOk}
use Rattle.cs_approve.specs.Books.{Contracts}
use Rattle.cs_approve.specs.Approval.{is_said_of_each}
use Rattle.cs_native.proofs.Ruled.{said_with_rules, ruled}
use Rattle.cs_native.proofs.ruling.RuledBookJudge.approves.Goals as goal

pub returns : goal.returns
returns c =
    let book : c.new-payments.result.inner.inner.inner.now ≡ c.args.self.now =
    ap (λ sums. sums.inner.inner.now) c.new-payments.ensures ∙ ap (λ locks. locks.inner.now) c.new-sums.ensures
    ∙ ap (λ book. book.now) c.new-locks.ensures ∙ c.self.view_is in
    subst (λ (approved : Bool). IfOk c.approves.result (λ yes. yes ≡ approved))
    (ap (λ (contracts : Contracts). is_said_of_each (said_with_rules contracts) c.args.tx.now) book ∙ ruled c.args.self.now c.args.tx.now)
    c.approves.ensures
