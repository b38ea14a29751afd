use Rattle.std.proofs.Common.{◌≡◌, ℕ, List, Some, ap, subst, ◌∙◌}
use Rattle.cs_base.specs.Answers.{Answers}
use Rattle.cs_native.specs.Approval.{is_approved_with_rules}
use Rattle.cs_approve.specs.Books.{Contracts, contracts_of, first_refused}
use Rattle.cs_approve.specs.Refusing.{IsFirstRefused}
use Rattle.cs_approve.specs.declared.book.BookError.{BookError}
use Rattle.cs_audit_rules.specs.Verdicts.{verdict_of}
use Rattle.cs_cli.specs.Audited.{verdict_answer}
use Rattle.cs_cli.proofs.Dumps.{never_refused}
use Rattle.cs_cli.proofs.auditing.audit_dump.Goals as goal

pub unreachable-requires : goal.unreachable-requires
unreachable-requires g c =
    let place = c.in-Err-Refused.field-0-0 in
    let first = subst (λ (e : BookError). IsFirstRefused c.as_slice.result.now e) c.in-Err-Refused.field-0-is c.in-Err-Refused.ensures.refused in
    never_refused c.args.dump.now place c.requires (subst (λ (texts : List (List ℕ)). first_refused texts ≡ Some place) c.as_slice.ensures first.0)

pub returns-in-Ok-clause-answers : goal.returns-in-Ok-clause-answers
returns-in-Ok-clause-answers g c =
    subst
    (λ (contracts : Contracts). Answers (verdict_answer (verdict_of (is_approved_with_rules contracts) c.args.dump.now)) (g.K.Sink.written c.args.output.now) (g.K.Sink.written c.audit_by.new.output) c.audit_by.result)
    (c.new-ruled.ensures ∙ c.in-Ok.ensures.made ∙ ap contracts_of c.as_slice.ensures) c.audit_by.ensures.answers
