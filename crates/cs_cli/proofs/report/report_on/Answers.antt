use Rattle.std.proofs.Common.{◌≡◌, inl, inr, ap, sym, subst, ◌∙◌}
use Rattle.cs_types.specs.declared.judging.Unjudged.TheVariants as unjudged
use Rattle.cs_types.specs.Judging.{HasFault}
use Rattle.cs_cli.specs.Reports.{report_answer, accepted_answer, fault_answer}
use Rattle.cs_cli.proofs.ToldOfText.{map-ok}
use Rattle.cs_cli.proofs.report.report_on.Goals as goal

pub returns-in-Ok-clause-report : goal.returns-in-Ok-clause-report
returns-in-Ok-clause-report c =
    map-ok (λ report. report_answer report ≡ accepted_answer c.args.mode c.args.text.now c.in-Ok.checked.contract c.in-Ok.checked.costs) _ c.accepted.result
    (λ report is. inl (record {
      contract = c.in-Ok.checked.contract;
      costs = c.in-Ok.checked.costs;
      spelled = c.in-Ok.ensures.accepted.0;
      accepted = c.in-Ok.ensures.accepted.1;
      told = is;
    })) c.accepted.ensures

pub returns-in-Ok-clause-only : goal.returns-in-Ok-clause-only
returns-in-Ok-clause-only c = λ contract costs is accepted.
    let same = c.in-Ok.ensures.only contract costs is accepted in
    map-ok (λ report. report_answer report ≡ accepted_answer c.args.mode c.args.text.now c.in-Ok.checked.contract c.in-Ok.checked.costs) _ c.accepted.result
    (λ report here. here ∙ ap (λ x. accepted_answer c.args.mode c.args.text.now x c.in-Ok.checked.costs) same.0 ∙ ap (accepted_answer c.args.mode c.args.text.now contract) same.1)
    c.accepted.ensures

pub returns-in-Err-Faulty-clause-report : goal.returns-in-Err-Faulty-clause-report
returns-in-Err-Faulty-clause-report c =
    map-ok (λ report. report_answer report ≡ fault_answer c.args.mode c.args.text.now c.in-Err-Faulty.fault) _ c.refused.result
    (λ report is. inr (record { fault = c.in-Err-Faulty.fault; has = subst (HasFault c.args.text.now) c.in-Err-Faulty.field-0-is c.in-Err-Faulty.ensures.refused; told = is })) c.refused.ensures

pub returns-in-Err-Faulty-clause-only : goal.returns-in-Err-Faulty-clause-only
returns-in-Err-Faulty-clause-only c = λ contract costs is accepted.
    let q : unjudged.Faulty c.in-Err-Faulty.fault ≡ unjudged.Memory = sym c.in-Err-Faulty.field-0-is ∙ c.in-Err-Faulty.ensures.only contract costs is accepted in absurd (cc)
