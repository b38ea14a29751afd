-- What is printed of a report, and which statuses it has.
use Rattle.std.specs.Prelude.{◌≡◌, ◌≢◌, ℕ, List, Option, Result, Err, OnOk, OnErr}
use Rattle.std.specs.Io.KnownBytes.{Appends}
use Rattle.std.proofs.Common.{inl, inr, ap, sym, subst, ◌∙◌}
use Rattle.cs_base.specs.Answers.{Answer, Answers, AppendsFront}
use Rattle.cs_base.specs.declared.printing.WriteError.{WriteError}
use Rattle.cs_base.specs.declared.printing.WriteError.TheVariants as write
use Rattle.cs_io.specs.Answers.{closing_status}
use Rattle.cs_io.proofs.Closings.{closed, closing-other, closing-failed}
use Rattle.cs_types.specs.declared.fault.Fault.{Fault}
use Rattle.cs_types.specs.declared.fault.Fault.TheVariants.{TooLong, Lex, Syntax, Mistyped, Unbound, Cost}
use Rattle.cs_cli.specs.declared.report.ContractMode.{ContractMode}
use Rattle.cs_cli.specs.declared.report.Report.{Report}
use Rattle.cs_types.specs.Faults.{fault_status}
use Rattle.cs_cli.specs.Reports.{IsReport, report_answer}

fault-other : (fault : Fault) (n : ℕ) → 3 ≢ n → 13 ≢ n → fault_status fault ≢ n
fault-other TooLong n three thirteen = thirteen
fault-other (Lex place) n three thirteen = three
fault-other (Syntax place) n three thirteen = three
fault-other (Mistyped place) n three thirteen = three
fault-other (Unbound place) n three thirteen = three
fault-other (Cost cost) n three thirteen = three

-- it is 0, 3 or 13
report-other : (mode : ContractMode) (text : List ℕ) (answer : Answer) (n : ℕ) → IsReport mode text answer → 0 ≢ n → 3 ≢ n → 13 ≢ n → answer.status ≢ n
report-other mode text answer n (inl accepting) zero three thirteen =
    λ is. zero (sym (ap (λ (a : Answer). a.status) accepting.told) ∙ is)
report-other mode text answer n (inr refusing) zero three thirteen =
    λ is. fault-other refusing.fault n three thirteen (sym (ap (λ (a : Answer). a.status) refusing.told) ∙ is)

module _ (mode : ContractMode) (text : List ℕ) (report : Report) (r : Result (Unit {0}) WriteError) (status : ℕ) (ends : status ≡ closing_status r report.status) where
  -- what was printed last is what the report prints
  pub told-answers : (shown : List ℕ) (written written' : Option (List ℕ)) → shown ≡ report.printed.items → OnOk r (Appends written written' shown) → OnErr r (AppendsFront written written' shown)
      → Answers (report_answer report) written written' status
  told-answers shown written written' is all part =
      subst (λ (s : ℕ). Answers (report_answer report) written written' s) (sym ends)
      (closed (report_answer report) r written written' (subst (λ (printed : List ℕ). OnOk r (Appends written written' printed)) is all)
      (subst (λ (printed : List ℕ). OnErr r (AppendsFront written written' printed)) is part))

  pub reported-other : (n : ℕ) → IsReport mode text (report_answer report) → 0 ≢ n → 3 ≢ n → 13 ≢ n → 6 ≢ n → 8 ≢ n → status ≢ n
  reported-other n reports zero three thirteen six eight =
      λ is. closing-other r report.status n (report-other mode text (report_answer report) n reports zero three thirteen) six eight (sym ends ∙ is)

  -- it is 6 only where the sink failed
  pub reported-failed : IsReport mode text (report_answer report) → status ≡ 6 → r ≡ Err write.Failed
  reported-failed reports six =
      closing-failed r report.status (report-other mode text (report_answer report) 6 reports (λ is. absurd (cc)) (λ is. absurd (cc)) (λ is. absurd (cc))) (sym ends ∙ six)
