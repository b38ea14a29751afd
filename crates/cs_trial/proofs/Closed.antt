-- Which statuses answers to cases have.
use Rattle.std.specs.Prelude.{◌≡◌, ◌≢◌, ◌==◌, ℕ, Bool, true, false, List, nat_lt, length, Option, Result, Ok, Err, OnOk, OnErr, if◌then◌else◌}
use Rattle.std.specs.Io.KnownBytes.{Appends}
use Rattle.std.proofs.Common.{sym, subst, ap, ◌∙◌}
use Rattle.cs_base.specs.Answers.{Answer, Answers, AppendsFront}
use Rattle.cs_base.specs.declared.limits.TheConstants.{MOST_SCHEDULE}
use Rattle.cs_base.specs.declared.printing.WriteError.{WriteError}
use Rattle.cs_base.specs.declared.printing.WriteError.TheVariants as write
use Rattle.cs_io.specs.Answers.{closing_status}
use Rattle.cs_io.proofs.Closings.{closed, closing-other, closing-failed}
use Rattle.sha2.specs.Sha256.{sha256}
use Rattle.cs_types.specs.Accepted.{Accepted}
use Rattle.cs_types.specs.declared.fault.Fault.{Fault}
use Rattle.cs_types.specs.declared.fault.Fault.TheVariants.{TooLong, Lex, Syntax, Mistyped, Unbound, Cost}
use Rattle.cs_types.specs.Faults.{fault_status}
use Rattle.cs_cases.specs.declared.case.Case.{Case}
use Rattle.cs_cases.specs.declared.text.Refused.{Refused}
use Rattle.cs_cases.specs.Text.{cases_of}
use Rattle.cs_trial.specs.Trials.{tally_status, ReadTell, IfLong, CasesAnswer}

-- none of these
abbrev pub Apart : ℕ → Type 0
Apart n = (0 ≢ n) × (3 ≢ n) × (9 ≢ n) × (13 ≢ n)

tally-other : (failed n : ℕ) → Apart n → tally_status failed ≢ n
tally-other failed n apart = by (failed == 0)
  where
    by : (b : Bool) → (if b then 0 else 9) ≢ n
    by true = apart.0
    by false = apart.2

module _ (a : Accepted) (text cases : List ℕ) (answer : Answer) (n : ℕ) (apart : Apart n) where
  read-other : (read : Result (List Case) Refused) → ReadTell a text read answer → answer.status ≢ n
  read-other (Err r) is = λ same. apart.1 (sym (ap (λ (x : Answer). x.status) is) ∙ same)
  read-other (Ok cs) told = λ same. tally-other told.0.1.failed n apart (sym (ap (λ (x : Answer). x.status) told.2) ∙ same)

  long-other : (b : Bool) → IfLong b a text cases answer → answer.status ≢ n
  long-other true is = λ same. apart.3 (sym (ap (λ (x : Answer). x.status) is) ∙ same)
  long-other false told = read-other (cases_of a.contract (sha256 text) cases) told

  pub cases-other : CasesAnswer a text cases answer → answer.status ≢ n
  cases-other told = long-other (nat_lt MOST_SCHEDULE (length cases)) told

pub fault-other : (fault : Fault) (n : ℕ) → Apart n → fault_status fault ≢ n
fault-other TooLong n apart = apart.3
fault-other (Lex place) n apart = apart.1
fault-other (Syntax place) n apart = apart.1
fault-other (Mistyped place) n apart = apart.1
fault-other (Unbound place) n apart = apart.1
fault-other (Cost cost) n apart = apart.1

-- ---- what is printed last

module _ (answer : Answer) (r : Result (Unit {0}) WriteError) (status : ℕ) (ends : status ≡ closing_status r answer.status) where
  pub printed-answers : (shown : List ℕ) (written written' : Option (List ℕ)) → shown ≡ answer.printed → OnOk r (Appends written written' shown) → OnErr r (AppendsFront written written' shown)
      → Answers answer written written' status
  printed-answers shown written written' same all part =
      subst (λ (s : ℕ). Answers answer written written' s) (sym ends)
      (closed answer r written written' (subst (λ (printed : List ℕ). OnOk r (Appends written written' printed)) same all)
      (subst (λ (printed : List ℕ). OnErr r (AppendsFront written written' printed)) same part))

  pub printed-other : (n : ℕ) → answer.status ≢ n → 6 ≢ n → 8 ≢ n → status ≢ n
  printed-other n own six eight = λ is. closing-other r answer.status n own six eight (sym ends ∙ is)

  pub printed-failed : answer.status ≢ 6 → status ≡ 6 → r ≡ Err write.Failed
  printed-failed own six = closing-failed r answer.status own (sym ends ∙ six)
