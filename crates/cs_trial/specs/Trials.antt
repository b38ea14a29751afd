-- What is told of cases, and how many of them came to what was wanted.
use Rattle.std.specs.Prelude.{◌≡◌, ℕ, ◌+◌, ◌==◌, nat_lt, Bool, true, false, List, [], ◌∷◌, ◌++◌, codes, length, Result, Ok, Err, if◌then◌else◌}
use Rattle.std.specs.Fmt.{decimal}
use Rattle.sha2.specs.Sha256.{sha256}
use Rattle.cs_base.specs.Answers.{Answer}
use Rattle.cs_base.specs.declared.limits.TheConstants.{MOST_SCHEDULE}
use Rattle.cs_tx_types.specs.declared.trace.Trace.{Trace}
use Rattle.cs_types.specs.Accepted.{Accepted}
use Rattle.cs_types.specs.Positions.{position_at}
use Rattle.cs_cases.specs.declared.case.Case.{Case}
use Rattle.cs_cases.specs.declared.case.Asked.{Asked}
use Rattle.cs_cases.specs.declared.case.Asked.TheVariants.{Shown, Made, Given}
use Rattle.cs_cases.specs.declared.case.Wanted.{Wanted}
use Rattle.cs_cases.specs.declared.text.Refused.{Refused}
use Rattle.cs_cases.specs.Text.{cases_of}
use Rattle.cs_trial.specs.declared.outcome.Outcome.{Outcome}
use Rattle.cs_trial.specs.declared.trial.Counts.{Counts}
use Rattle.cs_trial.specs.declared.trial.Trial.{Trial}
use Rattle.cs_trial.specs.Outcomes.{CaseTells}
use Rattle.cs_trial.specs.Printed.{is_as_wanted, case_text, refused_text, limit_text}

abbrev pub none_counted : Counts
none_counted = record { passed = 0; failed = 0 }

abbrev pub with_wanted : Counts → Wanted → Outcome → Counts
with_wanted n w outcome =
    if is_as_wanted w outcome then record { passed = n.passed + 1; failed = n.failed }
    else record { passed = n.passed; failed = n.failed + 1 }

-- a case that is shown neither passes nor fails
abbrev pub counted : Counts → Asked → Outcome → Counts
counted n Shown outcome = n
counted n (Made w) outcome = with_wanted n w outcome
counted n (Given outputs returns w) outcome = with_wanted n w outcome

-- what is printed of cases, and how many passed and failed
abbrev pub Tally : Type 0
Tally = List ℕ × Counts

-- one case more
abbrev pub tallied : List ℕ → ℕ → Asked → Outcome → List Trace → Tally → Tally
tallied text number asked outcome made t =
    (t.0 ++ case_text text number asked outcome made, counted t.1 asked outcome)

-- The case of this number came to something, which is told behind what was printed.
abbrev pub IsTried : Accepted → List ℕ → List ℕ → ℕ → Case → Tally → Tally → Type 0
IsTried a id text number c before after =
    (outcome : Outcome) × (made : List Trace) × CaseTells a id c outcome made
    × (after ≡ tallied text number c.asked outcome made before)

-- Cases come to so much, the first of them with this number.
abbrev pub CasesTell : Accepted → List ℕ → ℕ → List Case → Tally → Tally → Type 0
CasesTell a text number [] so_far tally = tally ≡ so_far
CasesTell a text number (c ∷ cs) so_far tally =
    (outcome : Outcome) × (made : List Trace) × CaseTells a (sha256 text) c outcome made
    × CasesTell a text (number + 1) cs (tallied text number c.asked outcome made so_far) tally

-- ---- the answer to a text of cases

abbrev pub sum_text : Counts → List ℕ
sum_text n = decimal n.passed ++ (codes " passed, " ++ (decimal n.failed ++ codes " failed\n"))

abbrev pub tally_status : ℕ → ℕ
tally_status failed = if failed == 0 then 0 else 9

abbrev pub tally_answer : Tally → Answer
tally_answer t = record { status = tally_status t.1.failed; printed = t.0 ++ sum_text t.1 }

abbrev pub refused_answer : Refused → Answer
refused_answer r = record { status = 3; printed = refused_text r }

abbrev pub limit_answer : List ℕ → Answer
limit_answer cases = record { status = 13; printed = limit_text (position_at cases MOST_SCHEDULE) }

-- a line for each case and the sum of them, or the first line that is no case
abbrev pub ReadTell : Accepted → List ℕ → Result (List Case) Refused → Answer → Type 0
ReadTell a text (Err r) answer = answer ≡ refused_answer r
ReadTell a text (Ok cs) answer = (tally : Tally) × CasesTell a text 1 cs ([], none_counted) tally × (answer ≡ tally_answer tally)

-- a text that is too long isn't read
abbrev pub IfLong : Bool → Accepted → List ℕ → List ℕ → Answer → Type 0
IfLong true a text cases answer = answer ≡ limit_answer cases
IfLong false a text cases answer = ReadTell a text (cases_of a.contract (sha256 text) cases) answer

abbrev pub CasesAnswer : Accepted → List ℕ → List ℕ → Answer → Type 0
CasesAnswer a text cases answer = IfLong (nat_lt MOST_SCHEDULE (length cases)) a text cases answer

abbrev pub answer_of : Trial → Answer
answer_of t = record { status = t.status; printed = t.printed.items }
