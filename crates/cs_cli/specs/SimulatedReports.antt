-- Reports of simulations.
use Rattle.std.specs.Prelude.{◌≡◌, ◌≢◌, ℕ, List, Option, string_bytes}
use Rattle.std.specs.Io.KnownBytes.{Appends}
use Rattle.cs_base.specs.Answers.{Answer}
use Rattle.cs_cli.specs.declared.simulated.Report.{Report}

-- it has the status of this answer, and what is printed with it
pub record ReportTells (answer : Answer) (report : Report) : Type 0 where
  pub status : report.status ≡ answer.status
  pub printed : string_bytes report.printed ≡ answer.printed

-- this answer is given and all of it printed, unless memory ran out
abbrev pub AnswersWhole : Answer → Option (List ℕ) → Option (List ℕ) → ℕ → Type 0
AnswersWhole answer written written' status =
    status ≢ 8 → (status ≡ answer.status) × Appends written written' answer.printed
