-- The cases of a text, or the first line that is no case.
use Rattle.std.specs.Prelude.{◌≡◌, ℕ, ◌+◌, ◌==◌, List, [], ◌∷◌, ◌++◌, Option, Some, None, Result, Ok, Err}
use Rattle.std.specs.Result.{result_ok}
use Rattle.std.specs.List.{slice_split, before_first}
use Rattle.cs_lang_token.specs.declared.token.Token.{Token}
use Rattle.cs_lang_token.specs.Tokens.{tokens_of}
use Rattle.cs_lang_token.specs.Texts.{all_at}
use Rattle.cs_lang_token.specs.Grammar.{◌>>=◌}
use Rattle.cs_lang.specs.declared.tree.ContractTree.{ContractTree}
use Rattle.cs_cases.specs.declared.case.Case.{Case}
use Rattle.cs_cases.specs.declared.text.Cause.{Cause}
use Rattle.cs_cases.specs.declared.text.Cause.TheVariants as cause
use Rattle.cs_cases.specs.declared.text.Refused.{Refused}
use Rattle.cs_cases.specs.declared.text.LineError.{LineError}
use Rattle.cs_cases.specs.declared.text.LineError.TheVariants as line
use Rattle.cs_cases.specs.declared.text.CasesError.{CasesError}
use Rattle.cs_cases.specs.declared.text.CasesError.TheVariants as cases
use Rattle.cs_cases.specs.Grammar.{case_level}
use Rattle.cs_cases.specs.Judging.{cause_of_case}

-- what stands before the first `#`
abbrev pub uncommented : List ℕ → List ℕ
uncommented line = before_first (λ byte. byte == 35) line

abbrev pub unless_caused : Case → Option Cause → Result (Option Case) Cause
unless_caused c None = Ok (Some c)
unless_caused c (Some why) = Err why

-- a case that is of the contract
abbrev pub case_judged : ContractTree → Option Case → Result (Option Case) Cause
case_judged contract None = Err cause.Syntax
case_judged contract (Some c) = unless_caused c (cause_of_case contract c)

-- a line without tokens has no case
abbrev pub case_of_tokens : ContractTree → List ℕ → Option (List Token) → Result (Option Case) Cause
case_of_tokens contract id None = Err cause.Syntax
case_of_tokens contract id (Some []) = Ok None
case_of_tokens contract id (Some (t ∷ ts)) = case_judged contract (result_ok (all_at (case_level id) (t ∷ ts)))

-- the case of a line, if there is one
abbrev pub line_read : ContractTree → List ℕ → List ℕ → Result (Option Case) Cause
line_read contract id line = case_of_tokens contract id (result_ok (tokens_of (uncommented line)))

-- ---- all lines

abbrev pub with_case : List Case → Option Case → List Case
with_case cs None = cs
with_case cs (Some c) = cs ++ c ∷ []

abbrev pub numbered : ℕ → List Case → Result (Option Case) Cause → Result (List Case) Refused
numbered number cs (Ok found) = Ok (with_case cs found)
numbered number cs (Err why) = Err (record { line = number; cause = why })

-- behind the line of this number
abbrev pub cases_behind : ContractTree → List ℕ → ℕ → List ℕ → List Case → Result (List Case) Refused
cases_behind contract id number line cs = numbered number cs (line_read contract id line)

abbrev pub cases_onward : ContractTree → List ℕ → List Case → ℕ → List (List ℕ) → Result (List Case) Refused
cases_onward contract id cs number [] = Ok cs
cases_onward contract id cs number (line ∷ lines) =
    cases_behind contract id number line cs >>= λ more. cases_onward contract id more (number + 1) lines

-- what stands between line feeds is a line
abbrev pub lines_of : List ℕ → List (List ℕ)
lines_of text = slice_split (λ byte. byte == 10) text

-- the cases of the contract with this id
abbrev pub cases_of : ContractTree → List ℕ → List ℕ → Result (List Case) Refused
cases_of contract id text = cases_onward contract id [] 1 (lines_of text)

-- ---- what calls answer; memory may run out

abbrev pub LineFails : LineError → Result (Option Case) Cause → Type 0
LineFails line.Memory read = Unit {0}
LineFails (line.Bad why) read = read ≡ Err why

abbrev pub GivesLine : Result (Option Case) LineError → Result (Option Case) Cause → Type 0
GivesLine (Ok found) read = read ≡ Ok found
GivesLine (Err e) read = LineFails e read

abbrev pub CasesFail : CasesError → Result (List Case) Refused → Type 0
CasesFail cases.Memory read = Unit {0}
CasesFail (cases.Bad refused) read = read ≡ Err refused

abbrev pub GivesCases : Result (List Case) CasesError → Result (List Case) Refused → Type 0
GivesCases (Ok cs) read = read ≡ Ok cs
GivesCases (Err e) read = CasesFail e read

-- these are the cases then
abbrev pub MovesCases : Result Unit CasesError → List Case → Result (List Case) Refused → Type 0
MovesCases (Ok done) cs read = read ≡ Ok cs
MovesCases (Err e) cs read = CasesFail e read
