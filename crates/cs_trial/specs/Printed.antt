-- The line of a case.
use Rattle.std.specs.Prelude.{ℕ, ◌+◌, Bool, true, false, List, [], ◌∷◌, ◌++◌, codes, Option, Some, None, if◌then◌else◌}
use Rattle.std.specs.Fmt.{decimal}
use Rattle.cs_tx_value.specs.declared.value.Value.{Value}
use Rattle.cs_tx_types.specs.declared.trace.Trace.{Trace}
use Rattle.cs_types.specs.declared.position.Position.{Position}
use Rattle.cs_types.specs.Positions.{position_at}
use Rattle.cs_cases.specs.declared.case.Asked.{Asked}
use Rattle.cs_cases.specs.declared.case.Asked.TheVariants.{Shown, Made, Given}
use Rattle.cs_cases.specs.declared.case.Wanted.{Wanted}
use Rattle.cs_cases.specs.declared.case.Wanted.TheVariants as wanted
use Rattle.cs_cases.specs.declared.text.Cause.{Cause}
use Rattle.cs_cases.specs.declared.text.Cause.TheVariants as cause
use Rattle.cs_cases.specs.declared.text.Refused.{Refused}
use Rattle.cs_cases.specs.Printed.{values_text, objects_text}
use Rattle.cs_trial.specs.declared.outcome.Outcome.{Outcome}
use Rattle.cs_trial.specs.declared.outcome.Outcome.TheVariants.{Yes, No, Trap, Args, Large}

-- ---- what it came to

abbrev pub position_text : Position → List ℕ
position_text p = codes " " ++ (decimal p.line ++ (codes " " ++ decimal p.column))

-- where the contract's text stands so
abbrev pub place_text : List ℕ → ℕ → List ℕ
place_text text place = position_text (position_at text place)

abbrev pub no_text : List ℕ → Option ℕ → List ℕ
no_text text None = codes " no - -"
no_text text (Some place) = codes " no" ++ place_text text place

abbrev pub outcome_text : List ℕ → Outcome → List ℕ
outcome_text text (Yes cost) = codes " yes " ++ decimal cost
outcome_text text (No place) = no_text text place
outcome_text text (Trap place) = codes " trap" ++ place_text text place
outcome_text text Args = codes " args"
outcome_text text Large = codes " large"

-- ---- what was wanted, or is shown

abbrev pub is_as_wanted : Wanted → Outcome → Bool
is_as_wanted wanted.Yes (Yes cost) = true
is_as_wanted wanted.No (No place) = true
is_as_wanted wanted.Trap (Trap place) = true
is_as_wanted w outcome = false

abbrev pub wanted_text : Wanted → List ℕ
wanted_text wanted.Yes = codes " wanted yes"
wanted_text wanted.No = codes " wanted no"
wanted_text wanted.Trap = codes " wanted trap"

abbrev pub unless_wanted : Wanted → Outcome → List ℕ
unless_wanted w outcome = if is_as_wanted w outcome then [] else wanted_text w

abbrev pub returns_text : List Value → List ℕ
returns_text [] = []
returns_text (v ∷ vs) = codes " returns " ++ values_text (v ∷ vs)

abbrev pub trace_text : Trace → List ℕ
trace_text t = codes " makes " ++ (objects_text t.outputs ++ returns_text t.returns)

-- of the last of the traces, which is the one of the method that is called
abbrev pub made_text : List Trace → List ℕ
made_text [] = []
made_text (t ∷ []) = trace_text t
made_text (t ∷ u ∷ ts) = made_text (u ∷ ts)

abbrev pub asked_text : Asked → Outcome → List Trace → List ℕ
asked_text Shown outcome made = made_text made
asked_text (Made w) outcome made = unless_wanted w outcome
asked_text (Given outputs returns w) outcome made = unless_wanted w outcome

-- the line of the case with this number
abbrev pub case_text : List ℕ → ℕ → Asked → Outcome → List Trace → List ℕ
case_text text number asked outcome made =
    codes "case " ++ (decimal number ++ (outcome_text text outcome ++ (asked_text asked outcome made ++ codes "\n")))

-- ---- a refusal

abbrev pub cause_word : Cause → List ℕ
cause_word cause.Syntax = codes "syntax"
cause_word cause.Method = codes "method"
cause_word cause.Object = codes "object"

abbrev pub refused_text : Refused → List ℕ
refused_text r = codes "refused " ++ (decimal r.line ++ (codes " " ++ (cause_word r.cause ++ codes "\n")))

abbrev pub limit_text : Position → List ℕ
limit_text p = codes "limit " ++ (decimal p.line ++ codes "\n")
