-- What judging a text answers.
use Rattle.std.specs.Prelude.{◌≡◌, ℕ, List, Result, Ok, Err}
use Rattle.cs_lang.specs.declared.tree.ContractTree.{ContractTree}
use Rattle.cs_lang.specs.declared.text.LangError.{LangError}
use Rattle.cs_lang.specs.declared.text.LangError.TheVariants as lang
use Rattle.cs_types_kinds.specs.declared.fault.TypeError.{TypeError}
use Rattle.cs_types_kinds.specs.declared.fault.TypeError.TheVariants as types
use Rattle.cs_types_kinds.specs.declared.scope.Costs.{Costs}
use Rattle.cs_types.specs.Accepted.{Accepted}
use Rattle.cs_types.specs.declared.fault.Fault.TheVariants as fault
use Rattle.cs_types.specs.declared.judging.Unjudged.{Unjudged}
use Rattle.cs_types.specs.declared.judging.Unjudged.TheVariants as unjudged
use Rattle.cs_types.specs.Faults.{IsFault}

abbrev pub unread : LangError → Unjudged
unread lang.Memory = unjudged.Memory
unread lang.TooLong = unjudged.Faulty fault.TooLong
unread (lang.Lex place) = unjudged.Faulty (fault.Lex place)
unread (lang.Syntax place) = unjudged.Faulty (fault.Syntax place)

abbrev pub unaccepted : TypeError → Unjudged
unaccepted types.Memory = unjudged.Memory
unaccepted (types.Mistyped place) = unjudged.Faulty (fault.Mistyped place)
unaccepted (types.Unbound place) = unjudged.Faulty (fault.Unbound place)
unaccepted (types.Cost cost) = unjudged.Faulty (fault.Cost cost)

-- unless memory ran out, the text has the fault
abbrev pub HasFault : List ℕ → Unjudged → Type 0
HasFault text unjudged.Memory = Unit {0}
HasFault text (unjudged.Faulty fault) = IsFault text fault

-- this contract with these costs is the answer, unless memory ran out
abbrev pub AnswersJudged : Result Accepted Unjudged → ContractTree → List Costs → Type 0
AnswersJudged (Ok a) contract costs = (a.contract ≡ contract) × (a.costs ≡ costs)
AnswersJudged (Err e) contract costs = e ≡ unjudged.Memory
