-- What judging a text answers fits the text.
use Rattle.std.proofs.Common.{◌≡◌, ℕ, List, Result, Ok, Err, refl, sym, ap, ◌∙◌}
use Rattle.cs_lang.specs.declared.tree.ContractTree.{ContractTree}
use Rattle.cs_lang.specs.declared.text.LangError.{LangError}
use Rattle.cs_lang.specs.declared.text.LangError.TheVariants as lang
use Rattle.cs_lang.specs.Texts.{IsContract, IsRefusal, AnswersTree}
use Rattle.cs_types_kinds.specs.declared.fault.TypeError.{TypeError}
use Rattle.cs_types_kinds.specs.declared.fault.TypeError.TheVariants as types
use Rattle.cs_types_kinds.specs.declared.scope.Costs.{Costs}
use Rattle.cs_types.specs.Answers.{Fails}
use Rattle.cs_types.specs.Accepted.{Accepted, Accepts, accepted_costs}
use Rattle.cs_types.specs.declared.judging.Unjudged.TheVariants as unjudged
use Rattle.cs_types.specs.Judging.{unread, unaccepted, HasFault, AnswersJudged}

pub unread-fault : (text : List ℕ) (e : LangError) → IsRefusal text e → HasFault text (unread e)
unread-fault text lang.Memory is = tt
unread-fault text lang.TooLong is = is
unread-fault text (lang.Lex place) is = is
unread-fault text (lang.Syntax place) is = is

pub unaccepted-fault : (text : List ℕ) (c : ContractTree) (e : TypeError) → IsContract text c → Fails e (accepted_costs c) → HasFault text (unaccepted e)
unaccepted-fault text c types.Memory is told = tt
unaccepted-fault text c (types.Mistyped place) is told = record { contract = c; spelled = is; told = told }
unaccepted-fault text c (types.Unbound place) is told = record { contract = c; spelled = is; told = told }
unaccepted-fault text c (types.Cost cost) is told = record { contract = c; spelled = is; told = told }

-- a contract that is accepted has no fault
pub unaccepted-not : (c contract : ContractTree) (costs : List Costs) (e : TypeError) → c ≡ contract → accepted_costs contract ≡ Ok costs → Fails e (accepted_costs c) → unaccepted e ≡ unjudged.Memory
unaccepted-not c contract costs types.Memory same accepted told = refl
unaccepted-not c contract costs (types.Mistyped place) same accepted told =
    let q : Ok costs ≡ Err (types.Mistyped place) = sym accepted ∙ ap accepted_costs (sym same) ∙ told in absurd (cc)
unaccepted-not c contract costs (types.Unbound place) same accepted told =
    let q : Ok costs ≡ Err (types.Unbound place) = sym accepted ∙ ap accepted_costs (sym same) ∙ told in absurd (cc)
unaccepted-not c contract costs (types.Cost cost) same accepted told =
    let q : Ok costs ≡ Err (types.Cost cost) = sym accepted ∙ ap accepted_costs (sym same) ∙ told in absurd (cc)

-- its costs are those of the definition
pub costs-same : (a : Accepted) (c contract : ContractTree) (costs : List Costs) → c ≡ contract → accepted_costs contract ≡ Ok costs → Accepts c (Ok a) → (a.contract ≡ contract) × (a.costs ≡ costs)
costs-same a c contract costs same accepted (is, told) =
    let q : Ok a.costs ≡ Ok costs = sym told ∙ ap accepted_costs same ∙ accepted in
    (is ∙ same, cc)
