-- What judging a text says of the first place where it breaks a rule.
use Rattle.std.proofs.Common.{◌≡◌, ℕ, true, false, List, Option, Some, None, Ok, refl, sym, ap, subst, ◌∙◌, arith}
use Rattle.cs_lang_token.specs.declared.token.Token.{Token}
use Rattle.cs_lang_token.specs.Texts.{IsText}
use Rattle.cs_lang.specs.declared.tree.ContractTree.{ContractTree}
use Rattle.cs_lang.specs.Rules.{contract}
use Rattle.cs_lang.specs.Texts.{IsContract, IsSyntax}
use Rattle.cs_types_kinds.specs.declared.scope.Costs.{Costs}
use Rattle.cs_types.specs.declared.fault.Fault.{Fault}
use Rattle.cs_types.specs.declared.fault.Fault.TheVariants as fault
use Rattle.cs_types.specs.Accepted.{accepted_costs}
use Rattle.cs_types.specs.Accepting.{contract_of}
use Rattle.cs_types.specs.Faults.{IsFault}
use Rattle.cs_types.proofs.Accepting.{read_contract, contract_read}
use Rattle.cs_explain.specs.Standing.{passes_told, passes_contract, passes, fault_behind}

of_contract : (text : List ℕ) (place : ℕ) (c : ContractTree) → IsContract text c → passes text place ≡ passes_told place (accepted_costs c)
unfolding passes
of_contract text place c is = ap (passes_contract place) (contract_read text c is)

of_none : (text : List ℕ) (place : ℕ) → ((c : ContractTree) → IsContract text c → ⊥) → passes text place ≡ false
unfolding passes
of_none text place never = by (contract_of text) refl
  where
    by : (o : Option ContractTree) → contract_of text ≡ o → passes_contract place o ≡ false
    by None same = refl
    by (Some c) same = absurd (never c (read_contract text c same))

pub accepted_passes : (text : List ℕ) (place : ℕ) (c : ContractTree) (costs : List Costs) → IsContract text c → accepted_costs c ≡ Ok costs → true ≡ passes text place
accepted_passes text place c costs is told = sym (of_contract text place c is ∙ ap (passes_told place) told)

syntax_never : (text : List ℕ) (place : ℕ) → IsSyntax text place → (c : ContractTree) → IsContract text c → ⊥
syntax_never text place s c is =
    let same : is.tokens ≡ s.tokens = cc (is.read, s.read) in
    s.refused.none c (subst (λ (ts : List Token). IsText contract c ts) same is.spells)

pub fault_passes : (text : List ℕ) (place : ℕ) (f : Fault) → IsFault text f → fault_behind place f ≡ passes text place
fault_passes text place fault.TooLong has = sym (of_none text place (λ c is. let short = is.short in absurd (omega (arith, short, has))))
fault_passes text place (fault.Lex at) has = sym (of_none text place (λ c is. absurd (cc (is.read, has.1))))
fault_passes text place (fault.Syntax at) has = sym (of_none text place (syntax_never text at has))
fault_passes text place (fault.Mistyped at) has = sym (of_contract text place has.contract has.spelled ∙ ap (passes_told place) has.told)
fault_passes text place (fault.Unbound at) has = sym (of_contract text place has.contract has.spelled ∙ ap (passes_told place) has.told)
fault_passes text place (fault.Cost at) has = sym (of_contract text place has.contract has.spelled ∙ ap (passes_told place) has.told)
