-- What is told of a contract text.
use Rattle.std.specs.Prelude.{◌≡◌, ◌⊎◌, ℕ, Bool, List, [], ◌∷◌, ◌++◌, codes, Result, Ok, Err, if◌then◌else◌}
use Rattle.std.specs.Fmt.{decimal}
use Rattle.sha2.specs.Sha256.{sha256}
use Rattle.cs_base.specs.Answers.{Answer}
use Rattle.cs_base.specs.Codes.{bytes_text}
use Rattle.cs_lang.specs.declared.tree.ContractTree.{ContractTree}
use Rattle.cs_lang.specs.declared.tree.Method.{Method}
use Rattle.cs_lang.specs.Texts.{IsContract}
use Rattle.cs_lang_print.specs.Texts.{contract_text}
use Rattle.cs_types_kinds.specs.declared.scope.Costs.{Costs}
use Rattle.cs_types.specs.Accepted.{accepted_costs}
use Rattle.cs_explain.specs.Explaining.{explained_text}
use Rattle.cs_explain.specs.Notes.{notes_of}
use Rattle.cs_cli.specs.declared.report.ContractMode.{ContractMode}
use Rattle.cs_cli.specs.declared.report.Report.{Report}
use Rattle.cs_types.specs.declared.fault.Fault.{Fault}
use Rattle.cs_types.specs.Faults.{IsFault, fault_status, fault_text}

abbrev pub costs_text : Costs → List ℕ
costs_text costs = codes " procedure " ++ decimal costs.procedure ++ codes " check " ++ decimal costs.check ++ 10 ∷ []

abbrev pub method_line : List ℕ → Costs → List ℕ
method_line name costs = codes "method " ++ name ++ costs_text costs

-- a line for each method
abbrev pub method_lines : List Method → List Costs → List ℕ
method_lines [] costs = []
method_lines (m ∷ ms) [] = []
method_lines (m ∷ ms) (c ∷ cs) = method_line m.name.bytes c ++ method_lines ms cs

-- its id, which is the hash of its text, and its methods with what they cost at most
abbrev pub description : List ℕ → ContractTree → List Costs → List ℕ
description text contract costs =
    codes "contract " ++ bytes_text (sha256 text) ++ 10 ∷ method_lines contract.methods costs

-- with notes behind them, where they are asked for
abbrev pub described : Bool → List ℕ → ContractTree → List Costs → List ℕ
described explaining text contract costs =
    if explaining then description text contract costs ++ notes_of text contract else description text contract costs

-- what is told of a contract that is accepted with these costs
abbrev pub accepted_answer : ContractMode → List ℕ → ContractTree → List Costs → Answer
accepted_answer mode text contract costs = record {
  status = 0;
  printed = if mode.printing then contract_text contract else described mode.explaining text contract costs;
}

-- what a report tells
abbrev pub report_answer : Report → Answer
report_answer report = record { status = report.status; printed = report.printed.items }

-- the line of a fault, with what explains it where that is asked for
abbrev pub refused_text : Bool → List ℕ → Fault → List ℕ
refused_text explaining text fault = if explaining then explained_text text fault else fault_text text fault

abbrev pub fault_answer : ContractMode → List ℕ → Fault → Answer
fault_answer mode text fault = record { status = fault_status fault; printed = refused_text mode.explaining text fault }

-- the text is a contract that is accepted, and this is told of it
pub record IsAccepting (mode : ContractMode) (text : List ℕ) (answer : Answer) : Type 0 where
  pub contract : ContractTree
  pub costs : List Costs
  pub spelled : IsContract text contract
  pub accepted : accepted_costs contract ≡ Ok costs
  pub told : answer ≡ accepted_answer mode text contract costs

-- the text has a fault, and this is told of it
pub record IsRefusing (mode : ContractMode) (text : List ℕ) (answer : Answer) : Type 0 where
  pub fault : Fault
  pub has : IsFault text fault
  pub told : answer ≡ fault_answer mode text fault

abbrev pub IsReport : ContractMode → List ℕ → Answer → Type 0
IsReport mode text answer = IsAccepting mode text answer ⊎ IsRefusing mode text answer
