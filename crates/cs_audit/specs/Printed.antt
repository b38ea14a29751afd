-- What is printed of a verdict, and its status.
use Rattle.std.specs.Prelude.{ℕ, List, ◌++◌, length, Option, Some, None, codes}
use Rattle.std.specs.Fmt.{decimal}
use Rattle.std.specs.List.{flat_map}
use Rattle.cs_audit_rules.specs.declared.verdict.Rule.{Rule}
use Rattle.cs_audit_rules.specs.declared.verdict.Rule.TheVariants as rule
use Rattle.cs_audit_rules.specs.declared.verdict.Fault.{Fault}
use Rattle.cs_audit_rules.specs.declared.verdict.Verdict.{Verdict}
use Rattle.cs_audit_rules.specs.declared.verdict.Verdict.TheVariants.{Yes, No}
use Rattle.cs_tx.specs.Lines.{tx_line}

abbrev pub rule_word : Rule → List ℕ
rule_word rule.Slot = codes "slot"
rule_word rule.Form = codes "form"
rule_word rule.Judge = codes "judge"
rule_word rule.Result = codes "result"
rule_word rule.Head = codes "head"
rule_word rule.Support = codes "support"
rule_word rule.History = codes "history"

-- the history is of no shard
abbrev pub shard_text : Option ℕ → List ℕ
shard_text None = codes "-"
shard_text (Some shard) = decimal shard

abbrev pub audit_fault_text : Fault → List ℕ
audit_fault_text fault =
    codes "no " ++ (rule_word fault.rule ++ (codes " " ++ (shard_text fault.shard ++ (codes " "
    ++ (decimal fault.slot ++ codes "\n")))))

abbrev pub yes_text : List (List ℕ) → List ℕ
yes_text history = codes "yes " ++ (decimal (length history) ++ (codes "\n" ++ flat_map tx_line history))

abbrev pub verdict_text : Verdict → List ℕ
verdict_text (Yes history) = yes_text history
verdict_text (No fault) = audit_fault_text fault

abbrev pub verdict_status : Verdict → ℕ
verdict_status (Yes history) = 0
verdict_status (No fault) = 9
