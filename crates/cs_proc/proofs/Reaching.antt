-- What is told of a run, step by step.
use Rattle.std.proofs.Common.{◌≡◌, ℕ, Option, Some, Result, Ok, sym, ap, ◌∙◌, subst}
use Rattle.std.specs.Prelude.{slice_get}
use Rattle.cs_lang.specs.declared.tree.ContractTree.{ContractTree}
use Rattle.cs_lang.specs.declared.tree.Method.{Method}
use Rattle.cs_proc_parts.specs.declared.ending.Halt.{Halt}
use Rattle.cs_proc_parts.specs.declared.progress.Progress.{Progress}
use Rattle.cs_proc_parts.specs.Courses.{ProcedureCourse, Went, CourseComes}
use Rattle.cs_proc.specs.declared.call.Call.{Call}
use Rattle.cs_proc.specs.Calling.{CallRan, call_ran_of, method_ran, numbered_ran}
use Rattle.cs_proc.specs.Answering.{RunAnswers, TellsRun}

pub told_through : (run : Result Progress Halt) (p : Progress) (told : CallRan) → run ≡ Ok p
    → ((n : ℕ) → RunAnswers (call_ran_of (Went p n)) told) → TellsRun run told
told_through run p told is h n course comes =
    let went : course ≡ Went p n = subst (λ (r : Result Progress Halt). CourseComes r n course) is comes in
    subst (λ (c : ProcedureCourse Progress). RunAnswers (call_ran_of c) told) (sym went) (h n)

module _ (contract : ContractTree) (call : Call) (found : Option ℕ) (number : ℕ) (m : Method) (told : CallRan) where
  pub numbered_told : found ≡ Some number → slice_get contract.methods number ≡ Some m
      → RunAnswers (method_ran contract call number (Some m)) told → RunAnswers (numbered_ran contract call found) told
  numbered_told is there h =
      subst (λ (r : CallRan). RunAnswers r told)
      (sym (ap (λ (o : Option ℕ). numbered_ran contract call o) is ∙ ap (λ (o : Option Method). method_ran contract call number o) there)) h
