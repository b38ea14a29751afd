-- What a text is examined as, and what it comes to.
use Rattle.std.specs.Prelude.{ℕ, List}
use Rattle.cs_base.specs.Answers.{Answer}
use Rattle.cs_base.specs.declared.limits.TheConstants.{MOST_SCHEDULE}
use Rattle.cs_verify.specs.Verdicts.{verify_answer}
use Rattle.cs_audit_dump.specs.declared.limits.TheConstants.{MOST_DUMP}
use Rattle.cs_cli.specs.Audited.{audit_answer}
use Rattle.cs_cli.specs.declared.examining.Subject.{Subject}
use Rattle.cs_cli.specs.declared.examining.Subject.TheVariants.{Claim, Dump}

-- how many bytes it may have
abbrev pub most_in : Subject → ℕ
most_in Claim = MOST_SCHEDULE
most_in Dump = MOST_DUMP

abbrev pub examined_answer : Subject → List ℕ → Answer
examined_answer Claim = verify_answer MOST_SCHEDULE
examined_answer Dump = audit_answer MOST_DUMP
