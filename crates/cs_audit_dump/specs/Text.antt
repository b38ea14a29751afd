-- A text, and what it comes to: a dump, or its first bad line.
use Rattle.std.specs.Prelude.{ℕ, List, Option, Some, None, Result, if◌then◌else◌}
use Rattle.cs_text.specs.Text.{TextForm, whole_of}
use Rattle.cs_text.specs.declared.cause.Refusal.{Refusal}
use Rattle.cs_audit_dump.specs.Drafts.{empty_dump_draft, dump_has_ended}
use Rattle.cs_audit_dump.specs.Places.{dump_line_at}
use Rattle.cs_audit_dump.specs.declared.draft.Draft.{Draft}
use Rattle.cs_audit_dump.specs.declared.dump.Dump.{Dump}

-- a dump is whole where the line `end` was met
abbrev pub dump_in : Draft → Option Dump
dump_in draft = if dump_has_ended draft.stage then Some draft.dump else None

-- how dumps are read
abbrev pub dump_form : TextForm Draft Dump
dump_form = record {
  start = empty_dump_draft;
  step = λ number draft word fields. dump_line_at draft.stage draft word fields;
  finish = dump_in;
}

-- the dump of a text, or its first bad line; of a text above the limit the lines that end within it are read
unfoldable pub dump_of : ℕ → List ℕ → Result Dump Refusal
dump_of limit text = whole_of dump_form limit text
