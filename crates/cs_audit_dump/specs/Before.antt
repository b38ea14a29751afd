-- What may stand before a dump: lines of which none begins one.
use Rattle.std.specs.Prelude.{◌≡◌, ◌≢◌, ℕ, ◌≤◌, ◌==◌, Bool, true, not, ◌&&◌, List, [], ◌∷◌, ◌++◌, length, codes, Ok}
use Rattle.std.specs.List.{All, AllByRecursion}
use Rattle.cs_base.specs.Fields.{each}
use Rattle.cs_base.specs.Lines.{fields_of}
use Rattle.cs_audit_dump.specs.Text.{dump_of}
use Rattle.cs_audit_dump.specs.declared.dump.Dump.{Dump}

-- a byte within a line, neither LF nor CR
abbrev pub is_within_line : ℕ → Bool
is_within_line byte = not (byte == 10) && not (byte == 13)

-- a line whose fields aren't `dump` alone
pub record BeginsNoDump (line : List ℕ) : Type 0 where
  pub within : All (λ byte. is_within_line byte ≡ true) line
  pub other : fields_of line ≢ codes "dump" ∷ []

-- these lines, each with its LF
abbrev pub text_of_lines : List (List ℕ) → List ℕ
text_of_lines lines = each (λ line. line ++ 10 ∷ []) lines

-- Behind lines that begin no dump a text is read as the dump that it is read as alone, within the limit.
abbrev pub DumpIsReadBehind : ℕ → Type 0
DumpIsReadBehind limit =
    (before : List (List ℕ)) (text : List ℕ) (dump : Dump) → AllByRecursion BeginsNoDump before
    → length (text_of_lines before ++ text) ≤ limit → dump_of limit text ≡ Ok dump
    → dump_of limit (text_of_lines before ++ text) ≡ Ok dump
