-- Printed expressions, from their printed parts.
use Rattle.std.specs.Prelude.{ℕ, suc, ◌%◌, ◌==◌, nat_lt, List, [], ◌∷◌, ◌++◌, length, codes, if◌then◌else◌}
use Rattle.cs_lang.specs.declared.tree.Rank.{Rank}
use Rattle.cs_lang.specs.declared.tree.Rank.TheVariants as rank
use Rattle.cs_lang_print.specs.Words.{word}

-- how tightly an expression holds together: the loosest are chains of `or`, the tightest primary expressions
pub record Spelled : Type 0 where
  pub tightness : ℕ
  pub text : List ℕ

abbrev pub tightness_of : Rank → ℕ
tightness_of rank.Or = 0
tightness_of rank.And = 1
tightness_of rank.Sum = 4
tightness_of rank.Product = 5

-- of the operands of a chain
abbrev pub operand_tightness : Rank → ℕ
operand_tightness rank.Or = 1
operand_tightness rank.And = 2
operand_tightness rank.Sum = 5
operand_tightness rank.Product = 6

abbrev pub primary_text : List ℕ → Spelled
primary_text text = record { tightness = 8; text = text }

abbrev pub parenthesized : List ℕ → List ℕ
parenthesized text = word (codes "(") ++ (text ++ word (codes ")"))

abbrev pub in_brackets : List ℕ → List ℕ
in_brackets text = word (codes "[") ++ (text ++ word (codes "]"))

-- an expression where it has to hold together so tightly
abbrev pub held_together : ℕ → Spelled → List ℕ
held_together tight e = if nat_lt e.tightness tight then parenthesized e.text else e.text

-- What stands before an operator or a step that has so many behind it, with itself.
-- A chain or a path has at most 64 of them without parentheses,
-- counted from the last one back.
abbrev pub held : ℕ → List ℕ → List ℕ
held left before = if left % 64 == 0 then parenthesized before else before

abbrev pub run_on : List ℕ → List (List ℕ) → List ℕ
run_on before [] = before
run_on before (part ∷ parts) = run_on (held (suc (length parts)) before ++ part) parts

-- a chain or a path: what it begins with, and its operators with their right operands, or its steps
abbrev pub run_text : List ℕ → List (List ℕ) → List ℕ
run_text start [] = start
run_text start (part ∷ parts) = run_on (start ++ part) parts
