-- What is said where memory ran out before anything was printed.
use Rattle.std.specs.Prelude.{ℕ, ◌+◌, List, [], take, Option, Some, None}
use Rattle.std.proofs.Common.{refl}
use Rattle.std.proofs.KnownBytes.{Appends-nil}
use Rattle.cs_base.specs.Answers.{IsTextOf, Answers, Answer}

-- the text that a source had, whether it tells it or not
pub some_text : (limit : ℕ) (left : Option (List ℕ)) → (text : List ℕ) × IsTextOf limit left text
some_text limit None = ([], tt)
some_text limit (Some bytes) = (take (limit + 1) bytes, refl)

pub nothing_printed : (answer : Answer) (written : Option (List ℕ)) → Answers answer written written 8
nothing_printed answer written = record {
  verdict = λ not_write not_memory. absurd (not_memory refl);
  cut_short = λ ended. ([], answer.printed, refl, Appends-nil written);
}
