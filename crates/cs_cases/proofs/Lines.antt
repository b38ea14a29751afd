-- The turns of the loop over the lines of a text.
use Rattle.std.proofs.Common.{◌≡◌, ℕ, ◌+◌, ◌<◌, ◌≤◌, List, [], ◌∷◌, length, sym, ap, ◌∙◌, arith}
use Rattle.std.specs.Prelude.{Result, Ok, Err}
use Rattle.cs_lang_token.specs.Grammar.{◌>>=◌}
use Rattle.cs_lang.specs.declared.tree.ContractTree.{ContractTree}
use Rattle.cs_cases.specs.declared.case.Case.{Case}
use Rattle.cs_cases.specs.declared.text.Refused.{Refused}
use Rattle.cs_cases.specs.declared.text.CasesError.{CasesError}
use Rattle.cs_cases.specs.declared.text.CasesError.TheVariants as cases
use Rattle.cs_cases.specs.Text.{cases_behind, cases_onward, cases_of, lines_of, CasesFail}

-- so far, before the line of this number
pub record IsAtLine (contract : ContractTree) (id text : List ℕ) (cs : List Case) (number : ℕ) (rest : List ℕ) : Type 0 where
  pub comes : cases_onward contract id cs number (lines_of rest) ≡ cases_of contract id text
  pub room : number + length rest ≤ length text + 1

module _ (contract : ContractTree) (id text : List ℕ) (cs : List Case) (number : ℕ) (rest : List ℕ) (so_far : IsAtLine contract id text cs number rest) where
  turn : (line : List ℕ) (more : List (List ℕ)) (read : Result (List Case) Refused) → lines_of rest ≡ line ∷ more → cases_behind contract id number line cs ≡ read
      → (read >>= λ all. cases_onward contract id all (number + 1) more) ≡ cases_of contract id text
  turn line more read is said =
      ap (λ (r : Result (List Case) Refused). r >>= λ all. cases_onward contract id all (number + 1) more) (sym said)
      ∙ ap (λ (ls : List (List ℕ)). cases_onward contract id cs number ls) (sym is) ∙ so_far.comes

  pub at_next : (next : List Case) (line after : List ℕ) → lines_of rest ≡ line ∷ lines_of after → length after < length rest → cases_behind contract id number line cs ≡ Ok next
      → IsAtLine contract id text next (number + 1) after
  at_next next line after is shorter said = record { comes = turn line (lines_of after) (Ok next) is said; room = omega (arith, so_far.room, shorter) }

  pub at_end : (next : List Case) → lines_of rest ≡ rest ∷ [] → cases_behind contract id number rest cs ≡ Ok next → cases_of contract id text ≡ Ok next
  at_end next is said = sym (turn rest [] (Ok next) is said)

  pub fails_at : (e : CasesError) (line : List ℕ) (more : List (List ℕ)) → lines_of rest ≡ line ∷ more → CasesFail e (cases_behind contract id number line cs) → CasesFail e (cases_of contract id text)
  fails_at cases.Memory line more is said = tt
  fails_at (cases.Bad refused) line more is said = sym (turn line more (Err refused) is said)
