-- Worked rows: what expressions give, where they trap, and what they spend.
use Rattle.std.proofs.Common.{◌≡◌, ℕ, Bool, true, false, pos, List, [], ◌∷◌, map, refl, ap, ◌∙◌}
use Rattle.sha2.specs.Sha256.{sha256}
use Rattle.cs_lang.specs.declared.tree.Operator.{Operator}
use Rattle.cs_lang.specs.declared.tree.Operator.TheVariants as operator
use Rattle.cs_lang.specs.declared.tree.Comparison.TheVariants as comparison
use Rattle.cs_lang.specs.declared.tree.Rank.{Rank}
use Rattle.cs_lang.specs.declared.tree.Rank.TheVariants as rank
use Rattle.cs_lang.specs.declared.tree.Expr.{Expr, roll-Expr}
use Rattle.cs_lang.specs.declared.tree.Shape.{Shape, roll-Shape}
use Rattle.cs_lang.specs.declared.tree.Link.{Link, roll-Link}
use Rattle.cs_lang.specs.declared.tree.Step.{Step}
use Rattle.cs_lang.specs.declared.tree.Access.{Access}
use Rattle.cs_lang.specs.declared.tree.Access.TheOpen.{Shape-F}
use Rattle.cs_tx_value.specs.laws.Layers.{out-Int, out-Bool, out-Bytes}
use Rattle.cs_eval_values.specs.declared.stop.Cause.TheVariants as cause
use Rattle.cs_eval_values.specs.Runs.{Run, Gave, Trapped}
use Rattle.cs_eval_values.specs.Datums.{Datum}
use Rattle.cs_eval_values.specs.Operators.{int, truth, text}
use Rattle.cs_eval.specs.Meaning.{Environment, Meant, Linking, run_of, shape_means, expr_meant, link_meant, meaning}
use Rattle.cs_eval_law.proofs.Trees.{shape_from, meant_shape, meant_expr, meant_link}

abbrev Part : Type 0
Part = Shape-F Access Shape Expr Link Step

-- an expression whose own token stands at a place
abbrev expr : ℕ → Part → Expr
expr place x = roll-Expr (record { first = place; place = place; shape = roll-Shape x })

abbrev number : ℕ → Part
number n = Shape-F.Number n

module _ (sight : Environment) where
  means : (place : ℕ) (x : Part) → expr_meant sight (expr place x) ≡ shape_means sight (shape_from sight x) place
  means place x = meant_expr sight (record { first = place; place = place; shape = roll-Shape x }) ∙ ap (λ (f : ℕ → Meant). f place) (meant_shape sight x)

  links : (op : Operator) (x : Part)
      → link_meant sight (roll-Link (record { operator = op; first = 0; place = 1; right = expr 2 x })) ≡ record { operator = op; place = 1; right = shape_means sight (shape_from sight x) 2 }
  links op x =
      meant_link sight (record { operator = op; first = 0; place = 1; right = expr 2 x })
      ∙ ap (λ (m : Meant). record { operator = op; place = 1; right = m }) (means 2 x)

  -- a number spends 1
  seven : meaning sight (expr 0 (number 7)) ≡ Gave (int (pos 7)) 1
  seven = ap run_of (means 0 (number 7))

  -- a hash spends 17, and its part
  hashed : meaning sight (expr 0 (Shape-F.Sha256 (expr 1 (Shape-F.Bytes [])))) ≡ Gave (text (sha256 [])) 18
  hashed =
      ap run_of (means 0 (Shape-F.Sha256 (expr 1 (Shape-F.Bytes []))))
      ∙ ap (λ (m : Meant). run_of (shape_means sight (Shape-F.Sha256 m) 0)) (means 1 (Shape-F.Bytes []))
      ∙ rw (out-Bytes []) refl

  -- comparing bytes spends 17, and its parts
  same_bytes : meaning sight (expr 1 (Shape-F.Compared comparison.Equal (expr 0 (Shape-F.Bytes [])) (expr 2 (Shape-F.Bytes [])))) ≡ Gave (truth true) 19
  same_bytes =
      ap run_of (means 1 (Shape-F.Compared comparison.Equal (expr 0 (Shape-F.Bytes [])) (expr 2 (Shape-F.Bytes []))))
      ∙ ap (λ (m : Meant). run_of (shape_means sight (Shape-F.Compared comparison.Equal m (expr_meant sight (expr 2 (Shape-F.Bytes [])))) 1)) (means 0 (Shape-F.Bytes []))
      ∙ ap (λ (m : Meant). run_of (shape_means sight (Shape-F.Compared comparison.Equal (shape_means sight (Shape-F.Bytes []) 0) m) 1)) (means 2 (Shape-F.Bytes []))
      ∙ rw (out-Bytes []) refl

  -- an operator and its operands
  abbrev chain : Rank → Operator → Part → Part → Expr
  chain r op x y = expr 1 (Shape-F.Chain r (expr 0 x) (roll-Link (record { operator = op; first = 0; place = 1; right = expr 2 y }) ∷ []))

  chained : (r : Rank) (op : Operator) (x y : Part) → meaning sight (chain r op x y)
      ≡ run_of (shape_means sight (Shape-F.Chain r (shape_means sight (shape_from sight x) 0) (record { operator = op; place = 1; right = shape_means sight (shape_from sight y) 2 } ∷ [])) 1)
  chained r op x y =
      let l : Link = roll-Link (record { operator = op; first = 0; place = 1; right = expr 2 y }) in
      ap run_of (means 1 (Shape-F.Chain r (expr 0 x) (l ∷ [])))
      ∙ ap (λ (m : Meant). run_of (shape_means sight (Shape-F.Chain r m (link_meant sight l ∷ [])) 1)) (means 0 x)
      ∙ ap (λ (k : Linking). run_of (shape_means sight (Shape-F.Chain r (shape_means sight (shape_from sight x) 0) (k ∷ [])) 1)) (links op y)

  sum : meaning sight (chain rank.Sum operator.Plus (number 1) (number 2)) ≡ Gave (int (pos 3)) 3
  sum = chained rank.Sum operator.Plus (number 1) (number 2) ∙ rw (out-Int (pos 1), out-Int (pos 2)) refl

  -- a trap is told at the operator, and what was begun was spent
  too_large : meaning sight (chain rank.Sum operator.Plus (number 9223372036854775807) (number 1)) ≡ Trapped cause.Range 1 3
  too_large = chained rank.Sum operator.Plus (number 9223372036854775807) (number 1) ∙ rw (out-Int (pos 9223372036854775807), out-Int (pos 1)) refl

  by_none : meaning sight (chain rank.Product operator.Divide (number 1) (number 0)) ≡ Trapped cause.Divisor 1 3
  by_none = chained rank.Product operator.Divide (number 1) (number 0) ∙ rw (out-Int (pos 1), out-Int (pos 0)) refl

  -- what is decided leaves the right side out
  decided : meaning sight (chain rank.And operator.And (Shape-F.Truth false) (Shape-F.Truth true)) ≡ Gave (truth false) 2
  decided = chained rank.And operator.And (Shape-F.Truth false) (Shape-F.Truth true) ∙ rw (out-Bool false) refl

  open_still : meaning sight (chain rank.And operator.And (Shape-F.Truth true) (Shape-F.Truth false)) ≡ Gave (truth false) 3
  open_still = chained rank.And operator.And (Shape-F.Truth true) (Shape-F.Truth false) ∙ rw (out-Bool true, out-Bool false) refl
