-- Coins are summed up one after the other.
use Rattle.std.proofs.Common.{◌≡◌, ℕ, ◌+◌, ◌≤◌, List, [], ◌∷◌, length, drop, Option, Some, None, sym, ap, ◌∙◌, arith}
use Rattle.std.specs.Prelude.{slice_get}
use Rattle.std.proofs.lemmas.List.{drop_all}
use Rattle.cs_tx_value.specs.declared.object.Object.{Object}
use Rattle.cs_tx.specs.Token.{amount_of_coin, added, sum_from}
use Rattle.cs_eval_values.proofs.Going.{opened_at}

module _ (coins : List Object) (place sum : ℕ) (coin : Object) (there : Some coin ≡ slice_get coins place) where
  here : sum_from (drop place coins) sum ≡ added sum (amount_of_coin coin) (sum_from (drop (place + 1) coins))
  here = ap (λ cs. sum_from cs sum) (opened_at coins place coin there)

  pub goes_on : (amount : ℕ) (total : Option ℕ) → amount_of_coin coin ≡ Some amount → sum_from (drop place coins) sum ≡ total
      → sum_from (drop (place + 1) coins) (sum + amount) ≡ total
  goes_on amount total is so_far = sym (here ∙ ap (λ a. added sum a (sum_from (drop (place + 1) coins))) is) ∙ so_far

  pub stops : (total : Option ℕ) → amount_of_coin coin ≡ None → sum_from (drop place coins) sum ≡ total → None ≡ total
  stops total is so_far = sym (here ∙ ap (λ a. added sum a (sum_from (drop (place + 1) coins))) is) ∙ so_far
