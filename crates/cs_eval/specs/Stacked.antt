-- A stack, as it is seen.
use Rattle.std.specs.Prelude.{ℕ, List, refl}
use Rattle.std.specs.Coded.{Coded, code_by, coded×, coded_list, coded_ℕ}

-- what stands on it, from its top, and how many places it has
pub record Stacked (T : Type 0) : Type 0 where
  pub items : List T
  pub most : ℕ

abbrev pub stacked_code : (T : Type 0) → Coded T → Coded (Stacked T)
stacked_code T code =
    code_by (List T × ℕ) (coded× (coded_list code) coded_ℕ) (λ s. (s.items, s.most))
    (λ p. record { items = p.0; most = p.1 }) (λ _. refl)
