-- Lines that are put together.
use Rattle.std.proofs.Common.{◌≡◌, ◌⊎◌, ◌++◌, ℕ, List, [], ◌∷◌, inl, inr, refl, ◌∙◌, append_assoc}
use Rattle.cs_lang.specs.declared.tree.Method.{Method}
use Rattle.cs_types_kinds.specs.declared.scope.Costs.{Costs}
use Rattle.cs_cli.specs.Reports.{method_lines}

pub thrice : (o a b c : List ℕ) → ((o ++ a) ++ b) ++ c ≡ o ++ (a ++ (b ++ c))
thrice o a b c = append_assoc (o ++ a) b c ∙ append_assoc o a (b ++ c)

-- where one of both is used up, no line is left
pub no-lines : (methods : List Method) (costs : List Costs) → (methods ≡ []) ⊎ (costs ≡ []) → method_lines methods costs ≡ []
no-lines [] costs ended = refl
no-lines (m ∷ ms) [] ended = refl
no-lines (m ∷ ms) (c ∷ cs) (inl is) = absurd (cc)
no-lines (m ∷ ms) (c ∷ cs) (inr is) = absurd (cc)
