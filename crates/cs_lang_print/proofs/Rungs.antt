-- The rules of expressions by how tightly they hold together.
use Rattle.std.proofs.Common.{◌≡◌, ℕ, zero, suc, ◌≤◌, List, [], map, refl, ap, subst, arith, inl, inr}
use Rattle.std.specs.Prelude.{None, Some, ◌⊎◌, codes}
use Rattle.cs_lang_token.specs.declared.kind.Kind.TheVariants as kind
use Rattle.cs_lang_token.specs.Grammar.{Rule, pair, mapped, either, nothing, links}
use Rattle.cs_lang_token.specs.Rules.{sign, room_of, less_one, joined_pair}
use Rattle.cs_lang.specs.declared.tree.Rank.{Rank}
use Rattle.cs_lang.specs.declared.tree.Rank.TheVariants as rank
use Rattle.cs_lang.specs.declared.tree.Comparison.{Comparison}
use Rattle.cs_lang.specs.declared.tree.Expr.{Expr}
use Rattle.cs_lang.specs.Trees.{with_link, with_step, grouped, negative_expr, not_expr, compared_expr}
use Rattle.cs_lang.specs.Rules.{kinds, primary, access, operators, chain, comparisons, comparison_rule, Whole, Negated, Signed, expression}
use Rattle.cs_lang_print.specs.Spelling.{parenthesized as around}
use Rattle.cs_lang_print.specs.Places.{bare_expr}
use Rattle.cs_lang_print.proofs.Says.{Says, both, no_place, says_pair, says_mapped, says_left, says_right, says_nothing, says_same, says_then_nothing, says_links_none, says_sign}
use Rattle.cs_lang_print.proofs.Moves.{bare_item, bare_way, same_as, if_some, move_link, move_step, move_joined, move_compared, move_grouped, grouped_bare}

abbrev pub at8 : ℕ → ℕ → Rule Expr
at8 n left = primary (expression (suc n) (less_one left) Whole) (kinds (suc n) left) (room_of left)

abbrev pub at7 : ℕ → ℕ → Rule Expr
at7 n left = mapped (joined_pair with_step) (pair (at8 n left) (links (access (expression (suc n) (less_one left) Whole) (room_of left)) 64))

abbrev pub at6 : ℕ → ℕ → Rule Expr
at6 n left = either (mapped negative_expr (pair (sign kind.Minus (room_of left)) (expression (suc n) (less_one left) Signed))) (at7 n left)

abbrev pub at5 : ℕ → ℕ → Rule Expr
at5 n left = chain rank.Product (at6 n left)

abbrev pub at4 : ℕ → ℕ → Rule Expr
at4 n left = chain rank.Sum (at5 n left)

abbrev pub at3 : ℕ → ℕ → Rule Expr
at3 n left = comparison_rule (at4 n left)

abbrev pub at2 : ℕ → ℕ → Rule Expr
at2 n left = either (mapped not_expr (pair (sign kind.Not (room_of left)) (expression (suc n) (less_one left) Negated))) (at3 n left)

abbrev pub at1 : ℕ → ℕ → Rule Expr
at1 n left = chain rank.And (at2 n left)

abbrev pub at0 : ℕ → ℕ → Rule Expr
at0 n left = chain rank.Or (at1 n left)

abbrev pub rule_at : ℕ → ℕ → ℕ → Rule Expr
rule_at zero n left = at0 n left
rule_at (suc zero) n left = at1 n left
rule_at (suc (suc zero)) n left = at2 n left
rule_at (suc (suc (suc zero))) n left = at3 n left
rule_at (suc (suc (suc (suc zero)))) n left = at4 n left
rule_at (suc (suc (suc (suc (suc zero))))) n left = at5 n left
rule_at (suc (suc (suc (suc (suc (suc zero)))))) n left = at6 n left
rule_at (suc (suc (suc (suc (suc (suc (suc zero))))))) n left = at7 n left
rule_at (suc (suc (suc (suc (suc (suc (suc (suc t)))))))) n left = at8 n left

up_step : {e : Expr} {s : List ℕ} (n left : ℕ) → Says bare_expr (at8 n left) e s → Says bare_expr (at7 n left) e s
up_step n left a =
    says_mapped {B = both bare_expr (map bare_way)} bare_expr (joined_pair with_step) (λ z. move_joined with_step bare_way move_step z.1 z.0)
    (says_then_nothing (map bare_way) (links (access (expression (suc n) (less_one left) Whole) (room_of left)) 64) [] (says_links_none (map bare_way) (access (expression (suc n) (less_one left) Whole) (room_of left)) 64) a)

up_chain : {e : Expr} {s : List ℕ} (r : Rank) (R : Rule Expr) → Says bare_expr R e s → Says bare_expr (chain r R) e s
up_chain r R a =
    says_mapped {B = both bare_expr (map bare_item)} bare_expr (joined_pair (with_link r)) (λ z. move_joined (with_link r) bare_item (move_link r) z.1 z.0)
    (says_then_nothing (map bare_item) (links (λ more. pair (operators r more) R) 64) [] (says_links_none (map bare_item) (λ more. pair (operators r more) R) 64) a)

abbrev pub bare_side : (Comparison × ℕ) × Expr → (Comparison × ℕ) × Expr
bare_side = both (both same_as no_place) bare_expr

up_compared : {e : Expr} {s : List ℕ} (R : Rule Expr) → Says bare_expr R e s → Says bare_expr (comparison_rule R) e s
up_compared R a =
    says_mapped {B = both bare_expr (if_some bare_side)} bare_expr compared_expr move_compared
    (says_then_nothing (if_some bare_side) (either (mapped Some (pair comparisons R)) (nothing None)) None (says_right (says_nothing (if_some bare_side) None)) a)

-- what holds together more tightly may stand where less is asked
down : {e : Expr} {s : List ℕ} (u n left : ℕ) → Says bare_expr (rule_at (suc u) n left) e s → Says bare_expr (rule_at u n left) e s
down zero n left a = up_chain rank.Or (at1 n left) a
down (suc zero) n left a = up_chain rank.And (at2 n left) a
down (suc (suc zero)) n left a = says_right a
down (suc (suc (suc zero))) n left a = up_compared (at4 n left) a
down (suc (suc (suc (suc zero)))) n left a = up_chain rank.Sum (at5 n left) a
down (suc (suc (suc (suc (suc zero))))) n left a = up_chain rank.Product (at6 n left) a
down (suc (suc (suc (suc (suc (suc zero)))))) n left a = says_right a
down (suc (suc (suc (suc (suc (suc (suc zero))))))) n left a = up_step n left a
down (suc (suc (suc (suc (suc (suc (suc (suc u)))))))) n left a = a

last_or_less : (t u : ℕ) → t ≤ suc u → (suc u ≡ t) ⊎ (t ≤ u)
last_or_less zero u le = inr (omega arith)
last_or_less (suc t) zero le = inl (omega (arith, le))
last_or_less (suc t) (suc u) le = elim (last_or_less t u (omega (arith, le))) [
  | inl e ↦ inl (ap suc e)
  | inr l ↦ inr (omega arith)
]

pub lift : {e : Expr} {s : List ℕ} (u t n left : ℕ) → t ≤ u → Says bare_expr (rule_at u n left) e s → Says bare_expr (rule_at t n left) e s
lift {e} {s} zero t n left le a = (let is : zero ≡ t = omega (arith, le) in subst (λ (k : ℕ). Says bare_expr (rule_at k n left) e s) is a)
lift {e} {s} (suc u) t n left le a = elim (last_or_less t u le) [
  | inl is ↦ subst (λ (k : ℕ). Says bare_expr (rule_at k n left) e s) is a
  | inr less ↦ lift u t n left less (down u n left a)
]

-- in parentheses
pub says_around : {e : Expr} {s : List ℕ} (n left : ℕ) → Says bare_expr (at0 n left) e s → Says bare_expr (at8 (suc n) (suc left)) e (around s)
says_around {e} {s} n left a =
    says_left (says_same e (grouped_bare (0, (e, 0)))
    (says_mapped {B = both no_place (both bare_expr no_place)} bare_expr grouped move_grouped
    (says_pair (says_sign kind.Open (codes "(") (omega arith) (λ place rest. refl)) (says_pair a (says_sign kind.Close (codes ")") (omega arith) (λ place rest. refl))))))
