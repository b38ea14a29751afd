-- The words of the descent are the readers of the grammar.
use Rattle.std.proofs.Common.{◌≡◌, ℕ, zero, suc, ◌+◌, ◌-◌, ◌<◌, Bool, true, false, List, [], ◌∷◌, refl, sym, ap, ◌∙◌, arith, sub-one}
use Rattle.cs_lang_token.specs.declared.token.Token.{Token}
use Rattle.cs_lang_token.specs.Grammar.{Reader}
use Rattle.cs_lang_token.specs.Rules.{room_of}
use Rattle.cs_lang.specs.declared.tree.Rank.{Rank}
use Rattle.cs_lang.specs.declared.tree.Rank.TheVariants as rank
use Rattle.cs_lang.specs.declared.tree.ValueKind.{ValueKind}
use Rattle.cs_lang.specs.declared.tree.Expr.{Expr}
use Rattle.cs_lang.specs.declared.tree.Statement.{Statement}
use Rattle.cs_lang.specs.Rules.{Part, Whole, Negated, Signed}
use Rattle.cs_lang.specs.Readers.{commas_at, optional_at, two_at, value_kind_at, kind_level, inside_kind, reader_of, expression_at, inside_expr, inside_items, items_level, inside_two, two_level, side_level, optional_items, inside_optional, group_level, bracket_level, empty_level, len_level, sha256_level, concat_level, called_level, depint_level, worded_level, primary_level, access_level, post_level, signed_level, ranked_product, ranked_sum, compared_level, no_level, ranked_and, below, ranked, arguments_level, statements_at, inside_statements, block_level, let_level, set_level, if_level, for_level, make_level, call_level, answer_level, statement_level, statements_level}

expression_is : (left : ℕ) (part : Part) → expression_at left part ≡ reader_of part (inside_expr left) (kind_level left) (room_of left)
unfolding expression_at inside_expr
expression_is zero part = refl
expression_is (suc left) part = refl

-- an expression is a chain of the loosest rank
pub whole_ranked : (left : ℕ) → expression_at left Whole ≡ ranked rank.Or left
unfolding ranked below ranked_and no_level compared_level side_level ranked_sum ranked_product signed_level post_level access_level primary_level worded_level group_level bracket_level inside_items inside_two empty_level len_level sha256_level concat_level called_level depint_level
whole_ranked left = expression_is left Whole

negated_no : (left : ℕ) → expression_at left Negated ≡ no_level left
unfolding ranked below ranked_and no_level compared_level side_level ranked_sum ranked_product signed_level post_level access_level primary_level worded_level group_level bracket_level inside_items inside_two empty_level len_level sha256_level concat_level called_level depint_level
negated_no left = expression_is left Negated

signed_signed : (left : ℕ) → expression_at left Signed ≡ signed_level left
unfolding ranked below ranked_and no_level compared_level side_level ranked_sum ranked_product signed_level post_level access_level primary_level worded_level group_level bracket_level inside_items inside_two empty_level len_level sha256_level concat_level called_level depint_level
signed_signed left = expression_is left Signed

kinds_is : (left : ℕ) → value_kind_at left ≡ kind_level left
unfolding value_kind_at kind_level inside_kind
kinds_is zero = refl
kinds_is (suc left) = refl

statements_is : (left : ℕ) → statements_at left ≡ statements_level left
unfolding statements_at statements_level statement_level let_level set_level if_level for_level make_level call_level answer_level block_level inside_statements
statements_is zero = refl
statements_is (suc left) = refl

-- ---- within one more level

pub inside_kind_is : (left : ℕ) (ts : List Token) → 0 < left → inside_kind left ts ≡ kind_level (left - 1) ts
unfolding inside_kind
inside_kind_is zero ts lt = absurd (omega (arith, lt))
inside_kind_is (suc left) ts lt = rw sub-one (ap (λ (r : Reader ValueKind). r ts) (kinds_is left))

pub inside_whole_is : (left : ℕ) (ts : List Token) → 0 < left → inside_expr left Whole ts ≡ ranked rank.Or (left - 1) ts
unfolding inside_expr
inside_whole_is zero ts lt = absurd (omega (arith, lt))
inside_whole_is (suc left) ts lt = rw sub-one (ap (λ (r : Reader Expr). r ts) (whole_ranked left))

pub inside_negated_is : (left : ℕ) (ts : List Token) → 0 < left → inside_expr left Negated ts ≡ no_level (left - 1) ts
unfolding inside_expr
inside_negated_is zero ts lt = absurd (omega (arith, lt))
inside_negated_is (suc left) ts lt = rw sub-one (ap (λ (r : Reader Expr). r ts) (negated_no left))

pub inside_signed_is : (left : ℕ) (ts : List Token) → 0 < left → inside_expr left Signed ts ≡ signed_level (left - 1) ts
unfolding inside_expr
inside_signed_is zero ts lt = absurd (omega (arith, lt))
inside_signed_is (suc left) ts lt = rw sub-one (ap (λ (r : Reader Expr). r ts) (signed_signed left))

pub inside_items_is : (left : ℕ) (ts : List Token) → 0 < left → inside_items left ts ≡ items_level (left - 1) ts
unfolding inside_items items_level inside_expr
inside_items_is zero ts lt = absurd (omega (arith, lt))
inside_items_is (suc left) ts lt = rw sub-one (ap (λ (r : Reader Expr). commas_at r ts) (whole_ranked left))

pub inside_two_is : (left : ℕ) (ts : List Token) → 0 < left → inside_two left ts ≡ two_level (left - 1) ts
unfolding inside_two two_level inside_expr
inside_two_is zero ts lt = absurd (omega (arith, lt))
inside_two_is (suc left) ts lt = rw sub-one (ap (λ (r : Reader Expr). two_at r ts) (whole_ranked left))

pub inside_optional_is : (left : ℕ) (ts : List Token) → 0 < left → inside_optional left ts ≡ optional_items (left - 1) ts
unfolding inside_optional optional_items inside_items items_level inside_expr
inside_optional_is zero ts lt = absurd (omega (arith, lt))
inside_optional_is (suc left) ts lt = rw sub-one (ap (λ (r : Reader Expr). optional_at (commas_at r) ts) (whole_ranked left))

pub inside_statements_is : (left : ℕ) (ts : List Token) → 0 < left → inside_statements left ts ≡ statements_level (left - 1) ts
unfolding inside_statements
inside_statements_is zero ts lt = absurd (omega (arith, lt))
inside_statements_is (suc left) ts lt = rw sub-one (ap (λ (r : Reader (List Statement)). r ts) (statements_is left))
