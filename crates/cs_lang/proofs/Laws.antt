-- The readers of contract texts are those of the grammar's rules.
use Rattle.std.proofs.Common.{◌≡◌, ℕ, zero, suc, ◌+◌, ◌<◌, ◌≤◌, Bool, true, false, List, [], ◌∷◌, ◌++◌, refl, sym, ap, subst, ◌∙◌, arith, inl, inr}
use Rattle.std.specs.Prelude.{Result, Ok, Err, ◌⊎◌, if◌then◌else◌, Option, None, Some}
use Rattle.cs_lang_token.specs.declared.token.Token.{Token}
use Rattle.cs_lang_token.specs.declared.token.Text.{Text}
use Rattle.cs_lang_token.specs.declared.kind.Kind.{Kind}
use Rattle.cs_lang_token.specs.declared.kind.Kind.TheVariants as kind
use Rattle.cs_lang_token.specs.Kinds.{is}
use Rattle.cs_lang_token.specs.Grammar.{TokenMark, without_marks, Rule, Reader, begins, pair, mapped, either, nothing, links, many, pair_read, mapped_at, either_at, nothing_at, refused_at, links_at, many_read, IsReader}
use Rattle.cs_lang_token.specs.Rules.{sign, sign_at, name, name_token_at, number, number_token_at, bytes, room_of, less_one, joined_pair, commas}
use Rattle.cs_lang_token.proofs.RuleLaws.{Law, Leads, Past, fits, rows, pair_law, then_law, mapped_law, sign_law, name_law, bytes_law, number_law, wider_law, weaker_law, nothing_law, either_law, many_law, links_law, commas_law, gate_law, gate_past, gate_leads, Some', some_of, some_pair, some_mapped, some_sign, some_many, some_left, some_right, in_first, in_second}
use Rattle.cs_lang_token.proofs.KindTests.{disjoint, within}
use Rattle.cs_lang_token.proofs.Grammars.{Implies, begins_implies, begins_more, plain_append}
use Rattle.std.proofs.lemmas.List.{append-nil}
use Rattle.cs_lang.specs.declared.tree.Rank.{Rank}
use Rattle.cs_lang.specs.declared.tree.Rank.TheVariants as rank
use Rattle.cs_lang.specs.declared.tree.Operator.{Operator}
use Rattle.cs_lang.specs.declared.tree.Operator.TheVariants as operator
use Rattle.cs_lang.specs.declared.tree.Comparison.{Comparison}
use Rattle.cs_lang.specs.declared.tree.Comparison.TheVariants as comparison
use Rattle.cs_lang.specs.declared.tree.ValueKind.{ValueKind}
use Rattle.cs_lang.specs.declared.tree.ValueKind.TheVariants as value_kind
use Rattle.cs_lang.specs.declared.tree.Expr.{Expr}
use Rattle.cs_lang.specs.declared.tree.Access.{Access}
use Rattle.cs_lang.specs.declared.tree.Block.{Block}
use Rattle.cs_lang.specs.declared.tree.Statement.{Statement}
use Rattle.cs_lang.specs.declared.tree.Field.{Field}
use Rattle.cs_lang.specs.declared.tree.TypeDef.{TypeDef}
use Rattle.cs_lang.specs.declared.tree.Slot.{Slot}
use Rattle.cs_lang.specs.declared.tree.Method.{Method}
use Rattle.cs_lang.specs.Trees.{with_link, with_step, field_step, index_step, number_expr, bytes_expr, name_expr, truth_expr, grouped, listed, empty_expr, len_expr, sha256_expr, concat_expr, called_expr, depint_expr, negative_expr, not_expr, operation, comparing, compared_expr, plain_kind, list_value_kind}
use Rattle.cs_lang.specs.Rules.{keyword, kind_rule, kinds, in_parentheses, group, bracket, concat, called, depint, worded, primary, access, post, operators, chain, signed, comparisons, comparison_rule, Part, Whole, Negated, Signed, product, no, rule_of, expression}
use Rattle.cs_lang.specs.Readers.{keyword_at, commas_at, kind_reader, value_kind_at, kind_level, inside_kind, in_parentheses_at, group_at, bracket_at, concat_at, called_at, depint_at, empty_at, len_at, sha256_at, worded_at, primary_at, access_at, step_kinds, post_at, kinds_of, operators_at, chain_at, signed_at, comparison_kinds, comparisons_at, compared_at, no_at, reader_of, nowhere, expression_at, expression_kinds}

-- ---- kinds

module _ {E : Type 0} {I : Rule ValueKind} {i : Reader ValueKind} (room : Bool) (inside : room ≡ true → Law E I false (kind.IntKind ∷ kind.BoolKind ∷ kind.BytesKind ∷ kind.OpenList ∷ []) [] i) (some : E → Some' I) where
  kind_law : Law E (kind_rule I room) false (kind.IntKind ∷ kind.BoolKind ∷ kind.BytesKind ∷ kind.OpenList ∷ []) [] (kind_reader i room)
  kind_law =
      either_law (mapped_law (plain_kind value_kind.Int) (sign_law kind.IntKind refl))
      (either_law (mapped_law (plain_kind value_kind.Bool) (sign_law kind.BoolKind refl))
      (either_law (mapped_law (plain_kind value_kind.Bytes) (sign_law kind.BytesKind refl))
      (mapped_law list_value_kind (gate_law room kind.OpenList refl (λ e. then_law (inside e) (sign_law kind.CloseList refl)) (λ e. some_pair {S = keyword kind.CloseList} (some e) (some_sign kind.CloseList refl))))
      refl) refl) refl

abbrev pub kind_heads : List Kind
kind_heads = kind.IntKind ∷ kind.BoolKind ∷ kind.BytesKind ∷ kind.OpenList ∷ []

pub some_kind : (n left : ℕ) → 1 ≤ n → Some' (kinds n left)
some_kind zero left le = absurd (omega (arith, le))
some_kind (suc n) left le = some_left {R = mapped (plain_kind value_kind.Int) (keyword kind.IntKind)} (some_mapped {R = keyword kind.IntKind} (plain_kind value_kind.Int) (some_sign kind.IntKind refl))

pub no_law : {X : Type 0} {E : Type 0} {hs gos : List Kind} (r : Reader X) → (E → ⊥) → Law E (λ x ms. ⊥) false hs gos r
no_law r never = record {
  reader = record {
    reads = λ x ms rest p stops. absurd p;
    found = λ e. absurd (never e);
    stuck = λ e. absurd (never e);
    same_ok = λ e. absurd (never e);
    same_err = λ e. absurd (never e);
    some = λ e. absurd (never e);
  };
  leads = λ x ms p. absurd p;
}

-- without room nothing is asked of what stands inside
pub no_room : {X : Type 0} {E : Type 0} {R : Rule X} {m : Bool} {hs gos : List Kind} {r : Reader X} → false ≡ true → Law E R m hs gos r
no_room e = absurd cc

pub kinds_law : (n left : ℕ) → Law (left + 2 ≤ n) (kinds n left) false kind_heads [] (value_kind_at left)
unfolding value_kind_at
kinds_law zero left = no_law (value_kind_at left) (λ e. omega (arith, e))
kinds_law (suc n) zero = kind_law {i = refused_at} false (λ e. no_room e) (λ e. some_kind n zero (omega (arith, e)))
kinds_law (suc n) (suc left) =
    let less : suc left + 2 ≤ suc n → left + 2 ≤ n = λ e. omega (arith, e) in
    kind_law true (λ _. weaker_law less (kinds_law n left)) (λ e. some_kind n left (omega (arith, e)))

-- ---- expressions

abbrev pub primary_heads : List Kind
primary_heads =
    kind.Open ∷ kind.OpenList ∷ kind.Number ∷ kind.Bytes ∷ kind.Name ∷ kind.True ∷ kind.False ∷ kind.Empty ∷ kind.Len ∷ kind.Sha256 ∷ kind.Concat
    ∷ kind.Called ∷ kind.DepInt ∷ []

abbrev pub signed_heads : List Kind
signed_heads = kind.Minus ∷ primary_heads

abbrev pub goes_product : List Kind
goes_product = kind.Star ∷ kind.Slash ∷ kind.Percent ∷ step_kinds

abbrev pub goes_sum : List Kind
goes_sum = kind.Plus ∷ kind.Minus ∷ goes_product

abbrev pub goes_no : List Kind
goes_no = comparison_kinds ++ goes_sum

abbrev pub goes_and : List Kind
goes_and = kind.And ∷ goes_no

abbrev pub goes_whole : List Kind
goes_whole = kind.Or ∷ goes_and

abbrev pub goes : Part → List Kind
goes Whole = goes_whole
goes Negated = goes_no
goes Signed = step_kinds

abbrev pub heads : Part → List Kind
heads Whole = expression_kinds
heads Negated = expression_kinds
heads Signed = signed_heads

module _ {E : Type 0} {I : Rule Expr} {i : Reader Expr} (room : Bool) (inside : room ≡ true → Law E I false expression_kinds goes_whole i) (some : E → Some' I) where
  -- between parentheses
  held_law : (t : E → Some' I) → Law E (in_parentheses I room) false (kind.Open ∷ []) [] (in_parentheses_at i room)
  held_law t = gate_law room kind.Open refl (λ e. pair_law (inside e) (sign_law kind.Close refl) refl) (λ e. some_pair {S = keyword kind.Close} (t e) (some_sign kind.Close refl))

  group_law : Law E (group I room) false (kind.Open ∷ []) [] (group_at i room)
  group_law = mapped_law grouped (held_law some)

  items_law : room ≡ true → Law E (commas I) false expression_kinds (kind.Comma ∷ goes_whole) (commas_at i)
  items_law e = commas_law (kind.Comma ∷ goes_whole) refl refl (inside e)

  some_items : E → Some' (commas I)
  some_items e = let a = some e in (a.0 ∷ [], a.1, ((a.0, []), refl, (a.1, [], sym (append-nil a.1), a.2, refl)))

  bracket_law : Law E (bracket I room) false (kind.OpenList ∷ []) [] (bracket_at (commas_at i) room)
  bracket_law = mapped_law listed (gate_law room kind.OpenList refl (λ e. pair_law (items_law e) (sign_law kind.CloseList refl) refl) (λ e. some_pair {S = keyword kind.CloseList} (some_items e) (some_sign kind.CloseList refl)))

  two_law : room ≡ true → Law E (pair I (pair (keyword kind.Comma) I)) false expression_kinds goes_whole (pair_read i (pair_read (keyword_at kind.Comma) i))
  two_law e = pair_law (inside e) (then_law (sign_law kind.Comma refl) (inside e)) refl

  some_two : E → Some' (pair I (pair (keyword kind.Comma) I))
  some_two e = some_pair {S = pair (keyword kind.Comma) I} (some e) (some_pair {R = keyword kind.Comma} {S = I} (some_sign kind.Comma refl) (some e))

  concat_law : Law E (concat I room) false (kind.Concat ∷ []) [] (concat_at i room)
  concat_law = mapped_law concat_expr (then_law (sign_law kind.Concat refl)
      (gate_law room kind.Open refl (λ e. pair_law (two_law e) (sign_law kind.Close refl) refl) (λ e. some_pair {S = keyword kind.Close} (some_two e) (some_sign kind.Close refl))))

  called_law : Law E (called room) false (kind.Called ∷ []) [] (called_at room)
  called_law =
      let parts : Law E (pair number (pair (keyword kind.Comma) name)) false (kind.Number ∷ []) [] (pair_read number_token_at (pair_read (keyword_at kind.Comma) name_token_at)) = then_law number_law (then_law (sign_law kind.Comma refl) name_law) in
      mapped_law called_expr (then_law (sign_law kind.Called refl)
      (gate_law room kind.Open refl (λ e. then_law parts (sign_law kind.Close refl)) (λ e. some_pair {S = keyword kind.Close} (some_of parts e) (some_sign kind.Close refl))))

  depint_law : Law E (depint room) false (kind.DepInt ∷ []) [] (depint_at room)
  depint_law =
      let parts : Law E (pair number (pair (keyword kind.Comma) number)) false (kind.Number ∷ []) [] (pair_read number_token_at (pair_read (keyword_at kind.Comma) number_token_at)) = then_law number_law (then_law (sign_law kind.Comma refl) number_law) in
      mapped_law depint_expr (then_law (sign_law kind.DepInt refl)
      (gate_law room kind.Open refl (λ e. then_law parts (sign_law kind.Close refl)) (λ e. some_pair {S = keyword kind.Close} (some_of parts e) (some_sign kind.Close refl))))

  module _ {K : Rule ValueKind} {k : Reader ValueKind} (kinds' : Law E K false kind_heads [] k) where
    worded_law : Law E (worded I K room) false (kind.True ∷ kind.False ∷ kind.Empty ∷ kind.Len ∷ kind.Sha256 ∷ kind.Concat ∷ kind.Called ∷ kind.DepInt ∷ []) [] (worded_at i k room)
    worded_law =
        either_law (mapped_law (truth_expr true) (sign_law kind.True refl))
        (either_law (mapped_law (truth_expr false) (sign_law kind.False refl))
        (either_law (mapped_law empty_expr (then_law (sign_law kind.Empty refl) kinds'))
        (either_law (mapped_law len_expr (then_law (sign_law kind.Len refl) (held_law some)))
        (either_law (mapped_law sha256_expr (then_law (sign_law kind.Sha256 refl) (held_law some)))
        (either_law concat_law (either_law called_law depint_law refl) refl) refl) refl) refl) refl) refl

    primary_law : Law E (primary I K room) false primary_heads [] (primary_at i k room)
    primary_law =
        either_law group_law (either_law bracket_law (either_law (mapped_law number_expr number_law)
        (either_law (mapped_law bytes_expr bytes_law) (either_law (mapped_law name_expr name_law) worded_law refl) refl) refl) refl) refl

    index_law : Law E (pair (sign kind.OpenList room) (pair I (keyword kind.CloseList))) false (kind.OpenList ∷ []) [] (pair_read (sign_at kind.OpenList room) (pair_read i (keyword_at kind.CloseList)))
    index_law = gate_law room kind.OpenList refl (λ e. pair_law (inside e) (sign_law kind.CloseList refl) refl) (λ e. some_pair {S = keyword kind.CloseList} (some e) (some_sign kind.CloseList refl))

    access_law : Law E (access I room true) false step_kinds [] (access_at i room)
    access_law = either_law (mapped_law field_step (then_law (sign_law kind.Dot refl) name_law)) (mapped_law index_step index_law) refl

    access_leads : (more : Bool) → Leads (access I room more) false step_kinds
    access_leads more x ms (inl (p, same, q)) = first (gate_leads kind.Dot more name p ms q)
      where
        first : (begins (is (kind.Dot ∷ [])) (without_marks ms) ≡ true) ⊎ ((false ≡ true) × (ms ≡ [])) → (begins (is step_kinds) (without_marks ms) ≡ true) ⊎ ((false ≡ true) × (ms ≡ []))
        first (inl h) = inl (begins_implies (is (kind.Dot ∷ [])) (is step_kinds) (without_marks ms) (in_first (kind.Dot ∷ []) (kind.OpenList ∷ [])) h)
        first (inr h) = inr h
    access_leads more x ms (inr (p, same, q)) = second (gate_leads kind.OpenList (if more then room else false) (pair I (keyword kind.CloseList)) p ms q)
      where
        second : (begins (is (kind.OpenList ∷ [])) (without_marks ms) ≡ true) ⊎ ((false ≡ true) × (ms ≡ [])) → (begins (is step_kinds) (without_marks ms) ≡ true) ⊎ ((false ≡ true) × (ms ≡ []))
        second (inl h) = inl (begins_implies (is (kind.OpenList ∷ [])) (is step_kinds) (without_marks ms) (in_second (kind.Dot ∷ []) (kind.OpenList ∷ [])) h)
        second (inr h) = inr h

    access_past : Past (access I room false) step_kinds
    access_past x ms (inl (p, same, q)) = let k = gate_past kind.Dot name p ms q in (k.0, k.1, k.2, in_first (kind.Dot ∷ []) (kind.OpenList ∷ []) k.0 k.3)
    access_past x ms (inr (p, same, q)) = let k = gate_past kind.OpenList (pair I (keyword kind.CloseList)) p ms q in (k.0, k.1, k.2, in_second (kind.Dot ∷ []) (kind.OpenList ∷ []) k.0 k.3)

    post_law : Law E (post I K room) false primary_heads step_kinds (post_at i k room)
    post_law = mapped_law (joined_pair with_step) (pair_law primary_law (links_law (access I room) step_kinds 64 refl access_law access_leads access_past) refl)

-- ---- operators

one_past : {X : Type 0} (f : ℕ → X) (k : Kind) (ks : List Kind) → Implies (is (k ∷ [])) (is ks) → Past (mapped f (sign k false)) ks
one_past f k ks i x ms (place, same, (t, same', p)) = (t, [], p.0, i t p.1)

one_leads : {X : Type 0} (f : ℕ → X) (k : Kind) (room : Bool) (ks : List Kind) → Implies (is (k ∷ [])) (is ks) → Leads (mapped f (sign k room)) false ks
one_leads f k room ks i x ms (place, same, (t, same', p)) = inl (ap (λ (l : List TokenMark). begins (is ks) (without_marks l)) p.0 ∙ i t p.1)

operators_past : (rank : Rank) → Past (operators rank false) (kinds_of rank)
operators_past rank.Or x ms p = one_past (operation operator.Or) kind.Or (kinds_of rank.Or) (λ t e. e) x ms p
operators_past rank.And x ms p = one_past (operation operator.And) kind.And (kinds_of rank.And) (λ t e. e) x ms p
operators_past rank.Sum x ms (inl p) = one_past (operation operator.Plus) kind.Plus (kinds_of rank.Sum) (in_first (kind.Plus ∷ []) (kind.Minus ∷ [])) x ms p
operators_past rank.Sum x ms (inr p) = one_past (operation operator.Minus) kind.Minus (kinds_of rank.Sum) (in_second (kind.Plus ∷ []) (kind.Minus ∷ [])) x ms p
operators_past rank.Product x ms (inl p) = one_past (operation operator.Times) kind.Star (kinds_of rank.Product) (in_first (kind.Star ∷ []) (kind.Slash ∷ kind.Percent ∷ [])) x ms p
operators_past rank.Product x ms (inr (inl p)) = one_past (operation operator.Divide) kind.Slash (kinds_of rank.Product) (λ t e. in_second (kind.Star ∷ []) (kind.Slash ∷ kind.Percent ∷ []) t (in_first (kind.Slash ∷ []) (kind.Percent ∷ []) t e)) x ms p
operators_past rank.Product x ms (inr (inr p)) = one_past (operation operator.Remainder) kind.Percent (kinds_of rank.Product) (λ t e. in_second (kind.Star ∷ []) (kind.Slash ∷ kind.Percent ∷ []) t (in_second (kind.Slash ∷ []) (kind.Percent ∷ []) t e)) x ms p

operators_leads : (rank : Rank) (room : Bool) → Leads (operators rank room) false (kinds_of rank)
operators_leads rank.Or room x ms p = one_leads (operation operator.Or) kind.Or room (kinds_of rank.Or) (λ t e. e) x ms p
operators_leads rank.And room x ms p = one_leads (operation operator.And) kind.And room (kinds_of rank.And) (λ t e. e) x ms p
operators_leads rank.Sum room x ms (inl p) = one_leads (operation operator.Plus) kind.Plus room (kinds_of rank.Sum) (in_first (kind.Plus ∷ []) (kind.Minus ∷ [])) x ms p
operators_leads rank.Sum room x ms (inr p) = one_leads (operation operator.Minus) kind.Minus room (kinds_of rank.Sum) (in_second (kind.Plus ∷ []) (kind.Minus ∷ [])) x ms p
operators_leads rank.Product room x ms (inl p) = one_leads (operation operator.Times) kind.Star room (kinds_of rank.Product) (in_first (kind.Star ∷ []) (kind.Slash ∷ kind.Percent ∷ [])) x ms p
operators_leads rank.Product room x ms (inr (inl p)) = one_leads (operation operator.Divide) kind.Slash room (kinds_of rank.Product) (λ t e. in_second (kind.Star ∷ []) (kind.Slash ∷ kind.Percent ∷ []) t (in_first (kind.Slash ∷ []) (kind.Percent ∷ []) t e)) x ms p
operators_leads rank.Product room x ms (inr (inr p)) = one_leads (operation operator.Remainder) kind.Percent room (kinds_of rank.Product) (λ t e. in_second (kind.Star ∷ []) (kind.Slash ∷ kind.Percent ∷ []) t (in_second (kind.Slash ∷ []) (kind.Percent ∷ []) t e)) x ms p

operators_law : {E : Type 0} (rank : Rank) → Law E (operators rank true) false (kinds_of rank) [] (operators_at rank)
unfolding operators_at
operators_law rank.Or = mapped_law (operation operator.Or) (sign_law kind.Or refl)
operators_law rank.And = mapped_law (operation operator.And) (sign_law kind.And refl)
operators_law rank.Sum = either_law (mapped_law (operation operator.Plus) (sign_law kind.Plus refl)) (mapped_law (operation operator.Minus) (sign_law kind.Minus refl)) refl
operators_law rank.Product =
    either_law (mapped_law (operation operator.Times) (sign_law kind.Star refl))
    (either_law (mapped_law (operation operator.Divide) (sign_law kind.Slash refl)) (mapped_law (operation operator.Remainder) (sign_law kind.Percent refl)) refl) refl

comparisons_law : {E : Type 0} → Law E comparisons false comparison_kinds [] comparisons_at
unfolding comparisons_at
comparisons_law =
    either_law (mapped_law (comparing comparison.Equal) (sign_law kind.Equal refl))
    (either_law (mapped_law (comparing comparison.NotEqual) (sign_law kind.NotEqual refl))
    (either_law (mapped_law (comparing comparison.Less) (sign_law kind.Less refl))
    (either_law (mapped_law (comparing comparison.LessOrEqual) (sign_law kind.LessOrEqual refl))
    (either_law (mapped_law (comparing comparison.Greater) (sign_law kind.Greater refl)) (mapped_law (comparing comparison.GreaterOrEqual) (sign_law kind.GreaterOrEqual refl)) refl) refl) refl) refl) refl

-- ---- chains

link_past : {Y : Type 0} (rank : Rank) (R : Rule Y) → Past (pair (operators rank false) R) (kinds_of rank)
link_past rank R x ms (a, b, at, p, q) = let k = operators_past rank x.0 a p in (k.0, k.1 ++ b, at ∙ ap (λ (l : List TokenMark). l ++ b) k.2, k.3)

link_leads : {Y : Type 0} (rank : Rank) (R : Rule Y) (room : Bool) → Leads (pair (operators rank room) R) false (kinds_of rank)
link_leads rank R room x ms (a, b, at, p, q) = elim (operators_leads rank room x.0 a p) [
  | inl h ↦ inl (ap (λ (l : List TokenMark). begins (is (kinds_of rank)) (without_marks l)) at ∙ ap (begins (is (kinds_of rank))) (plain_append a b) ∙ begins_more (is (kinds_of rank)) (without_marks a) (without_marks b) h)
  | inr (e, nil) ↦ absurd cc
]

pub chain_law : {E : Type 0} {R : Rule Expr} {r : Reader Expr} {hs gos : List Kind} (rank : Rank) (stays : List Kind) → rows (kinds_of rank) gos stays ≡ true → fits true (kinds_of rank) gos stays ≡ true → Law E R false hs gos r → Law E (chain rank R) false hs stays (chain_at rank r)
chain_law {R = R} rank stays row fit a =
    mapped_law (joined_pair (with_link rank)) (pair_law a (links_law (λ more. pair (operators rank more) R) stays 64 row (then_law (operators_law rank) a) (link_leads rank R) (link_past rank R)) fit)

compared_law : {E : Type 0} {R : Rule Expr} {r : Reader Expr} {hs : List Kind} → Law E R false hs goes_sum r → Law E (comparison_rule R) false hs goes_no (compared_at r)
compared_law a =
    mapped_law compared_expr (pair_law a
    (either_law (mapped_law Some (wider_law goes_no refl (then_law comparisons_law a))) (nothing_law None goes_no) refl) refl)

-- ---- all of an expression

module _ {E : Type 0} {I : Part → Rule Expr} {i : Part → Reader Expr} (room : Bool) (inside : (part : Part) → room ≡ true → Law E (I part) false (heads part) (goes part) (i part)) (some : (part : Part) → E → Some' (I part))
    {K : Rule ValueKind} {k : Reader ValueKind} (kinds' : Law E K false kind_heads [] k) where
  signed_law : Law E (signed (I Whole) (I Signed) K room) false signed_heads step_kinds (signed_at i k room)
  signed_law = either_law (mapped_law negative_expr (gate_law room kind.Minus refl (inside Signed) (some Signed))) (post_law room (inside Whole) (some Whole) kinds') refl

  product_law : Law E (product I K room) false signed_heads goes_product (chain_at rank.Product (signed_at i k room))
  product_law = chain_law rank.Product goes_product refl refl signed_law

  no_law' : Law E (no I K room) false expression_kinds goes_no (no_at i k room)
  no_law' = either_law (mapped_law not_expr (gate_law room kind.Not refl (inside Negated) (some Negated))) (compared_law (chain_law rank.Sum goes_sum refl refl product_law)) refl

  of_law : (part : Part) → Law E (rule_of part I K room) false (heads part) (goes part) (reader_of part i k room)
  of_law Whole = chain_law rank.Or goes_whole refl refl (chain_law rank.And goes_and refl refl no_law')
  of_law Negated = no_law'
  of_law Signed = signed_law

-- ---- a number alone is an expression

some_number : Some' number
some_number = some_of {E = Unit {0}} number_law tt

some_post : (I : Rule Expr) (K : Rule ValueKind) (room : Bool) → Some' (post I K room)
some_post I K room =
    let lone : Some' (primary I K room) = some_right {R = group I room} (some_right {R = bracket I room} (some_left {R = mapped number_expr number} (some_mapped {R = number} number_expr some_number))) in
    some_mapped {R = pair (primary I K room) (links (access I room) 64)} (joined_pair with_step) (some_pair {R = primary I K room} {S = links (access I room) 64} lone ([], [], refl))

some_chain : (rank : Rank) (R : Rule Expr) → Some' R → Some' (chain rank R)
some_chain rank R a = some_mapped {R = pair R (links (λ more. pair (operators rank more) R) 64)} (joined_pair (with_link rank)) (some_pair {R = R} {S = links (λ more. pair (operators rank more) R) 64} a ([], [], refl))

some_signed : (I : Part → Rule Expr) (K : Rule ValueKind) (room : Bool) → Some' (signed (I Whole) (I Signed) K room)
some_signed I K room = some_right {R = mapped negative_expr (pair (sign kind.Minus room) (I Signed))} (some_post (I Whole) K room)

some_no : (I : Part → Rule Expr) (K : Rule ValueKind) (room : Bool) → Some' (no I K room)
some_no I K room =
    let sum = some_chain rank.Sum (product I K room) (some_chain rank.Product (signed (I Whole) (I Signed) K room) (some_signed I K room)) in
    let rest : Some' (either (mapped Some (pair comparisons (chain rank.Sum (product I K room)))) (nothing None)) = some_right {R = mapped Some (pair comparisons (chain rank.Sum (product I K room)))} (None, [], (refl, refl)) in
    some_right {R = mapped not_expr (pair (sign kind.Not room) (I Negated))}
    (some_mapped {R = pair (chain rank.Sum (product I K room)) (either (mapped Some (pair comparisons (chain rank.Sum (product I K room)))) (nothing None))} compared_expr
    (some_pair {R = chain rank.Sum (product I K room)} {S = either (mapped Some (pair comparisons (chain rank.Sum (product I K room)))) (nothing None)} sum rest))

some_of_part : (part : Part) (I : Part → Rule Expr) (K : Rule ValueKind) (room : Bool) → Some' (rule_of part I K room)
some_of_part Whole I K room = some_chain rank.Or (chain rank.And (no I K room)) (some_chain rank.And (no I K room) (some_no I K room))
some_of_part Negated I K room = some_no I K room
some_of_part Signed I K room = some_signed I K room

pub some_expression : (n left : ℕ) (part : Part) → 1 ≤ n → Some' (expression n left part)
some_expression zero left part le = absurd (omega (arith, le))
some_expression (suc n) left part le = some_of_part part (expression n (less_one left)) (kinds n left) (room_of left)

-- ---- all levels

pub kind_level_is : (left : ℕ) → kind_level left ≡ value_kind_at left
unfolding kind_level value_kind_at inside_kind
kind_level_is zero = refl
kind_level_is (suc left) = refl

pub kind_level_law : (n left : ℕ) → Law (left + 2 ≤ n) (kinds n left) false kind_heads [] (kind_level left)
kind_level_law n left = subst (λ (r : Reader ValueKind). Law (left + 2 ≤ n) (kinds n left) false kind_heads [] r) (sym (kind_level_is left)) (kinds_law n left)

pub expression_law : (n left : ℕ) (part : Part) → Law (left + 3 ≤ n) (expression n left part) false (heads part) (goes part) (expression_at left part)
unfolding expression_at
expression_law zero left Whole = no_law (expression_at left Whole) (λ e. omega (arith, e))
expression_law zero left Negated = no_law (expression_at left Negated) (λ e. omega (arith, e))
expression_law zero left Signed = no_law (expression_at left Signed) (λ e. omega (arith, e))
expression_law (suc n) zero part =
    of_law {i = nowhere} false (λ p e. no_room e) (λ p e. some_expression n zero p (omega (arith, e))) (weaker_law (λ e. omega (arith, e)) (kind_level_law n zero)) part
expression_law (suc n) (suc left) part =
    let less : suc left + 3 ≤ suc n → left + 3 ≤ n = λ e. omega (arith, e) in
    let kinds_less : suc left + 3 ≤ suc n → suc left + 2 ≤ n = λ e. omega (arith, e) in
    of_law true (λ p _. weaker_law less (expression_law n left p)) (λ p e. some_expression n left p (omega (arith, e))) (weaker_law kinds_less (kind_level_law n (suc left))) part
