-- The readers of rows, step by step as the loops go.
use Rattle.std.proofs.Common.{◌≡◌, ℕ, zero, suc, ◌+◌, ◌-◌, ◌<◌, ◌≤◌, Bool, true, false, cond, List, [], ◌∷◌, ◌++◌, length, refl, sym, ap, subst, ◌∙◌, append_assoc, arith, inl, inr, rules, sub-one, add-one}
use Rattle.std.specs.Prelude.{Result, Ok, Err, ◌⊎◌, if◌then◌else◌}
use Rattle.std.proofs.lemmas.List.{append-nil}
use Rattle.cs_lang_token.specs.declared.token.Token.{Token}
use Rattle.cs_lang_token.specs.declared.token.Text.{Text}
use Rattle.cs_lang_token.specs.declared.kind.Kind.{Kind}
use Rattle.cs_lang_token.specs.declared.kind.Kind.TheVariants as kind
use Rattle.cs_lang_token.specs.Grammar.{Reader, ◌>>=◌, begins, pair_read, mapped_at, links_at, many_read}
use Rattle.cs_lang_token.specs.Kinds.{is}
use Rattle.cs_lang_token.specs.Rules.{name_token_at, joined_left, joined_pair, item_behind, first_and_rest}
use Rattle.cs_lang_token.specs.declared.cursor.Stop.{Stop}
use Rattle.cs_lang_token.specs.declared.cursor.Stop.TheVariants as reason
use Rattle.cs_lang_token.specs.Answers.{ReaderFails}
use Rattle.cs_lang_token.proofs.Grammars.{Answer, went, stop}
use Rattle.cs_lang.specs.declared.tree.Operator.{Operator}
use Rattle.cs_lang.specs.declared.tree.Rank.{Rank}
use Rattle.cs_lang.specs.declared.tree.Rank.TheVariants as rank
use Rattle.cs_lang.specs.declared.tree.Expr.{Expr}
use Rattle.cs_lang.specs.declared.tree.Field.{Field}
use Rattle.cs_lang.specs.declared.tree.Slot.{Slot}
use Rattle.cs_lang.specs.declared.tree.Statement.{Statement}
use Rattle.cs_lang.specs.declared.tree.TypeDef.{TypeDef}
use Rattle.cs_lang.specs.declared.tree.Method.{Method}
use Rattle.cs_lang.specs.Trees.{with_link, with_step, names_in_list, first_and_others}
use Rattle.cs_lang.specs.Readers.{keyword_at, commas_at, onward, turn, with_one, name_behind, field_level, fields_level, fields_onward, fields_turn, slot_level, slots_level, slots_onward, slots_turn, kinds_of, operators_at, step_kinds, below, ranked, ranked_and, ranked_sum, ranked_product, ranked_onward, ranked_turn, access_level, primary_level, post_level, post_onward, post_turn, items_level, items_onward, items_turn, statement_kinds, statement_level, statements_level, statements_onward, statements_turn, names_at, names_onward, names_turn, typedef_level, typedefs_level, typedefs_onward, typedefs_turn, method_level, methods_level, methods_onward, methods_turn}

abbrev pairs : {X : Type 0} → Expr → List X → List Token → Answer (Expr × List X)
pairs e xs rest = Ok ((e, xs), rest)

abbrev two : {X Y : Type 0} → X → Y → List Token → Answer (X × Y)
two x y rest = Ok ((x, y), rest)

-- a row of links behind what stands first
links_behind : {X : Type 0} (f : Expr → X → Expr) (r : Reader Expr) (first : Token → Bool) (s : Reader X) (left : ℕ) (a : Answer Expr) → ((a >>= λ x. links_at first s left x.1 >>= λ y. pairs x.0 y.0 y.1) >>= λ z. went (joined_left f z.0.0 z.0.1) z.1) ≡ (a >>= λ x. onward f first s left x.0 x.1)
links_behind f r first s left (Err b) = refl
links_behind {X = X} f r first s left (Ok x) = inner (links_at first s left x.1)
  where
    inner : (b : Answer (List X)) → ((b >>= λ y. pairs x.0 y.0 y.1) >>= λ z. went (joined_left f z.0.0 z.0.1) z.1) ≡ (b >>= λ z. went (joined_left f x.0 z.0) z.1)
    inner (Err e) = refl
    inner (Ok y) = refl

module _ {A X : Type 0} (f : A → X → A) (first : Token → Bool) (r : Reader X) where
  abbrev on : ℕ → A → List Token → Answer A
  on n e ts = onward f first r n e ts

  done_at : (n : ℕ) (e : A) (ts : List Token) → begins first ts ≡ false → on n e ts ≡ went e ts
  done_at zero e ts at = rw at refl
  done_at (suc n) e ts at = rw at refl

  -- the loop is over
  pub onward_done : (n m : ℕ) (e start : A) (ts ss : List Token) → on n e ts ≡ on m start ss → begins first ts ≡ false → on m start ss ≡ went e ts
  onward_done n m e start ts ss i at = sym i ∙ done_at n e ts at

  pub onward_full : (n m : ℕ) (e start : A) (ts ss : List Token) → on n e ts ≡ on m start ss → n ≡ 0 → begins first ts ≡ true → on m start ss ≡ stop ts
  onward_full n m e start ts ss i z at = let full : on 0 e ts ≡ stop ts = rw at refl in sym i ∙ ap (λ (k : ℕ). on k e ts) z ∙ full

  abbrev row : ℕ → A → Answer X → Answer A
  row n e a = (a >>= λ x. links_at first r n x.1 >>= λ xs. went (x.0 ∷ xs.0) xs.1) >>= λ z. went (joined_left f e z.0) z.1

  -- one turn
  turned : (n : ℕ) (e : A) (a : Answer X) → row n e a ≡ ((a >>= λ x. went (f e x.0) x.1) >>= λ z. on n z.0 z.1)
  turned n e (Err bad) = refl
  turned n e (Ok x) = inner (links_at first r n x.1)
    where
      inner : (b : Answer (List X)) → ((b >>= λ xs. went (x.0 ∷ xs.0) xs.1) >>= λ z. went (joined_left f e z.0) z.1) ≡ (b >>= λ z. went (joined_left f (f e x.0) z.0) z.1)
      inner (Ok y) = refl
      inner (Err bad) = refl

  once : (n k : ℕ) (e : A) (ts : List Token) → 0 < n → k ≡ n - 1 → begins first ts ≡ true → on n e ts ≡ (turn f r e ts >>= λ z. on k z.0 z.1)
  once zero k e ts lt is at = absurd (omega (arith, lt))
  once (suc n) k e ts lt is at =
      let same : k ≡ n = omega (arith, is) in
      ap (λ (b : Bool). (cond b (r ts >>= λ x. links_at first r n x.1 >>= λ xs. went (x.0 ∷ xs.0) xs.1) (went [] ts)) >>= λ z. went (joined_left f e z.0) z.1) at
      ∙ turned n e (r ts) ∙ ap (λ (j : ℕ). turn f r e ts >>= λ z. on j z.0 z.1) (sym same)

  pub onward_step : (n k m : ℕ) (e e' start : A) (ts rest ss : List Token) → on n e ts ≡ on m start ss → 0 < n → k ≡ n - 1 → begins first ts ≡ true → turn f r e ts ≡ went e' rest → on k e' rest ≡ on m start ss
  onward_step n k m e e' start ts rest ss i lt is at h =
      sym (once n k e ts lt is at ∙ ap (λ (a : Answer A). a >>= λ z. on k z.0 z.1) h) ∙ i

  pub onward_fails : (n m : ℕ) (e start : A) (ts rest ss : List Token) (s : Stop) → on n e ts ≡ on m start ss → 0 < n → begins first ts ≡ true → ReaderFails s rest (turn f r e ts) → ReaderFails s rest (on m start ss)
  onward_fails n m e start ts rest ss reason.Memory i lt at h = tt
  onward_fails n m e start ts rest ss reason.Syntax i lt at h =
      sym i ∙ once n (n - 1) e ts lt refl at ∙ ap (λ (a : Answer A). a >>= λ z. on (n - 1) z.0 z.1) h

-- ---- rows of commas

abbrev row_of : {X : Type 0} → X → List X → List Token → Answer (X × List X)
row_of x xs rest = Ok ((x, xs), rest)

commas_behind : {X : Type 0} (r : Reader X) (a : Answer X) → ((a >>= λ x. many_read (is (kind.Comma ∷ [])) (pair_read (keyword_at kind.Comma) r) x.1 >>= λ y. two x.0 y.0 y.1) >>= λ z. went (first_and_rest z.0) z.1) ≡ (a >>= λ x. onward item_behind (is (kind.Comma ∷ [])) (pair_read (keyword_at kind.Comma) r) (length x.1) (x.0 ∷ []) x.1)
commas_behind r (Err b) = refl
commas_behind {X} r (Ok x) = inner (many_read (is (kind.Comma ∷ [])) (pair_read (keyword_at kind.Comma) r) x.1)
  where
    inner : (b : Answer (List (ℕ × X))) → ((b >>= λ y. two x.0 y.0 y.1) >>= λ z. went (first_and_rest z.0) z.1) ≡ (b >>= λ z. went (joined_left item_behind (x.0 ∷ []) z.0) z.1)
    inner (Err e) = refl
    inner (Ok y) = refl

pub fields_is : (left : ℕ) (ts : List Token) → fields_level left ts ≡ (field_level left ts >>= λ x. fields_onward left (length x.1) (x.0 ∷ []) x.1)
unfolding fields_level fields_onward
fields_is left ts = commas_behind (field_level left) (field_level left ts)

pub slots_is : (ts : List Token) → slots_level ts ≡ (slot_level ts >>= λ x. slots_onward (length x.1) (x.0 ∷ []) x.1)
unfolding slots_level slots_onward
slots_is ts = commas_behind slot_level (slot_level ts)

pub items_is : (left : ℕ) (ts : List Token) → items_level left ts ≡ (ranked rank.Or left ts >>= λ x. items_onward left (length x.1) (x.0 ∷ []) x.1)
unfolding items_level items_onward
items_is left ts = commas_behind (ranked rank.Or left) (ranked rank.Or left ts)

-- ---- rows of one thing after the other

joined_one : {X : Type 0} (xs ys : List X) → joined_left with_one xs ys ≡ xs ++ ys
joined_one xs [] = sym (append-nil xs)
joined_one xs (y ∷ ys) = joined_one (xs ++ y ∷ []) ys ∙ append_assoc xs (y ∷ []) ys

joined_name : (xs : List Text) (ys : List (ℕ × Text)) → joined_left name_behind xs ys ≡ xs ++ names_in_list ys
joined_name xs [] = sym (append-nil xs)
joined_name xs (y ∷ ys) = joined_name (xs ++ y.1 ∷ []) ys ∙ append_assoc xs (y.1 ∷ []) (names_in_list ys)

same_row : {X : Type 0} (a : Answer (List X)) → a ≡ (a >>= λ z. went (joined_left with_one [] z.0) z.1)
same_row {X} (Err b) = refl
same_row {X} (Ok (xs, rest)) = ap (λ (l : List X). went l rest) (sym (joined_one [] xs))

pub statements_is : (left : ℕ) (ts : List Token) → statements_level left ts ≡ statements_onward left (length ts) [] ts
unfolding statements_level statements_onward
statements_is left ts = same_row (many_read (is statement_kinds) (statement_level left) ts)

pub typedefs_is : (ts : List Token) → typedefs_level ts ≡ typedefs_onward (length ts) [] ts
unfolding typedefs_level typedefs_onward
typedefs_is ts = same_row (many_read (is (kind.Type ∷ [])) typedef_level ts)

pub names_is : (ts : List Token) → names_at ts ≡ names_onward (length ts) [] ts
unfolding names_at names_onward
names_is ts = same (many_read (is (kind.Comma ∷ [])) (pair_read (keyword_at kind.Comma) name_token_at) ts)
  where
    same : (a : Answer (List (ℕ × Text))) → (a >>= λ z. went (names_in_list z.0) z.1) ≡ (a >>= λ z. went (joined_left name_behind [] z.0) z.1)
    same (Err b) = refl
    same (Ok (xs, rest)) = ap (λ (l : List Text). went l rest) (sym (joined_name [] xs))

pub methods_is : (ts : List Token) → methods_level ts ≡ (method_level ts >>= λ x. methods_onward (length x.1) (x.0 ∷ []) x.1)
unfolding methods_level methods_onward
methods_is ts = behind (method_level ts)
  where
    inner : (x : Method) (b : Answer (List Method)) → ((b >>= λ y. two x y.0 y.1) >>= λ z. went (first_and_others z.0) z.1) ≡ (b >>= λ z. went (joined_left with_one (x ∷ []) z.0) z.1)
    inner x (Err e) = refl
    inner x (Ok (ys, rest)) = ap (λ (l : List Method). went l rest) (sym (joined_one (x ∷ []) ys))

    behind : (a : Answer Method) → ((a >>= λ x. many_read (is (kind.Method ∷ [])) method_level x.1 >>= λ y. two x.0 y.0 y.1) >>= λ z. went (first_and_others z.0) z.1) ≡ (a >>= λ x. onward with_one (is (kind.Method ∷ [])) method_level (length x.1) (x.0 ∷ []) x.1)
    behind (Err b) = refl
    behind (Ok x) = inner x.0 (many_read (is (kind.Method ∷ [])) method_level x.1)

-- ---- chains and steps

pub ranked_is : (rank : Rank) (left : ℕ) (ts : List Token) → ranked rank left ts ≡ (below rank left ts >>= λ x. ranked_onward rank left 64 x.0 x.1)
unfolding ranked ranked_onward
ranked_is rank left ts = links_behind (with_link rank) (below rank left) (is (kinds_of rank)) (pair_read (operators_at rank) (below rank left)) 64 (below rank left ts)

pub post_is : (left : ℕ) (ts : List Token) → post_level left ts ≡ (primary_level left ts >>= λ x. post_onward left 64 x.0 x.1)
unfolding post_level post_onward
post_is left ts = links_behind with_step (primary_level left) (is step_kinds) (access_level left) 64 (primary_level left ts)

pub below_and : (left : ℕ) (ts : List Token) → below rank.Or left ts ≡ ranked rank.And left ts
unfolding below ranked ranked_and
below_and left ts = refl

pub below_product : (left : ℕ) (ts : List Token) → below rank.Sum left ts ≡ ranked rank.Product left ts
unfolding below ranked ranked_product
below_product left ts = refl

pub sum_is : (left : ℕ) → ranked_sum left ≡ ranked rank.Sum left
unfolding ranked below ranked_sum
sum_is left = refl

-- ---- each loop

pub fields_done : (left : ℕ) (n m : ℕ) (e start : List Field) (ts ss : List Token) → fields_onward left n e ts ≡ fields_onward left m start ss → begins (is (kind.Comma ∷ [])) ts ≡ false → fields_onward left m start ss ≡ Ok (e, ts)
unfolding fields_onward
fields_done left = onward_done item_behind (is (kind.Comma ∷ [])) (pair_read (keyword_at kind.Comma) (field_level left))

pub fields_full : (left : ℕ) (n m : ℕ) (e start : List Field) (ts ss : List Token) → fields_onward left n e ts ≡ fields_onward left m start ss → n ≡ 0 → begins (is (kind.Comma ∷ [])) ts ≡ true → fields_onward left m start ss ≡ Err ts
unfolding fields_onward
fields_full left = onward_full item_behind (is (kind.Comma ∷ [])) (pair_read (keyword_at kind.Comma) (field_level left))

pub fields_step : (left : ℕ) (n k m : ℕ) (e e' start : List Field) (ts rest ss : List Token) → fields_onward left n e ts ≡ fields_onward left m start ss → 0 < n → k ≡ n - 1 → begins (is (kind.Comma ∷ [])) ts ≡ true → fields_turn left e ts ≡ Ok (e', rest) → fields_onward left k e' rest ≡ fields_onward left m start ss
unfolding fields_onward fields_turn
fields_step left = onward_step item_behind (is (kind.Comma ∷ [])) (pair_read (keyword_at kind.Comma) (field_level left))

pub fields_fail : (left : ℕ) (n m : ℕ) (e start : List Field) (ts rest ss : List Token) (s : Stop) → fields_onward left n e ts ≡ fields_onward left m start ss → 0 < n → begins (is (kind.Comma ∷ [])) ts ≡ true → ReaderFails s rest (fields_turn left e ts) → ReaderFails s rest (fields_onward left m start ss)
unfolding fields_onward fields_turn
fields_fail left = onward_fails item_behind (is (kind.Comma ∷ [])) (pair_read (keyword_at kind.Comma) (field_level left))

pub slots_done : (n m : ℕ) (e start : List Slot) (ts ss : List Token) → slots_onward n e ts ≡ slots_onward m start ss → begins (is (kind.Comma ∷ [])) ts ≡ false → slots_onward m start ss ≡ Ok (e, ts)
unfolding slots_onward
slots_done = onward_done item_behind (is (kind.Comma ∷ [])) (pair_read (keyword_at kind.Comma) slot_level)

pub slots_full : (n m : ℕ) (e start : List Slot) (ts ss : List Token) → slots_onward n e ts ≡ slots_onward m start ss → n ≡ 0 → begins (is (kind.Comma ∷ [])) ts ≡ true → slots_onward m start ss ≡ Err ts
unfolding slots_onward
slots_full = onward_full item_behind (is (kind.Comma ∷ [])) (pair_read (keyword_at kind.Comma) slot_level)

pub slots_step : (n k m : ℕ) (e e' start : List Slot) (ts rest ss : List Token) → slots_onward n e ts ≡ slots_onward m start ss → 0 < n → k ≡ n - 1 → begins (is (kind.Comma ∷ [])) ts ≡ true → slots_turn e ts ≡ Ok (e', rest) → slots_onward k e' rest ≡ slots_onward m start ss
unfolding slots_onward slots_turn
slots_step = onward_step item_behind (is (kind.Comma ∷ [])) (pair_read (keyword_at kind.Comma) slot_level)

pub slots_fail : (n m : ℕ) (e start : List Slot) (ts rest ss : List Token) (s : Stop) → slots_onward n e ts ≡ slots_onward m start ss → 0 < n → begins (is (kind.Comma ∷ [])) ts ≡ true → ReaderFails s rest (slots_turn e ts) → ReaderFails s rest (slots_onward m start ss)
unfolding slots_onward slots_turn
slots_fail = onward_fails item_behind (is (kind.Comma ∷ [])) (pair_read (keyword_at kind.Comma) slot_level)

pub items_done : (left : ℕ) (n m : ℕ) (e start : List Expr) (ts ss : List Token) → items_onward left n e ts ≡ items_onward left m start ss → begins (is (kind.Comma ∷ [])) ts ≡ false → items_onward left m start ss ≡ Ok (e, ts)
unfolding items_onward
items_done left = onward_done item_behind (is (kind.Comma ∷ [])) (pair_read (keyword_at kind.Comma) (ranked rank.Or left))

pub items_full : (left : ℕ) (n m : ℕ) (e start : List Expr) (ts ss : List Token) → items_onward left n e ts ≡ items_onward left m start ss → n ≡ 0 → begins (is (kind.Comma ∷ [])) ts ≡ true → items_onward left m start ss ≡ Err ts
unfolding items_onward
items_full left = onward_full item_behind (is (kind.Comma ∷ [])) (pair_read (keyword_at kind.Comma) (ranked rank.Or left))

pub items_step : (left : ℕ) (n k m : ℕ) (e e' start : List Expr) (ts rest ss : List Token) → items_onward left n e ts ≡ items_onward left m start ss → 0 < n → k ≡ n - 1 → begins (is (kind.Comma ∷ [])) ts ≡ true → items_turn left e ts ≡ Ok (e', rest) → items_onward left k e' rest ≡ items_onward left m start ss
unfolding items_onward items_turn
items_step left = onward_step item_behind (is (kind.Comma ∷ [])) (pair_read (keyword_at kind.Comma) (ranked rank.Or left))

pub items_fail : (left : ℕ) (n m : ℕ) (e start : List Expr) (ts rest ss : List Token) (s : Stop) → items_onward left n e ts ≡ items_onward left m start ss → 0 < n → begins (is (kind.Comma ∷ [])) ts ≡ true → ReaderFails s rest (items_turn left e ts) → ReaderFails s rest (items_onward left m start ss)
unfolding items_onward items_turn
items_fail left = onward_fails item_behind (is (kind.Comma ∷ [])) (pair_read (keyword_at kind.Comma) (ranked rank.Or left))

pub names_done : (n m : ℕ) (e start : List Text) (ts ss : List Token) → names_onward n e ts ≡ names_onward m start ss → begins (is (kind.Comma ∷ [])) ts ≡ false → names_onward m start ss ≡ Ok (e, ts)
unfolding names_onward
names_done = onward_done name_behind (is (kind.Comma ∷ [])) (pair_read (keyword_at kind.Comma) name_token_at)

pub names_full : (n m : ℕ) (e start : List Text) (ts ss : List Token) → names_onward n e ts ≡ names_onward m start ss → n ≡ 0 → begins (is (kind.Comma ∷ [])) ts ≡ true → names_onward m start ss ≡ Err ts
unfolding names_onward
names_full = onward_full name_behind (is (kind.Comma ∷ [])) (pair_read (keyword_at kind.Comma) name_token_at)

pub names_step : (n k m : ℕ) (e e' start : List Text) (ts rest ss : List Token) → names_onward n e ts ≡ names_onward m start ss → 0 < n → k ≡ n - 1 → begins (is (kind.Comma ∷ [])) ts ≡ true → names_turn e ts ≡ Ok (e', rest) → names_onward k e' rest ≡ names_onward m start ss
unfolding names_onward names_turn
names_step = onward_step name_behind (is (kind.Comma ∷ [])) (pair_read (keyword_at kind.Comma) name_token_at)

pub names_fail : (n m : ℕ) (e start : List Text) (ts rest ss : List Token) (s : Stop) → names_onward n e ts ≡ names_onward m start ss → 0 < n → begins (is (kind.Comma ∷ [])) ts ≡ true → ReaderFails s rest (names_turn e ts) → ReaderFails s rest (names_onward m start ss)
unfolding names_onward names_turn
names_fail = onward_fails name_behind (is (kind.Comma ∷ [])) (pair_read (keyword_at kind.Comma) name_token_at)

pub statements_done : (left : ℕ) (n m : ℕ) (e start : List Statement) (ts ss : List Token) → statements_onward left n e ts ≡ statements_onward left m start ss → begins (is statement_kinds) ts ≡ false → statements_onward left m start ss ≡ Ok (e, ts)
unfolding statements_onward
statements_done left = onward_done with_one (is statement_kinds) (statement_level left)

pub statements_full : (left : ℕ) (n m : ℕ) (e start : List Statement) (ts ss : List Token) → statements_onward left n e ts ≡ statements_onward left m start ss → n ≡ 0 → begins (is statement_kinds) ts ≡ true → statements_onward left m start ss ≡ Err ts
unfolding statements_onward
statements_full left = onward_full with_one (is statement_kinds) (statement_level left)

pub statements_step : (left : ℕ) (n k m : ℕ) (e e' start : List Statement) (ts rest ss : List Token) → statements_onward left n e ts ≡ statements_onward left m start ss → 0 < n → k ≡ n - 1 → begins (is statement_kinds) ts ≡ true → statements_turn left e ts ≡ Ok (e', rest) → statements_onward left k e' rest ≡ statements_onward left m start ss
unfolding statements_onward statements_turn
statements_step left = onward_step with_one (is statement_kinds) (statement_level left)

pub statements_fail : (left : ℕ) (n m : ℕ) (e start : List Statement) (ts rest ss : List Token) (s : Stop) → statements_onward left n e ts ≡ statements_onward left m start ss → 0 < n → begins (is statement_kinds) ts ≡ true → ReaderFails s rest (statements_turn left e ts) → ReaderFails s rest (statements_onward left m start ss)
unfolding statements_onward statements_turn
statements_fail left = onward_fails with_one (is statement_kinds) (statement_level left)

pub typedefs_done : (n m : ℕ) (e start : List TypeDef) (ts ss : List Token) → typedefs_onward n e ts ≡ typedefs_onward m start ss → begins (is (kind.Type ∷ [])) ts ≡ false → typedefs_onward m start ss ≡ Ok (e, ts)
unfolding typedefs_onward
typedefs_done = onward_done with_one (is (kind.Type ∷ [])) typedef_level

pub typedefs_full : (n m : ℕ) (e start : List TypeDef) (ts ss : List Token) → typedefs_onward n e ts ≡ typedefs_onward m start ss → n ≡ 0 → begins (is (kind.Type ∷ [])) ts ≡ true → typedefs_onward m start ss ≡ Err ts
unfolding typedefs_onward
typedefs_full = onward_full with_one (is (kind.Type ∷ [])) typedef_level

pub typedefs_step : (n k m : ℕ) (e e' start : List TypeDef) (ts rest ss : List Token) → typedefs_onward n e ts ≡ typedefs_onward m start ss → 0 < n → k ≡ n - 1 → begins (is (kind.Type ∷ [])) ts ≡ true → typedefs_turn e ts ≡ Ok (e', rest) → typedefs_onward k e' rest ≡ typedefs_onward m start ss
unfolding typedefs_onward typedefs_turn
typedefs_step = onward_step with_one (is (kind.Type ∷ [])) typedef_level

pub typedefs_fail : (n m : ℕ) (e start : List TypeDef) (ts rest ss : List Token) (s : Stop) → typedefs_onward n e ts ≡ typedefs_onward m start ss → 0 < n → begins (is (kind.Type ∷ [])) ts ≡ true → ReaderFails s rest (typedefs_turn e ts) → ReaderFails s rest (typedefs_onward m start ss)
unfolding typedefs_onward typedefs_turn
typedefs_fail = onward_fails with_one (is (kind.Type ∷ [])) typedef_level

pub methods_done : (n m : ℕ) (e start : List Method) (ts ss : List Token) → methods_onward n e ts ≡ methods_onward m start ss → begins (is (kind.Method ∷ [])) ts ≡ false → methods_onward m start ss ≡ Ok (e, ts)
unfolding methods_onward
methods_done = onward_done with_one (is (kind.Method ∷ [])) method_level

pub methods_full : (n m : ℕ) (e start : List Method) (ts ss : List Token) → methods_onward n e ts ≡ methods_onward m start ss → n ≡ 0 → begins (is (kind.Method ∷ [])) ts ≡ true → methods_onward m start ss ≡ Err ts
unfolding methods_onward
methods_full = onward_full with_one (is (kind.Method ∷ [])) method_level

pub methods_step : (n k m : ℕ) (e e' start : List Method) (ts rest ss : List Token) → methods_onward n e ts ≡ methods_onward m start ss → 0 < n → k ≡ n - 1 → begins (is (kind.Method ∷ [])) ts ≡ true → methods_turn e ts ≡ Ok (e', rest) → methods_onward k e' rest ≡ methods_onward m start ss
unfolding methods_onward methods_turn
methods_step = onward_step with_one (is (kind.Method ∷ [])) method_level

pub methods_fail : (n m : ℕ) (e start : List Method) (ts rest ss : List Token) (s : Stop) → methods_onward n e ts ≡ methods_onward m start ss → 0 < n → begins (is (kind.Method ∷ [])) ts ≡ true → ReaderFails s rest (methods_turn e ts) → ReaderFails s rest (methods_onward m start ss)
unfolding methods_onward methods_turn
methods_fail = onward_fails with_one (is (kind.Method ∷ [])) method_level

pub post_done : (left : ℕ) (n m : ℕ) (e start : Expr) (ts ss : List Token) → post_onward left n e ts ≡ post_onward left m start ss → begins (is step_kinds) ts ≡ false → post_onward left m start ss ≡ Ok (e, ts)
unfolding post_onward
post_done left = onward_done with_step (is step_kinds) (access_level left)

pub post_full : (left : ℕ) (n m : ℕ) (e start : Expr) (ts ss : List Token) → post_onward left n e ts ≡ post_onward left m start ss → n ≡ 0 → begins (is step_kinds) ts ≡ true → post_onward left m start ss ≡ Err ts
unfolding post_onward
post_full left = onward_full with_step (is step_kinds) (access_level left)

pub post_step : (left : ℕ) (n k m : ℕ) (e e' start : Expr) (ts rest ss : List Token) → post_onward left n e ts ≡ post_onward left m start ss → 0 < n → k ≡ n - 1 → begins (is step_kinds) ts ≡ true → post_turn left e ts ≡ Ok (e', rest) → post_onward left k e' rest ≡ post_onward left m start ss
unfolding post_onward post_turn
post_step left = onward_step with_step (is step_kinds) (access_level left)

pub post_fail : (left : ℕ) (n m : ℕ) (e start : Expr) (ts rest ss : List Token) (s : Stop) → post_onward left n e ts ≡ post_onward left m start ss → 0 < n → begins (is step_kinds) ts ≡ true → ReaderFails s rest (post_turn left e ts) → ReaderFails s rest (post_onward left m start ss)
unfolding post_onward post_turn
post_fail left = onward_fails with_step (is step_kinds) (access_level left)

pub ranked_done : (rank : Rank) (left : ℕ) (n m : ℕ) (e start : Expr) (ts ss : List Token) → ranked_onward rank left n e ts ≡ ranked_onward rank left m start ss → begins (is (kinds_of rank)) ts ≡ false → ranked_onward rank left m start ss ≡ Ok (e, ts)
unfolding ranked_onward
ranked_done rank left = onward_done (with_link rank) (is (kinds_of rank)) (pair_read (operators_at rank) (below rank left))

pub ranked_full : (rank : Rank) (left : ℕ) (n m : ℕ) (e start : Expr) (ts ss : List Token) → ranked_onward rank left n e ts ≡ ranked_onward rank left m start ss → n ≡ 0 → begins (is (kinds_of rank)) ts ≡ true → ranked_onward rank left m start ss ≡ Err ts
unfolding ranked_onward
ranked_full rank left = onward_full (with_link rank) (is (kinds_of rank)) (pair_read (operators_at rank) (below rank left))

pub ranked_step : (rank : Rank) (left : ℕ) (n k m : ℕ) (e e' start : Expr) (ts rest ss : List Token) → ranked_onward rank left n e ts ≡ ranked_onward rank left m start ss → 0 < n → k ≡ n - 1 → begins (is (kinds_of rank)) ts ≡ true → ranked_turn rank left e ts ≡ Ok (e', rest) → ranked_onward rank left k e' rest ≡ ranked_onward rank left m start ss
unfolding ranked_onward ranked_turn
ranked_step rank left = onward_step (with_link rank) (is (kinds_of rank)) (pair_read (operators_at rank) (below rank left))

pub ranked_fail : (rank : Rank) (left : ℕ) (n m : ℕ) (e start : Expr) (ts rest ss : List Token) (s : Stop) → ranked_onward rank left n e ts ≡ ranked_onward rank left m start ss → 0 < n → begins (is (kinds_of rank)) ts ≡ true → ReaderFails s rest (ranked_turn rank left e ts) → ReaderFails s rest (ranked_onward rank left m start ss)
unfolding ranked_onward ranked_turn
ranked_fail rank left = onward_fails (with_link rank) (is (kinds_of rank)) (pair_read (operators_at rank) (below rank left))
