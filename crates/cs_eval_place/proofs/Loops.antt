-- The turns of the loops: what a part comes to goes on with the rest.
use Rattle.std.proofs.Common.{◌≡◌, ℕ, zero, suc, ◌+◌, ◌<◌, Bool, true, false, List, [], ◌∷◌, map, drop, length, get_or, Some, Result, sym, ap, ◌∙◌, subst, arith}
use Rattle.cs_lang_token.specs.declared.token.Text.{Text}
use Rattle.cs_lang.specs.declared.tree.Expr.{Expr}
use Rattle.cs_lang.specs.declared.tree.Block.{Block}
use Rattle.cs_lang.specs.declared.tree.Action.{Action}
use Rattle.cs_lang.specs.declared.tree.Action.TheVariants as action
use Rattle.cs_types_kinds.specs.declared.kind.Kind.{Kind}
use Rattle.cs_eval_values.specs.Datums.{Datum}
use Rattle.cs_eval_law.specs.Acting.{condition}
use Rattle.cs_eval_check.specs.declared.task.Source.{Source}
use Rattle.cs_eval_check.specs.declared.task.Source.TheVariants as source
use Rattle.cs_eval_check.specs.Tasks.{left_in, first_datum}
use Rattle.cs_eval_check.proofs.Turns.{one_more}
use Rattle.cs_lang.specs.declared.tree.ContractTree.{ContractTree}
use Rattle.cs_lang.specs.declared.tree.Statement.{Statement, out-Statement}
use Rattle.cs_eval_values.specs.declared.view.View.{View}
use Rattle.cs_eval_values.specs.Namings.{Named}
use Rattle.cs_eval_place.specs.declared.ended.Ended.{Ended}
use Rattle.cs_eval_place.specs.declared.ended.Ended.TheVariants as ended
use Rattle.cs_eval_place.specs.Located.{Located, Onward, located, ◌>>=◌}
use Rattle.cs_eval_place.specs.Locating.{Locating, chosen, turn_located, turns_located, looped_over, all_located, block_located, statement_located, action_located, EndsSo, LocatesNames}
use Rattle.cs_eval_place.proofs.Actions.{statement_is, act_if, act_if_else, act_for_in}

-- what ends a part ends the whole
pub ends_bind : {A B : Type 0} (e : Ended) (t : Located A) (f : A → Located B) → EndsSo e t → EndsSo e (t >>= f)
ends_bind {A} (ended.Answer b place) t f is = ap (λ (s : Located A). s >>= f) is
ends_bind {A} (ended.Trap place) t f is = ap (λ (s : Located A). s >>= f) is
ends_bind ended.Memory t f is = tt

ends_along : (e : Ended) (t u : Located (List Named)) → t ≡ u → EndsSo e t → EndsSo e u
ends_along (ended.Answer b place) t u same h = sym same ∙ h
ends_along (ended.Trap place) t u same h = sym same ∙ h
ends_along ended.Memory t u same h = tt

names_along : (r : Result Unit Ended) (after : List Named) (t u : Located (List Named)) → t ≡ u → LocatesNames r after t → LocatesNames r after u
names_along r after t u = subst (λ (x : Located (List Named)). LocatesNames r after x)

drop-suc : {X : Type 0} (k : ℕ) (xs : List X) (x : X) → k < length xs → x ≡ get_or xs k x → drop k xs ≡ x ∷ drop (suc k) xs
drop-suc {X} k [] x h is = absurd (omega arith)
drop-suc {X} zero (y ∷ xs) x h is = ap (λ z. z ∷ xs) (sym is)
drop-suc {X} (suc k) (y ∷ xs) x h is = drop-suc k xs x (omega arith) is

drop-next : {X : Type 0} (k : ℕ) (xs : List X) (x : X) → k < length xs → x ≡ get_or xs k x → drop k xs ≡ x ∷ drop (k + 1) xs
drop-next {X} k xs x h is = let same : suc k ≡ k + 1 = omega arith in drop-suc k xs x h is ∙ ap (λ n. x ∷ drop n xs) same

module _ (contract : ContractTree) (view : View) (ss : List Statement) (i : ℕ) (s : Statement) (names : List Named) (whole : Located (List Named))
    (lt : i < length ss) (is : s ≡ get_or ss i s) (so_far : all_located contract view (map (statement_located contract view) (drop i ss)) names ≡ whole) where
  turned : (action_located contract view (out-Statement s).action (out-Statement s).place names >>= λ after. all_located contract view (map (statement_located contract view) (drop (i + 1) ss)) after) ≡ whole
  turned =
      ap (λ (t : Located (List Named)). t >>= λ after. all_located contract view (map (statement_located contract view) (drop (i + 1) ss)) after) (sym (statement_is contract view s names))
      ∙ ap (λ (rest : List Statement). all_located contract view (map (statement_located contract view) rest) names) (sym (drop-next i ss s lt is))
      ∙ so_far

  pub next_statement : (after : List Named) → action_located contract view (out-Statement s).action (out-Statement s).place names ≡ Onward after
      → all_located contract view (map (statement_located contract view) (drop (i + 1) ss)) after ≡ whole
  next_statement after said =
      ap (λ (t : Located (List Named)). t >>= λ more. all_located contract view (map (statement_located contract view) (drop (i + 1) ss)) more) (sym said) ∙ turned

  pub statement_ends : (e : Ended) → EndsSo e (action_located contract view (out-Statement s).action (out-Statement s).place names) → EndsSo e whole
  statement_ends e h =
      ends_along e _ whole turned
      (ends_bind e (action_located contract view (out-Statement s).action (out-Statement s).place names) (λ after. all_located contract view (map (statement_located contract view) (drop (i + 1) ss)) after) h)

-- ---- a turn

module _ (contract : ContractTree) (view : View) (name : List ℕ) (k : Kind) (each : Locating) where
  pub next_turn : (s : Source) (at : ℕ) (d : Datum) (names after : List Named) (whole : Located (List Named)) → Some d ≡ first_datum (left_in s at) → turn_located contract view name k each names d ≡ Onward after
      → turns_located contract view name k each (left_in s at) names ≡ whole → turns_located contract view name k each (left_in s (at + 1)) after ≡ whole
  next_turn s at d names after whole is said so_far =
      ap (λ (t : Located (List Named)). t >>= λ more. turns_located contract view name k each (left_in s (at + 1)) more) (sym said)
      ∙ ap (λ (ds : List Datum). turns_located contract view name k each ds names) (sym (one_more s at d is))
      ∙ so_far

-- ---- choices, and loops over lists

module _ (contract : ContractTree) (view : View) (a : Action) (place : ℕ) (names : List Named) where
  abbrev here : Located (List Named)
  here = action_located contract view a place names

  abbrev decided : Expr → Located Bool
  decided e = located (condition contract view e place names)

  pub if_ends : (e : Expr) (one : Block) (why : Ended) → a ≡ action.If e one → EndsSo why (decided e) → EndsSo why here
  if_ends e one why is h =
      ends_along why _ here (sym (act_if contract view a e one place names is))
      (ends_bind why (decided e) (chosen contract view (block_located contract view one) Onward names) h)

  pub if_else_ends : (e : Expr) (one other : Block) (why : Ended) → a ≡ action.IfElse e one other → EndsSo why (decided e) → EndsSo why here
  if_else_ends e one other why is h =
      ends_along why _ here (sym (act_if_else contract view a e one other place names is))
      (ends_bind why (decided e) (chosen contract view (block_located contract view one) (block_located contract view other) names) h)

  if_is : (e : Expr) (one : Block) (truth : Bool) → a ≡ action.If e one → decided e ≡ Onward truth → here ≡ chosen contract view (block_located contract view one) Onward names truth
  if_is e one truth is said =
      act_if contract view a e one place names is ∙ ap (λ (t : Located Bool). t >>= chosen contract view (block_located contract view one) Onward names) said

  if_else_is : (e : Expr) (one other : Block) (truth : Bool) → a ≡ action.IfElse e one other → decided e ≡ Onward truth
      → here ≡ chosen contract view (block_located contract view one) (block_located contract view other) names truth
  if_else_is e one other truth is said =
      act_if_else contract view a e one other place names is
      ∙ ap (λ (t : Located Bool). t >>= chosen contract view (block_located contract view one) (block_located contract view other) names) said

  pub if_true : (e : Expr) (one : Block) (truth : Bool) (r : Result Unit Ended) (after : List Named) → a ≡ action.If e one → decided e ≡ Onward truth → truth ≡ true
      → LocatesNames r after (block_located contract view one names) → LocatesNames r after here
  if_true e one truth r after is said holds =
      names_along r after (block_located contract view one names) here
      (sym (if_is e one truth is said ∙ ap (chosen contract view (block_located contract view one) Onward names) holds))

  pub if_false : (e : Expr) (one : Block) (truth : Bool) → a ≡ action.If e one → decided e ≡ Onward truth → truth ≡ false → here ≡ Onward names
  if_false e one truth is said fails = if_is e one truth is said ∙ ap (chosen contract view (block_located contract view one) Onward names) fails

  pub if_else_true : (e : Expr) (one other : Block) (truth : Bool) (r : Result Unit Ended) (after : List Named) → a ≡ action.IfElse e one other → decided e ≡ Onward truth → truth ≡ true
      → LocatesNames r after (block_located contract view one names) → LocatesNames r after here
  if_else_true e one other truth r after is said holds =
      names_along r after (block_located contract view one names) here
      (sym (if_else_is e one other truth is said ∙ ap (chosen contract view (block_located contract view one) (block_located contract view other) names) holds))

  pub if_else_false : (e : Expr) (one other : Block) (truth : Bool) (r : Result Unit Ended) (after : List Named) → a ≡ action.IfElse e one other → decided e ≡ Onward truth → truth ≡ false
      → LocatesNames r after (block_located contract view other names) → LocatesNames r after here
  if_else_false e one other truth r after is said fails =
      names_along r after (block_located contract view other names) here
      (sym (if_else_is e one other truth is said ∙ ap (chosen contract view (block_located contract view one) (block_located contract view other) names) fails))

  abbrev gone : Text → Expr → Located (Kind × List Datum)
  gone name list = located (looped_over contract view name list names)

  abbrev goes : Text → Block → Kind × List Datum → Located (List Named)
  goes name each over = turns_located contract view name.bytes over.0 (block_located contract view each) over.1 names

  pub for_in_ends : (name : Text) (list : Expr) (each : Block) (why : Ended) → a ≡ action.ForIn name list each → EndsSo why (gone name list) → EndsSo why here
  for_in_ends name list each why is h =
      ends_along why _ here (sym (act_for_in contract view a name list each place names is)) (ends_bind why (gone name list) (goes name each) h)

  pub for_in_goes : (name : Text) (list : Expr) (each : Block) (bytes : List ℕ) (k : Kind) (d : Datum) (r : Result Unit Ended) (after : List Named) → a ≡ action.ForIn name list each
      → gone name list ≡ Onward (k, left_in (source.Items d) 0) → bytes ≡ name.bytes
      → LocatesNames r after (turns_located contract view bytes k (block_located contract view each) (left_in (source.Items d) 0) names) → LocatesNames r after here
  for_in_goes name list each bytes k d r after is said same =
      names_along r after (turns_located contract view bytes k (block_located contract view each) (left_in (source.Items d) 0) names) here
      (sym (act_for_in contract view a name list each place names is ∙ ap (λ (t : Located (Kind × List Datum)). t >>= goes name each) said
      ∙ ap (λ (bs : List ℕ). turns_located contract view bs k (block_located contract view each) (left_in (source.Items d) 0) names) (sym same)))
