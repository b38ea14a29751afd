-- Statements: the names behind them are those that were told, and what is spent is within the cost.
use Rattle.std.proofs.Common.{◌≡◌, ℕ, zero, suc, ◌+◌, ◌*◌, ◌≤◌, min, max, Bool, true, false, cond, Option, None, Some, Result, Ok, Err, List, [], ◌∷◌, ◌++◌, map, take, length, refl, sym, ap, ◌∙◌, subst, arith, length-take}
use Rattle.std.specs.Prelude.{nat_lt, is_some, ◌||◌, option_and_then}
use Rattle.std.proofs.Math.Nat.{suc-mul, mul-le-mul_right}
use Rattle.cs_lang_token.specs.declared.limits.TheConstants.{MOST_ITEMS, MOST_TURNS, LIST_TURNS}
use Rattle.cs_lang_token.specs.Grammar.{◌>>=◌ as ◌>>-◌}
use Rattle.cs_lang_token.specs.declared.token.Text.{Text}
use Rattle.cs_lang.specs.declared.tree.ContractTree.{ContractTree}
use Rattle.cs_lang.specs.declared.tree.Expr.{Expr}
use Rattle.cs_types_kinds.specs.declared.fault.TypeError.{TypeError}
use Rattle.cs_types_kinds.specs.declared.kind.Kind.{Kind}
use Rattle.cs_types_kinds.specs.declared.scope.Use.{Use}
use Rattle.cs_types_kinds.specs.declared.scope.Use.TheVariants as usage
use Rattle.cs_types_kinds.specs.declared.scope.Seen.{Seen}
use Rattle.cs_types_kinds.specs.declared.scope.Entry.{Entry}
use Rattle.cs_types_kinds.specs.declared.expressions.Judged.{Judged}
use Rattle.cs_types_kinds.specs.Told.{Told, mistyped, unbound, told_through as told_through, plus}
use Rattle.cs_types_kinds.specs.Kinds.{int_kind as int_kind, bool as bool_kind, item_kind as item_kind}
use Rattle.cs_types_kinds.specs.Scopes.{InSight, name_seen, in_sight, with_name, sight_with_names}
use Rattle.cs_types_kinds.specs.Judging.{JudgedPart, wanted, or_first}
use Rattle.cs_types_kinds.specs.Parts.{part_of}
use Rattle.cs_types.specs.Stating.{Added, Blocked, Stated, SoFar, statement_added, block_judged, turns, turn_judged, is_taken, is_value, let_judged, can_be_set, set_seen, set_judged, if_told, if_judged, if_else_judged, for_in_told, for_in_judged, for_to_judged, make_judged, call_judged, answer_judged, stated}
use Rattle.cs_eval_values.specs.declared.stop.Cause.TheVariants as cause
use Rattle.cs_eval_values.specs.declared.view.View.{View}
use Rattle.cs_eval_values.specs.Runs.{Run, Gave, Answered, Trapped, gives, answers, traps, spend, ◌>>=◌, through, or_trap, spent}
use Rattle.cs_eval_values.specs.Datums.{Datum, items_of, bool_of}
use Rattle.cs_eval_values.specs.Operators.{given_bool}
use Rattle.cs_eval_values.specs.Namings.{Named, with_named, with_datum}
use Rattle.cs_eval.specs.Meaning.{Environment, Meant, run_of, expr_meant}
use Rattle.cs_eval_law.specs.Acting.{Naming, numbers, value_run, value_kind, let_run, set_run, condition, if_run, answer_run, turn_run, turns_run, for_in_run, for_to_run, one_run, all_run}
use Rattle.cs_eval_law.proofs.Within.{Within, within_less, within_plus, within_left, within_right, spent_spend, spent_bind, within_bind, free_or, ok_is, After, after_spend, after_bind, after_any, within_after, within_then, some_is}
use Rattle.cs_eval_law.proofs.ExprFits.{Fits, told_bind, fits_wanted}
use Rattle.cs_eval_law.proofs.Alike.{Alike, Extends, extends_none, extends_on, alike_length, alike_more, alike_cut, alike_set}

-- what is spent is within the cost, and the names behind it are these
abbrev pub Costs : List Entry → ℕ → Run (List Named) → Type 0
Costs es c r = Within (spent r) c × After (Alike es) r

-- what was told of a statement, and what it does
abbrev pub ActFits : Told Added → Run (List Named) → Type 0
ActFits told r = (a : Added) → told ≡ Ok a → Costs a.1 a.0 r

-- the names behind it are those before it, and maybe more
abbrev pub Keeps : InSight → Told Added → Type 0
Keeps sight told = (a : Added) → told ≡ Ok a → Extends sight.names a.1

-- what was told of a block, and what it does
abbrev pub BlockFits : InSight → Told ℕ → Run (List Named) → Type 0
BlockFits sight told r = (c : ℕ) → told ≡ Ok c → Costs sight.names c r

-- a block that stands behind these names, whatever they stand for
abbrev pub EachFits : Blocked → InSight → Naming → Type 0
EachFits block sight each = (names : List Named) → Alike sight.names names → BlockFits sight (block sight) (each names)

-- ---- what is told

unless_is : {X : Type 0} (b : Bool) (place : ℕ) (t : Told X) (x : X) → cond b (mistyped place) t ≡ Ok x → t ≡ Ok x
unless_is true place t x is = absurd cc
unless_is false place t x is = is

where_is : {X : Type 0} (b : Bool) (place : ℕ) (t : Told X) (x : X) → cond b t (mistyped place) ≡ Ok x → t ≡ Ok x
where_is true place t x is = is
where_is false place t x is = absurd cc

abbrev told_as : Added → Told Added
told_as a = Ok a

-- names stay as they are
stays : (sight : InSight) (c : ℕ) (a : Added) (r : Run (List Named)) → told_as (c, sight.names) ≡ Ok a → Costs sight.names c r → Costs a.1 a.0 r
stays sight c a r is h =
    let P : Added → Type 0 = λ b. Costs b.1 b.0 r in
    subst P (ok_is (c, sight.names) a (Ok (c, sight.names)) refl is) h

-- ---- names behind statements

module _ (sight : InSight) where
  same_kept : (c : ℕ) → Keeps sight (Ok (c, sight.names))
  same_kept c a is =
      let P : Added → Type 0 = λ b. Extends sight.names b.1 in
      subst P (ok_is (c, sight.names) a (Ok (c, sight.names)) refl is) (extends_none sight.names)

  bind_kept : {A : Type 0} (t : Told A) (f : A → Told Added) → ((x : A) → Keeps sight (f x)) → Keeps sight (t >>- f)
  bind_kept (Ok x) f h = h x
  bind_kept (Err e) f h = λ a is. absurd cc

  unless_kept : (b : Bool) (place : ℕ) (t : Told Added) → Keeps sight t → Keeps sight (cond b (mistyped place) t)
  unless_kept true place t h = λ a is. absurd cc
  unless_kept false place t h = h

  where_kept : (b : Bool) (place : ℕ) (t : Told Added) → Keeps sight t → Keeps sight (cond b t (mistyped place))
  where_kept true place t h = h
  where_kept false place t h = λ a is. absurd cc

  named_kept : (c : ℕ) (name : List ℕ) (k : Kind) (u : Use) → Keeps sight (Ok (c, with_name sight.names name k u))
  named_kept c name k u a is =
      let P : Added → Type 0 = λ b. Extends sight.names b.1 in
      subst P (ok_is (c, with_name sight.names name k u) a (Ok (c, with_name sight.names name k u)) refl is) (_, refl)

  pub let_kept : (name : Text) (value : InSight → JudgedPart) → Keeps sight (let_judged name value sight)
  let_kept name value =
      unless_kept (is_taken sight name) name.place _
      (bind_kept (value sight).found _ (λ j. where_kept (is_value j.kind) (value sight).first _ (named_kept j.cost name.bytes j.kind usage.Set)))

  pub set_kept : (name : Text) (value : InSight → JudgedPart) → Keeps sight (set_judged name value sight)
  set_kept name value = bind_kept (set_seen (name_seen name.bytes sight.names) name (value sight)) _ (λ c. same_kept c)

  pub if_kept : (value : InSight → JudgedPart) (block : Blocked) → Keeps sight (if_judged value block sight)
  if_kept value block = bind_kept (wanted bool_kind (value sight)) _ (λ c. bind_kept (block sight) _ (λ d. same_kept (plus c d)))

  pub if_else_kept : (value : InSight → JudgedPart) (block other : Blocked) → Keeps sight (if_else_judged value block other sight)
  if_else_kept value block other =
      bind_kept (wanted bool_kind (value sight)) _ (λ c. bind_kept (block sight) _ (λ d. bind_kept (other sight) _ (λ e. same_kept (plus c (max d e)))))

  pub for_in_kept : (name : Text) (value : InSight → JudgedPart) (block : Blocked) → Keeps sight (for_in_judged name value block sight)
  for_in_kept name value block =
      unless_kept (is_taken sight name) name.place _
      (bind_kept (value sight).found _ (λ j. bind_kept (or_first (value sight).first (item_kind j.kind)) _
      (λ k. bind_kept (turn_judged name k block sight) _ (λ d. same_kept (plus j.cost (turns LIST_TURNS d))))))

  pub for_to_kept : (name : Text) (count : ℕ) (block : Blocked) (place : ℕ) → Keeps sight (for_to_judged name count block place sight)
  for_to_kept name count block place =
      unless_kept (nat_lt MOST_TURNS count) place _
      (unless_kept (is_taken sight name) name.place _ (bind_kept (turn_judged name int_kind block sight) _ (λ d. same_kept (turns count d))))

  pub answer_kept : (value : InSight → JudgedPart) (place : ℕ) → Keeps sight (answer_judged value place sight)
  answer_kept value place = where_kept sight.in_check place _ (bind_kept (wanted bool_kind (value sight)) _ (λ c. same_kept c))

  -- in a check nothing is made or called
  pub never_kept : (b : Bool) (place : ℕ) (told : Told Added) → b ≡ true → Keeps sight (cond b (mistyped place) told)
  never_kept true place told checks = λ a is. absurd cc
  never_kept false place told checks = absurd cc

pub never_fits : (b : Bool) (place : ℕ) (told : Told Added) (r : Run (List Named)) → b ≡ true → ActFits (cond b (mistyped place) told) r
never_fits true place told r checks = λ a is. absurd cc
never_fits false place told r checks = absurd cc

module _ (sight : InSight) (view : View) (names : List Named) (alike : Alike sight.names names) where
  abbrev here : Environment
  here = record { contract = sight.contract; view = view; names = names }

  -- ---- names and values

  pub let_fits : (name : Text) (e : Expr) → Fits (part_of sight e).found (expr_meant here e)
      → ActFits (let_judged name (λ s. part_of s e) sight) (let_run sight.contract view name e names)
  let_fits name e h a is =
      let found = told_bind (part_of sight e).found (λ j. cond (is_value j.kind) (Ok (j.cost, with_name sight.names name.bytes j.kind usage.Set)) (mistyped (part_of sight e).first)) a
      (unless_is (is_taken sight name) name.place ((part_of sight e).found >>- λ j. cond (is_value j.kind) (Ok (j.cost, with_name sight.names name.bytes j.kind usage.Set)) (mistyped (part_of sight e).first)) a is) in
      let made : (found.0.cost, with_name sight.names name.bytes found.0.kind usage.Set) ≡ a =
      ok_is _ a _ refl (where_is (is_value found.0.kind) (part_of sight e).first _ a found.2) in
      let fits = h found.0 found.1 in
      let P : Added → Type 0 = λ b. Costs b.1 b.0 (let_run sight.contract view name e names) in
      subst P made (kinded (value_kind sight.contract view e names) found.0 fits.0 fits.1)
    where
      kinded : (o : Option Kind) (j : Judged) → o ≡ Some j.kind → Within (spent (value_run sight.contract view e names)) j.cost
          → Costs (with_name sight.names name.bytes j.kind usage.Set) j.cost (or_trap cause.Misfit name.place o >>= λ k. value_run sight.contract view e names >>= λ d. gives (with_named names name.bytes k d))
      kinded None j none w = absurd cc
      kinded (Some k) j same w =
          let P : Kind → Type 0 = λ i. Costs (with_name sight.names name.bytes i usage.Set) j.cost (gives k >>= λ k2. value_run sight.contract view e names >>= λ d. gives (with_named names name.bytes k2 d)) in
          subst P (some_is k j.kind same) (
            within_less _ (spent (value_run sight.contract view e names)) j.cost
                (omega (arith, spent_spend 0 (value_run sight.contract view e names >>= λ d. gives (with_named names name.bytes k d)), spent_bind (value_run sight.contract view e names) (λ d. gives (with_named names name.bytes k d)) 0 (λ d. omega arith))) w,
            after_spend _ 0 (value_run sight.contract view e names >>= λ d. gives (with_named names name.bytes k d))
                (after_bind (λ d. Unit {0}) _ (value_run sight.contract view e names) (λ d. gives (with_named names name.bytes k d)) (after_any (value_run sight.contract view e names))
                (λ d _. alike_more sight.names names name.bytes k usage.Set d refl alike)),
          )

  seen_set : (o : Option Seen) (name : Text) (value : JudgedPart) (c : ℕ) → set_seen o name value ≡ Ok c → (k : Kind) × (wanted k value ≡ Ok c)
  seen_set None name value c is = absurd cc
  seen_set (Some s) name value c is = (s.kind, where_is (can_be_set s.usage) name.place (wanted s.kind value) c is)

  pub set_fits : (name : Text) (e : Expr) → Fits (part_of sight e).found (expr_meant here e)
      → ActFits (set_judged name (λ s. part_of s e) sight) (set_run sight.contract view name e names)
  set_fits name e h a is =
      let told = told_bind (set_seen (name_seen name.bytes sight.names) name (part_of sight e)) (λ c. Ok (c, sight.names)) a is in
      let want = seen_set (name_seen name.bytes sight.names) name (part_of sight e) told.0 told.1 in
      stays sight told.0 a (set_run sight.contract view name e names) told.2 (
        within_less _ (spent (value_run sight.contract view e names)) told.0
            (omega (arith, spent_bind (value_run sight.contract view e names) (λ d. gives (with_datum name.bytes d names)) 0 (λ d. omega arith)))
            (fits_wanted want.0 (part_of sight e) (expr_meant here e) told.0 h want.1),
        after_bind (λ d. Unit {0}) _ (value_run sight.contract view e names) (λ d. gives (with_datum name.bytes d names)) (after_any (value_run sight.contract view e names))
            (λ d _. alike_set sight.names names name.bytes d alike),
      )

  -- ---- conditions

  condition_within : (e : Expr) (place c : ℕ) → Fits (part_of sight e).found (expr_meant here e) → wanted bool_kind (part_of sight e) ≡ Ok c
      → Within (spent (condition sight.contract view e place names)) c
  condition_within e place c h is =
      within_less _ (spent (value_run sight.contract view e names)) c
      (omega (arith, spent_bind (value_run sight.contract view e names) (given_bool place) 0 (λ d. omega (arith, free_or cause.Misfit place (bool_of d)))))
      (fits_wanted bool_kind (part_of sight e) (expr_meant here e) c h is)

  choice_costs : (e : Expr) (place c x : ℕ) (one other : Run (List Named)) → Within (spent (condition sight.contract view e place names)) c
      → Costs sight.names x one → Costs sight.names x other
      → Costs sight.names (plus c x) (condition sight.contract view e place names >>= λ holds. cond holds one other)
  choice_costs e place c x one other w a b = (
    within_then (λ holds. Unit {0}) (condition sight.contract view e place names) (λ holds. cond holds one other) (plus c x) (after_any (condition sight.contract view e place names))
        (within_less _ (spent (condition sight.contract view e place names) + 0) (plus c x) (omega arith) (within_plus _ 0 c x w (omega arith)))
        (λ holds _. taken_within holds),
    after_bind (λ holds. Unit {0}) (Alike sight.names) (condition sight.contract view e place names) (λ holds. cond holds one other) (after_any (condition sight.contract view e place names))
        (λ holds _. taken_after holds),
  )
    where
      taken_within : (holds : Bool) → Within (spent (condition sight.contract view e place names) + spent (cond holds one other)) (plus c x)
      taken_within true = (within_plus _ (spent one) c x w a.0)
      taken_within false = (within_plus _ (spent other) c x w b.0)

      taken_after : (holds : Bool) → After (Alike sight.names) (cond holds one other)
      taken_after true = a.1
      taken_after false = b.1

  pub if_fits : (e : Expr) (block : Blocked) (run : Naming) (place : ℕ) → Fits (part_of sight e).found (expr_meant here e) → BlockFits sight (block sight) (run names)
      → ActFits (if_judged (λ s. part_of s e) block sight) (if_run sight.contract view e run gives place names)
  if_fits e block run place h g a is =
      let want = told_bind (wanted bool_kind (part_of sight e)) (λ c. block sight >>- λ d. Ok (plus c d, sight.names)) a is in
      let inner = told_bind (block sight) (λ d. Ok (plus want.0 d, sight.names)) a want.2 in
      stays sight (plus want.0 inner.0) a (if_run sight.contract view e run gives place names) inner.2
      (choice_costs e place want.0 inner.0 (run names) (gives names) (condition_within e place want.0 h want.1) (g inner.0 inner.1) (omega arith, alike))

  pub if_else_fits : (e : Expr) (block other : Blocked) (run run2 : Naming) (place : ℕ) → Fits (part_of sight e).found (expr_meant here e)
      → BlockFits sight (block sight) (run names) → BlockFits sight (other sight) (run2 names)
      → ActFits (if_else_judged (λ s. part_of s e) block other sight) (if_run sight.contract view e run run2 place names)
  if_else_fits e block other run run2 place h g f a is =
      let want = told_bind (wanted bool_kind (part_of sight e)) (λ c. block sight >>- λ d. other sight >>- λ x. Ok (plus c (max d x), sight.names)) a is in
      let first = told_bind (block sight) (λ d. other sight >>- λ x. Ok (plus want.0 (max d x), sight.names)) a want.2 in
      let second = told_bind (other sight) (λ x. Ok (plus want.0 (max first.0 x), sight.names)) a first.2 in
      stays sight (plus want.0 (max first.0 second.0)) a (if_run sight.contract view e run run2 place names) second.2
      (choice_costs e place want.0 (max first.0 second.0) (run names) (run2 names) (condition_within e place want.0 h want.1)
      (within_left _ first.0 second.0 (g first.0 first.1).0, (g first.0 first.1).1)
      (within_right _ first.0 second.0 (f second.0 second.1).0, (f second.0 second.1).1))

  pub answer_fits : (e : Expr) (place : ℕ) → Fits (part_of sight e).found (expr_meant here e)
      → ActFits (answer_judged (λ s. part_of s e) place sight) (answer_run sight.contract view e place names)
  answer_fits e place h a is =
      let want = told_bind (wanted bool_kind (part_of sight e)) (λ c. Ok (c, sight.names)) a (where_is sight.in_check place _ a is) in
      stays sight want.0 a (answer_run sight.contract view e place names) want.2 (
        within_less _ (spent (condition sight.contract view e place names)) want.0
            (omega (arith, spent_bind {B = List Named} (condition sight.contract view e place names) answers 0 (λ b. omega arith)))
            (condition_within e place want.0 h want.1),
        after_bind (λ b. Unit {0}) (Alike sight.names) (condition sight.contract view e place names) answers (after_any (condition sight.contract view e place names)) (λ b _. tt),
      )

-- ---- loops

-- turns that are within x each
turns_within : (es : List Entry) (go : List Named → Datum → Run (List Named)) (x : ℕ)
    → ((names : List Named) (d : Datum) → Alike es names → Costs es x (go names d))
    → (ds : List Datum) (names : List Named) → Alike es names → Costs es (min (length ds * x) 18446744073709551615) (through go names ds)
turns_within es go x each [] names a = (omega arith, a)
turns_within es go x each (d ∷ ds) names a =
    let first = each names d a in (
      within_then (Alike es) (go names d) (λ b. through go b ds) (min (length (d ∷ ds) * x) 18446744073709551615) first.1
          (omega (arith, first.0, suc-mul (length ds) x))
          (λ b like. omega (arith, first.0, (turns_within es go x each ds b like).0, suc-mul (length ds) x)),
      after_bind (Alike es) (Alike es) (go names d) (λ b. through go b ds) first.1 (λ b like. (turns_within es go x each ds b like).1),
    )

numbers_length : (n from : ℕ) → length (numbers n from) ≡ n
numbers_length zero from = refl
numbers_length (suc n) from = omega (arith, numbers_length n (from + 1))

more_turns : (m count x : ℕ) → m ≤ count → min (m * x) 18446744073709551615 ≤ min (count * x) 18446744073709551615
more_turns m count x le = omega (arith, mul-le-mul_right x le)

-- a block with one name more, wherever it stands for something
abbrev pub TurnFits : InSight → List ℕ → Kind → Blocked → Naming → Type 0
TurnFits sight name k block each = EachFits block (sight_with_names sight (with_name sight.names name k usage.Read)) each

module _ (sight : InSight) (view : View) where
  turn_costs : (name : List ℕ) (k : Kind) (block : Blocked) (each : Naming) (c : ℕ) → TurnFits sight name k block each
      → block (sight_with_names sight (with_name sight.names name k usage.Read)) ≡ Ok c
      → (names : List Named) (d : Datum) → Alike sight.names names → Costs sight.names (plus c 1) (turn_run sight.contract view name k each names d)
  turn_costs name k block each c h is names d a =
      let more : List Named = with_named names name k d in
      let inner = h more (alike_more sight.names names name k usage.Read d refl a) c is in (
        within_less _ (spent (each more) + 1) (plus c 1)
            (omega (arith, spent_spend 1 (each more >>= λ after. gives (take (length names) after)), spent_bind (each more) (λ after. gives (take (length names) after)) 0 (λ after. omega arith)))
            (within_plus (spent (each more)) 1 c 1 inner.0 (omega arith)),
        after_spend (Alike sight.names) 1 (each more >>= λ after. gives (take (length names) after))
            (after_bind (Alike (with_name sight.names name k usage.Read)) (Alike sight.names) (each more) (λ after. gives (take (length names) after)) inner.1
            (λ after like. let P : ℕ → Type 0 = λ n. Alike sight.names (take n after) in
            subst P (alike_length sight.names names a) (alike_cut sight.names _ after like))),
      )

  turns_costs : (name : List ℕ) (k : Kind) (block : Blocked) (each : Naming) (c count : ℕ) → TurnFits sight name k block each
      → block (sight_with_names sight (with_name sight.names name k usage.Read)) ≡ Ok c
      → (ds : List Datum) → length ds ≤ count → (names : List Named) → Alike sight.names names → Costs sight.names (turns count c) (turns_run sight.contract view name k each ds names)
  turns_costs name k block each c count h is ds few names a =
      let all = turns_within sight.names (turn_run sight.contract view name k each) (plus c 1) (turn_costs name k block each c h is) ds names a in
      (omega (arith, all.0, more_turns (length ds) count (plus c 1) few), all.1)

  item_told : (o : Option Kind) (first : ℕ) (k : Kind) → or_first first o ≡ Ok k → o ≡ Some k
  item_told None first k is = absurd cc
  item_told (Some l) first k is = ap (λ (x : Kind). Some x) (ok_is l k (Ok l) refl is)

  abbrev over : Text → Naming → List Named → Kind → Option (List Datum) → Run (List Named)
  over name each names k o = or_trap cause.Misfit name.place o >>= λ items. turns_run sight.contract view name.bytes k each (take MOST_ITEMS items) names

  abbrev body : Text → Expr → Naming → List Named → Kind → Run (List Named)
  body name list each names k = value_run sight.contract view list names >>= λ d. over name each names k (items_of d)

  pub for_in_fits : (name : Text) (list : Expr) (block : Blocked) (each : Naming) (names : List Named) → Alike sight.names names
      → Fits (part_of sight list).found (expr_meant (record { contract = sight.contract; view = view; names = names }) list)
      → ((k : Kind) → TurnFits sight name.bytes k block each)
      → ActFits (for_in_judged name (λ s. part_of s list) block sight) (for_in_run sight.contract view name list each names)
  for_in_fits name list block each names alike h g a is =
      let found = told_bind (part_of sight list).found (λ j. or_first (part_of sight list).first (item_kind j.kind) >>- λ k. turn_judged name k block sight >>- λ d. Ok (plus j.cost (turns LIST_TURNS d), sight.names)) a
      (unless_is (is_taken sight name) name.place _ a is) in
      let item = told_bind (or_first (part_of sight list).first (item_kind found.0.kind)) (λ k. turn_judged name k block sight >>- λ d. Ok (plus found.0.cost (turns LIST_TURNS d), sight.names)) a found.2 in
      let inner = told_bind (turn_judged name item.0 block sight) (λ d. Ok (plus found.0.cost (turns LIST_TURNS d), sight.names)) a item.2 in
      let fits = h found.0 found.1 in
      stays sight (plus found.0.cost (turns LIST_TURNS inner.0)) a (for_in_run sight.contract view name list each names) inner.2
      (kinded item.0 inner.0 found.0.cost inner.1 fits.1 (option_and_then item_kind (value_kind sight.contract view list names))
      (ap (option_and_then item_kind) fits.0 ∙ item_told (item_kind found.0.kind) (part_of sight list).first item.0 item.1))
    where
      over_costs : (k : Kind) (c : ℕ) → turn_judged name k block sight ≡ Ok c → (o : Option (List Datum)) → Costs sight.names (turns LIST_TURNS c) (over name each names k o)
      over_costs k c is None = (omega arith, tt)
      over_costs k c is (Some items) =
          let all = turns_costs name.bytes k block each c LIST_TURNS (g k) is (take MOST_ITEMS items) (omega (arith, length-take MOST_ITEMS items)) names alike in (
            within_less _ (spent (turns_run sight.contract view name.bytes k each (take MOST_ITEMS items) names)) (turns LIST_TURNS c)
                (omega (arith, spent_spend 0 (turns_run sight.contract view name.bytes k each (take MOST_ITEMS items) names))) all.0,
            after_spend (Alike sight.names) 0 (turns_run sight.contract view name.bytes k each (take MOST_ITEMS items) names) all.1,
          )

      body_costs : (k : Kind) (c cost : ℕ) → turn_judged name k block sight ≡ Ok c → Within (spent (value_run sight.contract view list names)) cost
          → Costs sight.names (plus cost (turns LIST_TURNS c)) (body name list each names k)
      body_costs k c cost is w = (
        within_then (λ d. Unit {0}) (value_run sight.contract view list names) (λ d. over name each names k (items_of d)) (plus cost (turns LIST_TURNS c)) (after_any (value_run sight.contract view list names))
            (within_less _ (spent (value_run sight.contract view list names) + 0) (plus cost (turns LIST_TURNS c)) (omega arith) (within_plus _ 0 cost (turns LIST_TURNS c) w (omega arith)))
            (λ d _. (within_plus _ (spent (over name each names k (items_of d))) cost (turns LIST_TURNS c) w (over_costs k c is (items_of d)).0)),
        after_bind (λ d. Unit {0}) (Alike sight.names) (value_run sight.contract view list names) (λ d. over name each names k (items_of d)) (after_any (value_run sight.contract view list names))
            (λ d _. (over_costs k c is (items_of d)).1),
      )

      kinded : (k : Kind) (c cost : ℕ) → turn_judged name k block sight ≡ Ok c → Within (spent (value_run sight.contract view list names)) cost
          → (o : Option Kind) → o ≡ Some k → Costs sight.names (plus cost (turns LIST_TURNS c)) (or_trap cause.Misfit name.place o >>= λ l. body name list each names l)
      kinded k c cost is w o same =
          let P : Option Kind → Type 0 = λ p. Costs sight.names (plus cost (turns LIST_TURNS c)) (or_trap cause.Misfit name.place p >>= λ l. body name list each names l) in
          let all = body_costs k c cost is w in
          subst P (sym same)
          (within_less _ (spent (body name list each names k)) (plus cost (turns LIST_TURNS c)) (omega (arith, spent_spend 0 (body name list each names k))) all.0, after_spend (Alike sight.names) 0 (body name list each names k) all.1)

  pub for_to_fits : (name : Text) (count : ℕ) (block : Blocked) (each : Naming) (place : ℕ) (names : List Named) → Alike sight.names names
      → TurnFits sight name.bytes int_kind block each
      → ActFits (for_to_judged name count block place sight) (for_to_run sight.contract view name count each names)
  for_to_fits name count block each place names alike g a is =
      let inner = told_bind (turn_judged name int_kind block sight) (λ d. Ok (turns count d, sight.names)) a
      (unless_is (is_taken sight name) name.place _ a (unless_is (nat_lt MOST_TURNS count) place _ a is)) in
      stays sight (turns count inner.0) a (for_to_run sight.contract view name count each names) inner.2
      (turns_costs name.bytes int_kind block each inner.0 count g inner.1 (numbers (min count MOST_TURNS) 0)
      (omega (arith, numbers_length (min count MOST_TURNS) 0)) names alike)

-- ---- statements and blocks

pub stated_fits : (told : Told Added) (r : Run (List Named)) → ActFits told r → ActFits (stated told) (spend 1 r)
stated_fits told r h a is =
    let found = told_bind told (λ d. Ok (plus d.0 1, d.1)) a is in
    let made : (plus found.0.0 1, found.0.1) ≡ a = ok_is _ a _ refl found.2 in
    let fits = h found.0 found.1 in
    let P : Added → Type 0 = λ b. Costs b.1 b.0 (spend 1 r) in
    subst P made (
      within_less _ (spent r + 1) (plus found.0.0 1) (omega (arith, spent_spend 1 r)) (within_plus (spent r) 1 found.0.0 1 fits.0 (omega arith)),
      after_spend (Alike found.0.1) 1 r fits.1,
    )

pub stated_kept : (sight : InSight) (told : Told Added) → Keeps sight told → Keeps sight (stated told)
stated_kept sight told h a is =
    let found = told_bind told (λ d. Ok (plus d.0 1, d.1)) a is in
    let P : Added → Type 0 = λ b. Extends sight.names b.1 in
    subst P (ok_is _ a _ refl found.2) (h found.0 found.1)

-- a statement, wherever it stands in this contract's checks
abbrev pub OneFits : ContractTree → Stated → Naming → Type 0
OneFits contract told run =
    (sight : InSight) → sight.contract ≡ contract → sight.in_check ≡ true
    → Keeps sight (told sight) × ((names : List Named) → Alike sight.names names → ActFits (told sight) (run names))

abbrev pub AllOnes : ContractTree → List Stated → List Naming → Type 0
AllOnes contract [] [] = Unit {0}
AllOnes contract [] (r ∷ rs) = ⊥
AllOnes contract (t ∷ ts) [] = ⊥
AllOnes contract (t ∷ ts) (r ∷ rs) = OneFits contract t r × AllOnes contract ts rs

-- a sum only grows
sum_grows : (ts : List Stated) (cost n : ℕ) (sight : InSight) (total : SoFar) → told_through statement_added (cost, sight) ts ≡ Ok total → Within n cost → Within n total.0
sum_grows [] cost n sight total is w = omega (arith, w, ap (λ (t : SoFar). t.0) (ok_is (cost, sight) total (Ok (cost, sight)) refl is))
sum_grows (t ∷ ts) cost n sight total is w =
    let first = told_bind (statement_added (cost, sight) t) (λ b. told_through statement_added b ts) total is in
    let added = told_bind (t sight) (λ d. Ok (plus cost d.0, sight_with_names sight d.1)) first.0 first.1 in
    let made : (plus cost added.0.0, sight_with_names sight added.0.1) ≡ first.0 = ok_is _ first.0 _ refl added.2 in
    sum_grows ts (plus cost added.0.0) n (sight_with_names sight added.0.1) total (ap (λ (b : SoFar). told_through statement_added b ts) made ∙ first.2) (omega (arith, w))

module _ (contract : ContractTree) (view : View) where
  pub all_kept : (ts : List Stated) (rs : List Naming) → AllOnes contract ts rs → (cost : ℕ) (sight : InSight) → sight.contract ≡ contract → sight.in_check ≡ true
      → (total : SoFar) → told_through statement_added (cost, sight) ts ≡ Ok total → Extends sight.names total.1.names
  all_kept [] [] all cost sight of checks total is =
      let P : SoFar → Type 0 = λ t. Extends sight.names t.1.names in
      subst P (ok_is (cost, sight) total (Ok (cost, sight)) refl is) (extends_none sight.names)
  all_kept [] (r ∷ rs) all cost sight of checks total is = absurd all
  all_kept (t ∷ ts) [] all cost sight of checks total is = absurd all
  all_kept (t ∷ ts) (r ∷ rs) all cost sight of checks total is =
      let first = told_bind (statement_added (cost, sight) t) (λ b. told_through statement_added b ts) total is in
      let added = told_bind (t sight) (λ d. Ok (plus cost d.0, sight_with_names sight d.1)) first.0 first.1 in
      let made : (plus cost added.0.0, sight_with_names sight added.0.1) ≡ first.0 = ok_is _ first.0 _ refl added.2 in
      extends_on sight.names added.0.1 total.1.names ((all.0 sight of checks).0 added.0 added.1)
      (all_kept ts rs all.1 (plus cost added.0.0) (sight_with_names sight added.0.1) of checks total (ap (λ (b : SoFar). told_through statement_added b ts) made ∙ first.2))

  all_within : (ts : List Stated) (rs : List Naming) → AllOnes contract ts rs → (cost : ℕ) (sight : InSight) → sight.contract ≡ contract → sight.in_check ≡ true
      → (names : List Named) → Alike sight.names names → (total : SoFar) → told_through statement_added (cost, sight) ts ≡ Ok total
      → (n : ℕ) → Within n cost → Within (n + spent (all_run contract view rs names)) total.0 × After (Alike total.1.names) (all_run contract view rs names)
  all_within [] [] all cost sight of checks names a total is n w =
      let P : SoFar → Type 0 = λ t. Within (n + 0) t.0 × Alike t.1.names names in
      subst P (ok_is (cost, sight) total (Ok (cost, sight)) refl is) (omega (arith, w), a)
  all_within [] (r ∷ rs) all cost sight of checks names a total is n w = absurd all
  all_within (t ∷ ts) [] all cost sight of checks names a total is n w = absurd all
  all_within (t ∷ ts) (r ∷ rs) all cost sight of checks names a total is n w =
      let first = told_bind (statement_added (cost, sight) t) (λ b. told_through statement_added b ts) total is in
      let added = told_bind (t sight) (λ d. Ok (plus cost d.0, sight_with_names sight d.1)) first.0 first.1 in
      let made : (plus cost added.0.0, sight_with_names sight added.0.1) ≡ first.0 = ok_is _ first.0 _ refl added.2 in
      let told = ap (λ (b : SoFar). told_through statement_added b ts) made ∙ first.2 in
      let fits = (all.0 sight of checks).1 names a added.0 added.1 in
      let sum : Within (n + spent (r names)) (plus cost added.0.0) = within_plus n (spent (r names)) cost added.0.0 w fits.0 in
      let next : (b : List Named) → Alike added.0.1 b → Within (n + spent (r names) + spent (all_run contract view rs b)) total.0 × After (Alike total.1.names) (all_run contract view rs b) =
      λ b like. all_within ts rs all.1 (plus cost added.0.0) (sight_with_names sight added.0.1) of checks b like total told (n + spent (r names)) sum in (
        within_after (Alike added.0.1) (r names) (λ b. all_run contract view rs b) n total.0 fits.1
            (sum_grows ts (plus cost added.0.0) (n + spent (r names)) (sight_with_names sight added.0.1) total told sum)
            (λ b like. (next b like).0),
        after_bind (Alike added.0.1) (Alike total.1.names) (r names) (λ b. all_run contract view rs b) fits.1 (λ b like. (next b like).1),
      )

  -- the names of a block end with it
  pub block_fits : (ts : List Stated) (rs : List Naming) → AllOnes contract ts rs → (sight : InSight) → sight.contract ≡ contract → sight.in_check ≡ true
      → (names : List Named) → Alike sight.names names
      → BlockFits sight (block_judged ts sight) (all_run contract view rs names >>= λ after. gives (take (length names) after))
  block_fits ts rs all sight of checks names a c is =
      let found = told_bind (told_through statement_added (0, sight) ts) (λ d. Ok d.0) c is in
      let sum : found.0.0 ≡ c = ok_is found.0.0 c (Ok found.0.0) refl found.2 in
      let inner = all_within ts rs all 0 sight of checks names a found.0 found.1 0 (omega arith) in
      let kept = all_kept ts rs all 0 sight of checks found.0 found.1 in (
        within_less _ (0 + spent (all_run contract view rs names)) c
            (omega (arith, spent_bind (all_run contract view rs names) (λ after. gives (take (length names) after)) 0 (λ after. omega arith)))
            (omega (arith, inner.0, sum)),
        after_bind (Alike found.0.1.names) (Alike sight.names) (all_run contract view rs names) (λ after. gives (take (length names) after)) inner.1
            (λ after like. let P : ℕ → Type 0 = λ n. Alike sight.names (take n after) in
            let Q : List Entry → Type 0 = λ es. Alike es after in
            subst P (alike_length sight.names names a) (alike_cut sight.names kept.0 after (subst Q kept.1 like))),
      )
