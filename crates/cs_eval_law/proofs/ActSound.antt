-- Statements of accepted contracts: their names stand for what has their kinds, and no value of a wrong kind is met.
use Rattle.std.proofs.Common.{◌≡◌, ℕ, zero, suc, ◌+◌, min, max, pos, Bool, true, false, cond, Option, None, Some, Result, Ok, Err, List, [], ◌∷◌, ◌++◌, map, take, length, refl, sym, ap, ◌∙◌, subst, arith}
use Rattle.std.specs.Prelude.{nat_lt, option_and_then}
use Rattle.cs_lang_token.specs.declared.limits.TheConstants.{MOST_ITEMS, MOST_TURNS, LIST_TURNS}
use Rattle.cs_lang_token.specs.Grammar.{◌>>=◌ as ◌>>-◌}
use Rattle.cs_lang_token.specs.declared.token.Text.{Text}
use Rattle.cs_lang.specs.declared.tree.ContractTree.{ContractTree}
use Rattle.cs_lang.specs.declared.tree.TypeDef.{TypeDef}
use Rattle.cs_lang.specs.declared.tree.Expr.{Expr}
use Rattle.cs_types_kinds.specs.declared.kind.Kind.{Kind}
use Rattle.cs_types_kinds.specs.declared.scope.Use.TheVariants as usage
use Rattle.cs_types_kinds.specs.declared.scope.Seen.{Seen}
use Rattle.cs_types_kinds.specs.declared.scope.Entry.{Entry}
use Rattle.cs_types_kinds.specs.declared.expressions.Judged.{Judged}
use Rattle.cs_types_kinds.specs.Told.{Told, mistyped, unbound, told_through as told_through, plus}
use Rattle.cs_types_kinds.specs.Kinds.{int_kind as int_kind, bool as bool_kind, item_kind as item_kind}
use Rattle.cs_types_kinds.specs.Scopes.{InSight, name_seen, with_name, sight_with_names}
use Rattle.cs_types_kinds.specs.Judging.{JudgedPart, wanted, or_first}
use Rattle.cs_types_kinds.specs.Parts.{part_of}
use Rattle.cs_types.specs.Stating.{Added, Blocked, Stated, SoFar, statement_added, block_judged, turns, turn_judged, is_taken, is_value, let_judged, can_be_set, set_seen, set_judged, if_judged, if_else_judged, for_in_judged, for_to_judged, answer_judged, stated}
use Rattle.cs_eval_values.specs.declared.stop.Cause.TheVariants as cause
use Rattle.cs_eval_values.specs.declared.view.View.{View}
use Rattle.cs_eval_values.specs.Runs.{Run, gives, answers, spend, ◌>>=◌, through, or_trap}
use Rattle.cs_eval_values.specs.Datums.{Datum, items_of, bool_of}
use Rattle.cs_eval_values.specs.Operators.{int, given_bool}
use Rattle.cs_eval_values.specs.Namings.{Named, named, is_of_name, find_named, kind_in, kind_named, with_named, with_datum}
use Rattle.cs_eval.specs.Meaning.{Meant, run_of, expr_meant}
use Rattle.cs_eval_law.specs.Acting.{Naming, numbers, seen_with, value_run, value_kind, let_run, set_run, condition, if_run, answer_run, turn_run, turns_run, for_in_run, for_to_run, one_run, all_run}
use Rattle.cs_eval_law.proofs.Within.{ok_is, some_is}
use Rattle.cs_eval_law.proofs.ExprFits.{told_bind}
use Rattle.cs_eval_law.proofs.Alike.{Alike, Extends, alike_length, alike_more, alike_cut, alike_set, alike_seen}
use Rattle.cs_eval_law.proofs.ActFits.{Keeps, AllOnes, all_kept}
use Rattle.cs_eval_law.proofs.Sound.{Sound, sound_spend, sound_bind, sound_there, sound_cond}
use Rattle.cs_eval_law.proofs.Kinded.{HasKind, AllHave, bool_given, int_has, items_there, take_have}
use Rattle.cs_eval_law.proofs.ExprSound.{AreKinded, Yields, yields_wanted}

-- the names are those in sight, and each stands for something of its kind
abbrev pub Good : List TypeDef → List Entry → List Named → Type 0
Good types es ns = Alike es ns × AreKinded types ns

pub kinded_more : (types : List TypeDef) (ns : List Named) (name : List ℕ) (k : Kind) (d : Datum) → AreKinded types ns → HasKind types k d → AreKinded types (with_named ns name k d)
kinded_more types [] name k d all h = (h, tt)
kinded_more types (n ∷ ns) name k d all h = (all.0, kinded_more types ns name k d all.1 h)

kinded_cut : (types : List TypeDef) (i : ℕ) (ns : List Named) → AreKinded types ns → AreKinded types (take i ns)
kinded_cut types zero ns all = tt
kinded_cut types (suc i) [] all = tt
kinded_cut types (suc i) (n ∷ ns) all = (all.0, kinded_cut types i ns all.1)

kinded_set : (types : List TypeDef) (ns : List Named) (name : List ℕ) (k : Kind) (d : Datum) → AreKinded types ns → kind_named name ns ≡ Some k → HasKind types k d → AreKinded types (with_datum name d ns)
kinded_set types [] name k d all is h = tt
kinded_set types (n ∷ ns) name k d all is h = by_test (λ e. kinded_set types ns name k d all.1 e h) (is_of_name name n) is
  where
    by_test : (kind_named name ns ≡ Some k → AreKinded types (with_datum name d ns)) → (b : Bool) → kind_in (cond b (Some n) (find_named name ns)) ≡ Some k
        → AreKinded types (cond b (named n.name n.kind d ∷ ns) (n ∷ with_datum name d ns))
    by_test behind true e = let P : Kind → Type 0 = λ j. HasKind types j d in (subst P (sym (some_is n.kind k e)) h, all.1)
    by_test behind false e = (all.0, behind e)

-- ---- what is told of statements and blocks

abbrev pub ActSound : List TypeDef → Told Added → Run (List Named) → Type 0
ActSound types told r = (a : Added) → told ≡ Ok a → Sound (Good types a.1) r

abbrev pub BlockSound : InSight → Told ℕ → Run (List Named) → Type 0
BlockSound sight told r = (c : ℕ) → told ≡ Ok c → Sound (Good sight.contract.types sight.names) r

abbrev told_as : Added → Told Added
told_as a = Ok a

unless_is : {X : Type 0} (b : Bool) (place : ℕ) (t : Told X) (x : X) → cond b (mistyped place) t ≡ Ok x → t ≡ Ok x
unless_is true place t x is = absurd cc
unless_is false place t x is = is

where_is : {X : Type 0} (b : Bool) (place : ℕ) (t : Told X) (x : X) → cond b t (mistyped place) ≡ Ok x → t ≡ Ok x
where_is true place t x is = is
where_is false place t x is = absurd cc

same_names : (sight : InSight) (c : ℕ) (a : Added) (r : Run (List Named)) → told_as (c, sight.names) ≡ Ok a → Sound (Good sight.contract.types sight.names) r → Sound (Good sight.contract.types a.1) r
same_names sight c a r is h =
    let P : Added → Type 0 = λ b. Sound (Good sight.contract.types b.1) r in subst P (ok_is (c, sight.names) a (Ok (c, sight.names)) refl is) h

module _ (sight : InSight) (view : View) (names : List Named) (good : Good sight.contract.types sight.names names) where
  abbrev types : List TypeDef
  types = sight.contract.types

  abbrev means : Expr → Meant
  means e = expr_meant (seen_with sight.contract view names) e

  -- ---- names and values

  pub let_sound : (name : Text) (e : Expr) → Yields types (part_of sight e).found (means e) → ((j : Judged) → (part_of sight e).found ≡ Ok j → value_kind sight.contract view e names ≡ Some j.kind)
      → ActSound types (let_judged name (λ s. part_of s e) sight) (let_run sight.contract view name e names)
  let_sound name e h given a is =
      let found = told_bind (part_of sight e).found (λ j. cond (is_value j.kind) (Ok (j.cost, with_name sight.names name.bytes j.kind usage.Set)) (mistyped (part_of sight e).first)) a
      (unless_is (is_taken sight name) name.place ((part_of sight e).found >>- λ j. cond (is_value j.kind) (Ok (j.cost, with_name sight.names name.bytes j.kind usage.Set)) (mistyped (part_of sight e).first)) a is) in
      let made : (found.0.cost, with_name sight.names name.bytes found.0.kind usage.Set) ≡ a =
      ok_is _ a _ refl (where_is (is_value found.0.kind) (part_of sight e).first _ a found.2) in
      let P : Added → Type 0 = λ b. Sound (Good types b.1) (let_run sight.contract view name e names) in
      let Q : List Named → Type 0 = Good types (with_name sight.names name.bytes found.0.kind usage.Set) in
      subst P made
      (sound_there Q cause.Misfit name.place (value_kind sight.contract view e names) found.0.kind (λ k. value_run sight.contract view e names >>= λ d. gives (with_named names name.bytes k d)) (given found.0 found.1)
      (sound_bind (HasKind types found.0.kind) Q (value_run sight.contract view e names) (λ d. gives (with_named names name.bytes found.0.kind d)) (h found.0 found.1)
      (λ d has. (alike_more sight.names names name.bytes found.0.kind usage.Set d refl good.0, kinded_more types names name.bytes found.0.kind d good.1 has))))

  seen_set : (o : Option Seen) (name : Text) (value : JudgedPart) (c : ℕ) → set_seen o name value ≡ Ok c → (s : Seen) × (o ≡ Some s) × (wanted s.kind value ≡ Ok c)
  seen_set None name value c is = absurd cc
  seen_set (Some s) name value c is = (s, refl, where_is (can_be_set s.usage) name.place (wanted s.kind value) c is)

  pub set_sound : (name : Text) (e : Expr) → Yields types (part_of sight e).found (means e)
      → ActSound types (set_judged name (λ s. part_of s e) sight) (set_run sight.contract view name e names)
  set_sound name e h a is =
      let told = told_bind (set_seen (name_seen name.bytes sight.names) name (part_of sight e)) (λ c. Ok (c, sight.names)) a is in
      let want = seen_set (name_seen name.bytes sight.names) name (part_of sight e) told.0 told.1 in
      same_names sight told.0 a (set_run sight.contract view name e names) told.2
      (sound_bind (HasKind types want.0.kind) (Good types sight.names) (value_run sight.contract view e names) (λ d. gives (with_datum name.bytes d names))
      (yields_wanted types want.0.kind (part_of sight e) (means e) told.0 h want.2)
      (λ d has. (
        alike_set sight.names names name.bytes d good.0,
        kinded_set types names name.bytes want.0.kind d good.1 (alike_seen sight.names names name.bytes want.0 good.0 want.1) has,
      )))

  -- ---- conditions

  condition_sound : (e : Expr) (place c : ℕ) → Yields types (part_of sight e).found (means e) → wanted bool_kind (part_of sight e) ≡ Ok c
      → Sound (λ b. Unit {0}) (condition sight.contract view e place names)
  condition_sound e place c h is =
      sound_bind (HasKind types bool_kind) (λ b. Unit {0}) (value_run sight.contract view e names) (given_bool place) (yields_wanted types bool_kind (part_of sight e) (means e) c h is)
      (λ d has. let b = bool_given types d has in
      let P : Option Bool → Type 0 = λ o. Sound (λ x. Unit {0}) (or_trap cause.Misfit place o) in subst P (sym b.1) tt)

  choice_sound : (e : Expr) (place c : ℕ) (one other : Run (List Named)) → Yields types (part_of sight e).found (means e) → wanted bool_kind (part_of sight e) ≡ Ok c
      → Sound (Good types sight.names) one → Sound (Good types sight.names) other → Sound (Good types sight.names) (condition sight.contract view e place names >>= λ holds. cond holds one other)
  choice_sound e place c one other h is f g =
      sound_bind (λ b. Unit {0}) (Good types sight.names) (condition sight.contract view e place names) (λ holds. cond holds one other) (condition_sound e place c h is)
      (λ holds _. sound_cond (Good types sight.names) holds one other f g)

  pub if_sound : (e : Expr) (block : Blocked) (run : Naming) (place : ℕ) → Yields types (part_of sight e).found (means e) → BlockSound sight (block sight) (run names)
      → ActSound types (if_judged (λ s. part_of s e) block sight) (if_run sight.contract view e run gives place names)
  if_sound e block run place h g a is =
      let want = told_bind (wanted bool_kind (part_of sight e)) (λ c. block sight >>- λ d. Ok (plus c d, sight.names)) a is in
      let inner = told_bind (block sight) (λ d. Ok (plus want.0 d, sight.names)) a want.2 in
      same_names sight (plus want.0 inner.0) a (if_run sight.contract view e run gives place names) inner.2
      (choice_sound e place want.0 (run names) (gives names) h want.1 (g inner.0 inner.1) good)

  pub if_else_sound : (e : Expr) (block other : Blocked) (run run2 : Naming) (place : ℕ) → Yields types (part_of sight e).found (means e)
      → BlockSound sight (block sight) (run names) → BlockSound sight (other sight) (run2 names)
      → ActSound types (if_else_judged (λ s. part_of s e) block other sight) (if_run sight.contract view e run run2 place names)
  if_else_sound e block other run run2 place h g f a is =
      let want = told_bind (wanted bool_kind (part_of sight e)) (λ c. block sight >>- λ d. other sight >>- λ x. Ok (plus c (max d x), sight.names)) a is in
      let first = told_bind (block sight) (λ d. other sight >>- λ x. Ok (plus want.0 (max d x), sight.names)) a want.2 in
      let second = told_bind (other sight) (λ x. Ok (plus want.0 (max first.0 x), sight.names)) a first.2 in
      same_names sight (plus want.0 (max first.0 second.0)) a (if_run sight.contract view e run run2 place names) second.2
      (choice_sound e place want.0 (run names) (run2 names) h want.1 (g first.0 first.1) (f second.0 second.1))

  pub answer_sound : (e : Expr) (place : ℕ) → Yields types (part_of sight e).found (means e)
      → ActSound types (answer_judged (λ s. part_of s e) place sight) (answer_run sight.contract view e place names)
  answer_sound e place h a is =
      let want = told_bind (wanted bool_kind (part_of sight e)) (λ c. Ok (c, sight.names)) a (where_is sight.in_check place _ a is) in
      same_names sight want.0 a (answer_run sight.contract view e place names) want.2
      (sound_bind (λ b. Unit {0}) (Good types sight.names) (condition sight.contract view e place names) answers (condition_sound e place want.0 h want.1) (λ b _. tt))

pub never_sound : (types : List TypeDef) (b : Bool) (place : ℕ) (told : Told Added) (r : Run (List Named)) → b ≡ true → ActSound types (cond b (mistyped place) told) r
never_sound types true place told r checks = λ a is. absurd cc
never_sound types false place told r checks = absurd cc

-- ---- loops

module _ (types : List TypeDef) where
  turns_good : (es : List Entry) (k : Kind) (go : List Named → Datum → Run (List Named)) → ((names : List Named) (d : Datum) → Good types es names → HasKind types k d → Sound (Good types es) (go names d))
      → (ds : List Datum) → AllHave types k ds → (names : List Named) → Good types es names → Sound (Good types es) (through go names ds)
  turns_good es k go each [] have names good = good
  turns_good es k go each (d ∷ ds) have names good =
      sound_bind (Good types es) (Good types es) (go names d) (λ b. through go b ds) (each names d good have.0) (λ b better. turns_good es k go each ds have.1 b better)

  numbers_have : (n from : ℕ) → AllHave types int_kind (numbers n from)
  numbers_have zero from = tt
  numbers_have (suc n) from = (int_has types (pos from), numbers_have n (from + 1))

-- a block with one name more, whatever of its kind it stands for
abbrev pub TurnSound : InSight → List ℕ → Kind → Blocked → Naming → Type 0
TurnSound sight name k block each =
    (names : List Named) → Good sight.contract.types (with_name sight.names name k usage.Read) names
    → BlockSound (sight_with_names sight (with_name sight.names name k usage.Read)) (block (sight_with_names sight (with_name sight.names name k usage.Read))) (each names)

module _ (sight : InSight) (view : View) where
  turn_good : (name : List ℕ) (k : Kind) (block : Blocked) (each : Naming) (c : ℕ) → TurnSound sight name k block each
      → block (sight_with_names sight (with_name sight.names name k usage.Read)) ≡ Ok c
      → (names : List Named) (d : Datum) → Good sight.contract.types sight.names names → HasKind sight.contract.types k d → Sound (Good sight.contract.types sight.names) (turn_run sight.contract view name k each names d)
  turn_good name k block each c h is names d good has =
      let more : List Named = with_named names name k d in
      let es : List Entry = with_name sight.names name k usage.Read in
      sound_spend (Good sight.contract.types sight.names) 1 (each more >>= λ after. gives (take (length names) after))
      (sound_bind (Good sight.contract.types es) (Good sight.contract.types sight.names) (each more) (λ after. gives (take (length names) after))
      (h more (alike_more sight.names names name k usage.Read d refl good.0, kinded_more sight.contract.types names name k d good.1 has) c is)
      (λ after better. let P : ℕ → Type 0 = λ n. Alike sight.names (take n after) in
      (subst P (alike_length sight.names names good.0) (alike_cut sight.names _ after better.0), kinded_cut sight.contract.types (length names) after better.1)))

  turns_sound : (name : List ℕ) (k : Kind) (block : Blocked) (each : Naming) (c : ℕ) → TurnSound sight name k block each
      → block (sight_with_names sight (with_name sight.names name k usage.Read)) ≡ Ok c
      → (ds : List Datum) → AllHave sight.contract.types k ds → (names : List Named) → Good sight.contract.types sight.names names
      → Sound (Good sight.contract.types sight.names) (turns_run sight.contract view name k each ds names)
  turns_sound name k block each c h is ds have names good =
      turns_good sight.contract.types sight.names k (turn_run sight.contract view name k each) (turn_good name k block each c h is) ds have names good

  item_told : (o : Option Kind) (first : ℕ) (k : Kind) → or_first first o ≡ Ok k → o ≡ Some k
  item_told None first k is = absurd cc
  item_told (Some l) first k is = ap (λ (x : Kind). Some x) (ok_is l k (Ok l) refl is)

  pub for_in_sound : (name : Text) (list : Expr) (block : Blocked) (each : Naming) (names : List Named) → Good sight.contract.types sight.names names
      → Yields sight.contract.types (part_of sight list).found (expr_meant (seen_with sight.contract view names) list)
      → ((j : Judged) → (part_of sight list).found ≡ Ok j → value_kind sight.contract view list names ≡ Some j.kind)
      → ((k : Kind) → TurnSound sight name.bytes k block each)
      → ActSound sight.contract.types (for_in_judged name (λ s. part_of s list) block sight) (for_in_run sight.contract view name list each names)
  for_in_sound name list block each names good h given g a is =
      let found = told_bind (part_of sight list).found (λ j. or_first (part_of sight list).first (item_kind j.kind) >>- λ k. turn_judged name k block sight >>- λ d. Ok (plus j.cost (turns LIST_TURNS d), sight.names)) a
      (unless_is (is_taken sight name) name.place _ a is) in
      let item = told_bind (or_first (part_of sight list).first (item_kind found.0.kind)) (λ k. turn_judged name k block sight >>- λ d. Ok (plus found.0.cost (turns LIST_TURNS d), sight.names)) a found.2 in
      let inner = told_bind (turn_judged name item.0 block sight) (λ d. Ok (plus found.0.cost (turns LIST_TURNS d), sight.names)) a item.2 in
      let kind_is = item_told (item_kind found.0.kind) (part_of sight list).first item.0 item.1 in
      let Q : List Named → Type 0 = Good sight.contract.types sight.names in
      same_names sight (plus found.0.cost (turns LIST_TURNS inner.0)) a (for_in_run sight.contract view name list each names) inner.2
      (sound_there Q cause.Misfit name.place (option_and_then item_kind (value_kind sight.contract view list names)) item.0
      (λ k. value_run sight.contract view list names >>= λ d. or_trap cause.Misfit name.place (items_of d) >>= λ items. turns_run sight.contract view name.bytes k each (take MOST_ITEMS items) names)
      (ap (option_and_then item_kind) (given found.0 found.1) ∙ kind_is)
      (sound_bind (HasKind sight.contract.types found.0.kind) Q (value_run sight.contract view list names)
      (λ d. or_trap cause.Misfit name.place (items_of d) >>= λ items. turns_run sight.contract view name.bytes item.0 each (take MOST_ITEMS items) names) (h found.0 found.1)
      (λ d has. let there = items_there sight.contract.types found.0.kind item.0 d kind_is has in
      sound_there Q cause.Misfit name.place (items_of d) there.0 (λ items. turns_run sight.contract view name.bytes item.0 each (take MOST_ITEMS items) names) there.1
      (turns_sound name.bytes item.0 block each inner.0 (g item.0) inner.1 (take MOST_ITEMS there.0) (take_have sight.contract.types item.0 MOST_ITEMS there.0 there.2) names good))))

  pub for_to_sound : (name : Text) (count : ℕ) (block : Blocked) (each : Naming) (place : ℕ) (names : List Named) → Good sight.contract.types sight.names names
      → TurnSound sight name.bytes int_kind block each
      → ActSound sight.contract.types (for_to_judged name count block place sight) (for_to_run sight.contract view name count each names)
  for_to_sound name count block each place names good g a is =
      let inner = told_bind (turn_judged name int_kind block sight) (λ d. Ok (turns count d, sight.names)) a
      (unless_is (is_taken sight name) name.place _ a (unless_is (nat_lt MOST_TURNS count) place _ a is)) in
      same_names sight (turns count inner.0) a (for_to_run sight.contract view name count each names) inner.2
      (turns_sound name.bytes int_kind block each inner.0 g inner.1 (numbers (min count MOST_TURNS) 0) (numbers_have sight.contract.types (min count MOST_TURNS) 0) names good)

-- ---- statements and blocks

pub stated_sound : (types : List TypeDef) (told : Told Added) (r : Run (List Named)) → ActSound types told r → ActSound types (stated told) (spend 1 r)
stated_sound types told r h a is =
    let found = told_bind told (λ d. Ok (plus d.0 1, d.1)) a is in
    let P : Added → Type 0 = λ b. Sound (Good types b.1) (spend 1 r) in
    subst P (ok_is _ a _ refl found.2) (sound_spend (Good types found.0.1) 1 r (h found.0 found.1))

abbrev pub OneSound : ContractTree → Stated → Naming → Type 0
OneSound contract told run =
    (sight : InSight) → sight.contract ≡ contract → sight.in_check ≡ true → (names : List Named) → Good contract.types sight.names names → ActSound contract.types (told sight) (run names)

abbrev pub AllSound : ContractTree → List Stated → List Naming → Type 0
AllSound contract [] [] = Unit {0}
AllSound contract [] (r ∷ rs) = ⊥
AllSound contract (t ∷ ts) [] = ⊥
AllSound contract (t ∷ ts) (r ∷ rs) = OneSound contract t r × AllSound contract ts rs

module _ (contract : ContractTree) (view : View) where
  all_sound : (ts : List Stated) (rs : List Naming) → AllSound contract ts rs → (cost : ℕ) (sight : InSight) → sight.contract ≡ contract → sight.in_check ≡ true
      → (names : List Named) → Good contract.types sight.names names → (total : SoFar) → told_through statement_added (cost, sight) ts ≡ Ok total
      → Sound (Good contract.types total.1.names) (all_run contract view rs names)
  all_sound [] [] all cost sight of checks names good total is =
      let P : SoFar → Type 0 = λ t. Good contract.types t.1.names names in subst P (ok_is (cost, sight) total (Ok (cost, sight)) refl is) good
  all_sound [] (r ∷ rs) all cost sight of checks names good total is = absurd all
  all_sound (t ∷ ts) [] all cost sight of checks names good total is = absurd all
  all_sound (t ∷ ts) (r ∷ rs) all cost sight of checks names good total is =
      let first = told_bind (statement_added (cost, sight) t) (λ b. told_through statement_added b ts) total is in
      let added = told_bind (t sight) (λ d. Ok (plus cost d.0, sight_with_names sight d.1)) first.0 first.1 in
      let made : (plus cost added.0.0, sight_with_names sight added.0.1) ≡ first.0 = ok_is _ first.0 _ refl added.2 in
      let told = ap (λ (b : SoFar). told_through statement_added b ts) made ∙ first.2 in
      sound_bind (Good contract.types added.0.1) (Good contract.types total.1.names) (r names) (λ b. all_run contract view rs b) (all.0 sight of checks names good added.0 added.1)
      (λ b better. all_sound ts rs all.1 (plus cost added.0.0) (sight_with_names sight added.0.1) of checks b better total told)

  -- the names of a block end with it
  pub block_sound : (ts : List Stated) (rs : List Naming) → AllSound contract ts rs → AllOnes contract ts rs → (sight : InSight) → sight.contract ≡ contract → sight.in_check ≡ true
      → (names : List Named) → Good contract.types sight.names names → (c : ℕ) → block_judged ts sight ≡ Ok c
      → Sound (Good contract.types sight.names) (all_run contract view rs names >>= λ after. gives (take (length names) after))
  block_sound ts rs all ones sight of checks names good c is =
      let found = told_bind (told_through statement_added (0, sight) ts) (λ d. Ok d.0) c is in
      let kept = all_kept contract view ts rs ones 0 sight of checks found.0 found.1 in
      sound_bind (Good contract.types found.0.1.names) (Good contract.types sight.names) (all_run contract view rs names) (λ after. gives (take (length names) after))
      (all_sound ts rs all 0 sight of checks names good found.0 found.1)
      (λ after better. let P : ℕ → Type 0 = λ n. Alike sight.names (take n after) in
      let Q : List Entry → Type 0 = λ es. Alike es after in
      (subst P (alike_length sight.names names good.0) (alike_cut sight.names kept.0 after (subst Q kept.1 better.0)), kinded_cut contract.types (length names) after better.1))
