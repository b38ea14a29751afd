-- The cells of a block are at most four times what was told that it costs.
use Rattle.std.proofs.Common.{◌≡◌, ℕ, zero, suc, ◌+◌, ◌*◌, max, Bool, true, false, cond, Option, None, Some, Ok, List, [], ◌∷◌, map, refl, sym, ap, subst, arith}
use Rattle.std.specs.Prelude.{nat_lt}
use Rattle.std.proofs.Math.Nat.{suc-mul}
use Rattle.cs_lang_token.specs.declared.limits.TheConstants.{MOST_ITEMS, MOST_TURNS, LIST_TURNS}
use Rattle.cs_lang_token.specs.Grammar.{◌>>=◌ as ◌>>-◌}
use Rattle.cs_lang_token.specs.declared.token.Text.{Text}
use Rattle.cs_lang.specs.declared.tree.Expr.{Expr}
use Rattle.cs_lang.specs.declared.tree.Block.{Block, roll-Block, map-Block}
use Rattle.cs_lang.specs.declared.tree.Statement.{Statement, roll-Statement, map-Statement}
use Rattle.cs_lang.specs.declared.tree.Action.{Action, roll-Action, map-Action}
use Rattle.cs_lang.specs.declared.tree.Action.TheOpen.{Block-F, Statement-F, Action-F}
use Rattle.cs_lang.specs.declared.tree.Action.TheFolds.{ind-Block, fold-roll-Action, fold-roll-Block, fold-roll-Statement}
use Rattle.cs_types_kinds.specs.declared.kind.Kind.{Kind}
use Rattle.cs_types_kinds.specs.declared.scope.Seen.{Seen}
use Rattle.cs_types_kinds.specs.declared.scope.Use.TheVariants as usage
use Rattle.cs_types_kinds.specs.Told.{Told, mistyped, told_through as told_through, plus}
use Rattle.cs_types_kinds.specs.Kinds.{int_kind as int_kind, bool as bool_kind, item_kind as item_kind}
use Rattle.cs_types_kinds.specs.Scopes.{InSight, name_seen, with_name, sight_with_names}
use Rattle.cs_types_kinds.specs.Judging.{JudgedPart, wanted, or_first}
use Rattle.cs_types_kinds.specs.Parts.{part_of}
use Rattle.cs_types.specs.Stating.{Added, Blocked, Stated, SoFar, statement_added, block_judged, turns, turn_judged, is_taken, is_value, let_judged, can_be_set, set_seen, set_judged, if_judged, if_else_judged, for_in_judged, for_to_judged, answer_judged, stated}
use Rattle.cs_types.specs.Blocks.{Acted, part, action_from_parts, block_told, statement_told, action_told}
use Rattle.cs_eval_cells.specs.Cells.{together, cells}
use Rattle.cs_eval_cells.specs.Blocks.{action_cells, block_cells, statement_cells, cells_of_action, cells_of_block, cells_of_statement}
use Rattle.cs_eval_law.proofs.Within.{ok_is}
use Rattle.cs_eval_law.proofs.ExprFits.{told_bind}
use Rattle.cs_eval_cells.proofs.ExprCells.{Celled, Sized, sized_wanted, expr_celled}
use Rattle.cs_eval_law.proofs.BlockTrees.{action_parts, told_action, told_block, told_statement}

abbrev pub BlockSized : Told ℕ → ℕ → Type 0
BlockSized told n = (c : ℕ) → told ≡ Ok c → Celled n c

-- what is told of what a statement does, which costs one more
abbrev pub ActSized : Told Added → ℕ → Type 0
ActSized told n = (d : Added) → told ≡ Ok d → Celled n (plus d.0 1)

-- what is told of a statement
abbrev pub OneSized : Told Added → ℕ → Type 0
OneSized told n = (d : Added) → told ≡ Ok d → Celled n d.0

-- ---- what was told

value_of : {X : Type 0} (b : Bool) (x y : X) (place : ℕ) → cond b (Ok x) (mistyped place) ≡ Ok y → x ≡ y
value_of true x y place is = ok_is x y (Ok x) refl is
value_of false x y place is = absurd cc

passed : {X : Type 0} (b : Bool) (t : Told X) (y : X) (place : ℕ) → cond b t (mistyped place) ≡ Ok y → t ≡ Ok y
passed true t y place is = is
passed false t y place is = absurd cc

passed_by : {X : Type 0} (b : Bool) (t : Told X) (y : X) (place : ℕ) → cond b (mistyped place) t ≡ Ok y → t ≡ Ok y
passed_by true t y place is = absurd cc
passed_by false t y place is = is

act_none : (t : Told Added) → ActSized t 0
act_none t = λ d is. omega arith

-- ---- what statements do

let_sized : (sight : InSight) (name : Text) (e : Expr) (n : ℕ) → Sized (part_of sight e).found n → ActSized (let_judged name (part e) sight) (n + 4)
let_sized sight name e n h d is =
    let free = passed_by (is_taken sight name) _ d name.place is in
    let found = told_bind (part_of sight e).found (λ j. cond (is_value j.kind) (Ok (j.cost, with_name sight.names name.bytes j.kind usage.Set)) (mistyped (part_of sight e).first)) d free in
    let same : (found.0.cost, with_name sight.names name.bytes found.0.kind usage.Set) ≡ d = value_of (is_value found.0.kind) _ d (part_of sight e).first found.2 in
    omega (arith, h found.0 found.1, ap (λ (x : Added). x.0) same)

set_seen_sized : (o : Option Seen) (name : Text) (p : JudgedPart) (n c : ℕ) → Sized p.found n → set_seen o name p ≡ Ok c → Celled n c
set_seen_sized None name p n c h is = absurd cc
set_seen_sized (Some s) name p n c h is = sized_wanted s.kind p n c h (passed (can_be_set s.usage) (wanted s.kind p) c name.place is)

set_sized : (sight : InSight) (name : Text) (e : Expr) (n : ℕ) → Sized (part_of sight e).found n → ActSized (set_judged name (part e) sight) n
set_sized sight name e n h d is =
    let cost = told_bind (set_seen (name_seen name.bytes sight.names) name (part_of sight e)) (λ c. Ok (c, sight.names)) d is in
    let same : (cost.0, sight.names) ≡ d = ok_is _ d _ refl cost.2 in
    omega (arith, set_seen_sized (name_seen name.bytes sight.names) name (part_of sight e) n cost.0 h cost.1, ap (λ (x : Added). x.0) same)

answer_sized : (sight : InSight) (e : Expr) (place n : ℕ) → Sized (part_of sight e).found n → ActSized (answer_judged (part e) place sight) n
answer_sized sight e place n h d is =
    let cost = told_bind (wanted bool_kind (part_of sight e)) (λ c. Ok (c, sight.names)) d (passed sight.in_check _ d place is) in
    let same : (cost.0, sight.names) ≡ d = ok_is _ d _ refl cost.2 in
    omega (arith, sized_wanted bool_kind (part_of sight e) n cost.0 h cost.1, ap (λ (x : Added). x.0) same)

if_sized : (sight : InSight) (e : Expr) (block : Blocked) (n m : ℕ) → Sized (part_of sight e).found n → BlockSized (block sight) m
    → ActSized (if_judged (part e) block sight) (n + m)
if_sized sight e block n m h g d is =
    let cost = told_bind (wanted bool_kind (part_of sight e)) (λ c. block sight >>- λ k. Ok (plus c k, sight.names)) d is in
    let inner = told_bind (block sight) (λ k. Ok (plus cost.0 k, sight.names)) d cost.2 in
    let same : (plus cost.0 inner.0, sight.names) ≡ d = ok_is _ d _ refl inner.2 in
    omega (arith, sized_wanted bool_kind (part_of sight e) n cost.0 h cost.1, g inner.0 inner.1, ap (λ (x : Added). x.0) same)

if_else_sized : (sight : InSight) (e : Expr) (block other : Blocked) (n m o : ℕ) → Sized (part_of sight e).found n → BlockSized (block sight) m → BlockSized (other sight) o
    → ActSized (if_else_judged (part e) block other sight) (n + max m o)
if_else_sized sight e block other n m o h g f d is =
    let cost = told_bind (wanted bool_kind (part_of sight e)) (λ c. block sight >>- λ k. other sight >>- λ l. Ok (plus c (max k l), sight.names)) d is in
    let one = told_bind (block sight) (λ k. other sight >>- λ l. Ok (plus cost.0 (max k l), sight.names)) d cost.2 in
    let two = told_bind (other sight) (λ l. Ok (plus cost.0 (max one.0 l), sight.names)) d one.2 in
    let same : (plus cost.0 (max one.0 two.0), sight.names) ≡ d = ok_is _ d _ refl two.2 in
    omega (arith, sized_wanted bool_kind (part_of sight e) n cost.0 h cost.1, g one.0 one.1, f two.0 two.1, ap (λ (x : Added). x.0) same)

-- turns of a loop, each with a name
turns_celled : (count c n : ℕ) → Celled n c → Celled (count * (n + 4)) (turns count c)
turns_celled zero c n w = omega arith
turns_celled (suc count) c n w =
    let all : suc count * (n + 4) ≡ count * (n + 4) + (n + 4) = suc-mul count (n + 4) in
    let cost : suc count * plus c 1 ≡ count * plus c 1 + plus c 1 = suc-mul count (plus c 1) in
    omega (arith, w, turns_celled count c n w, all, cost)

for_in_sized : (sight : InSight) (name : Text) (e : Expr) (each : Blocked) (n m : ℕ) → Sized (part_of sight e).found n
    → ((k : Kind) → BlockSized (turn_judged name k each sight) m) → ActSized (for_in_judged name (part e) each sight) (n + MOST_ITEMS * (m + 4))
for_in_sized sight name e each n m h g d is =
    let free = passed_by (is_taken sight name) _ d name.place is in
    let found = told_bind (part_of sight e).found (λ j. or_first (part_of sight e).first (item_kind j.kind) >>- λ k. turn_judged name k each sight >>- λ c. Ok (plus j.cost (turns LIST_TURNS c), sight.names)) d free in
    let item = told_bind (or_first (part_of sight e).first (item_kind found.0.kind)) (λ k. turn_judged name k each sight >>- λ c. Ok (plus found.0.cost (turns LIST_TURNS c), sight.names)) d found.2 in
    let inner = told_bind (turn_judged name item.0 each sight) (λ c. Ok (plus found.0.cost (turns LIST_TURNS c), sight.names)) d item.2 in
    let same : (plus found.0.cost (turns LIST_TURNS inner.0), sight.names) ≡ d = ok_is _ d _ refl inner.2 in
    omega (arith, h found.0 found.1, turns_celled 64 inner.0 m (g item.0 inner.0 inner.1), ap (λ (x : Added). x.0) same)

for_to_sized : (sight : InSight) (name : Text) (count : ℕ) (each : Blocked) (place m : ℕ) → BlockSized (turn_judged name int_kind each sight) m
    → ActSized (for_to_judged name count each place sight) (count * (m + 4))
for_to_sized sight name count each place m g d is =
    let low = passed_by (nat_lt MOST_TURNS count) _ d place is in
    let free = passed_by (is_taken sight name) _ d name.place low in
    let inner = told_bind (turn_judged name int_kind each sight) (λ c. Ok (turns count c, sight.names)) d free in
    let same : (turns count inner.0, sight.names) ≡ d = ok_is _ d _ refl inner.2 in
    omega (arith, turns_celled count inner.0 m (g inner.0 inner.1), ap (λ (x : Added). x.0) same)

-- ---- blocks

stated_sized : (t : Told Added) (n : ℕ) → ActSized t n → OneSized (stated t) n
stated_sized t n h d is =
    let one = told_bind t (λ a. Ok (plus a.0 1, a.1)) d is in
    let same : (plus one.0.0 1, one.0.1) ≡ d = ok_is _ d _ refl one.2 in
    omega (arith, h one.0 one.1, ap (λ (x : Added). x.0) same)

abbrev AllOnes : List Stated → List ℕ → Type 0
AllOnes [] [] = Unit {0}
AllOnes [] (n ∷ ns) = ⊥
AllOnes (s ∷ ss) [] = ⊥
AllOnes (s ∷ ss) (n ∷ ns) = ((sight : InSight) → OneSized (s sight) n) × AllOnes ss ns

all_sized : (ss : List Stated) (ns : List ℕ) → AllOnes ss ns → (before behind : SoFar) → told_through statement_added before ss ≡ Ok behind
    → (m : ℕ) → Celled m before.0 → Celled (m + together ns) behind.0
all_sized [] [] all before behind is m w = omega (arith, w, ap (λ (x : SoFar). x.0) (ok_is before behind (Ok before) refl is))
all_sized [] (n ∷ ns) all before behind is m w = absurd all
all_sized (s ∷ ss) [] all before behind is m w = absurd all
all_sized (s ∷ ss) (n ∷ ns) all before behind is m w =
    let first = told_bind (statement_added before s) (λ b. told_through statement_added b ss) behind is in
    let one = told_bind (s before.1) (λ d. Ok (plus before.0 d.0, sight_with_names before.1 d.1)) first.0 first.1 in
    let made : (plus before.0 one.0.0, sight_with_names before.1 one.0.1) ≡ first.0 = ok_is _ first.0 _ refl one.2 in
    omega (
      arith,
      all_sized ss ns all.1 first.0 behind first.2 (m + n)
          (omega (arith, w, all.0 before.1 one.0 one.1, ap (λ (x : SoFar). x.0) made)),
    )

block_sized : (ss : List Stated) (ns : List ℕ) → AllOnes ss ns → (sight : InSight) → BlockSized (block_judged ss sight) (together ns)
block_sized ss ns all sight c is =
    let whole = told_bind (told_through statement_added (0, sight) ss) (λ d. Ok d.0) c is in
    omega (arith, all_sized ss ns all (0, sight) whole.0 whole.1 0 (omega arith), ok_is whole.0.0 c (Ok whole.0.0) refl whole.2)

-- ---- over whole trees

abbrev ActionClaim : Action → Type 0
ActionClaim a = (place : ℕ) (sight : InSight) → ActSized (action_told a place sight) (cells_of_action a)

abbrev pub BlockClaim : Block → Type 0
BlockClaim b = (sight : InSight) → BlockSized (block_told b sight) (cells_of_block b)

abbrev StatementClaim : Statement → Type 0
StatementClaim s = (sight : InSight) → OneSized (statement_told s sight) (cells_of_statement s)

abbrev A : Type 0
A = (a : Action) × ActionClaim a

abbrev B : Type 0
B = (b : Block) × BlockClaim b

abbrev S : Type 0
S = (s : Statement) × StatementClaim s

abbrev action_below : Action-F A B S → Action-F Action Block Statement
action_below y = map-Action A B S Action Block Statement (λ e. e.0) (λ e. e.0) (λ e. e.0) y

abbrev block_below : Block-F A B S → Block-F Action Block Statement
block_below y = map-Block A B S Action Block Statement (λ e. e.0) (λ e. e.0) (λ e. e.0) y

abbrev statement_below : Statement-F A B S → Statement-F Action Block Statement
statement_below y = map-Statement A B S Action Block Statement (λ e. e.0) (λ e. e.0) (λ e. e.0) y

abbrev action_counted : Action-F Action Block Statement → Action-F ℕ ℕ ℕ
action_counted x = map-Action Action Block Statement ℕ ℕ ℕ cells_of_action cells_of_block cells_of_statement x

counted_action : (x : Action-F Action Block Statement) → cells_of_action (roll-Action x) ≡ action_cells (action_counted x)
unfolding cells_of_action cells_of_block cells_of_statement
counted_action x = fold-roll-Action ℕ ℕ ℕ action_cells block_cells statement_cells x

counted_block : (x : Block-F Action Block Statement) → cells_of_block (roll-Block x) ≡ together (map cells_of_statement x.statements)
unfolding cells_of_action cells_of_block cells_of_statement
counted_block x = fold-roll-Block ℕ ℕ ℕ action_cells block_cells statement_cells x

counted_statement : (x : Statement-F Action Block Statement) → cells_of_statement (roll-Statement x) ≡ cells_of_action x.action
unfolding cells_of_action cells_of_block cells_of_statement
counted_statement x = fold-roll-Statement ℕ ℕ ℕ action_cells block_cells statement_cells x

act_along : (t u : Told Added) (m n : ℕ) → t ≡ u → m ≡ n → ActSized u n → ActSized t m
act_along t u m n is same h =
    let P : Told Added → Type 0 = λ v. ActSized v m in
    let Q : ℕ → Type 0 = λ k. ActSized u k in
    subst P (sym is) (subst Q (sym same) h)

one_along : (t u : Told Added) (m n : ℕ) → t ≡ u → m ≡ n → OneSized u n → OneSized t m
one_along t u m n is same h =
    let P : Told Added → Type 0 = λ v. OneSized v m in
    let Q : ℕ → Type 0 = λ k. OneSized u k in
    subst P (sym is) (subst Q (sym same) h)

block_along : (t u : Told ℕ) (m n : ℕ) → t ≡ u → m ≡ n → BlockSized u n → BlockSized t m
block_along t u m n is same h =
    let P : Told ℕ → Type 0 = λ v. BlockSized v m in
    let Q : ℕ → Type 0 = λ k. BlockSized u k in
    subst P (sym is) (subst Q (sym same) h)

turn_claim : (b : B) (sight : InSight) (name : Text) (k : Kind) → BlockSized (turn_judged name k (block_told b.0) sight) (cells_of_block b.0)
turn_claim b sight name k = b.1 (sight_with_names sight (with_name sight.names name.bytes k usage.Read))

all_claims : (ss : List S) → AllOnes (map statement_told (map (λ e. e.0) ss)) (map cells_of_statement (map (λ e. e.0) ss))
all_claims [] = tt
all_claims (s ∷ ss) = (s.1, all_claims ss)

actions : (place : ℕ) (sight : InSight) (y : Action-F A B S) → ActSized (action_from_parts (action_parts (action_below y)) place sight) (action_cells (action_counted (action_below y)))
actions place sight (Action-F.Let name e) = let_sized sight name e (cells e) (expr_celled e sight)
actions place sight (Action-F.Set name e) = set_sized sight name e (cells e) (expr_celled e sight)
actions place sight (Action-F.If e b) = if_sized sight e (block_told b.0) (cells e) (cells_of_block b.0) (expr_celled e sight) (b.1 sight)
actions place sight (Action-F.IfElse e b o) = if_else_sized sight e (block_told b.0) (block_told o.0) (cells e) (cells_of_block b.0) (cells_of_block o.0) (expr_celled e sight) (b.1 sight) (o.1 sight)
actions place sight (Action-F.ForIn name e b) = for_in_sized sight name e (block_told b.0) (cells e) (cells_of_block b.0) (expr_celled e sight) (turn_claim b sight name)
actions place sight (Action-F.ForTo name count b) = for_to_sized sight name count (block_told b.0) place (cells_of_block b.0) (turn_claim b sight name int_kind)
actions place sight (Action-F.Make slot object values) = act_none _
actions place sight (Action-F.Call bound method arguments) = act_none _
actions place sight (Action-F.Answer e) = answer_sized sight e place (cells e) (expr_celled e sight)

action_step : (x : Action-F Action Block Statement) (y : Action-F A B S) → action_below y ≡ x → ActionClaim (roll-Action x)
action_step x y is = subst (λ z. ActionClaim (roll-Action z)) is (λ place sight.
    act_along _ _ _ _ (ap (λ (f : Acted). f place sight) (told_action (action_below y))) (counted_action (action_below y)) (actions place sight y))

block_step : (x : Block-F Action Block Statement) (y : Block-F A B S) → block_below y ≡ x → BlockClaim (roll-Block x)
block_step x y is = subst (λ z. BlockClaim (roll-Block z)) is (λ sight.
    block_along _ _ _ _ (ap (λ (f : Blocked). f sight) (told_block (block_below y))) (counted_block (block_below y))
    (block_sized (map statement_told (map (λ e. e.0) y.statements)) (map cells_of_statement (map (λ e. e.0) y.statements)) (all_claims y.statements) sight))

statement_step : (x : Statement-F Action Block Statement) (y : Statement-F A B S) → statement_below y ≡ x → StatementClaim (roll-Statement x)
statement_step x y is = subst (λ z. StatementClaim (roll-Statement z)) is (λ sight.
    one_along _ _ _ _ (ap (λ (f : Stated). f sight) (told_statement (statement_below y))) (counted_statement (statement_below y))
    (stated_sized (action_told y.action.0 y.place sight) (cells_of_action y.action.0) (y.action.1 y.place sight)))

-- the cells of a block are within four times its cost
pub block_celled : (b : Block) → BlockClaim b
block_celled = ind-Block ActionClaim BlockClaim StatementClaim action_step block_step statement_step
