-- Statements without their places.
use Rattle.std.proofs.Common.{◌≡◌, ℕ, List, [], ◌∷◌, map, sym, ap, refl, ◌∙◌, rules}
use Rattle.std.specs.Prelude.{Option, None, Some}
use Rattle.cs_lang_token.specs.declared.token.Text.{Text}
use Rattle.cs_lang.specs.declared.tree.Expr.{Expr}
use Rattle.cs_lang.specs.declared.tree.Block.{Block, out-Block, roll-Block}
use Rattle.cs_lang.specs.declared.tree.Statement.{Statement}
use Rattle.cs_lang.specs.declared.tree.Action.{Action}
use Rattle.cs_lang.specs.declared.tree.Action.TheVariants as action
use Rattle.cs_lang.specs.declared.tree.Action.TheVariants.{rolls-Let, rolls-Set, rolls-If, rolls-IfElse, rolls-ForIn, rolls-ForTo, rolls-Make, rolls-Call, rolls-Answer}
use Rattle.cs_lang.specs.declared.tree.Action.TheViews.{the_lemmas}
use Rattle.cs_lang.specs.declared.tree.Action.TheOpen.{Action-F}
use Rattle.cs_lang.specs.declared.tree.Action.TheFolds.{fold-roll-Action, fold_out-Block, fold_out-Statement}
use Rattle.cs_lang.specs.Trees.{statement, let_of, set_of, if_action, if_of, Range, Items, Numbers, for_action, for_of, make_of, CallRest, Arguments, Binds, names_in_list, call_action, call_of, answer_of, block_of}
use Rattle.cs_lang_print.specs.Places.{bare_text, bare_expr, action_layer, statement_layer, block_layer, bare_block, bare_statement, bare_action}
use Rattle.cs_lang_print.proofs.Says.{both, no_place}
use Rattle.cs_lang_print.proofs.Moves.{if_some}

made : (place : ℕ) (a b : Action) → bare_action a ≡ b → bare_statement (statement place a) ≡ statement 0 b
unfolding bare_statement bare_action
made place a b is = fold_out-Statement Action Block Statement action_layer block_layer statement_layer (statement place a) ∙ ap (statement 0) is

pub out_statements : (p : ℕ × (List Statement × ℕ)) → (out-Block (block_of p)).statements ≡ p.1.0
out_statements p = search (rules, the_lemmas)

block_bare : (b : Block) → bare_block b ≡ roll-Block (record { statements = map bare_statement (out-Block b).statements; end = 0 })
unfolding bare_block bare_statement
block_bare b = fold_out-Block Action Block Statement action_layer block_layer statement_layer b

pub move_block : (p : ℕ × (List Statement × ℕ)) → bare_block (block_of p) ≡ block_of (both no_place (both (map bare_statement) no_place) p)
move_block p = block_bare (block_of p) ∙ ap (λ (ss : List Statement). roll-Block (record { statements = map bare_statement ss; end = 0 })) (out_statements p)

bare_let' : (name : Text) (value : Expr) → bare_action (action.Let name value) ≡ action.Let (bare_text name) (bare_expr value)
unfolding bare_action bare_block
bare_let' name value = ap bare_action (sym (rolls-Let name value)) ∙ fold-roll-Action Action Block Statement action_layer block_layer statement_layer (Action-F.Let name value)

bare_set' : (name : Text) (value : Expr) → bare_action (action.Set name value) ≡ action.Set (bare_text name) (bare_expr value)
unfolding bare_action bare_block
bare_set' name value = ap bare_action (sym (rolls-Set name value)) ∙ fold-roll-Action Action Block Statement action_layer block_layer statement_layer (Action-F.Set name value)

bare_if' : (condition : Expr) (block : Block) → bare_action (action.If condition block) ≡ action.If (bare_expr condition) (bare_block block)
unfolding bare_action bare_block
bare_if' condition block = ap bare_action (sym (rolls-If condition block)) ∙ fold-roll-Action Action Block Statement action_layer block_layer statement_layer (Action-F.If condition block)

bare_ifelse' : (condition : Expr) (block other : Block) → bare_action (action.IfElse condition block other) ≡ action.IfElse (bare_expr condition) (bare_block block) (bare_block other)
unfolding bare_action bare_block
bare_ifelse' condition block other = ap bare_action (sym (rolls-IfElse condition block other)) ∙ fold-roll-Action Action Block Statement action_layer block_layer statement_layer (Action-F.IfElse condition block other)

bare_forin' : (name : Text) (list : Expr) (block : Block) → bare_action (action.ForIn name list block) ≡ action.ForIn (bare_text name) (bare_expr list) (bare_block block)
unfolding bare_action bare_block
bare_forin' name list block = ap bare_action (sym (rolls-ForIn name list block)) ∙ fold-roll-Action Action Block Statement action_layer block_layer statement_layer (Action-F.ForIn name list block)

bare_forto' : (name : Text) (count : ℕ) (block : Block) → bare_action (action.ForTo name count block) ≡ action.ForTo (bare_text name) count (bare_block block)
unfolding bare_action bare_block
bare_forto' name count block = ap bare_action (sym (rolls-ForTo name count block)) ∙ fold-roll-Action Action Block Statement action_layer block_layer statement_layer (Action-F.ForTo name count block)

bare_make' : (slot object : Text) (values : List Expr) → bare_action (action.Make slot object values) ≡ action.Make (bare_text slot) (bare_text object) (map bare_expr values)
unfolding bare_action bare_block
bare_make' slot object values = ap bare_action (sym (rolls-Make slot object values)) ∙ fold-roll-Action Action Block Statement action_layer block_layer statement_layer (Action-F.Make slot object values)

bare_call' : (names : List Text) (method : Text) (arguments : List Expr) → bare_action (action.Call names method arguments) ≡ action.Call (map bare_text names) (bare_text method) (map bare_expr arguments)
unfolding bare_action bare_block
bare_call' names method arguments = ap bare_action (sym (rolls-Call names method arguments)) ∙ fold-roll-Action Action Block Statement action_layer block_layer statement_layer (Action-F.Call names method arguments)

bare_answer' : (value : Expr) → bare_action (action.Answer value) ≡ action.Answer (bare_expr value)
unfolding bare_action bare_block
bare_answer' value = ap bare_action (sym (rolls-Answer value)) ∙ fold-roll-Action Action Block Statement action_layer block_layer statement_layer (Action-F.Answer value)

abbrev pub bare_let : ℕ × (Text × (ℕ × (Expr × ℕ))) → ℕ × (Text × (ℕ × (Expr × ℕ)))
bare_let = both no_place (both bare_text (both no_place (both bare_expr no_place)))

pub move_let : (p : ℕ × (Text × (ℕ × (Expr × ℕ)))) → bare_statement (let_of p) ≡ let_of (bare_let p)
move_let p = made p.0 (action.Let p.1.0 p.1.1.1.0) (action.Let (bare_text p.1.0) (bare_expr p.1.1.1.0)) (bare_let' p.1.0 p.1.1.1.0)

pub move_set : (p : ℕ × (Text × (ℕ × (Expr × ℕ)))) → bare_statement (set_of p) ≡ set_of (bare_let p)
move_set p = made p.0 (action.Set p.1.0 p.1.1.1.0) (action.Set (bare_text p.1.0) (bare_expr p.1.1.1.0)) (bare_set' p.1.0 p.1.1.1.0)

abbrev pub bare_if : ℕ × (Expr × (Block × Option Block)) → ℕ × (Expr × (Block × Option Block))
bare_if = both no_place (both bare_expr (both bare_block (if_some bare_block)))

if_moved : (place : ℕ) (e : Expr) (b : Block) (other : Option Block) → bare_statement (statement place (if_action e b other)) ≡ statement 0 (if_action (bare_expr e) (bare_block b) (if_some bare_block other))
if_moved place e b None = made place (action.If e b) (action.If (bare_expr e) (bare_block b)) (bare_if' e b)
if_moved place e b (Some other) = made place (action.IfElse e b other) (action.IfElse (bare_expr e) (bare_block b) (bare_block other)) (bare_ifelse' e b other)

pub move_if : (p : ℕ × (Expr × (Block × Option Block))) → bare_statement (if_of p) ≡ if_of (bare_if p)
move_if p = if_moved p.0 p.1.0 p.1.1.0 p.1.1.1

abbrev pub bare_range : Range → Range
bare_range (Items e) = Items (bare_expr e)
bare_range (Numbers n) = Numbers n

abbrev pub bare_for : ℕ × (Text × (Range × Block)) → ℕ × (Text × (Range × Block))
bare_for = both no_place (both bare_text (both bare_range bare_block))

for_moved : (place : ℕ) (name : Text) (r : Range) (b : Block) → bare_statement (statement place (for_action name r b)) ≡ statement 0 (for_action (bare_text name) (bare_range r) (bare_block b))
for_moved place name (Items e) b = made place (action.ForIn name e b) (action.ForIn (bare_text name) (bare_expr e) (bare_block b)) (bare_forin' name e b)
for_moved place name (Numbers n) b = made place (action.ForTo name n b) (action.ForTo (bare_text name) n (bare_block b)) (bare_forto' name n b)

pub move_for : (p : ℕ × (Text × (Range × Block))) → bare_statement (for_of p) ≡ for_of (bare_for p)
move_for p = for_moved p.0 p.1.0 p.1.1.0 p.1.1.1

abbrev pub bare_make : ℕ × (Text × (ℕ × (Text × (List Expr × ℕ)))) → ℕ × (Text × (ℕ × (Text × (List Expr × ℕ))))
bare_make = both no_place (both bare_text (both no_place (both bare_text (both (map bare_expr) no_place))))

pub move_make : (p : ℕ × (Text × (ℕ × (Text × (List Expr × ℕ))))) → bare_statement (make_of p) ≡ make_of (bare_make p)
move_make p = made p.0 (action.Make p.1.0 p.1.1.1.0 p.1.1.1.1.0) (action.Make (bare_text p.1.0) (bare_text p.1.1.1.0) (map bare_expr p.1.1.1.1.0)) (bare_make' p.1.0 p.1.1.1.0 p.1.1.1.1.0)

abbrev pub bare_rest : CallRest → CallRest
bare_rest (Arguments es) = Arguments (map bare_expr es)
bare_rest (Binds names method es) = Binds (map bare_text names) (bare_text method) (map bare_expr es)

pub move_names : (ps : List (ℕ × Text)) → map bare_text (names_in_list ps) ≡ names_in_list (map (both no_place bare_text) ps)
move_names [] = refl
move_names (p ∷ ps) = ap (λ (l : List Text). bare_text p.1 ∷ l) (move_names ps)

abbrev pub bare_call : ℕ × (Text × (CallRest × ℕ)) → ℕ × (Text × (CallRest × ℕ))
bare_call = both no_place (both bare_text (both bare_rest no_place))

call_moved : (place : ℕ) (name : Text) (rest : CallRest) → bare_statement (statement place (call_action name rest)) ≡ statement 0 (call_action (bare_text name) (bare_rest rest))
call_moved place name (Arguments es) = made place (action.Call [] name es) (action.Call [] (bare_text name) (map bare_expr es)) (bare_call' [] name es)
call_moved place name (Binds names method es) = made place (action.Call (name ∷ names) method es) (action.Call (bare_text name ∷ map bare_text names) (bare_text method) (map bare_expr es)) (bare_call' (name ∷ names) method es)

pub move_call : (p : ℕ × (Text × (CallRest × ℕ))) → bare_statement (call_of p) ≡ call_of (bare_call p)
move_call p = call_moved p.0 p.1.0 p.1.1.0

pub move_answer : (p : ℕ × (Expr × ℕ)) → bare_statement (answer_of p) ≡ answer_of (both no_place (both bare_expr no_place) p)
move_answer p = made p.0 (action.Answer p.1.0) (action.Answer (bare_expr p.1.0)) (bare_answer' p.1.0)
