-- What is told of statements, one equation for each kind.
use Rattle.std.proofs.Common.{◌≡◌, ℕ, List, map, sym, ap, ◌∙◌}
use Rattle.cs_lang_token.specs.declared.token.Text.{Text}
use Rattle.cs_lang.specs.declared.tree.Expr.{Expr}
use Rattle.cs_lang.specs.declared.tree.Block.{Block, out-Block}
use Rattle.cs_lang.specs.declared.tree.Statement.{Statement, out-Statement}
use Rattle.cs_lang.specs.declared.tree.Action.{Action}
use Rattle.cs_lang.specs.declared.tree.Action.TheVariants as action
use Rattle.cs_lang.specs.declared.tree.Action.TheVariants.{rolls-Let, rolls-Set, rolls-If, rolls-IfElse, rolls-ForIn, rolls-ForTo, rolls-Make, rolls-Call, rolls-Answer}
use Rattle.cs_lang.specs.declared.tree.Action.TheOpen.{Action-F}
use Rattle.cs_lang.specs.declared.tree.Action.TheFolds.{fold-roll-Action, fold_out-Block, fold_out-Statement}
use Rattle.cs_types_kinds.specs.Scopes.{InSight}
use Rattle.cs_types.specs.Stating.{Blocked, Stated, block_judged, let_judged, set_judged, if_judged, if_else_judged, for_in_judged, for_to_judged, make_judged, call_judged, answer_judged, stated}
use Rattle.cs_types.specs.Blocks.{Acted, part, parts, action_from_parts, statement_from_parts, block_from_parts, block_told, statement_told, action_told}

pub statement_is : (s : Statement) (sight : InSight) → statement_told s sight ≡ stated (action_told (out-Statement s).action (out-Statement s).place sight)
unfolding statement_told action_told
statement_is s sight = ap (λ (f : Stated). f sight) (fold_out-Statement Acted Blocked Stated action_from_parts block_from_parts statement_from_parts s)

pub block_is : (b : Block) (sight : InSight) → block_told b sight ≡ block_judged (map statement_told (out-Block b).statements) sight
unfolding block_told statement_told
block_is b sight = ap (λ (f : Blocked). f sight) (fold_out-Block Acted Blocked Stated action_from_parts block_from_parts statement_from_parts b)

action_let_is : (name : Text) (value : Expr) (place : ℕ) → action_told (action.Let name value) place ≡ let_judged name (part value)
unfolding action_told block_told
action_let_is name value place = ap (λ (a : Action). action_told a place) (sym (rolls-Let name value)) ∙ ap (λ (f : Acted). f place) (fold-roll-Action Acted Blocked Stated action_from_parts block_from_parts statement_from_parts (Action-F.Let name value))

pub action_let : (a : Action) (name : Text) (value : Expr) (place : ℕ) (sight : InSight) → a ≡ action.Let name value → action_told a place sight ≡ let_judged name (part value) sight
action_let a name value place sight is = ap (λ (b : Action). action_told b place sight) is ∙ ap (λ (f : Stated). f sight) (action_let_is name value place)

action_set_is : (name : Text) (value : Expr) (place : ℕ) → action_told (action.Set name value) place ≡ set_judged name (part value)
unfolding action_told block_told
action_set_is name value place = ap (λ (a : Action). action_told a place) (sym (rolls-Set name value)) ∙ ap (λ (f : Acted). f place) (fold-roll-Action Acted Blocked Stated action_from_parts block_from_parts statement_from_parts (Action-F.Set name value))

pub action_set : (a : Action) (name : Text) (value : Expr) (place : ℕ) (sight : InSight) → a ≡ action.Set name value → action_told a place sight ≡ set_judged name (part value) sight
action_set a name value place sight is = ap (λ (b : Action). action_told b place sight) is ∙ ap (λ (f : Stated). f sight) (action_set_is name value place)

action_if_is : (condition : Expr) (block : Block) (place : ℕ) → action_told (action.If condition block) place ≡ if_judged (part condition) (block_told block)
unfolding action_told block_told
action_if_is condition block place = ap (λ (a : Action). action_told a place) (sym (rolls-If condition block)) ∙ ap (λ (f : Acted). f place) (fold-roll-Action Acted Blocked Stated action_from_parts block_from_parts statement_from_parts (Action-F.If condition block))

pub action_if : (a : Action) (condition : Expr) (block : Block) (place : ℕ) (sight : InSight) → a ≡ action.If condition block → action_told a place sight ≡ if_judged (part condition) (block_told block) sight
action_if a condition block place sight is = ap (λ (b : Action). action_told b place sight) is ∙ ap (λ (f : Stated). f sight) (action_if_is condition block place)

action_ifelse_is : (condition : Expr) (block other : Block) (place : ℕ) → action_told (action.IfElse condition block other) place ≡ if_else_judged (part condition) (block_told block) (block_told other)
unfolding action_told block_told
action_ifelse_is condition block other place = ap (λ (a : Action). action_told a place) (sym (rolls-IfElse condition block other)) ∙ ap (λ (f : Acted). f place) (fold-roll-Action Acted Blocked Stated action_from_parts block_from_parts statement_from_parts (Action-F.IfElse condition block other))

pub action_ifelse : (a : Action) (condition : Expr) (block other : Block) (place : ℕ) (sight : InSight) → a ≡ action.IfElse condition block other → action_told a place sight ≡ if_else_judged (part condition) (block_told block) (block_told other) sight
action_ifelse a condition block other place sight is = ap (λ (b : Action). action_told b place sight) is ∙ ap (λ (f : Stated). f sight) (action_ifelse_is condition block other place)

action_forin_is : (name : Text) (list : Expr) (each : Block) (place : ℕ) → action_told (action.ForIn name list each) place ≡ for_in_judged name (part list) (block_told each)
unfolding action_told block_told
action_forin_is name list each place = ap (λ (a : Action). action_told a place) (sym (rolls-ForIn name list each)) ∙ ap (λ (f : Acted). f place) (fold-roll-Action Acted Blocked Stated action_from_parts block_from_parts statement_from_parts (Action-F.ForIn name list each))

pub action_forin : (a : Action) (name : Text) (list : Expr) (each : Block) (place : ℕ) (sight : InSight) → a ≡ action.ForIn name list each → action_told a place sight ≡ for_in_judged name (part list) (block_told each) sight
action_forin a name list each place sight is = ap (λ (b : Action). action_told b place sight) is ∙ ap (λ (f : Stated). f sight) (action_forin_is name list each place)

action_forto_is : (name : Text) (count : ℕ) (each : Block) (place : ℕ) → action_told (action.ForTo name count each) place ≡ for_to_judged name count (block_told each) place
unfolding action_told block_told
action_forto_is name count each place = ap (λ (a : Action). action_told a place) (sym (rolls-ForTo name count each)) ∙ ap (λ (f : Acted). f place) (fold-roll-Action Acted Blocked Stated action_from_parts block_from_parts statement_from_parts (Action-F.ForTo name count each))

pub action_forto : (a : Action) (name : Text) (count : ℕ) (each : Block) (place : ℕ) (sight : InSight) → a ≡ action.ForTo name count each → action_told a place sight ≡ for_to_judged name count (block_told each) place sight
action_forto a name count each place sight is = ap (λ (b : Action). action_told b place sight) is ∙ ap (λ (f : Stated). f sight) (action_forto_is name count each place)

action_make_is : (slot object : Text) (values : List Expr) (place : ℕ) → action_told (action.Make slot object values) place ≡ make_judged slot object (parts values) place
unfolding action_told block_told
action_make_is slot object values place = ap (λ (a : Action). action_told a place) (sym (rolls-Make slot object values)) ∙ ap (λ (f : Acted). f place) (fold-roll-Action Acted Blocked Stated action_from_parts block_from_parts statement_from_parts (Action-F.Make slot object values))

pub action_make : (a : Action) (slot object : Text) (values : List Expr) (place : ℕ) (sight : InSight) → a ≡ action.Make slot object values → action_told a place sight ≡ make_judged slot object (parts values) place sight
action_make a slot object values place sight is = ap (λ (b : Action). action_told b place sight) is ∙ ap (λ (f : Stated). f sight) (action_make_is slot object values place)

action_call_is : (names : List Text) (method : Text) (arguments : List Expr) (place : ℕ) → action_told (action.Call names method arguments) place ≡ call_judged names method (parts arguments) place
unfolding action_told block_told
action_call_is names method arguments place = ap (λ (a : Action). action_told a place) (sym (rolls-Call names method arguments)) ∙ ap (λ (f : Acted). f place) (fold-roll-Action Acted Blocked Stated action_from_parts block_from_parts statement_from_parts (Action-F.Call names method arguments))

pub action_call : (a : Action) (names : List Text) (method : Text) (arguments : List Expr) (place : ℕ) (sight : InSight) → a ≡ action.Call names method arguments → action_told a place sight ≡ call_judged names method (parts arguments) place sight
action_call a names method arguments place sight is = ap (λ (b : Action). action_told b place sight) is ∙ ap (λ (f : Stated). f sight) (action_call_is names method arguments place)

action_answer_is : (value : Expr) (place : ℕ) → action_told (action.Answer value) place ≡ answer_judged (part value) place
unfolding action_told block_told
action_answer_is value place = ap (λ (a : Action). action_told a place) (sym (rolls-Answer value)) ∙ ap (λ (f : Acted). f place) (fold-roll-Action Acted Blocked Stated action_from_parts block_from_parts statement_from_parts (Action-F.Answer value))

pub action_answer : (a : Action) (value : Expr) (place : ℕ) (sight : InSight) → a ≡ action.Answer value → action_told a place sight ≡ answer_judged (part value) place sight
action_answer a value place sight is = ap (λ (b : Action). action_told b place sight) is ∙ ap (λ (f : Stated). f sight) (action_answer_is value place)

pub ruleset actions = (action_let, action_set, action_if, action_ifelse, action_forin, action_forto, action_make, action_call, action_answer)
