-- The texts of expressions, one equation for each shape.
use Rattle.std.proofs.Common.{◌≡◌, ℕ, Bool, false, List, ◌++◌, map, length, sym, ap, ◌∙◌}
use Rattle.std.specs.Prelude.{codes}
use Rattle.std.specs.Fmt.{decimal}
use Rattle.cs_lang_token.specs.declared.token.Text.{Text}
use Rattle.cs_lang.specs.declared.tree.ValueKind.{ValueKind}
use Rattle.cs_lang.specs.declared.tree.Rank.{Rank}
use Rattle.cs_lang.specs.declared.tree.Comparison.{Comparison}
use Rattle.cs_lang.specs.declared.tree.Expr.{Expr, out-Expr}
use Rattle.cs_lang.specs.declared.tree.Shape.TheVariants as shape
use Rattle.cs_lang.specs.declared.tree.Shape.TheVariants.{rolls-Number, rolls-Bytes, rolls-Truth, rolls-Name, rolls-List, rolls-Empty, rolls-Len, rolls-Sha256, rolls-Concat, rolls-Called, rolls-DepInt, rolls-Path, rolls-Not, rolls-Negative, rolls-Compared, rolls-Chain}
use Rattle.cs_lang.specs.declared.tree.Link.{Link, out-Link}
use Rattle.cs_lang.specs.declared.tree.Step.{Step, out-Step}
use Rattle.cs_lang.specs.declared.tree.Access.TheVariants as access
use Rattle.cs_lang.specs.declared.tree.Access.TheVariants.{rolls-Field, rolls-Index}
use Rattle.cs_lang.specs.declared.tree.Access.TheOpen.{Access-F, Shape-F}
use Rattle.cs_lang.specs.declared.tree.Access.TheFolds.{fold-roll-Access, fold-roll-Shape, fold_out-Expr, fold_out-Link, fold_out-Step}
use Rattle.cs_lang_print.specs.Words.{word, quoted, operator_text, comparison_text, with_commas}
use Rattle.cs_lang_print.specs.Spelling.{Spelled, tightness_of, operand_tightness, held_together, run_text}
use Rattle.cs_lang_print.specs.Expressions.{Linked, layer_access, layer_shape, layer_expr, layer_link, layer_step, spelled, spelled_shape, spelled_link, step_text, access_text, expr_text, spelled_text, truth_text, applied, kind_text}
use Rattle.cs_lang_print.specs.Runs.{openings, parts_text}
use Rattle.cs_lang_print.proofs.RunTexts.{with_commas-map, run_is, runs_map}

pub spelled_is : (e : Expr) → spelled e ≡ spelled_shape (out-Expr e).shape
unfolding spelled spelled_shape
spelled_is e = fold_out-Expr (List ℕ) Spelled Spelled Linked (List ℕ) layer_access layer_shape layer_expr layer_link layer_step e

link_spelled : (l : Link) (tight : ℕ) → spelled_link l tight ≡ word (operator_text (out-Link l).operator) ++ held_together tight (spelled (out-Link l).right)
unfolding spelled spelled_link
link_spelled l tight = ap (λ (f : Linked). f tight) (fold_out-Link (List ℕ) Spelled Spelled Linked (List ℕ) layer_access layer_shape layer_expr layer_link layer_step l)

pub link_is : (l : Link) (tight : ℕ) → spelled_link l tight ≡ word (operator_text (out-Link l).operator) ++ held_together tight (spelled (out-Link l).right)
link_is = link_spelled

pub step_is : (s : Step) → step_text s ≡ access_text (out-Step s).access
unfolding step_text access_text
step_is s = fold_out-Step (List ℕ) Spelled Spelled Linked (List ℕ) layer_access layer_shape layer_expr layer_link layer_step s

pub shape_number : (n : ℕ) → spelled_shape (shape.Number n) ≡ record { tightness = 8; text = word (decimal n) }
unfolding spelled spelled_shape spelled_link step_text
shape_number n = ap spelled_shape (sym (rolls-Number n)) ∙ fold-roll-Shape (List ℕ) Spelled Spelled Linked (List ℕ) layer_access layer_shape layer_expr layer_link layer_step (Shape-F.Number n)

pub tightness_number : (e : Expr) (n : ℕ) → (out-Expr e).shape ≡ shape.Number n → (spelled e).tightness ≡ 8
tightness_number e n is = ap (λ (s : Spelled). s.tightness) (spelled_is e ∙ ap spelled_shape is ∙ shape_number n)

pub text_number : (e : Expr) (n : ℕ) → (out-Expr e).shape ≡ shape.Number n → (spelled e).text ≡ word (decimal n)
text_number e n is = ap (λ (s : Spelled). s.text) (spelled_is e ∙ ap spelled_shape is ∙ shape_number n)

pub shape_bytes : (text : List ℕ) → spelled_shape (shape.Bytes text) ≡ record { tightness = 8; text = quoted text }
unfolding spelled spelled_shape spelled_link step_text
shape_bytes text = ap spelled_shape (sym (rolls-Bytes text)) ∙ fold-roll-Shape (List ℕ) Spelled Spelled Linked (List ℕ) layer_access layer_shape layer_expr layer_link layer_step (Shape-F.Bytes text)

pub tightness_bytes : (e : Expr) (text : List ℕ) → (out-Expr e).shape ≡ shape.Bytes text → (spelled e).tightness ≡ 8
tightness_bytes e text is = ap (λ (s : Spelled). s.tightness) (spelled_is e ∙ ap spelled_shape is ∙ shape_bytes text)

pub text_bytes : (e : Expr) (text : List ℕ) → (out-Expr e).shape ≡ shape.Bytes text → (spelled e).text ≡ quoted text
text_bytes e text is = ap (λ (s : Spelled). s.text) (spelled_is e ∙ ap spelled_shape is ∙ shape_bytes text)

pub shape_truth : (b : Bool) → spelled_shape (shape.Truth b) ≡ record { tightness = 8; text = word (truth_text b) }
unfolding spelled spelled_shape spelled_link step_text
shape_truth b = ap spelled_shape (sym (rolls-Truth b)) ∙ fold-roll-Shape (List ℕ) Spelled Spelled Linked (List ℕ) layer_access layer_shape layer_expr layer_link layer_step (Shape-F.Truth b)

pub tightness_truth : (e : Expr) (b : Bool) → (out-Expr e).shape ≡ shape.Truth b → (spelled e).tightness ≡ 8
tightness_truth e b is = ap (λ (s : Spelled). s.tightness) (spelled_is e ∙ ap spelled_shape is ∙ shape_truth b)

pub text_truth : (e : Expr) (b : Bool) → (out-Expr e).shape ≡ shape.Truth b → (spelled e).text ≡ word (truth_text b)
text_truth e b is = ap (λ (s : Spelled). s.text) (spelled_is e ∙ ap spelled_shape is ∙ shape_truth b)

pub shape_name : (name : List ℕ) → spelled_shape (shape.Name name) ≡ record { tightness = 8; text = word name }
unfolding spelled spelled_shape spelled_link step_text
shape_name name = ap spelled_shape (sym (rolls-Name name)) ∙ fold-roll-Shape (List ℕ) Spelled Spelled Linked (List ℕ) layer_access layer_shape layer_expr layer_link layer_step (Shape-F.Name name)

pub tightness_name : (e : Expr) (name : List ℕ) → (out-Expr e).shape ≡ shape.Name name → (spelled e).tightness ≡ 8
tightness_name e name is = ap (λ (s : Spelled). s.tightness) (spelled_is e ∙ ap spelled_shape is ∙ shape_name name)

pub text_name : (e : Expr) (name : List ℕ) → (out-Expr e).shape ≡ shape.Name name → (spelled e).text ≡ word name
text_name e name is = ap (λ (s : Spelled). s.text) (spelled_is e ∙ ap spelled_shape is ∙ shape_name name)

pub shape_list : (items : List Expr) → spelled_shape (shape.List items) ≡ record { tightness = 8; text = word (codes "[") ++ (with_commas spelled_text (map spelled items) ++ word (codes "]")) }
unfolding spelled spelled_shape spelled_link step_text
shape_list items = ap spelled_shape (sym (rolls-List items)) ∙ fold-roll-Shape (List ℕ) Spelled Spelled Linked (List ℕ) layer_access layer_shape layer_expr layer_link layer_step (Shape-F.List items)

pub tightness_list : (e : Expr) (items : List Expr) → (out-Expr e).shape ≡ shape.List items → (spelled e).tightness ≡ 8
tightness_list e items is = ap (λ (s : Spelled). s.tightness) (spelled_is e ∙ ap spelled_shape is ∙ shape_list items)

pub text_list : (e : Expr) (items : List Expr) → (out-Expr e).shape ≡ shape.List items → (spelled e).text ≡ word (codes "[") ++ (with_commas expr_text items ++ word (codes "]"))
text_list e items is = ap (λ (s : Spelled). s.text) (spelled_is e ∙ ap spelled_shape is ∙ shape_list items) ∙ ap (λ (t : List ℕ). word (codes "[") ++ (t ++ word (codes "]"))) (with_commas-map spelled_text spelled items)

pub shape_empty : (k : ValueKind) → spelled_shape (shape.Empty k) ≡ record { tightness = 8; text = word (codes "empty") ++ kind_text k }
unfolding spelled spelled_shape spelled_link step_text
shape_empty k = ap spelled_shape (sym (rolls-Empty k)) ∙ fold-roll-Shape (List ℕ) Spelled Spelled Linked (List ℕ) layer_access layer_shape layer_expr layer_link layer_step (Shape-F.Empty k)

pub tightness_empty : (e : Expr) (k : ValueKind) → (out-Expr e).shape ≡ shape.Empty k → (spelled e).tightness ≡ 8
tightness_empty e k is = ap (λ (s : Spelled). s.tightness) (spelled_is e ∙ ap spelled_shape is ∙ shape_empty k)

pub text_empty : (e : Expr) (k : ValueKind) → (out-Expr e).shape ≡ shape.Empty k → (spelled e).text ≡ word (codes "empty") ++ kind_text k
text_empty e k is = ap (λ (s : Spelled). s.text) (spelled_is e ∙ ap spelled_shape is ∙ shape_empty k)

pub shape_len : (inner : Expr) → spelled_shape (shape.Len inner) ≡ record { tightness = 8; text = applied (codes "len") (expr_text inner) }
unfolding spelled spelled_shape spelled_link step_text
shape_len inner = ap spelled_shape (sym (rolls-Len inner)) ∙ fold-roll-Shape (List ℕ) Spelled Spelled Linked (List ℕ) layer_access layer_shape layer_expr layer_link layer_step (Shape-F.Len inner)

pub tightness_len : (e : Expr) (inner : Expr) → (out-Expr e).shape ≡ shape.Len inner → (spelled e).tightness ≡ 8
tightness_len e inner is = ap (λ (s : Spelled). s.tightness) (spelled_is e ∙ ap spelled_shape is ∙ shape_len inner)

pub text_len : (e : Expr) (inner : Expr) → (out-Expr e).shape ≡ shape.Len inner → (spelled e).text ≡ applied (codes "len") (expr_text inner)
text_len e inner is = ap (λ (s : Spelled). s.text) (spelled_is e ∙ ap spelled_shape is ∙ shape_len inner)

pub shape_sha256 : (inner : Expr) → spelled_shape (shape.Sha256 inner) ≡ record { tightness = 8; text = applied (codes "sha256") (expr_text inner) }
unfolding spelled spelled_shape spelled_link step_text
shape_sha256 inner = ap spelled_shape (sym (rolls-Sha256 inner)) ∙ fold-roll-Shape (List ℕ) Spelled Spelled Linked (List ℕ) layer_access layer_shape layer_expr layer_link layer_step (Shape-F.Sha256 inner)

pub tightness_sha256 : (e : Expr) (inner : Expr) → (out-Expr e).shape ≡ shape.Sha256 inner → (spelled e).tightness ≡ 8
tightness_sha256 e inner is = ap (λ (s : Spelled). s.tightness) (spelled_is e ∙ ap spelled_shape is ∙ shape_sha256 inner)

pub text_sha256 : (e : Expr) (inner : Expr) → (out-Expr e).shape ≡ shape.Sha256 inner → (spelled e).text ≡ applied (codes "sha256") (expr_text inner)
text_sha256 e inner is = ap (λ (s : Spelled). s.text) (spelled_is e ∙ ap spelled_shape is ∙ shape_sha256 inner)

pub shape_concat : (front back : Expr) → spelled_shape (shape.Concat front back) ≡ record { tightness = 8; text = applied (codes "concat") (expr_text front ++ (word (codes ",") ++ expr_text back)) }
unfolding spelled spelled_shape spelled_link step_text
shape_concat front back = ap spelled_shape (sym (rolls-Concat front back)) ∙ fold-roll-Shape (List ℕ) Spelled Spelled Linked (List ℕ) layer_access layer_shape layer_expr layer_link layer_step (Shape-F.Concat front back)

pub tightness_concat : (e : Expr) (front back : Expr) → (out-Expr e).shape ≡ shape.Concat front back → (spelled e).tightness ≡ 8
tightness_concat e front back is = ap (λ (s : Spelled). s.tightness) (spelled_is e ∙ ap spelled_shape is ∙ shape_concat front back)

pub text_concat : (e : Expr) (front back : Expr) → (out-Expr e).shape ≡ shape.Concat front back → (spelled e).text ≡ applied (codes "concat") (expr_text front ++ (word (codes ",") ++ expr_text back))
text_concat e front back is = ap (λ (s : Spelled). s.text) (spelled_is e ∙ ap spelled_shape is ∙ shape_concat front back)

pub shape_called : (dep : ℕ) (name : Text) → spelled_shape (shape.Called dep name) ≡ record { tightness = 8; text = applied (codes "called") (word (decimal dep) ++ (word (codes ",") ++ word name.bytes)) }
unfolding spelled spelled_shape spelled_link step_text
shape_called dep name = ap spelled_shape (sym (rolls-Called dep name)) ∙ fold-roll-Shape (List ℕ) Spelled Spelled Linked (List ℕ) layer_access layer_shape layer_expr layer_link layer_step (Shape-F.Called dep name)

pub tightness_called : (e : Expr) (dep : ℕ) (name : Text) → (out-Expr e).shape ≡ shape.Called dep name → (spelled e).tightness ≡ 8
tightness_called e dep name is = ap (λ (s : Spelled). s.tightness) (spelled_is e ∙ ap spelled_shape is ∙ shape_called dep name)

pub text_called : (e : Expr) (dep : ℕ) (name : Text) → (out-Expr e).shape ≡ shape.Called dep name → (spelled e).text ≡ applied (codes "called") (word (decimal dep) ++ (word (codes ",") ++ word name.bytes))
text_called e dep name is = ap (λ (s : Spelled). s.text) (spelled_is e ∙ ap spelled_shape is ∙ shape_called dep name)

pub shape_depint : (dep value : ℕ) → spelled_shape (shape.DepInt dep value) ≡ record { tightness = 8; text = applied (codes "depint") (word (decimal dep) ++ (word (codes ",") ++ word (decimal value))) }
unfolding spelled spelled_shape spelled_link step_text
shape_depint dep value = ap spelled_shape (sym (rolls-DepInt dep value)) ∙ fold-roll-Shape (List ℕ) Spelled Spelled Linked (List ℕ) layer_access layer_shape layer_expr layer_link layer_step (Shape-F.DepInt dep value)

pub tightness_depint : (e : Expr) (dep value : ℕ) → (out-Expr e).shape ≡ shape.DepInt dep value → (spelled e).tightness ≡ 8
tightness_depint e dep value is = ap (λ (s : Spelled). s.tightness) (spelled_is e ∙ ap spelled_shape is ∙ shape_depint dep value)

pub text_depint : (e : Expr) (dep value : ℕ) → (out-Expr e).shape ≡ shape.DepInt dep value → (spelled e).text ≡ applied (codes "depint") (word (decimal dep) ++ (word (codes ",") ++ word (decimal value)))
text_depint e dep value is = ap (λ (s : Spelled). s.text) (spelled_is e ∙ ap spelled_shape is ∙ shape_depint dep value)

pub shape_path : (start : Expr) (steps : List Step) → spelled_shape (shape.Path start steps) ≡ record { tightness = 7; text = run_text (held_together 8 (spelled start)) (map step_text steps) }
unfolding spelled spelled_shape spelled_link step_text
shape_path start steps = ap spelled_shape (sym (rolls-Path start steps)) ∙ fold-roll-Shape (List ℕ) Spelled Spelled Linked (List ℕ) layer_access layer_shape layer_expr layer_link layer_step (Shape-F.Path start steps)

pub tightness_path : (e : Expr) (start : Expr) (steps : List Step) → (out-Expr e).shape ≡ shape.Path start steps → (spelled e).tightness ≡ 7
tightness_path e start steps is = ap (λ (s : Spelled). s.tightness) (spelled_is e ∙ ap spelled_shape is ∙ shape_path start steps)

pub text_path : (e : Expr) (start : Expr) (steps : List Step) → (out-Expr e).shape ≡ shape.Path start steps → (spelled e).text ≡ openings (length steps) ++ (held_together 8 (spelled start) ++ parts_text step_text false steps)
text_path e start steps is = ap (λ (s : Spelled). s.text) (spelled_is e ∙ ap spelled_shape is ∙ shape_path start steps) ∙ run_is step_text (held_together 8 (spelled start)) steps

pub shape_not : (inner : Expr) → spelled_shape (shape.Not inner) ≡ record { tightness = 2; text = word (codes "not") ++ held_together 2 (spelled inner) }
unfolding spelled spelled_shape spelled_link step_text
shape_not inner = ap spelled_shape (sym (rolls-Not inner)) ∙ fold-roll-Shape (List ℕ) Spelled Spelled Linked (List ℕ) layer_access layer_shape layer_expr layer_link layer_step (Shape-F.Not inner)

pub tightness_not : (e : Expr) (inner : Expr) → (out-Expr e).shape ≡ shape.Not inner → (spelled e).tightness ≡ 2
tightness_not e inner is = ap (λ (s : Spelled). s.tightness) (spelled_is e ∙ ap spelled_shape is ∙ shape_not inner)

pub text_not : (e : Expr) (inner : Expr) → (out-Expr e).shape ≡ shape.Not inner → (spelled e).text ≡ word (codes "not") ++ held_together 2 (spelled inner)
text_not e inner is = ap (λ (s : Spelled). s.text) (spelled_is e ∙ ap spelled_shape is ∙ shape_not inner)

pub shape_negative : (inner : Expr) → spelled_shape (shape.Negative inner) ≡ record { tightness = 6; text = word (codes "-") ++ held_together 6 (spelled inner) }
unfolding spelled spelled_shape spelled_link step_text
shape_negative inner = ap spelled_shape (sym (rolls-Negative inner)) ∙ fold-roll-Shape (List ℕ) Spelled Spelled Linked (List ℕ) layer_access layer_shape layer_expr layer_link layer_step (Shape-F.Negative inner)

pub tightness_negative : (e : Expr) (inner : Expr) → (out-Expr e).shape ≡ shape.Negative inner → (spelled e).tightness ≡ 6
tightness_negative e inner is = ap (λ (s : Spelled). s.tightness) (spelled_is e ∙ ap spelled_shape is ∙ shape_negative inner)

pub text_negative : (e : Expr) (inner : Expr) → (out-Expr e).shape ≡ shape.Negative inner → (spelled e).text ≡ word (codes "-") ++ held_together 6 (spelled inner)
text_negative e inner is = ap (λ (s : Spelled). s.text) (spelled_is e ∙ ap spelled_shape is ∙ shape_negative inner)

pub shape_compared : (c : Comparison) (left right : Expr) → spelled_shape (shape.Compared c left right) ≡ record { tightness = 3; text = held_together 4 (spelled left) ++ (word (comparison_text c) ++ held_together 4 (spelled right)) }
unfolding spelled spelled_shape spelled_link step_text
shape_compared c left right = ap spelled_shape (sym (rolls-Compared c left right)) ∙ fold-roll-Shape (List ℕ) Spelled Spelled Linked (List ℕ) layer_access layer_shape layer_expr layer_link layer_step (Shape-F.Compared c left right)

pub tightness_compared : (e : Expr) (c : Comparison) (left right : Expr) → (out-Expr e).shape ≡ shape.Compared c left right → (spelled e).tightness ≡ 3
tightness_compared e c left right is = ap (λ (s : Spelled). s.tightness) (spelled_is e ∙ ap spelled_shape is ∙ shape_compared c left right)

pub text_compared : (e : Expr) (c : Comparison) (left right : Expr) → (out-Expr e).shape ≡ shape.Compared c left right → (spelled e).text ≡ held_together 4 (spelled left) ++ (word (comparison_text c) ++ held_together 4 (spelled right))
text_compared e c left right is = ap (λ (s : Spelled). s.text) (spelled_is e ∙ ap spelled_shape is ∙ shape_compared c left right)

pub shape_chain : (r : Rank) (start : Expr) (links : List Link) → spelled_shape (shape.Chain r start links) ≡ record { tightness = tightness_of r; text = run_text (held_together (operand_tightness r) (spelled start)) (map (λ (link : Linked). link (operand_tightness r)) (map spelled_link links)) }
unfolding spelled spelled_shape spelled_link step_text
shape_chain r start links = ap spelled_shape (sym (rolls-Chain r start links)) ∙ fold-roll-Shape (List ℕ) Spelled Spelled Linked (List ℕ) layer_access layer_shape layer_expr layer_link layer_step (Shape-F.Chain r start links)

pub tightness_chain : (e : Expr) (r : Rank) (start : Expr) (links : List Link) → (out-Expr e).shape ≡ shape.Chain r start links → (spelled e).tightness ≡ tightness_of r
tightness_chain e r start links is = ap (λ (s : Spelled). s.tightness) (spelled_is e ∙ ap spelled_shape is ∙ shape_chain r start links)

pub text_chain : (e : Expr) (r : Rank) (start : Expr) (links : List Link) → (out-Expr e).shape ≡ shape.Chain r start links → (spelled e).text ≡ openings (length links) ++ (held_together (operand_tightness r) (spelled start) ++ parts_text (λ (link : Link). spelled_link link (operand_tightness r)) false links)
text_chain e r start links is = ap (λ (s : Spelled). s.text) (spelled_is e ∙ ap spelled_shape is ∙ shape_chain r start links) ∙ ap (run_text (held_together (operand_tightness r) (spelled start))) (runs_map (λ (link : Linked). link (operand_tightness r)) spelled_link links) ∙ run_is (λ (link : Link). spelled_link link (operand_tightness r)) (held_together (operand_tightness r) (spelled start)) links

pub access_field : (name : Text) → access_text (access.Field name) ≡ word (codes ".") ++ word name.bytes
unfolding access_text
access_field name = ap access_text (sym (rolls-Field name)) ∙ fold-roll-Access (List ℕ) Spelled Spelled Linked (List ℕ) layer_access layer_shape layer_expr layer_link layer_step (Access-F.Field name)

pub access_index : (index : Expr) → access_text (access.Index index) ≡ word (codes "[") ++ (expr_text index ++ word (codes "]"))
unfolding access_text spelled
access_index index = ap access_text (sym (rolls-Index index)) ∙ fold-roll-Access (List ℕ) Spelled Spelled Linked (List ℕ) layer_access layer_shape layer_expr layer_link layer_step (Access-F.Index index)

pub step_field : (s : Step) (name : Text) → (out-Step s).access ≡ access.Field name → step_text s ≡ word (codes ".") ++ word name.bytes
step_field s name is = step_is s ∙ ap access_text is ∙ access_field name

pub step_index : (s : Step) (index : Expr) → (out-Step s).access ≡ access.Index index → step_text s ≡ word (codes "[") ++ (expr_text index ++ word (codes "]"))
step_index s index is = step_is s ∙ ap access_text is ∙ access_index index

pub chain_cited : (e : Expr) (r : Rank) (start first : Expr) (links others : List Link) (tight count : ℕ) → tight ≡ operand_tightness r → count ≡ length links → first ≡ start → others ≡ links → (out-Expr e).shape ≡ shape.Chain r start links
    → (spelled e).text ≡ openings count ++ (held_together tight (spelled first) ++ parts_text (λ (link : Link). spelled_link link tight) false others)
chain_cited e r start first links others tight count same_tight same_count same_first same_others is =
    text_chain e r start links is
    ∙ ap (λ (k : ℕ). openings k ++ (held_together (operand_tightness r) (spelled start) ++ parts_text (λ (link : Link). spelled_link link (operand_tightness r)) false links)) (sym same_count)
    ∙ ap (λ (t : ℕ). openings count ++ (held_together t (spelled start) ++ parts_text (λ (link : Link). spelled_link link t) false links)) (sym same_tight)
    ∙ ap (λ (x : Expr). openings count ++ (held_together tight (spelled x) ++ parts_text (λ (link : Link). spelled_link link tight) false links)) (sym same_first)
    ∙ ap (λ (l : List Link). openings count ++ (held_together tight (spelled first) ++ parts_text (λ (link : Link). spelled_link link tight) false l)) (sym same_others)

pub ruleset tightnesses = (tightness_number, tightness_bytes, tightness_truth, tightness_name, tightness_list, tightness_empty, tightness_len, tightness_sha256, tightness_concat, tightness_called, tightness_depint, tightness_path, tightness_not, tightness_negative, tightness_compared, tightness_chain)

pub ruleset texts = (text_number, text_bytes, text_truth, text_name, text_list, text_empty, text_len, text_sha256, text_concat, text_called, text_depint, text_path, text_not, text_negative, text_compared, text_chain)

pub ruleset steps = (step_field, step_index)

pub ruleset links = (link_is)
