-- Expressions without their places, and which of them are chains and paths.
use Rattle.std.proofs.Common.{◌≡◌, ℕ, Bool, true, List, map, sym, ap, refl, ◌∙◌, rules}
use Rattle.cs_lang_token.specs.declared.token.Text.{Text}
use Rattle.cs_lang.specs.declared.tree.ValueKind.{ValueKind}
use Rattle.cs_lang.specs.declared.tree.Rank.{Rank}
use Rattle.cs_lang.specs.declared.tree.Rank.TheVariants as rank
use Rattle.cs_lang.specs.declared.tree.Comparison.{Comparison}
use Rattle.cs_lang.specs.declared.tree.Expr.{Expr, out-Expr}
use Rattle.cs_lang.specs.declared.tree.Shape.{Shape, out-Shape, roll-Shape}
use Rattle.cs_lang.specs.declared.tree.Shape.TheVariants as shape
use Rattle.cs_lang.specs.declared.tree.Shape.TheVariants.{rolls-Number, rolls-Bytes, rolls-Truth, rolls-Name, rolls-List, rolls-Empty, rolls-Len, rolls-Sha256, rolls-Concat, rolls-Called, rolls-DepInt, rolls-Path, rolls-Not, rolls-Negative, rolls-Compared, rolls-Chain}
use Rattle.cs_lang.specs.declared.tree.Link.{Link, out-Link}
use Rattle.cs_lang.specs.declared.tree.Step.{Step, out-Step}
use Rattle.cs_lang.specs.declared.tree.Access.{Access}
use Rattle.cs_lang.specs.declared.tree.Access.TheViews.{the_lemmas}
use Rattle.cs_lang.specs.declared.tree.Access.TheVariants as access
use Rattle.cs_lang.specs.declared.tree.Access.TheVariants.{rolls-Field, rolls-Index}
use Rattle.cs_lang.specs.declared.tree.Access.TheOpen.{Access-F, Shape-F}
use Rattle.cs_lang.specs.declared.tree.Access.TheFolds.{fold-roll-Access, fold-roll-Shape, fold_out-Expr, fold_out-Link, fold_out-Step}
use Rattle.cs_lang.specs.Trees.{tree, shape_of, OpenedTree, same_rank, shape_is_chain, is_chain, shape_is_path, is_path}
use Rattle.cs_lang.proofs.Chains.{rolled}
use Rattle.cs_lang.proofs.Opened.{out_number, out_bytes, out_truth, out_name, out_list, out_empty, out_len, out_sha256, out_concat, out_called, out_depint, out_path, out_not, out_negative, out_compared, out_chain}
use Rattle.cs_lang_print.specs.Places.{bare_text, access_layer, shape_layer, expr_layer, link_layer, step_layer, bare_expr, bare_shape, bare_link, bare_step, bare_access}

pub bare_is : (e : Expr) → bare_expr e ≡ tree 0 0 (bare_shape (shape_of e))
unfolding bare_expr bare_shape
bare_is e = fold_out-Expr Access Shape Expr Link Step access_layer shape_layer expr_layer link_layer step_layer e

pub link_bare : (l : Link) → bare_link l ≡ link_layer (record { operator = (out-Link l).operator; first = 0; place = 0; right = bare_expr (out-Link l).right })
unfolding bare_expr bare_link
link_bare l = fold_out-Link Access Shape Expr Link Step access_layer shape_layer expr_layer link_layer step_layer l

pub step_bare : (s : Step) → bare_step s ≡ step_layer (record { first = 0; place = 0; access = bare_access (out-Step s).access })
unfolding bare_access bare_step
step_bare s = fold_out-Step Access Shape Expr Link Step access_layer shape_layer expr_layer link_layer step_layer s

pub field_bare : (name : Text) → bare_access (access.Field name) ≡ access.Field (bare_text name)
unfolding bare_access
field_bare name = ap bare_access (sym (rolls-Field name)) ∙ fold-roll-Access Access Shape Expr Link Step access_layer shape_layer expr_layer link_layer step_layer (Access-F.Field name)

pub index_bare : (index : Expr) → bare_access (access.Index index) ≡ access.Index (bare_expr index)
unfolding bare_access bare_expr
index_bare index = ap bare_access (sym (rolls-Index index)) ∙ fold-roll-Access Access Shape Expr Link Step access_layer shape_layer expr_layer link_layer step_layer (Access-F.Index index)

pub bare_number : (n : ℕ) → bare_shape (shape.Number n) ≡ shape.Number n
unfolding bare_expr bare_shape bare_link bare_step
bare_number n = ap bare_shape (sym (rolls-Number n)) ∙ fold-roll-Shape Access Shape Expr Link Step access_layer shape_layer expr_layer link_layer step_layer (Shape-F.Number n)

pub bare_bytes : (text : List ℕ) → bare_shape (shape.Bytes text) ≡ shape.Bytes text
unfolding bare_expr bare_shape bare_link bare_step
bare_bytes text = ap bare_shape (sym (rolls-Bytes text)) ∙ fold-roll-Shape Access Shape Expr Link Step access_layer shape_layer expr_layer link_layer step_layer (Shape-F.Bytes text)

pub bare_truth : (b : Bool) → bare_shape (shape.Truth b) ≡ shape.Truth b
unfolding bare_expr bare_shape bare_link bare_step
bare_truth b = ap bare_shape (sym (rolls-Truth b)) ∙ fold-roll-Shape Access Shape Expr Link Step access_layer shape_layer expr_layer link_layer step_layer (Shape-F.Truth b)

pub bare_name : (name : List ℕ) → bare_shape (shape.Name name) ≡ shape.Name name
unfolding bare_expr bare_shape bare_link bare_step
bare_name name = ap bare_shape (sym (rolls-Name name)) ∙ fold-roll-Shape Access Shape Expr Link Step access_layer shape_layer expr_layer link_layer step_layer (Shape-F.Name name)

pub bare_list : (items : List Expr) → bare_shape (shape.List items) ≡ shape.List (map bare_expr items)
unfolding bare_expr bare_shape bare_link bare_step
bare_list items = ap bare_shape (sym (rolls-List items)) ∙ fold-roll-Shape Access Shape Expr Link Step access_layer shape_layer expr_layer link_layer step_layer (Shape-F.List items)

pub bare_empty : (k : ValueKind) → bare_shape (shape.Empty k) ≡ shape.Empty k
unfolding bare_expr bare_shape bare_link bare_step
bare_empty k = ap bare_shape (sym (rolls-Empty k)) ∙ fold-roll-Shape Access Shape Expr Link Step access_layer shape_layer expr_layer link_layer step_layer (Shape-F.Empty k)

pub bare_len : (inner : Expr) → bare_shape (shape.Len inner) ≡ shape.Len (bare_expr inner)
unfolding bare_expr bare_shape bare_link bare_step
bare_len inner = ap bare_shape (sym (rolls-Len inner)) ∙ fold-roll-Shape Access Shape Expr Link Step access_layer shape_layer expr_layer link_layer step_layer (Shape-F.Len inner)

pub bare_sha256 : (inner : Expr) → bare_shape (shape.Sha256 inner) ≡ shape.Sha256 (bare_expr inner)
unfolding bare_expr bare_shape bare_link bare_step
bare_sha256 inner = ap bare_shape (sym (rolls-Sha256 inner)) ∙ fold-roll-Shape Access Shape Expr Link Step access_layer shape_layer expr_layer link_layer step_layer (Shape-F.Sha256 inner)

pub bare_concat : (front back : Expr) → bare_shape (shape.Concat front back) ≡ shape.Concat (bare_expr front) (bare_expr back)
unfolding bare_expr bare_shape bare_link bare_step
bare_concat front back = ap bare_shape (sym (rolls-Concat front back)) ∙ fold-roll-Shape Access Shape Expr Link Step access_layer shape_layer expr_layer link_layer step_layer (Shape-F.Concat front back)

pub bare_called : (dep : ℕ) (name : Text) → bare_shape (shape.Called dep name) ≡ shape.Called dep (bare_text name)
unfolding bare_expr bare_shape bare_link bare_step
bare_called dep name = ap bare_shape (sym (rolls-Called dep name)) ∙ fold-roll-Shape Access Shape Expr Link Step access_layer shape_layer expr_layer link_layer step_layer (Shape-F.Called dep name)

pub bare_depint : (dep value : ℕ) → bare_shape (shape.DepInt dep value) ≡ shape.DepInt dep value
unfolding bare_expr bare_shape bare_link bare_step
bare_depint dep value = ap bare_shape (sym (rolls-DepInt dep value)) ∙ fold-roll-Shape Access Shape Expr Link Step access_layer shape_layer expr_layer link_layer step_layer (Shape-F.DepInt dep value)

pub bare_path : (start : Expr) (steps : List Step) → bare_shape (shape.Path start steps) ≡ shape.Path (bare_expr start) (map bare_step steps)
unfolding bare_expr bare_shape bare_link bare_step
bare_path start steps = ap bare_shape (sym (rolls-Path start steps)) ∙ fold-roll-Shape Access Shape Expr Link Step access_layer shape_layer expr_layer link_layer step_layer (Shape-F.Path start steps)

pub bare_not : (inner : Expr) → bare_shape (shape.Not inner) ≡ shape.Not (bare_expr inner)
unfolding bare_expr bare_shape bare_link bare_step
bare_not inner = ap bare_shape (sym (rolls-Not inner)) ∙ fold-roll-Shape Access Shape Expr Link Step access_layer shape_layer expr_layer link_layer step_layer (Shape-F.Not inner)

pub bare_negative : (inner : Expr) → bare_shape (shape.Negative inner) ≡ shape.Negative (bare_expr inner)
unfolding bare_expr bare_shape bare_link bare_step
bare_negative inner = ap bare_shape (sym (rolls-Negative inner)) ∙ fold-roll-Shape Access Shape Expr Link Step access_layer shape_layer expr_layer link_layer step_layer (Shape-F.Negative inner)

pub bare_compared : (c : Comparison) (left right : Expr) → bare_shape (shape.Compared c left right) ≡ shape.Compared c (bare_expr left) (bare_expr right)
unfolding bare_expr bare_shape bare_link bare_step
bare_compared c left right = ap bare_shape (sym (rolls-Compared c left right)) ∙ fold-roll-Shape Access Shape Expr Link Step access_layer shape_layer expr_layer link_layer step_layer (Shape-F.Compared c left right)

pub bare_chain : (r : Rank) (start : Expr) (links : List Link) → bare_shape (shape.Chain r start links) ≡ shape.Chain r (bare_expr start) (map bare_link links)
unfolding bare_expr bare_shape bare_link bare_step
bare_chain r start links = ap bare_shape (sym (rolls-Chain r start links)) ∙ fold-roll-Shape Access Shape Expr Link Step access_layer shape_layer expr_layer link_layer step_layer (Shape-F.Chain r start links)

chain_of_bare : (r : Rank) (o : OpenedTree) → shape_is_chain r (out-Shape (bare_shape (roll-Shape o))) ≡ shape_is_chain r o
chain_of_bare r' (Shape-F.Number n) = ap (λ (s : Shape). shape_is_chain r' (out-Shape s)) (ap bare_shape (rolls-Number n) ∙ bare_number n) ∙ ap (shape_is_chain r') (out_number n)
chain_of_bare r' (Shape-F.Bytes text) = ap (λ (s : Shape). shape_is_chain r' (out-Shape s)) (ap bare_shape (rolls-Bytes text) ∙ bare_bytes text) ∙ ap (shape_is_chain r') (out_bytes text)
chain_of_bare r' (Shape-F.Truth b) = ap (λ (s : Shape). shape_is_chain r' (out-Shape s)) (ap bare_shape (rolls-Truth b) ∙ bare_truth b) ∙ ap (shape_is_chain r') (out_truth b)
chain_of_bare r' (Shape-F.Name name) = ap (λ (s : Shape). shape_is_chain r' (out-Shape s)) (ap bare_shape (rolls-Name name) ∙ bare_name name) ∙ ap (shape_is_chain r') (out_name name)
chain_of_bare r' (Shape-F.List items) = ap (λ (s : Shape). shape_is_chain r' (out-Shape s)) (ap bare_shape (rolls-List items) ∙ bare_list items) ∙ ap (shape_is_chain r') (out_list (map bare_expr items))
chain_of_bare r' (Shape-F.Empty k) = ap (λ (s : Shape). shape_is_chain r' (out-Shape s)) (ap bare_shape (rolls-Empty k) ∙ bare_empty k) ∙ ap (shape_is_chain r') (out_empty k)
chain_of_bare r' (Shape-F.Len inner) = ap (λ (s : Shape). shape_is_chain r' (out-Shape s)) (ap bare_shape (rolls-Len inner) ∙ bare_len inner) ∙ ap (shape_is_chain r') (out_len (bare_expr inner))
chain_of_bare r' (Shape-F.Sha256 inner) = ap (λ (s : Shape). shape_is_chain r' (out-Shape s)) (ap bare_shape (rolls-Sha256 inner) ∙ bare_sha256 inner) ∙ ap (shape_is_chain r') (out_sha256 (bare_expr inner))
chain_of_bare r' (Shape-F.Concat front back) = ap (λ (s : Shape). shape_is_chain r' (out-Shape s)) (ap bare_shape (rolls-Concat front back) ∙ bare_concat front back) ∙ ap (shape_is_chain r') (out_concat (bare_expr front) (bare_expr back))
chain_of_bare r' (Shape-F.Called dep name) = ap (λ (s : Shape). shape_is_chain r' (out-Shape s)) (ap bare_shape (rolls-Called dep name) ∙ bare_called dep name) ∙ ap (shape_is_chain r') (out_called dep (bare_text name))
chain_of_bare r' (Shape-F.DepInt dep value) = ap (λ (s : Shape). shape_is_chain r' (out-Shape s)) (ap bare_shape (rolls-DepInt dep value) ∙ bare_depint dep value) ∙ ap (shape_is_chain r') (out_depint dep value)
chain_of_bare r' (Shape-F.Path start steps) = ap (λ (s : Shape). shape_is_chain r' (out-Shape s)) (ap bare_shape (rolls-Path start steps) ∙ bare_path start steps) ∙ ap (shape_is_chain r') (out_path (bare_expr start) (map bare_step steps))
chain_of_bare r' (Shape-F.Not inner) = ap (λ (s : Shape). shape_is_chain r' (out-Shape s)) (ap bare_shape (rolls-Not inner) ∙ bare_not inner) ∙ ap (shape_is_chain r') (out_not (bare_expr inner))
chain_of_bare r' (Shape-F.Negative inner) = ap (λ (s : Shape). shape_is_chain r' (out-Shape s)) (ap bare_shape (rolls-Negative inner) ∙ bare_negative inner) ∙ ap (shape_is_chain r') (out_negative (bare_expr inner))
chain_of_bare r' (Shape-F.Compared c left right) = ap (λ (s : Shape). shape_is_chain r' (out-Shape s)) (ap bare_shape (rolls-Compared c left right) ∙ bare_compared c left right) ∙ ap (shape_is_chain r') (out_compared c (bare_expr left) (bare_expr right))
chain_of_bare r' (Shape-F.Chain r start links) = ap (λ (s : Shape). shape_is_chain r' (out-Shape s)) (ap bare_shape (rolls-Chain r start links) ∙ bare_chain r start links) ∙ ap (shape_is_chain r') (out_chain r (bare_expr start) (map bare_link links))

path_of_bare : (o : OpenedTree) → shape_is_path (out-Shape (bare_shape (roll-Shape o))) ≡ shape_is_path o
path_of_bare (Shape-F.Number n) = ap (λ (s : Shape). shape_is_path (out-Shape s)) (ap bare_shape (rolls-Number n) ∙ bare_number n) ∙ ap shape_is_path (out_number n)
path_of_bare (Shape-F.Bytes text) = ap (λ (s : Shape). shape_is_path (out-Shape s)) (ap bare_shape (rolls-Bytes text) ∙ bare_bytes text) ∙ ap shape_is_path (out_bytes text)
path_of_bare (Shape-F.Truth b) = ap (λ (s : Shape). shape_is_path (out-Shape s)) (ap bare_shape (rolls-Truth b) ∙ bare_truth b) ∙ ap shape_is_path (out_truth b)
path_of_bare (Shape-F.Name name) = ap (λ (s : Shape). shape_is_path (out-Shape s)) (ap bare_shape (rolls-Name name) ∙ bare_name name) ∙ ap shape_is_path (out_name name)
path_of_bare (Shape-F.List items) = ap (λ (s : Shape). shape_is_path (out-Shape s)) (ap bare_shape (rolls-List items) ∙ bare_list items) ∙ ap shape_is_path (out_list (map bare_expr items))
path_of_bare (Shape-F.Empty k) = ap (λ (s : Shape). shape_is_path (out-Shape s)) (ap bare_shape (rolls-Empty k) ∙ bare_empty k) ∙ ap shape_is_path (out_empty k)
path_of_bare (Shape-F.Len inner) = ap (λ (s : Shape). shape_is_path (out-Shape s)) (ap bare_shape (rolls-Len inner) ∙ bare_len inner) ∙ ap shape_is_path (out_len (bare_expr inner))
path_of_bare (Shape-F.Sha256 inner) = ap (λ (s : Shape). shape_is_path (out-Shape s)) (ap bare_shape (rolls-Sha256 inner) ∙ bare_sha256 inner) ∙ ap shape_is_path (out_sha256 (bare_expr inner))
path_of_bare (Shape-F.Concat front back) = ap (λ (s : Shape). shape_is_path (out-Shape s)) (ap bare_shape (rolls-Concat front back) ∙ bare_concat front back) ∙ ap shape_is_path (out_concat (bare_expr front) (bare_expr back))
path_of_bare (Shape-F.Called dep name) = ap (λ (s : Shape). shape_is_path (out-Shape s)) (ap bare_shape (rolls-Called dep name) ∙ bare_called dep name) ∙ ap shape_is_path (out_called dep (bare_text name))
path_of_bare (Shape-F.DepInt dep value) = ap (λ (s : Shape). shape_is_path (out-Shape s)) (ap bare_shape (rolls-DepInt dep value) ∙ bare_depint dep value) ∙ ap shape_is_path (out_depint dep value)
path_of_bare (Shape-F.Path start steps) = ap (λ (s : Shape). shape_is_path (out-Shape s)) (ap bare_shape (rolls-Path start steps) ∙ bare_path start steps) ∙ ap shape_is_path (out_path (bare_expr start) (map bare_step steps))
path_of_bare (Shape-F.Not inner) = ap (λ (s : Shape). shape_is_path (out-Shape s)) (ap bare_shape (rolls-Not inner) ∙ bare_not inner) ∙ ap shape_is_path (out_not (bare_expr inner))
path_of_bare (Shape-F.Negative inner) = ap (λ (s : Shape). shape_is_path (out-Shape s)) (ap bare_shape (rolls-Negative inner) ∙ bare_negative inner) ∙ ap shape_is_path (out_negative (bare_expr inner))
path_of_bare (Shape-F.Compared c left right) = ap (λ (s : Shape). shape_is_path (out-Shape s)) (ap bare_shape (rolls-Compared c left right) ∙ bare_compared c left right) ∙ ap shape_is_path (out_compared c (bare_expr left) (bare_expr right))
path_of_bare (Shape-F.Chain r start links) = ap (λ (s : Shape). shape_is_path (out-Shape s)) (ap bare_shape (rolls-Chain r start links) ∙ bare_chain r start links) ∙ ap shape_is_path (out_chain r (bare_expr start) (map bare_link links))

pub chain_bare : (r : Rank) (e : Expr) → is_chain r (bare_expr e) ≡ is_chain r e
chain_bare r e =
    ap (is_chain r) (bare_is e)
    ∙ ap (λ (s : Shape). shape_is_chain r (out-Shape (bare_shape s))) (sym (rolled (shape_of e)))
    ∙ chain_of_bare r (out-Shape (shape_of e))

pub path_bare : (e : Expr) → is_path (bare_expr e) ≡ is_path e
path_bare e =
    ap is_path (bare_is e)
    ∙ ap (λ (s : Shape). shape_is_path (out-Shape (bare_shape s))) (sym (rolled (shape_of e)))
    ∙ path_of_bare (out-Shape (shape_of e))
