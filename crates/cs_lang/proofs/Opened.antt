-- What is seen of a shape whose parts are known.
use Rattle.std.proofs.Common.{◌≡◌, ℕ, Bool, List, rules}
use Rattle.cs_lang_token.specs.declared.token.Text.{Text}
use Rattle.cs_lang.specs.declared.tree.ValueKind.{ValueKind}
use Rattle.cs_lang.specs.declared.tree.Rank.{Rank}
use Rattle.cs_lang.specs.declared.tree.Comparison.{Comparison}
use Rattle.cs_lang.specs.declared.tree.Expr.{Expr}
use Rattle.cs_lang.specs.declared.tree.Link.{Link}
use Rattle.cs_lang.specs.declared.tree.Step.{Step}
use Rattle.cs_lang.specs.declared.tree.Shape.{out-Shape}
use Rattle.cs_lang.specs.declared.tree.Shape.TheVariants as shape
use Rattle.cs_lang.specs.declared.tree.Access.TheViews.{the_lemmas}
use Rattle.cs_lang.specs.declared.tree.Access.TheOpen.{Shape-F}

pub out_number : (n : ℕ) → out-Shape (shape.Number n) ≡ Shape-F.Number n
out_number n = search (rules, the_lemmas)

pub out_bytes : (text : List ℕ) → out-Shape (shape.Bytes text) ≡ Shape-F.Bytes text
out_bytes text = search (rules, the_lemmas)

pub out_truth : (b : Bool) → out-Shape (shape.Truth b) ≡ Shape-F.Truth b
out_truth b = search (rules, the_lemmas)

pub out_name : (name : List ℕ) → out-Shape (shape.Name name) ≡ Shape-F.Name name
out_name name = search (rules, the_lemmas)

pub out_list : (items : List Expr) → out-Shape (shape.List items) ≡ Shape-F.List items
out_list items = search (rules, the_lemmas)

pub out_empty : (k : ValueKind) → out-Shape (shape.Empty k) ≡ Shape-F.Empty k
out_empty k = search (rules, the_lemmas)

pub out_len : (inner : Expr) → out-Shape (shape.Len inner) ≡ Shape-F.Len inner
out_len inner = search (rules, the_lemmas)

pub out_sha256 : (inner : Expr) → out-Shape (shape.Sha256 inner) ≡ Shape-F.Sha256 inner
out_sha256 inner = search (rules, the_lemmas)

pub out_concat : (front back : Expr) → out-Shape (shape.Concat front back) ≡ Shape-F.Concat front back
out_concat front back = search (rules, the_lemmas)

pub out_called : (dep : ℕ) (name : Text) → out-Shape (shape.Called dep name) ≡ Shape-F.Called dep name
out_called dep name = search (rules, the_lemmas)

pub out_depint : (dep value : ℕ) → out-Shape (shape.DepInt dep value) ≡ Shape-F.DepInt dep value
out_depint dep value = search (rules, the_lemmas)

pub out_path : (start : Expr) (steps : List Step) → out-Shape (shape.Path start steps) ≡ Shape-F.Path start steps
out_path start steps = search (rules, the_lemmas)

pub out_not : (inner : Expr) → out-Shape (shape.Not inner) ≡ Shape-F.Not inner
out_not inner = search (rules, the_lemmas)

pub out_negative : (inner : Expr) → out-Shape (shape.Negative inner) ≡ Shape-F.Negative inner
out_negative inner = search (rules, the_lemmas)

pub out_compared : (c : Comparison) (left right : Expr) → out-Shape (shape.Compared c left right) ≡ Shape-F.Compared c left right
out_compared c left right = search (rules, the_lemmas)

pub out_chain : (r : Rank) (start : Expr) (links : List Link) → out-Shape (shape.Chain r start links) ≡ Shape-F.Chain r start links
out_chain r start links = search (rules, the_lemmas)
