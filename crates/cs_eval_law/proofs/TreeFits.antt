-- Over whole trees: what is judged of an expression, a statement or a block is what its evaluation comes to.
use Rattle.std.proofs.Common.{◌≡◌, ℕ, Bool, true, List, [], ◌∷◌, map, Some, Ok, refl, sym, ap, ◌∙◌, subst}
use Rattle.cs_lang_token.specs.declared.token.Text.{Text}
use Rattle.cs_lang.specs.declared.tree.ContractTree.{ContractTree}
use Rattle.cs_lang.specs.declared.tree.Expr.{Expr, roll-Expr, map-Expr}
use Rattle.cs_lang.specs.declared.tree.Shape.{Shape, roll-Shape, map-Shape}
use Rattle.cs_lang.specs.declared.tree.Link.{Link, roll-Link, map-Link}
use Rattle.cs_lang.specs.declared.tree.Step.{Step, roll-Step, map-Step}
use Rattle.cs_lang.specs.declared.tree.Access.{Access, roll-Access, map-Access}
use Rattle.cs_lang.specs.declared.tree.Access.TheOpen.{Access-F, Shape-F, Expr-F, Link-F, Step-F}
use Rattle.cs_lang.specs.declared.tree.Access.TheFolds.{ind-Expr}
use Rattle.cs_types_kinds.specs.declared.expressions.Judged.{Judged}
use Rattle.cs_types_kinds.specs.Told.{Told}
use Rattle.cs_types_kinds.specs.Kinds.{bool as bool_kind, bytes_kind as bytes_kind}
use Rattle.cs_types_kinds.specs.Scopes.{InSight}
use Rattle.cs_types_kinds.specs.Judging.{JudgedPart, Stepped}
use Rattle.cs_types_kinds.specs.Parts.{Shaped, access_from_parts, shape_from_parts, part_of, shape_part, link_part, step_part}
use Rattle.cs_eval_values.specs.declared.view.View.{View}
use Rattle.cs_eval_values.specs.Namings.{Named}
use Rattle.cs_eval_values.specs.Operators.{truth, text}
use Rattle.cs_eval_values.specs.Views.{is_called, returned_int}
use Rattle.cs_eval.specs.Meaning.{Environment, Meant, Linking, Stepping, access_means, shape_means, expr_meant, shape_meant, link_meant, step_meant, access_meant}
use Rattle.cs_eval_law.specs.Acting.{seen_with}
use Rattle.cs_eval_law.proofs.Free.{free_returned}
use Rattle.cs_eval_law.proofs.Trees.{access_part, shape_told, access_told, told_shape, told_access, told_expr, told_link, told_step, shape_from, access_from, meant_shape, meant_access, meant_expr, meant_link, meant_step}
use Rattle.cs_eval_law.proofs.Alike.{Alike, alike_seen}
use Rattle.cs_eval_law.proofs.ExprFits.{Fits, AllFit, AllLinked, AllStep, StepFits, fits_number, fits_given, fits_name, fits_empty, fits_called, fits_depint, fits_len, fits_sha256, fits_not, fits_negative, fits_concat, fits_compared, fits_list, fits_chain, fits_path, fits_field, fits_index}

-- ---- claims, wherever the part stands

abbrev AccessClaim : Access → Type 0
AccessClaim a = (first place : ℕ) (sight : InSight) (view : View) (names : List Named) → Alike sight.names names → StepFits (access_part sight a first) (access_meant (seen_with sight.contract view names) a place)

abbrev ShapeClaim : Shape → Type 0
ShapeClaim s = (place : ℕ) (sight : InSight) (view : View) (names : List Named) → Alike sight.names names → Fits (shape_part sight s place) (shape_meant (seen_with sight.contract view names) s place)

abbrev pub ExprClaim : Expr → Type 0
ExprClaim e = (sight : InSight) (view : View) (names : List Named) → Alike sight.names names → Fits (part_of sight e).found (expr_meant (seen_with sight.contract view names) e)

abbrev LinkClaim : Link → Type 0
LinkClaim l = (sight : InSight) (view : View) (names : List Named) → Alike sight.names names → Fits (link_part sight l).found (link_meant (seen_with sight.contract view names) l).right

abbrev StepClaim : Step → Type 0
StepClaim s = (sight : InSight) (view : View) (names : List Named) → Alike sight.names names → StepFits (step_part sight s) (step_meant (seen_with sight.contract view names) s)

abbrev A : Type 0
A = (a : Access) × AccessClaim a

abbrev S : Type 0
S = (s : Shape) × ShapeClaim s

abbrev E : Type 0
E = (e : Expr) × ExprClaim e

abbrev L : Type 0
L = (l : Link) × LinkClaim l

abbrev T : Type 0
T = (s : Step) × StepClaim s

abbrev shape_below : Shape-F A S E L T → Shape-F Access Shape Expr Link Step
shape_below y = map-Shape A S E L T Access Shape Expr Link Step (λ e. e.0) (λ e. e.0) (λ e. e.0) (λ e. e.0) (λ e. e.0) y

abbrev access_below : Access-F A S E L T → Access-F Access Shape Expr Link Step
access_below y = map-Access A S E L T Access Shape Expr Link Step (λ e. e.0) (λ e. e.0) (λ e. e.0) (λ e. e.0) (λ e. e.0) y

abbrev expr_below : Expr-F A S E L T → Expr-F Access Shape Expr Link Step
expr_below y = map-Expr A S E L T Access Shape Expr Link Step (λ e. e.0) (λ e. e.0) (λ e. e.0) (λ e. e.0) (λ e. e.0) y

abbrev link_below : Link-F A S E L T → Link-F Access Shape Expr Link Step
link_below y = map-Link A S E L T Access Shape Expr Link Step (λ e. e.0) (λ e. e.0) (λ e. e.0) (λ e. e.0) (λ e. e.0) y

abbrev step_below : Step-F A S E L T → Step-F Access Shape Expr Link Step
step_below y = map-Step A S E L T Access Shape Expr Link Step (λ e. e.0) (λ e. e.0) (λ e. e.0) (λ e. e.0) (λ e. e.0) y

fits_along : (t u : Told Judged) (m n : Meant) → t ≡ u → m ≡ n → Fits u n → Fits t m
fits_along t u m n is same h =
    let P : Told Judged → Type 0 = λ v. Fits v m in
    let Q : Meant → Type 0 = λ k. Fits u k in
    subst P (sym is) (subst Q (sym same) h)

steps_along : (t u : Judged → Told Judged) (m n : Stepping) → t ≡ u → m ≡ n → StepFits u n → StepFits t m
steps_along t u m n is same h =
    let P : (Judged → Told Judged) → Type 0 = λ v. StepFits v m in
    let Q : Stepping → Type 0 = λ k. StepFits u k in
    subst P (sym is) (subst Q (sym same) h)

module _ (sight : InSight) (view : View) (names : List Named) (alike : Alike sight.names names) where
  abbrev w : Environment
  w = seen_with sight.contract view names

  exprs_fit : (es : List E) → AllFit (map (part_of sight) (map (λ e. e.0) es)) (map (expr_meant w) (map (λ e. e.0) es))
  exprs_fit [] = tt
  exprs_fit (e ∷ es) = (e.1 sight view names alike, exprs_fit es)

  links_fit : (ls : List L) → AllLinked (map (link_part sight) (map (λ e. e.0) ls)) (map (link_meant w) (map (λ e. e.0) ls))
  links_fit [] = tt
  links_fit (l ∷ ls) = (l.1 sight view names alike, links_fit ls)

  steps_fit : (ss : List T) → AllStep (map (step_part sight) (map (λ e. e.0) ss)) (map (step_meant w) (map (λ e. e.0) ss))
  steps_fit [] = tt
  steps_fit (s ∷ ss) = (s.1 sight view names alike, steps_fit ss)

  -- a shape, and an access, whose parts fit
  shapes : (place : ℕ) (y : Shape-F A S E L T)
      → Fits (shape_from_parts sight (shape_told sight (shape_below y)) place) (shape_means w (shape_from w (shape_below y)) place)
  shapes place (Shape-F.Number n) = fits_number n place
  shapes place (Shape-F.Bytes b) = fits_given bytes_kind (text b)
  shapes place (Shape-F.Truth b) = fits_given bool_kind (truth b)
  shapes place (Shape-F.Name name) = fits_name sight names name place (λ s is. alike_seen sight.names names name s alike is)
  shapes place (Shape-F.List es) = fits_list place (map (part_of sight) (map (λ e. e.0) es)) (map (expr_meant w) (map (λ e. e.0) es)) (exprs_fit es)
  shapes place (Shape-F.Empty k) = fits_empty k place
  shapes place (Shape-F.Len p) = fits_len (part_of sight p.0) (expr_meant w p.0) place (p.1 sight view names alike)
  shapes place (Shape-F.Sha256 p) = fits_sha256 (part_of sight p.0) (expr_meant w p.0) place (p.1 sight view names alike)
  shapes place (Shape-F.Concat p q) = fits_concat (part_of sight p.0) (part_of sight q.0) (expr_meant w p.0) (expr_meant w q.0) place (p.1 sight view names alike) (q.1 sight view names alike)
  shapes place (Shape-F.Called dep name) = fits_called sight name place (truth (is_called view dep name.bytes))
  shapes place (Shape-F.DepInt dep value) = fits_depint sight place (returned_int view dep value place) (free_returned view dep value place)
  shapes place (Shape-F.Path p ss) = fits_path (part_of sight p.0) (expr_meant w p.0) (map (step_part sight) (map (λ e. e.0) ss)) (map (step_meant w) (map (λ e. e.0) ss)) (p.1 sight view names alike) (steps_fit ss)
  shapes place (Shape-F.Not p) = fits_not (part_of sight p.0) (expr_meant w p.0) place (p.1 sight view names alike)
  shapes place (Shape-F.Negative p) = fits_negative (part_of sight p.0) (expr_meant w p.0) place (p.1 sight view names alike)
  shapes place (Shape-F.Compared c p q) = fits_compared c (part_of sight p.0) (part_of sight q.0) (expr_meant w p.0) (expr_meant w q.0) place (p.1 sight view names alike) (q.1 sight view names alike)
  shapes place (Shape-F.Chain r p ls) = fits_chain r (part_of sight p.0) (expr_meant w p.0) (map (link_part sight) (map (λ e. e.0) ls)) (map (link_meant w) (map (λ e. e.0) ls)) (p.1 sight view names alike) (links_fit ls)

  accesses : (first place : ℕ) (y : Access-F A S E L T)
      → StepFits (access_from_parts sight (access_told sight (access_below y)) first) (access_means w (access_from w (access_below y)) place)
  accesses first place (Access-F.Field name) = fits_field sight name first place
  accesses first place (Access-F.Index p) = fits_index (part_of sight p.0) (expr_meant w p.0) first place (p.1 sight view names alike)

shape_step : (x : Shape-F Access Shape Expr Link Step) (y : Shape-F A S E L T) → shape_below y ≡ x → ShapeClaim (roll-Shape x)
shape_step x y is = subst (λ z. ShapeClaim (roll-Shape z)) is (λ place sight view names alike.
    fits_along _ _ _ _ (ap (λ (f : Shaped). f place) (told_shape sight (shape_below y)))
    (ap (λ (f : ℕ → Meant). f place) (meant_shape (seen_with sight.contract view names) (shape_below y))) (shapes sight view names alike place y))

access_step : (x : Access-F Access Shape Expr Link Step) (y : Access-F A S E L T) → access_below y ≡ x → AccessClaim (roll-Access x)
access_step x y is = subst (λ z. AccessClaim (roll-Access z)) is (λ first place sight view names alike.
    steps_along _ _ _ _ (ap (λ (f : Stepped). f first) (told_access sight (access_below y)))
    (ap (λ (f : ℕ → Stepping). f place) (meant_access (seen_with sight.contract view names) (access_below y))) (accesses sight view names alike first place y))

expr_step : (x : Expr-F Access Shape Expr Link Step) (y : Expr-F A S E L T) → expr_below y ≡ x → ExprClaim (roll-Expr x)
expr_step x y is = subst (λ z. ExprClaim (roll-Expr z)) is (λ sight view names alike.
    fits_along _ _ _ _ (ap (λ (p : JudgedPart). p.found) (told_expr sight (expr_below y)))
    (meant_expr (seen_with sight.contract view names) (expr_below y)) (y.shape.1 y.place sight view names alike))

link_step : (x : Link-F Access Shape Expr Link Step) (y : Link-F A S E L T) → link_below y ≡ x → LinkClaim (roll-Link x)
link_step x y is = subst (λ z. LinkClaim (roll-Link z)) is (λ sight view names alike.
    fits_along _ _ _ _ (ap (λ (p : JudgedPart). p.found) (told_link sight (link_below y)))
    (ap (λ (l : Linking). l.right) (meant_link (seen_with sight.contract view names) (link_below y))) (y.right.1 sight view names alike))

step_step : (x : Step-F Access Shape Expr Link Step) (y : Step-F A S E L T) → step_below y ≡ x → StepClaim (roll-Step x)
step_step x y is = subst (λ z. StepClaim (roll-Step z)) is (λ sight view names alike.
    steps_along _ _ _ _ (told_step sight (step_below y)) (meant_step (seen_with sight.contract view names) (step_below y)) (y.access.1 y.first y.place sight view names alike))

-- the kind that is judged is the one that is given, and what is spent is within the cost
pub expr_fits : (e : Expr) → ExprClaim e
expr_fits = ind-Expr AccessClaim ShapeClaim ExprClaim LinkClaim StepClaim access_step shape_step expr_step link_step step_step
