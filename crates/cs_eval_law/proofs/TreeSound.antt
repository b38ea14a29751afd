-- Over whole trees: an expression of an accepted contract gives what has its kind, and meets no value of a wrong kind.
use Rattle.std.proofs.Common.{◌≡◌, ℕ, Bool, true, false, List, [], ◌∷◌, map, Some, Ok, refl, sym, ap, ◌∙◌, subst}
use Rattle.std.specs.Prelude.{◌&&◌}
use Rattle.cs_lang_token.specs.declared.token.Text.{Text}
use Rattle.cs_lang.specs.declared.tree.Rank.{Rank}
use Rattle.cs_lang.specs.declared.tree.Expr.{Expr, roll-Expr, map-Expr}
use Rattle.cs_lang.specs.declared.tree.Shape.{Shape, roll-Shape, map-Shape}
use Rattle.cs_lang.specs.declared.tree.Link.{Link, roll-Link, map-Link}
use Rattle.cs_lang.specs.declared.tree.Step.{Step, roll-Step, map-Step}
use Rattle.cs_lang.specs.declared.tree.Access.{Access, roll-Access, map-Access}
use Rattle.cs_lang.specs.declared.tree.Access.TheOpen.{Access-F, Shape-F, Expr-F, Link-F, Step-F}
use Rattle.cs_lang.specs.declared.tree.Access.TheFolds.{ind-Expr}
use Rattle.cs_lang.specs.Fits.{LinkFits, every, itself, in_rank, is_of_rank, access_layer_fits, shape_layer_fits, expr_fits, shape_fits, link_fits, step_fits, access_fits}
use Rattle.cs_types_kinds.specs.declared.expressions.Judged.{Judged}
use Rattle.cs_types_kinds.specs.Told.{Told}
use Rattle.cs_types_kinds.specs.Kinds.{bool as bool_kind, bytes_kind as bytes_kind}
use Rattle.cs_types_kinds.specs.Scopes.{InSight}
use Rattle.cs_types_kinds.specs.Judging.{JudgedPart, Stepped}
use Rattle.cs_types_kinds.specs.Parts.{Shaped, access_from_parts, shape_from_parts, part_of, shape_part, link_part, step_part}
use Rattle.cs_eval_values.specs.declared.view.View.{View}
use Rattle.cs_eval_values.specs.Namings.{Named}
use Rattle.cs_eval_values.specs.Operators.{truth, text}
use Rattle.cs_eval_values.specs.Views.{is_called}
use Rattle.cs_eval.specs.Meaning.{Environment, Meant, Linking, Stepping, access_means, shape_means, expr_meant, shape_meant, link_meant, step_meant, access_meant}
use Rattle.cs_eval_law.specs.Acting.{seen_with}
use Rattle.cs_eval_law.proofs.Alike.{Alike, alike_seen}
use Rattle.cs_eval_law.proofs.Kinded.{true_and, bool_has, bytes_has}
use Rattle.cs_eval_law.proofs.ExprSound.{AreKinded, Yields, AllYield, AllLinks, AllSteps, StepYields, yields_number, yields_given, yields_name, yields_empty, yields_called, yields_depint, yields_len, yields_sha256, yields_not, yields_negative, yields_concat, yields_compared, yields_list, yields_chain, yields_path, yields_field, yields_index}
use Rattle.cs_eval_law.proofs.Trees.{access_part, shape_told, access_told, told_shape, told_access, told_expr, told_link, told_step, shape_from, access_from, meant_shape, meant_access, meant_expr, meant_link, meant_step, shape_fit, access_fit, fit_shape, fit_access, fit_expr, fit_link, fit_step}

-- ---- claims, wherever the part stands

abbrev AccessClaim : Access → Type 0
AccessClaim a = access_fits a ≡ true → (first place : ℕ) (sight : InSight) (view : View) (names : List Named) → Alike sight.names names → AreKinded sight.contract.types names → StepYields sight.contract.types (access_part sight a first) (access_meant (seen_with sight.contract view names) a place)

abbrev ShapeClaim : Shape → Type 0
ShapeClaim s = shape_fits s ≡ true → (place : ℕ) (sight : InSight) (view : View) (names : List Named) → Alike sight.names names → AreKinded sight.contract.types names → Yields sight.contract.types (shape_part sight s place) (shape_meant (seen_with sight.contract view names) s place)

abbrev pub ExprYields : Expr → Type 0
ExprYields e = expr_fits e ≡ true → (sight : InSight) (view : View) (names : List Named) → Alike sight.names names → AreKinded sight.contract.types names → Yields sight.contract.types (part_of sight e).found (expr_meant (seen_with sight.contract view names) e)

abbrev LinkClaim : Link → Type 0
LinkClaim l = (r : Rank) → link_fits l r ≡ true → (sight : InSight) (view : View) (names : List Named) → Alike sight.names names → AreKinded sight.contract.types names → Yields sight.contract.types (link_part sight l).found (link_meant (seen_with sight.contract view names) l).right × (is_of_rank r (link_meant (seen_with sight.contract view names) l).operator ≡ true)

abbrev StepClaim : Step → Type 0
StepClaim s = step_fits s ≡ true → (sight : InSight) (view : View) (names : List Named) → Alike sight.names names → AreKinded sight.contract.types names → StepYields sight.contract.types (step_part sight s) (step_meant (seen_with sight.contract view names) s)

abbrev A : Type 0
A = (a : Access) × AccessClaim a

abbrev S : Type 0
S = (s : Shape) × ShapeClaim s

abbrev E : Type 0
E = (e : Expr) × ExprYields e

abbrev L : Type 0
L = (l : Link) × LinkClaim l

abbrev T : Type 0
T = (s : Step) × StepClaim s

abbrev shape_below : Shape-F A S E L T → Shape-F Access Shape Expr Link Step
shape_below y = map-Shape A S E L T Access Shape Expr Link Step (λ e. e.0) (λ e. e.0) (λ e. e.0) (λ e. e.0) (λ e. e.0) y

abbrev access_below : Access-F A S E L T → Access-F Access Shape Expr Link Step
access_below y = map-Access A S E L T Access Shape Expr Link Step (λ e. e.0) (λ e. e.0) (λ e. e.0) (λ e. e.0) (λ e. e.0) y

abbrev expr_below : Expr-F A S E L T → Expr-F Access Shape Expr Link Step
expr_below y = map-Expr A S E L T Access Shape Expr Link Step (λ e. e.0) (λ e. e.0) (λ e. e.0) (λ e. e.0) (λ e. e.0) y

abbrev link_below : Link-F A S E L T → Link-F Access Shape Expr Link Step
link_below y = map-Link A S E L T Access Shape Expr Link Step (λ e. e.0) (λ e. e.0) (λ e. e.0) (λ e. e.0) (λ e. e.0) y

abbrev step_below : Step-F A S E L T → Step-F Access Shape Expr Link Step
step_below y = map-Step A S E L T Access Shape Expr Link Step (λ e. e.0) (λ e. e.0) (λ e. e.0) (λ e. e.0) (λ e. e.0) y

module _ (sight : InSight) where
  yields_along : (t u : Told Judged) (m n : Meant) → t ≡ u → m ≡ n → Yields sight.contract.types u n → Yields sight.contract.types t m
  yields_along t u m n is same h =
      let P : Told Judged → Type 0 = λ v. Yields sight.contract.types v m in
      let Q : Meant → Type 0 = λ k. Yields sight.contract.types u k in
      subst P (sym is) (subst Q (sym same) h)

  steps_along : (t u : Judged → Told Judged) (m n : Stepping) → t ≡ u → m ≡ n → StepYields sight.contract.types u n → StepYields sight.contract.types t m
  steps_along t u m n is same h =
      let P : (Judged → Told Judged) → Type 0 = λ v. StepYields sight.contract.types v m in
      let Q : Stepping → Type 0 = λ k. StepYields sight.contract.types u k in
      subst P (sym is) (subst Q (sym same) h)

module _ (sight : InSight) (view : View) (names : List Named) (alike : Alike sight.names names) (kinded : AreKinded sight.contract.types names) where
  abbrev w : Environment
  w = seen_with sight.contract view names

  exprs_yield : (es : List E) → every itself (map expr_fits (map (λ e. e.0) es)) ≡ true → AllYield sight.contract.types (map (part_of sight) (map (λ e. e.0) es)) (map (expr_meant w) (map (λ e. e.0) es))
  exprs_yield [] fit = tt
  exprs_yield (e ∷ es) fit =
      let t = true_and (expr_fits e.0) (every itself (map expr_fits (map (λ e. e.0) es))) fit in
      (e.1 t.0 sight view names alike kinded, exprs_yield es t.1)

  links_yield : (r : Rank) (ls : List L) → every (in_rank r) (map link_fits (map (λ e. e.0) ls)) ≡ true → AllLinks sight.contract.types r (map (link_part sight) (map (λ e. e.0) ls)) (map (link_meant w) (map (λ e. e.0) ls))
  links_yield r [] fit = tt
  links_yield r (l ∷ ls) fit =
      let t = true_and (link_fits l.0 r) (every (in_rank r) (map link_fits (map (λ e. e.0) ls))) fit in
      (l.1 r t.0 sight view names alike kinded, links_yield r ls t.1)

  steps_yield : (ss : List T) → every itself (map step_fits (map (λ e. e.0) ss)) ≡ true → AllSteps sight.contract.types (map (step_part sight) (map (λ e. e.0) ss)) (map (step_meant w) (map (λ e. e.0) ss))
  steps_yield [] fit = tt
  steps_yield (s ∷ ss) fit =
      let t = true_and (step_fits s.0) (every itself (map step_fits (map (λ e. e.0) ss))) fit in
      (s.1 t.0 sight view names alike kinded, steps_yield ss t.1)

  -- a shape, and an access, whose parts yield
  shapes : (place : ℕ) (y : Shape-F A S E L T) → shape_layer_fits (shape_fit (shape_below y)) ≡ true
      → Yields sight.contract.types (shape_from_parts sight (shape_told sight (shape_below y)) place) (shape_means w (shape_from w (shape_below y)) place)
  shapes place (Shape-F.Number n) ok = yields_number sight.contract.types n place
  shapes place (Shape-F.Bytes b) ok = yields_given sight.contract.types (Some bytes_kind) bytes_kind (text b) (bytes_has sight.contract.types b)
  shapes place (Shape-F.Truth b) ok = yields_given sight.contract.types (Some bool_kind) bool_kind (truth b) (bool_has sight.contract.types b)
  shapes place (Shape-F.Name name) ok = yields_name sight.contract.types sight names name place kinded (λ s is. alike_seen sight.names names name s alike is)
  shapes place (Shape-F.List es) ok = yields_list sight.contract.types place (map (part_of sight) (map (λ e. e.0) es)) (map (expr_meant w) (map (λ e. e.0) es)) (exprs_yield es ok)
  shapes place (Shape-F.Empty k) ok = yields_empty sight.contract.types k place
  shapes place (Shape-F.Len p) ok = yields_len sight.contract.types (part_of sight p.0) (expr_meant w p.0) place (p.1 ok sight view names alike kinded)
  shapes place (Shape-F.Sha256 p) ok = yields_sha256 sight.contract.types (part_of sight p.0) (expr_meant w p.0) place (p.1 ok sight view names alike kinded)
  shapes place (Shape-F.Concat p q) ok =
      let t = true_and (expr_fits p.0) (expr_fits q.0) ok in
      yields_concat sight.contract.types (part_of sight p.0) (part_of sight q.0) (expr_meant w p.0) (expr_meant w q.0) place (p.1 t.0 sight view names alike kinded) (q.1 t.1 sight view names alike kinded)
  shapes place (Shape-F.Called dep name) ok = yields_called sight.contract.types sight name place (is_called view dep name.bytes)
  shapes place (Shape-F.DepInt dep value) ok = yields_depint sight.contract.types sight view dep value place
  shapes place (Shape-F.Path p ss) ok =
      let t = true_and (expr_fits p.0) (every itself (map step_fits (map (λ e. e.0) ss))) ok in
      yields_path sight.contract.types (part_of sight p.0) (expr_meant w p.0) (map (step_part sight) (map (λ e. e.0) ss)) (map (step_meant w) (map (λ e. e.0) ss)) (p.1 t.0 sight view names alike kinded) (steps_yield ss t.1)
  shapes place (Shape-F.Not p) ok = yields_not sight.contract.types (part_of sight p.0) (expr_meant w p.0) place (p.1 ok sight view names alike kinded)
  shapes place (Shape-F.Negative p) ok = yields_negative sight.contract.types (part_of sight p.0) (expr_meant w p.0) place (p.1 ok sight view names alike kinded)
  shapes place (Shape-F.Compared c p q) ok =
      let t = true_and (expr_fits p.0) (expr_fits q.0) ok in
      yields_compared sight.contract.types c (part_of sight p.0) (part_of sight q.0) (expr_meant w p.0) (expr_meant w q.0) place (p.1 t.0 sight view names alike kinded) (q.1 t.1 sight view names alike kinded)
  shapes place (Shape-F.Chain r p ls) ok =
      let t = true_and (expr_fits p.0) (every (in_rank r) (map link_fits (map (λ e. e.0) ls))) ok in
      yields_chain sight.contract.types r (part_of sight p.0) (expr_meant w p.0) (map (link_part sight) (map (λ e. e.0) ls)) (map (link_meant w) (map (λ e. e.0) ls)) (p.1 t.0 sight view names alike kinded) (links_yield r ls t.1)

  accesses : (first place : ℕ) (y : Access-F A S E L T) → access_layer_fits (access_fit (access_below y)) ≡ true
      → StepYields sight.contract.types (access_from_parts sight (access_told sight (access_below y)) first) (access_means w (access_from w (access_below y)) place)
  accesses first place (Access-F.Field name) ok = yields_field sight name first place
  accesses first place (Access-F.Index p) ok = yields_index sight.contract.types (part_of sight p.0) (expr_meant w p.0) first place (p.1 ok sight view names alike kinded)

shape_step : (x : Shape-F Access Shape Expr Link Step) (y : Shape-F A S E L T) → shape_below y ≡ x → ShapeClaim (roll-Shape x)
shape_step x y is = subst (λ z. ShapeClaim (roll-Shape z)) is (λ fit place sight view names alike kinded.
    yields_along sight _ _ _ _ (ap (λ (f : Shaped). f place) (told_shape sight (shape_below y)))
    (ap (λ (f : ℕ → Meant). f place) (meant_shape (seen_with sight.contract view names) (shape_below y)))
    (shapes sight view names alike kinded place y (sym (fit_shape (shape_below y)) ∙ fit)))

access_step : (x : Access-F Access Shape Expr Link Step) (y : Access-F A S E L T) → access_below y ≡ x → AccessClaim (roll-Access x)
access_step x y is = subst (λ z. AccessClaim (roll-Access z)) is (λ fit first place sight view names alike kinded.
    steps_along sight _ _ _ _ (ap (λ (f : Stepped). f first) (told_access sight (access_below y)))
    (ap (λ (f : ℕ → Stepping). f place) (meant_access (seen_with sight.contract view names) (access_below y)))
    (accesses sight view names alike kinded first place y (sym (fit_access (access_below y)) ∙ fit)))

expr_step : (x : Expr-F Access Shape Expr Link Step) (y : Expr-F A S E L T) → expr_below y ≡ x → ExprYields (roll-Expr x)
expr_step x y is = subst (λ z. ExprYields (roll-Expr z)) is (λ fit sight view names alike kinded.
    yields_along sight _ _ _ _ (ap (λ (p : JudgedPart). p.found) (told_expr sight (expr_below y))) (meant_expr (seen_with sight.contract view names) (expr_below y))
    (y.shape.1 (sym (fit_expr (expr_below y)) ∙ fit) y.place sight view names alike kinded))

link_step : (x : Link-F Access Shape Expr Link Step) (y : Link-F A S E L T) → link_below y ≡ x → LinkClaim (roll-Link x)
link_step x y is = subst (λ z. LinkClaim (roll-Link z)) is (λ r fit sight view names alike kinded.
    let w : Environment = seen_with sight.contract view names in
    let t = true_and (is_of_rank r y.operator) (expr_fits y.right.0) (sym (ap (λ (f : LinkFits). f r) (fit_link (link_below y))) ∙ fit) in (
      yields_along sight _ _ _ _ (ap (λ (p : JudgedPart). p.found) (told_link sight (link_below y))) (ap (λ (l : Linking). l.right) (meant_link w (link_below y)))
          (y.right.1 t.1 sight view names alike kinded),
      ap (λ (l : Linking). is_of_rank r l.operator) (meant_link w (link_below y)) ∙ t.0,
    ))

step_step : (x : Step-F Access Shape Expr Link Step) (y : Step-F A S E L T) → step_below y ≡ x → StepClaim (roll-Step x)
step_step x y is = subst (λ z. StepClaim (roll-Step z)) is (λ fit sight view names alike kinded.
    steps_along sight _ _ _ _ (told_step sight (step_below y)) (meant_step (seen_with sight.contract view names) (step_below y))
    (y.access.1 (sym (fit_step (step_below y)) ∙ fit) y.first y.place sight view names alike kinded))

pub expr_yields : (e : Expr) → ExprYields e
expr_yields = ind-Expr AccessClaim ShapeClaim ExprYields LinkClaim StepClaim access_step shape_step expr_step link_step step_step
