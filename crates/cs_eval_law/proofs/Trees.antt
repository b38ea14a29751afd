-- What is told of a part of an expression, what it means and whether it fits, each from its own parts.
use Rattle.std.proofs.Common.{◌≡◌, ℕ, Bool}
use Rattle.cs_lang.specs.declared.tree.Expr.{Expr, roll-Expr, map-Expr}
use Rattle.cs_lang.specs.declared.tree.Shape.{Shape, roll-Shape, map-Shape}
use Rattle.cs_lang.specs.declared.tree.Link.{Link, roll-Link, map-Link}
use Rattle.cs_lang.specs.declared.tree.Step.{Step, roll-Step, map-Step}
use Rattle.cs_lang.specs.declared.tree.Access.{Access, roll-Access, map-Access}
use Rattle.cs_lang.specs.declared.tree.Access.TheOpen.{Access-F, Shape-F, Expr-F, Link-F, Step-F}
use Rattle.cs_lang.specs.declared.tree.Access.TheFolds.{fold-Access, fold-roll-Access, fold-roll-Shape, fold-roll-Expr, fold-roll-Link, fold-roll-Step}
use Rattle.cs_lang.specs.Fits.{LinkFits, access_layer_fits, shape_layer_fits, expr_layer_fits, link_layer_fits, step_layer_fits, expr_fits, shape_fits, link_fits, step_fits, access_fits}
use Rattle.cs_types_kinds.specs.declared.expressions.Judged.{Judged}
use Rattle.cs_types_kinds.specs.Told.{Told}
use Rattle.cs_types_kinds.specs.Scopes.{InSight}
use Rattle.cs_types_kinds.specs.Judging.{JudgedPart, Stepped}
use Rattle.cs_types_kinds.specs.Parts.{Shaped, access_from_parts, shape_from_parts, expr_from_parts, link_from_parts, step_from_parts, part_of, shape_part, link_part, step_part}
use Rattle.cs_eval.specs.Meaning.{Environment, Meant, Linking, Stepping, access_means, shape_means, expr_means, link_means, step_means, expr_meant, shape_meant, link_meant, step_meant, access_meant}

unfoldable pub access_part : InSight → Access → Stepped
access_part sight =
    fold-Access Stepped Shaped JudgedPart JudgedPart (Judged → Told Judged) (access_from_parts sight) (shape_from_parts sight)
    (expr_from_parts sight) (link_from_parts sight) (step_from_parts sight)

module _ (sight : InSight) where
  abbrev pub shape_told : Shape-F Access Shape Expr Link Step → Shape-F Stepped Shaped JudgedPart JudgedPart (Judged → Told Judged)
  shape_told x = map-Shape Access Shape Expr Link Step Stepped Shaped JudgedPart JudgedPart (Judged → Told Judged) (access_part sight) (shape_part sight) (part_of sight) (link_part sight) (step_part sight) x

  pub told_shape : (x : Shape-F Access Shape Expr Link Step)
      → shape_part sight (roll-Shape x) ≡ shape_from_parts sight (shape_told x)
  unfolding part_of shape_part link_part step_part access_part
  told_shape x =
      fold-roll-Shape Stepped Shaped JudgedPart JudgedPart (Judged → Told Judged) (access_from_parts sight) (shape_from_parts sight) (expr_from_parts sight) (link_from_parts sight) (step_from_parts sight) x

  abbrev pub access_told : Access-F Access Shape Expr Link Step → Access-F Stepped Shaped JudgedPart JudgedPart (Judged → Told Judged)
  access_told x = map-Access Access Shape Expr Link Step Stepped Shaped JudgedPart JudgedPart (Judged → Told Judged) (access_part sight) (shape_part sight) (part_of sight) (link_part sight) (step_part sight) x

  pub told_access : (x : Access-F Access Shape Expr Link Step)
      → access_part sight (roll-Access x) ≡ access_from_parts sight (access_told x)
  unfolding part_of shape_part link_part step_part access_part
  told_access x =
      fold-roll-Access Stepped Shaped JudgedPart JudgedPart (Judged → Told Judged) (access_from_parts sight) (shape_from_parts sight) (expr_from_parts sight) (link_from_parts sight) (step_from_parts sight) x

  pub told_expr : (x : Expr-F Access Shape Expr Link Step)
      → part_of sight (roll-Expr x) ≡ expr_from_parts sight (map-Expr Access Shape Expr Link Step Stepped Shaped JudgedPart JudgedPart (Judged → Told Judged) (access_part sight) (shape_part sight) (part_of sight) (link_part sight) (step_part sight) x)
  unfolding part_of shape_part link_part step_part access_part
  told_expr x =
      fold-roll-Expr Stepped Shaped JudgedPart JudgedPart (Judged → Told Judged) (access_from_parts sight) (shape_from_parts sight) (expr_from_parts sight) (link_from_parts sight) (step_from_parts sight) x

  pub told_link : (x : Link-F Access Shape Expr Link Step)
      → link_part sight (roll-Link x) ≡ link_from_parts sight (map-Link Access Shape Expr Link Step Stepped Shaped JudgedPart JudgedPart (Judged → Told Judged) (access_part sight) (shape_part sight) (part_of sight) (link_part sight) (step_part sight) x)
  unfolding part_of shape_part link_part step_part access_part
  told_link x =
      fold-roll-Link Stepped Shaped JudgedPart JudgedPart (Judged → Told Judged) (access_from_parts sight) (shape_from_parts sight) (expr_from_parts sight) (link_from_parts sight) (step_from_parts sight) x

  pub told_step : (x : Step-F Access Shape Expr Link Step)
      → step_part sight (roll-Step x) ≡ step_from_parts sight (map-Step Access Shape Expr Link Step Stepped Shaped JudgedPart JudgedPart (Judged → Told Judged) (access_part sight) (shape_part sight) (part_of sight) (link_part sight) (step_part sight) x)
  unfolding part_of shape_part link_part step_part access_part
  told_step x =
      fold-roll-Step Stepped Shaped JudgedPart JudgedPart (Judged → Told Judged) (access_from_parts sight) (shape_from_parts sight) (expr_from_parts sight) (link_from_parts sight) (step_from_parts sight) x

module _ (sight : Environment) where
  abbrev pub shape_from : Shape-F Access Shape Expr Link Step → Shape-F (ℕ → Stepping) (ℕ → Meant) Meant Linking Stepping
  shape_from x = map-Shape Access Shape Expr Link Step (ℕ → Stepping) (ℕ → Meant) Meant Linking Stepping (access_meant sight) (shape_meant sight) (expr_meant sight) (link_meant sight) (step_meant sight) x

  pub meant_shape : (x : Shape-F Access Shape Expr Link Step)
      → shape_meant sight (roll-Shape x) ≡ shape_means sight (shape_from x)
  unfolding expr_meant shape_meant link_meant step_meant access_meant
  meant_shape x =
      fold-roll-Shape (ℕ → Stepping) (ℕ → Meant) Meant Linking Stepping (access_means sight) (shape_means sight) (expr_means sight) (link_means sight) (step_means sight) x

  abbrev pub access_from : Access-F Access Shape Expr Link Step → Access-F (ℕ → Stepping) (ℕ → Meant) Meant Linking Stepping
  access_from x = map-Access Access Shape Expr Link Step (ℕ → Stepping) (ℕ → Meant) Meant Linking Stepping (access_meant sight) (shape_meant sight) (expr_meant sight) (link_meant sight) (step_meant sight) x

  pub meant_access : (x : Access-F Access Shape Expr Link Step)
      → access_meant sight (roll-Access x) ≡ access_means sight (access_from x)
  unfolding expr_meant shape_meant link_meant step_meant access_meant
  meant_access x =
      fold-roll-Access (ℕ → Stepping) (ℕ → Meant) Meant Linking Stepping (access_means sight) (shape_means sight) (expr_means sight) (link_means sight) (step_means sight) x

  pub meant_expr : (x : Expr-F Access Shape Expr Link Step)
      → expr_meant sight (roll-Expr x) ≡ expr_means sight (map-Expr Access Shape Expr Link Step (ℕ → Stepping) (ℕ → Meant) Meant Linking Stepping (access_meant sight) (shape_meant sight) (expr_meant sight) (link_meant sight) (step_meant sight) x)
  unfolding expr_meant shape_meant link_meant step_meant access_meant
  meant_expr x =
      fold-roll-Expr (ℕ → Stepping) (ℕ → Meant) Meant Linking Stepping (access_means sight) (shape_means sight) (expr_means sight) (link_means sight) (step_means sight) x

  pub meant_link : (x : Link-F Access Shape Expr Link Step)
      → link_meant sight (roll-Link x) ≡ link_means sight (map-Link Access Shape Expr Link Step (ℕ → Stepping) (ℕ → Meant) Meant Linking Stepping (access_meant sight) (shape_meant sight) (expr_meant sight) (link_meant sight) (step_meant sight) x)
  unfolding expr_meant shape_meant link_meant step_meant access_meant
  meant_link x =
      fold-roll-Link (ℕ → Stepping) (ℕ → Meant) Meant Linking Stepping (access_means sight) (shape_means sight) (expr_means sight) (link_means sight) (step_means sight) x

  pub meant_step : (x : Step-F Access Shape Expr Link Step)
      → step_meant sight (roll-Step x) ≡ step_means sight (map-Step Access Shape Expr Link Step (ℕ → Stepping) (ℕ → Meant) Meant Linking Stepping (access_meant sight) (shape_meant sight) (expr_meant sight) (link_meant sight) (step_meant sight) x)
  unfolding expr_meant shape_meant link_meant step_meant access_meant
  meant_step x =
      fold-roll-Step (ℕ → Stepping) (ℕ → Meant) Meant Linking Stepping (access_means sight) (shape_means sight) (expr_means sight) (link_means sight) (step_means sight) x

abbrev pub shape_fit : Shape-F Access Shape Expr Link Step → Shape-F Bool Bool Bool LinkFits Bool
shape_fit x = map-Shape Access Shape Expr Link Step Bool Bool Bool LinkFits Bool access_fits shape_fits expr_fits link_fits step_fits x

pub fit_shape : (x : Shape-F Access Shape Expr Link Step)
    → shape_fits (roll-Shape x) ≡ shape_layer_fits (shape_fit x)
unfolding expr_fits shape_fits link_fits step_fits access_fits
fit_shape x = fold-roll-Shape Bool Bool Bool LinkFits Bool access_layer_fits shape_layer_fits expr_layer_fits link_layer_fits step_layer_fits x

abbrev pub access_fit : Access-F Access Shape Expr Link Step → Access-F Bool Bool Bool LinkFits Bool
access_fit x = map-Access Access Shape Expr Link Step Bool Bool Bool LinkFits Bool access_fits shape_fits expr_fits link_fits step_fits x

pub fit_access : (x : Access-F Access Shape Expr Link Step)
    → access_fits (roll-Access x) ≡ access_layer_fits (access_fit x)
unfolding expr_fits shape_fits link_fits step_fits access_fits
fit_access x = fold-roll-Access Bool Bool Bool LinkFits Bool access_layer_fits shape_layer_fits expr_layer_fits link_layer_fits step_layer_fits x

pub fit_expr : (x : Expr-F Access Shape Expr Link Step)
    → expr_fits (roll-Expr x) ≡ expr_layer_fits (map-Expr Access Shape Expr Link Step Bool Bool Bool LinkFits Bool access_fits shape_fits expr_fits link_fits step_fits x)
unfolding expr_fits shape_fits link_fits step_fits access_fits
fit_expr x = fold-roll-Expr Bool Bool Bool LinkFits Bool access_layer_fits shape_layer_fits expr_layer_fits link_layer_fits step_layer_fits x

pub fit_link : (x : Link-F Access Shape Expr Link Step)
    → link_fits (roll-Link x) ≡ link_layer_fits (map-Link Access Shape Expr Link Step Bool Bool Bool LinkFits Bool access_fits shape_fits expr_fits link_fits step_fits x)
unfolding expr_fits shape_fits link_fits step_fits access_fits
fit_link x = fold-roll-Link Bool Bool Bool LinkFits Bool access_layer_fits shape_layer_fits expr_layer_fits link_layer_fits step_layer_fits x

pub fit_step : (x : Step-F Access Shape Expr Link Step)
    → step_fits (roll-Step x) ≡ step_layer_fits (map-Step Access Shape Expr Link Step Bool Bool Bool LinkFits Bool access_fits shape_fits expr_fits link_fits step_fits x)
unfolding expr_fits shape_fits link_fits step_fits access_fits
fit_step x = fold-roll-Step Bool Bool Bool LinkFits Bool access_layer_fits shape_layer_fits expr_layer_fits link_layer_fits step_layer_fits x
