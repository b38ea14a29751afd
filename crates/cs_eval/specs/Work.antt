-- How much is left to do of an expression: each turn of the machine lowers it.
use Rattle.std.specs.Prelude.{ℕ, ◌+◌, List, [], ◌∷◌, map}
use Rattle.cs_lang.specs.declared.tree.Expr.{Expr}
use Rattle.cs_lang.specs.declared.tree.Shape.{Shape}
use Rattle.cs_lang.specs.declared.tree.Link.{Link}
use Rattle.cs_lang.specs.declared.tree.Step.{Step}
use Rattle.cs_lang.specs.declared.tree.Access.{Access}
use Rattle.cs_lang.specs.declared.tree.Access.TheOpen.{Access-F, Shape-F, Expr-F, Link-F, Step-F}
use Rattle.cs_lang.specs.declared.tree.Access.TheFolds.{fold-Access, fold-Shape, fold-Expr, fold-Link, fold-Step}
use Rattle.cs_eval.specs.declared.frame.Frame.{Frame}
use Rattle.cs_eval.specs.declared.frame.Frame.TheVariants as frame
use Rattle.cs_eval.specs.declared.frame.Next.{Next}
use Rattle.cs_eval.specs.declared.frame.Next.TheVariants as next

abbrev pub access_work : Access-F ℕ ℕ ℕ ℕ ℕ → ℕ
access_work (Access-F.Field name) = 0
access_work (Access-F.Index index) = index + 1

abbrev pub step_work : Step-F ℕ ℕ ℕ ℕ ℕ → ℕ
step_work s = s.access

abbrev pub link_work : Link-F ℕ ℕ ℕ ℕ ℕ → ℕ
link_work l = l.right + 1

abbrev pub expr_work : Expr-F ℕ ℕ ℕ ℕ ℕ → ℕ
expr_work e = e.shape

-- of parts, one after the other
abbrev pub all_work : List ℕ → ℕ
all_work [] = 1
all_work (w ∷ ws) = w + 1 + all_work ws

abbrev pub shape_work : Shape-F ℕ ℕ ℕ ℕ ℕ → ℕ
shape_work (Shape-F.List items) = all_work items + 1
shape_work (Shape-F.Len part) = part + 2
shape_work (Shape-F.Sha256 part) = part + 2
shape_work (Shape-F.Not part) = part + 2
shape_work (Shape-F.Negative part) = part + 2
shape_work (Shape-F.Concat front back) = front + back + 3
shape_work (Shape-F.Compared c left right) = left + right + 3
shape_work (Shape-F.Path start steps) = start + all_work steps + 1
shape_work (Shape-F.Chain rank start links) = start + all_work links + 1
shape_work shape = 1

unfoldable pub work : Expr → ℕ
work = fold-Expr ℕ ℕ ℕ ℕ ℕ access_work shape_work expr_work link_work step_work

unfoldable pub work_of_shape : Shape → ℕ
work_of_shape = fold-Shape ℕ ℕ ℕ ℕ ℕ access_work shape_work expr_work link_work step_work

unfoldable pub work_of_link : Link → ℕ
work_of_link = fold-Link ℕ ℕ ℕ ℕ ℕ access_work shape_work expr_work link_work step_work

unfoldable pub work_of_step : Step → ℕ
work_of_step = fold-Step ℕ ℕ ℕ ℕ ℕ access_work shape_work expr_work link_work step_work

unfoldable pub work_of_access : Access → ℕ
work_of_access = fold-Access ℕ ℕ ℕ ℕ ℕ access_work shape_work expr_work link_work step_work

abbrev pub frame_work : Frame → ℕ
frame_work (frame.Unary op place) = 1
frame_work (frame.First op right place) = work right.now + 2
frame_work (frame.Second op left place) = 1
frame_work (frame.Chain links) = all_work (map work_of_link links.now)
frame_work (frame.Path steps) = all_work (map work_of_step steps.now)
frame_work (frame.Items rest items place) = all_work (map work rest.now)

abbrev pub frames_work : List Frame → ℕ
frames_work [] = 0
frames_work (f ∷ fs) = frame_work f + frames_work fs

abbrev pub next_work : Next → ℕ
next_work (next.Eval e) = work e.now
next_work (next.Give d) = 0

abbrev pub left_work : Next → List Frame → ℕ
left_work n fs = next_work n + frames_work fs
