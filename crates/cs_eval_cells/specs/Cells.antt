-- How many cells the values take at most that the evaluation of an expression makes. A cell holds an int, a bool, an item
-- of a list, or where bytes or a list stand; 16 bytes that were computed; or how many bytes or items there are. What is
-- put into a list is there already.
use Rattle.std.specs.Prelude.{ℕ, ◌+◌, List, [], ◌∷◌}
use Rattle.cs_lang.specs.declared.tree.Expr.{Expr}
use Rattle.cs_lang.specs.declared.tree.Shape.{Shape}
use Rattle.cs_lang.specs.declared.tree.Link.{Link}
use Rattle.cs_lang.specs.declared.tree.Step.{Step}
use Rattle.cs_lang.specs.declared.tree.Access.{Access}
use Rattle.cs_lang.specs.declared.tree.Access.TheOpen.{Access-F, Shape-F, Expr-F, Link-F, Step-F}
use Rattle.cs_lang.specs.declared.tree.Access.TheFolds.{fold-Access, fold-Shape, fold-Expr, fold-Link, fold-Step}

abbrev pub together : List ℕ → ℕ
together [] = 0
together (n ∷ ns) = n + together ns

abbrev pub access_cells : Access-F ℕ ℕ ℕ ℕ ℕ → ℕ
access_cells (Access-F.Field name) = 0
access_cells (Access-F.Index index) = index

abbrev pub step_cells : Step-F ℕ ℕ ℕ ℕ ℕ → ℕ
step_cells s = s.access

abbrev pub link_cells : Link-F ℕ ℕ ℕ ℕ ℕ → ℕ
link_cells l = l.right

abbrev pub expr_cells : Expr-F ℕ ℕ ℕ ℕ ℕ → ℕ
expr_cells e = e.shape

-- joined there are at most 64 items, or 256 bytes
abbrev pub shape_cells : Shape-F ℕ ℕ ℕ ℕ ℕ → ℕ
shape_cells (Shape-F.List items) = together items + 2
shape_cells (Shape-F.Empty k) = 2
shape_cells (Shape-F.Len part) = part
shape_cells (Shape-F.Sha256 part) = part + 4
shape_cells (Shape-F.Not part) = part
shape_cells (Shape-F.Negative part) = part
shape_cells (Shape-F.Concat front back) = front + back + 66
shape_cells (Shape-F.Compared c left right) = left + right
shape_cells (Shape-F.Path start steps) = start + together steps
shape_cells (Shape-F.Chain rank start links) = start + together links
shape_cells shape = 1

unfoldable pub cells : Expr → ℕ
cells = fold-Expr ℕ ℕ ℕ ℕ ℕ access_cells shape_cells expr_cells link_cells step_cells

unfoldable pub cells_of_shape : Shape → ℕ
cells_of_shape = fold-Shape ℕ ℕ ℕ ℕ ℕ access_cells shape_cells expr_cells link_cells step_cells

unfoldable pub cells_of_link : Link → ℕ
cells_of_link = fold-Link ℕ ℕ ℕ ℕ ℕ access_cells shape_cells expr_cells link_cells step_cells

unfoldable pub cells_of_step : Step → ℕ
cells_of_step = fold-Step ℕ ℕ ℕ ℕ ℕ access_cells shape_cells expr_cells link_cells step_cells

unfoldable pub cells_of_access : Access → ℕ
cells_of_access = fold-Access ℕ ℕ ℕ ℕ ℕ access_cells shape_cells expr_cells link_cells step_cells
