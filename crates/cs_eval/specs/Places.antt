-- How many places the evaluation of an expression takes at most, where what is left to do of it stands on a stack.
use Rattle.std.specs.Prelude.{ℕ, ◌+◌, max, List, [], ◌∷◌}
use Rattle.cs_lang.specs.declared.tree.Expr.{Expr}
use Rattle.cs_lang.specs.declared.tree.Shape.{Shape}
use Rattle.cs_lang.specs.declared.tree.Link.{Link}
use Rattle.cs_lang.specs.declared.tree.Step.{Step}
use Rattle.cs_lang.specs.declared.tree.Access.{Access}
use Rattle.cs_lang.specs.declared.tree.Access.TheOpen.{Access-F, Shape-F, Expr-F, Link-F, Step-F}
use Rattle.cs_lang.specs.declared.tree.Access.TheFolds.{fold-Access, fold-Shape, fold-Expr, fold-Link, fold-Step}

-- parts one after the other: below each what is left of the whole waits in a place
abbrev pub in_turn : List ℕ → ℕ
in_turn [] = 0
in_turn (p ∷ ps) = max (p + 1) (in_turn ps)

-- a part in front of others
abbrev pub in_front : ℕ → List ℕ → ℕ
in_front start [] = start
in_front start (p ∷ ps) = max (start + 1) (in_turn (p ∷ ps))

-- what an index leads into waits below it
abbrev pub access_places : Access-F ℕ ℕ ℕ ℕ ℕ → ℕ
access_places (Access-F.Field name) = 0
access_places (Access-F.Index index) = index + 1

abbrev pub step_places : Step-F ℕ ℕ ℕ ℕ ℕ → ℕ
step_places s = s.access

-- the left side waits below the right one
abbrev pub link_places : Link-F ℕ ℕ ℕ ℕ ℕ → ℕ
link_places l = l.right + 1

abbrev pub expr_places : Expr-F ℕ ℕ ℕ ℕ ℕ → ℕ
expr_places e = e.shape

abbrev pub shape_places : Shape-F ℕ ℕ ℕ ℕ ℕ → ℕ
shape_places (Shape-F.List items) = in_turn items
shape_places (Shape-F.Len part) = part + 1
shape_places (Shape-F.Sha256 part) = part + 1
shape_places (Shape-F.Not part) = part + 1
shape_places (Shape-F.Negative part) = part + 1
shape_places (Shape-F.Concat front back) = max front back + 1
shape_places (Shape-F.Compared c left right) = max left right + 1
shape_places (Shape-F.Path start steps) = in_front start steps
shape_places (Shape-F.Chain rank start links) = in_front start links
shape_places shape = 0

unfoldable pub places : Expr → ℕ
places = fold-Expr ℕ ℕ ℕ ℕ ℕ access_places shape_places expr_places link_places step_places

unfoldable pub places_of_shape : Shape → ℕ
places_of_shape = fold-Shape ℕ ℕ ℕ ℕ ℕ access_places shape_places expr_places link_places step_places

unfoldable pub places_of_link : Link → ℕ
places_of_link = fold-Link ℕ ℕ ℕ ℕ ℕ access_places shape_places expr_places link_places step_places

unfoldable pub places_of_step : Step → ℕ
places_of_step = fold-Step ℕ ℕ ℕ ℕ ℕ access_places shape_places expr_places link_places step_places

unfoldable pub places_of_access : Access → ℕ
places_of_access = fold-Access ℕ ℕ ℕ ℕ ℕ access_places shape_places expr_places link_places step_places
