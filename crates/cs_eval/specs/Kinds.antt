-- The kind of an expression, from the kinds of names: what a step makes of a kind.
use Rattle.std.specs.Prelude.{ℕ, List, [], ◌∷◌, Option, Some, None, Result, Ok, Err, option_and_then}
use Rattle.cs_lang_token.specs.declared.token.Text.{Text}
use Rattle.cs_lang.specs.declared.tree.ContractTree.{ContractTree}
use Rattle.cs_types_kinds.specs.declared.kind.Kind.{Kind}
use Rattle.cs_types_kinds.specs.declared.kind.Kind.TheVariants as kind
use Rattle.cs_types_kinds.specs.Told.{Told}
use Rattle.cs_types_kinds.specs.Kinds.{list_kind_of}
use Rattle.cs_types_kinds.specs.Lookups.{field_kind}
use Rattle.cs_types_kinds.specs.Judging.{comparing_cost}

abbrev pub told_kind : Told Kind → Option Kind
told_kind (Ok k) = Some k
told_kind (Err e) = None

-- the kind of a field of an object
abbrev pub kind_of_field : ContractTree → Text → Kind → Option Kind
kind_of_field contract name (kind.Object number) = told_kind (field_kind contract number name)
kind_of_field contract name k = None

-- the kind of a list, from those of its items
abbrev pub list_kind : List (Option Kind) → Option Kind
list_kind [] = None
list_kind (k ∷ ks) = option_and_then list_kind_of k

-- what it takes to compare two of a kind
abbrev pub cost_of_comparing : Option Kind → ℕ
cost_of_comparing None = 1
cost_of_comparing (Some k) = comparing_cost k
