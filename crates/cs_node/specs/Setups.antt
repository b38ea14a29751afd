-- The start of a node.
use Rattle.std.specs.Prelude.{◌≡◌, Result, Ok, Err, Option, Some, None}
use Rattle.cs_base.specs.declared.key.Key.{Key}
use Rattle.cs_node.specs.declared.nodes.StartError.{StartError}
use Rattle.cs_node.specs.declared.nodes.StartError.TheVariants.{Duplicate, Memory}

-- a start is refused exactly where a key stands twice, unless memory runs out
abbrev pub NodeStarts : {A : Type 0} → Option Key → Result A StartError → Type 0
NodeStarts {A} twice (Ok core) = twice ≡ None
NodeStarts {A} twice (Err (Duplicate key)) = twice ≡ Some key
NodeStarts {A} twice (Err Memory) = Unit {0}
