-- What contracts see of what an event has made so far.
use Rattle.std.specs.Prelude.{List}
use Rattle.cs_node.specs.declared.draft.Note.{Note}
use Rattle.cs_node.specs.declared.draft.Said.{Said}

-- what is told, and what is said to others, the oldest first
pub record Draft : Type 0 where
  pub notes : List Note
  pub said : List Said
