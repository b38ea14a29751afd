-- What is in sight at a place of a text.
use Rattle.std.specs.Prelude.{ℕ, Bool, true, false, not, ◌&&◌, List, [], ◌∷◌, ◌++◌, Option, None, Some, if◌then◌else◌}
use Rattle.std.specs.List.{list_any}
use Rattle.std.specs.Str.{bytes_eq}
use Rattle.cs_lang.specs.declared.tree.ContractTree.{ContractTree}
use Rattle.cs_types_kinds.specs.declared.kind.Kind.{Kind}
use Rattle.cs_types_kinds.specs.declared.scope.Use.{Use}
use Rattle.cs_types_kinds.specs.declared.scope.Use.TheVariants as usage
use Rattle.cs_types_kinds.specs.declared.scope.Seen.{Seen}
use Rattle.cs_types_kinds.specs.declared.scope.Entry.{Entry}
use Rattle.cs_types_kinds.specs.declared.scope.Costs.{Costs}

-- Where a part of a method stands.
pub record InSight : Type 0 where
  pub contract : ContractTree
  pub costs : List Costs  -- of the methods above
  pub starred : Bool  -- the method consumes or reads any number of objects
  pub in_check : Bool
  pub names : List Entry

-- above the first method
abbrev pub at_top : ContractTree → InSight
at_top contract = record { contract = contract; costs = []; starred = false; in_check = false; names = [] }

-- a created slot of a procedure is out of sight
abbrev pub in_sight : Use → Bool
in_sight usage.Make = false
in_sight _ = true

abbrev pub is_seen : List ℕ → Entry → Bool
is_seen name e = in_sight e.seen.usage && bytes_eq e.name name

abbrev pub is_created_entry : List ℕ → Entry → Bool
is_created_entry name e = not (in_sight e.seen.usage) && bytes_eq e.name name

-- what the first name that passes stands for
abbrev pub first_seen : (Entry → Bool) → List Entry → Option Seen
first_seen test [] = None
first_seen test (e ∷ es) = if test e then Some e.seen else first_seen test es

-- what a name in sight stands for
abbrev pub name_seen : List ℕ → List Entry → Option Seen
name_seen name = first_seen (is_seen name)

-- what a created slot stands for
abbrev pub created_slot : List ℕ → List Entry → Option Seen
created_slot name = first_seen (is_created_entry name)

abbrev pub is_entry_name : List ℕ → Entry → Bool
is_entry_name name e = bytes_eq e.name name

-- it is a name, in sight or not
abbrev pub is_declared : List ℕ → List Entry → Bool
is_declared name es = list_any (is_entry_name name) es

-- with one name more
abbrev pub with_name : List Entry → List ℕ → Kind → Use → List Entry
with_name names name k u = names ++ record { name = name; seen = record { kind = k; usage = u } } ∷ []

abbrev pub sight_with_names : InSight → List Entry → InSight
sight_with_names sight names =
    record {
      contract = sight.contract;
      costs = sight.costs;
      starred = sight.starred;
      in_check = sight.in_check;
      names = names;
    }

-- at the beginning of a procedure or a check
abbrev pub entered_scope : InSight → Bool → Bool → InSight
entered_scope sight starred in_check =
    record {
      contract = sight.contract;
      costs = sight.costs;
      starred = starred;
      in_check = in_check;
      names = [];
    }

-- below a method
abbrev pub below_method : InSight → Costs → InSight
below_method sight costs =
    record {
      contract = sight.contract;
      costs = sight.costs ++ costs ∷ [];
      starred = sight.starred;
      in_check = sight.in_check;
      names = sight.names;
    }
