-- What is told of statements, from what is told of their parts: the cost, and the names in sight behind them.
use Rattle.std.specs.Prelude.{ℕ, ◌*◌, min, max, Bool, true, false, nat_lt, ◌==◌, ◌&&◌, ◌||◌, List, [], ◌∷◌, ◌++◌, length, slice_get, is_some, Option, None, Some, Ok, if◌then◌else◌}
use Rattle.std.specs.List.{list_any}
use Rattle.std.specs.Str.{bytes_eq}
use Rattle.cs_lang_token.specs.declared.limits.TheConstants.{LIST_TURNS, MOST_TURNS}
use Rattle.cs_lang_token.specs.Grammar.{◌>>=◌}
use Rattle.cs_lang_token.specs.declared.token.Text.{Text}
use Rattle.cs_lang.specs.declared.tree.Field.{Field}
use Rattle.cs_lang.specs.declared.tree.Slot.{Slot}
use Rattle.cs_lang.specs.declared.tree.TypeDef.{TypeDef}
use Rattle.cs_lang.specs.declared.tree.Method.{Method}
use Rattle.cs_types_kinds.specs.declared.kind.Kind.{Kind}
use Rattle.cs_types_kinds.specs.declared.kind.Kind.TheVariants as kind
use Rattle.cs_types_kinds.specs.declared.scope.Use.{Use}
use Rattle.cs_types_kinds.specs.declared.scope.Use.TheVariants as usage
use Rattle.cs_types_kinds.specs.declared.scope.Seen.{Seen}
use Rattle.cs_types_kinds.specs.declared.scope.Entry.{Entry}
use Rattle.cs_types_kinds.specs.declared.scope.Costs.{Costs}
use Rattle.cs_types_kinds.specs.declared.expressions.Judged.{Judged}
use Rattle.cs_types_kinds.specs.Told.{Told, mistyped, unbound, told_through, plus}
use Rattle.cs_types_kinds.specs.Kinds.{int_kind, bool, same_kind, item_kind}
use Rattle.cs_types_kinds.specs.Scopes.{InSight, name_seen, created_slot, with_name, sight_with_names}
use Rattle.cs_types_kinds.specs.Lookups.{type_number, method_number, declared_kind}
use Rattle.cs_types_kinds.specs.Judging.{JudgedPart, wanted, or_first}

-- a cost, and the names in sight behind it
abbrev pub Added : Type 0
Added = ℕ × List Entry

-- what is told of a block where it stands
abbrev pub Blocked : Type 0
Blocked = InSight → Told ℕ

-- what is told of a statement where it stands
abbrev pub Stated : Type 0
Stated = InSight → Told Added

-- ---- blocks

-- the cost so far, and what is in sight
abbrev pub SoFar : Type 0
SoFar = ℕ × InSight

abbrev pub statement_added : SoFar → Stated → Told SoFar
statement_added so_far one = one so_far.1 >>= λ d. Ok (plus so_far.0 d.0, sight_with_names so_far.1 d.1)

-- a block costs what its statements cost together; its names end with it
abbrev pub block_judged : List Stated → Blocked
block_judged statements sight = told_through statement_added (0, sight) statements >>= λ d. Ok d.0

-- so many turns, which cost 1 each beside what is done in them
abbrev pub turns : ℕ → ℕ → ℕ
turns count cost = min (count * plus cost 1) 18446744073709551615

-- a turn, with a name that can't be set
abbrev pub turn_judged : Text → Kind → Blocked → Blocked
turn_judged name k each sight = each (sight_with_names sight (with_name sight.names name.bytes k usage.Read))

-- ---- names and values

abbrev pub is_taken : InSight → Text → Bool
is_taken sight name = is_some (name_seen name.bytes sight.names)

abbrev pub is_value : Kind → Bool
is_value (kind.Value b lists) = true
is_value _ = false

-- a name for a value, which can be set; it repeats no name in sight
abbrev pub let_judged : Text → (InSight → JudgedPart) → Stated
let_judged name value sight =
    if is_taken sight name then mistyped name.place
    else (value sight).found >>= λ j.
    if is_value j.kind
    then Ok (j.cost, with_name sight.names name.bytes j.kind usage.Set)
    else mistyped (value sight).first

abbrev pub can_be_set : Use → Bool
can_be_set usage.Set = true
can_be_set _ = false

abbrev pub set_seen : Option Seen → Text → JudgedPart → Told ℕ
set_seen None name value = unbound name.place
set_seen (Some s) name value = if can_be_set s.usage then wanted s.kind value else mistyped name.place

-- a new value of the same kind
abbrev pub set_judged : Text → (InSight → JudgedPart) → Stated
set_judged name value sight =
    set_seen (name_seen name.bytes sight.names) name (value sight) >>= λ cost. Ok (cost, sight.names)

-- ---- blocks in statements

-- a block behind a condition, of which the cost is told
abbrev pub if_told : Told ℕ → Blocked → Stated
if_told told block sight = told >>= λ cost. block sight >>= λ d. Ok (plus cost d, sight.names)

abbrev pub if_judged : (InSight → JudgedPart) → Blocked → Stated
if_judged condition block sight = if_told (wanted bool (condition sight)) block sight

-- the dearer of two blocks counts
abbrev pub if_else_judged : (InSight → JudgedPart) → Blocked → Blocked → Stated
if_else_judged condition block other sight =
    wanted bool (condition sight) >>= λ cost.
    block sight >>= λ d.
    other sight >>= λ e.
    Ok (plus cost (max d e), sight.names)

-- a loop over a list that is judged and begins there; it is counted with as many items as it may have
abbrev pub for_in_told : Text → Told Judged → ℕ → Blocked → Stated
for_in_told name told first each sight =
    if is_taken sight name then mistyped name.place
    else told >>= λ j.
    or_first first (item_kind j.kind) >>= λ k.
    turn_judged name k each sight >>= λ d.
    Ok (plus j.cost (turns LIST_TURNS d), sight.names)

abbrev pub for_in_judged : Text → (InSight → JudgedPart) → Blocked → Stated
for_in_judged name list each sight = for_in_told name (list sight).found (list sight).first each sight

-- so many turns at most
abbrev pub for_to_judged : Text → ℕ → Blocked → ℕ → Stated
for_to_judged name count each place sight =
    if nat_lt MOST_TURNS count then mistyped place
    else if is_taken sight name then mistyped name.place
    else turn_judged name int_kind each sight >>= λ d. Ok (turns count d, sight.names)

-- ---- objects

-- the sum with the cost of a value that has to be of a field's kind
abbrev pub field_wanted : Field → JudgedPart → ℕ → Told ℕ
field_wanted f v sum = declared_kind f.name.place f.kind >>= λ k. wanted k v >>= λ cost. Ok (plus sum cost)

-- the sum of the costs of values that have to be of the kinds of fields
abbrev pub fields_wanted : List Field → List JudgedPart → ℕ → Told ℕ
fields_wanted [] values sum = Ok sum
fields_wanted (f ∷ fs) [] sum = Ok sum
fields_wanted (f ∷ fs) (v ∷ vs) sum = field_wanted f v sum >>= λ more. fields_wanted fs vs more

-- a type with its number
abbrev pub Numbered : Type 0
Numbered = ℕ × TypeDef

abbrev pub numbered_type : ℕ → Option TypeDef → Option Numbered
numbered_type number None = None
numbered_type number (Some t) = Some (number, t)

abbrev pub numbered_at : Option ℕ → List TypeDef → Option Numbered
numbered_at None types = None
numbered_at (Some number) types = numbered_type number (slice_get types number)

-- the type of this name
abbrev pub named_type : List ℕ → List TypeDef → Option Numbered
named_type name types = numbered_at (type_number name types) types

abbrev pub takes_object : Kind → ℕ → Bool
takes_object k number = same_kind k (kind.Object number) || same_kind k (kind.Objects number)

abbrev pub not_created : InSight → Text → Told ℕ
not_created sight slot = if is_taken sight slot then mistyped slot.place else unbound slot.place

-- an object of a type that isn't declared, in a slot
abbrev pub unknown_in : Option Seen → Text → Text → InSight → Told ℕ
unknown_in None slot object sight = not_created sight slot
unknown_in (Some s) slot object sight = unbound object.place

-- an object of a declared type, in a slot
abbrev pub known_object : Option Seen → Numbered → Text → Text → List JudgedPart → InSight → Told ℕ
known_object None t slot object values sight = not_created sight slot
known_object (Some s) t slot object values sight =
    if takes_object s.kind t.0 then fields_wanted t.1.fields values 0 else mistyped object.place

-- the number of fields is tested first, then the slot, the type and the values
abbrev pub make_told : Option Numbered → Text → Text → List JudgedPart → ℕ → InSight → Told ℕ
make_told None slot object values place sight = unknown_in (created_slot slot.bytes sight.names) slot object sight
make_told (Some t) slot object values place sight =
    if length t.1.fields == length values
    then known_object (created_slot slot.bytes sight.names) t slot object values sight
    else mistyped place

-- a new object in a created slot, in a procedure
abbrev pub make_judged : Text → Text → (InSight → List JudgedPart) → ℕ → Stated
make_judged slot object values place sight =
    if sight.in_check then mistyped place
    else make_told (named_type object.bytes sight.contract.types) slot object (values sight) place sight >>= λ cost.
    Ok (cost, sight.names)

-- ---- calls

-- a method, and what its procedure costs
abbrev pub PricedCallee : Type 0
PricedCallee = Method × ℕ

abbrev pub procedure_cost : Option Costs → Option ℕ
procedure_cost None = None
procedure_cost (Some c) = Some c.procedure

abbrev pub with_cost : Method → Option ℕ → Option PricedCallee
with_cost m None = None
with_cost m (Some cost) = Some (m, cost)

abbrev pub callee : Option Method → Option ℕ → Option PricedCallee
callee None cost = None
callee (Some m) cost = with_cost m cost

abbrev pub callee_at : Option ℕ → List Method → List Costs → Option PricedCallee
callee_at None methods costs = None
callee_at (Some number) methods costs = callee (slice_get methods number) (procedure_cost (slice_get costs number))

-- the method of this name, where it stands above
abbrev pub callee_of : InSight → Text → Option PricedCallee
callee_of sight name = callee_at (method_number name.bytes sight.contract.methods) sight.contract.methods sight.costs

abbrev pub is_starred : Slot → Bool
is_starred slot = slot.many

-- it consumes or reads any number of objects
abbrev pub takes_many : Method → Bool
takes_many m = list_any is_starred m.consumes || list_any is_starred m.reads

abbrev pub is_text : Text → Text → Bool
is_text name other = bytes_eq other.bytes name.bytes

-- the name repeats none that is in sight or stands before it
abbrev pub fresh : InSight → List Text → Text → Told (List Text)
fresh sight before name =
    if is_taken sight name || list_any (is_text name) before then mistyped name.place else Ok (before ++ name ∷ [])

abbrev pub all_fresh : InSight → List Text → Told (List Text)
all_fresh sight = told_through (fresh sight) []

-- a name that is bound to what a method returns, which can't be set
abbrev pub one_bound : Text → Field → List Entry → Told (List Entry)
one_bound n f names = declared_kind f.name.place f.kind >>= λ k. Ok (with_name names n.bytes k usage.Read)

-- the names that are bound to what a method returns
abbrev pub bound : List Text → List Field → List Entry → Told (List Entry)
bound [] fields names = Ok names
bound (n ∷ ns) [] names = Ok names
bound (n ∷ ns) (f ∷ fs) names = one_bound n f names >>= λ more. bound ns fs more

-- a call of a method that doesn't stand above
abbrev pub call_unknown : List Text → Text → Stated
call_unknown names method sight = all_fresh sight names >>= λ _. unbound method.place

abbrev pub call_known : PricedCallee → List Text → Text → List JudgedPart → Stated
call_known c names method arguments sight =
    if takes_many c.0 then mistyped method.place
    else fields_wanted c.0.takes arguments c.1 >>= λ cost.
    bound names c.0.returns sight.names >>= λ more.
    Ok (cost, more)

abbrev pub has_counts : ℕ → ℕ → Method → Bool
has_counts arguments names m = length m.takes == arguments && length m.returns == names

-- the numbers of arguments and names are tested first, then the names, the method and the arguments
abbrev pub call_told : Option PricedCallee → List Text → Text → List JudgedPart → ℕ → Stated
call_told None names method arguments place sight = call_unknown names method sight
call_told (Some c) names method arguments place sight =
    if has_counts (length arguments) (length names) c.0
    then (all_fresh sight names >>= λ _. call_known c names method arguments sight)
    else mistyped place

-- a call of a method above, in a procedure; neither takes any number of objects
abbrev pub call_judged : List Text → Text → (InSight → List JudgedPart) → ℕ → Stated
call_judged names method arguments place sight =
    if sight.in_check || sight.starred then mistyped place
    else call_told (callee_of sight method) names method (arguments sight) place sight

-- ---- answers

-- the answer of a check
abbrev pub answer_judged : (InSight → JudgedPart) → ℕ → Stated
answer_judged value place sight =
    if sight.in_check then (wanted bool (value sight) >>= λ cost. Ok (cost, sight.names)) else mistyped place

-- a statement costs 1 more than its parts
abbrev pub stated : Told Added → Told Added
stated told = told >>= λ d. Ok (plus d.0 1, d.1)
