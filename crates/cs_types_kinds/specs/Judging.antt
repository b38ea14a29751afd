-- Kinds and costs of expressions, from those of their parts.
use Rattle.std.specs.Prelude.{ℕ, Bool, true, false, nat_lt, ◌&&◌, ◌||◌, List, length, Option, None, Some, Ok, if◌then◌else◌}
use Rattle.cs_lang_token.specs.declared.limits.TheConstants.{MOST_ITEMS}
use Rattle.cs_lang_token.specs.Grammar.{◌>>=◌}
use Rattle.cs_lang_token.specs.declared.token.Text.{Text}
use Rattle.cs_lang.specs.declared.tree.ValueKind.{ValueKind}
use Rattle.cs_lang.specs.declared.tree.Rank.{Rank}
use Rattle.cs_lang.specs.declared.tree.Rank.TheVariants as rank
use Rattle.cs_lang.specs.declared.tree.Comparison.{Comparison}
use Rattle.cs_lang.specs.declared.tree.Comparison.TheVariants as comparison
use Rattle.cs_types_kinds.specs.declared.kind.Kind.{Kind}
use Rattle.cs_types_kinds.specs.declared.kind.Kind.TheVariants as kind
use Rattle.cs_types_kinds.specs.declared.scope.Seen.{Seen}
use Rattle.cs_types_kinds.specs.declared.expressions.TheConstants.{HASH_COST}
use Rattle.cs_types_kinds.specs.declared.expressions.Judged.{Judged}
use Rattle.cs_types_kinds.specs.declared.expressions.Items.{Items}
use Rattle.cs_types_kinds.specs.Told.{Told, mistyped, unbound, told_through, plus}
use Rattle.cs_types_kinds.specs.Kinds.{int_kind, bool, bytes_kind, same_kind, list_kind_of, item_kind, is_list, joins, has_length, spelled_kind}
use Rattle.cs_types_kinds.specs.Scopes.{InSight, name_seen}
use Rattle.cs_types_kinds.specs.Lookups.{method_number, field_kind}

-- an expression: the place of its first token, and what is told of it
pub record JudgedPart : Type 0 where
  pub first : ℕ
  pub found : Told Judged

-- a kind, and a cost
abbrev pub judged : Kind → ℕ → Told Judged
judged k cost = Ok (record { kind = k; cost = cost })

-- the cost of an expression that has to be of this kind
abbrev pub wanted : Kind → JudgedPart → Told ℕ
wanted k part = part.found >>= λ j. if same_kind j.kind k then Ok j.cost else mistyped part.first

-- ---- leaves

abbrev pub seen_judged : ℕ → Option Seen → Told Judged
seen_judged place None = unbound place
seen_judged place (Some s) = judged s.kind 1

-- a name
abbrev pub name_judged : InSight → List ℕ → ℕ → Told Judged
name_judged sight name place = seen_judged place (name_seen name sight.names)

abbrev pub empty_of : ℕ → Option Kind → Told Judged
empty_of place None = mistyped place
empty_of place (Some k) = if is_list k then judged k 1 else mistyped place

-- the empty list of a kind
abbrev pub empty_judged : ValueKind → ℕ → Told Judged
empty_judged k place = empty_of place (spelled_kind k)

abbrev pub method_judged : ℕ → Option ℕ → Told Judged
method_judged place None = unbound place
method_judged place (Some number) = judged bool 1

-- whether a dep called a method
abbrev pub called_judged : InSight → Text → ℕ → Told Judged
called_judged sight name place =
    if sight.in_check
    then method_judged name.place (method_number name.bytes sight.contract.methods)
    else mistyped place

-- a returned value of a dep
abbrev pub depint_judged : InSight → ℕ → Told Judged
depint_judged sight place = if sight.in_check then judged int_kind 1 else mistyped place

-- ---- lists

abbrev pub or_first : ℕ → Option Kind → Told Kind
or_first first None = mistyped first
or_first first (Some k) = Ok k

-- the kind of a list, of which the first item stands there; objects are no values
abbrev pub kind_of_list : Kind → ℕ → ℕ → Told Kind
kind_of_list (kind.Value b lists) first place = or_first place (list_kind_of (kind.Value b lists))
kind_of_list k first place = mistyped first

-- the first item of a list at a place
abbrev pub first_item : ℕ → JudgedPart → Told Items
first_item place part =
    part.found >>= λ j.
    kind_of_list j.kind part.first place >>= λ k.
    Ok (record { item = j.kind; list = k; sum = j.cost })

-- an item behind others is of their kind
abbrev pub next_item : Items → JudgedPart → Told Items
next_item items part =
    wanted items.item part >>= λ cost.
    Ok (record { item = items.item; list = items.list; sum = plus items.sum cost })

abbrev pub any_item : ℕ → Option Items → JudgedPart → Told (Option Items)
any_item place None part = first_item place part >>= λ items. Ok (Some items)
any_item place (Some so_far) part = next_item so_far part >>= λ items. Ok (Some items)

abbrev pub items_of_parts : ℕ → List JudgedPart → Told (Option Items)
items_of_parts place parts = told_through (any_item place) None parts

abbrev pub items_judged : ℕ → Option Items → Told Judged
items_judged place None = mistyped place
items_judged place (Some items) = judged items.list (plus items.sum 1)

-- items of one kind, of which there is one at least
abbrev pub list_judged : List JudgedPart → ℕ → Told Judged
list_judged parts place =
    if nat_lt MOST_ITEMS (length parts)
    then mistyped place
    else items_of_parts place parts >>= items_judged place

-- ---- of one or two parts

abbrev pub len_judged : JudgedPart → Told Judged
len_judged part = part.found >>= λ j. if has_length j.kind then judged int_kind (plus j.cost 1) else mistyped part.first

abbrev pub sha256_judged : JudgedPart → Told Judged
sha256_judged part = wanted bytes_kind part >>= λ cost. judged bytes_kind (plus cost HASH_COST)

-- two that are joined, of which the first is judged and begins there
abbrev pub concat_with : Judged → ℕ → JudgedPart → Told Judged
concat_with j first back =
    if joins j.kind
    then (wanted j.kind back >>= λ cost. judged j.kind (plus (plus j.cost cost) HASH_COST))
    else mistyped first

abbrev pub concat_of : Told Judged → ℕ → JudgedPart → Told Judged
concat_of told first back = told >>= λ j. concat_with j first back

abbrev pub concat_judged : JudgedPart → JudgedPart → Told Judged
concat_judged front back = concat_of front.found front.first back

abbrev pub not_judged : JudgedPart → Told Judged
not_judged part = wanted bool part >>= λ cost. judged bool (plus cost 1)

abbrev pub negative_judged : JudgedPart → Told Judged
negative_judged part = wanted int_kind part >>= λ cost. judged int_kind (plus cost 1)

abbrev pub is_equality : Comparison → Bool
is_equality comparison.Equal = true
is_equality comparison.NotEqual = true
is_equality _ = false

-- ints are compared in any way, bools and bytes for equality
abbrev pub compares : Comparison → Kind → Bool
compares c k = same_kind k int_kind || is_equality c && (same_kind k bool || same_kind k bytes_kind)

-- bytes are compared at the price of a hash
abbrev pub comparing_cost : Kind → ℕ
comparing_cost k = if same_kind k bytes_kind then HASH_COST else 1

-- two that are compared, of which the first is judged and begins there
abbrev pub compared_with : Comparison → Judged → ℕ → JudgedPart → Told Judged
compared_with c j first right =
    if compares c j.kind
    then (wanted j.kind right >>= λ cost. judged bool (plus (plus j.cost cost) (comparing_cost j.kind)))
    else mistyped first

abbrev pub compared_of : Comparison → Told Judged → ℕ → JudgedPart → Told Judged
compared_of c told first right = told >>= λ j. compared_with c j first right

abbrev pub compared_judged : Comparison → JudgedPart → JudgedPart → Told Judged
compared_judged c left right = compared_of c left.found left.first right

-- ---- chains and paths

abbrev pub kind_of_rank : Rank → Kind
kind_of_rank rank.Or = bool
kind_of_rank rank.And = bool
kind_of_rank rank.Sum = int_kind
kind_of_rank rank.Product = int_kind

-- an operator with its right operand costs 1 more than the operand
abbrev pub link_added : Kind → ℕ → JudgedPart → Told ℕ
link_added k sum right = wanted k right >>= λ cost. Ok (plus sum (plus cost 1))

-- operators and operands behind one that costs so much
abbrev pub chained : Kind → ℕ → List JudgedPart → Told Judged
chained k start rights = told_through (link_added k) start rights >>= λ sum. judged k sum

abbrev pub chain_of : Kind → Told ℕ → List JudgedPart → Told Judged
chain_of k told rights = told >>= λ cost. chained k cost rights

abbrev pub chain_judged : Rank → JudgedPart → List JudgedPart → Told Judged
chain_judged r start rights = chain_of (kind_of_rank r) (wanted (kind_of_rank r) start) rights

-- a step from what stands before it, of which the first token stands there
abbrev pub Stepped : Type 0
Stepped = ℕ → Judged → Told Judged

abbrev pub field_of_kind : InSight → Text → Kind → ℕ → Told Kind
field_of_kind sight name (kind.Object number) first = field_kind sight.contract number name
field_of_kind sight name k first = mistyped first

-- a field of an object
abbrev pub field_judged : InSight → Text → Stepped
field_judged sight name first j = field_of_kind sight name j.kind first >>= λ k. judged k (plus j.cost 1)

-- an item of a list, or one of several objects
abbrev pub index_judged : JudgedPart → Stepped
index_judged index first j =
    or_first first (item_kind j.kind) >>= λ k. wanted int_kind index >>= λ cost. judged k (plus (plus j.cost cost) 1)

abbrev pub step_taken : Judged → (Judged → Told Judged) → Told Judged
step_taken j step = step j

abbrev pub path_of : Told Judged → List (Judged → Told Judged) → Told Judged
path_of told steps = told >>= λ j. told_through step_taken j steps

abbrev pub path_judged : JudgedPart → List (Judged → Told Judged) → Told Judged
path_judged start steps = path_of start.found steps
