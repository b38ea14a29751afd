-- Kinds of values.
use Rattle.std.specs.Prelude.{◌+◌, ◌-◌, Bool, true, false, nat_lt, ◌==◌, ◌&&◌, ◌||◌, Option, None, Some, option_and_then, if◌then◌else◌}
use Rattle.cs_lang_token.specs.declared.limits.TheConstants.{MOST_LISTS}
use Rattle.cs_lang.specs.declared.tree.ValueKind.{ValueKind}
use Rattle.cs_lang.specs.declared.tree.ValueKind.TheOpen.{ValueKind-F}
use Rattle.cs_lang.specs.declared.tree.ValueKind.TheFolds.{fold-ValueKind}
use Rattle.cs_types_kinds.specs.declared.kind.Base.{Base}
use Rattle.cs_types_kinds.specs.declared.kind.Base.TheVariants as base
use Rattle.cs_types_kinds.specs.declared.kind.Kind.{Kind}
use Rattle.cs_types_kinds.specs.declared.kind.Kind.TheVariants as kind

abbrev pub int_kind : Kind
int_kind = kind.Value base.Int 0

abbrev pub bool : Kind
bool = kind.Value base.Bool 0

abbrev pub bytes_kind : Kind
bytes_kind = kind.Value base.Bytes 0

abbrev pub same_base : Base → Base → Bool
same_base base.Int base.Int = true
same_base base.Bool base.Bool = true
same_base base.Bytes base.Bytes = true
same_base _ _ = false

abbrev pub same_kind : Kind → Kind → Bool
same_kind (kind.Value b n) (kind.Value d m) = same_base b d && n == m
same_kind (kind.Object n) (kind.Object m) = n == m
same_kind (kind.Objects n) (kind.Objects m) = n == m
same_kind _ _ = false

-- a list of such values, where lists nest no deeper than they may; objects are no values
abbrev pub list_kind_of : Kind → Option Kind
list_kind_of (kind.Value b lists) = if nat_lt lists MOST_LISTS then Some (kind.Value b (lists + 1)) else None
list_kind_of _ = None

-- an item of a list, or one of several objects
abbrev pub item_kind : Kind → Option Kind
item_kind (kind.Value b lists) = if nat_lt 0 lists then Some (kind.Value b (lists - 1)) else None
item_kind (kind.Objects n) = Some (kind.Object n)
item_kind (kind.Object n) = None

abbrev pub is_list : Kind → Bool
is_list (kind.Value b lists) = nat_lt 0 lists
is_list _ = false

-- bytes and lists can be joined
abbrev pub joins : Kind → Bool
joins (kind.Value b lists) = same_base b base.Bytes || nat_lt 0 lists
joins _ = false

abbrev pub has_length : Kind → Bool
has_length (kind.Objects n) = true
has_length k = joins k

abbrev pub kind_from_parts : ValueKind-F (Option Kind) → Option Kind
kind_from_parts ValueKind-F.Int = Some int_kind
kind_from_parts ValueKind-F.Bool = Some bool
kind_from_parts ValueKind-F.Bytes = Some bytes_kind
kind_from_parts (ValueKind-F.List items) = option_and_then list_kind_of items

-- the kind that is spelled, or none where it nests too many lists
unfoldable pub spelled_kind : ValueKind → Option Kind
spelled_kind = fold-ValueKind (Option Kind) kind_from_parts
