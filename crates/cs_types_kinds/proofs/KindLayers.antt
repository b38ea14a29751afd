-- The kinds that are spelled, one equation each.
use Rattle.std.proofs.Common.{◌≡◌, Option, Some, sym, ap, ◌∙◌}
use Rattle.std.specs.Prelude.{option_and_then}
use Rattle.cs_lang.specs.declared.tree.ValueKind.{ValueKind}
use Rattle.cs_lang.specs.declared.tree.ValueKind.TheVariants as value_kind
use Rattle.cs_lang.specs.declared.tree.ValueKind.TheVariants.{rolls-Int, rolls-Bool, rolls-Bytes, rolls-List}
use Rattle.cs_lang.specs.declared.tree.ValueKind.TheOpen.{ValueKind-F}
use Rattle.cs_lang.specs.declared.tree.ValueKind.TheFolds.{fold-ValueKind, fold-roll-ValueKind}
use Rattle.cs_types_kinds.specs.declared.kind.Kind.{Kind}
use Rattle.cs_types_kinds.specs.Kinds.{int_kind, bool, bytes_kind, list_kind_of, kind_from_parts, spelled_kind}

pub kind_int : spelled_kind value_kind.Int ≡ Some int_kind
unfolding spelled_kind
kind_int = ap (fold-ValueKind (Option Kind) kind_from_parts) (sym rolls-Int) ∙ fold-roll-ValueKind (Option Kind) kind_from_parts ValueKind-F.Int

pub kind_bool : spelled_kind value_kind.Bool ≡ Some bool
unfolding spelled_kind
kind_bool = ap (fold-ValueKind (Option Kind) kind_from_parts) (sym rolls-Bool) ∙ fold-roll-ValueKind (Option Kind) kind_from_parts ValueKind-F.Bool

pub kind_bytes : spelled_kind value_kind.Bytes ≡ Some bytes_kind
unfolding spelled_kind
kind_bytes = ap (fold-ValueKind (Option Kind) kind_from_parts) (sym rolls-Bytes) ∙ fold-roll-ValueKind (Option Kind) kind_from_parts ValueKind-F.Bytes

pub kind_list : (items : ValueKind) → spelled_kind (value_kind.List items) ≡ option_and_then list_kind_of (spelled_kind items)
unfolding spelled_kind
kind_list items = ap (fold-ValueKind (Option Kind) kind_from_parts) (sym (rolls-List items)) ∙ fold-roll-ValueKind (Option Kind) kind_from_parts (ValueKind-F.List items)

pub ruleset kinds = (kind_int, kind_bool, kind_bytes, kind_list)
