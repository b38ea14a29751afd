-- Looking up what a contract declares.
use Rattle.std.specs.Prelude.{ℕ, Bool, List, [], ◌∷◌, position, slice_get, Option, None, Some, Ok, if◌then◌else◌}
use Rattle.std.specs.Str.{bytes_eq}
use Rattle.cs_lang_token.specs.declared.token.Text.{Text}
use Rattle.cs_lang.specs.declared.tree.ContractTree.{ContractTree}
use Rattle.cs_lang.specs.declared.tree.TypeDef.{TypeDef}
use Rattle.cs_lang.specs.declared.tree.Method.{Method}
use Rattle.cs_lang.specs.declared.tree.Field.{Field}
use Rattle.cs_lang.specs.declared.tree.ValueKind.{ValueKind}
use Rattle.cs_types_kinds.specs.declared.kind.Kind.{Kind}
use Rattle.cs_types_kinds.specs.Kinds.{spelled_kind}
use Rattle.cs_types_kinds.specs.Told.{Told, mistyped, unbound}

abbrev pub is_type : List ℕ → TypeDef → Bool
is_type name t = bytes_eq t.name.bytes name

abbrev pub is_method : List ℕ → Method → Bool
is_method name m = bytes_eq m.name.bytes name

abbrev pub is_field : List ℕ → Field → Bool
is_field name f = bytes_eq f.name.bytes name

-- the number of the type of this name
abbrev pub type_number : List ℕ → List TypeDef → Option ℕ
type_number name types = position (is_type name) types

-- the number of the method of this name
abbrev pub method_number : List ℕ → List Method → Option ℕ
method_number name methods = position (is_method name) methods

abbrev pub or_mistyped : ℕ → Option Kind → Told Kind
or_mistyped place None = mistyped place
or_mistyped place (Some k) = Ok k

-- the kind that is declared at a place
abbrev pub declared_kind : ℕ → ValueKind → Told Kind
declared_kind place k = or_mistyped place (spelled_kind k)

abbrev pub is_named_field : Text → Field → Bool
is_named_field name f = bytes_eq f.name.bytes name.bytes

-- the kind of the field of this name
abbrev pub named_field : Text → List Field → Told Kind
named_field name [] = unbound name.place
named_field name (f ∷ fs) = if is_named_field name f then declared_kind name.place f.kind else named_field name fs

abbrev pub field_kind_in : Text → Option TypeDef → Told Kind
field_kind_in name None = unbound name.place
field_kind_in name (Some t) = named_field name t.fields

-- the kind of a field of the type with this number
abbrev pub field_kind : ContractTree → ℕ → Text → Told Kind
field_kind contract number name = field_kind_in name (slice_get contract.types number)
