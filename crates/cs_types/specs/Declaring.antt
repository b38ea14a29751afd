-- What is told of declarations: the names that they bring into sight.
use Rattle.std.specs.Prelude.{ℕ, Bool, nat_le, not, ◌&&◌, ◌||◌, List, [], ◌∷◌, ◌++◌, length, is_some, Option, None, Some, Ok, if◌then◌else◌}
use Rattle.std.specs.List.{list_any}
use Rattle.cs_lang_token.specs.declared.limits.TheConstants.{MOST_FIELDS, MOST_TYPES}
use Rattle.cs_lang_token.specs.Grammar.{◌>>=◌}
use Rattle.cs_lang.specs.declared.tree.Field.{Field}
use Rattle.cs_lang.specs.declared.tree.Slot.{Slot}
use Rattle.cs_lang.specs.declared.tree.TypeDef.{TypeDef}
use Rattle.cs_lang.specs.declared.tree.Method.{Method}
use Rattle.cs_types_kinds.specs.declared.kind.Kind.{Kind}
use Rattle.cs_types_kinds.specs.declared.kind.Kind.TheVariants as kind
use Rattle.cs_types_kinds.specs.declared.scope.Use.{Use}
use Rattle.cs_types_kinds.specs.declared.scope.Use.TheVariants as usage
use Rattle.cs_types_kinds.specs.declared.scope.Entry.{Entry}
use Rattle.cs_types_kinds.specs.Told.{Told, mistyped, unbound, told_through}
use Rattle.cs_types_kinds.specs.Scopes.{is_declared, with_name}
use Rattle.cs_types_kinds.specs.Lookups.{type_number, declared_kind, is_field}
use Rattle.cs_base.specs.Lists.{is_empty}

-- ---- types

-- so many fields at most, of distinct names
abbrev pub field_told : List Field → Field → Told (List Field)
field_told before f =
    if nat_le MOST_FIELDS (length before) || list_any (is_field f.name.bytes) before then mistyped f.name.place
    else declared_kind f.name.place f.kind >>= λ k. Ok (before ++ f ∷ [])

abbrev pub fields_told : List Field → Told (List Field)
fields_told = told_through field_told []

-- so many types at most, of distinct names
abbrev pub type_told : List TypeDef → TypeDef → Told (List TypeDef)
type_told before t =
    if nat_le MOST_TYPES (length before) || is_some (type_number t.name.bytes before) then mistyped t.name.place
    else fields_told t.fields >>= λ fields. Ok (before ++ t ∷ [])

abbrev pub types_told : List TypeDef → Told (List TypeDef)
types_told = told_through type_told []

-- ---- the names of a method

abbrev pub slot_kind : Bool → ℕ → Kind
slot_kind many number = if many then kind.Objects number else kind.Object number

abbrev pub slot_of_type : Slot → Use → List Entry → Option ℕ → Told (List Entry)
slot_of_type slot u names None = unbound slot.object.place
slot_of_type slot u names (Some number) = Ok (with_name names slot.name.bytes (slot_kind slot.many number) u)

-- a slot of a type, which repeats no name; a star stands at the last only
abbrev pub slot_told : List TypeDef → Use → Slot → Bool → List Entry → Told (List Entry)
slot_told types u slot last names =
    if is_declared slot.name.bytes names || slot.many && not last then mistyped slot.name.place
    else slot_of_type slot u names (type_number slot.object.bytes types)

abbrev pub slots_told : List TypeDef → Use → List Slot → List Entry → Told (List Entry)
slots_told types u [] names = Ok names
slots_told types u (s ∷ ss) names = slot_told types u s (is_empty ss) names >>= λ more. slots_told types u ss more

-- a field, which repeats no name
abbrev pub name_told : Use → List Entry → Field → Told (List Entry)
name_told u names f =
    if is_declared f.name.bytes names then mistyped f.name.place
    else declared_kind f.name.place f.kind >>= λ k. Ok (with_name names f.name.bytes k u)

abbrev pub names_told : Use → List Field → List Entry → Told (List Entry)
names_told u fields names = told_through (name_told u) names fields

-- a check reads what a procedure makes and sets
abbrev pub use_of_created : Bool → Use
use_of_created in_check = if in_check then usage.Read else usage.Make

abbrev pub use_of_returned : Bool → Use
use_of_returned in_check = if in_check then usage.Read else usage.Set

-- the names of a method, as its procedure or its check sees them
abbrev pub method_names : List TypeDef → Bool → Method → Told (List Entry)
method_names types in_check m =
    slots_told types usage.Read m.consumes [] >>= λ a.
    slots_told types usage.Read m.reads a >>= λ b.
    names_told usage.Read m.takes b >>= λ c.
    slots_told types (use_of_created in_check) m.creates c >>= λ d.
    names_told (use_of_returned in_check) m.returns d
