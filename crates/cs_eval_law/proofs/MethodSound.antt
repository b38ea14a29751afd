-- A view that fits a method fills its names with what has their kinds.
use Rattle.std.proofs.Common.{◌≡◌, ℕ, zero, suc, ◌+◌, ◌<◌, Bool, true, false, cond, Option, None, Some, List, [], ◌∷◌, take, drop, length, refl, sym, ap, ◌∙◌, subst, arith}
use Rattle.std.specs.Prelude.{slice_get, not, nat_lt, ◌&&◌}
use Rattle.std.specs.List.{list_all, position_or_len}
use Rattle.std.specs.Str.{bytes_eq}
use Rattle.std.proofs.lemmas.Slice.Eq.{bytes_eq-Decides}
use Rattle.cs_base.specs.Fields.{◌>>=◌ as ◌>?◌}
use Rattle.cs_lang_token.specs.declared.limits.TheConstants.{MOST_ITEMS}
use Rattle.cs_lang.specs.declared.tree.Field.{Field}
use Rattle.cs_lang.specs.declared.tree.Slot.{Slot}
use Rattle.cs_lang.specs.declared.tree.TypeDef.{TypeDef}
use Rattle.cs_lang.specs.declared.tree.Method.{Method}
use Rattle.cs_lang.specs.declared.tree.ContractTree.{ContractTree}
use Rattle.cs_tx_value.specs.declared.object.Object.{Object}
use Rattle.cs_tx_value.specs.declared.value.Value.{Value}
use Rattle.cs_types_kinds.specs.declared.kind.Kind.{Kind}
use Rattle.cs_types_kinds.specs.declared.kind.Kind.TheVariants as kind
use Rattle.cs_types_kinds.specs.Kinds.{spelled_kind}
use Rattle.cs_types_kinds.specs.Lookups.{is_type, type_number}
use Rattle.cs_eval_values.specs.declared.view.View.{View}
use Rattle.cs_eval_values.specs.Datums.{Datum, Plain, One, Many}
use Rattle.cs_eval_values.specs.Namings.{Named, with_named}
use Rattle.cs_eval_values.specs.Views.{type_named}
use Rattle.cs_eval_values.specs.Filling.{has_kind, fields_fit, object_fits, Filled, many_filled, one_filled, slot_filled, each_filled, all_taken, slots_filled, field_filled, fields_filled, filled}
use Rattle.cs_eval_law.proofs.Within.{some_is}
use Rattle.cs_eval_law.proofs.MethodFits.{some_bind, if_some}
use Rattle.cs_eval_law.proofs.Kinded.{IsObject, AreObjects, HasKind, true_and}
use Rattle.cs_eval_law.proofs.ExprSound.{AreKinded, value_kinded}
use Rattle.cs_eval_law.proofs.ActSound.{kinded_more}

-- ---- objects

type_at : (name : List ℕ) (types : List TypeDef) (t : TypeDef) → type_named name types ≡ Some t → slice_get types (position_or_len (is_type name) types) ≡ Some t
type_at name [] t is = absurd cc
type_at name (u ∷ us) t is = by_test (λ h. type_at name us t h) (is_type name u) is
  where
    by_test : (type_named name us ≡ Some t → slice_get us (position_or_len (is_type name) us) ≡ Some t) → (b : Bool) → cond b (Some u) (type_named name us) ≡ Some t
        → slice_get (u ∷ us) (cond (not b) (1 + position_or_len (is_type name) us) 0) ≡ Some t
    by_test behind true h = h
    by_test behind false h =
        let e : suc (position_or_len (is_type name) us) ≡ 1 + position_or_len (is_type name) us = omega arith in
        ap (λ (i : ℕ). slice_get (u ∷ us) i) (sym e) ∙ behind h

number_at : (name : List ℕ) (types : List TypeDef) (n : ℕ) → type_number name types ≡ Some n → position_or_len (is_type name) types ≡ n
number_at name types n is =
    some_is (position_or_len (is_type name) types) n
    (if_some (nat_lt (position_or_len (is_type name) types) (length types)) (Some (position_or_len (is_type name) types)) n is)

fitting_type : (o : Option TypeDef) (values : List Value) → fields_fit o values ≡ true → (t : TypeDef) × (o ≡ Some t) × (fields_fit (Some t) values ≡ true)
fitting_type None values fit = absurd cc
fitting_type (Some t) values fit = (t, refl, fit)

module _ (id : List ℕ) (types : List TypeDef) where
  object_is : (name : List ℕ) (n : ℕ) (o : Object) → type_number name types ≡ Some n → object_fits id types name o ≡ true → IsObject types n o
  object_is name n o is fit =
      let first = true_and (bytes_eq o.contract id) (bytes_eq o.type_name name && fields_fit (type_named name types) o.values) fit in
      let second = true_and (bytes_eq o.type_name name) (fields_fit (type_named name types) o.values) first.1 in
      let t = fitting_type (type_named name types) o.values second.1 in
      let named_so : o.type_name ≡ name = (bytes_eq-Decides o.type_name name).0 second.0 in (
        t.0,
        ap (λ (i : ℕ). slice_get types i) (sym (number_at name types n is)) ∙ type_at name types t.0 t.1,
        ap (λ (text : List ℕ). type_named text types) named_so ∙ t.1,
        t.2,
      )

  objects_are : (name : List ℕ) (n : ℕ) (os : List Object) → type_number name types ≡ Some n → list_all (object_fits id types name) os ≡ true → AreObjects types n os
  objects_are name n [] is all = tt
  objects_are name n (o ∷ os) is all =
      let t = true_and (object_fits id types name o) (list_all (object_fits id types name) os) all in
      (object_is name n o is t.0, objects_are name n os is t.1)

  -- ---- slots

  slot_kinded : (s : Slot) (so_far next : Filled) → AreKinded types so_far.0 → (o : Option ℕ) → type_number s.object.bytes types ≡ o
      → (o >? λ number. cond s.many (many_filled id types s number so_far) (one_filled id types s number so_far.0 so_far.1)) ≡ Some next → AreKinded types next.0
  slot_kinded s so_far next all None there is = absurd cc
  slot_kinded s so_far next all (Some number) there is = by_many s.many is
    where
      one_kinded : (os : List Object) → one_filled id types s number so_far.0 os ≡ Some next → AreKinded types next.0
      one_kinded [] is = absurd cc
      one_kinded (o ∷ os) is = one_fits (object_fits id types s.object.bytes o) refl is
        where
          one_fits : (b : Bool) → object_fits id types s.object.bytes o ≡ b → cond b (Some (with_named so_far.0 s.name.bytes (kind.Object number) (One o), os)) None ≡ Some next → AreKinded types next.0
          one_fits true fit h =
              let P : Filled → Type 0 = λ f. AreKinded types f.0 in
              subst P (some_is _ next h) (kinded_more types so_far.0 s.name.bytes (kind.Object number) (One o) all (object_is s.object.bytes number o there fit))
          one_fits false fit h = absurd cc

      many_fit : (b : Bool) → list_all (object_fits id types s.object.bytes) (take MOST_ITEMS so_far.1) ≡ b
          → cond b (Some (with_named so_far.0 s.name.bytes (kind.Objects number) (Many (take MOST_ITEMS so_far.1)), drop MOST_ITEMS so_far.1)) None ≡ Some next → AreKinded types next.0
      many_fit true fit h =
          let P : Filled → Type 0 = λ f. AreKinded types f.0 in
          subst P (some_is _ next h) (kinded_more types so_far.0 s.name.bytes (kind.Objects number) (Many (take MOST_ITEMS so_far.1)) all (objects_are s.object.bytes number (take MOST_ITEMS so_far.1) there fit))
      many_fit false fit h = absurd cc

      by_many : (many : Bool) → cond many (many_filled id types s number so_far) (one_filled id types s number so_far.0 so_far.1) ≡ Some next → AreKinded types next.0
      by_many true h = many_fit (list_all (object_fits id types s.object.bytes) (take MOST_ITEMS so_far.1)) refl h
      by_many false h = one_kinded so_far.1 h

  each_kinded : (ss : List Slot) (so_far next : Filled) → AreKinded types so_far.0 → each_filled id types ss so_far ≡ Some next → AreKinded types next.0
  each_kinded [] so_far next all is = let P : Filled → Type 0 = λ f. AreKinded types f.0 in subst P (some_is so_far next is) all
  each_kinded (s ∷ ss) so_far next all is =
      let first = some_bind (slot_filled id types so_far s) (each_filled id types ss) next is in
      each_kinded ss first.0 next (slot_kinded s so_far first.0 all (type_number s.object.bytes types) refl first.1) first.2

  taken_kinded : (f : Filled) (names : List Named) → AreKinded types f.0 → all_taken f ≡ Some names → AreKinded types names
  taken_kinded f names all is = by_left f.0 f.1 all is
    where
      by_left : (ns : List Named) (os : List Object) → AreKinded types ns → all_taken (ns, os) ≡ Some names → AreKinded types names
      by_left ns [] all is = let P : List Named → Type 0 = λ m. AreKinded types m in subst P (some_is ns names is) all
      by_left ns (o ∷ os) all is = absurd cc

  slots_kinded : (ss : List Slot) (objects : List Object) (ns names : List Named) → AreKinded types ns → slots_filled id types ss objects ns ≡ Some names → AreKinded types names
  slots_kinded ss objects ns names all is =
      let every = some_bind (each_filled id types ss (ns, objects)) all_taken names is in
      taken_kinded every.0 names (each_kinded ss (ns, objects) every.0 all every.1) every.2

-- ---- fields

module _ (types : List TypeDef) where
  field_kinded : (f : Field) (v : Value) (ns names : List Named) → AreKinded types ns → (o : Option Kind)
      → (o >? λ k. cond (has_kind (Some k) v) (Some (with_named ns f.name.bytes k (Plain v))) None) ≡ Some names → AreKinded types names
  field_kinded f v ns names all None is = absurd cc
  field_kinded f v ns names all (Some k) is = by_test (has_kind (Some k) v) refl is
    where
      by_test : (b : Bool) → has_kind (Some k) v ≡ b → cond b (Some (with_named ns f.name.bytes k (Plain v))) None ≡ Some names → AreKinded types names
      by_test true has h =
          let P : List Named → Type 0 = λ m. AreKinded types m in
          subst P (some_is (with_named ns f.name.bytes k (Plain v)) names h) (kinded_more types ns f.name.bytes k (Plain v) all (value_kinded types k v has))
      by_test false has h = absurd cc

  fields_kinded : (fs : List Field) (vs : List Value) (ns names : List Named) → AreKinded types ns → fields_filled fs vs ns ≡ Some names → AreKinded types names
  fields_kinded [] [] ns names all is = let P : List Named → Type 0 = λ m. AreKinded types m in subst P (some_is ns names is) all
  fields_kinded [] (v ∷ vs) ns names all is = absurd cc
  fields_kinded (f ∷ fs) [] ns names all is = absurd cc
  fields_kinded (f ∷ fs) (v ∷ vs) ns names all is =
      let one = some_bind (field_filled f v ns) (fields_filled fs vs) names is in
      fields_kinded fs vs one.0 names (field_kinded f v ns one.0 all (spelled_kind f.kind) one.1) one.2

pub filled_kinded : (contract : ContractTree) (m : Method) (view : View) (names : List Named) → filled contract m view ≡ Some names → AreKinded contract.types names
filled_kinded contract m view names is =
    let f1 = some_bind (slots_filled view.contract contract.types m.consumes view.inputs []) _ names is in
    let f2 = some_bind (slots_filled view.contract contract.types m.reads view.reads f1.0) _ names f1.2 in
    let f3 = some_bind (fields_filled m.takes view.params f2.0) _ names f2.2 in
    let f4 = some_bind (slots_filled view.contract contract.types m.creates view.outputs f3.0) _ names f3.2 in
    fields_kinded contract.types m.returns view.returns f4.0 names
    (slots_kinded view.contract contract.types m.creates view.outputs f3.0 f4.0
    (fields_kinded contract.types m.takes view.params f2.0 f3.0
    (slots_kinded view.contract contract.types m.reads view.reads f1.0 f2.0
    (slots_kinded view.contract contract.types m.consumes view.inputs [] f1.0 tt f1.1) f2.1) f3.1) f4.1)
    f4.2
