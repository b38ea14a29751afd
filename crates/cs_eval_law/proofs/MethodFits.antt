-- A view that fits a method fills the names that are in sight of its check; and what an accepted contract tells of a method.
use Rattle.std.proofs.Common.{◌≡◌, ℕ, zero, suc, ◌+◌, ◌≤◌, Bool, true, false, cond, Option, None, Some, Result, Ok, Err, List, [], ◌∷◌, ◌++◌, take, drop, length, refl, sym, ap, ◌∙◌, subst, arith, append_assoc, length-append}
use Rattle.std.specs.Prelude.{slice_get, unwrap_or, nat_lt, nat_le, is_some, ◌||◌, ◌&&◌, not}
use Rattle.std.specs.List.{list_all}
use Rattle.std.proofs.lemmas.Bool.Decides.{nat_tests}
use Rattle.cs_base.specs.Lists.{is_empty}
use Rattle.cs_base.specs.Fields.{◌>>=◌ as ◌>?◌}
use Rattle.cs_lang_token.specs.declared.limits.TheConstants.{MOST_ITEMS, MOST_COST, MOST_METHODS}
use Rattle.cs_lang_token.specs.Grammar.{◌>>=◌ as ◌>>-◌}
use Rattle.cs_lang.specs.declared.tree.Field.{Field}
use Rattle.cs_lang.specs.declared.tree.Slot.{Slot}
use Rattle.cs_lang.specs.declared.tree.TypeDef.{TypeDef}
use Rattle.cs_lang.specs.declared.tree.Method.{Method}
use Rattle.cs_lang.specs.declared.tree.ContractTree.{ContractTree}
use Rattle.cs_tx_value.specs.declared.object.Object.{Object}
use Rattle.cs_tx_value.specs.declared.value.Value.{Value}
use Rattle.cs_types_kinds.specs.declared.fault.TypeError.{TypeError}
use Rattle.cs_types_kinds.specs.declared.kind.Kind.{Kind}
use Rattle.cs_types_kinds.specs.declared.kind.Kind.TheVariants as kind
use Rattle.cs_types_kinds.specs.declared.scope.Use.{Use}
use Rattle.cs_types_kinds.specs.declared.scope.Use.TheVariants as usage
use Rattle.cs_types_kinds.specs.declared.scope.Entry.{Entry}
use Rattle.cs_types_kinds.specs.declared.scope.Costs.{Costs as Priced}
use Rattle.cs_types_kinds.specs.Told.{Told, mistyped, unbound, told_through as told_through}
use Rattle.cs_types_kinds.specs.Kinds.{spelled_kind}
use Rattle.cs_types_kinds.specs.Scopes.{in_sight, is_declared, with_name}
use Rattle.cs_types_kinds.specs.Lookups.{type_number, method_number, or_mistyped}
use Rattle.cs_types.specs.Declaring.{slot_kind, slot_of_type, slot_told, slots_told, name_told, names_told, method_names, types_told}
use Rattle.cs_types.specs.Accepted.{body_told, method_costs, method_told, methods_told, judged_costs, first_dear, or_dear, Accepted, IsAccepted}
use Rattle.cs_eval_values.specs.declared.view.View.{View}
use Rattle.cs_eval_values.specs.Datums.{Datum, Plain, One, Many}
use Rattle.cs_eval_values.specs.Namings.{Named, with_named}
use Rattle.cs_eval_values.specs.Filling.{has_kind, object_fits, Filled, many_filled, one_filled, slot_filled, each_filled, all_taken, slots_filled, field_filled, fields_filled, filled}
use Rattle.cs_eval_law.proofs.Within.{ok_is, some_is}
use Rattle.cs_eval_law.proofs.ExprFits.{told_bind}
use Rattle.cs_eval_law.proofs.Alike.{Alike, alike_more}

pub some_bind : {A B : Type 0} (o : Option A) (f : A → Option B) (b : B) → (o >? f) ≡ Some b → (a : A) × (o ≡ Some a) × (f a ≡ Some b)
some_bind (Some a) f b is = (a, refl, is)
some_bind None f b is = absurd cc

pub if_some : {A : Type 0} (b : Bool) (o : Option A) (x : A) → cond b o None ≡ Some x → o ≡ Some x
if_some true o x is = is
if_some false o x is = absurd cc

unless_is : {X : Type 0} (b : Bool) (place : ℕ) (t : Told X) (x : X) → cond b (mistyped place) t ≡ Ok x → t ≡ Ok x
unless_is true place t x is = absurd cc
unless_is false place t x is = is

-- ---- slots

module _ (contract : List ℕ) (types : List TypeDef) (u : Use) (can : in_sight u ≡ true) where
  slot_alike : (s : Slot) (es more : List Entry) (so_far next : Filled) → Alike es so_far.0
      → (o : Option ℕ) → slot_of_type s u es o ≡ Ok more
      → (o >? λ number. cond s.many (many_filled contract types s number so_far) (one_filled contract types s number so_far.0 so_far.1)) ≡ Some next
      → Alike more next.0
  slot_alike s es more so_far next a None told is = absurd cc
  slot_alike s es more so_far next a (Some number) told is =
      let P : List Entry → Type 0 = λ e. Alike e next.0 in
      subst P (ok_is (with_name es s.name.bytes (slot_kind s.many number) u) more (Ok (with_name es s.name.bytes (slot_kind s.many number) u)) refl told)
      (by_many s.many is)
    where
      one_alike : (os : List Object) → one_filled contract types s number so_far.0 os ≡ Some next → Alike (with_name es s.name.bytes (kind.Object number) u) next.0
      one_alike [] is = absurd cc
      one_alike (o ∷ os) is =
          let P : Filled → Type 0 = λ f. Alike (with_name es s.name.bytes (kind.Object number) u) f.0 in
          subst P (some_is _ next (if_some (object_fits contract types s.object.bytes o) _ next is)) (alike_more es so_far.0 s.name.bytes (kind.Object number) u (One o) can a)

      by_many : (many : Bool) → cond many (many_filled contract types s number so_far) (one_filled contract types s number so_far.0 so_far.1) ≡ Some next
          → Alike (with_name es s.name.bytes (slot_kind many number) u) next.0
      by_many true is =
          let P : Filled → Type 0 = λ f. Alike (with_name es s.name.bytes (kind.Objects number) u) f.0 in
          subst P (some_is _ next (if_some (list_all (object_fits contract types s.object.bytes) (take MOST_ITEMS so_far.1)) _ next is))
          (alike_more es so_far.0 s.name.bytes (kind.Objects number) u (Many (take MOST_ITEMS so_far.1)) can a)
      by_many false is = one_alike so_far.1 is

  each_alike : (ss : List Slot) (es more : List Entry) (so_far next : Filled) → Alike es so_far.0 → slots_told types u ss es ≡ Ok more
      → each_filled contract types ss so_far ≡ Some next → Alike more next.0
  each_alike [] es more so_far next a told is =
      let P : List Entry → Type 0 = λ e. Alike e next.0 in
      let Q : Filled → Type 0 = λ f. Alike es f.0 in
      subst P (ok_is es more (Ok es) refl told) (subst Q (some_is so_far next is) a)
  each_alike (s ∷ ss) es more so_far next a told is =
      let first = told_bind (slot_told types u s (is_empty ss) es) (λ names. slots_told types u ss names) more told in
      let filled_one = some_bind (slot_filled contract types so_far s) (each_filled contract types ss) next is in
      each_alike ss first.0 more filled_one.0 next
      (slot_alike s es first.0 so_far filled_one.0 a (type_number s.object.bytes types)
      (unless_is (is_declared s.name.bytes es || s.many && not (is_empty ss)) s.name.place (slot_of_type s u es (type_number s.object.bytes types)) first.0 first.1) filled_one.1)
      first.2 filled_one.2

  taken_names : (f : Filled) (names : List Named) → all_taken f ≡ Some names → f.0 ≡ names
  taken_names f names is = by_left f.0 f.1 is
    where
      by_left : (ns : List Named) (os : List Object) → all_taken (ns, os) ≡ Some names → ns ≡ names
      by_left ns [] is = some_is ns names is
      by_left ns (o ∷ os) is = absurd cc

  pub slots_alike : (ss : List Slot) (es more : List Entry) (objects : List Object) (ns names : List Named) → Alike es ns → slots_told types u ss es ≡ Ok more
      → slots_filled contract types ss objects ns ≡ Some names → Alike more names
  slots_alike ss es more objects ns names a told is =
      let all = some_bind (each_filled contract types ss (ns, objects)) all_taken names is in
      let P : List Named → Type 0 = λ m. Alike more m in
      subst P (taken_names all.0 names all.2) (each_alike ss es more (ns, objects) all.0 a told all.1)

-- ---- fields

module _ (u : Use) (can : in_sight u ≡ true) where
  field_alike : (f : Field) (v : Value) (es more : List Entry) (ns names : List Named) → Alike es ns → (o : Option Kind)
      → (or_mistyped f.name.place o >>- λ k. Ok (with_name es f.name.bytes k u)) ≡ Ok more
      → (o >? λ k. cond (has_kind (Some k) v) (Some (with_named ns f.name.bytes k (Plain v))) None) ≡ Some names → Alike more names
  field_alike f v es more ns names a None told is = absurd cc
  field_alike f v es more ns names a (Some k) told is =
      let P : List Entry → Type 0 = λ e. Alike e names in
      let Q : List Named → Type 0 = λ m. Alike (with_name es f.name.bytes k u) m in
      subst P (ok_is (with_name es f.name.bytes k u) more (Ok (with_name es f.name.bytes k u)) refl told)
      (subst Q (some_is (with_named ns f.name.bytes k (Plain v)) names (if_some (has_kind (Some k) v) (Some (with_named ns f.name.bytes k (Plain v))) names is))
      (alike_more es ns f.name.bytes k u (Plain v) can a))

  pub fields_alike : (fs : List Field) (vs : List Value) (es more : List Entry) (ns names : List Named) → Alike es ns → names_told u fs es ≡ Ok more
      → fields_filled fs vs ns ≡ Some names → Alike more names
  fields_alike [] [] es more ns names a told is =
      let P : List Entry → Type 0 = λ e. Alike e names in
      let Q : List Named → Type 0 = λ m. Alike es m in
      subst P (ok_is es more (Ok es) refl told) (subst Q (some_is ns names is) a)
  fields_alike [] (v ∷ vs) es more ns names a told is = absurd cc
  fields_alike (f ∷ fs) [] es more ns names a told is = absurd cc
  fields_alike (f ∷ fs) (v ∷ vs) es more ns names a told is =
      let first = told_bind (name_told u es f) (λ e. told_through (name_told u) e fs) more told in
      let one = some_bind (field_filled f v ns) (fields_filled fs vs) names is in
      fields_alike fs vs first.0 more one.0 names
      (field_alike f v es first.0 ns one.0 a (spelled_kind f.kind) (unless_is (is_declared f.name.bytes es) f.name.place _ first.0 first.1) one.1)
      first.2 one.2

-- the names of a method, as its check sees them and as a view fills them
pub filled_alike : (contract : ContractTree) (m : Method) (view : View) (es : List Entry) (names : List Named)
    → method_names contract.types true m ≡ Ok es → filled contract m view ≡ Some names → Alike es names
filled_alike contract m view es names told is =
    let t1 = told_bind (slots_told contract.types usage.Read m.consumes []) _ es told in
    let t2 = told_bind (slots_told contract.types usage.Read m.reads t1.0) _ es t1.2 in
    let t3 = told_bind (names_told usage.Read m.takes t2.0) _ es t2.2 in
    let t4 = told_bind (slots_told contract.types usage.Read m.creates t3.0) _ es t3.2 in
    let f1 = some_bind (slots_filled view.contract contract.types m.consumes view.inputs []) _ names is in
    let f2 = some_bind (slots_filled view.contract contract.types m.reads view.reads f1.0) _ names f1.2 in
    let f3 = some_bind (fields_filled m.takes view.params f2.0) _ names f2.2 in
    let f4 = some_bind (slots_filled view.contract contract.types m.creates view.outputs f3.0) _ names f3.2 in
    fields_alike usage.Read refl m.returns view.returns t4.0 es f4.0 names
    (slots_alike view.contract contract.types usage.Read refl m.creates t3.0 t4.0 view.outputs f3.0 f4.0
    (fields_alike usage.Read refl m.takes view.params t2.0 t3.0 f2.0 f3.0
    (slots_alike view.contract contract.types usage.Read refl m.reads t1.0 t2.0 view.reads f1.0 f2.0
    (slots_alike view.contract contract.types usage.Read refl m.consumes [] t1.0 view.inputs [] f1.0 tt t1.1 f1.1) t2.1 f2.1) t3.1 f3.1) t4.1 f4.1)
    t4.2 f4.2

-- ---- costs

module _ (contract : ContractTree) where
  costs_kept : (ms : List Method) (costs all : List Priced) → told_through (method_told contract) costs ms ≡ Ok all → (more : List Priced) × (all ≡ costs ++ more)
  costs_kept [] costs all is = ([], sym (ok_is costs all (Ok costs) refl is) ∙ sym (append_none costs))
    where
      append_none : (xs : List Priced) → xs ++ [] ≡ xs
      append_none [] = refl
      append_none (x ∷ xs) = ap (λ (ys : List Priced). x ∷ ys) (append_none xs)
  costs_kept (m ∷ ms) costs all is =
      let first = told_bind (method_told contract costs m) (λ b. told_through (method_told contract) b ms) all is in
      let one = told_bind (method_costs contract costs (take (length costs) contract.methods) m) (λ c. Ok (costs ++ c ∷ [])) first.0 first.1 in
      let rest = costs_kept ms first.0 all first.2 in
      (one.0 ∷ rest.0, rest.1 ∙ ap (λ (b : List Priced). b ++ rest.0) (sym (ok_is (costs ++ one.0 ∷ []) first.0 (Ok (costs ++ one.0 ∷ [])) refl one.2)) ∙ append_assoc costs (one.0 ∷ []) rest.0)

  at_length : (xs ys : List Priced) (c : Priced) → slice_get (xs ++ c ∷ ys) (length xs) ≡ Some c
  at_length [] ys c = refl
  at_length (x ∷ xs) ys c = at_length xs ys c

  -- what was told of the check of a method
  abbrev pub CheckTold : Method → ℕ → Type 0
  CheckTold m cost = (above : List Priced) × (body_told contract above true m m.check ≡ Ok cost)

  pub costs_at : (ms : List Method) (costs all : List Priced) → told_through (method_told contract) costs ms ≡ Ok all
      → (i : ℕ) (m : Method) → slice_get ms i ≡ Some m → (c : Priced) × (slice_get all (length costs + i) ≡ Some c) × CheckTold m c.check
  costs_at [] costs all is i m at = absurd cc
  costs_at (m0 ∷ ms) costs all is zero m at =
      let first = told_bind (method_told contract costs m0) (λ b. told_through (method_told contract) b ms) all is in
      let one = told_bind (method_costs contract costs (take (length costs) contract.methods) m0) (λ c. Ok (costs ++ c ∷ [])) first.0 first.1 in
      let bodies = unless_is (nat_le MOST_METHODS (length (take (length costs) contract.methods)) || is_some (method_number m0.name.bytes (take (length costs) contract.methods))) m0.name.place
      (body_told contract costs false m0 m0.procedure >>- λ p. body_told contract costs true m0 m0.check >>- λ k. Ok (record { procedure = p; check = k })) one.0 one.1 in
      let procedure = told_bind (body_told contract costs false m0 m0.procedure) (λ p. body_told contract costs true m0 m0.check >>- λ k. Ok (record { procedure = p; check = k })) one.0 bodies in
      let check = told_bind (body_told contract costs true m0 m0.check) (λ k. Ok (record { procedure = procedure.0; check = k })) one.0 procedure.2 in
      let made : record { procedure = procedure.0; check = check.0 } ≡ one.0 = ok_is _ one.0 _ refl check.2 in
      let rest = costs_kept ms first.0 all first.2 in
      let whole : all ≡ costs ++ one.0 ∷ rest.0 =
      rest.1 ∙ ap (λ (b : List Priced). b ++ rest.0) (sym (ok_is (costs ++ one.0 ∷ []) first.0 (Ok (costs ++ one.0 ∷ [])) refl one.2)) ∙ append_assoc costs (one.0 ∷ []) rest.0 in
      let P : Method → Type 0 = λ n. CheckTold n one.0.check in (
        one.0,
        ap (λ (i : ℕ). slice_get all i) (omega arith) ∙ ap (λ (b : List Priced). slice_get b (length costs)) whole ∙ at_length costs rest.0 one.0,
        subst P (some_is m0 m at) (costs, check.1 ∙ ap (λ (c : Priced). Ok c.check) made),
      )
  costs_at (m0 ∷ ms) costs all is (suc i) m at =
      let first = told_bind (method_told contract costs m0) (λ b. told_through (method_told contract) b ms) all is in
      let one = told_bind (method_costs contract costs (take (length costs) contract.methods) m0) (λ c. Ok (costs ++ c ∷ [])) first.0 first.1 in
      let behind = costs_at ms first.0 all first.2 i m at in
      let grown : costs ++ one.0 ∷ [] ≡ first.0 = ok_is (costs ++ one.0 ∷ []) first.0 (Ok (costs ++ one.0 ∷ [])) refl one.2 in
      (behind.0, ap (λ (j : ℕ). slice_get all j) (omega (arith, length-append costs (one.0 ∷ []), ap (λ (b : List Priced). length b) grown)) ∙ behind.1, behind.2)

cheap : (costs : List Priced) (i : ℕ) (c : Priced) → first_dear costs ≡ None → slice_get costs i ≡ Some c → c.check ≤ MOST_COST
cheap [] i c none at = absurd cc
cheap (d ∷ ds) i c none at =
    by_tests (λ j at none. cheap ds j c none at) (nat_lt MOST_COST d.procedure) (nat_lt MOST_COST d.check) refl none i at
  where
    by_tests : ((j : ℕ) → slice_get ds j ≡ Some c → first_dear ds ≡ None → c.check ≤ MOST_COST) → (p q : Bool) → q ≡ nat_lt MOST_COST d.check → cond p (Some d.procedure) (cond q (Some d.check) (first_dear ds)) ≡ None → (j : ℕ) → slice_get (d ∷ ds) j ≡ Some c → c.check ≤ MOST_COST
    by_tests behind true q same none j at = absurd cc
    by_tests behind false true same none j at = absurd cc
    by_tests behind false false same none zero at =
        let low : d.check ≤ MOST_COST = grind (arith, nat_tests) in
        let P : Priced → Type 0 = λ x. x.check ≤ MOST_COST in
        subst P (some_is d c at) low
    by_tests behind false false same none (suc j) at = behind j at none

-- the check of a method of an accepted contract, and its cost
pub accepted_check : (a : Accepted) → IsAccepted a → (i : ℕ) (m : Method) → slice_get a.contract.methods i ≡ Some m
    → (c : Priced) × (slice_get a.costs i ≡ Some c) × (c.check ≤ MOST_COST) × CheckTold a.contract m c.check
accepted_check a is i m at =
    let all = told_bind (judged_costs a.contract) (λ costs. or_dear costs (first_dear costs)) a.costs is.told in
    let judged = told_bind (types_told a.contract.types) (λ types. methods_told a.contract) all.0 all.1 in
    let found = costs_at a.contract a.contract.methods [] all.0 judged.2 i m at in
    let told = not_dear all.0 (first_dear all.0) all.2 in
    let there : slice_get all.0 i ≡ Some found.0 = ap (λ (j : ℕ). slice_get all.0 j) (omega arith) ∙ found.1 in
    (found.0, ap (λ (costs : List Priced). slice_get costs i) (sym told.1) ∙ there, cheap all.0 i found.0 told.0 there, found.2)
  where
    not_dear : (costs : List Priced) (o : Option ℕ) → or_dear costs o ≡ Ok a.costs → (o ≡ None) × (costs ≡ a.costs)
    not_dear costs None h = (refl, ok_is costs a.costs (Ok costs) refl h)
    not_dear costs (Some cost) h = absurd cc
