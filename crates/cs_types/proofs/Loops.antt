-- Loops over declarations and statements.
use Rattle.std.proofs.Common.{◌≡◌, ℕ, ◌+◌, ◌<◌, ◌≤◌, Bool, List, [], ◌∷◌, ◌++◌, length, take, drop, get_or, map, Ok, Err, sym, ap, ◌∙◌, add-one}
use Rattle.std.proofs.Math.Seq.{take-suc}
use Rattle.std.proofs.lemmas.List.{drop_all, take_all}
use Rattle.cs_base.specs.Lists.{is_empty}
use Rattle.cs_lang_token.specs.Grammar.{◌>>=◌}
use Rattle.cs_lang_token.specs.declared.token.Text.{Text}
use Rattle.cs_lang.specs.declared.tree.Expr.{Expr}
use Rattle.cs_lang.specs.declared.tree.Field.{Field}
use Rattle.cs_lang.specs.declared.tree.Slot.{Slot}
use Rattle.cs_lang.specs.declared.tree.TypeDef.{TypeDef}
use Rattle.cs_types_kinds.specs.declared.fault.TypeError.{TypeError}
use Rattle.cs_types_kinds.specs.declared.scope.Use.{Use}
use Rattle.cs_types_kinds.specs.declared.scope.Entry.{Entry}
use Rattle.cs_types_kinds.specs.Told.{Told, told_through}
use Rattle.cs_types_kinds.specs.Scopes.{InSight}
use Rattle.cs_types_kinds.specs.Parts.{part_of}
use Rattle.cs_types_kinds.proofs.Loops.{opened}
use Rattle.cs_types.specs.Answers.{Fails}
use Rattle.cs_types.proofs.Faults.{fails_first, fails_as}
use Rattle.cs_types.specs.Stating.{field_wanted, fields_wanted, one_bound, bound}
use Rattle.cs_types.specs.Declaring.{slot_told, slots_told}

-- ---- one after the other

module _ {A Y : Type 0} (step : A → Y → Told A) where
  pub head_ok : (y : Y) (ys : List Y) (a b : A) (t : Told A) → step a y ≡ Ok b → told_through step a (y ∷ ys) ≡ t → told_through step b ys ≡ t
  head_ok y ys a b t e h = sym (ap (λ (r : Told A). r >>= λ c. told_through step c ys) e) ∙ h

  pub head_fails : (y : Y) (ys : List Y) (a : A) (e : TypeError) (t : Told A) → Fails e (step a y) → told_through step a (y ∷ ys) ≡ t → Fails e t
  head_fails y ys a e t f h = fails_as e _ t h (fails_first e (step a y) (λ b. told_through step b ys) f)

  -- over the elements themselves
  pub each_done : (ys : List Y) (i : ℕ) (a : A) (t : Told A) → length ys ≤ i → told_through step a (drop i ys) ≡ t → t ≡ Ok a
  each_done ys i a t le h = sym h ∙ ap (told_through step a) (drop_all i ys le)

  pub each_step : (ys : List Y) (i : ℕ) (y : Y) (a b : A) (t : Told A) → i < length ys → y ≡ get_or ys i y → step a y ≡ Ok b → told_through step a (drop i ys) ≡ t → told_through step b (drop (i + 1) ys) ≡ t
  each_step ys i y a b t lt is e h = head_ok y (drop (i + 1) ys) a b t e (sym (ap (told_through step a) (opened ys i y lt is)) ∙ h)

  pub each_fails : (ys : List Y) (i : ℕ) (y : Y) (a : A) (e : TypeError) (t : Told A) → i < length ys → y ≡ get_or ys i y → Fails e (step a y) → told_through step a (drop i ys) ≡ t → Fails e t
  each_fails ys i y a e t lt is f h = head_fails y (drop (i + 1) ys) a e t f (sym (ap (told_through step a) (opened ys i y lt is)) ∙ h)

  -- over images
  pub image_done : {X : Type 0} (f : X → Y) (xs : List X) (i : ℕ) (a : A) (t : Told A) → length xs ≤ i → told_through step a (map f (drop i xs)) ≡ t → t ≡ Ok a
  image_done {X} f xs i a t le h = sym h ∙ ap (λ (ys : List X). told_through step a (map f ys)) (drop_all i xs le)

  pub image_step : {X : Type 0} (f : X → Y) (xs : List X) (i : ℕ) (x : X) (a b : A) (t : Told A) → i < length xs → x ≡ get_or xs i x → step a (f x) ≡ Ok b → told_through step a (map f (drop i xs)) ≡ t → told_through step b (map f (drop (i + 1) xs)) ≡ t
  image_step {X} f xs i x a b t lt is e h = head_ok (f x) (map f (drop (i + 1) xs)) a b t e (sym (ap (λ (ys : List X). told_through step a (map f ys)) (opened xs i x lt is)) ∙ h)

  pub image_fails : {X : Type 0} (f : X → Y) (xs : List X) (i : ℕ) (x : X) (a : A) (e : TypeError) (t : Told A) → i < length xs → x ≡ get_or xs i x → Fails e (step a (f x)) → told_through step a (map f (drop i xs)) ≡ t → Fails e t
  image_fails {X} f xs i x a e t lt is g h = head_fails (f x) (map f (drop (i + 1) xs)) a e t g (sym (ap (λ (ys : List X). told_through step a (map f ys)) (opened xs i x lt is)) ∙ h)

-- ---- each behind those before it

module _ {Y : Type 0} (step : List Y → Y → Told (List Y)) where
  grown : (ys : List Y) (i : ℕ) (y : Y) → i < length ys → y ≡ get_or ys i y → take i ys ++ y ∷ [] ≡ take (i + 1) ys
  grown ys i y lt is = sym (rw add-one (take-suc ys i y lt ∙ ap (λ (x : Y). take i ys ++ x ∷ []) (sym is)))

  pub grown_step : (ys : List Y) (i : ℕ) (y : Y) (front : List Y) (t : Told (List Y)) → i < length ys → y ≡ get_or ys i y → front ≡ take i ys → step front y ≡ Ok (front ++ y ∷ []) → told_through step (take i ys) (drop i ys) ≡ t → told_through step (take (i + 1) ys) (drop (i + 1) ys) ≡ t
  grown_step ys i y front t lt is cut e h = each_step step ys i y (take i ys) (take (i + 1) ys) t lt is (ap (λ (xs : List Y). step xs y) (sym cut) ∙ e ∙ ap (λ (xs : List Y). Ok (xs ++ y ∷ [])) cut ∙ ap Ok (grown ys i y lt is)) h

  pub grown_fails : (ys : List Y) (i : ℕ) (y : Y) (front : List Y) (e : TypeError) (t : Told (List Y)) → i < length ys → y ≡ get_or ys i y → front ≡ take i ys → Fails e (step front y) → told_through step (take i ys) (drop i ys) ≡ t → Fails e t
  grown_fails ys i y front e t lt is cut f h = each_fails step ys i y (take i ys) e t lt is (fails_as e _ _ (ap (λ (xs : List Y). step xs y) cut) f) h

  pub grown_done : (ys : List Y) (i : ℕ) (t : Told (List Y)) → length ys ≤ i → told_through step (take i ys) (drop i ys) ≡ t → t ≡ Ok ys
  grown_done ys i t le h = each_done step ys i (take i ys) t le h ∙ ap Ok (take_all i ys le)

-- ---- two lists side by side

module _ (sight : InSight) where
  pub wanted_step : (fs : List Field) (vs : List Expr) (i : ℕ) (f : Field) (v : Expr) (sum more : ℕ) (t : Told ℕ) → i < length fs → i < length vs → f ≡ get_or fs i f → v ≡ get_or vs i v
      → field_wanted f (part_of sight v) sum ≡ Ok more → fields_wanted (drop i fs) (map (part_of sight) (drop i vs)) sum ≡ t → fields_wanted (drop (i + 1) fs) (map (part_of sight) (drop (i + 1) vs)) more ≡ t
  wanted_step fs vs i f v sum more t lf lv isf isv e h =
      sym (ap (λ (r : Told ℕ). r >>= λ m. fields_wanted (drop (i + 1) fs) (map (part_of sight) (drop (i + 1) vs)) m) e)
      ∙ sym (ap (λ (ys : List Expr). fields_wanted (f ∷ drop (i + 1) fs) (map (part_of sight) ys) sum) (opened vs i v lv isv))
      ∙ sym (ap (λ (xs : List Field). fields_wanted xs (map (part_of sight) (drop i vs)) sum) (opened fs i f lf isf)) ∙ h

  pub wanted_fails : (fs : List Field) (vs : List Expr) (i : ℕ) (f : Field) (v : Expr) (sum : ℕ) (e : TypeError) (t : Told ℕ) → i < length fs → i < length vs → f ≡ get_or fs i f → v ≡ get_or vs i v
      → field_wanted f (part_of sight v) sum ≡ Err e → fields_wanted (drop i fs) (map (part_of sight) (drop i vs)) sum ≡ t → Err e ≡ t
  wanted_fails fs vs i f v sum e t lf lv isf isv err h =
      sym (ap (λ (r : Told ℕ). r >>= λ m. fields_wanted (drop (i + 1) fs) (map (part_of sight) (drop (i + 1) vs)) m) err)
      ∙ sym (ap (λ (ys : List Expr). fields_wanted (f ∷ drop (i + 1) fs) (map (part_of sight) ys) sum) (opened vs i v lv isv))
      ∙ sym (ap (λ (xs : List Field). fields_wanted xs (map (part_of sight) (drop i vs)) sum) (opened fs i f lf isf)) ∙ h

  pub wanted_done : (fs : List Field) (vs : List Expr) (i : ℕ) (sum : ℕ) (t : Told ℕ) → length fs ≤ i → fields_wanted (drop i fs) (map (part_of sight) (drop i vs)) sum ≡ t → Ok sum ≡ t
  wanted_done fs vs i sum t le h = sym (ap (λ (xs : List Field). fields_wanted xs (map (part_of sight) (drop i vs)) sum) (drop_all i fs le)) ∙ h

pub bound_step : (ns : List Text) (fs : List Field) (i : ℕ) (n : Text) (f : Field) (names more : List Entry) (t : Told (List Entry)) → i < length ns → i < length fs → n ≡ get_or ns i n → f ≡ get_or fs i f
    → one_bound n f names ≡ Ok more → bound (drop i ns) (drop i fs) names ≡ t → bound (drop (i + 1) ns) (drop (i + 1) fs) more ≡ t
bound_step ns fs i n f names more t ln lf isn isf e h =
    sym (ap (λ (r : Told (List Entry)). r >>= λ m. bound (drop (i + 1) ns) (drop (i + 1) fs) m) e)
    ∙ sym (ap (λ (xs : List Field). bound (n ∷ drop (i + 1) ns) xs names) (opened fs i f lf isf))
    ∙ sym (ap (λ (xs : List Text). bound xs (drop i fs) names) (opened ns i n ln isn)) ∙ h

pub bound_fails : (ns : List Text) (fs : List Field) (i : ℕ) (n : Text) (f : Field) (names : List Entry) (e : TypeError) (t : Told (List Entry)) → i < length ns → i < length fs → n ≡ get_or ns i n → f ≡ get_or fs i f
    → Fails e (one_bound n f names) → bound (drop i ns) (drop i fs) names ≡ t → Fails e t
bound_fails ns fs i n f names e t ln lf isn isf err h =
    fails_as e _ t
    (sym (ap (λ (xs : List Field). bound (n ∷ drop (i + 1) ns) xs names) (opened fs i f lf isf)) ∙ sym (ap (λ (xs : List Text). bound xs (drop i fs) names) (opened ns i n ln isn)) ∙ h)
    (fails_first e (one_bound n f names) (λ m. bound (drop (i + 1) ns) (drop (i + 1) fs) m) err)

pub bound_done : (ns : List Text) (fs : List Field) (i : ℕ) (names : List Entry) (t : Told (List Entry)) → length ns ≤ i → bound (drop i ns) (drop i fs) names ≡ t → t ≡ Ok names
bound_done ns fs i names t le h = sym h ∙ ap (λ (xs : List Text). bound xs (drop i fs) names) (drop_all i ns le)

-- ---- slots

module _ (types : List TypeDef) (u : Use) where
  pub slots_done : (xs : List Slot) (i : ℕ) (names : List Entry) (t : Told (List Entry)) → length xs ≤ i → slots_told types u (drop i xs) names ≡ t → t ≡ Ok names
  slots_done xs i names t le h = sym h ∙ ap (λ (ys : List Slot). slots_told types u ys names) (drop_all i xs le)

  slots_next : (xs : List Slot) (i : ℕ) (x : Slot) (last : Bool) (names : List Entry) (t : Told (List Entry)) → i < length xs → x ≡ get_or xs i x → is_empty (drop (i + 1) xs) ≡ last
      → slots_told types u (drop i xs) names ≡ t → (slot_told types u x last names >>= λ more. slots_told types u (drop (i + 1) xs) more) ≡ t
  slots_next xs i x last names t lt is end h =
      ap (λ (b : Bool). slot_told types u x b names >>= λ more. slots_told types u (drop (i + 1) xs) more) (sym end)
      ∙ sym (ap (λ (ys : List Slot). slots_told types u ys names) (opened xs i x lt is)) ∙ h

  pub slots_step : (xs : List Slot) (i : ℕ) (x : Slot) (last : Bool) (names more : List Entry) (t : Told (List Entry)) → i < length xs → x ≡ get_or xs i x → is_empty (drop (i + 1) xs) ≡ last
      → slot_told types u x last names ≡ Ok more → slots_told types u (drop i xs) names ≡ t → slots_told types u (drop (i + 1) xs) more ≡ t
  slots_step xs i x last names more t lt is end e h = sym (ap (λ (r : Told (List Entry)). r >>= λ m. slots_told types u (drop (i + 1) xs) m) e) ∙ slots_next xs i x last names t lt is end h

  pub slots_fails : (xs : List Slot) (i : ℕ) (x : Slot) (last : Bool) (names : List Entry) (e : TypeError) (t : Told (List Entry)) → i < length xs → x ≡ get_or xs i x → is_empty (drop (i + 1) xs) ≡ last
      → Fails e (slot_told types u x last names) → slots_told types u (drop i xs) names ≡ t → Fails e t
  slots_fails xs i x last names e t lt is end f h = fails_as e _ t (slots_next xs i x last names t lt is end h) (fails_first e (slot_told types u x last names) (λ m. slots_told types u (drop (i + 1) xs) m) f)
