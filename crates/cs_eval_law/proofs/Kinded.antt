-- Values and objects of kinds, and what operators make of them.
use Rattle.std.proofs.Common.{◌≡◌, ◌≢◌, ℕ, zero, suc, ◌+◌, ◌-◌, ◌<◌, ◌≤◌, ℤ, pos, negsuc, Bool, true, false, cond, Option, None, Some, List, [], ◌∷◌, ◌++◌, length, take, drop, map, refl, sym, ap, ◌∙◌, subst, arith, add-one}
use Rattle.std.specs.Prelude.{not, ◌&&◌, ◌||◌, ◌==◌, nat_lt, nat_le, slice_get, option_and_then, ◌+ℤ◌, ◌-ℤ◌, ◌*ℤ◌, neg_ℤ, int_div, int_rem}
use Rattle.std.specs.List.{list_all}
use Rattle.std.specs.Str.{bytes_eq}
use Rattle.std.specs.Ordering.{int_eq}
use Rattle.std.proofs.lemmas.List.Folds.{list_all-append}
use Rattle.std.proofs.lemmas.Bool.Decides.{nat_tests}
use Rattle.sha2.specs.Sha256.{sha256}
use Rattle.cs_base.specs.Options.{or_else}
use Rattle.cs_lang_token.specs.declared.limits.TheConstants.{MOST_BYTES, MOST_ITEMS}
use Rattle.cs_lang.specs.declared.tree.Operator.{Operator}
use Rattle.cs_lang.specs.declared.tree.Operator.TheVariants as operator
use Rattle.cs_lang.specs.declared.tree.Comparison.{Comparison}
use Rattle.cs_lang.specs.declared.tree.Comparison.TheVariants as comparison
use Rattle.cs_lang.specs.declared.tree.Rank.{Rank}
use Rattle.cs_lang.specs.declared.tree.Rank.TheVariants as rank
use Rattle.cs_lang.specs.declared.tree.TypeDef.{TypeDef}
use Rattle.cs_lang.specs.Fits.{is_of_rank}
use Rattle.cs_tx_value.specs.declared.object.Object.{Object}
use Rattle.cs_tx_value.specs.declared.value.Value.{Value, out-Value}
use Rattle.cs_tx_value.specs.declared.value.Value.TheOpen.{Value-F}
use Rattle.cs_tx_value.specs.declared.value.Value.TheVariants as value
use Rattle.cs_tx_value.specs.Encoding.{value_encoding}
use Rattle.cs_tx_value.specs.laws.Layers.{out-Int, out-Bool, out-Bytes, out-List}
use Rattle.cs_types_kinds.specs.declared.kind.Base.{Base}
use Rattle.cs_types_kinds.specs.declared.kind.Base.TheVariants as base
use Rattle.cs_types_kinds.specs.declared.kind.Kind.{Kind}
use Rattle.cs_types_kinds.specs.declared.kind.Kind.TheVariants as kind
use Rattle.cs_types_kinds.specs.Kinds.{int_kind as int_kind, bool as bool_kind, bytes_kind as bytes_kind, same_base, same_kind, list_kind_of as list_of_kind, item_kind as item_kind, joins, has_length}
use Rattle.cs_types_kinds.specs.Judging.{is_equality, compares, kind_of_rank}
use Rattle.cs_eval_values.specs.declared.limits.TheConstants.{MOST_VALUE}
use Rattle.cs_eval_values.specs.declared.stop.Cause.TheVariants as cause
use Rattle.cs_eval_values.specs.declared.operators.Unary.TheVariants as one
use Rattle.cs_eval_values.specs.declared.operators.Binary.TheVariants as two
use Rattle.cs_eval_values.specs.Runs.{Run, gives, traps, ◌>>=◌, or_trap}
use Rattle.cs_eval_shared.specs.Parts.{int_in, bool_in, bytes_in, length_in, values_in}
use Rattle.cs_eval_values.specs.Datums.{Datum, Plain, One, Many, plain_each, int_of, bool_of, bytes_of_datum, length_of, plain_of, items_of}
use Rattle.cs_eval_values.specs.Ints.{in_range, ranged, divided, remainder, computed, negated, compared_ints}
use Rattle.cs_eval_values.specs.Operators.{int, truth, text, given_int, given_bool, given_bytes, given_value, list_of, with_item, int_number, unary, joined_bytes, joined_lists, joined_layers, joined, same_bool, equality, both, same_in, compared_in, compared, right_bool, arithmetic, linked, item_at, indexed, binary}
use Rattle.cs_eval_values.specs.Filling.{is_of_base, items_pass, is_list_of, values_fit}
use Rattle.cs_eval_values.specs.Views.{type_named}
use Rattle.cs_eval_law.proofs.Within.{some_is}
use Rattle.cs_eval_law.proofs.Sound.{Sound, sound_spend, sound_bind, sound_there, sound_other, sound_cond}

-- ---- objects and values of kinds

-- an object of the type with this number
abbrev pub IsObject : List TypeDef → ℕ → Object → Type 0
IsObject types n o =
    (t : TypeDef) × (slice_get types n ≡ Some t) × (type_named o.type_name types ≡ Some t) × (values_fit t.fields o.values ≡ true)

abbrev pub AreObjects : List TypeDef → ℕ → List Object → Type 0
AreObjects types n [] = Unit {0}
AreObjects types n (o ∷ os) = IsObject types n o × AreObjects types n os

abbrev pub HasKind : List TypeDef → Kind → Datum → Type 0
HasKind types (kind.Value b lists) (Plain v) = is_list_of b lists v ≡ true
HasKind types (kind.Value b lists) (One o) = ⊥
HasKind types (kind.Value b lists) (Many os) = ⊥
HasKind types (kind.Object n) (Plain v) = ⊥
HasKind types (kind.Object n) (One o) = IsObject types n o
HasKind types (kind.Object n) (Many os) = ⊥
HasKind types (kind.Objects n) (Plain v) = ⊥
HasKind types (kind.Objects n) (One o) = ⊥
HasKind types (kind.Objects n) (Many os) = AreObjects types n os

-- ---- kinds that are one

pub true_and : (a b : Bool) → a && b ≡ true → (a ≡ true) × (b ≡ true)
true_and true b is = (refl, is)
true_and false b is = absurd cc

same_base_is : (a b : Base) → same_base a b ≡ true → a ≡ b
same_base_is base.Int base.Int is = refl
same_base_is base.Bool base.Bool is = refl
same_base_is base.Bytes base.Bytes is = refl
same_base_is base.Int base.Bool is = absurd cc
same_base_is base.Int base.Bytes is = absurd cc
same_base_is base.Bool base.Int is = absurd cc
same_base_is base.Bool base.Bytes is = absurd cc
same_base_is base.Bytes base.Int is = absurd cc
same_base_is base.Bytes base.Bool is = absurd cc

same_number : (n m : ℕ) → n == m ≡ true → n ≡ m
same_number n m is = grind (arith, nat_tests)

pub same_kind_is : (k l : Kind) → same_kind k l ≡ true → k ≡ l
same_kind_is (kind.Value a n) (kind.Value b m) is =
    let both_are = true_and (same_base a b) (n == m) is in
    ap (λ (x : Base). kind.Value x n) (same_base_is a b both_are.0) ∙ ap (λ (i : ℕ). kind.Value b i) (same_number n m both_are.1)
same_kind_is (kind.Object n) (kind.Object m) is = ap (λ (i : ℕ). kind.Object i) (same_number n m is)
same_kind_is (kind.Objects n) (kind.Objects m) is = ap (λ (i : ℕ). kind.Objects i) (same_number n m is)
same_kind_is (kind.Value a n) (kind.Object m) is = absurd cc
same_kind_is (kind.Value a n) (kind.Objects m) is = absurd cc
same_kind_is (kind.Object n) (kind.Value b m) is = absurd cc
same_kind_is (kind.Object n) (kind.Objects m) is = absurd cc
same_kind_is (kind.Objects n) (kind.Value b m) is = absurd cc
same_kind_is (kind.Objects n) (kind.Object m) is = absurd cc

-- ---- what has a kind is there

int_there : (v : Value-F Value) → is_of_base base.Int v ≡ true → (z : ℤ) × (int_in v ≡ Some z)
int_there (Value-F.Int n) is = (n, refl)
int_there (Value-F.Bool b) is = absurd cc
int_there (Value-F.Bytes bytes) is = absurd cc
int_there (Value-F.List vs) is = absurd cc

bool_there : (v : Value-F Value) → is_of_base base.Bool v ≡ true → (b : Bool) × (bool_in v ≡ Some b)
bool_there (Value-F.Int n) is = absurd cc
bool_there (Value-F.Bool b) is = (b, refl)
bool_there (Value-F.Bytes bytes) is = absurd cc
bool_there (Value-F.List vs) is = absurd cc

bytes_there : (v : Value-F Value) → is_of_base base.Bytes v ≡ true → (text : List ℕ) × (v ≡ Value-F.Bytes text)
bytes_there (Value-F.Int n) is = absurd cc
bytes_there (Value-F.Bool b) is = absurd cc
bytes_there (Value-F.Bytes bytes) is = (bytes, refl)
bytes_there (Value-F.List vs) is = absurd cc

list_there : (b : Base) (lists : ℕ) (v : Value-F Value) → items_pass (is_list_of b lists) v ≡ true → (vs : List Value) × (v ≡ Value-F.List vs) × (list_all (is_list_of b lists) vs ≡ true)
list_there b lists (Value-F.Int n) is = absurd cc
list_there b lists (Value-F.Bool c) is = absurd cc
list_there b lists (Value-F.Bytes bytes) is = absurd cc
list_there b lists (Value-F.List vs) is = (vs, refl, is)

module _ (types : List TypeDef) where
  pub int_given : (d : Datum) → HasKind types int_kind d → (z : ℤ) × (int_of d ≡ Some z)
  int_given (Plain v) h = int_there (out-Value v) h
  int_given (One o) h = absurd h
  int_given (Many os) h = absurd h

  pub bool_given : (d : Datum) → HasKind types bool_kind d → (b : Bool) × (bool_of d ≡ Some b)
  bool_given (Plain v) h = bool_there (out-Value v) h
  bool_given (One o) h = absurd h
  bool_given (Many os) h = absurd h

  bytes_given : (d : Datum) → HasKind types bytes_kind d → (text : List ℕ) × (bytes_of_datum d ≡ Some text)
  bytes_given (Plain v) h = let t = bytes_there (out-Value v) h in (t.0, ap bytes_in t.1)
  bytes_given (One o) h = absurd h
  bytes_given (Many os) h = absurd h

  value_given : (b : Base) (lists : ℕ) (d : Datum) → HasKind types (kind.Value b lists) d → (v : Value) × (plain_of d ≡ Some v) × (is_list_of b lists v ≡ true)
  value_given b lists (Plain v) h = (v, refl, h)
  value_given b lists (One o) h = absurd h
  value_given b lists (Many os) h = absurd h

  -- ---- what is made has its kind

  pub int_has : (n : ℤ) → HasKind types int_kind (int n)
  int_has n = ap (is_of_base base.Int) (out-Int n)

  pub bool_has : (b : Bool) → HasKind types bool_kind (truth b)
  bool_has b = ap (is_of_base base.Bool) (out-Bool b)

  pub bytes_has : (bytes : List ℕ) → HasKind types bytes_kind (text bytes)
  bytes_has bytes = ap (is_of_base base.Bytes) (out-Bytes bytes)

  list_has : (b : Base) (lists : ℕ) (vs : List Value) → list_all (is_list_of b lists) vs ≡ true → HasKind types (kind.Value b (suc lists)) (Plain (value.List vs))
  list_has b lists vs all = ap (items_pass (is_list_of b lists)) (out-List vs) ∙ all

  ranged_sound : (z : ℤ) (place : ℕ) → Sound (λ n. Unit {0}) (ranged z place)
  ranged_sound z place = sound_other (λ n. Unit {0}) cause.Range place (in_range z) (λ is. cc) (λ n is. tt)

  int_sound : (r : Run ℤ) → Sound (λ n. Unit {0}) r → Sound (HasKind types int_kind) (r >>= λ n. gives (int n))
  int_sound r h = sound_bind (λ n. Unit {0}) (HasKind types int_kind) r (λ n. gives (int n)) h (λ n _. int_has n)

  pub number_sound : (n place : ℕ) → Sound (HasKind types int_kind) (int_number n place)
  number_sound n place = int_sound (ranged (pos n) place) (ranged_sound (pos n) place)

  list_of_sound : (b : Base) (lists : ℕ) (vs : List Value) (place : ℕ) → list_all (is_list_of b lists) vs ≡ true → Sound (HasKind types (kind.Value b (suc lists))) (list_of vs place)
  list_of_sound b lists vs place all =
      sound_cond (HasKind types (kind.Value b (suc lists))) (nat_le (length (value_encoding (value.List vs))) MOST_VALUE) (gives (Plain (value.List vs))) (traps cause.Size place) (list_has b lists vs all) (λ is. cc)

  -- ---- of one part

  layer_length : (b : Base) (v : Value-F Value) → is_of_base b v ≡ true → same_base b base.Bytes || nat_lt 0 0 ≡ true → (n : ℕ) × (length_in v ≡ Some n)
  layer_length base.Int v is long = absurd cc
  layer_length base.Bool v is long = absurd cc
  layer_length base.Bytes v is long = let t = bytes_there v is in (length t.0, ap length_in t.1)

  length_there : (k : Kind) (d : Datum) → has_length k ≡ true → HasKind types k d → (n : ℕ) × (length_of d ≡ Some n)
  length_there (kind.Value b zero) (Plain v) long h = layer_length b (out-Value v) h long
  length_there (kind.Value b (suc lists)) (Plain v) long h = let t = list_there b lists (out-Value v) h in (length t.0, ap length_in t.1)
  length_there (kind.Value b lists) (One o) long h = absurd h
  length_there (kind.Value b lists) (Many os) long h = absurd h
  length_there (kind.Object n) d long h = absurd cc
  length_there (kind.Objects n) (Plain v) long h = absurd h
  length_there (kind.Objects n) (One o) long h = absurd h
  length_there (kind.Objects n) (Many os) long h = (length os, refl)

  pub len_sound : (k : Kind) (place : ℕ) (d : Datum) → has_length k ≡ true → HasKind types k d → Sound (HasKind types int_kind) (unary one.Len place d)
  len_sound k place d long h =
      let n = length_there k d long h in
      sound_there (HasKind types int_kind) cause.Misfit place (length_of d) n.0 (λ m. int_number m place) n.1 (number_sound n.0 place)

  pub hash_sound : (place : ℕ) (d : Datum) → HasKind types bytes_kind d → Sound (HasKind types bytes_kind) (unary one.Sha256 place d)
  hash_sound place d h =
      let t = bytes_given d h in
      sound_there (HasKind types bytes_kind) cause.Misfit place (bytes_of_datum d) t.0 (λ bytes. gives (text (sha256 bytes))) t.1 (bytes_has (sha256 t.0))

  pub not_sound : (place : ℕ) (d : Datum) → HasKind types bool_kind d → Sound (HasKind types bool_kind) (unary one.Not place d)
  not_sound place d h =
      let t = bool_given d h in
      sound_there (HasKind types bool_kind) cause.Misfit place (bool_of d) t.0 (λ b. gives (truth (not b))) t.1 (bool_has (not t.0))

  pub negative_sound : (place : ℕ) (d : Datum) → HasKind types int_kind d → Sound (HasKind types int_kind) (unary one.Negative place d)
  negative_sound place d h =
      let t = int_given d h in
      sound_there (HasKind types int_kind) cause.Misfit place (int_of d) t.0 (λ n. negated n place >>= λ m. gives (int m)) t.1 (int_sound (negated t.0 place) (ranged_sound (neg_ℤ t.0) place))

  -- ---- of two parts

  bytes_joined : (v w : Value-F Value) (place : ℕ) (a b : List ℕ) → v ≡ Value-F.Bytes a → w ≡ Value-F.Bytes b → Sound (HasKind types bytes_kind) (joined_layers v w place)
  bytes_joined v w place a b is same =
      let P : Value-F Value → Type 0 = λ x. Sound (HasKind types bytes_kind) (joined_layers x w place) in
      let Q : Value-F Value → Type 0 = λ x. Sound (HasKind types bytes_kind) (joined_layers (Value-F.Bytes a) x place) in
      subst P (sym is) (subst Q (sym same)
      (sound_cond (HasKind types bytes_kind) (nat_le (length a + length b) MOST_BYTES) (gives (text (a ++ b))) (traps cause.Length place) (bytes_has (a ++ b)) (λ is. cc)))

  lists_joined : (c : Base) (lists : ℕ) (v w : Value-F Value) (place : ℕ) (a b : List Value) → v ≡ Value-F.List a → w ≡ Value-F.List b
      → list_all (is_list_of c lists) a ≡ true → list_all (is_list_of c lists) b ≡ true → Sound (HasKind types (kind.Value c (suc lists))) (joined_layers v w place)
  lists_joined c lists v w place a b is same all every =
      let P : Value-F Value → Type 0 = λ x. Sound (HasKind types (kind.Value c (suc lists))) (joined_layers x w place) in
      let Q : Value-F Value → Type 0 = λ x. Sound (HasKind types (kind.Value c (suc lists))) (joined_layers (Value-F.List a) x place) in
      subst P (sym is) (subst Q (sym same)
      (sound_cond (HasKind types (kind.Value c (suc lists))) (nat_le (length a + length b) MOST_ITEMS) (list_of (a ++ b) place) (traps cause.Length place)
      (list_of_sound c lists (a ++ b) place (list_all-append (is_list_of c lists) a b ∙ ap (λ (x : Bool). x && list_all (is_list_of c lists) b) all ∙ every)) (λ is. cc)))

  layers_sound : (c : Base) (lists : ℕ) (v w : Value) (place : ℕ) → joins (kind.Value c lists) ≡ true → is_list_of c lists v ≡ true → is_list_of c lists w ≡ true
      → Sound (HasKind types (kind.Value c lists)) (joined_layers (out-Value v) (out-Value w) place)
  layers_sound base.Int zero v w place can a b = absurd cc
  layers_sound base.Bool zero v w place can a b = absurd cc
  layers_sound base.Bytes zero v w place can a b =
      let x = bytes_there (out-Value v) a in
      let y = bytes_there (out-Value w) b in
      bytes_joined (out-Value v) (out-Value w) place x.0 y.0 x.1 y.1
  layers_sound c (suc lists) v w place can a b =
      let x = list_there c lists (out-Value v) a in
      let y = list_there c lists (out-Value w) b in
      lists_joined c lists (out-Value v) (out-Value w) place x.0 y.0 x.1 y.1 x.2 y.2

  pub concat_sound : (k : Kind) (place : ℕ) (a b : Datum) → joins k ≡ true → HasKind types k a → HasKind types k b → Sound (HasKind types k) (binary two.Concat place a b)
  concat_sound (kind.Value c lists) place a b can h g =
      let v = value_given c lists a h in
      let w = value_given c lists b g in
      sound_there (HasKind types (kind.Value c lists)) cause.Misfit place (plain_of a) v.0 (λ x. given_value place b >>= λ y. joined_layers (out-Value x) (out-Value y) place) v.1
      (sound_there (HasKind types (kind.Value c lists)) cause.Misfit place (plain_of b) w.0 (λ y. joined_layers (out-Value v.0) (out-Value y) place) w.1
      (layers_sound c lists v.0 w.0 place can v.2 w.2))
  concat_sound (kind.Object n) place a b can h g = absurd cc
  concat_sound (kind.Objects n) place a b can h g = absurd cc

  -- ---- comparisons

  else_there : {A : Type 0} (o p : Option A) (x : A) → p ≡ Some x → (y : A) × (or_else o p ≡ Some y)
  else_there (Some y) p x is = (y, refl)
  else_there None p x is = (x, is)

  both_there : {A : Type 0} (test : A → A → Bool) (o p : Option A) (x y : A) → o ≡ Some x → p ≡ Some y → both test o p ≡ Some (test x y)
  both_there test o p x y is same =
      let P : Option _ → Type 0 = λ q. both test q p ≡ Some (test x y) in
      let Q : Option _ → Type 0 = λ q. both test (Some x) q ≡ Some (test x y) in
      subst P (sym is) (subst Q (sym same) refl)

  equality_there : (c : Comparison) (same : Bool) → is_equality c ≡ true → (b : Bool) × (equality c same ≡ Some b)
  equality_there comparison.Equal same can = (same, refl)
  equality_there comparison.NotEqual same can = (not same, refl)
  equality_there comparison.Less same can = absurd cc
  equality_there comparison.LessOrEqual same can = absurd cc
  equality_there comparison.Greater same can = absurd cc
  equality_there comparison.GreaterOrEqual same can = absurd cc

  ints_compared : (c : Comparison) (a b : Datum) → HasKind types int_kind a → HasKind types int_kind b → (x : Bool) × (compared_in c a b ≡ Some x)
  ints_compared c a b h g =
      let x = int_given a h in
      let y = int_given b g in
      (compared_ints c x.0 y.0, ap (λ o. or_else o (option_and_then (equality c) (same_in a b))) (both_there (compared_ints c) (int_of a) (int_of b) x.0 y.0 x.1 y.1))

  same_compared : (c : Comparison) (a b : Datum) (same : Bool) → is_equality c ≡ true → same_in a b ≡ Some same → (x : Bool) × (compared_in c a b ≡ Some x)
  same_compared c a b same can is =
      let e = equality_there c same can in
      else_there (both (compared_ints c) (int_of a) (int_of b)) (option_and_then (equality c) (same_in a b)) e.0 (ap (option_and_then (equality c)) is ∙ e.1)

  bools_same : (a b : Datum) → HasKind types bool_kind a → HasKind types bool_kind b → (x : Bool) × (same_in a b ≡ Some x)
  bools_same a b h g =
      let x = bool_given a h in
      let y = bool_given b g in
      (same_bool x.0 y.0, ap (λ o. or_else o (both bytes_eq (bytes_of_datum a) (bytes_of_datum b))) (both_there same_bool (bool_of a) (bool_of b) x.0 y.0 x.1 y.1))

  bytes_same : (a b : Datum) → HasKind types bytes_kind a → HasKind types bytes_kind b → (x : Bool) × (same_in a b ≡ Some x)
  bytes_same a b h g =
      let x = bytes_given a h in
      let y = bytes_given b g in
      else_there (both same_bool (bool_of a) (bool_of b)) (both bytes_eq (bytes_of_datum a) (bytes_of_datum b)) (bytes_eq x.0 y.0) (both_there bytes_eq (bytes_of_datum a) (bytes_of_datum b) x.0 y.0 x.1 y.1)

  compared_there : (c : Comparison) (k : Kind) (a b : Datum) → compares c k ≡ true → HasKind types k a → HasKind types k b → (x : Bool) × (compared_in c a b ≡ Some x)
  compared_there c k a b can h g = by_int (same_kind k int_kind) refl can
    where
      by_bool : (p : Bool) → p ≡ same_kind k bool_kind → is_equality c ≡ true → p || same_kind k bytes_kind ≡ true → (x : Bool) × (compared_in c a b ≡ Some x)
      by_bool true is equal any =
          let same : k ≡ bool_kind = same_kind_is k bool_kind (sym is) in
          let P : Kind → Type 0 = λ i. HasKind types i a in
          let Q : Kind → Type 0 = λ i. HasKind types i b in
          let found = bools_same a b (subst P same h) (subst Q same g) in
          same_compared c a b found.0 equal found.1
      by_bool false is equal any =
          let same : k ≡ bytes_kind = same_kind_is k bytes_kind any in
          let P : Kind → Type 0 = λ i. HasKind types i a in
          let Q : Kind → Type 0 = λ i. HasKind types i b in
          let found = bytes_same a b (subst P same h) (subst Q same g) in
          same_compared c a b found.0 equal found.1

      by_int : (p : Bool) → p ≡ same_kind k int_kind → p || is_equality c && (same_kind k bool_kind || same_kind k bytes_kind) ≡ true → (x : Bool) × (compared_in c a b ≡ Some x)
      by_int true is any =
          let same : k ≡ int_kind = same_kind_is k int_kind (sym is) in
          let P : Kind → Type 0 = λ i. HasKind types i a in
          let Q : Kind → Type 0 = λ i. HasKind types i b in
          ints_compared c a b (subst P same h) (subst Q same g)
      by_int false is any =
          let both_are = true_and (is_equality c) (same_kind k bool_kind || same_kind k bytes_kind) any in
          by_bool (same_kind k bool_kind) refl both_are.0 both_are.1

  pub compared_sound : (c : Comparison) (k : Kind) (place : ℕ) (a b : Datum) → compares c k ≡ true → HasKind types k a → HasKind types k b
      → Sound (HasKind types bool_kind) (binary (two.Compared c) place a b)
  compared_sound c k place a b can h g =
      let found = compared_there c k a b can h g in
      sound_there (HasKind types bool_kind) cause.Misfit place (compared_in c a b) found.0 (λ holds. gives (truth holds)) found.1 (bool_has found.0)

  -- ---- chains

  bools_linked : (place : ℕ) (a b : Datum) → HasKind types bool_kind a → HasKind types bool_kind b → Sound (HasKind types bool_kind) (right_bool place a b)
  bools_linked place a b h g =
      let x = bool_given a h in
      let y = bool_given b g in
      sound_there (HasKind types bool_kind) cause.Misfit place (bool_of a) x.0 (λ c. given_bool place b >>= λ d. gives (truth d)) x.1
      (sound_there (HasKind types bool_kind) cause.Misfit place (bool_of b) y.0 (λ d. gives (truth d)) y.1 (bool_has y.0))

  ints_linked : (op : Operator) (place : ℕ) (a b : Datum) → ((x y : ℤ) → Sound (λ n. Unit {0}) (computed op x y place)) → HasKind types int_kind a → HasKind types int_kind b
      → Sound (HasKind types int_kind) (arithmetic op place a b)
  ints_linked op place a b can h g =
      let x = int_given a h in
      let y = int_given b g in
      sound_there (HasKind types int_kind) cause.Misfit place (int_of a) x.0 (λ m. given_int place b >>= λ n. computed op m n place >>= λ z. gives (int z)) x.1
      (sound_there (HasKind types int_kind) cause.Misfit place (int_of b) y.0 (λ n. computed op x.0 n place >>= λ z. gives (int z)) y.1
      (int_sound (computed op x.0 y.0 place) (can x.0 y.0)))

  divided_sound : (place : ℕ) (x y : ℤ) → Sound (λ n. Unit {0}) (divided x y place)
  divided_sound place x y = sound_cond (λ n. Unit {0}) (int_eq y (pos 0)) (traps cause.Divisor place) (ranged (int_div x y) place) (λ is. cc) (ranged_sound (int_div x y) place)

  pub linked_sound : (r : Rank) (op : Operator) (place : ℕ) (a b : Datum) → is_of_rank r op ≡ true → HasKind types (kind_of_rank r) a → HasKind types (kind_of_rank r) b
      → Sound (HasKind types (kind_of_rank r)) (binary (two.Linked op) place a b)
  linked_sound rank.Or operator.Or place a b of h g = bools_linked place a b h g
  linked_sound rank.And operator.And place a b of h g = bools_linked place a b h g
  linked_sound rank.Sum operator.Plus place a b of h g = ints_linked operator.Plus place a b (λ x y. ranged_sound (x +ℤ y) place) h g
  linked_sound rank.Sum operator.Minus place a b of h g = ints_linked operator.Minus place a b (λ x y. ranged_sound (x -ℤ y) place) h g
  linked_sound rank.Product operator.Times place a b of h g = ints_linked operator.Times place a b (λ x y. ranged_sound (x *ℤ y) place) h g
  linked_sound rank.Product operator.Divide place a b of h g = ints_linked operator.Divide place a b (divided_sound place) h g
  linked_sound rank.Product operator.Remainder place a b of h g =
      ints_linked operator.Remainder place a b
      (λ x y. sound_bind (λ n. Unit {0}) (λ n. Unit {0}) (divided x y place) (λ q. gives (int_rem x y)) (divided_sound place x y) (λ q _. tt)) h g
  linked_sound rank.Or operator.And place a b of h g = absurd cc
  linked_sound rank.Or operator.Plus place a b of h g = absurd cc
  linked_sound rank.Or operator.Minus place a b of h g = absurd cc
  linked_sound rank.Or operator.Times place a b of h g = absurd cc
  linked_sound rank.Or operator.Divide place a b of h g = absurd cc
  linked_sound rank.Or operator.Remainder place a b of h g = absurd cc
  linked_sound rank.And operator.Or place a b of h g = absurd cc
  linked_sound rank.And operator.Plus place a b of h g = absurd cc
  linked_sound rank.And operator.Minus place a b of h g = absurd cc
  linked_sound rank.And operator.Times place a b of h g = absurd cc
  linked_sound rank.And operator.Divide place a b of h g = absurd cc
  linked_sound rank.And operator.Remainder place a b of h g = absurd cc
  linked_sound rank.Sum operator.Or place a b of h g = absurd cc
  linked_sound rank.Sum operator.And place a b of h g = absurd cc
  linked_sound rank.Sum operator.Times place a b of h g = absurd cc
  linked_sound rank.Sum operator.Divide place a b of h g = absurd cc
  linked_sound rank.Sum operator.Remainder place a b of h g = absurd cc
  linked_sound rank.Product operator.Or place a b of h g = absurd cc
  linked_sound rank.Product operator.And place a b of h g = absurd cc
  linked_sound rank.Product operator.Plus place a b of h g = absurd cc
  linked_sound rank.Product operator.Minus place a b of h g = absurd cc

  -- ---- lists that are made

  pub with_item_sound : (b : Base) (lists place : ℕ) (vs : List Value) (d : Datum) → list_all (is_list_of b lists) vs ≡ true → HasKind types (kind.Value b lists) d
      → Sound (λ more. list_all (is_list_of b lists) more ≡ true) (with_item place vs d)
  with_item_sound b lists place vs d all h =
      let v = value_given b lists d h in
      sound_there (λ more. list_all (is_list_of b lists) more ≡ true) cause.Misfit place (plain_of d) v.0 (λ w. gives (vs ++ w ∷ [])) v.1
      (list_all-append (is_list_of b lists) vs (v.0 ∷ []) ∙ ap (λ (x : Bool). x && (is_list_of b lists v.0 && true)) all ∙ ap (λ (x : Bool). x && true) v.2)

  pub listed_sound : (b : Base) (lists : ℕ) (vs : List Value) (place : ℕ) → list_all (is_list_of b lists) vs ≡ true → Sound (HasKind types (kind.Value b (lists + 1))) (list_of vs place)
  listed_sound b lists vs place all =
      let e : suc lists ≡ lists + 1 = omega arith in
      let P : ℕ → Type 0 = λ n. Sound (HasKind types (kind.Value b n)) (list_of vs place) in
      subst P e (list_of_sound b lists vs place all)

  -- the empty list is of each kind of lists
  pub empty_has : (b : Base) (lists : ℕ) → nat_lt 0 lists ≡ true → HasKind types (kind.Value b lists) (Plain (value.List []))
  empty_has b zero is = absurd cc
  empty_has b (suc lists) is = list_has b lists [] refl

  -- ---- items

  abbrev pub AllHave : Kind → List Datum → Type 0
  AllHave k [] = Unit {0}
  AllHave k (d ∷ ds) = HasKind types k d × AllHave k ds

  have_at : (k : Kind) (ds : List Datum) (n : ℕ) (x : Datum) → AllHave k ds → slice_get ds n ≡ Some x → HasKind types k x
  have_at k [] n x all at = absurd cc
  have_at k (d ∷ ds) zero x all at = let P : Datum → Type 0 = λ y. HasKind types k y in subst P (some_is d x at) all.0
  have_at k (d ∷ ds) (suc n) x all at = have_at k ds n x all.1 at

  plain_have : (b : Base) (lists : ℕ) (vs : List Value) → list_all (is_list_of b lists) vs ≡ true → AllHave (kind.Value b lists) (map (λ v. Plain v) vs)
  plain_have b lists [] all = tt
  plain_have b lists (v ∷ vs) all = let two_are = true_and (is_list_of b lists v) (list_all (is_list_of b lists) vs) all in (two_are.0, plain_have b lists vs two_are.1)

  objects_have : (n : ℕ) (os : List Object) → AreObjects types n os → AllHave (kind.Object n) (map (λ o. One o) os)
  objects_have n [] all = tt
  objects_have n (o ∷ os) all = (all.0, objects_have n os all.1)

  pub take_have : (k : Kind) (n : ℕ) (ds : List Datum) → AllHave k ds → AllHave k (take n ds)
  take_have k zero ds all = tt
  take_have k (suc n) [] all = tt
  take_have k (suc n) (d ∷ ds) all = (all.0, take_have k n ds all.1)

  if_some : {A : Type 0} (b : Bool) (o : Option A) (x : A) → cond b o None ≡ Some x → o ≡ Some x
  if_some true o x is = is
  if_some false o x is = absurd cc

  pub items_there : (k i : Kind) (d : Datum) → item_kind k ≡ Some i → HasKind types k d → (ds : List Datum) × (items_of d ≡ Some ds) × AllHave i ds
  items_there (kind.Value b zero) i d is h = absurd cc
  items_there (kind.Value b (suc lists)) i (Plain v) is h =
      let all = list_there b lists (out-Value v) h in
      let e : lists ≡ suc lists - 1 = omega arith in
      let P : Kind → Type 0 = λ j. AllHave j (map (λ w. Plain w) all.0) in
      let Q : ℕ → Type 0 = λ n. AllHave (kind.Value b n) (map (λ w. Plain w) all.0) in (
        map (λ w. Plain w) all.0,
        ap (λ (y : Value-F Value). plain_each (values_in y)) all.1,
        subst P (some_is (kind.Value b (suc lists - 1)) i (if_some (nat_lt 0 (suc lists)) (Some (kind.Value b (suc lists - 1))) i is)) (subst Q e (plain_have b lists all.0 all.2)),
      )
  items_there (kind.Value b (suc lists)) i (One o) is h = absurd h
  items_there (kind.Value b (suc lists)) i (Many os) is h = absurd h
  items_there (kind.Object m) i d is h = absurd cc
  items_there (kind.Objects m) i (Plain v) is h = absurd h
  items_there (kind.Objects m) i (One o) is h = absurd h
  items_there (kind.Objects m) i (Many os) is h =
      let P : Kind → Type 0 = λ j. AllHave j (map (λ o. One o) os) in
      (map (λ o. One o) os, refl, subst P (some_is (kind.Object m) i is) (objects_have m os h))

  at_place : (k : Kind) (ds : List Datum) (z : ℤ) (x : Datum) → AllHave k ds → item_at ds z ≡ Some x → HasKind types k x
  at_place k ds (pos n) x all at = have_at k ds n x all at
  at_place k ds (negsuc n) x all at = absurd cc

  pub indexed_sound : (k i : Kind) (place : ℕ) (d at : Datum) → item_kind k ≡ Some i → HasKind types k d → HasKind types int_kind at → Sound (HasKind types i) (binary two.Index place d at)
  indexed_sound k i place d at is h g =
      let items = items_there k i d is h in
      let z = int_given at g in
      sound_there (HasKind types i) cause.Misfit place (items_of d) items.0 (λ ds. given_int place at >>= λ n. or_trap cause.Place place (item_at ds n)) items.1
      (sound_there (HasKind types i) cause.Misfit place (int_of at) z.0 (λ n. or_trap cause.Place place (item_at items.0 n)) z.1
      (sound_other (HasKind types i) cause.Place place (item_at items.0 z.0) (λ same. cc) (λ x there. at_place i items.0 z.0 x items.2 there)))
