-- Expressions of kinds: what is judged of one has that kind, and no value of a wrong kind is met.
use Rattle.std.proofs.Common.{◌≡◌, ℕ, zero, suc, ◌+◌, ◌<◌, Bool, true, false, cond, Option, None, Some, Result, Ok, Err, List, [], ◌∷◌, map, length, refl, sym, ap, ◌∙◌, subst, arith}
use Rattle.std.specs.Prelude.{nat_lt, not, ◌&&◌, slice_get, position}
use Rattle.std.specs.List.{list_all, position_or_len}
use Rattle.std.proofs.lemmas.Bool.Decides.{nat_tests}
use Rattle.cs_lang_token.specs.declared.limits.TheConstants.{MOST_ITEMS, MOST_LISTS}
use Rattle.cs_lang_token.specs.Grammar.{◌>>=◌ as ◌>>-◌}
use Rattle.cs_lang_token.specs.declared.token.Text.{Text}
use Rattle.cs_lang.specs.declared.tree.ValueKind.{ValueKind}
use Rattle.cs_lang.specs.declared.tree.Rank.{Rank}
use Rattle.cs_lang.specs.declared.tree.Comparison.{Comparison}
use Rattle.cs_lang.specs.declared.tree.Field.{Field}
use Rattle.cs_lang.specs.declared.tree.TypeDef.{TypeDef}
use Rattle.cs_lang.specs.Fits.{is_of_rank}
use Rattle.cs_tx_value.specs.declared.object.Object.{Object}
use Rattle.cs_tx_value.specs.declared.value.Value.{Value}
use Rattle.cs_tx_value.specs.declared.value.Value.TheVariants as value
use Rattle.cs_types_kinds.specs.declared.kind.Kind.{Kind}
use Rattle.cs_types_kinds.specs.declared.kind.Kind.TheVariants as kind
use Rattle.cs_types_kinds.specs.declared.kind.Base.{Base}
use Rattle.cs_types_kinds.specs.declared.scope.Seen.{Seen}
use Rattle.cs_types_kinds.specs.declared.expressions.Judged.{Judged}
use Rattle.cs_types_kinds.specs.declared.expressions.Items.{Items}
use Rattle.cs_types_kinds.specs.Told.{Told, mistyped, unbound, told_through as told_through, plus}
use Rattle.cs_types_kinds.specs.Kinds.{int_kind as int_kind, bool as bool_kind, bytes_kind as bytes_kind, same_kind, list_kind_of as list_of_kind, item_kind as item_kind, is_list, joins, has_length, spelled_kind}
use Rattle.cs_types_kinds.specs.Scopes.{InSight, name_seen}
use Rattle.cs_types_kinds.specs.Lookups.{method_number, or_mistyped, declared_kind, is_named_field, named_field, field_kind_in as told_field, field_kind, is_field}
use Rattle.cs_types_kinds.specs.Judging.{JudgedPart, judged, wanted, seen_judged, name_judged, empty_of, empty_judged, method_judged, called_judged, depint_judged, or_first, kind_of_list, first_item, next_item, any_item, items_of_parts, items_judged, list_judged, len_judged, sha256_judged, concat_with, concat_judged, not_judged, negative_judged, compares, comparing_cost, compared_with, compared_judged, kind_of_rank, link_added, chained, chain_judged, field_of_kind, field_judged, index_judged, step_taken, path_judged}
use Rattle.cs_eval_values.specs.declared.stop.Cause.TheVariants as cause
use Rattle.cs_eval_values.specs.declared.operators.Unary.{Unary}
use Rattle.cs_eval_values.specs.declared.operators.Unary.TheVariants as one
use Rattle.cs_eval_values.specs.declared.operators.Binary.{Binary}
use Rattle.cs_eval_values.specs.declared.operators.Binary.TheVariants as two
use Rattle.cs_eval_values.specs.declared.view.View.{View}
use Rattle.cs_eval_values.specs.Runs.{Run, gives, spend, ◌>>=◌, through, or_trap}
use Rattle.cs_eval_values.specs.Datums.{Datum, Plain, One, Many, object_of_datum}
use Rattle.cs_eval_values.specs.Operators.{int, truth, text, unary, binary, left_decides, list_of, with_item, int_number}
use Rattle.cs_eval_values.specs.Filling.{is_list_of, has_kind, values_fit}
use Rattle.cs_eval_values.specs.Views.{field_place, field_value, type_named, field_in, field_of, is_called, int_of_value, returned, returned_int}
use Rattle.cs_eval_values.specs.Namings.{Named, is_of_name, find_named, datum_in, kind_in, datum_named, kind_named}
use Rattle.cs_eval.specs.Kinds.{kind_of_field, list_kind, cost_of_comparing}
use Rattle.cs_eval.specs.Meaning.{Meant, Linking, Stepping, run_of, meant, kind_of_meant, named_run, of_one, of_right, of_two, item_run, items_run, link_run, links_run, chain_run, steps_run, path_run, steps_kind}
use Rattle.cs_eval_law.proofs.Within.{ok_is, some_is}
use Rattle.cs_eval_law.proofs.ExprFits.{told_bind}
use Rattle.cs_eval_law.proofs.Sound.{Sound, sound_spend, sound_bind, sound_there, sound_other, sound_cond}
use Rattle.cs_eval_law.proofs.Kinded.{IsObject, HasKind, same_kind_is, int_given, int_has, bool_has, bytes_has, number_sound, len_sound, hash_sound, not_sound, negative_sound, concat_sound, compared_sound, linked_sound, indexed_sound, with_item_sound, listed_sound, empty_has}

-- each name stands for something of its kind
abbrev pub AreKinded : List TypeDef → List Named → Type 0
AreKinded types [] = Unit {0}
AreKinded types (n ∷ ns) = HasKind types n.kind n.datum × AreKinded types ns

-- what is told of an expression is the kind of what it gives
abbrev pub Yields : List TypeDef → Told Judged → Meant → Type 0
Yields types told m = (j : Judged) → told ≡ Ok j → Sound (HasKind types j.kind) (run_of m)

-- ---- names

pub found_kinded : (types : List TypeDef) (ns : List Named) (name : List ℕ) (k : Kind) → AreKinded types ns → kind_named name ns ≡ Some k
    → (d : Datum) × (datum_named name ns ≡ Some d) × HasKind types k d
found_kinded types [] name k all is = absurd cc
found_kinded types (n ∷ ns) name k all is = by_test (λ h. found_kinded types ns name k all.1 h) (is_of_name name n) is
  where
    by_test : (kind_named name ns ≡ Some k → (d : Datum) × (datum_named name ns ≡ Some d) × HasKind types k d) → (b : Bool)
        → kind_in (cond b (Some n) (find_named name ns)) ≡ Some k → (d : Datum) × (datum_in (cond b (Some n) (find_named name ns)) ≡ Some d) × HasKind types k d
    by_test behind true h = let P : Kind → Type 0 = λ j. HasKind types j n.datum in (n.datum, refl, subst P (some_is n.kind k h) all.0)
    by_test behind false h = behind h

module _ (types : List TypeDef) where
  -- ---- what is told, step by step

  yields_judged : (m : Meant) (k : Kind) (c : ℕ) → Sound (HasKind types k) (run_of m) → Yields types (judged k c) m
  yields_judged m k c h j e =
      let P : Kind → Type 0 = λ i. Sound (HasKind types i) (run_of m) in
      subst P (ap (λ (i : Judged). i.kind) (ok_is (record { kind = k; cost = c }) j (judged k c) refl e)) h

  yields_bind : {A : Type 0} (t : Told A) (f : A → Told Judged) (m : Meant) → ((a : A) → t ≡ Ok a → Yields types (f a) m) → Yields types (t >>- f) m
  yields_bind (Ok a) f m h = h a refl
  yields_bind (Err e) f m h = λ j is. absurd cc

  yields_where : (b : Bool) (t : Told Judged) (place : ℕ) (m : Meant) → (b ≡ true → Yields types t m) → Yields types (cond b t (mistyped place)) m
  yields_where true t place m h = h refl
  yields_where false t place m h = λ j is. absurd cc

  yields_unless : (b : Bool) (t : Told Judged) (place : ℕ) (m : Meant) → Yields types t m → Yields types (cond b (mistyped place) t) m
  yields_unless true t place m h = λ j is. absurd cc
  yields_unless false t place m h = h

  kind_wanted : (b : Bool) (x c : ℕ) (place : ℕ) → cond b (Ok x) (mistyped place) ≡ Ok c → b ≡ true
  kind_wanted true x c place is = refl
  kind_wanted false x c place is = absurd cc

  pub yields_wanted : (k : Kind) (part : JudgedPart) (m : Meant) (c : ℕ) → Yields types part.found m → wanted k part ≡ Ok c → Sound (HasKind types k) (run_of m)
  yields_wanted k part m c h is =
      let t = told_bind part.found (λ j. cond (same_kind j.kind k) (Ok j.cost) (mistyped part.first)) c is in
      let P : Kind → Type 0 = λ i. Sound (HasKind types i) (run_of m) in
      subst P (same_kind_is t.0.kind k (kind_wanted (same_kind t.0.kind k) t.0.cost c part.first t.2)) (h t.0 t.1)

  -- ---- leaves

  pub yields_number : (n place : ℕ) → Yields types (judged int_kind 1) (meant (Some int_kind) 1 (int_number n place))
  yields_number n place = yields_judged (meant (Some int_kind) 1 (int_number n place)) int_kind 1 (sound_spend (HasKind types int_kind) 1 (int_number n place) (number_sound types n place))

  pub yields_given : (o : Option Kind) (k : Kind) (d : Datum) → HasKind types k d → Yields types (judged k 1) (meant o 1 (gives d))
  yields_given o k d h = yields_judged (meant o 1 (gives d)) k 1 h

  pub yields_name : (sight : InSight) (names : List Named) (name : List ℕ) (place : ℕ) → AreKinded types names
      → ((s : Seen) → name_seen name sight.names ≡ Some s → kind_named name names ≡ Some s.kind)
      → Yields types (name_judged sight name place) (meant (kind_named name names) 1 (named_run names name place))
  yields_name sight names name place all h = by_seen (name_seen name sight.names) h
    where
      by_seen : (o : Option Seen) → ((s : Seen) → o ≡ Some s → kind_named name names ≡ Some s.kind)
          → Yields types (seen_judged place o) (meant (kind_named name names) 1 (named_run names name place))
      by_seen None h = λ j is. absurd cc
      by_seen (Some s) h =
          let found = found_kinded types names name s.kind all (h s refl) in
          yields_judged (meant (kind_named name names) 1 (named_run names name place)) s.kind 1
          (sound_spend (HasKind types s.kind) 1 (named_run names name place)
          (let P : Option Datum → Type 0 = λ o. Sound (HasKind types s.kind) (or_trap cause.Misfit place o) in subst P (sym found.1) found.2))

  pub yields_empty : (k : ValueKind) (place : ℕ) → Yields types (empty_judged k place) (meant (spelled_kind k) 1 (gives (Plain (value.List []))))
  yields_empty k place = by_kind (spelled_kind k)
    where
      by_kind : (o : Option Kind) → Yields types (empty_of place o) (meant o 1 (gives (Plain (value.List []))))
      by_kind None = λ j is. absurd cc
      by_kind (Some (kind.Value b lists)) =
          yields_where (nat_lt 0 lists) (judged (kind.Value b lists) 1) place (meant (Some (kind.Value b lists)) 1 (gives (Plain (value.List []))))
          (λ is. yields_given (Some (kind.Value b lists)) (kind.Value b lists) (Plain (value.List [])) (empty_has types b lists is))
      by_kind (Some (kind.Object n)) = λ j is. absurd cc
      by_kind (Some (kind.Objects n)) = λ j is. absurd cc

  pub yields_called : (sight : InSight) (name : Text) (place : ℕ) (b : Bool) → Yields types (called_judged sight name place) (meant (Some bool_kind) 1 (gives (truth b)))
  yields_called sight name place b =
      yields_where sight.in_check (method_judged name.place (method_number name.bytes sight.contract.methods)) place (meant (Some bool_kind) 1 (gives (truth b)))
      (λ is. by_method (method_number name.bytes sight.contract.methods))
    where
      by_method : (o : Option ℕ) → Yields types (method_judged name.place o) (meant (Some bool_kind) 1 (gives (truth b)))
      by_method None = λ j is. absurd cc
      by_method (Some n) = yields_given (Some bool_kind) bool_kind (truth b) (bool_has types b)

  pub yields_depint : (sight : InSight) (view : View) (dep value place : ℕ) → Yields types (depint_judged sight place) (meant (Some int_kind) 1 (returned_int view dep value place))
  yields_depint sight view dep value place =
      yields_where sight.in_check (judged int_kind 1) place (meant (Some int_kind) 1 (returned_int view dep value place))
      (λ is. yields_judged (meant (Some int_kind) 1 (returned_int view dep value place)) int_kind 1
      (sound_spend (HasKind types int_kind) 1 (returned_int view dep value place)
      (sound_bind (λ n. Unit {0}) (HasKind types int_kind) (or_trap cause.Dep place (int_of_value (returned (slice_get view.deps dep) value))) (λ n. gives (int n))
      (sound_other (λ n. Unit {0}) cause.Dep place (int_of_value (returned (slice_get view.deps dep) value)) (λ same. cc) (λ n there. tt)) (λ n _. int_has types n))))

  -- ---- of one or two parts

  one_sound : (o : Option Kind) (k result : Kind) (units : ℕ) (op : Unary) (place : ℕ) (m : Meant) → Sound (HasKind types k) (run_of m)
      → ((d : Datum) → HasKind types k d → Sound (HasKind types result) (unary op place d)) → Sound (HasKind types result) (run_of (meant o units (of_one op place (run_of m))))
  one_sound o k result units op place m h g =
      sound_spend (HasKind types result) units (of_one op place (run_of m)) (sound_bind (HasKind types k) (HasKind types result) (run_of m) (unary op place) h g)

  two_sound : (o : Option Kind) (k l result : Kind) (units : ℕ) (op : Binary) (place : ℕ) (m n : Meant) → Sound (HasKind types k) (run_of m) → Sound (HasKind types l) (run_of n)
      → ((a b : Datum) → HasKind types k a → HasKind types l b → Sound (HasKind types result) (binary op place a b))
      → Sound (HasKind types result) (run_of (meant o units (of_two op place (run_of m) (run_of n))))
  two_sound o k l result units op place m n h g f =
      sound_spend (HasKind types result) units (of_two op place (run_of m) (run_of n))
      (sound_bind (HasKind types k) (HasKind types result) (run_of m) (λ a. of_right op place a (run_of n)) h
      (λ a ha. sound_bind (HasKind types l) (HasKind types result) (run_of n) (binary op place a) g (λ b hb. f a b ha hb)))

  pub yields_len : (part : JudgedPart) (m : Meant) (place : ℕ) → Yields types part.found m → Yields types (len_judged part) (meant (Some int_kind) 1 (of_one one.Len place (run_of m)))
  yields_len part m place h =
      let n : Meant = meant (Some int_kind) 1 (of_one one.Len place (run_of m)) in
      yields_bind part.found (λ j. cond (has_length j.kind) (judged int_kind (plus j.cost 1)) (mistyped part.first)) n
      (λ j is. yields_where (has_length j.kind) (judged int_kind (plus j.cost 1)) part.first n
      (λ long. yields_judged n int_kind (plus j.cost 1) (one_sound (Some int_kind) j.kind int_kind 1 one.Len place m (h j is) (λ d has. len_sound types j.kind place d long has))))

  of_wanted : (k : Kind) (units : ℕ) (op : Unary) (result : Kind) (part : JudgedPart) (m : Meant) (place : ℕ) → Yields types part.found m
      → ((d : Datum) → HasKind types k d → Sound (HasKind types result) (unary op place d))
      → Yields types (wanted k part >>- λ c. judged result (plus c units)) (meant (Some result) units (of_one op place (run_of m)))
  of_wanted k units op result part m place h g =
      let n : Meant = meant (Some result) units (of_one op place (run_of m)) in
      yields_bind (wanted k part) (λ c. judged result (plus c units)) n
      (λ c is. yields_judged n result (plus c units) (one_sound (Some result) k result units op place m (yields_wanted k part m c h is) g))

  pub yields_sha256 : (part : JudgedPart) (m : Meant) (place : ℕ) → Yields types part.found m → Yields types (sha256_judged part) (meant (Some bytes_kind) 17 (of_one one.Sha256 place (run_of m)))
  yields_sha256 part m place h = of_wanted bytes_kind 17 one.Sha256 bytes_kind part m place h (λ d has. hash_sound types place d has)

  pub yields_not : (part : JudgedPart) (m : Meant) (place : ℕ) → Yields types part.found m → Yields types (not_judged part) (meant (Some bool_kind) 1 (of_one one.Not place (run_of m)))
  yields_not part m place h = of_wanted bool_kind 1 one.Not bool_kind part m place h (λ d has. not_sound types place d has)

  pub yields_negative : (part : JudgedPart) (m : Meant) (place : ℕ) → Yields types part.found m → Yields types (negative_judged part) (meant (Some int_kind) 1 (of_one one.Negative place (run_of m)))
  yields_negative part m place h = of_wanted int_kind 1 one.Negative int_kind part m place h (λ d has. negative_sound types place d has)

  pub yields_concat : (front back : JudgedPart) (m n : Meant) (place : ℕ) → Yields types front.found m → Yields types back.found n
      → Yields types (concat_judged front back) (meant m.kind 17 (of_two two.Concat place (run_of m) (run_of n)))
  yields_concat front back m n place h g =
      let w : Meant = meant m.kind 17 (of_two two.Concat place (run_of m) (run_of n)) in
      yields_bind front.found (λ j. concat_with j front.first back) w
      (λ j is. yields_where (joins j.kind) (wanted j.kind back >>- λ c. judged j.kind (plus (plus j.cost c) 17)) front.first w
      (λ can. yields_bind (wanted j.kind back) (λ c. judged j.kind (plus (plus j.cost c) 17)) w
      (λ c told. yields_judged w j.kind (plus (plus j.cost c) 17)
      (two_sound m.kind j.kind j.kind j.kind 17 two.Concat place m n (h j is) (yields_wanted j.kind back n c g told)
      (λ a b ha hb. concat_sound types j.kind place a b can ha hb)))))

  pub yields_compared : (c : Comparison) (left right : JudgedPart) (m n : Meant) (place : ℕ) → Yields types left.found m → Yields types right.found n
      → Yields types (compared_judged c left right) (meant (Some bool_kind) (cost_of_comparing m.kind) (of_two (two.Compared c) place (run_of m) (run_of n)))
  yields_compared c left right m n place h g =
      let w : Meant = meant (Some bool_kind) (cost_of_comparing m.kind) (of_two (two.Compared c) place (run_of m) (run_of n)) in
      yields_bind left.found (λ j. compared_with c j left.first right) w
      (λ j is. yields_where (compares c j.kind) (wanted j.kind right >>- λ d. judged bool_kind (plus (plus j.cost d) (comparing_cost j.kind))) left.first w
      (λ can. yields_bind (wanted j.kind right) (λ d. judged bool_kind (plus (plus j.cost d) (comparing_cost j.kind))) w
      (λ d told. yields_judged w bool_kind (plus (plus j.cost d) (comparing_cost j.kind))
      (two_sound (Some bool_kind) j.kind j.kind bool_kind (cost_of_comparing m.kind) (two.Compared c) place m n (h j is) (yields_wanted j.kind right n d g told)
      (λ a b ha hb. compared_sound types c j.kind place a b can ha hb)))))

  -- ---- chains

  -- each right operand with its link, whose operator is of the rank
  abbrev pub AllLinks : Rank → List JudgedPart → List Linking → Type 0
  AllLinks r [] [] = Unit {0}
  AllLinks r [] (l ∷ ls) = ⊥
  AllLinks r (p ∷ ps) [] = ⊥
  AllLinks r (p ∷ ps) (l ∷ ls) = (Yields types p.found l.right × (is_of_rank r l.operator ≡ true)) × AllLinks r ps ls

  links_sound : (r : Rank) (parts : List JudgedPart) (ls : List Linking) → AllLinks r parts ls → (c sum : ℕ) → told_through (link_added (kind_of_rank r)) c parts ≡ Ok sum
      → (left : Datum) → HasKind types (kind_of_rank r) left → Sound (HasKind types (kind_of_rank r)) (links_run ls left)
  links_sound r [] [] all c sum is left h = h
  links_sound r [] (l ∷ ls) all c sum is left h = absurd all
  links_sound r (p ∷ ps) [] all c sum is left h = absurd all
  links_sound r (p ∷ ps) (l ∷ ls) all c sum is left h =
      let k : Kind = kind_of_rank r in
      let first = told_bind (link_added k c p) (λ b. told_through (link_added k) b ps) sum is in
      let want = told_bind (wanted k p) (λ d. Ok (plus c (plus d 1))) first.0 first.1 in
      sound_bind (HasKind types k) (HasKind types k) (link_run left l) (λ d. links_run ls d)
      (sound_cond (HasKind types k) (left_decides l.operator left) (gives left) (of_right (two.Linked l.operator) l.place left (run_of l.right)) h
      (sound_bind (HasKind types k) (HasKind types k) (run_of l.right) (binary (two.Linked l.operator) l.place left) (yields_wanted k p l.right want.0 all.0.0 want.1)
      (λ d hd. linked_sound types r l.operator l.place left d all.0.1 h hd)))
      (λ d hd. links_sound r ps ls all.1 first.0 sum first.2 d hd)

  pub yields_chain : (r : Rank) (start : JudgedPart) (m : Meant) (parts : List JudgedPart) (ls : List Linking) → Yields types start.found m → AllLinks r parts ls
      → Yields types (chain_judged r start parts) (meant (Some (kind_of_rank r)) (length ls) (chain_run (run_of m) ls))
  yields_chain r start m parts ls h all =
      let k : Kind = kind_of_rank r in
      let n : Meant = meant (Some k) (length ls) (chain_run (run_of m) ls) in
      yields_bind (wanted k start) (λ c. chained k c parts) n
      (λ c is. yields_bind (told_through (link_added k) c parts) (λ sum. judged k sum) n
      (λ sum told. yields_judged n k sum
      (sound_spend (HasKind types k) (length ls) (chain_run (run_of m) ls)
      (sound_bind (HasKind types k) (HasKind types k) (run_of m) (links_run ls) (yields_wanted k start m c h is) (λ d hd. links_sound r parts ls all c sum told d hd)))))

  -- ---- paths

  abbrev pub StepYields : (Judged → Told Judged) → Stepping → Type 0
  StepYields told s = (j i : Judged) → told j ≡ Ok i → (d : Datum) → HasKind types j.kind d → Sound (HasKind types i.kind) (s.run d)

  abbrev pub AllSteps : List (Judged → Told Judged) → List Stepping → Type 0
  AllSteps [] [] = Unit {0}
  AllSteps [] (s ∷ ss) = ⊥
  AllSteps (t ∷ ts) [] = ⊥
  AllSteps (t ∷ ts) (s ∷ ss) = StepYields t s × AllSteps ts ss

  steps_sound : (ts : List (Judged → Told Judged)) (ss : List Stepping) → AllSteps ts ss → (j i : Judged) → told_through step_taken j ts ≡ Ok i
      → (d : Datum) → HasKind types j.kind d → Sound (HasKind types i.kind) (steps_run ss d)
  steps_sound [] [] all j i is d h = let P : Judged → Type 0 = λ x. HasKind types x.kind d in subst P (ok_is j i (Ok j) refl is) h
  steps_sound [] (s ∷ ss) all j i is d h = absurd all
  steps_sound (t ∷ ts) [] all j i is d h = absurd all
  steps_sound (t ∷ ts) (s ∷ ss) all j i is d h =
      let first = told_bind (t j) (λ b. told_through step_taken b ts) i is in
      sound_bind (HasKind types first.0.kind) (HasKind types i.kind) (s.run d) (λ e. steps_run ss e) (all.0 j first.0 first.1 d h)
      (λ e he. steps_sound ts ss all.1 first.0 i first.2 e he)

  pub yields_path : (start : JudgedPart) (m : Meant) (ts : List (Judged → Told Judged)) (ss : List Stepping) → Yields types start.found m → AllSteps ts ss
      → Yields types (path_judged start ts) (meant (steps_kind m.kind ss) (length ss) (path_run (run_of m) ss))
  yields_path start m ts ss h all i is =
      let found = told_bind start.found (λ j. told_through step_taken j ts) i is in
      sound_spend (HasKind types i.kind) (length ss) (path_run (run_of m) ss)
      (sound_bind (HasKind types found.0.kind) (HasKind types i.kind) (run_of m) (steps_run ss) (h found.0 found.1) (λ d hd. steps_sound ts ss all found.0 i found.2 d hd))

  some_first : (o : Option Kind) (first : ℕ) (l : Kind) → or_first first o ≡ Ok l → o ≡ Some l
  some_first None first l is = absurd cc
  some_first (Some k) first l is = ap (λ (x : Kind). Some x) (ok_is k l (Ok k) refl is)

  pub yields_index : (index : JudgedPart) (m : Meant) (first place : ℕ) → Yields types index.found m
      → StepYields (index_judged index first) (record { kind = item_kind; run = λ d. of_right two.Index place d (run_of m) })
  yields_index index m first place h j i is d hd =
      let item = told_bind (or_first first (item_kind j.kind)) (λ k. wanted int_kind index >>- λ c. judged k (plus (plus j.cost c) 1)) i is in
      let want = told_bind (wanted int_kind index) (λ c. judged item.0 (plus (plus j.cost c) 1)) i item.2 in
      let made : record { kind = item.0; cost = plus (plus j.cost want.0) 1 } ≡ i = ok_is _ i _ refl want.2 in
      let P : Judged → Type 0 = λ x. Sound (HasKind types x.kind) (of_right two.Index place d (run_of m)) in
      subst P made
      (sound_bind (HasKind types int_kind) (HasKind types item.0) (run_of m) (binary two.Index place d) (yields_wanted int_kind index m want.0 h want.1)
      (λ e he. indexed_sound types j.kind item.0 place d e (some_first (item_kind j.kind) first item.0 item.1) hd he))

-- ---- fields

declared_is : (o : Option Kind) (place : ℕ) (k : Kind) → or_mistyped place o ≡ Ok k → o ≡ Some k
declared_is None place k is = absurd cc
declared_is (Some l) place k is = ap (λ (x : Kind). Some x) (ok_is l k (Ok l) refl is)

and_both : (a b : Bool) → a && b ≡ true → (a ≡ true) × (b ≡ true)
and_both true b is = (refl, is)
and_both false b is = absurd cc

field_at : (name : Text) (fs : List Field) (vs : List Value) (k : Kind) → named_field name fs ≡ Ok k → values_fit fs vs ≡ true
    → (v : Value) × (slice_get vs (position_or_len (is_field name.bytes) fs) ≡ Some v) × (position_or_len (is_field name.bytes) fs < length fs) × (has_kind (Some k) v ≡ true)
field_at name [] vs k told fit = absurd cc
field_at name (f ∷ fs) [] k told fit = absurd cc
field_at name (f ∷ fs) (v ∷ vs) k told fit =
    let both_fit = and_both (has_kind (spelled_kind f.kind) v) (values_fit fs vs) fit in
    by_test (λ h. field_at name fs vs k h both_fit.1) both_fit.0 (is_named_field name f) told
  where
    Found : List Value → ℕ → ℕ → Type 0
    Found ws n most = (w : Value) × (slice_get ws n ≡ Some w) × (n < most) × (has_kind (Some k) w ≡ true)

    by_test : (named_field name fs ≡ Ok k → Found vs (position_or_len (is_field name.bytes) fs) (length fs)) → has_kind (spelled_kind f.kind) v ≡ true → (b : Bool)
        → cond b (declared_kind name.place f.kind) (named_field name fs) ≡ Ok k → Found (v ∷ vs) (cond (not b) (1 + position_or_len (is_field name.bytes) fs) 0) (length (f ∷ fs))
    by_test behind has true h = (v, refl, omega arith, ap (λ o. has_kind o v) (sym (declared_is (spelled_kind f.kind) name.place k h)) ∙ has)
    by_test behind has false h =
        let rest = behind h in
        let e : suc (position_or_len (is_field name.bytes) fs) ≡ 1 + position_or_len (is_field name.bytes) fs = omega arith in
        (rest.0, ap (λ (i : ℕ). slice_get (v ∷ vs) i) (sym e) ∙ rest.1, omega (arith, rest.2), rest.3)

field_there : (name : Text) (fs : List Field) (vs : List Value) (k : Kind) → named_field name fs ≡ Ok k → values_fit fs vs ≡ true
    → (v : Value) × (field_value vs (position (is_field name.bytes) fs) ≡ Some v) × (has_kind (Some k) v ≡ true)
field_there name fs vs k told fit =
    let found = field_at name fs vs k told fit in
    let within : nat_lt (position_or_len (is_field name.bytes) fs) (length fs) ≡ true = grind (arith, nat_tests, found.2) in
    (found.0, ap (λ b. field_value vs (cond b (Some (position_or_len (is_field name.bytes) fs)) None)) within ∙ found.1, found.3)

pub value_kinded : (types : List TypeDef) (k : Kind) (v : Value) → has_kind (Some k) v ≡ true → HasKind types k (Plain v)
value_kinded types (kind.Value b lists) v is = is
value_kinded types (kind.Object n) v is = absurd cc
value_kinded types (kind.Objects n) v is = absurd cc

told_of : (name : Text) (o : Option TypeDef) (t : TypeDef) (k : Kind) → o ≡ Some t → told_field name o ≡ Ok k → named_field name t.fields ≡ Ok k
told_of name o t k is told = ap (told_field name) (sym is) ∙ told

pub yields_field : (sight : InSight) (name : Text) (first place : ℕ)
    → StepYields sight.contract.types (field_judged sight name first) (record { kind = kind_of_field sight.contract name; run = field_of sight.contract.types name.bytes place })
yields_field sight name first place j i is d hd =
    let found = told_bind (field_of_kind sight name j.kind first) (λ k. judged k (plus j.cost 1)) i is in
    let made : record { kind = found.0; cost = plus j.cost 1 } ≡ i = ok_is _ i _ refl found.2 in
    let P : Judged → Type 0 = λ x. Sound (HasKind sight.contract.types x.kind) (field_of sight.contract.types name.bytes place d) in
    subst P made (by_kind j.kind d hd found.0 found.1)
  where
    by_kind : (k : Kind) (e : Datum) → HasKind sight.contract.types k e → (l : Kind) → field_of_kind sight name k first ≡ Ok l
        → Sound (HasKind sight.contract.types l) (field_of sight.contract.types name.bytes place e)
    by_kind (kind.Value b lists) e h l told = absurd cc
    by_kind (kind.Objects n) e h l told = absurd cc
    by_kind (kind.Object n) (Plain v) h l told = absurd h
    by_kind (kind.Object n) (Many os) h l told = absurd h
    by_kind (kind.Object n) (One o) h l told =
        let t = h.0 in
        let there = field_there name t.fields o.values l (told_of name (slice_get sight.contract.types n) t l h.1 told) h.3 in
        let at : field_in sight.contract.types name.bytes o ≡ Some there.0 =
        ap (λ (p : Option TypeDef). field_value o.values (field_place name.bytes p)) h.2 ∙ there.1 in
        sound_there (HasKind sight.contract.types l) cause.Misfit place (object_of_datum (One o)) o
        (λ p. or_trap cause.Misfit place (field_in sight.contract.types name.bytes p) >>= λ v. gives (Plain v)) refl
        (sound_there (HasKind sight.contract.types l) cause.Misfit place (field_in sight.contract.types name.bytes o) there.0 (λ v. gives (Plain v)) at
        (value_kinded sight.contract.types l there.0 there.2))

-- ---- lists

abbrev pub AllYield : List TypeDef → List JudgedPart → List Meant → Type 0
AllYield types [] [] = Unit {0}
AllYield types [] (m ∷ ms) = ⊥
AllYield types (p ∷ ps) [] = ⊥
AllYield types (p ∷ ps) (m ∷ ms) = Yields types p.found m × AllYield types ps ms

-- the kind of a list is told by its first item
list_kept : (place : ℕ) (parts : List JudgedPart) (so_far : Items) (o : Option Items) → told_through (any_item place) (Some so_far) parts ≡ Ok o
    → (items : Items) × (o ≡ Some items) × (items.list ≡ so_far.list)
list_kept place [] so_far o is = (so_far, sym (ok_is (Some so_far) o (Ok (Some so_far)) refl is), refl)
list_kept place (p ∷ ps) so_far o is =
    let first = told_bind (any_item place (Some so_far) p) (λ b. told_through (any_item place) b ps) o is in
    let next = told_bind (next_item so_far p) (λ items. Ok (Some items)) first.0 first.1 in
    let want = told_bind (wanted so_far.item p) (λ c. Ok (record { item = so_far.item; list = so_far.list; sum = plus so_far.sum c })) next.0 next.1 in
    let made : record { item = so_far.item; list = so_far.list; sum = plus so_far.sum want.0 } ≡ next.0 = ok_is _ next.0 _ refl want.2 in
    let rest = list_kept place ps next.0 o (ap (λ (b : Option Items). told_through (any_item place) b ps) (ok_is (Some next.0) first.0 (Ok (Some next.0)) refl next.2) ∙ first.2) in
    (rest.0, rest.1, rest.2 ∙ sym (ap (λ (i : Items). i.list) made))

module _ (types : List TypeDef) (b : Base) (lists place : ℕ) where
  abbrev Listed : List Value → Type 0
  Listed vs = list_all (is_list_of b lists) vs ≡ true

  item_sound : (vs : List Value) (m : Meant) → Listed vs → Sound (HasKind types (kind.Value b lists)) (run_of m) → Sound Listed (item_run place vs (run_of m))
  item_sound vs m all h =
      sound_bind (HasKind types (kind.Value b lists)) Listed (run_of m) (with_item place vs) h (λ d hd. with_item_sound types b lists place vs d all hd)

  items_sound : (parts : List JudgedPart) (ms : List Meant) → AllYield types parts ms → (so_far : Items) → so_far.item ≡ kind.Value b lists → (o : Option Items)
      → told_through (any_item place) (Some so_far) parts ≡ Ok o → (vs : List Value) → Listed vs → Sound Listed (through (item_run place) vs (map run_of ms))
  items_sound [] [] yields so_far of o is vs all = all
  items_sound [] (m ∷ ms) yields so_far of o is vs all = absurd yields
  items_sound (p ∷ ps) [] yields so_far of o is vs all = absurd yields
  items_sound (p ∷ ps) (m ∷ ms) yields so_far of o is vs all =
      let first = told_bind (any_item place (Some so_far) p) (λ c. told_through (any_item place) c ps) o is in
      let next = told_bind (next_item so_far p) (λ items. Ok (Some items)) first.0 first.1 in
      let want = told_bind (wanted so_far.item p) (λ c. Ok (record { item = so_far.item; list = so_far.list; sum = plus so_far.sum c })) next.0 next.1 in
      let made : record { item = so_far.item; list = so_far.list; sum = plus so_far.sum want.0 } ≡ next.0 = ok_is _ next.0 _ refl want.2 in
      let told = ap (λ (c : Option Items). told_through (any_item place) c ps) (ok_is (Some next.0) first.0 (Ok (Some next.0)) refl next.2) ∙ first.2 in
      let P : Kind → Type 0 = λ k. Sound (HasKind types k) (run_of m) in
      sound_bind Listed Listed (item_run place vs (run_of m)) (λ more. through (item_run place) more (map run_of ms))
      (item_sound vs m all (subst P of (yields_wanted types so_far.item p m want.0 yields.0 want.1)))
      (λ more every. items_sound ps ms yields.1 next.0 (sym (ap (λ (i : Items). i.item) made) ∙ of) o told more every)

-- what a list is of
of_list : (k : Kind) (first place : ℕ) (l : Kind) → kind_of_list k first place ≡ Ok l
    → (b : Base) × (lists : ℕ) × (k ≡ kind.Value b lists) × (l ≡ kind.Value b (lists + 1))
of_list (kind.Value b lists) first place l is = (b, lists, refl, by_depth (nat_lt lists MOST_LISTS) is)
  where
    by_depth : (deep : Bool) → or_first place (cond deep (Some (kind.Value b (lists + 1))) None) ≡ Ok l → l ≡ kind.Value b (lists + 1)
    by_depth true h = sym (ok_is (kind.Value b (lists + 1)) l (Ok (kind.Value b (lists + 1))) refl h)
    by_depth false h = absurd cc
of_list (kind.Object n) first place l is = absurd cc
of_list (kind.Objects n) first place l is = absurd cc

list_made : (types : List TypeDef) (place : ℕ) (parts : List JudgedPart) (ms : List Meant) → AllYield types parts ms
    → Yields types (items_of_parts place parts >>- items_judged place) (meant (list_kind (map kind_of_meant ms)) 1 (items_run place [] (map run_of ms)))
list_made types place [] [] yields = λ j is. absurd cc
list_made types place [] (m ∷ ms) yields = absurd yields
list_made types place (p ∷ ps) [] yields = absurd yields
list_made types place (p ∷ ps) (m ∷ ms) yields = λ j is.
    let outer = told_bind (items_of_parts place (p ∷ ps)) (items_judged place) j is in
    let first = told_bind (any_item place None p) (λ c. told_through (any_item place) c ps) outer.0 outer.1 in
    let begun = told_bind (first_item place p) (λ items. Ok (Some items)) first.0 first.1 in
    let found = told_bind p.found (λ i. kind_of_list i.kind p.first place >>- λ k. Ok (record { item = i.kind; list = k; sum = i.cost })) begun.0 begun.1 in
    let listed = told_bind (kind_of_list found.0.kind p.first place) (λ k. Ok (record { item = found.0.kind; list = k; sum = found.0.cost })) begun.0 found.2 in
    let made : record { item = found.0.kind; list = listed.0; sum = found.0.cost } ≡ begun.0 = ok_is _ begun.0 _ refl listed.2 in
    let told = ap (λ (c : Option Items). told_through (any_item place) c ps) (ok_is (Some begun.0) first.0 (Ok (Some begun.0)) refl begun.2) ∙ first.2 in
    let rest = list_kept place ps begun.0 outer.0 told in
    let whole : record { kind = rest.0.list; cost = plus rest.0.sum 1 } ≡ j = ok_is _ j _ refl (ap (items_judged place) (sym rest.1) ∙ outer.2) in
    let of = of_list found.0.kind p.first place listed.0 listed.1 in
    let kind_is : kind.Value of.0 (of.1 + 1) ≡ j.kind =
    sym of.3 ∙ ap (λ (i : Items). i.list) made ∙ sym rest.2 ∙ ap (λ (i : Judged). i.kind) whole in
    let P : Kind → Type 0 = λ k. Sound (HasKind types k) (spend 1 (items_run place [] (map run_of (m ∷ ms)))) in
    let Q : Kind → Type 0 = λ k. Sound (HasKind types k) (run_of m) in
    subst P kind_is
    (sound_spend (HasKind types (kind.Value of.0 (of.1 + 1))) 1 (items_run place [] (map run_of (m ∷ ms)))
    (sound_bind (Listed types of.0 of.1 place) (HasKind types (kind.Value of.0 (of.1 + 1))) (through (item_run place) [] (map run_of (m ∷ ms))) (λ all. list_of all place)
    (sound_bind (Listed types of.0 of.1 place) (Listed types of.0 of.1 place) (item_run place [] (run_of m)) (λ more. through (item_run place) more (map run_of ms))
    (item_sound types of.0 of.1 place [] m refl (subst Q of.2 (yields.0 found.0 found.1)))
    (λ more every. items_sound types of.0 of.1 place ps ms yields.1 begun.0 (sym (ap (λ (i : Items). i.item) made) ∙ of.2) outer.0 told more every))
    (λ vs every. listed_sound types of.0 of.1 vs place every)))

pub yields_list : (types : List TypeDef) (place : ℕ) (parts : List JudgedPart) (ms : List Meant) → AllYield types parts ms
    → Yields types (list_judged parts place) (meant (list_kind (map kind_of_meant ms)) 1 (items_run place [] (map run_of ms)))
yields_list types place parts ms yields =
    yields_unless types (nat_lt MOST_ITEMS (length parts)) (items_of_parts place parts >>- items_judged place) place
    (meant (list_kind (map kind_of_meant ms)) 1 (items_run place [] (map run_of ms))) (list_made types place parts ms yields)
