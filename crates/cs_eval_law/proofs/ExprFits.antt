-- Expressions: the kind that is judged is the one that is given, and what is spent is within the cost.
use Rattle.std.proofs.Common.{◌≡◌, ℕ, ◌+◌, ◌≤◌, min, Bool, true, false, cond, Option, None, Some, Result, Ok, Err, List, [], ◌∷◌, map, length, pos, refl, sym, ap, ◌∙◌, subst, arith}
use Rattle.std.specs.Prelude.{nat_lt, option_and_then}
use Rattle.cs_lang_token.specs.declared.limits.TheConstants.{MOST_ITEMS}
use Rattle.cs_lang_token.specs.Grammar.{◌>>=◌ as ◌>>-◌}
use Rattle.cs_lang_token.specs.declared.token.Text.{Text}
use Rattle.cs_lang.specs.declared.tree.ValueKind.{ValueKind}
use Rattle.cs_lang.specs.declared.tree.Rank.{Rank}
use Rattle.cs_lang.specs.declared.tree.Comparison.{Comparison}
use Rattle.cs_tx_value.specs.declared.value.Value.{Value}
use Rattle.cs_tx_value.specs.declared.value.Value.TheVariants as value
use Rattle.cs_types_kinds.specs.declared.fault.TypeError.{TypeError}
use Rattle.cs_types_kinds.specs.declared.kind.Kind.{Kind}
use Rattle.cs_types_kinds.specs.declared.kind.Kind.TheVariants as kind
use Rattle.cs_types_kinds.specs.declared.scope.Seen.{Seen}
use Rattle.cs_types_kinds.specs.declared.scope.Entry.{Entry}
use Rattle.cs_types_kinds.specs.declared.expressions.Judged.{Judged}
use Rattle.cs_types_kinds.specs.declared.expressions.Items.{Items}
use Rattle.cs_types_kinds.specs.Told.{Told, mistyped, unbound, told_through as told_through, plus}
use Rattle.cs_types_kinds.specs.Kinds.{int_kind as int_kind, bool as bool_kind, bytes_kind as bytes_kind, same_kind, list_kind_of as list_of_kind, item_kind as item_kind, is_list, joins, has_length, spelled_kind}
use Rattle.cs_types_kinds.specs.Scopes.{InSight, in_sight, name_seen}
use Rattle.cs_types_kinds.specs.Lookups.{method_number, field_kind}
use Rattle.cs_types_kinds.specs.Judging.{JudgedPart, judged, wanted, seen_judged, name_judged, empty_of, empty_judged, method_judged, called_judged, depint_judged, or_first, kind_of_list, first_item, next_item, any_item, items_of_parts, items_judged, list_judged, len_judged, sha256_judged, concat_with, concat_judged, not_judged, negative_judged, compares, comparing_cost, compared_with, compared_judged, kind_of_rank, link_added, chained, chain_judged, field_of_kind, field_judged, index_judged, step_taken, path_judged}
use Rattle.cs_eval_values.specs.declared.stop.Cause.TheVariants as cause
use Rattle.cs_eval_values.specs.declared.operators.Unary.{Unary}
use Rattle.cs_eval_values.specs.declared.operators.Unary.TheVariants as one
use Rattle.cs_eval_values.specs.declared.operators.Binary.{Binary}
use Rattle.cs_eval_values.specs.declared.operators.Binary.TheVariants as two
use Rattle.cs_eval_values.specs.Runs.{Run, gives, spend, ◌>>=◌, through, or_trap, spent}
use Rattle.cs_eval_values.specs.Datums.{Datum, Plain}
use Rattle.cs_eval_values.specs.Operators.{unary, binary, left_decides, list_of, with_item, int_number}
use Rattle.cs_eval_values.specs.Views.{field_of, is_called, returned_int}
use Rattle.cs_eval_values.specs.Namings.{Named, datum_named, kind_named}
use Rattle.cs_eval.specs.Kinds.{told_kind, kind_of_field, list_kind, cost_of_comparing}
use Rattle.cs_eval.specs.Meaning.{Environment, Meant, Linking, Stepping, run_of, meant, kind_of_meant, named_run, of_one, of_right, of_two, item_run, items_run, link_run, links_run, chain_run, step_run, steps_run, path_run, steps_kind}
use Rattle.cs_eval_law.proofs.Within.{Within, within_less, within_plus, spent_spend, spent_bind, within_bind, free_or, ok_is}
use Rattle.cs_eval_law.proofs.Free.{free_unary, free_binary, free_item, free_list, free_field, free_returned, free_leaf}

abbrev zero_int : Datum
zero_int = Plain (value.Int (pos 0))

-- what is told of an expression, and what it means
abbrev pub Fits : Told Judged → Meant → Type 0
Fits told m = (j : Judged) → told ≡ Ok j → (m.kind ≡ Some j.kind) × Within (spent (run_of m)) j.cost

-- ---- what is told, step by step

pub fits_judged : (m : Meant) (k : Kind) (c : ℕ) → m.kind ≡ Some k → Within (spent (run_of m)) c → Fits (judged k c) m
fits_judged m k c is w j e =
    let same : record { kind = k; cost = c } ≡ j = ok_is (record { kind = k; cost = c }) j (judged k c) refl e in
    (is ∙ ap (λ (i : Judged). Some i.kind) same, omega (arith, w, ap (λ (i : Judged). i.cost) same))

pub fits_bind : {A : Type 0} (t : Told A) (f : A → Told Judged) (m : Meant) → ((a : A) → t ≡ Ok a → Fits (f a) m) → Fits (t >>- f) m
fits_bind (Ok a) f m h = h a refl
fits_bind (Err e) f m h = λ j is. absurd cc

fits_cond : (b : Bool) (t : Told Judged) (place : ℕ) (m : Meant) → Fits t m → Fits (cond b t (mistyped place)) m
fits_cond true t place m h = h
fits_cond false t place m h = λ j is. absurd cc

fits_unless : (b : Bool) (t : Told Judged) (place : ℕ) (m : Meant) → Fits t m → Fits (cond b (mistyped place) t) m
fits_unless true t place m h = λ j is. absurd cc
fits_unless false t place m h = h

-- the inner part of what was told
pub told_bind : {A B : Type 0} (t : Told A) (f : A → Told B) (b : B) → (t >>- f) ≡ Ok b → (a : A) × (t ≡ Ok a) × (f a ≡ Ok b)
told_bind (Ok a) f b is = (a, refl, is)
told_bind (Err e) f b is = absurd cc

cost_of : (b : Bool) (x c : ℕ) (place : ℕ) → cond b (Ok x) (mistyped place) ≡ Ok c → x ≡ c
cost_of true x c place is = ok_is x c (Ok x) refl is
cost_of false x c place is = absurd cc

pub fits_wanted : (k : Kind) (part : JudgedPart) (m : Meant) (c : ℕ) → Fits part.found m → wanted k part ≡ Ok c → Within (spent (run_of m)) c
fits_wanted k part m c h is =
    let t = told_bind part.found (λ j. cond (same_kind j.kind k) (Ok j.cost) (mistyped part.first)) c is in
    omega (arith, (h t.0 t.1).1, cost_of (same_kind t.0.kind k) t.0.cost c part.first t.2)

-- ---- leaves

leaf : (k : Kind) (body : Run Datum) → spent body ≡ 0 → Fits (judged k 1) (meant (Some k) 1 body)
leaf k body free = fits_judged (meant (Some k) 1 body) k 1 refl (omega (arith, spent_spend 1 body, free))

pub fits_number : (n place : ℕ) → Fits (judged int_kind 1) (meant (Some int_kind) 1 (int_number n place))
fits_number n place = leaf int_kind (int_number n place) (free_leaf n place)

pub fits_given : (k : Kind) (d : Datum) → Fits (judged k 1) (meant (Some k) 1 (gives d))
fits_given k d = leaf k (gives d) refl

-- a name, whose kind is the one in sight
pub fits_name : (sight : InSight) (names : List Named) (name : List ℕ) (place : ℕ)
    → ((s : Seen) → name_seen name sight.names ≡ Some s → kind_named name names ≡ Some s.kind)
    → Fits (name_judged sight name place) (meant (kind_named name names) 1 (named_run names name place))
fits_name sight names name place h = seen_fits (name_seen name sight.names) h
  where
    seen_fits : (o : Option Seen) → ((s : Seen) → o ≡ Some s → kind_named name names ≡ Some s.kind)
        → Fits (seen_judged place o) (meant (kind_named name names) 1 (named_run names name place))
    seen_fits None h = λ j is. absurd cc
    seen_fits (Some s) h =
        fits_judged (meant (kind_named name names) 1 (named_run names name place)) s.kind 1 (h s refl)
        (omega (arith, spent_spend 1 (named_run names name place), free_or cause.Misfit place (datum_named name names)))

pub fits_empty : (k : ValueKind) (place : ℕ) → Fits (empty_judged k place) (meant (spelled_kind k) 1 (gives (Plain (value.List []))))
fits_empty k place = empty_fits (spelled_kind k)
  where
    empty_fits : (o : Option Kind) → Fits (empty_of place o) (meant o 1 (gives (Plain (value.List []))))
    empty_fits None = λ j is. absurd cc
    empty_fits (Some l) = fits_cond (is_list l) (judged l 1) place (meant (Some l) 1 (gives (Plain (value.List [])))) (leaf l (gives (Plain (value.List []))) refl)

pub fits_called : (sight : InSight) (name : Text) (place : ℕ) (d : Datum) → Fits (called_judged sight name place) (meant (Some bool_kind) 1 (gives d))
fits_called sight name place d =
    fits_cond sight.in_check (method_judged name.place (method_number name.bytes sight.contract.methods)) place (meant (Some bool_kind) 1 (gives d))
    (method_fits (method_number name.bytes sight.contract.methods))
  where
    method_fits : (o : Option ℕ) → Fits (method_judged name.place o) (meant (Some bool_kind) 1 (gives d))
    method_fits None = λ j is. absurd cc
    method_fits (Some n) = leaf bool_kind (gives d) refl

pub fits_depint : (sight : InSight) (place : ℕ) (body : Run Datum) → spent body ≡ 0 → Fits (depint_judged sight place) (meant (Some int_kind) 1 body)
fits_depint sight place body free = fits_cond sight.in_check (judged int_kind 1) place (meant (Some int_kind) 1 body) (leaf int_kind body free)

-- ---- of one or two parts

one_within : (units : ℕ) (op : Unary) (place : ℕ) (part : Run Datum) (c : ℕ) → Within (spent part) c → Within (spent (spend units (of_one op place part))) (plus c units)
one_within units op place part c w =
    within_less _ (spent part + units) (plus c units)
    (omega (arith, spent_spend units (of_one op place part), spent_bind part (unary op place) 0 (λ d. omega (arith, free_unary op place d))))
    (within_plus (spent part) units c units w (omega arith))

two_within : (units : ℕ) (op : Binary) (place : ℕ) (left right : Run Datum) (a b : ℕ) → Within (spent left) a → Within (spent right) b
    → Within (spent (spend units (of_two op place left right))) (plus (plus a b) units)
two_within units op place left right a b v w =
    within_less _ (spent left + spent right + units) (plus (plus a b) units)
    (omega (
      arith,
      spent_spend units (of_two op place left right),
      spent_bind left (λ x. of_right op place x right) (spent right)
          (λ x. omega (arith, spent_bind right (binary op place x) 0 (λ y. omega (arith, free_binary op place x y)))),
    ))
    (within_plus (spent left + spent right) units (plus a b) units (within_plus (spent left) (spent right) a b v w) (omega arith))

pub fits_len : (part : JudgedPart) (m : Meant) (place : ℕ) → Fits part.found m → Fits (len_judged part) (meant (Some int_kind) 1 (of_one one.Len place (run_of m)))
fits_len part m place h =
    let n : Meant = meant (Some int_kind) 1 (of_one one.Len place (run_of m)) in
    fits_bind part.found (λ j. cond (has_length j.kind) (judged int_kind (plus j.cost 1)) (mistyped part.first)) n
    (λ j is. fits_cond (has_length j.kind) (judged int_kind (plus j.cost 1)) part.first n (fits_judged n int_kind (plus j.cost 1) refl (one_within 1 one.Len place (run_of m) j.cost (h j is).1)))

of_wanted : (k : Kind) (units : ℕ) (op : Unary) (result : Kind) (part : JudgedPart) (m : Meant) (place : ℕ) → Fits part.found m
    → Fits (wanted k part >>- λ c. judged result (plus c units)) (meant (Some result) units (of_one op place (run_of m)))
of_wanted k units op result part m place h =
    let n : Meant = meant (Some result) units (of_one op place (run_of m)) in
    fits_bind (wanted k part) (λ c. judged result (plus c units)) n
    (λ c is. fits_judged n result (plus c units) refl (one_within units op place (run_of m) c (fits_wanted k part m c h is)))

pub fits_sha256 : (part : JudgedPart) (m : Meant) (place : ℕ) → Fits part.found m → Fits (sha256_judged part) (meant (Some bytes_kind) 17 (of_one one.Sha256 place (run_of m)))
fits_sha256 part m place h = of_wanted bytes_kind 17 one.Sha256 bytes_kind part m place h

pub fits_not : (part : JudgedPart) (m : Meant) (place : ℕ) → Fits part.found m → Fits (not_judged part) (meant (Some bool_kind) 1 (of_one one.Not place (run_of m)))
fits_not part m place h = of_wanted bool_kind 1 one.Not bool_kind part m place h

pub fits_negative : (part : JudgedPart) (m : Meant) (place : ℕ) → Fits part.found m → Fits (negative_judged part) (meant (Some int_kind) 1 (of_one one.Negative place (run_of m)))
fits_negative part m place h = of_wanted int_kind 1 one.Negative int_kind part m place h

pub fits_concat : (front back : JudgedPart) (m n : Meant) (place : ℕ) → Fits front.found m → Fits back.found n
    → Fits (concat_judged front back) (meant m.kind 17 (of_two two.Concat place (run_of m) (run_of n)))
fits_concat front back m n place h g =
    let w : Meant = meant m.kind 17 (of_two two.Concat place (run_of m) (run_of n)) in
    fits_bind front.found (λ j. concat_with j front.first back) w
    (λ j is. fits_cond (joins j.kind) (wanted j.kind back >>- λ c. judged j.kind (plus (plus j.cost c) 17)) front.first w
    (fits_bind (wanted j.kind back) (λ c. judged j.kind (plus (plus j.cost c) 17)) w
    (λ c told. fits_judged w j.kind (plus (plus j.cost c) 17) (h j is).0
    (two_within 17 two.Concat place (run_of m) (run_of n) j.cost c (h j is).1 (fits_wanted j.kind back n c g told)))))

pub fits_compared : (c : Comparison) (left right : JudgedPart) (m n : Meant) (place : ℕ) → Fits left.found m → Fits right.found n
    → Fits (compared_judged c left right) (meant (Some bool_kind) (cost_of_comparing m.kind) (of_two (two.Compared c) place (run_of m) (run_of n)))
fits_compared c left right m n place h g =
    let w : Meant = meant (Some bool_kind) (cost_of_comparing m.kind) (of_two (two.Compared c) place (run_of m) (run_of n)) in
    fits_bind left.found (λ j. compared_with c j left.first right) w
    (λ j is. fits_cond (compares c j.kind) (wanted j.kind right >>- λ d. judged bool_kind (plus (plus j.cost d) (comparing_cost j.kind))) left.first w
    (fits_bind (wanted j.kind right) (λ d. judged bool_kind (plus (plus j.cost d) (comparing_cost j.kind))) w
    (λ d told. fits_judged w bool_kind (plus (plus j.cost d) (comparing_cost j.kind)) refl
    (let P : Option Kind → Type 0 = λ k. Within (spent (spend (cost_of_comparing k) (of_two (two.Compared c) place (run_of m) (run_of n)))) (plus (plus j.cost d) (comparing_cost j.kind)) in
    subst P (sym (h j is).0) (two_within (comparing_cost j.kind) (two.Compared c) place (run_of m) (run_of n) j.cost d (h j is).1 (fits_wanted j.kind right n d g told))))))

-- ---- lists

-- each part with its meaning
abbrev pub AllFit : List JudgedPart → List Meant → Type 0
AllFit [] [] = Unit {0}
AllFit [] (m ∷ ms) = ⊥
AllFit (p ∷ ps) [] = ⊥
AllFit (p ∷ ps) (m ∷ ms) = Fits p.found m × AllFit ps ms

-- items behind others
behind_fit : (place : ℕ) (parts : List JudgedPart) (ms : List Meant) → AllFit parts ms → (so_far : Items) (o : Option Items)
    → told_through (any_item place) (Some so_far) parts ≡ Ok o
    → (items : Items) × (o ≡ Some items) × (items.list ≡ so_far.list)
    × ((n : ℕ) (vs : List Value) → Within n so_far.sum → Within (n + spent (through (item_run place) vs (map run_of ms))) items.sum)
behind_fit place [] [] all so_far o is = (so_far, sym (ok_is (Some so_far) o (Ok (Some so_far)) refl is), refl, λ n vs w. omega (arith, w))
behind_fit place [] (m ∷ ms) all so_far o is = absurd all
behind_fit place (p ∷ ps) [] all so_far o is = absurd all
behind_fit place (p ∷ ps) (m ∷ ms) all so_far o is =
    let first = told_bind (any_item place (Some so_far) p) (λ b. told_through (any_item place) b ps) o is in
    let next = told_bind (next_item so_far p) (λ items. Ok (Some items)) first.0 first.1 in
    let want = told_bind (wanted so_far.item p) (λ c. Ok (record { item = so_far.item; list = so_far.list; sum = plus so_far.sum c })) next.0 next.1 in
    let made : record { item = so_far.item; list = so_far.list; sum = plus so_far.sum want.0 } ≡ next.0 = ok_is _ next.0 _ refl want.2 in
    let rest = behind_fit place ps ms all.1 next.0 o
    (ap (λ (b : Option Items). told_through (any_item place) b ps) (ok_is (Some next.0) first.0 (Ok (Some next.0)) refl next.2) ∙ first.2) in (
      rest.0,
      rest.1,
      rest.2 ∙ sym (ap (λ (i : Items). i.list) made),
      λ n vs w. within_bind [] (item_run place vs (run_of m)) (λ b. through (item_run place) b (map run_of ms)) n rest.0.sum
          (λ more. within_less _ (n + spent (run_of m) + spent (through (item_run place) more (map run_of ms))) rest.0.sum
          (omega (arith, spent_bind (run_of m) (with_item place vs) 0 (λ d. omega (arith, free_item place vs d))))
          (rest.3 (n + spent (run_of m)) more
          (omega (arith, within_plus n (spent (run_of m)) so_far.sum want.0 w (fits_wanted so_far.item p m want.0 all.0 want.1), ap (λ (i : Items). i.sum) made)))),
    )

list_of_kind_is : (k : Kind) (first place : ℕ) (l : Kind) → kind_of_list k first place ≡ Ok l → list_of_kind k ≡ Some l
list_of_kind_is (kind.Value b lists) first place l is = some_told (list_of_kind (kind.Value b lists)) is
  where
    some_told : (o : Option Kind) → or_first place o ≡ Ok l → o ≡ Some l
    some_told None is = absurd cc
    some_told (Some k) is = ap (λ (x : Kind). Some x) (ok_is k l (Ok k) refl is)
list_of_kind_is (kind.Object n) first place l is = absurd cc
list_of_kind_is (kind.Objects n) first place l is = absurd cc

items_fit : (place : ℕ) (parts : List JudgedPart) (ms : List Meant) → AllFit parts ms
    → Fits (items_of_parts place parts >>- items_judged place) (meant (list_kind (map kind_of_meant ms)) 1 (items_run place [] (map run_of ms)))
items_fit place [] [] all = λ j is. absurd cc
items_fit place [] (m ∷ ms) all = absurd all
items_fit place (p ∷ ps) [] all = absurd all
items_fit place (p ∷ ps) (m ∷ ms) all = λ j is.
    let outer = told_bind (items_of_parts place (p ∷ ps)) (items_judged place) j is in
    let first = told_bind (any_item place None p) (λ b. told_through (any_item place) b ps) outer.0 outer.1 in
    let begun = told_bind (first_item place p) (λ items. Ok (Some items)) first.0 first.1 in
    let found = told_bind p.found (λ i. kind_of_list i.kind p.first place >>- λ k. Ok (record { item = i.kind; list = k; sum = i.cost })) begun.0 begun.1 in
    let listed = told_bind (kind_of_list found.0.kind p.first place) (λ k. Ok (record { item = found.0.kind; list = k; sum = found.0.cost })) begun.0 found.2 in
    let made : record { item = found.0.kind; list = listed.0; sum = found.0.cost } ≡ begun.0 = ok_is _ begun.0 _ refl listed.2 in
    let rest = behind_fit place ps ms all.1 begun.0 outer.0
    (ap (λ (b : Option Items). told_through (any_item place) b ps) (ok_is (Some begun.0) first.0 (Ok (Some begun.0)) refl begun.2) ∙ first.2) in
    let whole : record { kind = rest.0.list; cost = plus rest.0.sum 1 } ≡ j =
    ok_is _ j _ refl (ap (items_judged place) (sym rest.1) ∙ outer.2) in (
      ap (option_and_then list_of_kind) (all.0 found.0 found.1).0 ∙ list_of_kind_is found.0.kind p.first place listed.0 listed.1
          ∙ ap (λ (i : Items). Some i.list) made ∙ ap (λ (k : Kind). Some k) (sym rest.2) ∙ ap (λ (i : Judged). Some i.kind) whole,
      ends rest.0.sum j (ap (λ (i : Judged). i.cost) whole)
          (within_bind [] (item_run place [] (run_of m)) (λ b. through (item_run place) b (map run_of ms)) 0 rest.0.sum
          (λ more. within_less _ (spent (run_of m) + spent (through (item_run place) more (map run_of ms))) rest.0.sum
          (omega (arith, spent_bind (run_of m) (with_item place []) 0 (λ d. omega (arith, free_item place [] d))))
          (rest.3 (spent (run_of m)) more (omega (arith, (all.0 found.0 found.1).1, ap (λ (i : Items). i.sum) made))))),
    )
  where
    ends : (sum : ℕ) (j : Judged) → plus sum 1 ≡ j.cost → Within (0 + spent (through (item_run place) [] (map run_of (m ∷ ms)))) sum
        → Within (spent (spend 1 (items_run place [] (map run_of (m ∷ ms))))) j.cost
    ends sum j is w =
        within_less _ (spent (through (item_run place) [] (map run_of (m ∷ ms))) + 1) j.cost
        (omega (arith, spent_spend 1 (items_run place [] (map run_of (m ∷ ms))), spent_bind (through (item_run place) [] (map run_of (m ∷ ms))) (λ all. list_of all place) 0 (λ all. omega (arith, free_list all place))))
        (omega (arith, w, is))

pub fits_list : (place : ℕ) (parts : List JudgedPart) (ms : List Meant) → AllFit parts ms
    → Fits (list_judged parts place) (meant (list_kind (map kind_of_meant ms)) 1 (items_run place [] (map run_of ms)))
fits_list place parts ms all =
    fits_unless (nat_lt MOST_ITEMS (length parts)) (items_of_parts place parts >>- items_judged place) place
    (meant (list_kind (map kind_of_meant ms)) 1 (items_run place [] (map run_of ms))) (items_fit place parts ms all)

-- ---- chains

-- each right operand with its link
abbrev pub AllLinked : List JudgedPart → List Linking → Type 0
AllLinked [] [] = Unit {0}
AllLinked [] (l ∷ ls) = ⊥
AllLinked (p ∷ ps) [] = ⊥
AllLinked (p ∷ ps) (l ∷ ls) = Fits p.found l.right × AllLinked ps ls

link_spends : (left : Datum) (l : Linking) → spent (link_run left l) ≤ spent (run_of l.right)
link_spends left l = by_cases (left_decides l.operator left)
  where
    by_cases : (b : Bool) → spent (cond b (gives left) (of_right (two.Linked l.operator) l.place left (run_of l.right))) ≤ spent (run_of l.right)
    by_cases true = omega arith
    by_cases false = omega (arith, spent_bind (run_of l.right) (binary (two.Linked l.operator) l.place left) 0 (λ d. omega (arith, free_binary (two.Linked l.operator) l.place left d)))

links_within : (k : Kind) (parts : List JudgedPart) (ls : List Linking) → AllLinked parts ls → (c sum : ℕ) → told_through (link_added k) c parts ≡ Ok sum
    → (n : ℕ) (left : Datum) → Within n c → Within (n + length ls + spent (links_run ls left)) sum
links_within k [] [] all c sum is n left w = omega (arith, w, ok_is c sum (Ok c) refl is)
links_within k [] (l ∷ ls) all c sum is n left w = absurd all
links_within k (p ∷ ps) [] all c sum is n left w = absurd all
links_within k (p ∷ ps) (l ∷ ls) all c sum is n left w =
    let first = told_bind (link_added k c p) (λ b. told_through (link_added k) b ps) sum is in
    let want = told_bind (wanted k p) (λ d. Ok (plus c (plus d 1))) first.0 first.1 in
    let made : plus c (plus want.0 1) ≡ first.0 = ok_is _ first.0 _ refl want.2 in
    let right = within_plus (spent (run_of l.right)) 1 want.0 1 (fits_wanted k p l.right want.0 all.0 want.1) (omega arith) in
    let here = within_plus n (spent (run_of l.right) + 1) c (plus want.0 1) w right in
    within_less _ (n + length (l ∷ ls) + spent (link_run left l >>= λ d. links_run ls d)) sum (omega arith)
    (within_bind zero_int (link_run left l) (λ d. links_run ls d) (n + length (l ∷ ls)) sum
    (λ d. within_less _ (n + (spent (run_of l.right) + 1) + length ls + spent (links_run ls d)) sum
    (omega (arith, link_spends left l))
    (links_within k ps ls all.1 first.0 sum first.2 (n + (spent (run_of l.right) + 1)) d (omega (arith, here, made)))))

pub fits_chain : (r : Rank) (start : JudgedPart) (m : Meant) (parts : List JudgedPart) (ls : List Linking) → Fits start.found m → AllLinked parts ls
    → Fits (chain_judged r start parts) (meant (Some (kind_of_rank r)) (length ls) (chain_run (run_of m) ls))
fits_chain r start m parts ls h all =
    let k : Kind = kind_of_rank r in
    let n : Meant = meant (Some k) (length ls) (chain_run (run_of m) ls) in
    fits_bind (wanted k start) (λ c. chained k c parts) n
    (λ c is. fits_bind (told_through (link_added k) c parts) (λ sum. judged k sum) n
    (λ sum told. fits_judged n k sum refl
    (within_less _ (length ls + spent (run_of m >>= links_run ls)) sum (omega (arith, spent_spend (length ls) (chain_run (run_of m) ls)))
    (within_bind zero_int (run_of m) (links_run ls) (length ls) sum
    (λ d. within_less _ (spent (run_of m) + length ls + spent (links_run ls d)) sum (omega arith)
    (links_within k parts ls all c sum told (spent (run_of m)) d (fits_wanted k start m c h is)))))))

-- ---- paths

-- what a step makes of a kind, and what it spends
abbrev pub StepFits : (Judged → Told Judged) → Stepping → Type 0
StepFits told s = (j i : Judged) → told j ≡ Ok i
    → (s.kind j.kind ≡ Some i.kind) × ((n : ℕ) (d : Datum) → Within n j.cost → Within (n + 1 + spent (s.run d)) i.cost)

abbrev pub AllStep : List (Judged → Told Judged) → List Stepping → Type 0
AllStep [] [] = Unit {0}
AllStep [] (s ∷ ss) = ⊥
AllStep (t ∷ ts) [] = ⊥
AllStep (t ∷ ts) (s ∷ ss) = StepFits t s × AllStep ts ss

steps_within : (ts : List (Judged → Told Judged)) (ss : List Stepping) → AllStep ts ss → (j i : Judged) → told_through step_taken j ts ≡ Ok i
    → (steps_kind (Some j.kind) ss ≡ Some i.kind) × ((n : ℕ) (d : Datum) → Within n j.cost → Within (n + length ss + spent (steps_run ss d)) i.cost)
steps_within [] [] all j i is =
    let same : j ≡ i = ok_is j i (Ok j) refl is in
    (ap (λ (x : Judged). Some x.kind) same, λ n d w. omega (arith, w, ap (λ (x : Judged). x.cost) same))
steps_within [] (s ∷ ss) all j i is = absurd all
steps_within (t ∷ ts) [] all j i is = absurd all
steps_within (t ∷ ts) (s ∷ ss) all j i is =
    let first = told_bind (t j) (λ b. told_through step_taken b ts) i is in
    let here = all.0 j first.0 first.1 in
    let rest = steps_within ts ss all.1 first.0 i first.2 in (
      ap (λ (k : Option Kind). steps_kind k ss) here.0 ∙ rest.0,
      λ n d w. within_less _ (n + length (s ∷ ss) + spent (s.run d >>= λ e. steps_run ss e)) i.cost (omega arith)
          (within_bind zero_int (s.run d) (λ e. steps_run ss e) (n + length (s ∷ ss)) i.cost
          (λ e. within_less _ (n + 1 + spent (s.run d) + length ss + spent (steps_run ss e)) i.cost (omega arith)
          (rest.1 (n + 1 + spent (s.run d)) e (here.1 n d w)))),
    )

pub fits_path : (start : JudgedPart) (m : Meant) (ts : List (Judged → Told Judged)) (ss : List Stepping) → Fits start.found m → AllStep ts ss
    → Fits (path_judged start ts) (meant (steps_kind m.kind ss) (length ss) (path_run (run_of m) ss))
fits_path start m ts ss h all i is =
    let found = told_bind start.found (λ j. told_through step_taken j ts) i is in
    let from = h found.0 found.1 in
    let to = steps_within ts ss all found.0 i found.2 in (
      ap (λ (k : Option Kind). steps_kind k ss) from.0 ∙ to.0,
      within_less _ (length ss + spent (run_of m >>= steps_run ss)) i.cost (omega (arith, spent_spend (length ss) (path_run (run_of m) ss)))
          (within_bind zero_int (run_of m) (steps_run ss) (length ss) i.cost
          (λ d. within_less _ (spent (run_of m) + length ss + spent (steps_run ss d)) i.cost (omega arith)
          (to.1 (spent (run_of m)) d from.1))),
    )

field_kind_is : (sight : InSight) (name : Text) (k l : Kind) (first : ℕ) → field_of_kind sight name k first ≡ Ok l
    → kind_of_field sight.contract name k ≡ Some l
field_kind_is sight name (kind.Object n) l first is = ap told_kind is
field_kind_is sight name (kind.Value b lists) l first is = absurd cc
field_kind_is sight name (kind.Objects n) l first is = absurd cc

pub fits_field : (sight : InSight) (name : Text) (first place : ℕ)
    → StepFits (field_judged sight name first) (record { kind = kind_of_field sight.contract name; run = field_of sight.contract.types name.bytes place })
fits_field sight name first place j i is =
    let found = told_bind (field_of_kind sight name j.kind first) (λ k. judged k (plus j.cost 1)) i is in
    let made : record { kind = found.0; cost = plus j.cost 1 } ≡ i = ok_is _ i _ refl found.2 in (
      field_kind_is sight name j.kind found.0 first found.1 ∙ ap (λ (x : Judged). Some x.kind) made,
      λ n d w. omega (arith, w, free_field sight.contract.types name.bytes place d, ap (λ (x : Judged). x.cost) made),
    )

item_kind_is : (o : Option Kind) (first : ℕ) (l : Kind) → or_first first o ≡ Ok l → o ≡ Some l
item_kind_is None first l is = absurd cc
item_kind_is (Some k) first l is = ap (λ (x : Kind). Some x) (ok_is k l (Ok k) refl is)

pub fits_index : (index : JudgedPart) (m : Meant) (first place : ℕ) → Fits index.found m
    → StepFits (index_judged index first) (record { kind = item_kind; run = λ d. of_right two.Index place d (run_of m) })
fits_index index m first place h j i is =
    let item = told_bind (or_first first (item_kind j.kind)) (λ k. wanted int_kind index >>- λ c. judged k (plus (plus j.cost c) 1)) i is in
    let want = told_bind (wanted int_kind index) (λ c. judged item.0 (plus (plus j.cost c) 1)) i item.2 in
    let made : record { kind = item.0; cost = plus (plus j.cost want.0) 1 } ≡ i = ok_is _ i _ refl want.2 in (
      item_kind_is (item_kind j.kind) first item.0 item.1 ∙ ap (λ (x : Judged). Some x.kind) made,
      λ n d w. within_less _ (n + spent (run_of m) + 1) i.cost
          (omega (arith, spent_bind (run_of m) (binary two.Index place d) 0 (λ e. omega (arith, free_binary two.Index place d e))))
          (omega (
            arith,
            within_plus (n + spent (run_of m)) 1 (plus j.cost want.0) 1
                (within_plus n (spent (run_of m)) j.cost want.0 w (fits_wanted int_kind index m want.0 h want.1)) (omega arith),
            ap (λ (x : Judged). x.cost) made,
          )),
    )
