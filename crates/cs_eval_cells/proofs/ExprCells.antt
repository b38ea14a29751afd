-- The cells of an expression are at most four times what was told that it costs.
use Rattle.std.proofs.Common.{◌≡◌, ℕ, ◌+◌, ◌≤◌, min, Bool, true, false, cond, Option, None, Some, Ok, Err, List, [], ◌∷◌, map, length, refl, sym, ap, ◌∙◌, subst, arith}
use Rattle.std.specs.Prelude.{nat_lt}
use Rattle.cs_lang_token.specs.declared.limits.TheConstants.{MOST_ITEMS}
use Rattle.cs_lang_token.specs.Grammar.{◌>>=◌ as ◌>>-◌}
use Rattle.cs_lang_token.specs.declared.token.Text.{Text}
use Rattle.cs_lang.specs.declared.tree.Rank.{Rank}
use Rattle.cs_lang.specs.declared.tree.Comparison.{Comparison}
use Rattle.cs_lang.specs.declared.tree.Expr.{Expr, roll-Expr, map-Expr}
use Rattle.cs_lang.specs.declared.tree.Shape.{Shape, roll-Shape, map-Shape}
use Rattle.cs_lang.specs.declared.tree.Link.{Link, roll-Link, map-Link}
use Rattle.cs_lang.specs.declared.tree.Step.{Step, roll-Step, map-Step}
use Rattle.cs_lang.specs.declared.tree.Access.{Access, roll-Access, map-Access}
use Rattle.cs_lang.specs.declared.tree.Access.TheOpen.{Access-F, Shape-F, Expr-F, Link-F, Step-F}
use Rattle.cs_lang.specs.declared.tree.Access.TheFolds.{ind-Expr, fold-roll-Access, fold-roll-Shape, fold-roll-Expr, fold-roll-Link, fold-roll-Step}
use Rattle.cs_types_kinds.specs.declared.kind.Kind.{Kind}
use Rattle.cs_types_kinds.specs.declared.expressions.Judged.{Judged}
use Rattle.cs_types_kinds.specs.declared.expressions.Items.{Items}
use Rattle.cs_types_kinds.specs.Told.{Told, mistyped, told_through as told_through, plus}
use Rattle.cs_types_kinds.specs.Kinds.{int_kind as int_kind, bool as bool_kind, bytes_kind as bytes_kind, same_kind, joins, has_length, is_list, item_kind as item_kind, spelled_kind}
use Rattle.cs_types_kinds.specs.declared.scope.Seen.{Seen}
use Rattle.cs_types_kinds.specs.Scopes.{InSight, name_seen}
use Rattle.cs_types_kinds.specs.Lookups.{method_number}
use Rattle.cs_types_kinds.specs.Judging.{JudgedPart, Stepped, judged, seen_judged, empty_of, method_judged, called_judged, wanted, or_first, kind_of_list, first_item, next_item, any_item, items_of_parts, items_judged, list_judged, len_judged, concat_with, concat_judged, compares, comparing_cost, compared_with, compared_judged, kind_of_rank, link_added, chained, chain_judged, field_of_kind, field_judged, index_judged, step_taken, path_judged}
use Rattle.cs_types_kinds.specs.Parts.{Shaped, access_from_parts, shape_from_parts, part_of, shape_part, link_part, step_part}
use Rattle.cs_eval_cells.specs.Cells.{together, access_cells, shape_cells, expr_cells, link_cells, step_cells, cells, cells_of_shape, cells_of_link, cells_of_step, cells_of_access}
use Rattle.cs_eval_law.proofs.Within.{ok_is}
use Rattle.cs_eval_law.proofs.ExprFits.{told_bind}
use Rattle.cs_eval_law.proofs.Trees.{access_part, shape_told, access_told, told_shape, told_access, told_expr, told_link, told_step}

-- so many cells are within four times a cost, where sums of costs stop at 2^64 - 1
abbrev pub Celled : ℕ → ℕ → Type 0
Celled n c = min n 18446744073709551615 ≤ c + c + c + c

-- what is told of an expression, and its cells
abbrev pub Sized : Told Judged → ℕ → Type 0
Sized told n = (j : Judged) → told ≡ Ok j → Celled n j.cost

celled_one : (n more c units : ℕ) → more ≤ units + units + units + units → Celled n c → Celled (n + more) (plus c units)
celled_one n more c units some w = omega (arith, some, w)

celled_same : (n c units : ℕ) → Celled n c → Celled n (plus c units)
celled_same n c units w = omega (arith, w)

celled_two : (m n more a b units : ℕ) → more ≤ units + units + units + units → Celled m a → Celled n b → Celled (m + n + more) (plus (plus a b) units)
celled_two m n more a b units some v w = omega (arith, some, v, w)

celled_both : (m n a b units : ℕ) → Celled m a → Celled n b → Celled (m + n) (plus (plus a b) units)
celled_both m n a b units v w = omega (arith, v, w)

-- ---- what is told, step by step

sized_judged : (n : ℕ) (k : Kind) (c : ℕ) → Celled n c → Sized (judged k c) n
sized_judged n k c w j e =
    let same : record { kind = k; cost = c } ≡ j = ok_is (record { kind = k; cost = c }) j (judged k c) refl e in
    omega (arith, w, ap (λ (i : Judged). i.cost) same)

sized_bind : {A : Type 0} (t : Told A) (f : A → Told Judged) (n : ℕ) → ((a : A) → t ≡ Ok a → Sized (f a) n) → Sized (t >>- f) n
sized_bind (Ok a) f n h = h a refl
sized_bind (Err e) f n h = λ j is. absurd cc

sized_cond : (b : Bool) (t : Told Judged) (place n : ℕ) → Sized t n → Sized (cond b t (mistyped place)) n
sized_cond true t place n h = h
sized_cond false t place n h = λ j is. absurd cc

sized_unless : (b : Bool) (t : Told Judged) (place n : ℕ) → Sized t n → Sized (cond b (mistyped place) t) n
sized_unless true t place n h = λ j is. absurd cc
sized_unless false t place n h = h

cost_of : (b : Bool) (x c place : ℕ) → cond b (Ok x) (mistyped place) ≡ Ok c → x ≡ c
cost_of true x c place is = ok_is x c (Ok x) refl is
cost_of false x c place is = absurd cc

pub sized_wanted : (k : Kind) (part : JudgedPart) (n c : ℕ) → Sized part.found n → wanted k part ≡ Ok c → Celled n c
sized_wanted k part n c h is =
    let t = told_bind part.found (λ j. cond (same_kind j.kind k) (Ok j.cost) (mistyped part.first)) c is in
    omega (arith, h t.0 t.1, cost_of (same_kind t.0.kind k) t.0.cost c part.first t.2)

-- ---- of no part, one or two

seen_sized : (place : ℕ) (s : Option Seen) → Sized (seen_judged place s) 1
seen_sized place None = λ j is. absurd cc
seen_sized place (Some s) = sized_judged 1 s.kind 1 (omega arith)

empty_sized : (place : ℕ) (k : Option Kind) → Sized (empty_of place k) 2
empty_sized place None = λ j is. absurd cc
empty_sized place (Some k) = sized_cond (is_list k) (judged k 1) place 2 (sized_judged 2 k 1 (omega arith))

method_sized : (place : ℕ) (number : Option ℕ) → Sized (method_judged place number) 1
method_sized place None = λ j is. absurd cc
method_sized place (Some number) = sized_judged 1 bool_kind 1 (omega arith)

called_sized : (sight : InSight) (name : Text) (place : ℕ) → Sized (called_judged sight name place) 1
called_sized sight name place =
    sized_cond sight.in_check (method_judged name.place (method_number name.bytes sight.contract.methods)) place 1
    (method_sized name.place (method_number name.bytes sight.contract.methods))

sized_len : (part : JudgedPart) (n : ℕ) → Sized part.found n → Sized (len_judged part) n
sized_len part n h =
    sized_bind part.found (λ j. cond (has_length j.kind) (judged int_kind (plus j.cost 1)) (mistyped part.first)) n
    (λ j is. sized_cond (has_length j.kind) (judged int_kind (plus j.cost 1)) part.first n (sized_judged n int_kind (plus j.cost 1) (celled_same n j.cost 1 (h j is))))

of_wanted : (k : Kind) (units more : ℕ) (result : Kind) (part : JudgedPart) (n : ℕ) → more ≤ units + units + units + units → Sized part.found n
    → Sized (wanted k part >>- λ c. judged result (plus c units)) (n + more)
of_wanted k units more result part n some h =
    sized_bind (wanted k part) (λ c. judged result (plus c units)) (n + more)
    (λ c is. sized_judged (n + more) result (plus c units) (celled_one n more c units some (sized_wanted k part n c h is)))

as_wanted : (k : Kind) (units : ℕ) (result : Kind) (part : JudgedPart) (n : ℕ) → Sized part.found n
    → Sized (wanted k part >>- λ c. judged result (plus c units)) n
as_wanted k units result part n h =
    sized_bind (wanted k part) (λ c. judged result (plus c units)) n
    (λ c is. sized_judged n result (plus c units) (celled_same n c units (sized_wanted k part n c h is)))

sized_concat : (front back : JudgedPart) (m n : ℕ) → Sized front.found m → Sized back.found n → Sized (concat_judged front back) (m + n + 66)
sized_concat front back m n h g =
    sized_bind front.found (λ j. concat_with j front.first back) (m + n + 66)
    (λ j is. sized_cond (joins j.kind) (wanted j.kind back >>- λ c. judged j.kind (plus (plus j.cost c) 17)) front.first (m + n + 66)
    (sized_bind (wanted j.kind back) (λ c. judged j.kind (plus (plus j.cost c) 17)) (m + n + 66)
    (λ c told. sized_judged (m + n + 66) j.kind (plus (plus j.cost c) 17) (celled_two m n 66 j.cost c 17 (omega arith) (h j is) (sized_wanted j.kind back n c g told)))))

sized_compared : (c : Comparison) (left right : JudgedPart) (m n : ℕ) → Sized left.found m → Sized right.found n → Sized (compared_judged c left right) (m + n)
sized_compared c left right m n h g =
    sized_bind left.found (λ j. compared_with c j left.first right) (m + n)
    (λ j is. sized_cond (compares c j.kind) (wanted j.kind right >>- λ d. judged bool_kind (plus (plus j.cost d) (comparing_cost j.kind))) left.first (m + n)
    (sized_bind (wanted j.kind right) (λ d. judged bool_kind (plus (plus j.cost d) (comparing_cost j.kind))) (m + n)
    (λ d told. sized_judged (m + n) bool_kind (plus (plus j.cost d) (comparing_cost j.kind)) (celled_both m n j.cost d (comparing_cost j.kind) (h j is) (sized_wanted j.kind right n d g told)))))

-- ---- lists

abbrev pub AllSized : List JudgedPart → List ℕ → Type 0
AllSized [] [] = Unit {0}
AllSized [] (n ∷ ns) = ⊥
AllSized (p ∷ ps) [] = ⊥
AllSized (p ∷ ps) (n ∷ ns) = Sized p.found n × AllSized ps ns

-- items behind others
behind_sized : (place : ℕ) (parts : List JudgedPart) (ns : List ℕ) → AllSized parts ns → (so_far : Items) (o : Option Items)
    → told_through (any_item place) (Some so_far) parts ≡ Ok o
    → (items : Items) × (o ≡ Some items) × ((m : ℕ) → Celled m so_far.sum → Celled (m + together ns) items.sum)
behind_sized place [] [] all so_far o is = (so_far, sym (ok_is (Some so_far) o (Ok (Some so_far)) refl is), λ m w. omega (arith, w))
behind_sized place [] (n ∷ ns) all so_far o is = absurd all
behind_sized place (p ∷ ps) [] all so_far o is = absurd all
behind_sized place (p ∷ ps) (n ∷ ns) all so_far o is =
    let first = told_bind (any_item place (Some so_far) p) (λ b. told_through (any_item place) b ps) o is in
    let next = told_bind (next_item so_far p) (λ items. Ok (Some items)) first.0 first.1 in
    let want = told_bind (wanted so_far.item p) (λ c. Ok (record { item = so_far.item; list = so_far.list; sum = plus so_far.sum c })) next.0 next.1 in
    let made : record { item = so_far.item; list = so_far.list; sum = plus so_far.sum want.0 } ≡ next.0 = ok_is _ next.0 _ refl want.2 in
    let rest = behind_sized place ps ns all.1 next.0 o
    (ap (λ (b : Option Items). told_through (any_item place) b ps) (ok_is (Some next.0) first.0 (Ok (Some next.0)) refl next.2) ∙ first.2) in (
      rest.0,
      rest.1,
      λ m w. omega (arith, rest.2 (m + n) (omega (arith, w, sized_wanted so_far.item p n want.0 all.0 want.1, ap (λ (i : Items). i.sum) made))),
    )

items_sized : (place : ℕ) (parts : List JudgedPart) (ns : List ℕ) → AllSized parts ns → Sized (items_of_parts place parts >>- items_judged place) (together ns + 2)
items_sized place [] [] all = λ j is. absurd cc
items_sized place [] (n ∷ ns) all = absurd all
items_sized place (p ∷ ps) [] all = absurd all
items_sized place (p ∷ ps) (n ∷ ns) all = λ j is.
    let outer = told_bind (items_of_parts place (p ∷ ps)) (items_judged place) j is in
    let first = told_bind (any_item place None p) (λ b. told_through (any_item place) b ps) outer.0 outer.1 in
    let begun = told_bind (first_item place p) (λ items. Ok (Some items)) first.0 first.1 in
    let found = told_bind p.found (λ i. kind_of_list i.kind p.first place >>- λ k. Ok (record { item = i.kind; list = k; sum = i.cost })) begun.0 begun.1 in
    let listed = told_bind (kind_of_list found.0.kind p.first place) (λ k. Ok (record { item = found.0.kind; list = k; sum = found.0.cost })) begun.0 found.2 in
    let made : record { item = found.0.kind; list = listed.0; sum = found.0.cost } ≡ begun.0 = ok_is _ begun.0 _ refl listed.2 in
    let rest = behind_sized place ps ns all.1 begun.0 outer.0
    (ap (λ (b : Option Items). told_through (any_item place) b ps) (ok_is (Some begun.0) first.0 (Ok (Some begun.0)) refl begun.2) ∙ first.2) in
    let whole : record { kind = rest.0.list; cost = plus rest.0.sum 1 } ≡ j = ok_is _ j _ refl (ap (items_judged place) (sym rest.1) ∙ outer.2) in
    omega (
      arith,
      rest.2 n (omega (arith, all.0 found.0 found.1, ap (λ (i : Items). i.sum) made)),
      ap (λ (i : Judged). i.cost) whole,
    )

sized_list : (place : ℕ) (parts : List JudgedPart) (ns : List ℕ) → AllSized parts ns → Sized (list_judged parts place) (together ns + 2)
sized_list place parts ns all =
    sized_unless (nat_lt MOST_ITEMS (length parts)) (items_of_parts place parts >>- items_judged place) place (together ns + 2) (items_sized place parts ns all)

-- ---- chains

abbrev pub AllLinked : List JudgedPart → List ℕ → Type 0
AllLinked [] [] = Unit {0}
AllLinked [] (n ∷ ns) = ⊥
AllLinked (p ∷ ps) [] = ⊥
AllLinked (p ∷ ps) (n ∷ ns) = Sized p.found n × AllLinked ps ns

links_sized : (k : Kind) (parts : List JudgedPart) (ns : List ℕ) → AllLinked parts ns → (c sum : ℕ) → told_through (link_added k) c parts ≡ Ok sum
    → (m : ℕ) → Celled m c → Celled (m + together ns) sum
links_sized k [] [] all c sum is m w = omega (arith, w, ok_is c sum (Ok c) refl is)
links_sized k [] (n ∷ ns) all c sum is m w = absurd all
links_sized k (p ∷ ps) [] all c sum is m w = absurd all
links_sized k (p ∷ ps) (n ∷ ns) all c sum is m w =
    let first = told_bind (link_added k c p) (λ b. told_through (link_added k) b ps) sum is in
    let want = told_bind (wanted k p) (λ d. Ok (plus c (plus d 1))) first.0 first.1 in
    let made : plus c (plus want.0 1) ≡ first.0 = ok_is _ first.0 _ refl want.2 in
    let right : Celled n want.0 = sized_wanted k p n want.0 all.0 want.1 in
    omega (arith, links_sized k ps ns all.1 first.0 sum first.2 (m + n) (omega (arith, w, right, made)))

sized_chain : (r : Rank) (start : JudgedPart) (m : ℕ) (parts : List JudgedPart) (ns : List ℕ) → Sized start.found m → AllLinked parts ns → Sized (chain_judged r start parts) (m + together ns)
sized_chain r start m parts ns h all =
    let k : Kind = kind_of_rank r in
    sized_bind (wanted k start) (λ c. chained k c parts) (m + together ns)
    (λ c is. sized_bind (told_through (link_added k) c parts) (λ sum. judged k sum) (m + together ns)
    (λ sum told. sized_judged (m + together ns) k sum (links_sized k parts ns all c sum told m (sized_wanted k start m c h is))))

-- ---- paths

-- what stands before a step, and what it makes itself
abbrev pub StepSized : (Judged → Told Judged) → ℕ → Type 0
StepSized told n = (j i : Judged) → told j ≡ Ok i → (m : ℕ) → Celled m j.cost → Celled (m + n) i.cost

abbrev pub AllStep : List (Judged → Told Judged) → List ℕ → Type 0
AllStep [] [] = Unit {0}
AllStep [] (n ∷ ns) = ⊥
AllStep (t ∷ ts) [] = ⊥
AllStep (t ∷ ts) (n ∷ ns) = StepSized t n × AllStep ts ns

steps_sized : (ts : List (Judged → Told Judged)) (ns : List ℕ) → AllStep ts ns → (j i : Judged) → told_through step_taken j ts ≡ Ok i
    → (m : ℕ) → Celled m j.cost → Celled (m + together ns) i.cost
steps_sized [] [] all j i is m w = omega (arith, w, ap (λ (x : Judged). x.cost) (ok_is j i (Ok j) refl is))
steps_sized [] (n ∷ ns) all j i is m w = absurd all
steps_sized (t ∷ ts) [] all j i is m w = absurd all
steps_sized (t ∷ ts) (n ∷ ns) all j i is m w =
    let first = told_bind (t j) (λ b. told_through step_taken b ts) i is in
    omega (arith, steps_sized ts ns all.1 first.0 i first.2 (m + n) (all.0 j first.0 first.1 m w))

sized_path : (start : JudgedPart) (m : ℕ) (ts : List (Judged → Told Judged)) (ns : List ℕ) → Sized start.found m → AllStep ts ns → Sized (path_judged start ts) (m + together ns)
sized_path start m ts ns h all i is =
    let found = told_bind start.found (λ j. told_through step_taken j ts) i is in
    steps_sized ts ns all found.0 i found.2 m (h found.0 found.1)

sized_field : (sight : InSight) (name : Text) (first : ℕ) → StepSized (field_judged sight name first) 0
sized_field sight name first j i is =
    let found = told_bind (field_of_kind sight name j.kind first) (λ k. judged k (plus j.cost 1)) i is in
    let made : record { kind = found.0; cost = plus j.cost 1 } ≡ i = ok_is _ i _ refl found.2 in
    let cost : plus j.cost 1 ≡ i.cost = ap (λ (x : Judged). x.cost) made in
    λ m w. omega (arith, w, cost)

sized_index : (index : JudgedPart) (n first : ℕ) → Sized index.found n → StepSized (index_judged index first) n
sized_index index n first h j i is =
    let item = told_bind (or_first first (item_kind j.kind)) (λ k. wanted int_kind index >>- λ c. judged k (plus (plus j.cost c) 1)) i is in
    let want = told_bind (wanted int_kind index) (λ c. judged item.0 (plus (plus j.cost c) 1)) i item.2 in
    let made : record { kind = item.0; cost = plus (plus j.cost want.0) 1 } ≡ i = ok_is _ i _ refl want.2 in
    let cost : plus (plus j.cost want.0) 1 ≡ i.cost = ap (λ (x : Judged). x.cost) made in
    λ m w. omega (arith, w, sized_wanted int_kind index n want.0 h want.1, cost)

-- ---- over whole trees

abbrev AccessClaim : Access → Type 0
AccessClaim a = (sight : InSight) (first : ℕ) → StepSized (access_part sight a first) (cells_of_access a)

abbrev ShapeClaim : Shape → Type 0
ShapeClaim s = (sight : InSight) (place : ℕ) → Sized (shape_part sight s place) (cells_of_shape s)

abbrev pub ExprClaim : Expr → Type 0
ExprClaim e = (sight : InSight) → Sized (part_of sight e).found (cells e)

abbrev LinkClaim : Link → Type 0
LinkClaim l = (sight : InSight) → Sized (link_part sight l).found (cells_of_link l)

abbrev StepClaim : Step → Type 0
StepClaim s = (sight : InSight) → StepSized (step_part sight s) (cells_of_step s)

abbrev A : Type 0
A = (a : Access) × AccessClaim a

abbrev S : Type 0
S = (s : Shape) × ShapeClaim s

abbrev E : Type 0
E = (e : Expr) × ExprClaim e

abbrev L : Type 0
L = (l : Link) × LinkClaim l

abbrev T : Type 0
T = (s : Step) × StepClaim s

abbrev shape_below : Shape-F A S E L T → Shape-F Access Shape Expr Link Step
shape_below y = map-Shape A S E L T Access Shape Expr Link Step (λ e. e.0) (λ e. e.0) (λ e. e.0) (λ e. e.0) (λ e. e.0) y

abbrev access_below : Access-F A S E L T → Access-F Access Shape Expr Link Step
access_below y = map-Access A S E L T Access Shape Expr Link Step (λ e. e.0) (λ e. e.0) (λ e. e.0) (λ e. e.0) (λ e. e.0) y

abbrev expr_below : Expr-F A S E L T → Expr-F Access Shape Expr Link Step
expr_below y = map-Expr A S E L T Access Shape Expr Link Step (λ e. e.0) (λ e. e.0) (λ e. e.0) (λ e. e.0) (λ e. e.0) y

abbrev link_below : Link-F A S E L T → Link-F Access Shape Expr Link Step
link_below y = map-Link A S E L T Access Shape Expr Link Step (λ e. e.0) (λ e. e.0) (λ e. e.0) (λ e. e.0) (λ e. e.0) y

abbrev step_below : Step-F A S E L T → Step-F Access Shape Expr Link Step
step_below y = map-Step A S E L T Access Shape Expr Link Step (λ e. e.0) (λ e. e.0) (λ e. e.0) (λ e. e.0) (λ e. e.0) y

abbrev shape_counted : Shape-F Access Shape Expr Link Step → Shape-F ℕ ℕ ℕ ℕ ℕ
shape_counted x = map-Shape Access Shape Expr Link Step ℕ ℕ ℕ ℕ ℕ cells_of_access cells_of_shape cells cells_of_link cells_of_step x

abbrev access_counted : Access-F Access Shape Expr Link Step → Access-F ℕ ℕ ℕ ℕ ℕ
access_counted x = map-Access Access Shape Expr Link Step ℕ ℕ ℕ ℕ ℕ cells_of_access cells_of_shape cells cells_of_link cells_of_step x

counted_shape : (x : Shape-F Access Shape Expr Link Step) → cells_of_shape (roll-Shape x) ≡ shape_cells (shape_counted x)
unfolding cells cells_of_shape cells_of_link cells_of_step cells_of_access
counted_shape x = fold-roll-Shape ℕ ℕ ℕ ℕ ℕ access_cells shape_cells expr_cells link_cells step_cells x

counted_access : (x : Access-F Access Shape Expr Link Step) → cells_of_access (roll-Access x) ≡ access_cells (access_counted x)
unfolding cells cells_of_shape cells_of_link cells_of_step cells_of_access
counted_access x = fold-roll-Access ℕ ℕ ℕ ℕ ℕ access_cells shape_cells expr_cells link_cells step_cells x

counted_expr : (x : Expr-F Access Shape Expr Link Step) → cells (roll-Expr x) ≡ cells_of_shape x.shape
unfolding cells cells_of_shape cells_of_link cells_of_step cells_of_access
counted_expr x = fold-roll-Expr ℕ ℕ ℕ ℕ ℕ access_cells shape_cells expr_cells link_cells step_cells x

counted_link : (x : Link-F Access Shape Expr Link Step) → cells_of_link (roll-Link x) ≡ cells x.right
unfolding cells cells_of_shape cells_of_link cells_of_step cells_of_access
counted_link x = fold-roll-Link ℕ ℕ ℕ ℕ ℕ access_cells shape_cells expr_cells link_cells step_cells x

counted_step : (x : Step-F Access Shape Expr Link Step) → cells_of_step (roll-Step x) ≡ cells_of_access x.access
unfolding cells cells_of_shape cells_of_link cells_of_step cells_of_access
counted_step x = fold-roll-Step ℕ ℕ ℕ ℕ ℕ access_cells shape_cells expr_cells link_cells step_cells x

sized_along : (t u : Told Judged) (m n : ℕ) → t ≡ u → m ≡ n → Sized u n → Sized t m
sized_along t u m n is same h =
    let P : Told Judged → Type 0 = λ v. Sized v m in
    let Q : ℕ → Type 0 = λ k. Sized u k in
    subst P (sym is) (subst Q (sym same) h)

steps_along : (t u : Judged → Told Judged) (m n : ℕ) → t ≡ u → m ≡ n → StepSized u n → StepSized t m
steps_along t u m n is same h =
    let P : (Judged → Told Judged) → Type 0 = λ v. StepSized v m in
    let Q : ℕ → Type 0 = λ k. StepSized u k in
    subst P (sym is) (subst Q (sym same) h)

module _ (sight : InSight) where
  exprs_sized : (es : List E) → AllSized (map (part_of sight) (map (λ e. e.0) es)) (map cells (map (λ e. e.0) es))
  exprs_sized [] = tt
  exprs_sized (e ∷ es) = (e.1 sight, exprs_sized es)

  rights_sized : (ls : List L) → AllLinked (map (link_part sight) (map (λ e. e.0) ls)) (map cells_of_link (map (λ e. e.0) ls))
  rights_sized [] = tt
  rights_sized (l ∷ ls) = (l.1 sight, rights_sized ls)

  all_steps_sized : (ss : List T) → AllStep (map (step_part sight) (map (λ e. e.0) ss)) (map cells_of_step (map (λ e. e.0) ss))
  all_steps_sized [] = tt
  all_steps_sized (s ∷ ss) = (s.1 sight, all_steps_sized ss)

  shapes : (place : ℕ) (y : Shape-F A S E L T) → Sized (shape_from_parts sight (shape_told sight (shape_below y)) place) (shape_cells (shape_counted (shape_below y)))
  shapes place (Shape-F.Number n) = sized_judged 1 int_kind 1 (omega arith)
  shapes place (Shape-F.Bytes b) = sized_judged 1 bytes_kind 1 (omega arith)
  shapes place (Shape-F.Truth b) = sized_judged 1 bool_kind 1 (omega arith)
  shapes place (Shape-F.Name name) = seen_sized place (name_seen name sight.names)
  shapes place (Shape-F.List es) = sized_list place (map (part_of sight) (map (λ e. e.0) es)) (map cells (map (λ e. e.0) es)) (exprs_sized es)
  shapes place (Shape-F.Empty k) = empty_sized place (spelled_kind k)
  shapes place (Shape-F.Len p) = sized_len (part_of sight p.0) (cells p.0) (p.1 sight)
  shapes place (Shape-F.Sha256 p) = of_wanted bytes_kind 17 4 bytes_kind (part_of sight p.0) (cells p.0) (omega arith) (p.1 sight)
  shapes place (Shape-F.Concat p q) = sized_concat (part_of sight p.0) (part_of sight q.0) (cells p.0) (cells q.0) (p.1 sight) (q.1 sight)
  shapes place (Shape-F.Called dep name) = called_sized sight name place
  shapes place (Shape-F.DepInt dep value) = sized_cond sight.in_check (judged int_kind 1) place 1 (sized_judged 1 int_kind 1 (omega arith))
  shapes place (Shape-F.Path p ss) = sized_path (part_of sight p.0) (cells p.0) (map (step_part sight) (map (λ e. e.0) ss)) (map cells_of_step (map (λ e. e.0) ss)) (p.1 sight) (all_steps_sized ss)
  shapes place (Shape-F.Not p) = as_wanted bool_kind 1 bool_kind (part_of sight p.0) (cells p.0) (p.1 sight)
  shapes place (Shape-F.Negative p) = as_wanted int_kind 1 int_kind (part_of sight p.0) (cells p.0) (p.1 sight)
  shapes place (Shape-F.Compared c p q) = sized_compared c (part_of sight p.0) (part_of sight q.0) (cells p.0) (cells q.0) (p.1 sight) (q.1 sight)
  shapes place (Shape-F.Chain r p ls) = sized_chain r (part_of sight p.0) (cells p.0) (map (link_part sight) (map (λ e. e.0) ls)) (map cells_of_link (map (λ e. e.0) ls)) (p.1 sight) (rights_sized ls)

  accesses : (first : ℕ) (y : Access-F A S E L T) → StepSized (access_from_parts sight (access_told sight (access_below y)) first) (access_cells (access_counted (access_below y)))
  accesses first (Access-F.Field name) = sized_field sight name first
  accesses first (Access-F.Index p) = sized_index (part_of sight p.0) (cells p.0) first (p.1 sight)

shape_step : (x : Shape-F Access Shape Expr Link Step) (y : Shape-F A S E L T) → shape_below y ≡ x → ShapeClaim (roll-Shape x)
shape_step x y is = subst (λ z. ShapeClaim (roll-Shape z)) is (λ sight place.
    sized_along _ _ _ _ (ap (λ (f : Shaped). f place) (told_shape sight (shape_below y))) (counted_shape (shape_below y)) (shapes sight place y))

access_step : (x : Access-F Access Shape Expr Link Step) (y : Access-F A S E L T) → access_below y ≡ x → AccessClaim (roll-Access x)
access_step x y is = subst (λ z. AccessClaim (roll-Access z)) is (λ sight first.
    steps_along _ _ _ _ (ap (λ (f : Stepped). f first) (told_access sight (access_below y))) (counted_access (access_below y)) (accesses sight first y))

expr_step : (x : Expr-F Access Shape Expr Link Step) (y : Expr-F A S E L T) → expr_below y ≡ x → ExprClaim (roll-Expr x)
expr_step x y is = subst (λ z. ExprClaim (roll-Expr z)) is (λ sight.
    sized_along _ _ _ _ (ap (λ (p : JudgedPart). p.found) (told_expr sight (expr_below y))) (counted_expr (expr_below y)) (y.shape.1 sight y.place))

link_step : (x : Link-F Access Shape Expr Link Step) (y : Link-F A S E L T) → link_below y ≡ x → LinkClaim (roll-Link x)
link_step x y is = subst (λ z. LinkClaim (roll-Link z)) is (λ sight.
    sized_along _ _ _ _ (ap (λ (p : JudgedPart). p.found) (told_link sight (link_below y))) (counted_link (link_below y)) (y.right.1 sight))

step_step : (x : Step-F Access Shape Expr Link Step) (y : Step-F A S E L T) → step_below y ≡ x → StepClaim (roll-Step x)
step_step x y is = subst (λ z. StepClaim (roll-Step z)) is (λ sight.
    steps_along _ _ _ _ (told_step sight (step_below y)) (counted_step (step_below y)) (y.access.1 sight y.first))

-- the cells of an expression are within four times its cost
pub expr_celled : (e : Expr) → ExprClaim e
expr_celled = ind-Expr AccessClaim ShapeClaim ExprClaim LinkClaim StepClaim access_step shape_step expr_step link_step step_step
