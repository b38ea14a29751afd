-- What the changes show with one more.
use Rattle.std.proofs.Common.{◌≡◌, ℕ, ◌+◌, ◌≤◌, ◌<◌, ◌==◌, nat_le, Bool, true, false, cond, ◌&&◌, ◌||◌, List, Option, Some, None, is_some, option_copied, Bor, refl, sym, ap, ◌∙◌, subst, eqb-true, leb-true, le-leb, arith}
use Rattle.std.proofs.lemmas.Bool.Decides.{nat_tests}
use Rattle.std.proofs.Math.Path.{fun_ext}
use Rattle.std.specs.Map.{lookup}
use Rattle.std.specs.BTreeMap.{is_at}
use Rattle.std.specs.Ordering.{nat_cmp}
use Rattle.std.specs.Cmp.{both_tied, unsigned_ties}
use Rattle.cs_order.specs.Counts.{when}
use Rattle.cs_base.specs.Options.{or_else}
use Rattle.cs_order_rules.specs.declared.message.Change.{Change}
use Rattle.cs_change.specs.Kept.{Filed, Furthest, place_cmp, change_in, with_told, with_change, is_upto, reaches}

or_none : {A : Type 0} (o : Option A) → or_else o None ≡ o
or_none None = refl
or_none (Some x) = refl

pub none_copied : (o : Option (Bor Change)) (p : Option Change) → option_copied o ≡ p → false ≡ is_some o → p ≡ None
none_copied None p is none = sym is
none_copied (Some x) p is none = absurd (let h : false ≡ true = none in cc)

-- what is put where there was nothing
put : {A : Type 0} (b : Bool) (o : Option A) (x : A) → (b ≡ true → o ≡ None) → cond b (Some x) o ≡ or_else o (when b (Some x))
put true o x none = rw (none refl) refl
put false o x none = sym (or_none o)

same_place : (view member v m : ℕ) → is_at (place_cmp (view, member)) (v, m) ≡ ((view == v) && (member == m))
same_place view member v m = sym (both_tied _ _ (nat_cmp view v) (nat_cmp member m) (unsigned_ties view v) (unsigned_ties member m))

and_left : (a b : Bool) → (a && b) ≡ true → a ≡ true
and_left true b h = refl
and_left false b h = h

and_right : (a b : Bool) → (a && b) ≡ true → b ≡ true
and_right true b h = h
and_right false b h = absurd (let no = h in cc)

-- the map has the change under its view and member, and is else as it was
abbrev pub FiledAt : ℕ → ℕ → Change → Filed → Filed → Type 0
FiledAt view member change old new =
    (p : ℕ × ℕ) → lookup (is_at (place_cmp p)) new ≡ cond (is_at (place_cmp (view, member)) p) (Some change) (lookup (is_at (place_cmp p)) old)

pub change_added : (changes new : Filed) (view member : ℕ) (change : Change) → change_in changes view member ≡ None → FiledAt view member change changes new → change_in new ≡ with_told true (change_in changes) view member change
change_added changes new view member change none filed =
    fun_ext (λ v. fun_ext (λ m.
    filed (v, m)
    ∙ ap (λ b. cond b (Some change) (change_in changes v m)) (same_place view member v m)
    ∙ put ((view == v) && (member == m)) (change_in changes v m) change (λ same. at v m same)))
  where
    at : (v m : ℕ) → ((view == v) && (member == m)) ≡ true → change_in changes v m ≡ None
    at v m same =
        subst (λ w. change_in changes w m ≡ None) (eqb-true view v (and_left (view == v) (member == m) same))
        (subst (λ j. change_in changes view j ≡ None) (eqb-true member m (and_right (view == v) (member == m) same)) none)

same_number : (n : ℕ) → (n == n) ≡ true
same_number n = grind arith

-- the changes to one view with one more
one_view : (fresh : Bool) (before : ℕ → ℕ → Option Change) (view member : ℕ) (change : Change) (m : ℕ) → with_told fresh before view member change view m ≡ with_change fresh (before view) member change m
one_view true before view member change m = rw (same_number view) refl
one_view false before view member change m = refl

pub told_added : (fresh : Bool) (changes new : Filed) (view member : ℕ) (change : Change) → change_in new ≡ with_told fresh (change_in changes) view member change → change_in new view ≡ with_change fresh (change_in changes view) member change
told_added fresh changes new view member change e = ap (λ (found : ℕ → ℕ → Option Change). found view) e ∙ fun_ext (λ m. one_view fresh (change_in changes) view member change m)

-- A member that has reached a view has reached each earlier one.
upto_less : (v w : ℕ) (last : Option ℕ) → v ≤ w → is_upto w last ≡ true → is_upto v last ≡ true
upto_less v w None less is = is
upto_less v w (Some last) less is = let few = leb-true w last is in le-leb v last (omega arith)

pub reaches_less : (furthest : Furthest) (v w member : ℕ) → v ≤ w → reaches furthest w member ≡ true → reaches furthest v member ≡ true
reaches_less furthest v w member less is = upto_less v w (lookup (is_at (nat_cmp member)) furthest) less is

or_true : (a b : Bool) → b ≡ true → (a || b) ≡ true
or_true true b h = refl
or_true false b h = h

-- a change to a view that the member had reached
pub reached_before : (furthest : Furthest) (view member : ℕ) → reaches furthest view member ≡ true → (v m : ℕ) → reaches furthest v m ≡ (((member == m) && nat_le v view) || reaches furthest v m)
reached_before furthest view member is v m = by ((member == m) && nat_le v view) refl
  where
    by : (b : Bool) → ((member == m) && nat_le v view) ≡ b → reaches furthest v m ≡ (b || reaches furthest v m)
    by true both =
        let upto : v ≤ view = leb-true v view (and_right (member == m) (nat_le v view) both) in
        subst (λ j. reaches furthest v j ≡ true) (eqb-true member m (and_left (member == m) (nat_le v view) both)) (reaches_less furthest v view member upto is)
    by false both = refl

-- a change to a view beyond those that the member had reached
beyond : (v view : ℕ) (last : Option ℕ) → is_upto view last ≡ false → nat_le v view ≡ (nat_le v view || is_upto v last)
beyond v view None fails = by (nat_le v view)
  where
    by : (b : Bool) → b ≡ (b || false)
    by true = refl
    by false = refl
beyond v view (Some last) fails = grind (arith, nat_tests)

-- the map has the view under the member, and is else as it was
abbrev pub FurthestAt : ℕ → ℕ → Furthest → Furthest → Type 0
FurthestAt view member old new =
    (m : ℕ) → lookup (is_at (nat_cmp m)) new ≡ cond (is_at (nat_cmp member) m) (Some view) (lookup (is_at (nat_cmp m)) old)

pub reached_beyond : (furthest new : Furthest) (view member : ℕ) → reaches furthest view member ≡ false → FurthestAt view member furthest new → (v m : ℕ) → reaches new v m ≡ (((member == m) && nat_le v view) || reaches furthest v m)
reached_beyond furthest new view member fails put v m =
    ap (is_upto v) (put m ∙ ap (λ b. cond b (Some view) (lookup (is_at (nat_cmp m)) furthest)) (sym (unsigned_ties member m)))
    ∙ by (member == m) refl
  where
    by : (b : Bool) → (member == m) ≡ b → is_upto v (cond b (Some view) (lookup (is_at (nat_cmp m)) furthest)) ≡ ((b && nat_le v view) || reaches furthest v m)
    by true same = beyond v view (lookup (is_at (nat_cmp m)) furthest) (subst (λ j. reaches furthest view j ≡ false) (eqb-true member m same) fails)
    by false other = refl
