-- What is shown after one more vote or entry was put into a map.
use Rattle.std.proofs.Common.{◌≡◌, ℕ, ◌==◌, Bool, true, false, cond, ◌&&◌, List, Option, Some, None, is_some, if◌then◌else◌, refl, sym, ap, ◌∙◌, eqb-true}
use Rattle.std.proofs.Math.Path.{fun_ext}
use Rattle.std.specs.Map.{lookup}
use Rattle.std.specs.BTreeMap.{is_at}
use Rattle.std.specs.Ordering.{nat_cmp}
use Rattle.std.specs.Cmp.{unsigned_ties}
use Rattle.cs_order.specs.declared.proposed.Proposed.{Proposed}
use Rattle.cs_order.specs.Counts.{when}
use Rattle.cs_base.specs.Options.{or_else}
use Rattle.cs_slot.specs.Kept.{Row, Rows, said_in, said_if, said_in_view, lookup_with_vote, entry_kept, with_entry}

pub or_none : {A : Type 0} (o : Option A) → or_else o None ≡ o
or_none None = refl
or_none (Some x) = refl

pub none_if : {A : Type 0} (o : Option A) → is_some o ≡ false → o ≡ None
none_if None h = refl
none_if (Some x) h = absurd (let no = h in cc)

-- the map has x under the key, and is else as it was
abbrev pub UpdatedAt : {X : Type 0} → ℕ → X → List (ℕ × X) → List (ℕ × X) → Type 0
UpdatedAt key x old new =
    (k : ℕ) → lookup (is_at (nat_cmp k)) new ≡ cond (is_at (nat_cmp key) k) (Some x) (lookup (is_at (nat_cmp k)) old)

same_number : (a b : ℕ) → is_at (nat_cmp a) b ≡ (a == b)
same_number a b = sym (unsigned_ties a b)

-- what is put where there was nothing
put : {A : Type 0} (b : Bool) (o : Option A) (x : A) → (b ≡ true → o ≡ None) → cond b (Some x) o ≡ or_else o (when b (Some x))
put true o x none = rw (none refl) refl
put false o x none = sym (or_none o)

pub entry_added : (entries new : List (ℕ × Proposed)) (key : ℕ) (entry : Proposed) → entry_kept entries key ≡ None → UpdatedAt key entry entries new → entry_kept new ≡ with_entry true (entry_kept entries) key entry
entry_added entries new key entry none updated =
    fun_ext (λ k.
    updated k
    ∙ ap (λ b. cond b (Some entry) (entry_kept entries k)) (same_number key k)
    ∙ put (key == k) (entry_kept entries k) entry (λ same. ap (entry_kept entries) (sym (eqb-true key k same)) ∙ none))

pub vote_added : (rows new : Rows) (row : Row) (view member : ℕ) (digest : List ℕ) → said_in_view rows view member ≡ None → ((m : ℕ) → said_in row m ≡ (if member == m then Some digest else said_in_view rows view m)) → UpdatedAt view row rows new → said_in_view new ≡ lookup_with_vote true (said_in_view rows) view member digest
vote_added rows new row view member digest none is updated =
    fun_ext (λ v. fun_ext (λ m.
    ap (λ o. said_if o m) (updated v)
    ∙ ap (λ b. said_if (cond b (Some row) (lookup (is_at (nat_cmp v)) rows)) m) (same_number view v)
    ∙ either (view == v) v m refl))
  where
    either : (b : Bool) (v m : ℕ) → (view == v) ≡ b → said_if (cond b (Some row) (lookup (is_at (nat_cmp v)) rows)) m ≡ or_else (said_in_view rows v m) (when (b && (member == m)) (Some digest))
    either true v m same =
        is m
        ∙ put (member == m) (said_in_view rows view m) digest (λ mine. ap (said_in_view rows view) (sym (eqb-true member m mine)) ∙ none)
        ∙ ap (λ w. or_else (said_in_view rows w m) (when (member == m) (Some digest))) (eqb-true view v same)
    either false v m same = sym (or_none (said_in_view rows v m))
