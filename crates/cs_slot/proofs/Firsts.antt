-- The least view in which a digest was proposed, after one more proposal.
use Rattle.std.proofs.Common.{◌≡◌, ℕ, ◌==◌, ◌≤◌, ◌<◌, nat_lt, Bool, true, false, cond, List, [], ◌∷◌, Option, Some, None, IsSome, bytes_eq, inl, inr, refl, sym, ap, ◌∙◌, subst, ltb-true, lt-ltb, arith}
use Rattle.std.proofs.lemmas.Bool.Decides.{eqb_tells, nat_tests}
use Rattle.std.specs.Map.{lookup}
use Rattle.std.specs.BTreeMap.{is_at}
use Rattle.std.specs.Ordering.{nat_cmp}
use Rattle.std.specs.Cmp.Lexicographic.{slice_cmp, texts_ties, bytes_decides}
use Rattle.cs_order.specs.Counts.{when, first_below}
use Rattle.cs_order.specs.Limits.{view_bound}
use Rattle.cs_order.specs.declared.proposed.Proposed.{Proposed}
use Rattle.cs_order.proofs.Searches.{first_none, first_at, first_ends}
use Rattle.cs_order_rules.specs.Slot.{with_digest}
use Rattle.cs_base.specs.Options.{or_else}
use Rattle.cs_slot.specs.Kept.{entry_kept, with_entry, Firsts, first_in, IsFirst, AreFirsts, comes_first}
use Rattle.cs_slot.proofs.Adding.{or_none}

abbrev Entries : Type 0
Entries = List (ℕ × Proposed)

abbrev found : List ℕ → Entries → ℕ → Option Proposed
found digest proposals view = with_digest digest (entry_kept proposals view)

pub none_first : (firsts : Firsts) (proposals : Entries) → firsts ≡ [] → proposals ≡ [] → AreFirsts firsts proposals
none_first firsts proposals no_first no_entry = λ digest. rw (no_first, no_entry) (λ v few. refl)

-- What is looked up there is what the search finds.
nothing_below : (digest : List ℕ) (proposals : Entries) (n : ℕ) → ((v : ℕ) → v < n → found digest proposals v ≡ None) → first_below n (found digest proposals) ≡ None
nothing_below digest proposals n none = first_ends n 0 (found digest proposals) (omega arith) (λ v a b. none v b) ∙ first_none (found digest proposals)

pub found_none : (digest : List ℕ) (proposals : Entries) → IsFirst digest proposals None → first_below view_bound (found digest proposals) ≡ None
found_none digest proposals none = nothing_below digest proposals view_bound none

there : (digest : List ℕ) (o : Option Proposed) → IsSome (with_digest digest o) → with_digest digest o ≡ o
there digest None some = refl
there digest (Some e) some = by (bytes_eq e.digest digest) refl
  where
    by : (b : Bool) → bytes_eq e.digest digest ≡ b → when (bytes_eq e.digest digest) (Some e) ≡ Some e
    by true is = rw is refl
    by false is = absurd (let never : false ≡ true = subst IsSome (ap (λ (b : Bool). when b (Some e)) is) some in cc)

some_is : (digest : List ℕ) (proposals : Entries) (first : ℕ) (o : Option Proposed) → found digest proposals first ≡ o → IsSome o → first < view_bound → ((v : ℕ) → v < first → found digest proposals v ≡ None) → first_below view_bound (found digest proposals) ≡ o
some_is digest proposals first None is some less none = absurd (let never : false ≡ true = some in cc)
some_is digest proposals first (Some e) is some less none = first_at view_bound first (found digest proposals) e less (nothing_below digest proposals first none) is

pub found_some : (digest : List ℕ) (proposals : Entries) (first : ℕ) → IsFirst digest proposals (Some first) → first_below view_bound (found digest proposals) ≡ entry_kept proposals first
found_some digest proposals first is = some_is digest proposals first (found digest proposals first) refl is.1 is.0 is.2 ∙ there digest (entry_kept proposals first) is.1

same_number : (n : ℕ) → (n == n) ≡ true
same_number n = grind arith

same_bytes : (d : List ℕ) → bytes_eq d d ≡ true
same_bytes [] = refl
same_bytes (x ∷ d) = grind (arith, same_bytes d)

-- where the search finds the same, the first is the same
still : (proposals new : Entries) (digest : List ℕ) (first : Option ℕ) → ((v : ℕ) → v < view_bound → found digest new v ≡ found digest proposals v) → IsFirst digest proposals first → IsFirst digest new first
still proposals new digest None same is = λ v few. same v few ∙ is v few
still proposals new digest (Some first) same is = (is.0, subst IsSome (sym (same first is.0)) is.1, λ v less. same v (let few = is.0 in omega arith) ∙ is.2 v less)

-- where nothing is added, all are the same
pub same_firsts : (firsts : Firsts) (proposals new : Entries) → entry_kept new ≡ entry_kept proposals → AreFirsts firsts proposals → AreFirsts firsts new
same_firsts firsts proposals new same are digest =
    still proposals new digest (first_in firsts digest) (λ v few. ap (λ (look : ℕ → Option Proposed). with_digest digest (look v)) same) (are digest)

-- One more proposal shows in its view alone.
module _ (proposals new : Entries) (view : ℕ) (entry : Proposed) (none : entry_kept proposals view ≡ None) (added : entry_kept new ≡ with_entry true (entry_kept proposals) view entry) where
  entry_at : (v : ℕ) → entry_kept new v ≡ or_else (entry_kept proposals v) (when (view == v) (Some entry))
  entry_at v = ap (λ (look : ℕ → Option Proposed). look v) added

  elsewhere : (digest : List ℕ) (v : ℕ) → (view == v) ≡ false → found digest new v ≡ found digest proposals v
  elsewhere digest v other = ap (with_digest digest) (entry_at v ∙ ap (λ b. or_else (entry_kept proposals v) (when b (Some entry))) other ∙ or_none (entry_kept proposals v))

  here : (view == view) ≡ true → entry_kept new view ≡ Some entry
  here same = entry_at view ∙ rw (none, same) refl

  other_digest : (digest : List ℕ) (v : ℕ) → bytes_eq entry.digest digest ≡ false → found digest new v ≡ found digest proposals v
  other_digest digest v differs =
      elim (eqb_tells view v) [
        | inl same ↦
            subst (λ w. found digest new w ≡ found digest proposals w) same.1
            (ap (with_digest digest) (here (subst (λ w. (view == w) ≡ true) (sym same.1) same.0)) ∙ rw (differs, none) refl)
        | inr other ↦ elsewhere digest v other.0
      ]

  absent : (digest : List ℕ) → IsSome (found digest proposals view) → ⊥
  absent digest some = (let never : false ≡ true = subst IsSome (ap (with_digest digest) none) some in cc)

  apart : (v : ℕ) → (view ≡ v → ⊥) → (view == v) ≡ false
  apart v not = elim (eqb_tells view v) [ inl same ↦ absurd (not same.1) | inr other ↦ other.0 ]

  -- where the view doesn't come first, the first is the same
  not_before : (digest : List ℕ) (first : Option ℕ) → comes_first view first ≡ false → IsFirst digest proposals first → IsFirst digest new first
  not_before digest None after is = λ v few.
      let less : view ≡ v → nat_lt view view_bound ≡ true = λ e. lt-ltb view view_bound (omega arith) in
      elsewhere digest v (apart v (λ e. let yes = less e in let no = after in cc)) ∙ is v few
  not_before digest (Some first) after is =
      let upto : first ≤ view = upto_if first after in (
        is.0,
        subst IsSome (sym (elsewhere digest first (apart first (λ e. absent digest (subst (λ w. IsSome (found digest proposals w)) (sym e) is.1))))) is.1,
        λ v less. elsewhere digest v (apart v (λ e. (omega arith))) ∙ is.2 v less,
      )
    where
      upto_if : (k : ℕ) → nat_lt view k ≡ false → k ≤ view
      upto_if k after = grind (arith, nat_tests)

  before : (digest : List ℕ) (first : Option ℕ) → comes_first view first ≡ true → IsFirst digest proposals first → (view < view_bound) × ((v : ℕ) → v < view → found digest proposals v ≡ None)
  before digest None less is = let few = ltb-true view view_bound less in (few, λ v under. is v (omega arith))
  before digest (Some first) less is =
      let under_first = ltb-true view first less in
      let few = is.0 in
      ((omega arith), λ v under. is.2 v (omega arith))

  pub added_later : (firsts : Firsts) → comes_first view (first_in firsts entry.digest) ≡ false → AreFirsts firsts proposals → AreFirsts firsts new
  added_later firsts after are digest = either (bytes_eq entry.digest digest) refl
    where
      either : (b : Bool) → bytes_eq entry.digest digest ≡ b → IsFirst digest new (first_in firsts digest)
      either true same = subst (λ d. IsFirst d new (first_in firsts d)) ((bytes_decides entry.digest digest).0 same) (not_before entry.digest (first_in firsts entry.digest) after (are entry.digest))
      either false differs = still proposals new digest (first_in firsts digest) (λ v few. other_digest digest v differs) (are digest)

  shows_itself : IsSome (found entry.digest new view)
  shows_itself = subst IsSome (sym (ap (with_digest entry.digest) (here (same_number view)) ∙ its_own)) some
    where
      its_own : with_digest entry.digest (Some entry) ≡ Some entry
      its_own = rw (same_bytes entry.digest) refl

      some : IsSome (Some entry)
      some = refl

  pub added_first : (firsts now : Firsts) → comes_first view (first_in firsts entry.digest) ≡ true → AreFirsts firsts proposals → ((q : List ℕ) → lookup (is_at (slice_cmp nat_cmp q)) now ≡ cond (is_at (slice_cmp nat_cmp entry.digest) q) (Some view) (lookup (is_at (slice_cmp nat_cmp q)) firsts)) → AreFirsts now new
  added_first firsts now less are updated digest =
      let is : first_in now digest ≡ cond (bytes_eq entry.digest digest) (Some view) (first_in firsts digest) =
      updated digest ∙ ap (λ b. cond b (Some view) (first_in firsts digest)) (sym (texts_ties entry.digest digest)) in
      subst (IsFirst digest new) (sym is) (either (bytes_eq entry.digest digest) refl)
    where
      now_first : IsFirst entry.digest new (Some view)
      now_first =
          let b = before entry.digest (first_in firsts entry.digest) less (are entry.digest) in
          (b.0, shows_itself, λ v under. elsewhere entry.digest v (apart v (λ e. (omega arith))) ∙ b.1 v under)

      either : (b : Bool) → bytes_eq entry.digest digest ≡ b → IsFirst digest new (cond b (Some view) (first_in firsts digest))
      either true same = subst (λ d. IsFirst d new (Some view)) ((bytes_decides entry.digest digest).0 same) now_first
      either false differs = still proposals new digest (first_in firsts digest) (λ v few. other_digest digest v differs) (are digest)
