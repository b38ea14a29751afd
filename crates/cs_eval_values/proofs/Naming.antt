-- Names by their places.
use Rattle.std.proofs.Common.{◌≡◌, ℕ, zero, suc, ◌+◌, ◌<◌, ◌≤◌, Bool, true, false, cond, List, [], ◌∷◌, map, take, drop, length, get_or, Option, Some, None, refl, sym, ap, ◌∙◌, arith}
use Rattle.std.specs.Prelude.{slice_get}
use Rattle.std.specs.Str.{bytes_eq}
use Rattle.std.specs.Option.{option_map}
use Rattle.std.proofs.Math.ListN.{set}
use Rattle.std.proofs.lemmas.List.{take-map, map-set, drop_all, length-map}
use Rattle.std.proofs.lemmas.Option.{slice_get-map, slice_get_read, slice_get_past}
use Rattle.cs_types_kinds.proofs.Loops.{opened}
use Rattle.cs_eval_values.specs.declared.names.Entry.{Entry}
use Rattle.cs_eval_values.specs.Datums.{Datum}
use Rattle.cs_eval_values.specs.Entries.{named_of}
use Rattle.cs_eval_values.specs.Namings.{Named, named, is_of_name, place_named, find_named, with_datum}

-- ---- going over the names

module _ (name : List ℕ) where
  place_next : (es : List Entry) (i : ℕ) (e : Entry) (t : ℕ) → i < length es → e ≡ get_or es i e → place_named name (map named_of (drop i es)) + i ≡ t
      → cond (bytes_eq e.name.now name) 0 (suc (place_named name (map named_of (drop (i + 1) es)))) + i ≡ t
  place_next es i e t lt is h = sym (ap (λ (y : List Entry). place_named name (map named_of y) + i) (opened es i e lt is)) ∙ h

  pub place_found : (es : List Entry) (i : ℕ) (e : Entry) (t : ℕ) → i < length es → e ≡ get_or es i e → bytes_eq e.name.now name ≡ true
      → place_named name (map named_of (drop i es)) + i ≡ t → i ≡ t
  place_found es i e t lt is pass h =
      let at : cond true 0 (suc (place_named name (map named_of (drop (i + 1) es)))) + i ≡ t = sym (ap (λ (b : Bool). cond b 0 (suc (place_named name (map named_of (drop (i + 1) es)))) + i) pass) ∙ place_next es i e t lt is h in
      omega (arith, at)

  pub place_step : (es : List Entry) (i : ℕ) (e : Entry) (t : ℕ) → i < length es → e ≡ get_or es i e → bytes_eq e.name.now name ≡ false
      → place_named name (map named_of (drop i es)) + i ≡ t → place_named name (map named_of (drop (i + 1) es)) + (i + 1) ≡ t
  place_step es i e t lt is pass h =
      let at : cond false 0 (suc (place_named name (map named_of (drop (i + 1) es)))) + i ≡ t = sym (ap (λ (b : Bool). cond b 0 (suc (place_named name (map named_of (drop (i + 1) es)))) + i) pass) ∙ place_next es i e t lt is h in
      omega (arith, at)

  pub place_none : (es : List Entry) (i : ℕ) (t : ℕ) → length es ≤ i → i ≤ length es → place_named name (map named_of (drop i es)) + i ≡ t → length es ≡ t
  place_none es i t le ge h =
      let at : i ≡ t = omega (arith, sym (ap (λ (y : List Entry). place_named name (map named_of y) + i) (drop_all i es le)) ∙ h) in
      omega (arith, at)

  -- ---- at a place

  pub find_at : (ns : List Named) → slice_get ns (place_named name ns) ≡ find_named name ns
  find_at [] = refl
  find_at (n ∷ ns) =
      elim (is_of_name name n) as (λ b. slice_get (n ∷ ns) (cond b 0 (suc (place_named name ns))) ≡ cond b (Some n) (find_named name ns)) [
        | true ↦ refl
        | false ↦ find_at ns
      ]

  pub set_at : (d : Datum) (ns : List Named) (n : Named) → n ≡ get_or ns (place_named name ns) n
      → set ns (place_named name ns) (named n.name n.kind d) ≡ with_datum name d ns
  set_at d [] n is = refl
  set_at d (m ∷ ns) n is =
      (elim (is_of_name name m) as (λ b. n ≡ get_or (m ∷ ns) (cond b 0 (suc (place_named name ns))) n
      → set (m ∷ ns) (cond b 0 (suc (place_named name ns))) (named n.name n.kind d) ≡ cond b (named m.name m.kind d ∷ ns) (m ∷ with_datum name d ns)) [
        | true ↦ λ first. ap (λ (k : Named). named k.name k.kind d ∷ ns) first
        | false ↦ λ later. ap (λ (r : List Named). m ∷ r) (set_at d ns n later)
      ]) is

  pub set_past : (d : Datum) (ns : List Named) → length ns ≤ place_named name ns → ns ≡ with_datum name d ns
  set_past d [] le = refl
  set_past d (m ∷ ns) le =
      (elim (is_of_name name m) as (λ b. suc (length ns) ≤ cond b 0 (suc (place_named name ns)) → m ∷ ns ≡ cond b (named m.name m.kind d ∷ ns) (m ∷ with_datum name d ns)) [
        | true ↦ λ first. absurd (omega (arith, first))
        | false ↦ λ later. ap (λ (r : List Named). m ∷ r) (set_past d ns (omega (arith, later)))
      ]) le

-- of names as they are kept
pub get_read : (name : List ℕ) (ns : List Named) (es : List Entry) (place : ℕ) (e : Entry) → ns ≡ map named_of es → place ≡ place_named name ns
    → place < length es → e ≡ get_or es place e → Some (named_of e) ≡ find_named name ns
get_read name ns es place e v p lt is =
    ap (option_map named_of) (sym (slice_get_read es (length es) place e refl lt is) ∙ ap (slice_get es) p)
    ∙ sym (slice_get-map named_of es (place_named name ns))
    ∙ ap (λ (ms : List Named). slice_get ms (place_named name ns)) (sym v) ∙ find_at name ns

pub get_past : (name : List ℕ) (ns : List Named) (es : List Entry) (place : ℕ) → ns ≡ map named_of es → place ≡ place_named name ns
    → length es ≤ place → None ≡ find_named name ns
get_past name ns es place v p le =
    let past : length ns ≤ place_named name ns = omega (arith, p, le, ap length v, length-map es named_of) in
    sym (slice_get_past ns (place_named name ns) past) ∙ find_at name ns

pub set_none : (name : List ℕ) (d : Datum) (ns : List Named) (es : List Entry) (place : ℕ) → ns ≡ map named_of es → place ≡ place_named name ns
    → length es ≤ place → ns ≡ with_datum name d ns
set_none name d ns es place v p le = set_past name d ns (omega (arith, p, le, ap length v, length-map es named_of))

get_or_mapped : (es : List Entry) (i : ℕ) (e : Entry) → e ≡ get_or es i e → named_of e ≡ get_or (map named_of es) i (named_of e)
get_or_mapped [] i e is = refl
get_or_mapped (x ∷ xs) zero e is = ap named_of is
get_or_mapped (x ∷ xs) (suc i) e is = get_or_mapped xs i e is

-- another entry in its place
pub set_entry : (name : List ℕ) (es : List Entry) (i : ℕ) (e f : Entry) → i ≡ place_named name (map named_of es) → e ≡ get_or es i e
    → f.name.now ≡ e.name.now → f.kind ≡ e.kind → map named_of (set es i f) ≡ with_datum name f.held (map named_of es)
set_entry name es i e f at is same_name same_kind =
    let placed : named_of e ≡ get_or (map named_of es) (place_named name (map named_of es)) (named_of e) =
    get_or_mapped es i e is ∙ ap (λ (j : ℕ). get_or (map named_of es) j (named_of e)) at in
    let made : named_of f ≡ named e.name.now e.kind f.held =
    ap (λ (n : List ℕ). named n f.kind f.held) same_name ∙ ap (λ (k : _). named e.name.now k f.held) same_kind in
    map-set named_of es i f
    ∙ ap (λ (j : ℕ). set (map named_of es) j (named_of f)) at
    ∙ ap (λ (n : Named). set (map named_of es) (place_named name (map named_of es)) n) made
    ∙ set_at name f.held (map named_of es) (named_of e) placed

pub left_of : (n : ℕ) (es : List Entry) → take n (map named_of es) ≡ map named_of (take n es)
left_of n es = take-map named_of n es
