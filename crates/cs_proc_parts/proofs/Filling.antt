-- Slots by their places.
use Rattle.std.proofs.Common.{◌≡◌, ℕ, zero, suc, ◌<◌, ◌≤◌, true, false, cond, List, [], ◌∷◌, map, length, get_or, Some, None, refl, sym, ap, ◌∙◌, arith}
use Rattle.std.specs.Prelude.{slice_get}
use Rattle.std.specs.Option.{option_map}
use Rattle.std.proofs.Math.ListN.{set}
use Rattle.std.proofs.lemmas.List.{map-set, length-map}
use Rattle.std.proofs.lemmas.Option.{slice_get-map, slice_get_read, slice_get_past}
use Rattle.cs_tx_value.specs.declared.object.Object.{Object}
use Rattle.cs_proc_parts.specs.declared.outputs.Entry.{Entry}
use Rattle.cs_proc_parts.specs.Slots.{created_of}
use Rattle.cs_proc_parts.specs.Creating.{Created, is_created, place_created, find_created, with_object, with_made}

module _ (name : List ℕ) where
  find_at : (cs : List Created) → slice_get cs (place_created name cs) ≡ find_created name cs
  find_at [] = refl
  find_at (c ∷ cs) =
      elim (is_created name c) as (λ b. slice_get (c ∷ cs) (cond b 0 (suc (place_created name cs))) ≡ cond b (Some c) (find_created name cs)) [
        | true ↦ refl
        | false ↦ find_at cs
      ]

  made_at : (o : Object) (cs : List Created) (c : Created) → c ≡ get_or cs (place_created name cs) c
      → set cs (place_created name cs) (with_object o c) ≡ with_made name o cs
  made_at o [] c is = refl
  made_at o (d ∷ cs) c is =
      (elim (is_created name d) as (λ b. c ≡ get_or (d ∷ cs) (cond b 0 (suc (place_created name cs))) c
      → set (d ∷ cs) (cond b 0 (suc (place_created name cs))) (with_object o c) ≡ cond b (with_object o d ∷ cs) (d ∷ with_made name o cs)) [
        | true ↦ λ first. ap (λ (k : Created). with_object o k ∷ cs) first
        | false ↦ λ later. ap (λ (r : List Created). d ∷ r) (made_at o cs c later)
      ]) is

  made_past : (o : Object) (cs : List Created) → length cs ≤ place_created name cs → cs ≡ with_made name o cs
  made_past o [] le = refl
  made_past o (c ∷ cs) le =
      (elim (is_created name c) as (λ b. suc (length cs) ≤ cond b 0 (suc (place_created name cs)) → c ∷ cs ≡ cond b (with_object o c ∷ cs) (c ∷ with_made name o cs)) [
        | true ↦ λ first. absurd (omega (arith, first))
        | false ↦ λ later. ap (λ (r : List Created). c ∷ r) (made_past o cs (omega (arith, later)))
      ]) le

-- of slots as they are kept
pub get_read : (name : List ℕ) (cs : List Created) (es : List Entry) (place : ℕ) (e : Entry) → cs ≡ map created_of es → place ≡ place_created name cs
    → place < length es → e ≡ get_or es place e → Some (created_of e) ≡ find_created name cs
get_read name cs es place e v p lt is =
    ap (option_map created_of) (sym (slice_get_read es (length es) place e refl lt is) ∙ ap (slice_get es) p)
    ∙ sym (slice_get-map created_of es (place_created name cs))
    ∙ ap (λ (ms : List Created). slice_get ms (place_created name cs)) (sym v) ∙ find_at name cs

pub get_past : (name : List ℕ) (cs : List Created) (es : List Entry) (place : ℕ) → cs ≡ map created_of es → place ≡ place_created name cs
    → length es ≤ place → None ≡ find_created name cs
get_past name cs es place v p le =
    let past : length cs ≤ place_created name cs = omega (arith, p, le, ap length v, length-map es created_of) in
    sym (slice_get_past cs (place_created name cs) past) ∙ find_at name cs

pub made_none : (name : List ℕ) (o : Object) (cs : List Created) (es : List Entry) (place : ℕ) → cs ≡ map created_of es → place ≡ place_created name cs
    → length es ≤ place → cs ≡ with_made name o cs
made_none name o cs es place v p le = made_past name o cs (omega (arith, p, le, ap length v, length-map es created_of))

get_or_mapped : (es : List Entry) (i : ℕ) (e : Entry) → e ≡ get_or es i e → created_of e ≡ get_or (map created_of es) i (created_of e)
get_or_mapped [] i e is = refl
get_or_mapped (x ∷ xs) zero e is = ap created_of is
get_or_mapped (x ∷ xs) (suc i) e is = get_or_mapped xs i e is

-- one object more in its place
pub put_entry : (name : List ℕ) (o : Object) (es : List Entry) (i : ℕ) (e f : Entry) → i ≡ place_created name (map created_of es) → e ≡ get_or es i e
    → created_of f ≡ with_object o (created_of e) → map created_of (set es i f) ≡ with_made name o (map created_of es)
put_entry name o es i e f at is more =
    let placed : created_of e ≡ get_or (map created_of es) (place_created name (map created_of es)) (created_of e) =
    get_or_mapped es i e is ∙ ap (λ (j : ℕ). get_or (map created_of es) j (created_of e)) at in
    map-set created_of es i f
    ∙ ap (λ (j : ℕ). set (map created_of es) j (created_of f)) at
    ∙ ap (λ (c : Created). set (map created_of es) (place_created name (map created_of es)) c) more
    ∙ made_at name o (map created_of es) (created_of e) placed
