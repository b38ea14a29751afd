-- The names in sight of a text are those that a check has, in their order and of their kinds.
use Rattle.std.proofs.Common.{◌≡◌, ℕ, ◌+◌, Bool, true, false, cond, Option, None, Some, List, [], ◌∷◌, ◌++◌, take, length, refl, sym, ap, ◌∙◌, subst, arith, append_assoc, length-append}
use Rattle.std.specs.Prelude.{◌&&◌, unwrap_or}
use Rattle.std.specs.Str.{bytes_eq}
use Rattle.cs_types_kinds.specs.declared.kind.Kind.{Kind}
use Rattle.cs_types_kinds.specs.declared.scope.Use.{Use}
use Rattle.cs_types_kinds.specs.declared.scope.Seen.{Seen}
use Rattle.cs_types_kinds.specs.declared.scope.Entry.{Entry}
use Rattle.cs_types_kinds.specs.Scopes.{in_sight, is_seen, name_seen, with_name}
use Rattle.cs_eval_values.specs.Datums.{Datum}
use Rattle.cs_eval_values.specs.Namings.{Named, named, is_of_name, find_named, kind_in, kind_named, with_named, with_datum}

abbrev pub Alike : List Entry → List Named → Type 0
Alike [] [] = Unit {0}
Alike [] (n ∷ ns) = ⊥
Alike (e ∷ es) [] = ⊥
Alike (e ∷ es) (n ∷ ns) = (in_sight e.seen.usage ≡ true) × (e.name ≡ n.name) × (e.seen.kind ≡ n.kind) × Alike es ns

-- more names stand behind
abbrev pub Extends : List Entry → List Entry → Type 0
Extends es all = (more : List Entry) × (all ≡ es ++ more)

pub extends_none : (es : List Entry) → Extends es es
extends_none es = ([], sym (append_none es))
  where
    append_none : (xs : List Entry) → xs ++ [] ≡ xs
    append_none [] = refl
    append_none (x ∷ xs) = ap (λ (ys : List Entry). x ∷ ys) (append_none xs)

pub extends_on : (es fs gs : List Entry) → Extends es fs → Extends fs gs → Extends es gs
extends_on es fs gs a b =
    (a.0 ++ b.0, b.1 ∙ ap (λ (xs : List Entry). xs ++ b.0) a.1 ∙ append_assoc es a.0 b.0)

pub alike_length : (es : List Entry) (ns : List Named) → Alike es ns → length es ≡ length ns
alike_length [] [] a = refl
alike_length [] (n ∷ ns) a = absurd a
alike_length (e ∷ es) [] a = absurd a
alike_length (e ∷ es) (n ∷ ns) a = omega (arith, alike_length es ns a.3)

pub alike_more : (es : List Entry) (ns : List Named) (name : List ℕ) (k : Kind) (u : Use) (d : Datum) → in_sight u ≡ true → Alike es ns
    → Alike (with_name es name k u) (with_named ns name k d)
alike_more [] [] name k u d can a = (can, refl, refl, tt)
alike_more [] (n ∷ ns) name k u d can a = absurd a
alike_more (e ∷ es) [] name k u d can a = absurd a
alike_more (e ∷ es) (n ∷ ns) name k u d can a = (a.0, a.1, a.2, alike_more es ns name k u d can a.3)

pub alike_cut : (es more : List Entry) (ns : List Named) → Alike (es ++ more) ns → Alike es (take (length es) ns)
alike_cut [] more ns a = tt
alike_cut (e ∷ es) more [] a = absurd a
alike_cut (e ∷ es) more (n ∷ ns) a = (a.0, a.1, a.2, alike_cut es more ns a.3)

pub alike_set : (es : List Entry) (ns : List Named) (name : List ℕ) (d : Datum) → Alike es ns → Alike es (with_datum name d ns)
alike_set [] [] name d a = tt
alike_set [] (n ∷ ns) name d a = absurd a
alike_set (e ∷ es) [] name d a = absurd a
alike_set (e ∷ es) (n ∷ ns) name d a = by_cases (alike_set es ns name d a.3) (is_of_name name n)
  where
    by_cases : Alike es (with_datum name d ns) → (b : Bool) → Alike (e ∷ es) (cond b (named n.name n.kind d ∷ ns) (n ∷ with_datum name d ns))
    by_cases behind true = (a.0, a.1, a.2, a.3)
    by_cases behind false = (a.0, a.1, a.2, behind)

pub alike_seen : (es : List Entry) (ns : List Named) (name : List ℕ) (s : Seen) → Alike es ns → name_seen name es ≡ Some s → kind_named name ns ≡ Some s.kind
alike_seen [] [] name s a is = absurd cc
alike_seen [] (n ∷ ns) name s a is = absurd a
alike_seen (e ∷ es) [] name s a is = absurd a
alike_seen (e ∷ es) (n ∷ ns) name s a is =
    by_cases (λ h. alike_seen es ns name s a.3 h) (bytes_eq n.name name) (sym (ap (λ b. cond b (Some e.seen) (name_seen name es)) same_test) ∙ is)
  where
    same_test : is_seen name e ≡ bytes_eq n.name name
    same_test = ap (λ b. b && bytes_eq e.name name) a.0 ∙ ap (λ (text : List ℕ). bytes_eq text name) a.1

    by_cases : (name_seen name es ≡ Some s → kind_named name ns ≡ Some s.kind) → (b : Bool)
        → cond b (Some e.seen) (name_seen name es) ≡ Some s → kind_in (cond b (Some n) (find_named name ns)) ≡ Some s.kind
    by_cases behind true h = ap (λ (k : Kind). Some k) (sym a.2) ∙ ap (λ (o : Option Seen). Some (unwrap_or o e.seen).kind) h
    by_cases behind false h = behind h
