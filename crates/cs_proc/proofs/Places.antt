-- What stands at a place of a list.
use Rattle.std.proofs.Common.{◌≡◌, ℕ, ltb, List, length, get_or, Option, Some, None, Bor, refl, sym, ap, ◌∙◌}
use Rattle.std.specs.Prelude.{slice_get, is_some, IfSome}
use Rattle.std.specs.Option.{option_copied}
use Rattle.std.proofs.lemmas.Bool.{ltb-true, ltb-false}
use Rattle.std.proofs.lemmas.Option.{slice_get_read, slice_get_past}

-- as a call of `get` answers it
pub got : {A : Type 0} (r : Option (Bor A)) (xs ys : List A) (i : ℕ) → ys ≡ xs → is_some r ≡ ltb i (length ys) → IfSome r (λ x. x.now ≡ get_or ys i x.now)
    → slice_get xs i ≡ option_copied r
got {A} None xs ys i same some at = ap (λ (zs : List A). slice_get zs i) (sym same) ∙ slice_get_past ys i (ltb-false i (length ys) (sym some))
got {A} (Some x) xs ys i same some at = ap (λ (zs : List A). slice_get zs i) (sym same) ∙ slice_get_read ys (length ys) i x.now refl (ltb-true i (length ys) (sym some)) at
