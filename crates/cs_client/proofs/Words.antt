-- Words on objects: what fits is one object where it is written alike.
use Rattle.std.proofs.Common.{◌≡◌, ℕ, Bool, true, false, List, [], ◌++◌, Some, ◌↔◌, IsTrue, bytes_eq, refl, sym, ap, ◌∙◌}
use Rattle.std.proofs.lemmas.Slice.Eq.{bytes_eq-Decides}
use Rattle.cs_tx_value.specs.declared.object.Object.{Object}
use Rattle.cs_tx_value.specs.Object.{object_encoding, ObjectFits, object_at}
use Rattle.cs_tx_value.specs.laws.Object.{object_form}

front : (p q : Object × List ℕ) → Some p ≡ Some q → p.0 ≡ q.0
front p q h = let both : p ≡ q = cc in ap (λ (z : Object × List ℕ). z.0) both

one_object : (a b : Object) → ObjectFits a → ObjectFits b → object_encoding a ≡ object_encoding b → a ≡ b
one_object a b fits_a fits_b e =
    front (a, []) (b, []) (sym (object_form.again a [] fits_a) ∙ ap (λ bytes. object_at (bytes ++ [])) e ∙ object_form.again b [] fits_b)

both_ways : (r t : Bool) → (r ≡ true → t ≡ true) → (t ≡ true → r ≡ true) → r ≡ t
both_ways true t there back = sym (there refl)
both_ways false true there back = back refl
both_ways false false there back = refl

-- a test of equality is that of the encodings
pub is_same : (a b : Object) → ObjectFits a → ObjectFits b → (r : Bool) → IsTrue r ↔ (a ≡ b) → r ≡ bytes_eq (object_encoding b) (object_encoding a)
is_same a b fits_a fits_b r is =
    both_ways r (bytes_eq (object_encoding b) (object_encoding a))
    (λ h. (bytes_eq-Decides (object_encoding b) (object_encoding a)).1 (ap object_encoding (sym (is.0 h))))
    (λ h. is.1 (one_object a b fits_a fits_b (sym ((bytes_eq-Decides (object_encoding b) (object_encoding a)).0 h))))
