-- What holds of the outcome of a call that may fail.
use Rattle.std.proofs.Common.{◌≡◌, Result, Err, sym, refl, subst, ◌∙◌}

err-same : {T E : Type 0} (a b : E) → ◌≡◌ {A = Result T E} (Err a) (Err b) → a ≡ b
err-same {T} {E} a b e = cc

-- an error that was handed on was this one
pub err-moved : {T U E : Type 0} (r : Result U E) (a e b : E) → r ≡ Err a → a ≡ e → r ≡ Err b → ◌≡◌ {A = Result T E} (Err e) (Err b)
err-moved {T} {U} {E} r a e b is same other =
    let q : a ≡ b = err-same {T = U} a b (sym is ∙ other) in
    let p : e ≡ b = sym same ∙ q in
    subst (λ (x : E). ◌≡◌ {A = Result T E} (Err e) (Err x)) p refl
