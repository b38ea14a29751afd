-- The turns of the loop over cases.
use Rattle.std.proofs.Common.{◌≡◌, ℕ, zero, suc, ◌+◌, ◌<◌, List, [], ◌∷◌, drop, length, get_or, sym, ap, ◌∙◌, subst, arith}
use Rattle.sha2.specs.Sha256.{sha256}
use Rattle.cs_types.specs.Accepted.{Accepted}
use Rattle.cs_cases.specs.declared.case.Case.{Case}
use Rattle.cs_trial.specs.Trials.{Tally, IsTried, CasesTell}

-- so far: whatever the other cases come to, all come to with them
abbrev pub GoesOn : Accepted → List ℕ → List Case → Tally → ℕ → List Case → Tally → Type 0
GoesOn a text all start number rest so_far =
    (tally : Tally) → CasesTell a text number rest so_far tally → CasesTell a text 1 all start tally

pub goes-begin : (a : Accepted) (text : List ℕ) (all : List Case) (start : Tally) → GoesOn a text all start 1 all start
goes-begin a text all start tally told = told

-- one case more
pub goes-next : (a : Accepted) (id text : List ℕ) (all : List Case) (start : Tally) (number next : ℕ) (c : Case) (rest more : List Case) (before after : Tally) → id ≡ sha256 text → rest ≡ c ∷ more → next ≡ number + 1 → IsTried a id text number c before after
    → GoesOn a text all start number rest before → GoesOn a text all start next more after
goes-next a id text all start number next c rest more before after same is counted tried so_far tally told =
    let P : List ℕ → Type 0 = λ i. IsTried a i text number c before after in
    let here : IsTried a (sha256 text) text number c before after = subst P same tried in
    let Q : ℕ → Type 0 = λ n. CasesTell a text n more after tally in
    let R : Tally → Type 0 = λ t. CasesTell a text (number + 1) more t tally in
    let S : List Case → Type 0 = λ cs. CasesTell a text number cs before tally in
    so_far tally (subst S (sym is) (here.0, here.1, here.2, subst R here.3 (subst Q counted told)))

drop-suc : {X : Type 0} (k : ℕ) (xs : List X) (x : X) → k < length xs → x ≡ get_or xs k x → drop k xs ≡ x ∷ drop (suc k) xs
drop-suc {X} k [] x h is = absurd (omega arith)
drop-suc {X} zero (y ∷ xs) x h is = ap (λ z. z ∷ xs) (sym is)
drop-suc {X} (suc k) (y ∷ xs) x h is = drop-suc k xs x (omega arith) is

-- what is left begins with the case at this place
pub drop-next : {X : Type 0} (k : ℕ) (xs : List X) (x : X) → k < length xs → x ≡ get_or xs k x → drop k xs ≡ x ∷ drop (k + 1) xs
drop-next {X} k xs x h is = let same : suc k ≡ k + 1 = omega arith in drop-suc k xs x h is ∙ ap (λ n. x ∷ drop n xs) same
