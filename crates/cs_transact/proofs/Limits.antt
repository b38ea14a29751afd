-- Traces and transactions within their limits.
use Rattle.std.proofs.Common.{◌≡◌, ◌⊎◌, ℕ, ◌+◌, ◌-◌, ◌<◌, ◌≤◌, List, [], ◌∷◌, length, take, drop, get_or, Option, Some, None, Result, Ok, Err, inl, inr, refl, sym, subst, ap, ◌∙◌, arith}
use Rattle.std.proofs.lemmas.List.{take_all}
use Rattle.std.specs.List.{AllByRecursion}
use Rattle.cs_base.specs.declared.limits.TheConstants.{MOST_TX}
use Rattle.cs_tx_types.specs.declared.trace.Trace.{Trace}
use Rattle.cs_tx_types.specs.declared.transaction.Tx.{Tx}
use Rattle.cs_tx_types.specs.Transaction.{TraceFits, TxFits, tx_of, tx_encoding}
use Rattle.cs_transact.specs.Refusing.{Unless}
use Rattle.cs_transact.specs.Fitting.{IsFirstPast, IsPast}
use Rattle.cs_transact.specs.Formed.{first_failed}
use Rattle.cs_transact.specs.Says.{IsFew, PassesTests, Come}
use Rattle.cs_transact.specs.declared.refusal.Refusal.{Refusal}
use Rattle.cs_transact.specs.declared.refusal.Refusal.TheVariants.{Limit}
use Rattle.cs_transact.specs.declared.refusal.TextError.{TextError}
use Rattle.cs_transact.specs.declared.refusal.TextError.TheVariants.{Refused, Memory}
use Rattle.cs_transact.specs.declared.refusal.TraceField.{TraceField}
use Rattle.cs_transact.specs.declared.refusal.TraceField.TheVariants as field
use Rattle.cs_transact.specs.declared.refusal.TheConstants.{FIELDS}

-- where there is no first one, this one isn't it
past-none : {A B : Type 0} (f : TraceField) → ((A → ⊥) × (None ≡ Some f)) ⊎ B → B
past-none f (inl (past, is)) = absurd (let q : None ≡ Some f = is in cc)
past-none f (inr rest) = rest

pub trace-fits : (t : Trace) → IsFirstPast t FIELDS None → TraceFits t
trace-fits t none =
    let a = past-none field.Contract none in
    let b = past-none field.Method a.1 in
    let c = past-none field.Inputs b.1 in
    let d = past-none field.References c.1 in
    let e = past-none field.Outputs d.1 in
    let f = past-none field.Parameters e.1 in
    let g = past-none field.Returns f.1 in
    let h = past-none field.Deps g.1 in
    record { contract = a.0; method = b.0; inputs = c.0; references = d.0; outputs = e.0; parameters = f.0; returns = g.0; deps = h.0 }

pub all-fit : (number : ℕ) (ts : List Trace) → IsPast number ts None → AllByRecursion TraceFits ts
all-fit number [] none = tt
all-fit number (t ∷ ts) (inl (f, past, is)) = absurd (let q : None ≡ Some (Limit number f) = is in cc)
all-fit number (t ∷ ts) (inr (fits, none)) = (trace-fits t fits, all-fit (number + 1) ts none)

-- the first of the traces has a field that is past its limit
pub past-here : (number : ℕ) (ts : List Trace) (d : Trace) (f : TraceField) → 0 < length ts → d ≡ get_or ts 0 d → IsFirstPast d FIELDS (Some f) → IsPast number ts (Some (Limit number f))
past-here number [] d f some at past = absurd (omega arith)
past-here number (t ∷ ts) d f some at past = inl (f, subst (λ (x : Trace). IsFirstPast x FIELDS (Some f)) at past, refl)

-- it has none, so what holds of the others decides
pub past-later : (number : ℕ) (ts : List Trace) (d : Trace) (found : Option Refusal) → 0 < length ts → d ≡ get_or ts 0 d → IsFirstPast d FIELDS None
    → IsPast (number + 1) (take (length ts - 1) (drop 1 ts)) found → IsPast number ts found
past-later number [] d found some at none later = absurd (omega arith)
past-later number (t ∷ ts) d found some at none later =
    inr (subst (λ (x : Trace). IsFirstPast x FIELDS None) at none, subst (λ (xs : List Trace). IsPast (number + 1) xs found) (take_all (length (t ∷ ts) - 1) ts (omega arith)) later)

pub tx-fits : (ts : List Trace) → IsFew ts → IsPast 0 ts None → length (tx_encoding (tx_of ts)) ≤ MOST_TX → TxFits (tx_of ts)
tx-fits ts few none small = record { some = few.0; traces = (few.1, all-fit 0 ts none); small = small }

-- a transaction within its limits comes to what its tests say
pub formed-comes : (ts : List Trace) (r : Result Tx TextError) → IsPast 0 ts None → TxFits (tx_of ts) → Unless (PassesTests (tx_of ts)) r → Unless (Come ts) r
formed-comes ts (Ok tx) none fits is =
    (is.0, subst TxFits (sym is.0) fits, ap (λ (x : Tx). first_failed x) is.0 ∙ is.1)
formed-comes ts (Err (Refused refusal)) none fits is = inr (none, inr (fits, is))
formed-comes ts (Err Memory) none fits is = tt
