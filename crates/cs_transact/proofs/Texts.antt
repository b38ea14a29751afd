-- Lines that are put one behind the other.
use Rattle.std.proofs.Common.{◌≡◌, ℕ, zero, suc, ◌+◌, ◌<◌, ◌≤◌, List, [], ◌∷◌, ◌++◌, length, drop, get_or, refl, sym, ap, ◌∙◌, append_assoc, append-nil, arith}
use Rattle.std.proofs.lemmas.List.{drop_all}
use Rattle.std.specs.List.{AllByRecursion}
use Rattle.cs_tx_value.specs.declared.object.Object.{Object}
use Rattle.cs_tx_types.specs.declared.trace.Trace.{Trace}
use Rattle.cs_tx.specs.Digest.{name_of_output}
use Rattle.cs_native.specs.Message.{message_of_trace}
use Rattle.cs_transact.specs.Lines.{message_line, output_line}
use Rattle.cs_transact.specs.Telling.{messages_text, names_text, outputs_text}
use Rattle.cs_transact.proofs.TraceLists.{drop_at}

-- what holds of each holds of the one at a place
pub all_at : {A : Type 0} (P : A → Type 0) (xs : List A) (i : ℕ) (d : A) → AllByRecursion P xs → i < length xs → P (get_or xs i d)
all_at P [] i d all lt = absurd (omega arith)
all_at P (x ∷ xs) zero d all lt = all.0
all_at P (x ∷ xs) (suc i) d all lt = all_at P xs i d all.1 (omega arith)

-- a line more, and the rest behind it
behind : (old new line rest whole : List ℕ) → new ≡ old ++ line → old ++ (line ++ rest) ≡ whole → new ++ rest ≡ whole
behind old new line rest whole grown is = ap (λ (l : List ℕ). l ++ rest) grown ∙ (append_assoc old line rest ∙ is)

pub messages_more : (traces : List Trace) (i : ℕ) (d : Trace) (old new whole : List ℕ) → i < length traces → d ≡ get_or traces i d → new ≡ old ++ message_line i (message_of_trace d) → old ++ messages_text i (drop i traces) ≡ whole
    → new ++ messages_text (i + 1) (drop (i + 1) traces) ≡ whole
messages_more traces i d old new whole within at grown so_far =
    let rest = messages_text (i + 1) (drop (i + 1) traces) in
    behind old new (message_line i (message_of_trace d)) rest whole grown
    (ap (λ (t : Trace). old ++ (message_line i (message_of_trace t) ++ rest)) at
    ∙ (sym (ap (λ (ts : List Trace). old ++ messages_text i ts) (drop_at traces i d within)) ∙ so_far))

pub messages_all : (traces : List Trace) (i : ℕ) (new whole : List ℕ) → length traces ≤ i → new ++ messages_text i (drop i traces) ≡ whole → new ≡ whole
messages_all traces i new whole past so_far =
    sym (append-nil new) ∙ (sym (ap (λ (ts : List Trace). new ++ messages_text i ts) (drop_all i traces past)) ∙ so_far)

-- the names don't depend on the objects
names_step : (digest : List ℕ) (number place : ℕ) (objects : List Object) (i : ℕ) → i < length objects
    → names_text digest number place (drop i objects) ≡ output_line number place (name_of_output digest number place) ++ names_text digest number (place + 1) (drop (i + 1) objects)
names_step digest number place [] i lt = absurd (omega arith)
names_step digest number place (object ∷ objects) zero lt = refl
names_step digest number place (object ∷ objects) (suc i) lt = let e : suc i + 1 ≡ suc (i + 1) = omega arith in rw e (names_step digest number place objects i (omega arith))

pub names_more : (digest : List ℕ) (number : ℕ) (objects : List Object) (i : ℕ) (old new whole : List ℕ) → i < length objects → new ≡ old ++ output_line number i (name_of_output digest number i) → old ++ names_text digest number i (drop i objects) ≡ whole
    → new ++ names_text digest number (i + 1) (drop (i + 1) objects) ≡ whole
names_more digest number objects i old new whole within grown so_far =
    behind old new (output_line number i (name_of_output digest number i)) (names_text digest number (i + 1) (drop (i + 1) objects)) whole grown
    (sym (ap (λ (l : List ℕ). old ++ l) (names_step digest number i objects i within)) ∙ so_far)

pub names_all : (digest : List ℕ) (number : ℕ) (objects : List Object) (i : ℕ) (new whole : List ℕ) → length objects ≤ i → new ++ names_text digest number i (drop i objects) ≡ whole → new ≡ whole
names_all digest number objects i new whole past so_far =
    sym (append-nil new) ∙ (sym (ap (λ (os : List Object). new ++ names_text digest number i os) (drop_all i objects past)) ∙ so_far)

pub outputs_more : (digest : List ℕ) (traces : List Trace) (i : ℕ) (d : Trace) (old new whole : List ℕ) → i < length traces → d ≡ get_or traces i d → new ≡ old ++ names_text digest i 0 d.outputs → old ++ outputs_text digest i (drop i traces) ≡ whole
    → new ++ outputs_text digest (i + 1) (drop (i + 1) traces) ≡ whole
outputs_more digest traces i d old new whole within at grown so_far =
    let rest = outputs_text digest (i + 1) (drop (i + 1) traces) in
    behind old new (names_text digest i 0 d.outputs) rest whole grown
    (ap (λ (t : Trace). old ++ (names_text digest i 0 t.outputs ++ rest)) at
    ∙ (sym (ap (λ (ts : List Trace). old ++ outputs_text digest i ts) (drop_at traces i d within)) ∙ so_far))

pub outputs_all : (digest : List ℕ) (traces : List Trace) (i : ℕ) (new whole : List ℕ) → length traces ≤ i → new ++ outputs_text digest i (drop i traces) ≡ whole → new ≡ whole
outputs_all digest traces i new whole past so_far =
    sym (append-nil new) ∙ (sym (ap (λ (ts : List Trace). new ++ outputs_text digest i ts) (drop_all i traces past)) ∙ so_far)
