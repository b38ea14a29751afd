-- Traces that are read one by one.
use Rattle.std.proofs.Common.{◌≡◌, ℕ, Bool, true, false, ◌+◌, ◌<◌, ◌≤◌, List, [], ◌∷◌, ◌++◌, length, drop, drop-cons, map, get_or, Result, Ok, Err, refl, sym, ap, ◌∙◌, append_assoc, append-nil, add-one}
use Rattle.std.proofs.lemmas.List.{drop_all}
use Rattle.std.specs.Prelude.{if◌then◌else◌}
use Rattle.std.specs.List.{list_all}
use Rattle.toml.specs.Data.{Data}
use Rattle.toml.specs.View.{view, items_of, items_view}
use Rattle.toml.specs.declared.value.Value.{Value}
use Rattle.cs_tx_types.specs.declared.trace.Trace.{Trace}
use Rattle.cs_transact.specs.Refusing.{◌>>=◌}
use Rattle.cs_transact.specs.Reading.{data_listed, is_table, tables_of, some_traces, traces_of_items, trace_in, traces_from}
use Rattle.cs_transact.specs.declared.refusal.Refusal.{Refusal}
use Rattle.cs_transact.specs.declared.refusal.Refusal.TheVariants.{Traces}

-- the items of a list are that list
pub data_listed-items_of : (ds : List Data) → data_listed (items_of ds) ≡ ds
data_listed-items_of [] = refl
data_listed-items_of (d ∷ ds) = ap (λ (xs : List Data). d ∷ xs) (data_listed-items_of ds)

-- ---- tables of an array

of-items : (items : List Value) (b : Bool) → list_all is_table (map view items) ≡ b → traces_of_items (items_view items) ≡ ((if b then Ok (map view items) else Err Traces) >>= some_traces)
of-items items b is =
    ap (λ (ds : List Data). tables_of ds >>= some_traces) (data_listed-items_of (map view items))
    ∙ ap (λ (test : Bool). (if test then Ok (map view items) else Err Traces) >>= some_traces) is

-- the items are tables, or not all of them
pub items-read : (items : List Value) → list_all is_table (map view items) ≡ true → traces_of_items (items_view items) ≡ some_traces (map view items)
items-read items is = of-items items true is

pub items-unread : (items : List Value) → list_all is_table (map view items) ≡ false → traces_of_items (items_view items) ≡ Err Traces
items-unread items is = of-items items false is

-- ---- traces

-- what was read, and what comes of the rest
abbrev pub found_ahead : List Trace → Result (List Trace) Refusal → Result (List Trace) Refusal
found_ahead found rest = rest >>= λ ts. Ok (found ++ ts)

pub found_ahead_nil : (rest : Result (List Trace) Refusal) → found_ahead [] rest ≡ rest
found_ahead_nil (Ok ts) = refl
found_ahead_nil (Err refusal) = refl

pub drop_at : {A : Type 0} (xs : List A) (i : ℕ) (d : A) → i < length xs → drop i xs ≡ get_or xs i d ∷ drop (i + 1) xs
drop_at xs i d lt = rw (add-one, drop-cons xs i d) refl

moved : (found : List Trace) (t : Trace) (rest : Result (List Trace) Refusal) → found_ahead found (rest >>= λ ts. Ok (t ∷ ts)) ≡ found_ahead (found ++ t ∷ []) rest
moved found t (Err refusal) = refl
moved found t (Ok ts) = ap Ok (sym (append_assoc found (t ∷ []) ts))

abbrev step : Result (List Trace) Refusal → Result Trace Refusal → Result (List Trace) Refusal
step rest first = first >>= λ t. rest >>= λ ts. Ok (t ∷ ts)

-- one more was read
pub traces_more : (items : List Value) (i : ℕ) (d : Value) (found : List Trace) (t : Trace) → i < length items → d ≡ get_or items i d → trace_in i (view d) ≡ Ok t
    → found_ahead found (traces_from i (map view (drop i items))) ≡ found_ahead (found ++ t ∷ []) (traces_from (i + 1) (map view (drop (i + 1) items)))
traces_more items i d found t within at reads =
    let rest = traces_from (i + 1) (map view (drop (i + 1) items)) in
    ap (λ (vs : List Value). found_ahead found (traces_from i (map view vs))) (drop_at items i d within)
    ∙ (ap (λ (v : Value). found_ahead found (step rest (trace_in i (view v)))) (sym at)
    ∙ (ap (λ (r : Result Trace Refusal). found_ahead found (step rest r)) reads ∙ moved found t rest))

-- one is none
pub traces_none : (items : List Value) (i : ℕ) (d : Value) (found : List Trace) (refusal : Refusal) → i < length items → d ≡ get_or items i d → trace_in i (view d) ≡ Err refusal
    → found_ahead found (traces_from i (map view (drop i items))) ≡ Err refusal
traces_none items i d found refusal within at reads =
    let rest = traces_from (i + 1) (map view (drop (i + 1) items)) in
    ap (λ (vs : List Value). found_ahead found (traces_from i (map view vs))) (drop_at items i d within)
    ∙ (ap (λ (v : Value). found_ahead found (step rest (trace_in i (view v)))) (sym at)
    ∙ ap (λ (r : Result Trace Refusal). found_ahead found (step rest r)) reads)

pub traces_all : (items : List Value) (i : ℕ) (found : List Trace) → length items ≤ i → found_ahead found (traces_from i (map view (drop i items))) ≡ Ok found
traces_all items i found past = ap (λ (vs : List Value). found_ahead found (traces_from i (map view vs))) (drop_all i items past) ∙ ap Ok (append-nil found)
