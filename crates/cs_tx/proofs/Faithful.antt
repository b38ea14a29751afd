-- What the encodings promise to the ledger: one encoding is that of one value, and the places of outputs differ.
use Rattle.std.proofs.Common.{◌≡◌, ℕ, ◌+◌, ◌/◌, ◌%◌, ◌<◌, ◌≤◌, Bool, true, false, List, [], ◌∷◌, ◌++◌, length, map, refl, sym, ap, ◌∙◌, inl, inr, arith}
use Rattle.std.specs.Prelude.{bytes_eq}
use Rattle.std.specs.List.{AllByRecursion}
use Rattle.std.specs.Int.{w16, to_be_bytes}
use Rattle.std.specs.Cmp.Lexicographic.{bytes_decides}
use Rattle.std.proofs.lemmas.Bool.{and_from, or_parts, or_from, not_from_false, false_from_ne_true}
use Rattle.cs_base.specs.Lists.{IsIn}
use Rattle.cs_base.specs.Fields.{IsForm, Found, whole_at}
use Rattle.cs_base.proofs.Forms.{whole-again, some_is}
use Rattle.cs_tx_value.specs.declared.object.Object.{Object}
use Rattle.cs_tx_types.specs.declared.trace.Trace.{Trace}
use Rattle.cs_tx_types.specs.declared.transaction.Tx.{Tx}
use Rattle.cs_tx_types.specs.declared.session.Session.{Session}
use Rattle.cs_tx_types.specs.Transaction.{tx_encoding, TraceFits, TxFits}
use Rattle.cs_tx_types.specs.Session.{session_encoding, SessionFits}
use Rattle.cs_tx_types.specs.laws.Session.{tx_form, session_form}
use Rattle.cs_tx.specs.Sessions.{outputs_written_at, outputs_written, written_tx, written_of}
use Rattle.cs_ledger.specs.Ledger.{has, all_differ}
use Rattle.cs_ledger.specs.Strings.{Output, WrittenSession, IsFaithful, places_of}

-- ---- one encoding is that of one value

pub apart : {X : Type 0} {write : X → List ℕ} {Fits : X → Type 0} {read : List ℕ → Found X} → IsForm write Fits read → (x y : X) → Fits x → Fits y → write x ≡ write y → x ≡ y
apart {X} {write = write} {Fits = Fits} {read = read} form x y fits fits2 same =
    some_is x y (sym (whole-again write Fits read form x fits) ∙ ap (whole_at read) same ∙ whole-again write Fits read form y fits2)

pub tx-apart : (x y : Tx) → TxFits x → TxFits y → tx_encoding x ≡ tx_encoding y → x ≡ y
tx-apart = apart tx_form

pub session-apart : (x y : Session) → SessionFits x → SessionFits y → session_encoding x ≡ session_encoding y → x ≡ y
session-apart = apart session_form

-- ---- places

abbrev place : ℕ → ℕ → List ℕ
place trace number = to_be_bytes w16 trace ++ to_be_bytes w16 number

place-is : (a b c d : ℕ) → a < 65536 → b < 65536 → c < 65536 → d < 65536 → place a b ≡ place c d → (a ≡ c) × (b ≡ d)
place-is a b c d la lb lc ld e =
    let a1 : a / 256 % 256 ≡ c / 256 % 256 = cc in
    let a2 : a % 256 ≡ c % 256 = cc in
    let b1 : b / 256 % 256 ≡ d / 256 % 256 = cc in
    let b2 : b % 256 ≡ d % 256 = cc in
    (omega arith, omega arith)

places-differ : (a b c d : ℕ) → a < 65536 → b < 65536 → c < 65536 → d < 65536 → ((a ≡ c) × (b ≡ d) → ⊥) → bytes_eq (place a b) (place c d) ≡ false
places-differ a b c d la lb lc ld differ =
    false_from_ne_true (bytes_eq (place a b) (place c d)) (λ e. differ (place-is a b c d la lb lc ld ((bytes_decides (place a b) (place c d)).0 e)))

-- a place of an earlier number isn't among those from here on
not-at : (trace number from : ℕ) (objects : List Object) → trace < 65536 → number < from → from + length objects ≤ 65536
    → has (place trace number) (places_of (outputs_written_at trace from objects)) ≡ false
not-at trace number from [] lt before few = refl
not-at trace number from (object ∷ objects) lt before few =
    or_from _ _ (places-differ trace number trace from lt (omega arith) lt (omega arith) (λ e. let same : number ≡ from = e.1 in omega arith))
    (not-at trace number (from + 1) objects lt (omega arith) (omega arith))

-- nor one of an earlier trace
not-of : (earlier trace number from : ℕ) (objects : List Object) → earlier < trace → trace < 65536 → number < 65536 → from + length objects ≤ 65536
    → has (place earlier number) (places_of (outputs_written_at trace from objects)) ≡ false
not-of earlier trace number from [] before lt small few = refl
not-of earlier trace number from (object ∷ objects) before lt small few =
    or_from _ _ (places-differ earlier number trace from (omega arith) small lt (omega arith) (λ e. let same : earlier ≡ trace = e.0 in omega arith))
    (not-of earlier trace number (from + 1) objects before lt small (omega arith))

has-append : (name : List ℕ) (xs ys : List Output) → has name (places_of xs) ≡ false → has name (places_of ys) ≡ false → has name (places_of (xs ++ ys)) ≡ false
has-append name [] ys here there = there
has-append name (x ∷ xs) ys here there =
    let h = or_parts _ _ here in
    or_from _ _ h.0 (has-append name xs ys h.1 there)

not-later : (earlier trace number : ℕ) (traces : List Trace) → earlier < trace → number < 65536 → trace + length traces ≤ 65536 → AllByRecursion TraceFits traces
    → has (place earlier number) (places_of (outputs_written trace traces)) ≡ false
not-later earlier trace number [] before small few fits = refl
not-later earlier trace number (t ∷ ts) before small few fits =
    has-append (place earlier number) (outputs_written_at trace 0 t.outputs) (outputs_written (trace + 1) ts)
    (not-of earlier trace number 0 t.outputs before (omega arith) small (omega (arith, fits.0.outputs.0)))
    (not-later earlier (trace + 1) number ts (omega arith) small (omega arith) fits.1)

differ-at : (trace from : ℕ) (objects : List Object) (later : List Output) → trace < 65536 → from + length objects ≤ 65536
    → ((number : ℕ) → number < 65536 → has (place trace number) (places_of later) ≡ false) → all_differ (places_of later) ≡ true
    → all_differ (places_of (outputs_written_at trace from objects ++ later)) ≡ true
differ-at trace from [] later lt few none differ = differ
differ-at trace from (object ∷ objects) later lt few none differ =
    and_from _ _
    (not_from_false _ (has-append (place trace from) (outputs_written_at trace (from + 1) objects) later (not-at trace from (from + 1) objects lt (omega arith) (omega arith)) (none from (omega arith))))
    (differ-at trace (from + 1) objects later lt (omega arith) none differ)

differ-from : (trace : ℕ) (traces : List Trace) → trace + length traces ≤ 65536 → AllByRecursion TraceFits traces → all_differ (places_of (outputs_written trace traces)) ≡ true
differ-from trace [] few fits = refl
differ-from trace (t ∷ ts) few fits =
    differ-at trace 0 t.outputs (outputs_written (trace + 1) ts) (omega arith) (omega (arith, fits.0.outputs.0))
    (λ number small. not-later trace (trace + 1) number ts (omega arith) small (omega arith) fits.1)
    (differ-from (trace + 1) ts (omega arith) fits.1)

-- ---- the ledger's sessions of sessions that fit

written_from : (approves : Tx → Bool) (w : WrittenSession) (xs : List Session) → IsIn w (map (written_of approves) xs) → (x : Session) × IsIn x xs × (w ≡ written_of approves x)
written_from approves w [] h = absurd h
written_from approves w (x ∷ xs) (inl e) = (x, inl refl, e)
written_from approves w (x ∷ xs) (inr h) = let r = written_from approves w xs h in (r.0, inr r.1, r.2)

pub are-faithful : (approves : Tx → Bool) (xs : List Session) → ((x : Session) → IsIn x xs → SessionFits x) → IsFaithful (map (written_of approves) xs)
are-faithful approves xs fit = record {
  sessions = λ v w v_in w_in same.
      let x = written_from approves v xs v_in in let y = written_from approves w xs w_in in
      let code : session_encoding x.0 ≡ session_encoding y.0 = sym (ap (λ (u : WrittenSession). u.code) x.2) ∙ same ∙ ap (λ (u : WrittenSession). u.code) y.2 in
      x.2 ∙ ap (written_of approves) (session-apart x.0 y.0 (fit x.0 x.1) (fit y.0 y.1) code) ∙ sym y.2;
  transactions = λ v w v_in w_in same.
      let x = written_from approves v xs v_in in let y = written_from approves w xs w_in in
      let code : tx_encoding x.0.tx ≡ tx_encoding y.0.tx = sym (ap (λ (u : WrittenSession). u.transaction.code) x.2) ∙ same ∙ ap (λ (u : WrittenSession). u.transaction.code) y.2 in
      ap (λ (u : WrittenSession). u.transaction) x.2 ∙ ap (written_tx approves) (tx-apart x.0.tx y.0.tx (fit x.0 x.1).tx (fit y.0 y.1).tx code) ∙ sym (ap (λ (u : WrittenSession). u.transaction) y.2);
  places = λ w w_in.
      let x = written_from approves w xs w_in in
      ap (λ (u : WrittenSession). all_differ (places_of u.transaction.outputs)) x.2 ∙ differ-from 0 x.0.tx.traces (omega (arith, (fit x.0 x.1).tx.traces.0)) (fit x.0 x.1).tx.traces.1;
}
