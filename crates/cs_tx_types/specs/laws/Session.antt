-- The laws of the forms: what is found was written so, and what fits is found again.
use Rattle.std.proofs.Common.{◌≡◌, ℕ, zero, suc, ◌*◌, ◌≤◌, ◌<◌, ◌^◌, ◌++◌, List, [], ◌∷◌, length, Some, refl, arith}
use Rattle.std.specs.Int.{w16, w64, to_be_bytes}
use Rattle.std.proofs.lemmas.List.{length-append}
use Rattle.cs_base.specs.declared.limits.TheConstants.{MOST_READERS, MOST_TX, MOST_SESSION, MOST_ENTRY}
use Rattle.cs_base.specs.Fields.{IsBytes, IsForm, counted, each, Splits, pair_at, bytes_at}
use Rattle.cs_base.proofs.Forms.{wide16, wide64, number_form, byte_form, bytes_form, pair_of, counted_of, some_of, tested_of, within_of, mapped_of, weaker_form}
use Rattle.cs_tx_value.specs.Encoding.{value_encoding, ValueFits, AtMost}
use Rattle.cs_tx_value.specs.laws.Kinds.{kinds_form, takes_part, part_kinded, takes_bare, bare_kinded, Kinded}
use Rattle.cs_tx_value.specs.laws.Value.{value_form}
use Rattle.cs_tx_value.specs.Name.{name_encoding, NameFits}
use Rattle.cs_tx_value.specs.laws.Name.{name_form}
use Rattle.cs_tx_value.specs.Object.{object_encoding, DigestFits, ObjectFits, object_at}
use Rattle.cs_tx_value.specs.laws.Object.{object_form}
use Rattle.cs_tx_types.specs.declared.limits.TheConstants.{MOST_TRACES, MOST_TRACE_OBJECTS, MOST_TRACE_VALUES, MOST_DEPS, MOST_SESSION_DUMMIES}
use Rattle.cs_tx_types.specs.declared.transaction.Tx.{Tx}
use Rattle.cs_tx_types.specs.declared.session.Session.{Session}
use Rattle.cs_tx_types.specs.declared.vote.Vote.{Vote}
use Rattle.cs_tx_types.specs.declared.vote.Vote.TheVariants as vote
use Rattle.cs_tx_types.specs.declared.action.Action.{Action}
use Rattle.cs_tx_types.specs.declared.action.Action.TheVariants as action
use Rattle.cs_tx_types.specs.declared.state.State.{State}
use Rattle.cs_tx_types.specs.declared.state.State.TheVariants as state
use Rattle.cs_tx_types.specs.Transaction.{keyed_encoding, KeyedFits, trace_encoding, TraceFits, tx_encoding, TxFits, tx_of}
use Rattle.cs_tx_types.specs.Session.{dummy_encoding, session_encoding, SessionFits, vote_encoding, action_encoding, ActionFits}
use Rattle.cs_tx_types.specs.State.{readers_differ, readers_encoding, ReadersFit, state_encoding, StateFits}
use Rattle.cs_tx_types.specs.Reading.{keyed_at, Front, Back, front_at, back_at, trace_of_parts, trace_at, tx_at, session_of_parts, session_at, vote_kind_at, vote_at, decide_action, action_kind_at, action_at, locked_state, readers_at, shared_state, state_kind_at, state_at}

-- ---- traces and transactions

keyed_form : IsForm keyed_encoding KeyedFits keyed_at
keyed_form = pair_of (bytes_form 32) object_form

abbrev FrontFits : Front → Type 0
FrontFits p = DigestFits p.0 × (NameFits p.1.0 × (AtMost MOST_TRACE_OBJECTS KeyedFits p.1.1.0 × AtMost MOST_TRACE_OBJECTS KeyedFits p.1.1.1))

front_form : IsForm (λ p. p.0 ++ (name_encoding p.1.0 ++ (counted keyed_encoding p.1.1.0 ++ counted keyed_encoding p.1.1.1))) FrontFits front_at
unfolding front_at
front_form =
    pair_of (bytes_form 32)
    (pair_of name_form (pair_of (counted_of keyed_form MOST_TRACE_OBJECTS (omega arith)) (counted_of keyed_form MOST_TRACE_OBJECTS (omega arith))))

abbrev BackFits : Back → Type 0
BackFits p =
    AtMost MOST_TRACE_VALUES ValueFits p.0 ×
    (AtMost MOST_TRACE_OBJECTS ObjectFits p.1.0 × (AtMost MOST_TRACE_VALUES ValueFits p.1.1.0 × AtMost MOST_DEPS (λ n. n < 256) p.1.1.1))

back_form : IsForm (λ p. counted value_encoding p.0 ++ (counted object_encoding p.1.0 ++ (counted value_encoding p.1.1.0 ++ counted (λ n. n ∷ []) p.1.1.1))) BackFits back_at
unfolding back_at
back_form =
    pair_of (counted_of (value_form 4) MOST_TRACE_VALUES (omega arith))
    (pair_of (counted_of object_form MOST_TRACE_OBJECTS (omega arith)) (pair_of (counted_of (value_form 4) MOST_TRACE_VALUES (omega arith)) (counted_of byte_form MOST_DEPS (omega arith))))

pub trace_form : IsForm trace_encoding TraceFits trace_at
unfolding trace_at
trace_form = mapped_of (pair_of front_form back_form)
    trace_of_parts
    (λ t. ((t.contract, (t.method, (t.inputs, t.references))), (t.parameters, (t.outputs, (t.returns, t.deps)))))
    TraceFits
    (λ p h. (refl, record { contract = h.0.0; method = h.0.1.0; inputs = h.0.1.1.0; references = h.0.1.1.1; parameters = h.1.0; outputs = h.1.1.0; returns = h.1.1.1.0; deps = h.1.1.1.1 }))
    (λ t h. (refl, ((h.contract, (h.method, (h.inputs, h.references))), (h.parameters, (h.outputs, (h.returns, h.deps))))))

abbrev TxParts : Tx → Type 0
TxParts tx = (1 ≤ length tx.traces) × AtMost MOST_TRACES TraceFits tx.traces

pub tx_form : IsForm tx_encoding TxFits tx_at
unfolding tx_at
tx_form = weaker_form tx_encoding (λ tx. TxParts tx × (length (tx_encoding tx) ≤ MOST_TX)) tx_at
    (within_of (mapped_of (some_of trace_form MOST_TRACES (omega arith)) tx_of (λ tx. tx.traces) TxParts (λ p h. (refl, h)) (λ tx h. (refl, h))) MOST_TX)
    TxFits (λ tx h. record { some = h.0.0; traces = h.0.1; small = h.1 }) (λ tx h. ((h.some, h.traces), h.small))

-- ---- sessions

pub session_form : IsForm session_encoding SessionFits session_at
unfolding session_at
session_form =
    mapped_of
    (pair_of tx_form (pair_of (number_form w64 (2 ^ 64) wide64) (counted_of (pair_of (number_form w16 (2 ^ 16) wide16) (number_form w64 (2 ^ 64) wide64)) MOST_SESSION_DUMMIES (omega arith))))
    session_of_parts (λ x. (x.tx, (x.number, x.dummies))) SessionFits
    (λ p h. (refl, record { tx = h.0; number = h.1.0; dummies = h.1.1 })) (λ x h. (refl, (h.tx, (h.number, h.dummies))))

-- ---- votes and actions

vote_takes : (kind : ℕ) (bytes : List ℕ) (v : Vote) (rest : List ℕ) → IsBytes bytes
    → vote_kind_at kind bytes ≡ Some (v, rest) → Splits (kind ∷ bytes) (vote_encoding v) rest × Unit {0}
vote_takes zero bytes v rest fits e =
    takes_bare vote_encoding (λ _. Unit {0}) vote_kind_at vote.Abort 0 refl tt bytes v rest fits e
vote_takes (suc zero) bytes v rest fits e =
    takes_bare vote_encoding (λ _. Unit {0}) vote_kind_at vote.Commit 1 refl tt bytes v rest fits e
vote_takes (suc (suc kind)) bytes v rest fits e = absurd cc

vote_again : (v : Vote) (rest : List ℕ) → Unit {0} → Kinded vote_encoding vote_kind_at v rest
vote_again vote.Abort rest fits =
    bare_kinded vote_encoding (λ _. Unit {0}) vote_kind_at vote.Abort 0 (omega arith) refl (λ bytes. refl) rest
vote_again vote.Commit rest fits =
    bare_kinded vote_encoding (λ _. Unit {0}) vote_kind_at vote.Commit 1 (omega arith) refl (λ bytes. refl) rest

pub vote_form : IsForm vote_encoding (λ _. Unit {0}) vote_at
vote_form = kinds_form vote_encoding (λ _. Unit {0}) vote_kind_at vote_takes vote_again

decided_form : IsForm (λ p. vote_encoding p.0 ++ session_encoding p.1) (λ p. Unit {0} × SessionFits p.1) (pair_at vote_at session_at)
decided_form = pair_of vote_form session_form

action_takes : (kind : ℕ) (bytes : List ℕ) (e : Action) (rest : List ℕ) → IsBytes bytes
    → action_kind_at kind bytes ≡ Some (e, rest) → Splits (kind ∷ bytes) (action_encoding e) rest × ActionFits e
action_takes zero bytes e rest fits is =
    takes_part action_encoding ActionFits action_kind_at session_form action.Prepare 0 (λ x. refl) (λ x h. h) bytes e rest
    fits is
action_takes (suc zero) bytes e rest fits is =
    takes_part action_encoding ActionFits action_kind_at decided_form decide_action 1 (λ p. refl) (λ p h. h.1) bytes e rest fits
    is
action_takes (suc (suc kind)) bytes e rest fits is = absurd cc

action_again : (e : Action) (rest : List ℕ) → ActionFits e → Kinded action_encoding action_kind_at e rest
action_again (action.Prepare x) rest fits =
    part_kinded action_encoding ActionFits action_kind_at session_form action.Prepare 0 (omega arith) (λ x. refl)
    (λ bytes. refl) x rest fits
action_again (action.Decide v x) rest fits =
    part_kinded action_encoding ActionFits action_kind_at decided_form decide_action 1 (omega arith) (λ p. refl) (λ bytes. refl)
    (v, x) rest (tt, fits)

pub action_form : IsForm action_encoding ActionFits action_at
action_form = kinds_form action_encoding ActionFits action_kind_at action_takes action_again

-- ---- states

locked_form : IsForm (λ p. object_encoding p.0 ++ p.1) (λ p. ObjectFits p.0 × DigestFits p.1) (pair_at object_at (bytes_at 32))
locked_form = pair_of object_form (bytes_form 32)

readers_form : IsForm readers_encoding ReadersFit readers_at
readers_form = tested_of (some_of (bytes_form 32) MOST_READERS (omega arith)) readers_differ

shared_form : IsForm (λ p. object_encoding p.0 ++ readers_encoding p.1) (λ p. ObjectFits p.0 × ReadersFit p.1) (pair_at object_at readers_at)
shared_form = pair_of object_form readers_form

state_takes : (kind : ℕ) (bytes : List ℕ) (s : State) (rest : List ℕ) → IsBytes bytes
    → state_kind_at kind bytes ≡ Some (s, rest) → Splits (kind ∷ bytes) (state_encoding s) rest × StateFits s
state_takes zero bytes s rest fits is =
    takes_bare state_encoding StateFits state_kind_at state.Unknown 0 refl tt bytes s rest fits is
state_takes (suc zero) bytes s rest fits is =
    takes_part state_encoding StateFits state_kind_at object_form state.Active 1 (λ o. refl) (λ o h. h) bytes s rest
    fits is
state_takes (suc (suc zero)) bytes s rest fits is =
    takes_part state_encoding StateFits state_kind_at locked_form locked_state 2 (λ p. refl) (λ p h. h) bytes s rest fits is
state_takes (suc (suc (suc zero))) bytes s rest fits is =
    takes_part state_encoding StateFits state_kind_at (bytes_form 32) state.Inactive 3 (λ d. refl) (λ d h. h) bytes s
    rest fits is
state_takes (suc (suc (suc (suc zero)))) bytes s rest fits is =
    takes_part state_encoding StateFits state_kind_at shared_form shared_state 4 (λ p. refl) (λ p h. h) bytes s rest fits is
state_takes (suc (suc (suc (suc (suc kind))))) bytes s rest fits is = absurd cc

state_again : (s : State) (rest : List ℕ) → StateFits s → Kinded state_encoding state_kind_at s rest
state_again state.Unknown rest fits =
    bare_kinded state_encoding StateFits state_kind_at state.Unknown 0 (omega arith) refl (λ bytes. refl) rest
state_again (state.Active o) rest fits =
    part_kinded state_encoding StateFits state_kind_at object_form state.Active 1 (omega arith) (λ o. refl)
    (λ bytes. refl) o rest fits
state_again (state.Locked o d) rest fits =
    part_kinded state_encoding StateFits state_kind_at locked_form locked_state 2 (omega arith) (λ p. refl) (λ bytes. refl)
    (o, d) rest fits
state_again (state.Inactive d) rest fits =
    part_kinded state_encoding StateFits state_kind_at (bytes_form 32) state.Inactive 3 (omega arith) (λ d. refl)
    (λ bytes. refl) d rest fits
state_again (state.Shared o readers) rest fits =
    part_kinded state_encoding StateFits state_kind_at shared_form shared_state 4 (omega arith) (λ p. refl) (λ bytes. refl)
    (o, readers) rest fits

pub state_form : IsForm state_encoding StateFits state_at
state_form = kinds_form state_encoding StateFits state_kind_at state_takes state_again

-- ---- how long what fits is at most

length_dummies : (dummies : List (ℕ × ℕ)) → length (each dummy_encoding dummies) ≡ 10 * length dummies
length_dummies [] = refl
length_dummies (d ∷ ds) = omega (arith, length-append (dummy_encoding d) (each dummy_encoding ds), length_dummies ds)

pub session_short : (x : Session) → SessionFits x → length (session_encoding x) ≤ MOST_SESSION
session_short x fits = omega (
  arith,
  fits.tx.small,
  fits.dummies.0,
  length_dummies x.dummies,
  length-append (tx_encoding x.tx) (to_be_bytes w64 x.number ++ counted dummy_encoding x.dummies),
  length-append (to_be_bytes w64 x.number) (counted dummy_encoding x.dummies),
)

pub action_short : (e : Action) → ActionFits e → length (action_encoding e) ≤ MOST_ENTRY
action_short (action.Prepare x) fits = omega (arith, session_short x fits)
action_short (action.Decide vote.Abort x) fits = omega (arith, session_short x fits)
action_short (action.Decide vote.Commit x) fits = omega (arith, session_short x fits)
