-- What the record of a key tells, and which dummy is the least.
use Rattle.std.proofs.Common.{◌≡◌, ℕ, zero, suc, ◌+◌, ◌^◌, ◌<◌, ◌≤◌, ◌⊎◌, inl, inr, true, false, cond, Option, Some, None, refl, ap, sym, ◌∙◌, arith}
use Rattle.std.proofs.lemmas.Bool.{cases_lt}
use Rattle.cs_base.specs.declared.key.Key.{Key}
use Rattle.cs_base.specs.declared.key.Key.TheVariants as key
use Rattle.cs_base.proofs.Forms.{whole-again}
use Rattle.cs_tx_value.specs.declared.object.Object.{Object}
use Rattle.cs_tx_value.specs.Object.{object_encoding, ObjectFits, object_at}
use Rattle.cs_tx_value.specs.Key.{KeyFits}
use Rattle.cs_tx_value.specs.laws.Object.{object_form}
use Rattle.cs_tx_types.specs.declared.state.State.{State}
use Rattle.cs_tx_types.specs.declared.state.State.TheVariants as state
use Rattle.cs_tx_types.specs.declared.record.Record.{Record}
use Rattle.cs_tx.specs.Sessions.{key_seen}
use Rattle.cs_ledger.specs.Session as ledger
use Rattle.cs_ledger.specs.Table as Shard
use Rattle.cs_table.specs.Seen.{Stored, seen, seen_state, seen_row, row_in, HoldsFit}
use Rattle.cs_table.specs.Dummies.{IsLeastDummy, Least, NoneActive}
use Rattle.cs_node_state.specs.Asked.{object_or_dummy, object_of_bytes, state_told, told_at, least_from, least_dummy}
use Rattle.cs_ledger.specs.Table.{has_active_dummy}

key-same : (k : Key) → key_seen k ≡ key_seen k
key-same (key.Object digest) = refl
key-same (key.Dummy shard serial) = refl

object-again : (o : Object) → ObjectFits o → object_of_bytes (object_encoding o) ≡ o
object-again o fits = ap object_or_dummy (whole-again object_encoding ObjectFits object_at object_form o fits)

told-again : (s : State) → HoldsFit s → state_told (seen_state s) ≡ s
told-again state.Unknown h = refl
told-again (state.Active o) h = ap (λ (x : Object). state.Active x) (object-again o h)
told-again (state.Locked o by) h = ap (λ (x : Object). state.Locked x by) (object-again o h)
told-again (state.Inactive by) h = refl
told-again (state.Shared o readers) h = ap (λ (x : Object). state.Shared x readers) (object-again o h.0)

abbrev told-of : Option Record → State
told-of row = state_told (seen_row row).state

told-row : (s : Stored) (k : Key) (row : Option Record) → row_in s.rows (key_seen k) ≡ row → told_at (seen s) k ≡ told-of row
told-row s k row is = ap (λ (name : ledger.Key). told-of (row_in s.rows name)) (sym (key-same k)) ∙ ap told-of is

-- a key without a record is unknown
pub told-none : (s : Stored) (k : Key) → row_in s.rows (key_seen k) ≡ None → state.Unknown ≡ told_at (seen s) k
told-none s k none = sym (told-row s k None none)

pub told-some : (s : Stored) (k : Key) (row : Record) → row_in s.rows (key_seen k) ≡ Some row → HoldsFit row.state → row.state ≡ told_at (seen s) k
told-some s k row is fits = sym (told-row s k (Some row) is ∙ told-again row.state fits)

-- ---- dummies

abbrev IsNarrow : ledger.Key → Type 0
IsNarrow (ledger.Object name) = Unit {0}
IsNarrow (ledger.Dummy s serial) = serial < 2 ^ 64

narrow : (k : Key) → KeyFits k → IsNarrow (key_seen k)
narrow (key.Object digest) fits = tt
narrow (key.Dummy shard serial) fits = fits.1

module _ (t : Shard.Table) (shard : ℕ) where
  found-here : (more serial : ℕ) → has_active_dummy t shard serial ≡ true → least_from t shard (suc more) serial ≡ serial
  unfolding least_from
  found-here more serial has = ap (λ b. cond b serial (least_from t shard more (serial + 1))) has

  passed-here : (more serial : ℕ) → has_active_dummy t shard serial ≡ false → least_from t shard (suc more) serial ≡ least_from t shard more (serial + 1)
  unfolding least_from
  passed-here more serial has = ap (λ b. cond b serial (least_from t shard more (serial + 1))) has

  found-at : (more first serial : ℕ) → first ≤ serial → serial < first + more → has_active_dummy t shard serial ≡ true → ((less : ℕ) → less < serial → has_active_dummy t shard less ≡ false)
      → least_from t shard more first ≡ serial
  found-at zero first serial above below has none = absurd (omega (arith, above, below))
  found-at (suc more) first serial above below has none =
      elim (cases_lt first serial) as (λ (s : (first < serial) ⊎ (serial ≤ first)). least_from t shard (suc more) first ≡ serial) [
        | inl lt ↦ passed-here more first (none first lt) ∙ found-at more (first + 1) serial (omega (arith, lt)) (omega (arith, below)) has none
        | inr le ↦ (let same : serial ≡ first = omega (arith, above, le) in found-here more first (sym (ap (has_active_dummy t shard) same) ∙ has) ∙ sym same)
      ]

  none-left : (first : ℕ) → least_from t shard zero first ≡ t.next
  unfolding least_from
  none-left first = refl

  none-at : (more first most : ℕ) → first + more ≤ most → ((serial : ℕ) → serial < most → has_active_dummy t shard serial ≡ false) → least_from t shard more first ≡ t.next
  none-at zero first most within none = none-left first
  none-at (suc more) first most within none =
      passed-here more first (none first (omega (arith, within))) ∙ none-at more (first + 1) most (omega (arith, within)) none

  least-name : (name : ledger.Key) → IsNarrow name → IsLeastDummy shard t name → name ≡ ledger.Dummy shard (least_from t shard (2 ^ 64) 0)
  least-name name small (Least serial has none) =
      ap (ledger.Dummy shard) (sym (found-at (2 ^ 64) 0 serial (omega arith) (omega (arith, small)) has none))
  least-name name small (NoneActive none) =
      ap (ledger.Dummy shard) (sym (none-at (2 ^ 64) 0 (2 ^ 64) (omega arith) none))

  key-named : (k : Key) (serial : ℕ) → key_seen k ≡ ledger.Dummy shard serial → k ≡ key.Dummy shard serial
  key-named (key.Object digest) serial is = absurd cc
  key-named (key.Dummy s n) serial is = cc

  pub least-is : (k : Key) → KeyFits k → IsLeastDummy shard t (key_seen k) → k ≡ least_dummy t shard
  least-is k fits least = key-named k (least_from t shard (2 ^ 64) 0) (least-name (key_seen k) (narrow k fits) least)
