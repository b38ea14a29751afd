-- Of a record that is stored something is known.
use Rattle.std.proofs.Common.{◌≡◌, ℕ, Bool, true, false, List, [], ◌∷◌, map, refl, sym, ap, ◌∙◌, length, ◌≤◌, ◌+◌, arith}
use Rattle.std.specs.Prelude.{◌↔◌}
use Rattle.std.proofs.lemmas.Bool.{both_ways, ltb-true, lt-ltb}
use Rattle.std.proofs.lemmas.List.{length-map}
use Rattle.cs_base.specs.declared.limits.TheConstants.{BOOK_PLACES, MOST_PLACES}
use Rattle.cs_tx_types.specs.declared.vote.Vote.{Vote}
use Rattle.cs_tx_types.specs.declared.state.State.{State}
use Rattle.cs_tx_types.specs.declared.state.State.TheVariants as state
use Rattle.cs_tx_types.specs.declared.record.Record.{Record}
use Rattle.cs_ledger.specs.Table as ledger
use Rattle.cs_table.specs.Seen.{seen_place, seen_state, seen_record, unknown_record}

nil_from : (book : List (List ℕ × Vote)) → map seen_place book ≡ [] → book ≡ []
nil_from [] is = refl
nil_from (place ∷ book) is = cc

pub unknown_exactly : (row : Record) (b : Bool) → row.state ≡ state.Unknown →
    (b ≡ true) ↔ (row.book ≡ []) → (b ≡ true) ↔ (seen_record row ≡ unknown_record)
unknown_exactly row b is exactly = (
  λ yes. rw (is, exactly.0 yes) refl,
  λ same. exactly.1 (nil_from row.book (ap (λ (r : ledger.Record). r.book) same)),
)

-- a state other than Unknown
pub known_by : (row : Record) (s : State) → row.state ≡ s → (seen_state s ≡ ledger.Unknown → ⊥) →
    (false ≡ true) ↔ (seen_record row ≡ unknown_record)
known_by row s is other = (
  λ no. absurd (both_ways false refl no),
  λ same. absurd (other (sym (ap seen_state is) ∙ ap (λ (r : ledger.Record). r.state) same)),
)

-- a book with room has a place
pub room_has_place : (book : ledger.Book) → ledger.has_room book ≡ true → ledger.has_place book ≡ true
room_has_place book room =
    lt-ltb (length book) MOST_PLACES (omega (arith, ltb-true (length book) BOOK_PLACES room))

-- one place more, where the table shows that there is one
pub one_more : (old : Record) (places : ℕ) (shown : ledger.Record) → seen_record old ≡ shown →
    ledger.has_place shown.book ≡ true → places ≡ length old.book + 1 → places ≤ MOST_PLACES
one_more old places shown is place longer =
    let same : length (map seen_place old.book) ≡ length shown.book =
    ap (λ (r : ledger.Record). length r.book) is in
    omega (
      arith,
      longer,
      same,
      length-map old.book seen_place,
      ltb-true (length shown.book) MOST_PLACES place,
    )
