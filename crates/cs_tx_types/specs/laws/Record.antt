-- The laws of the forms of records.
use Rattle.std.proofs.Common.{◌^◌, length, refl, arith}
use Rattle.std.specs.List.{AllByRecursion}
use Rattle.std.specs.Int.{w16, to_be_bytes}
use Rattle.cs_base.specs.declared.limits.TheConstants.{MOST_PLACES}
use Rattle.cs_base.specs.Fields.{IsForm, each, many_at}
use Rattle.cs_base.proofs.Forms.{wide16, number_form, bytes_form, pair_of, mapped_of, many_form, upto_form}
use Rattle.cs_tx_value.specs.Encoding.{AtMost}
use Rattle.cs_tx_value.specs.laws.Key.{key_form}
use Rattle.cs_tx_types.specs.laws.Session.{vote_form, state_form}
use Rattle.cs_tx_types.specs.Record.{place_encoding, PlaceFits, place_at, book_encoding, book_at, record_encoding, RecordFits, record_of, record_at, stored_encoding, StoredFits, stored_of, stored_at}

place_form : IsForm place_encoding PlaceFits place_at
place_form = pair_of (bytes_form 32) vote_form

pub book_form : IsForm book_encoding (AtMost MOST_PLACES PlaceFits) book_at
book_form =
    upto_form w16 (2 ^ 16) (to_be_bytes w16) (number_form w16 (2 ^ 16) wide16) MOST_PLACES (omega arith) length
    (each place_encoding) (AllByRecursion PlaceFits) (many_at place_at)
    (many_form place_encoding PlaceFits place_at place_form)

pub record_form : IsForm record_encoding RecordFits record_at
unfolding record_at
record_form = mapped_of (pair_of state_form book_form) record_of (λ r. (r.state, r.book)) RecordFits
    (λ p h. (refl, record { state = h.0; book = h.1 })) (λ r h. (refl, (h.state, h.book)))

pub stored_form : IsForm stored_encoding StoredFits stored_at
unfolding stored_at
stored_form = mapped_of (pair_of key_form record_form) stored_of (λ s. (s.key, s.value)) StoredFits
    (λ p h. (refl, record { key = h.0; value = h.1 })) (λ s h. (refl, (h.key, h.value)))
