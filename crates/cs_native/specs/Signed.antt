-- The rule `signed`: a note is divided by whoever signs the trace with the note's one-time key.
use Rattle.std.specs.Prelude.{ℕ, Bool, false, ◌&&◌, ◌==◌, nat_le, bytes_eq, codes, is_some, List, [], ◌∷◌, length, map, sum_by, Option, Some, None, if◌then◌else◌}
use Rattle.std.specs.List.{list_all}
use Rattle.sha2.specs.Sha256.{sha256}
use Rattle.cs_tx_value.specs.declared.object.Object.{Object}
use Rattle.cs_tx_value.specs.declared.value.Value.{Value, out-Value}
use Rattle.cs_tx_types.specs.declared.trace.Trace.{Trace}
use Rattle.cs_tx.specs.Token.{amount_of_layer}
use Rattle.cs_onetime.specs.Lists.{joined}
use Rattle.cs_onetime.specs.Signature.{shown_images}
use Rattle.cs_native.specs.Values.{bytes_of_layer}
use Rattle.cs_native.specs.Hashlock.{is_only}
use Rattle.cs_native.specs.Message.{message_of_trace}
use Rattle.cs_native.specs.declared.signed.Note.{Note}

-- the digest of its name; the word before it keeps it apart from texts of contracts
abbrev pub signed_id : List ℕ
signed_id = sha256 (codes "native:signed")

-- ---- notes: a one-time key, of 32 bytes, and an amount, an int of at least 0

abbrev pub key_with : Option (List ℕ) → Option (List ℕ)
key_with None = None
key_with (Some bytes) = if length bytes == 32 then Some bytes else None

abbrev pub note_with : Option (List ℕ) → Option ℕ → Option Note
note_with None amount = None
note_with (Some key) None = None
note_with (Some key) (Some amount) = Some (record { key = key; amount = amount })

abbrev pub note_with_values : List Value → Option Note
note_with_values [] = None
note_with_values (first ∷ []) = None
note_with_values (first ∷ second ∷ []) =
    note_with (key_with (bytes_of_layer (out-Value first))) (amount_of_layer (out-Value second))
note_with_values (first ∷ second ∷ more ∷ values) = None

abbrev pub note_of : Object → Option Note
note_of object = if bytes_eq object.type_name (codes "note") then note_with_values object.values else None

abbrev pub amount_of_note : Option Note → ℕ
amount_of_note None = 0
amount_of_note (Some note) = note.amount

abbrev pub sum_of_notes : List Object → ℕ
sum_of_notes objects = sum_by (λ object. amount_of_note (note_of object)) objects

-- ---- signatures: texts of bytes, which `Verifies` of `cs_onetime` is said of

-- the bytes of a value; what isn't a text of bytes has none
abbrev pub text_of : Option (List ℕ) → List ℕ
text_of None = []
text_of (Some bytes) = bytes

abbrev pub texts_of : List Value → List (List ℕ)
texts_of values = map (λ value. text_of (bytes_of_layer (out-Value value))) values

abbrev pub are_sized : List (List ℕ) → Bool
are_sized texts = length texts == 16 && list_all (λ text. length text == 256) texts

abbrev pub verifies : List ℕ → List ℕ → List (List ℕ) → Bool
verifies key message texts = are_sized texts && bytes_eq (sha256 (joined (shown_images message texts) 128)) key

-- ---- a payment has one input, and it divides what its note holds

-- the outputs are notes of as much together, and the parameters are a signature under the note's key
abbrev pub is_divided : Trace → Option Note → Bool
is_divided t None = false
is_divided t (Some note) =
    list_all (λ object. is_some (note_of object)) t.outputs
    && (sum_of_notes t.outputs == note.amount && verifies note.key (message_of_trace t) (texts_of t.parameters))

-- nothing is read, returned or stood on
abbrev pub is_signed : Trace → Bool
is_signed t =
    bytes_eq t.method (codes "pay")
    && (length t.references == 0
    && (length t.returns == 0
    && (length t.deps == 0
    && (nat_le 1 (length t.outputs) && is_only (λ input. is_divided t (note_of input.1)) t.inputs))))
