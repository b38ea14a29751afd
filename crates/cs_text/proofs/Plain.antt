-- The fields of printed lines have no byte that parts fields or lines.
use Rattle.std.specs.Prelude.{◌≡◌, ℕ, ◌<◌, ◌/◌, ◌%◌, ◌^◌, ◌==◌, nat_lt, Bool, true, ◌&&◌, List, [], ◌∷◌, ◌++◌, length, slice_index, codes}
use Rattle.std.specs.List.{All, AllByRecursion}
use Rattle.std.specs.Int.{IsInRange}
use Rattle.std.specs.Fmt.{decimal}
use Rattle.std.proofs.Common.{refl, arith, inl, inr, get_or, suc}
use Rattle.std.proofs.lemmas.Bool.{and_parts, cases_Bool}
use Rattle.std.proofs.lemmas.Bool.Decides.{nat_tests}
use Rattle.std.proofs.lemmas.List.{length-append}
use Rattle.std.proofs.lemmas.List.Elements.{All-nil, All-cons, All-append, All-get_or, All-from_get_or}
use Rattle.std.proofs.lemmas.Fmt.{decimal_is_IsNumeral}
use Rattle.std.proofs.lemmas.Str.Parse.{digit_at}
use Rattle.hex.specs.Hex.{encode_with, lower_digits}
use Rattle.hex.proofs.HexLemmas.{length-encode_with}
use Rattle.cs_base.specs.Codes.{bytes_text}
use Rattle.cs_base.specs.Fields.{IsBytes}
use Rattle.cs_base.specs.NodeId.{node_text}
use Rattle.cs_base.specs.declared.node_id.NodeId.{NodeId}
use Rattle.cs_base.specs.declared.node_id.TheConstants.{CLIENT_SHARD}

-- a character that is neither a space nor a sign of control
abbrev pub is_visible : ℕ → Bool
is_visible byte = nat_lt 32 byte && nat_lt byte 127

abbrev pub IsVisible : ℕ → Type 0
IsVisible byte = is_visible byte ≡ true

-- a field: one or more characters
pub record IsField (field : List ℕ) : Type 0 where
  pub some : 0 < length field
  pub visible : All IsVisible field

-- what stands on a line: a word, and fields
abbrev pub IsLine : List (List ℕ) → Type 0
IsLine [] = ⊥
IsLine (word ∷ fields) = IsField word × AllByRecursion IsField fields

-- literal words

abbrev pub all_visible : List ℕ → Bool
all_visible [] = true
all_visible (byte ∷ bytes) = is_visible byte && all_visible bytes

pub visible_word : (word : List ℕ) → all_visible word ≡ true → All IsVisible word
visible_word [] is = All-nil IsVisible
visible_word (byte ∷ bytes) is =
    let (first, others) = and_parts (is_visible byte) (all_visible bytes) is in
    All-cons IsVisible byte bytes first (visible_word bytes others)

pub field-word : (word : List ℕ) → 0 < length word → all_visible word ≡ true → IsField word
field-word word some is = record { some = some; visible = visible_word word is }

-- numbers

visible_digit : (byte : ℕ) → IsInRange 48 57 byte → IsVisible byte
visible_digit byte range =
    let low = range.0 in
    let high = range.1 in
    grind (arith, nat_tests)

visible_decimal : (n : ℕ) → n < 2 ^ 64 → All IsVisible (decimal n)
visible_decimal n small =
    All-from_get_or IsVisible (decimal n) 0 (λ i within. visible_digit (get_or (decimal n) i 0) (digit_at (decimal n) i (decimal_is_IsNumeral n small).0.1 within))

pub field-decimal : (n : ℕ) → n < 2 ^ 64 → IsField (decimal n)
field-decimal n small = record { some = (decimal_is_IsNumeral n small).0.0; visible = visible_decimal n small }

-- bytes

visible_hex : (digit : ℕ) → digit < 16 → IsVisible (slice_index lower_digits digit)
visible_hex digit within = All-get_or IsVisible lower_digits digit 0 within (visible_word lower_digits refl)

visible_pairs : (bytes : List ℕ) → IsBytes bytes → All IsVisible (encode_with lower_digits bytes)
unfolding encode_with
visible_pairs [] fits = All-nil IsVisible
visible_pairs (byte ∷ bytes) fits =
    let small : byte < 256 = fits 0 in
    let high : byte / 16 < 16 = omega arith in
    let low : byte % 16 < 16 = omega arith in
    All-cons IsVisible (slice_index lower_digits (byte / 16)) (slice_index lower_digits (byte % 16) ∷ encode_with lower_digits bytes) (visible_hex (byte / 16) high)
    (All-cons IsVisible (slice_index lower_digits (byte % 16)) (encode_with lower_digits bytes) (visible_hex (byte % 16) low) (visible_pairs bytes (λ i. fits (suc i))))

pub field-bytes : (bytes : List ℕ) → IsBytes bytes → IsField (bytes_text bytes)
field-bytes [] fits = field-word (codes "-") (omega arith) refl
field-bytes (byte ∷ bytes) fits = record {
  some = omega (arith, length-encode_with lower_digits (byte ∷ bytes));
  visible = visible_pairs (byte ∷ bytes) fits;
}

-- names

field-append : (front back : List ℕ) → IsField front → IsField back → IsField (front ++ back)
field-append front back first second = record {
  some = let some = first.some in omega (arith, length-append front back);
  visible = All-append IsVisible front back first.visible second.visible;
}

pub field-name : (name : NodeId) → name.shard < 2 ^ 16 → name.index < 2 ^ 16 → IsField (node_text name)
field-name name shard index =
    let number = field-decimal name.index (omega arith) in
    elim (cases_Bool (name.shard == CLIENT_SHARD)) [
      | inl client ↦ rw client (field-append (codes "c.") (decimal name.index) (field-word (codes "c.") (omega arith) refl) number)
      | inr member ↦ rw member (field-append (decimal name.shard ++ codes ".") (decimal name.index) (field-append (decimal name.shard) (codes ".") (field-decimal name.shard (omega arith)) (field-word (codes ".") (omega arith) refl)) number)
    ]
