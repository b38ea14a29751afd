-- What stands at the front of a list of bytes.
use Rattle.std.specs.Prelude.{ℕ, zero, suc, Bool, ℤ, List, ◌++◌, ◌+◌, ◌<◌, length, Option, Some, None, Result, Ok, Err, nat_le, ◌≡◌}
use Rattle.std.specs.Int.{w8, w16, w64, cast_signed}
use Rattle.cs_base.specs.Fields.{Found, ◌>>=◌, ◌<$>◌, number_at, bytes_at, upto_at, tested_at, counted_at, behind}
use Rattle.cs_tx_value.specs.declared.form.FormError.{FormError}
use Rattle.cs_tx_value.specs.declared.form.FormError.TheVariants as errors
use Rattle.cs_tx_value.specs.declared.value.Value.{Value}
use Rattle.cs_tx_value.specs.declared.value.Value.TheVariants as value

unfoldable pub int_at : List ℕ → Found ℤ
int_at bytes = cast_signed w64 <$> number_at w64 bytes

unfoldable pub bool_at : List ℕ → Found Bool
bool_at bytes = nat_le 1 <$> tested_at (λ n. nat_le n 1) (number_at w8) bytes

abbrev pub text_at : List ℕ → Found (List ℕ)
text_at = upto_at w16 256 bytes_at

-- what follows the byte that says the kind
abbrev pub kind_at : (List ℕ → Found (List Value)) → ℕ → List ℕ → Found Value
kind_at list_at zero bytes = value.Int <$> int_at bytes
kind_at list_at (suc zero) bytes = value.Bool <$> bool_at bytes
kind_at list_at (suc (suc zero)) bytes = value.Bytes <$> text_at bytes
kind_at list_at (suc (suc (suc zero))) bytes = value.List <$> list_at bytes
kind_at list_at (suc (suc (suc (suc kind)))) bytes = None

-- a value in which lists nest at most so deep
unfoldable pub value_at : ℕ → List ℕ → Found Value
value_at zero bytes = do
  kind ← number_at w8 bytes
  kind_at (λ rest. None) kind.0 kind.1
value_at (suc depth) bytes = do
  kind ← number_at w8 bytes
  kind_at (counted_at 64 (value_at depth)) kind.0 kind.1

-- What a call answered is what a reader finds, unless memory ran out.
abbrev pub Misses : {Y : Type 0} → FormError → Option Y → Type 0
Misses errors.Memory found = Unit {0}
Misses errors.BadForm found = found ≡ None
Misses errors.TooLong found = ⊥

abbrev pub ReadsValue : {X : Type 0} → Result X FormError → List ℕ → Found X → Type 0
ReadsValue (Ok x) rest found = found ≡ Some (x, rest)
ReadsValue (Err e) rest found = Misses e found

-- The same for a call that makes no value and takes no memory.
abbrev pub Passes : {X : Type 0} → Result Unit FormError → List ℕ → Found X → Type 0
Passes (Ok done) rest found = behind found ≡ Some rest
Passes (Err e) rest found = (e ≡ errors.BadForm) × (behind found ≡ None)

-- the same of all of the bytes
abbrev pub GivesAll : {X : Type 0} → Result X FormError → Option X → Type 0
GivesAll (Ok x) found = found ≡ Some x
GivesAll (Err e) found = Misses e found

abbrev pub PassesAll : {X : Type 0} → Result Unit FormError → Option X → Type 0
PassesAll {X} (Ok done) found = (x : X) × (found ≡ Some x)
PassesAll (Err e) found = (e ≡ errors.BadForm) × (found ≡ None)

-- new goes on where old ends
pub record Begins (new old : List ℕ) : Type 0 where
  pub more : List ℕ
  pub is : new ≡ old ++ more

-- this value was answered, unless memory ran out
abbrev pub AnswersValue : {X : Type 0} → Result X FormError → X → Type 0
AnswersValue (Ok x) value = x ≡ value
AnswersValue (Err e) value = e ≡ errors.Memory

-- so much of the room is left behind the text, or the text is longer than the room
abbrev pub LeavesRoom : List ℕ → ℕ → Option ℕ → Type 0
LeavesRoom text room None = room < length text
LeavesRoom text room (Some left) = left + length text ≡ room
