-- What stands at a place of a text, as it is told.
use Rattle.std.specs.Prelude.{ℕ, Bool, nat_le, ◌==◌, ◌&&◌, List, [], ◌∷◌, ◌++◌, position, slice_get, codes, Option, None, Some, Result, Ok, Err, if◌then◌else◌}
use Rattle.std.specs.Fmt.{decimal}
use Rattle.cs_lang_token.specs.declared.token.Token.{Token}
use Rattle.cs_lang_token.specs.declared.kind.Kind.TheVariants as kind
use Rattle.cs_lang_token.specs.Kinds.{is}
use Rattle.cs_explain.specs.Words.{label}

-- the tokens that were read; none where a byte begins none
abbrev pub tokens_in : Result (List Token) ℕ → List Token
tokens_in (Ok tokens) = tokens
tokens_in (Err place) = []

abbrev pub stands_at : ℕ → Token → Bool
stands_at place token = token.place == place

-- which of the tokens stands at the place
abbrev pub index_of : ℕ → List Token → Option ℕ
index_of place tokens = position (stands_at place) tokens

-- a name and a number as they are, a byte text by its word
abbrev pub token_text : Token → List ℕ
token_text token =
    if is (kind.Name ∷ []) token then token.bytes
    else if is (kind.Number ∷ []) token then decimal token.number
    else label token.kind

abbrev pub text_of_token : Option Token → List ℕ
text_of_token None = codes "the end"
text_of_token (Some token) = token_text token

abbrev pub token_told : List Token → ℕ → List ℕ
token_told tokens index = text_of_token (slice_get tokens index)

-- the token at the place, or the end
abbrev pub found_text : List Token → Option ℕ → List ℕ
found_text tokens None = codes "the end"
found_text tokens (Some index) = token_told tokens index

-- a byte that begins no token, where it is no letter by its number
abbrev pub byte_text : ℕ → List ℕ
byte_text byte = if nat_le 33 byte && nat_le byte 126 then byte ∷ [] else codes "byte " ++ decimal byte
