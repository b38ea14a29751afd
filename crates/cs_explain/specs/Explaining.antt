-- What is told of a fault behind its line.
use Rattle.std.specs.Prelude.{ℕ, ◌+◌, ◌-◌, ◌==◌, List, [], ◌∷◌, ◌++◌, length, take, drop, slice_index, slice_get, codes, Option, None, Some, if◌then◌else◌}
use Rattle.std.specs.Fmt.{decimal}
use Rattle.cs_lang_token.specs.declared.token.Token.{Token}
use Rattle.cs_lang_token.specs.declared.kind.Kind.{Kind}
use Rattle.cs_lang_token.specs.Tokens.{tokens_of}
use Rattle.cs_types.specs.declared.position.Position.{Position}
use Rattle.cs_types.specs.declared.fault.Fault.{Fault}
use Rattle.cs_types.specs.declared.fault.Fault.TheVariants.{TooLong, Lex, Syntax, Mistyped, Unbound, Cost}
use Rattle.cs_types.specs.Positions.{position_at}
use Rattle.cs_types.specs.Faults.{fault_text}
use Rattle.cs_explain.specs.declared.reasons.Reason.{Reason}
use Rattle.cs_explain.specs.declared.reasons.Reason.TheVariants as reason
use Rattle.cs_explain.specs.Found.{tokens_in, index_of, token_told, found_text, byte_text}
use Rattle.cs_explain.specs.Wanted.{wanted_at, kinds_text}
use Rattle.cs_explain.specs.Reasons.{reason_of}
use Rattle.cs_explain.specs.declared.comparing.Compared.{Compared}
use Rattle.cs_explain.specs.Standing.{tried_tokens, standing_at, literals_text}
use Rattle.cs_explain.specs.Comparing.{comparison, compared_in, compared_text}

-- ---- what can stand there

abbrev pub wanted_text : List Kind → List ℕ
wanted_text kinds = codes ", wanted " ++ kinds_text kinds

-- behind a byte that begins no token; where the tokens before it are no front either, nothing is told
abbrev pub wanted_if_any : List Kind → List ℕ
wanted_if_any [] = []
wanted_if_any (kind ∷ kinds) = wanted_text (kind ∷ kinds)

-- ---- a rule on kinds

abbrev pub token_place : Option Token → ℕ
token_place None = 0
token_place (Some token) = token.place

abbrev pub declared_text : Position → List ℕ
declared_text position = codes " is declared at " ++ (decimal position.line ++ (codes " " ++ decimal position.column))

-- what is told behind a token without looking further
abbrev pub fixed_text : Reason → List ℕ
fixed_text reason.Star = codes " has a star, and isn't the last of its part"
fixed_text reason.Limit = codes " is one too many, or its kind nests too deep"
fixed_text reason.InProcedures = codes " stands in procedures alone"
fixed_text reason.InChecks = codes " stands in checks alone"
fixed_text reason.Fields = codes " gives another number of fields than the type has"
fixed_text reason.Values = codes " has another number of values or names, or meets a star"
fixed_text reason.Turns = codes " has more than 1024 turns"
fixed_text reason.Unset = codes " can't be set"
fixed_text reason.Uncreated = codes " isn't created"
fixed_text reason.OtherType = codes " isn't the type of this slot"
fixed_text reason.Starred = codes " has a star, and stands for objects by their places, as in [0]"
fixed_text reason.Unstarred = codes " has no star, and so no places"
fixed_text reason.Object = codes " is an object, of which only the fields are values"
fixed_text other = []

-- the token of this number, and the kinds that can stand there
abbrev pub kinds_told : List ℕ → List Token → ℕ → List ℕ
kinds_told text tokens index =
    codes "found " ++ (token_told tokens index
    ++ literals_text (standing_at text (token_place (slice_get tokens index)) tokens index))

-- a list that is compared, or else the kinds that can stand there
abbrev pub kind_told : Option Compared → List ℕ → List Token → ℕ → List ℕ
kind_told None text tokens index = kinds_told text tokens index
kind_told (Some compared) text tokens index = compared_text compared

-- the list that begins with the token of this number, if it is one that is compared
abbrev pub compared_at : List ℕ → List Token → ℕ → Option Compared
compared_at text tokens index =
    compared_in text (token_place (slice_get tokens index)) (comparison (tried_tokens (drop (index + 1) tokens)))

abbrev pub reason_told : Reason → List ℕ → List Token → ℕ → List ℕ
reason_told (reason.Declared other) text tokens index =
    token_told tokens index ++ declared_text (position_at text (token_place (slice_get tokens other)))
reason_told reason.Kind text tokens index = kind_told (compared_at text tokens index) text tokens index
reason_told other text tokens index = token_told tokens index ++ fixed_text other

abbrev pub mistyped_text : List ℕ → List Token → Option ℕ → List ℕ
mistyped_text text tokens None = codes "the end"
mistyped_text text tokens (Some index) = reason_told (reason_of tokens index) text tokens index

-- ---- all faults

abbrev pub byte_told : List ℕ → ℕ → List ℕ
byte_told text place = codes "found " ++ (byte_text (slice_index text place) ++ wanted_if_any (wanted_at text place))

-- a quote that is none of a byte text has a sentence of its own
abbrev pub lex_text : List ℕ → ℕ → List ℕ
lex_text text place =
    if slice_index text place == 34 then codes "a byte text is x\"00ff\", with two small hex digits for each byte"
    else byte_told text place

abbrev pub syntax_text : List ℕ → List Token → ℕ → List ℕ
syntax_text text tokens place =
    codes "found " ++ (found_text tokens (index_of place tokens) ++ wanted_text (wanted_at text place))

-- what is told of a fault in these tokens
abbrev pub told_in : List ℕ → List Token → Fault → List ℕ
told_in text tokens TooLong = codes "a text has at most 65536 bytes"
told_in text tokens (Lex place) = lex_text text place
told_in text tokens (Syntax place) = syntax_text text tokens place
told_in text tokens (Mistyped place) = mistyped_text text tokens (index_of place tokens)
told_in text tokens (Unbound place) = found_text tokens (index_of place tokens)
told_in text tokens (Cost cost) = codes "a body costs at most 1000000"

-- what is told of a fault of a text
abbrev pub explanation : List ℕ → Fault → List ℕ
explanation text fault = told_in text (tokens_in (tokens_of text)) fault

-- without its last byte
abbrev pub without_last : List ℕ → List ℕ
without_last line = take (length line - 1) line

-- the fault's line, with the explanation behind a colon
unfoldable pub explained_text : List ℕ → Fault → List ℕ
explained_text text fault =
    without_last (fault_text text fault) ++ (codes ": " ++ (explanation text fault ++ 10 ∷ []))
